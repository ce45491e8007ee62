use Rattle.std.proofs.Common.{refl, subst, sym}
use Rattle.history_model.specs.Ledgers.{window_ledger}
use Rattle.history_model.specs.Tells.{IsLedgerOf, admitted_since}
use Rattle.history_model.proofs.TellsWindows.{window-messages, window-tells}
use Rattle.bulletin_streams.proofs.laws.a_window_tells_its_link.Goals as goal

pub returns : goal.returns
returns c = λ p w counts. (refl, refl, subst (λ facts. IsLedgerOf facts (window_ledger w)) (sym (window-messages w.from w.at p)) (window-tells w (admitted_since w.from w.at p) counts))
