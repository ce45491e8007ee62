use Rattle.std.proofs.Common.{ap, arith}
use Rattle.link_table.specs.Piled.{copies_in}
use Rattle.traffic.proofs.FittingCounts.{copies-few, gate-fits, pile-few, sent-short}
use Rattle.traffic.proofs.FittingWaits.{live-bound}
use Rattle.traffic.specs.TrafficState.{link_of}
use Rattle.traffic.proofs.laws.small_histories_fit.Goals as goal

pub returns-clause-sent : goal.returns-clause-sent
returns-clause-sent c = λ cl h t small stands s d link.
    (let stamped = (stands.links s d link).stamped in let short = sent-short s d h in let few = small.0 in omega arith)

pub returns-clause-live : goal.returns-clause-live
returns-clause-live c = λ cl h t small legal stands n.
    (let live = stands.live n in let most = live-bound cl h legal n in let few = small.0 in omega arith)

pub returns-clause-copies : goal.returns-clause-copies
returns-clause-copies c = λ cl h t small stands s d k link.
    (let piled = ap copies_in ((stands.links s d link).piled k) in let here = pile-few s d k h in let most = copies-few s d k h in let few = small.0 in omega arith)

pub returns-clause-gates : goal.returns-clause-gates
returns-clause-gates c = λ cl h t small stands s d k link. gate-fits s d k h (link_of t s d) small (stands.links s d link)
