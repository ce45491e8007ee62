-- What follows the lines of a journal, from any of them on.
use Rattle.std.proofs.Common.{◌≡◌, ◌+◌, ℕ, List, ◌∷◌, Result, Ok, sym, ◌∙◌, ap}
use Rattle.history_model.specs.Cluster.{Cluster}
use Rattle.journal_model.specs.Journals.{Fault, Replay, after_line, after_lines, at_line}
use Rattle.journal_player.specs.Faults.{IsHalt, IsPlayFault, fault_at}
use Rattle.journal_player.specs.Following.{Following}
use Rattle.journal_player.specs.declared.fault.Halt.{Halt}
use Rattle.journal_player.specs.declared.fault.Halt.TheVariants as halts

-- what follows all lines, of which the first is line m, is what follows those that are left, of which the first is line n
pub record GoesOn (from : Following) (m : ℕ) (all : List (List ℕ)) (now : Following) (n : ℕ) (left : List (List ℕ)) : Type 0 where
  pub cluster : now.cluster ≡ from.cluster
  pub same : after_lines from.cluster m from.replay all ≡ after_lines from.cluster n now.replay left

-- with the next line it goes on
pub goes-on : (from now next : Following) (m : ℕ) (all left rest : List (List ℕ)) (n : ℕ) (line : List ℕ) → GoesOn from m all now n left → left ≡ line ∷ rest → next.cluster ≡ now.cluster → after_line now.cluster now.replay line ≡ Ok next.replay → GoesOn from m all next (n + 1) rest
goes-on from now next m all left rest n line before first cluster followed =
    let more : Result Replay Fault → Result Replay (ℕ × Fault) = λ r. at_line n r (λ r'. after_lines from.cluster (n + 1) r' rest) in
    let here : after_line from.cluster now.replay line ≡ Ok next.replay =
    sym (ap (λ (c : Cluster). after_line c now.replay line) before.cluster) ∙ followed in
    record {
      cluster = cluster ∙ before.cluster;
      same = before.same ∙ ap (λ (ls : List (List ℕ)). after_lines from.cluster n now.replay ls) first ∙ ap more here;
    }

-- a halt at line n is the fault of it
halt-told : (h : Halt) (n : ℕ) (r : Result Replay Fault) (more : Replay → Result Replay (ℕ × Fault)) → IsHalt h r → IsPlayFault (fault_at n h) (at_line n r more)
halt-told (halts.Cause cause) n r more is = ap (λ x. at_line n x more) is
halt-told (halts.Limit which) n r more is = (n, ap (λ x. at_line n x more) is)
halt-told halts.NoMemory n r more is = tt

-- a halt at the next line is the first fault of all lines
pub halts-there : (from now : Following) (m : ℕ) (all left rest : List (List ℕ)) (n : ℕ) (line : List ℕ) (h : Halt) → GoesOn from m all now n left → left ≡ line ∷ rest → IsHalt h (after_line now.cluster now.replay line) → IsPlayFault (fault_at n h) (after_lines from.cluster m from.replay all)
halts-there from now m all left rest n line h before first halt =
    let told = halt-told h n (after_line now.cluster now.replay line) (λ r. after_lines from.cluster (n + 1) r rest) halt in
    let same : after_lines from.cluster m from.replay all ≡ at_line n (after_line now.cluster now.replay line) (λ r. after_lines from.cluster (n + 1) r rest) =
    before.same ∙ ap (λ (ls : List (List ℕ)). after_lines from.cluster n now.replay ls) first
    ∙ sym (ap (λ (c : Cluster). at_line n (after_line c now.replay line) (λ r. after_lines from.cluster (n + 1) r rest)) before.cluster) in
    rw same told
