-- The history that a text tells, by its header and the lines after it.
use Rattle.std.proofs.Common.{◌≡◌, ◌≤◌, ◌-◌, ℕ, Bool, false, if◌then◌else◌, List, ◌∷◌, drop, length, nat_lt, Some, Option, Result, Ok, Err, sym, ◌∙◌, ap, subst, arith}
use Rattle.std.proofs.lemmas.Bool.Decides.{nat_tests}
use Rattle.crgc_ids.specs.declared.Which.TheVariants.{Input}
use Rattle.history_model.specs.Cluster.{Cluster}
use Rattle.history_model.specs.Story.{Story}
use Rattle.journal_model.specs.Journals.{Fault, Replay, after_header, after_lines, header_of, journal_lines, journal_of, limit, told_of}
use Rattle.journal_model.specs.Lines.{lines_of}
use Rattle.journal_player.specs.Faults.{IsPlayFault}
use Rattle.journal_player.specs.Following.{Following, start}
use Rattle.journal_player.specs.declared.fault.PlayFault.{PlayFault}
use Rattle.journal_player.specs.declared.fault.PlayFault.TheVariants.{Journal, Limit, NoMemory}

abbrev Told : Type 0
Told = Result Story (ℕ × Fault)

journal-short : (text : List ℕ) → length text ≤ 16777216 → journal_of text ≡ journal_lines (lines_of text)
journal-short text short =
    let test : nat_lt 16777216 (length text) ≡ false = grind (arith, nat_tests, short) in
    let choose : Bool → Told = λ b. if b then Err (0, limit Input) else journal_lines (lines_of text) in
    ap choose test

-- the lines after the first are those of the text after what was read of it
pub lines-left : (text all first rest : List ℕ) (n : ℕ) → n ≡ length text → all ≡ text → lines_of all ≡ first ∷ lines_of rest → rest ≡ drop (length all - length rest) all → lines_of text ≡ first ∷ lines_of (drop (n - length rest) text)
lines-left text all first rest n long same lines left =
    subst (λ (t : List ℕ). lines_of t ≡ first ∷ lines_of (drop (length t - length rest) t)) same (lines ∙ ap (λ (r : List ℕ). first ∷ lines_of r) left)
    ∙ ap (λ m. first ∷ lines_of (drop (m - length rest) text)) (sym long)

journal-begun : (text first : List ℕ) (rest : List (List ℕ)) (o : Option Cluster) → length text ≤ 16777216 → lines_of text ≡ first ∷ rest → header_of first ≡ o → journal_of text ≡ after_header o rest
journal-begun text first rest o short lines is = journal-short text short ∙ ap journal_lines lines ∙ ap (λ x. after_header x rest) is

-- what was begun is the cluster of the header, before the first event
pub record IsBegun (line : List ℕ) (from : Following) : Type 0 where
  pub cluster : header_of line ≡ Some from.cluster
  pub replay : from.replay ≡ start

pub begun-of : (line : List ℕ) (from : Following) (nodes version : ℕ) → header_of line ≡ Some (record { nodes = nodes; version = version }) → from.cluster.nodes ≡ nodes → from.cluster.version ≡ version → from.replay ≡ start → IsBegun line from
begun-of line from nodes version found same_nodes same_version replay =
    let same : (let c : Cluster = record { nodes = nodes; version = version } in c) ≡ from.cluster =
    λ i. record { nodes = sym same_nodes i; version = sym same_version i } in
    record { cluster = found ∙ ap Some same; replay = replay }

journal-from : (text first : List ℕ) (rest : List (List ℕ)) (from : Following) → length text ≤ 16777216 → lines_of text ≡ first ∷ rest → IsBegun first from → journal_of text ≡ told_of from.cluster (after_lines from.cluster 2 from.replay rest)
journal-from text first rest from short lines begun =
    journal-begun text first rest (Some from.cluster) short lines begun.cluster
    ∙ ap (λ (r : Replay). told_of from.cluster (after_lines from.cluster 2 r rest)) (sym begun.replay)

-- all lines were followed
pub journal-told : (text first : List ℕ) (rest : List (List ℕ)) (from to : Following) → length text ≤ 16777216 → lines_of text ≡ first ∷ rest → IsBegun first from → to.cluster ≡ from.cluster → after_lines from.cluster 2 from.replay rest ≡ Ok to.replay → journal_of text ≡ Ok (record { cluster = to.cluster; past = to.replay.past })
journal-told text first rest from to short lines begun cluster followed =
    journal-from text first rest from short lines begun ∙ ap (told_of from.cluster) followed
    ∙ ap (λ (c : Cluster). told_of c (Ok to.replay)) (sym cluster)

fault-kept : (cl : Cluster) (r : Result Replay (ℕ × Fault)) (f : PlayFault) → IsPlayFault f r → IsPlayFault f (told_of cl r)
fault-kept cl r (Journal line cause) is = ap (told_of cl) is
fault-kept cl r (Limit which) is = (is.0, ap (told_of cl) is.1)
fault-kept cl r NoMemory is = tt

-- a line was not followed
pub journal-faulty : (text first : List ℕ) (rest : List (List ℕ)) (from : Following) (f : PlayFault) → length text ≤ 16777216 → lines_of text ≡ first ∷ rest → IsBegun first from → IsPlayFault f (after_lines from.cluster 2 from.replay rest) → IsPlayFault f (journal_of text)
journal-faulty text first rest from f short lines begun fault =
    rw (journal-from text first rest from short lines begun) (fault-kept from.cluster (after_lines from.cluster 2 from.replay rest) f fault)
