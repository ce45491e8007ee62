-- No flag is set beyond the words.
use Rattle.std.proofs.Common.{◌≡◌, ◌≤◌, ◌/◌, ◌%◌, ℕ, false, List, length, ◌∙◌, ap}
use Rattle.std.proofs.lemmas.List.{get_or_past}
use Rattle.ready_actors.specs.Flags.{has_flag, has_one}
use Rattle.ready_actors.proofs.WordLemmas.{zero-one}

pub flag-beyond : (words : List ℕ) (k : ℕ) → length words ≤ k / 64 → has_flag words k ≡ false
flag-beyond words k far = ap (λ (w : ℕ). has_one w (k % 64)) (get_or_past words (k / 64) 0 far) ∙ zero-one (k % 64)
