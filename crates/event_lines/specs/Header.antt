-- What the words of a header say.
use Rattle.std.specs.Prelude.{ℕ, ◌==◌, ◌||◌, codes, if◌then◌else◌, List, drop, Option, Some, None, option_and_then}
use Rattle.journal_model.specs.Fields.{first_name, first_number, nothing_left}

-- the numbers of nodes and of the version, where both are in range
abbrev pub header_numbers : List (List ℕ) → Option (ℕ × ℕ)
header_numbers words =
    option_and_then
    (λ _. option_and_then
    (λ v. option_and_then
    (λ _. option_and_then
    (λ n. option_and_then
    (λ _. if n == 0 || v == 0 then None else Some (n, v))
    (nothing_left (drop 1 (drop 1 (drop 1 (drop 1 words))))))
    (first_number 17 (drop 1 (drop 1 (drop 1 words)))))
    (first_name (codes "nodes") (drop 1 (drop 1 words))))
    (first_number 3 (drop 1 words)))
    (first_name (codes "crgc") words)
