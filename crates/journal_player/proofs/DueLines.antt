-- The lines that are due.
use Rattle.std.proofs.Common.{◌≡◌, ◌<◌, ◌+◌, ℕ, suc, List, ◌∷◌, [], length, drop, map, get_or, slice_get, MatchOption, Some, Option, option_map, sym, ◌∙◌, ap, inl, inr}
use Rattle.std.proofs.Math.Seq.{drop-cons}
use Rattle.std.proofs.lemmas.Bool.{cases_lt}
use Rattle.std.proofs.lemmas.List.{drop_all, drop-drop}
use Rattle.std.proofs.lemmas.Option.{slice_get_past, slice_get-get_or, slice_get-map}
use Rattle.history_model.specs.declared.records.Stop.{Stop}
use Rattle.history_model.specs.declared.records.Verdict.{Verdict}
use Rattle.journal_model.specs.Lines.{spell, stop_words}
use Rattle.cluster_course.specs.Due.{lines_of_verdict}

-- the first line after some of them, if there is one
pub due-first : (lines : List (List ℕ)) (told : ℕ) (line : Option (List ℕ)) → line ≡ slice_get lines told → MatchOption line (drop told lines ≡ []) (λ bytes. drop told lines ≡ bytes ∷ drop 1 (drop told lines))
due-first lines told line is =
    elim (cases_lt told (length lines)) [
      | inl within ↦ (
          let first = drop-cons lines told [] within in
          rw (is ∙ slice_get-get_or lines told [] within) (first ∙ ap (λ (x : List (List ℕ)). get_or lines told [] ∷ drop 1 x) (sym first)))
      | inr past ↦ rw (is ∙ slice_get_past lines told past) (drop_all told lines past)
    ]

-- with one more line read, the next one is due
pub due-next : (lines : List (List ℕ)) (told : ℕ) (first : List ℕ) (later : List (List ℕ)) → drop told lines ≡ first ∷ later → drop (told + 1) lines ≡ later
due-next lines told first later is = sym (drop-drop 1 told lines) ∙ ap (drop 1) is

-- the line of the k-th stop
pub stop-line : (nodes : ℕ) (v : Verdict) (k : ℕ) (s : Stop) → k < length v.stops → s ≡ get_or v.stops k s → Some (spell (stop_words v.node s)) ≡ slice_get (lines_of_verdict nodes v) (suc k)
stop-line nodes v k s within is =
    let f : Stop → List ℕ = λ x. spell (stop_words v.node x) in
    let rest : slice_get (map f v.stops) k ≡ Some (f s) =
    slice_get-map f v.stops k ∙ ap (option_map f) (slice_get-get_or v.stops k s within) ∙ ap (λ x. Some (f x)) (sym is) in
    sym rest
