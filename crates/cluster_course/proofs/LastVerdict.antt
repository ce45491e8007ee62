-- The lines of the last verdict.
use Rattle.std.proofs.Common.{◌≡◌, ◌≤◌, ◌<◌, ◌-◌, ℕ, true, false, List, [], ◌∷◌, length, take, map, get_or, reverse, slice_get, None, Some, refl, sym, ◌∙◌, ap, subst, arith}
use Rattle.std.proofs.lemmas.List.{get_or-reverse, get_or-take, length-reverse, length-take-le}
use Rattle.std.proofs.lemmas.List.FromFn.{fill_by_all}
use Rattle.std.proofs.lemmas.Option.{get_or_from_slice_get, none-some, slice_get_within, slice_get-get_or}
use Rattle.crgc_ids.specs.Nodes.{nodes_below}
use Rattle.history_model.specs.declared.events.Event.{Event}
use Rattle.history_model.specs.declared.events.Event.TheVariants.{Sweep}
use Rattle.history_model.specs.declared.records.Stop.{Stop}
use Rattle.history_model.specs.declared.records.Verdict.{Verdict}
use Rattle.history_model.specs.Cluster.{Cluster}
use Rattle.history_model.specs.Folds.{cut_at, folded, lost_of}
use Rattle.history_model.specs.Sweeps.{IsVerdict}
use Rattle.journal_model.specs.Lines.{cut_words, spell, stop_words}
use Rattle.journal_model.specs.Report.{verdict_lines}
use Rattle.cluster_course.specs.Course.{IsLastFirst}
use Rattle.cluster_course.specs.Due.{lines_made_due, lines_of_verdict}
use Rattle.cluster_course.specs.Telling.{ends_with_sweep}

cut-taken : (cl : Cluster) (m : ℕ) (p : List Event) (v : Verdict) → IsVerdict cl m p v → cl.nodes ≤ length v.cut → take cl.nodes v.cut ≡ map (cut_at cl m p) (nodes_below cl.nodes)
cut-taken cl m p v is within =
    fill_by_all (cut_at cl m p) (take cl.nodes v.cut) cl.nodes 0 (length-take-le cl.nodes v.cut within)
    (λ k below. get_or-take cl.nodes v.cut k 0 below ∙ is.cut k below)

-- the lines of a verdict are those that its sweep makes due
verdict-due : (cl : Cluster) (m : ℕ) (p : List Event) (v : Verdict) → IsVerdict cl m p v → cl.nodes ≤ length v.cut → verdict_lines cl m p ≡ lines_of_verdict cl.nodes v
verdict-due cl m p v is within =
    let lines : ℕ → List ℕ → List ℕ → List Stop → List (List ℕ) = λ n cut lost stops. spell (cut_words n cut lost) ∷ map (λ s. spell (stop_words n s)) stops in
    sym
    (ap (λ n. lines n (take cl.nodes v.cut) v.lost v.stops) is.node ∙ ap (λ cut. lines m cut v.lost v.stops) (cut-taken cl m p v is within)
    ∙ ap (λ lost. lines m (map (cut_at cl m p) (nodes_below cl.nodes)) lost v.stops) is.lost
    ∙ ap (λ stops. lines m (map (cut_at cl m p) (nodes_below cl.nodes)) (lost_of cl (folded cl m p)) stops) is.stops)

-- the last verdict is that of a sweep that is the last event
pub last-made_due : (cl : Cluster) (h : List Event) (rs : List Verdict) (v : Verdict) → IsLastFirst cl h rs → ends_with_sweep h ≡ true → slice_get rs 0 ≡ Some v → cl.nodes ≤ length v.cut → lines_made_due cl h ≡ lines_of_verdict cl.nodes v
last-made_due cl [] rs v is swept verdict within = absurd (cc)
last-made_due cl (Sweep m ∷ p) [] v is swept verdict within = absurd is
last-made_due cl (Sweep m ∷ p) (w ∷ rs) v is swept verdict within =
    let same : w ≡ v = cc in
    verdict-due cl m p v (subst (IsVerdict cl m p) same is) within
last-made_due cl (_ ∷ p) rs v is swept verdict within = absurd (cc)

-- where the last event is no sweep, no line is due
pub none-made_due : (cl : Cluster) (h : List Event) → ends_with_sweep h ≡ false → lines_made_due cl h ≡ []
none-made_due cl [] other = refl
none-made_due cl (Sweep m ∷ p) other = absurd (cc)
none-made_due cl (_ ∷ p) other = refl

-- nor where there is no verdict
pub none-found : (cl : Cluster) (h : List Event) → IsLastFirst cl h [] → lines_made_due cl h ≡ []
none-found cl [] is = refl
none-found cl (Sweep m ∷ p) is = absurd is
none-found cl (_ ∷ p) is = refl

-- some things that have no last one are none
pub none-last : {X : Type 0} (xs : List X) → slice_get xs (length xs - 1) ≡ None → xs ≡ []
none-last [] is = refl
none-last (x ∷ xs) is =
    let last = length (x ∷ xs) - 1 in
    absurd (none-some (get_or (x ∷ xs) last x) (sym is ∙ slice_get-get_or (x ∷ xs) last x (omega arith)))

-- the last of some things is the first of them in reverse
pub first-reversed : {X : Type 0} (xs : List X) (x : X) → slice_get xs (length xs - 1) ≡ Some x → slice_get (reverse xs) 0 ≡ Some x
first-reversed xs x is =
    let within = slice_get_within xs (length xs - 1) x is in
    let some : 0 < length xs = omega (arith, within) in
    let place : length xs - 1 - 0 ≡ length xs - 1 = omega arith in
    slice_get-get_or (reverse xs) 0 x (omega (arith, some, length-reverse xs))
    ∙ ap Some (get_or-reverse xs 0 x some ∙ ap (λ k. get_or xs k x) place ∙ get_or_from_slice_get xs (length xs - 1) x x is)
