-- The first limit that the fixed schedule passes is one limit, at one place.
use Rattle.std.proofs.Common.{◌≡◌, ◌≤◌, ◌==◌, ◌%◌, ◌&&◌, ℕ, zero, suc, Bool, true, false, nat_lt, List, [], ◌∷◌, ◌++◌, append_assoc, Option, Some, None, refl, sym, ◌∙◌, ap, subst, arith, inl, inr, ◌⊎◌}
use Rattle.std.specs.List.{find}
use Rattle.std.specs.Option.{option_map}
use Rattle.std.proofs.lemmas.Bool.{cases_lt}
use Rattle.std.proofs.lemmas.Option.{none-some, same_Some}
use Rattle.crgc_ids.specs.Actor.{Actor}
use Rattle.crgc_ids.specs.declared.Which.{Which}
use Rattle.history_model.specs.declared.events.Event.{Event}
use Rattle.history_model.specs.declared.events.Event.TheVariants.{Wake, Take, Rest, Crash}
use Rattle.history_model.specs.Cluster.{Cluster}
use Rattle.history_model.specs.Rows.{onto}
use Rattle.journal_model.specs.Limits.{limit_passed}
use Rattle.script_reader.specs.Valid.{Scripted}
use Rattle.run_model.specs.Doing.{cluster_of, doing}
use Rattle.run_model.specs.Planned.{is_within_budget, wakes_left, actors, is_possible}
use Rattle.run_model.specs.Round.{round}
use Rattle.run_model.specs.Schedule.{IsDone, IsFirstLimit, IsFixed, IsWithinLimits, Makes, acts_of_turn, carries, crashed, next_turn, one_more, rounded, schedule, stays, turn_done, whole_turn, woken_turn}
use Rattle.run_model.specs.declared.run_laws.TheConstants.{TURNS_PER_ROUND}
use Rattle.run_model.proofs.RoundQuiet.{round-more}
use Rattle.run_model.proofs.Scheduled.{done-stays}
use Rattle.run_model.proofs.TurnsDone.{act_events}

-- ---- longer histories

-- h is p with later events
abbrev pub IsLonger : List Event → List Event → Type 0
IsLonger p h = (q : List Event) × (h ≡ q ++ p)

longer-more : (p h : List Event) (e : Event) → IsLonger (e ∷ p) h → IsLonger p h
longer-more p h e longer = (longer.0 ++ e ∷ [], longer.1 ∙ sym (append_assoc longer.0 (e ∷ []) p))

pub longer-again : (p h g : List Event) → IsLonger p h → IsLonger h g → IsLonger p g
longer-again p h g first second = (second.0 ++ first.0, second.1 ∙ ap (λ x. second.0 ++ x) first.1 ∙ sym (append_assoc second.0 first.0 p))

pub onto-longer : (h es : List Event) → IsLonger h (onto h es)
onto-longer h [] = ([], refl)
onto-longer h (e ∷ es) = longer-more h (onto (e ∷ h) es) e (onto-longer (e ∷ h) es)

round-longer : (cl : Cluster) (h : List Event) → IsLonger h (round cl h)
round-longer cl h = (let more = round-more cl h in (more.0, more.1))

module _ (s : Scripted) where
  ended-longer : (due : Option ℕ) (turns : ℕ) (h : List Event) → IsLonger h (rounded s turns (crashed due h))
  ended-longer due turns h =
      let after_crash : IsLonger h (crashed due h) = elim due as (λ v. IsLonger h (crashed v h)) [ None ↦ ([], refl) | Some n ↦ (Crash n ∷ [], refl) ] in
      elim (turns % TURNS_PER_ROUND == 0) as (λ v. IsLonger h (elim v as (λ _. List Event) [ true ↦ round (cluster_of s) (crashed due h) | false ↦ crashed due h ])) [
        | true ↦ longer-again h (crashed due h) (round (cluster_of s) (crashed due h)) after_crash (round-longer (cluster_of s) (crashed due h))
        | false ↦ after_crash
      ]

  whole-longer : (a : Actor) (e : Event) (h : List Event) → IsLonger h (whole_turn s a (e ∷ h))
  whole-longer a e h =
      longer-more h (whole_turn s a (e ∷ h)) e
      (longer-again (e ∷ h) (turn_done s a (e ∷ h)) (whole_turn s a (e ∷ h))
      (let d = doing s a (e ∷ h) in let acts = onto-longer (e ∷ h) (act_events a (acts_of_turn a d.turn (e ∷ h))) in (Rest a ∷ acts.0, ap (λ x. Rest a ∷ x) acts.1)) (ended-longer _ _ (turn_done s a (e ∷ h))))

  more-longer : (h : List Event) → IsLonger h (stays (one_more s h) h)
  more-longer h =
      let within = λ (v : Bool). elim v as (λ _. Option (List Event)) [ true ↦ next_turn s h | false ↦ None ] in
      let woken : IsLonger h (stays (woken_turn s h) h) = elim (find (λ a. nat_lt 0 (wakes_left s a h) && is_possible s (Wake a) h) (actors s h)) as (λ v. IsLonger h (stays (option_map (λ a. whole_turn s a (Wake a ∷ h)) v) h)) [
        | None ↦ ([], refl)
        | Some a ↦ whole-longer a (Wake a) h
      ] in
      let turn : IsLonger h (stays (next_turn s h) h) = elim (find (λ a. is_possible s (Take a) h) (actors s h)) as (λ v. IsLonger h (stays (elim v as (λ _. Option (List Event)) [ Some a ↦ Some (whole_turn s a (Take a ∷ h)) | None ↦ woken_turn s h ]) h)) [
        | None ↦ woken
        | Some a ↦ whole-longer a (Take a) h
      ] in
      elim (find (λ e. is_possible s e h) (carries s h)) as (λ v. IsLonger h (stays (elim v as (λ _. Option (List Event)) [ Some e ↦ Some (e ∷ h) | None ↦ within (is_within_budget s h) ]) h)) [
        | None ↦ elim (is_within_budget s h) as (λ v. IsLonger h (stays (within v) h)) [ true ↦ turn | false ↦ ([], refl) ]
        | Some e ↦ (e ∷ [], refl)
      ]

  -- the schedule only adds
  schedule-longer : (k m : ℕ) → k ≤ m → IsLonger (schedule s k) (schedule s m)
  schedule-longer k zero le = (let same : k ≡ zero = omega (arith, le) in ([], ap (schedule s) (sym same)))
  schedule-longer k (suc m) le =
      elim (cases_lt m k) [
        | inl last ↦ (let same : k ≡ suc m = omega (arith, le, last) in ([], ap (schedule s) (sym same)))
        | inr before ↦ longer-again (schedule s k) (schedule s m) (schedule s (suc m)) (schedule-longer k m before) (more-longer (schedule s m))
      ]

  -- up to where nothing is possible any more
  done-longer : (k m : ℕ) → IsDone s m → IsLonger (schedule s k) (schedule s m)
  done-longer k m done =
      elim (cases_lt m k) [
        | inl less ↦ ([], sym (done-stays s m k (omega (arith, less)) done))
        | inr more ↦ schedule-longer k m more
      ]

  -- where nothing is possible any more is one place
  ends-same : (k m : ℕ) → IsDone s k → IsDone s m → schedule s k ≡ schedule s m
  ends-same k m one other = elim (cases_lt k m) [
    | inl less ↦ sym (done-stays s k m (omega (arith, less)) one)
    | inr more ↦ done-stays s m k more other
  ]

-- ---- the first limit

-- two places in one history: they are the same, or one stands before the other
abbrev AreOrdered : Event → List Event → Event → List Event → Type 0
AreOrdered e p f q = ((e ≡ f) × (p ≡ q)) ⊎ (IsLonger (f ∷ q) p ⊎ IsLonger (e ∷ p) q)

ordered : (l m : List Event) (e f : Event) (p q : List Event) → l ++ e ∷ p ≡ m ++ f ∷ q → AreOrdered e p f q
ordered [] [] e f p q same = inl (cc, cc)
ordered [] (z ∷ m) e f p q same = inr (inl (m, cc))
ordered (z ∷ l) [] e f p q same = inr (inr (l, cc))
ordered (y ∷ l) (z ∷ m) e f p q same = ordered l m e f p q cc

-- an event that is in a history within the limits passes none
limit-within : (cl : Cluster) (l : List Event) (e : Event) (p : List Event) → IsWithinLimits cl (l ++ e ∷ p) → limit_passed cl e p ≡ None
limit-within cl [] e p within = within.0
limit-within cl (x ∷ l) e p within = limit-within cl l e p within.1

longer-within : (cl : Cluster) (e : Event) (p h : List Event) → IsLonger (e ∷ p) h → IsWithinLimits cl h → limit_passed cl e p ≡ None
longer-within cl e p h longer within = limit-within cl longer.0 e p (subst (IsWithinLimits cl) longer.1 within)

module _ (s : Scripted) where
  -- the history in which an event of the schedule stands, and how it stands to any other
  made-in : (e f : Event) (p q : List Event) → Makes s e p → Makes s f q → (h : List Event) × IsLonger (e ∷ p) h × IsLonger (f ∷ q) h
  made-in e f p q (k, l, inl there) (m, r, inl here) =
      elim (cases_lt k m) [
        | inl less ↦ (schedule s m, longer-again (e ∷ p) (schedule s k) (schedule s m) (l, there) (schedule-longer s k m (omega (arith, less))), (r, here))
        | inr more ↦ (schedule s k, (l, there), longer-again (f ∷ q) (schedule s m) (schedule s k) (r, here) (schedule-longer s m k more))
      ]
  made-in e f p q (k, l, inl there) (m, r, inr closed) = (
    round (cluster_of s) (schedule s m),
    longer-again (e ∷ p) (schedule s k) (round (cluster_of s) (schedule s m)) (l, there)
        (longer-again (schedule s k) (schedule s m) (round (cluster_of s) (schedule s m)) (done-longer s k m closed.0) (round-longer (cluster_of s) (schedule s m))),
    (r, closed.1),
  )
  made-in e f p q (k, l, inr closed) (m, r, inl here) = (
    round (cluster_of s) (schedule s k),
    (l, closed.1),
    longer-again (f ∷ q) (schedule s m) (round (cluster_of s) (schedule s k)) (r, here)
        (longer-again (schedule s m) (schedule s k) (round (cluster_of s) (schedule s k)) (done-longer s m k closed.0) (round-longer (cluster_of s) (schedule s k))),
  )
  made-in e f p q (k, l, inr closed) (m, r, inr other) =
      (round (cluster_of s) (schedule s k), (l, closed.1), (r, ap (round (cluster_of s)) (ends-same s k m closed.0 other.0) ∙ other.1))

  pub first-unique : (p q : List Event) (w v : Which) → IsFirstLimit s p w → IsFirstLimit s q v → (p ≡ q) × (w ≡ v)
  first-unique p q w v (e, made, within, passes) (f, makes, inside, passed) =
      let both = made-in e f p q made makes in
      elim (ordered both.1.0 both.2.0 e f p q (sym both.1.1 ∙ both.2.1)) [
        | inl same ↦ (same.1, same_Some w v (sym passes ∙ ap (λ x. limit_passed (cluster_of s) x p) same.0 ∙ ap (limit_passed (cluster_of s) f) same.1 ∙ passed))
        | inr apart ↦ elim apart [
          | inl before ↦ absurd (none-some v (sym (longer-within (cluster_of s) f q p before within) ∙ passed))
          | inr after ↦ absurd (none-some w (sym (longer-within (cluster_of s) e p q after inside) ∙ passes))
        ]
      ]

  -- a fixed history within the limits passes none of them on the way
  pub fixed-within : (h p : List Event) (w : Which) → IsFixed s h → IsWithinLimits (cluster_of s) h → IsFirstLimit s p w → ⊥
  fixed-within h p w (k, done, same) within (e, made, _, passes) =
      let cl = cluster_of s in
      let end = round cl (schedule s k) in
      let all = subst (IsWithinLimits cl) same within in
      none-some w (sym (longer-within cl e p end (in-end made) all) ∙ passes)
    where
      in-end : Makes s e p → IsLonger (e ∷ p) (round (cluster_of s) (schedule s k))
      in-end (m, l, inl there) = longer-again (e ∷ p) (schedule s m) _ (l, there) (longer-again (schedule s m) (schedule s k) _ (done-longer s m k done) (round-longer (cluster_of s) (schedule s k)))
      in-end (m, l, inr closed) = (l, ap (round (cluster_of s)) (ends-same s k m done closed.0) ∙ closed.1)
