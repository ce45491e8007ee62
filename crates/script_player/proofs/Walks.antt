-- A walk over the links, on which what they have is carried.
use Rattle.std.proofs.Common.{◌≡◌, ◌≢◌, ◌<◌, ◌≤◌, ℕ, ◌∷◌, length, Some, sym, ◌∙◌, ap, subst, arith, inl, inr}
use Rattle.traffic.specs.Readings.{IsHead}
use Rattle.run_model.specs.Planned.{carry}
use Rattle.script_player.specs.declared.driver.Driver.{Driver}
use Rattle.script_player.specs.Links.{AreStillBefore}
use Rattle.script_player.specs.Making.{IsCarriedNext, NothingCarried}
use Rattle.script_player.specs.Standing.{IsBetween, StandsAt}
use Rattle.script_player.proofs.Carries.{first-carried, none-carried, still-kept}
use Rattle.script_player.proofs.Ranges.{between-legal}
use Rattle.script_player.proofs.Schedules.{one-carried}
use Rattle.script_player.proofs.Standings.{between-next}

-- d0 has come to the link from f to t, before which nothing can be carried, as d
abbrev pub IsWalkAt : Driver → ℕ → ℕ → Driver → Type 0
IsWalkAt d0 f t d =
    IsBetween d × (d.script.value ≡ d0.script.value) × (d.nodes ≡ d0.nodes) × AreStillBefore d.nodes f t d.course.past
    × (length d0.course.past ≤ length d.course.past)

-- the head of the link is carried next
pub walk-next : (d0 d : Driver) (f t k : ℕ) → IsWalkAt d0 f t d → f < d0.nodes → t < d0.nodes → f ≢ t → IsHead f t d.course.past (Some k)
    → IsCarriedNext d.script.value (carry d.script.value f t k d.course.past) d.course.past
walk-next d0 d f t k walk source at apart head =
    let nodes = walk.0.0.nodes in
    let same = walk.2 in
    first-carried d.script.value d.course.past (between-legal d walk.0) f t k (omega (arith, source, nodes, same)) (omega (arith, at, nodes, same)) apart head
    (subst (λ n. AreStillBefore n f t d.course.past) nodes walk.3)

-- and the walk goes on from there
pub walk-carried : (d0 d d' : Driver) (f t k : ℕ) → IsWalkAt d0 f t d → IsCarriedNext d.script.value (carry d.script.value f t k d.course.past) d.course.past
    → d'.script.value ≡ d.script.value → d'.nodes ≡ d.nodes → StandsAt (carry d.script.value f t k d.course.past ∷ d.course.past) d' → IsWalkAt d0 f t d'
walk-carried d0 d d' f t k walk next script nodes made =
    let s = d.script.value in
    let h = d.course.past in
    let e = carry s f t k h in
    let still = still-kept s d.nodes f t k h h walk.3 in
    let more = ap length made.1 in
    let before = walk.4 in (
      between-next d d' (e ∷ h) walk.0.1 (one-carried s h e next) script made,
      script ∙ walk.1,
      nodes ∙ walk.2,
      subst (λ x. AreStillBefore d'.nodes f t x) (sym made.1) (subst (λ n. AreStillBefore n f t (e ∷ h)) (sym nodes) still),
      omega (arith, more, before),
    )

-- past the last link nothing can be carried
pub walk-done : (d0 d : Driver) (n : ℕ) → IsWalkAt d0 n 0 d → d0.nodes ≤ n → NothingCarried d.script.value d.course.past
walk-done d0 d n walk all =
    let nodes = walk.0.0.nodes in
    none-carried d.script.value d.course.past
    (subst (λ m. AreStillBefore m m 0 d.course.past) nodes still)
  where
    still : AreStillBefore d.nodes d.nodes 0 d.course.past
    still f t (inl less) small apart = (let same = walk.2 in walk.3 f t (inl (omega (arith, less, same, all))) small apart)
    still f t (inr (same, less)) small apart = absurd (omega (arith, less))
