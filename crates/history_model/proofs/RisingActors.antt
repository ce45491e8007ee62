-- The rising list of given actors, each once: its members, its order, and how long it is.
use Rattle.std.proofs.Common.{◌≡◌, ◌+◌, ◌||◌, ◌↔◌, ◌⊎◌, suc, Bool, true, false, cond, List, [], ◌∷◌, length, refl, sym, ◌∙◌, ap, subst, inl, inr, arith}
use Rattle.std.proofs.lemmas.Bool.{cond_both, false≢true, false_from_ne_true}
use Rattle.std.proofs.lemmas.Bool.Decides.{same_from_decides}
use Rattle.std.specs.Bool.{Decides}
use Rattle.std.specs.List.{AllByRecursion, list_any}
use Rattle.crgc_ids.specs.Actor.{Actor, IsActorBelow, is_actor_below, same_actor}
use Rattle.crgc_ids.specs.Members.{IsAmong, IsPart}
use Rattle.crgc_ids.specs.Rising.{IsRising}
use Rattle.crgc_ids.proofs.ActorLaws.{IsActorBelow-apart, IsActorBelow-trans, actor_cases, is_actor_below-decides, same_actor-decides}
use Rattle.crgc_ids.proofs.MembersLaws.{all-member, list_any-member, list_any-true}
use Rattle.crgc_ids.proofs.RisingLaws.{rising-same}
use Rattle.history_model.specs.Graph.{insert_actor, rising_actors}
use Rattle.history_model.proofs.Basics.{same_actor-equal, same_actor-refl}

-- ---- members

insert-among : (a b : Actor) (xs : List Actor) → IsAmong a (insert_actor b xs) → (a ≡ b) ⊎ IsAmong a xs
insert-among a b [] h = h
insert-among a b (c ∷ cs) h =
    let Kept : Type 0 = (a ≡ b) ⊎ IsAmong a (c ∷ cs) in
    let later : IsAmong a (c ∷ insert_actor b cs) → Kept =
    λ k. elim k [ inl e ↦ inr (inl e) | inr m ↦ elim (insert-among a b cs m) [ inl e ↦ inl e | inr n ↦ inr (inr n) ] ] in
    let below : IsAmong a (cond (is_actor_below b c) (b ∷ c ∷ cs) (c ∷ insert_actor b cs)) → Kept =
    elim (is_actor_below b c) as (λ v. IsAmong a (cond v (b ∷ c ∷ cs) (c ∷ insert_actor b cs)) → Kept) [ true ↦ λ k. k | false ↦ later ] in
    (elim (same_actor b c) as (λ v. IsAmong a (cond v (c ∷ cs) (cond (is_actor_below b c) (b ∷ c ∷ cs) (c ∷ insert_actor b cs))) → Kept) [
      | true ↦ λ k. inr k
      | false ↦ below
    ]) h

insert-keeps : (a b : Actor) (xs : List Actor) → (a ≡ b) ⊎ IsAmong a xs → IsAmong a (insert_actor b xs)
insert-keeps a b [] h = h
insert-keeps a b (c ∷ cs) h =
    let later : IsAmong a (c ∷ insert_actor b cs) =
    elim h [ inl e ↦ inr (insert-keeps a b cs (inl e)) | inr k ↦ elim k [ inl e ↦ inl e | inr m ↦ inr (insert-keeps a b cs (inr m)) ] ] in
    let below : IsAmong a (cond (is_actor_below b c) (b ∷ c ∷ cs) (c ∷ insert_actor b cs)) =
    elim (is_actor_below b c) as (λ v. IsAmong a (cond v (b ∷ c ∷ cs) (c ∷ insert_actor b cs))) [ true ↦ h | false ↦ later ] in
    let Kept : Bool → Type 0 = λ v. same_actor b c ≡ v → IsAmong a (cond v (c ∷ cs) (cond (is_actor_below b c) (b ∷ c ∷ cs) (c ∷ insert_actor b cs))) in
    let kept : Kept (same_actor b c) = elim (same_actor b c) as Kept [
      | true ↦ λ t. elim h [ inl e ↦ inl (e ∙ same_actor-equal b c t) | inr k ↦ k ]
      | false ↦ λ _. below
    ] in
    kept refl

pub rising-among : (a : Actor) (xs : List Actor) → IsAmong a (rising_actors xs) ↔ IsAmong a xs
rising-among a [] = (λ h. h, λ h. h)
rising-among a (b ∷ bs) = (
  λ h. elim (insert-among a b (rising_actors bs) h) [ inl e ↦ inl e | inr k ↦ inr ((rising-among a bs).0 k) ],
  λ h. insert-keeps a b (rising_actors bs) (elim h [ inl e ↦ inl e | inr k ↦ inr ((rising-among a bs).1 k) ]),
)

-- ---- order

-- what is above b is above whatever is below b
all-above : (a b : Actor) (xs : List Actor) → IsActorBelow a b → AllByRecursion (IsActorBelow b) xs → AllByRecursion (IsActorBelow a) xs
all-above a b [] below all = tt
all-above a b (x ∷ xs) below all = (IsActorBelow-trans a b x below all.0, all-above a b xs below all.1)

-- a list above b is so with an actor above b put in
insert-above : (b a : Actor) (xs : List Actor) → IsActorBelow b a → AllByRecursion (IsActorBelow b) xs → AllByRecursion (IsActorBelow b) (insert_actor a xs)
insert-above b a [] below all = (below, tt)
insert-above b a (x ∷ xs) below all =
    cond_both (same_actor a x) (x ∷ xs) (cond (is_actor_below a x) (a ∷ x ∷ xs) (x ∷ insert_actor a xs)) (AllByRecursion (IsActorBelow b))
    (λ _. all)
    (λ _. cond_both (is_actor_below a x) (a ∷ x ∷ xs) (x ∷ insert_actor a xs) (AllByRecursion (IsActorBelow b))
    (λ _. (below, all)) (λ _. (all.0, insert-above b a xs below all.1)))

-- an actor that is neither another one nor below it is above it
others-above : (a b : Actor) → same_actor a b ≡ false → is_actor_below a b ≡ false → IsActorBelow b a
others-above a b other not_below =
    elim (actor_cases a b) [
      | inl below ↦ absurd (false≢true (sym not_below ∙ (is_actor_below-decides a b).1 below))
      | inr rest ↦ elim rest [
        | inl same ↦ absurd (false≢true (sym other ∙ (same_actor-decides a b).1 same))
        | inr above ↦ above
      ]
    ]

-- an actor put into a rising list leaves it rising
insert-rises : (a : Actor) (xs : List Actor) → IsRising IsActorBelow xs → IsRising IsActorBelow (insert_actor a xs)
insert-rises a [] rises = (tt, tt)
insert-rises a (x ∷ xs) rises =
    cond_both (same_actor a x) (x ∷ xs) (cond (is_actor_below a x) (a ∷ x ∷ xs) (x ∷ insert_actor a xs)) (IsRising IsActorBelow)
    (λ _. rises)
    (λ other. cond_both (is_actor_below a x) (a ∷ x ∷ xs) (x ∷ insert_actor a xs) (IsRising IsActorBelow)
    (λ t. (let below = (is_actor_below-decides a x).0 t in ((below, all-above a x xs below rises.0), rises)))
    (λ t. (insert-above x a xs (others-above a x other t) rises.0, insert-rises a xs rises.1)))

-- so the list rises
pub rising_actors-rise : (xs : List Actor) → IsRising IsActorBelow (rising_actors xs)
rising_actors-rise [] = tt
rising_actors-rise (x ∷ xs) = insert-rises x (rising_actors xs) (rising_actors-rise xs)

-- ---- length

-- lists with the same members have one rising list
pub rising_actors-same : (xs ys : List Actor) → IsPart xs ys → IsPart ys xs → rising_actors xs ≡ rising_actors ys
rising_actors-same xs ys there back =
    rising-same IsActorBelow IsActorBelow-apart IsActorBelow-trans (rising_actors xs) (rising_actors ys) (rising_actors-rise xs) (rising_actors-rise ys)
    (λ a h. (rising-among a ys).1 (there a ((rising-among a xs).0 h)))
    (λ a h. (rising-among a xs).1 (back a ((rising-among a ys).0 h)))

-- whether an actor is one of a list
pub among-decides : (xs : List Actor) (a : Actor) → Decides (list_any (same_actor a) xs) (IsAmong a xs)
among-decides xs a = (
  λ t.
      let found = list_any-true (same_actor a) xs t in
      subst (λ x. IsAmong x xs) (sym (same_actor-equal a found.0 found.2)) found.1,
  λ h. list_any-member (same_actor a) a xs h (same_actor-refl a),
)

not_among : (a : Actor) (xs : List Actor) → (IsAmong a xs → ⊥) → list_any (same_actor a) xs ≡ false
not_among a xs none = false_from_ne_true (list_any (same_actor a) xs) (λ t. none ((among-decides xs a).0 t))

-- an actor that is put into a rising list makes it longer, unless the list has it
length-insert : (a : Actor) (xs : List Actor) → IsRising IsActorBelow xs → length (insert_actor a xs) ≡ length xs + cond (list_any (same_actor a) xs) 0 1
length-insert a [] rises = refl
length-insert a (b ∷ bs) rises =
    let Longer : List Actor → Bool → Type 0 = λ ys among. length ys ≡ suc (length bs) + cond among 0 1 in
    let above : IsActorBelow b a → Longer (b ∷ insert_actor a bs) (list_any (same_actor a) bs) = λ _. (let later = length-insert a bs rises.1 in omega arith) in
    let first : IsActorBelow a b → list_any (same_actor a) bs ≡ false = λ below. not_among a bs (λ h. IsActorBelow-apart a (IsActorBelow-trans a b a below (all-member (IsActorBelow b) a bs rises.0 h))) in
    let Same : Bool → Type 0 = λ v. same_actor a b ≡ v → Longer (cond v (b ∷ bs) (cond (is_actor_below a b) (a ∷ b ∷ bs) (b ∷ insert_actor a bs))) (v || list_any (same_actor a) bs) in
    let Below : Bool → Type 0 = λ v. same_actor a b ≡ false → is_actor_below a b ≡ v → Longer (cond v (a ∷ b ∷ bs) (b ∷ insert_actor a bs)) (list_any (same_actor a) bs) in
    let below : Below (is_actor_below a b) = elim (is_actor_below a b) as Below [
      | true ↦ λ _ t. subst (Longer (a ∷ b ∷ bs)) (sym (first ((is_actor_below-decides a b).0 t))) (omega arith)
      | false ↦ λ other t. above (others-above a b other t)
    ] in
    let same : Same (same_actor a b) = elim (same_actor a b) as Same [ true ↦ λ _. omega arith | false ↦ λ other. below other refl ] in
    same refl

-- so the rising list of a list with one more actor is longer, unless the list names it
pub length-rising_more : (a : Actor) (xs ys : List Actor) → IsPart ys (a ∷ xs) → IsPart (a ∷ xs) ys → length (rising_actors ys) ≡ length (rising_actors xs) + cond (list_any (same_actor a) xs) 0 1
length-rising_more a xs ys there back =
    let one : rising_actors ys ≡ insert_actor a (rising_actors xs) = rising_actors-same ys (a ∷ xs) there back in
    let among : list_any (same_actor a) (rising_actors xs) ≡ list_any (same_actor a) xs = same_from_decides (list_any (same_actor a) (rising_actors xs)) (list_any (same_actor a) xs) (among-decides (rising_actors xs) a) (
      λ t. (rising-among a xs).1 ((among-decides xs a).0 t),
      λ h. (among-decides xs a).1 ((rising-among a xs).0 h),
    ) in
    ap length one ∙ length-insert a (rising_actors xs) (rising_actors-rise xs) ∙ ap (λ v. length (rising_actors xs) + cond v 0 1) among
