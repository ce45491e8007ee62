-- Rows that count what was admitted name the same actors.
use Rattle.std.proofs.Common.{◌≡◌, ◌<◌, ℕ, Bool, true, false, cond, List, [], ◌∷◌, length, map, refl, sym, ap, subst, inl, inr, arith}
use Rattle.std.proofs.lemmas.List.Sums.{sum_by-cons}
use Rattle.std.specs.Bool.{Decides}
use Rattle.std.specs.List.{AllByRecursion, count_by, flat_map, sum_by}
use Rattle.crgc_ids.specs.Actor.{Actor, same_actor}
use Rattle.crgc_ids.specs.Members.{IsAmong, IsPart}
use Rattle.crgc_ids.specs.declared.rising.ActorCount.{ActorCount}
use Rattle.crgc_ids.specs.declared.rising.PairCount.{PairCount}
use Rattle.crgc_ids.proofs.ActorLaws.{same_actor-decides}
use Rattle.crgc_ids.proofs.MembersLaws.{IsAmong-append_cases, IsAmong-append_left, IsAmong-append_right}
use Rattle.history_model.specs.Graph.{rising_actors}
use Rattle.history_model.proofs.Lists.{IsAmong-flat_map, IsAmong-from_flat_map}
use Rattle.history_model.proofs.RisingActors.{rising_actors-same}
use Rattle.row_sums.specs.Totals.{actor_total, pair_total}
use Rattle.ingress_gateway.specs.Pending.{carried_count, message_count, named_count, names_in, pairs, recipients}
use Rattle.crgc_ids.proofs.KeyOrders.{pair_order, same_pair}

module _ {X K : Type 0} (key : X → K) (count : X → ℕ) (same : K → K → Bool) (told : (j k : K) → Decides (same j k) (j ≡ k)) where
  -- a key of rows is counted, and what is counted is a key of rows
  counted : (k : K) (rows : List X) → AllByRecursion (λ r. 0 < count r) rows → IsAmong k (map key rows) → 0 < sum_by (λ r. cond (same k (key r)) (count r) 0) rows
  counted k [] stand h = absurd h
  counted k (r ∷ rows) stand h =
      let f : X → ℕ = λ r. cond (same k (key r)) (count r) 0 in
      let split = sum_by-cons f r rows in
      elim h [
        | inl e ↦ (let here : f r ≡ count r = ap (λ b. cond b (count r) 0) ((told k (key r)).1 e) in let some = stand.0 in omega arith)
        | inr later ↦ (let some = counted k rows stand.1 later in omega arith)
      ]

  is_key : (k : K) (rows : List X) → 0 < sum_by (λ r. cond (same k (key r)) (count r) 0) rows → IsAmong k (map key rows)
  is_key k [] some = absurd (omega arith)
  is_key k (r ∷ rows) some =
      let f : X → ℕ = λ r. cond (same k (key r)) (count r) 0 in
      let split = sum_by-cons f r rows in
      let Found : Bool → Type 0 = λ b. same k (key r) ≡ b → cond b (count r) 0 ≡ f r → IsAmong k (key r ∷ map key rows) in
      let found : Found (same k (key r)) = elim (same k (key r)) as Found [
        | true ↦ λ t _. inl ((told k (key r)).0 t)
        | false ↦ λ _ none. inr (is_key k rows (omega arith))
      ] in
      found refl refl

map-id : {K : Type 0} (keys : List K) → map (λ k. k) keys ≡ keys
map-id [] = refl
map-id (k ∷ keys) = ap (λ ks. k ∷ ks) (map-id keys)

each_one : {K : Type 0} (keys : List K) → AllByRecursion (λ (k : K). 0 < 1) keys
each_one [] = tt
each_one (k ∷ keys) = (omega arith, each_one keys)

-- rows that count each key as often as it comes have the same keys
module _ {X K : Type 0} (key : X → K) (count : X → ℕ) (same : K → K → Bool) (told : (j k : K) → Decides (same j k) (j ≡ k)) (rows : List X) (keys : List K) (totals : (k : K) → sum_by (λ r. cond (same k (key r)) (count r) 0) rows ≡ count_by (same k) keys) where
  keys-there : AllByRecursion (λ r. 0 < count r) rows → IsPart (map key rows) keys
  keys-there stand k h =
      let some = counted key count same told k rows stand h in
      let equal = totals k in
      subst (IsAmong k) (map-id keys) (is_key (λ x. x) (λ _. 1) same told k keys (omega arith))

  keys-back : IsPart keys (map key rows)
  keys-back k h =
      let some = counted (λ x. x) (λ _. 1) same told k keys (each_one keys) (subst (IsAmong k) (sym (map-id keys)) h) in
      let equal = totals k in
      is_key key count same told k rows (omega arith)

names-part : (xs ys : List Actor) (ps qs : List (Actor × Actor)) → IsPart xs ys → IsPart ps qs → IsPart (names_in xs ps) (names_in ys qs)
names-part xs ys ps qs messages carried a h =
    let each : Actor × Actor → List Actor = λ p. p.0 ∷ p.1 ∷ [] in
    elim (IsAmong-append_cases a xs (flat_map each ps) h) [
      | inl m ↦ IsAmong-append_left a ys (flat_map each qs) (messages a m)
      | inr m ↦ (let p = IsAmong-from_flat_map each a ps m in IsAmong-append_right a ys (flat_map each qs) (IsAmong-flat_map each a p.0 qs (carried p.0 p.1) p.2))
    ]

-- so they name as many different actors
pub named-same : (rows : List ActorCount) (pair_rows : List PairCount) (messages : List Actor) (carried : List (Actor × Actor)) → AllByRecursion (λ r. 0 < r.count) rows → AllByRecursion (λ r. 0 < r.count) pair_rows → ((a : Actor) → actor_total a rows ≡ message_count a messages) → ((b a : Actor) → pair_total b a pair_rows ≡ carried_count b a carried) → length (rising_actors (names_in (recipients rows) (pairs pair_rows))) ≡ named_count messages carried
named-same rows pair_rows messages carried stand pairs_stand totals pair_totals =
    let actor : ActorCount → Actor = λ r. r.actor in
    let often : ActorCount → ℕ = λ r. r.count in
    let ends : PairCount → Actor × Actor = λ r. (r.owner, r.target) in
    let pairs_often : PairCount → ℕ = λ r. r.count in
    let there = names-part (recipients rows) messages (pairs pair_rows) carried
    (keys-there actor often same_actor same_actor-decides rows messages totals stand)
    (keys-there ends pairs_often same_pair pair_order.told pair_rows carried (λ p. pair_totals p.0 p.1) pairs_stand) in
    let back = names-part messages (recipients rows) carried (pairs pair_rows)
    (keys-back actor often same_actor same_actor-decides rows messages totals)
    (keys-back ends pairs_often same_pair pair_order.told pair_rows carried (λ p. pair_totals p.0 p.1)) in
    ap length (rising_actors-same (names_in (recipients rows) (pairs pair_rows)) (names_in messages carried) there back)
