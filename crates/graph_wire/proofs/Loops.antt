-- Reading rows one after the other, as a loop does.
use Rattle.std.proofs.Common.{◌≡◌, ℕ, suc, ◌-◌, ◌+◌, ◌≤◌, ◌<◌, Bool, true, List, [], ◌∷◌, ◌++◌, Option, Some, None, Result, Ok, Err, refl, sym, ap, subst, ◌∙◌, append_assoc, arith}
use Rattle.std.specs.Bool.{Decides}
use Rattle.std.specs.List.{AllByRecursion}
use Rattle.std.proofs.ByRecursion.{All-push}
use Rattle.std.proofs.lemmas.List.{append-nil}
use Rattle.crgc_bytes.specs.Place.{Place}
use Rattle.crgc_ids.specs.Actor.{Actor, IsActorBelow, IsPairBelow, is_actor_below}
use Rattle.crgc_ids.specs.Rising.{IsRising}
use Rattle.crgc_ids.specs.declared.rising.ActorCount.{ActorCount}
use Rattle.crgc_ids.specs.declared.rising.PairCount.{PairCount}
use Rattle.crgc_ids.proofs.ActorLaws.{IsActorBelow-trans, IsPairBelow-trans, is_actor_below-decides}
use Rattle.crgc_ids.proofs.RisingLaws.{IsRising-push}
use Rattle.history_model.specs.declared.records.StateRow.{StateRow}
use Rattle.wire_grammar.specs.declared.fault.WireFault.{WireFault}
use Rattle.wire_grammar.specs.Fields.{◌>>=◌, Reader, is_above, rows_at}
use Rattle.wire_grammar.specs.Reading.{is_pair_below}
use Rattle.wire_grammar.proofs.Rows.{pair_below-decides}
use Rattle.graph_wire.specs.Gives.{Fails, with_front}
use Rattle.graph_wire.specs.declared.fault.ReadFault.{ReadFault}
use Rattle.graph_wire.specs.declared.fault.ReadFault.TheVariants as faults
use Rattle.crgc_ids.proofs.MembersLaws.{all-implied}

-- before the first row
pub nothing-before : {X : Type 0} (read : Result (List X × Place) WireFault) → with_front [] read ≡ read
nothing-before (Ok xs) = refl
nothing-before (Err f) = refl

regroup : {X : Type 0} (front : List X) (x : X) (read : Result (List X × Place) WireFault) → with_front front (read >>= λ xs. Ok (x ∷ xs.0, xs.1)) ≡ with_front (front ++ x ∷ []) read
regroup {X = X} front x (Ok xs) = ap (λ (ys : List X). Ok (ys, xs.1)) (simp append_assoc)
regroup front x (Err f) = refl

module _ {X K : Type 0} (key : X → K) (row : Option K → Reader X) (front : List X) (count i : ℕ) (last : Option K) (p : Place) (total : Result (List X × Place) WireFault) where
  -- one row more
  pub goes_on : (x : X) (q : Place) → i < count → row last p ≡ Ok (x, q) → with_front front (rows_at key row (count - i) last p) ≡ total
      → with_front (front ++ x ∷ []) (rows_at key row (count - (i + 1)) (Some (key x)) q) ≡ total
  unfolding rows_at
  goes_on x q lt h so_far =
      let k : count - i ≡ suc (count - (i + 1)) = omega arith in
      let one : with_front front (rows_at key row (count - i) last p) ≡ with_front (front ++ x ∷ []) (rows_at key row (count - (i + 1)) (Some (key x)) q) = rw (k, h) (regroup front x (rows_at key row (count - (i + 1)) (Some (key x)) q)) in
      sym one ∙ so_far

  -- a row with a fault
  pub ends : (e : ReadFault) → i < count → Fails e (row last p) → with_front front (rows_at key row (count - i) last p) ≡ total → Fails e total
  unfolding rows_at
  ends faults.NoMemory lt h so_far = tt
  ends (faults.Wire f) lt h so_far =
      let k : count - i ≡ suc (count - (i + 1)) = omega arith in
      let one : with_front front (rows_at key row (count - i) last p) ≡ Err f = rw (k, h) refl in
      sym so_far ∙ one

  -- no row is left
  pub is_done : count ≤ i → with_front front (rows_at key row (count - i) last p) ≡ total → total ≡ Ok (front, p)
  unfolding rows_at
  is_done le so_far =
      let k : count - i ≡ 0 = omega arith in
      let one : with_front front (rows_at key row (count - i) last p) ≡ Ok (front, p) = rw k (ap (λ (xs : List X). Ok (xs, p)) (append-nil front)) in
      sym so_far ∙ one

-- the same of rows over a table that is another list by now, of the same actors
module _ {X K : Type 0} (key : X → K) (row : List Actor → Option K → Reader X) (now first : List Actor) (same : now ≡ first)
    (front : List X) (count i : ℕ) (last : Option K) (p : Place) (total : Result (List X × Place) WireFault)
  where
    pub goes_on_over : (x : X) (q : Place) → i < count → row now last p ≡ Ok (x, q) → with_front front (rows_at key (row first) (count - i) last p) ≡ total
        → with_front (front ++ x ∷ []) (rows_at key (row first) (count - (i + 1)) (Some (key x)) q) ≡ total
    goes_on_over x q lt h so_far =
        goes_on key (row first) front count i last p total x q lt (ap (λ t. row t last p) (sym same) ∙ h) so_far

    pub ends_over : (e : ReadFault) → i < count → Fails e (row now last p) → with_front front (rows_at key (row first) (count - i) last p) ≡ total → Fails e total
    ends_over e lt h so_far =
        ends key (row first) front count i last p total e lt (subst (λ t. Fails e (row t last p)) same h) so_far

-- the rows rise, and a row whose key is above the last one is above them all
pub record AreReady {X K : Type 0} (key : X → K) (below : K → K → Bool) (Above : X → X → Type 0) (last : Option K) (rows : List X) : Type 0 where
  pub rise : IsRising Above rows
  pub cap : (y : X) → is_above below last (key y) ≡ true → AllByRecursion (λ x. Above x y) rows

module _ {X K : Type 0} (key : X → K) (below : K → K → Bool) (Above : X → X → Type 0)
    (up : (x y : X) → Decides (below (key x) (key y)) (Above x y)) (trans : (x y z : X) → Above x y → Above y z → Above x z)
  where
    ready-rises : (last : Option K) (rows : List X) (y : X) → AreReady key below Above last rows → is_above below last (key y) ≡ true → IsRising Above (rows ++ y ∷ [])
    ready-rises last rows y h t = IsRising-push Above rows y h.rise (h.cap y t)

    ready-push : (last : Option K) (rows : List X) (y : X) → AreReady key below Above last rows → is_above below last (key y) ≡ true → AreReady key below Above (Some (key y)) (rows ++ y ∷ [])
    ready-push last rows y h t = record {
      rise = ready-rises last rows y h t;
      cap = λ z k. let yz = (up y z).0 k in All-push (λ x. Above x z) rows y (all-implied (λ x. Above x y) (λ x. Above x z) (λ x g. trans x y z g yz) rows (h.cap y t)) yz;
    }

-- ---- a table's actors, and the three kinds of rows

abbrev pub actor_key : Actor → Actor
actor_key a = a

abbrev pub ActorsReady : Option Actor → List Actor → Type 0
ActorsReady = AreReady actor_key is_actor_below IsActorBelow

pub actors-push : (last : Option Actor) (actors : List Actor) (y : Actor) → ActorsReady last actors → is_above is_actor_below last y ≡ true → ActorsReady (Some y) (actors ++ y ∷ [])
actors-push = ready-push actor_key is_actor_below IsActorBelow is_actor_below-decides IsActorBelow-trans

pub actors-none : ActorsReady None []
actors-none = record { rise = tt; cap = λ y h. tt }

abbrev pub state_key : StateRow → Actor
state_key r = r.actor

abbrev pub StateAbove : StateRow → StateRow → Type 0
StateAbove r s = IsActorBelow r.actor s.actor

abbrev pub StatesReady : Option Actor → List StateRow → Type 0
StatesReady = AreReady state_key is_actor_below StateAbove

pub states-rise : (last : Option Actor) (rows : List StateRow) (y : StateRow) → StatesReady last rows → is_above is_actor_below last y.actor ≡ true → IsRising StateAbove (rows ++ y ∷ [])
states-rise = ready-rises state_key is_actor_below StateAbove (λ x y. is_actor_below-decides x.actor y.actor) (λ x y z. IsActorBelow-trans x.actor y.actor z.actor)

pub states-push : (last : Option Actor) (rows : List StateRow) (y : StateRow) → StatesReady last rows → is_above is_actor_below last y.actor ≡ true → StatesReady (Some y.actor) (rows ++ y ∷ [])
states-push = ready-push state_key is_actor_below StateAbove (λ x y. is_actor_below-decides x.actor y.actor) (λ x y z. IsActorBelow-trans x.actor y.actor z.actor)

abbrev pub count_key : ActorCount → Actor
count_key r = r.actor

abbrev pub CountAbove : ActorCount → ActorCount → Type 0
CountAbove r s = IsActorBelow r.actor s.actor

abbrev pub CountsReady : Option Actor → List ActorCount → Type 0
CountsReady = AreReady count_key is_actor_below CountAbove

pub counts-rise : (last : Option Actor) (rows : List ActorCount) (y : ActorCount) → CountsReady last rows → is_above is_actor_below last y.actor ≡ true → IsRising CountAbove (rows ++ y ∷ [])
counts-rise = ready-rises count_key is_actor_below CountAbove (λ x y. is_actor_below-decides x.actor y.actor) (λ x y z. IsActorBelow-trans x.actor y.actor z.actor)

pub counts-push : (last : Option Actor) (rows : List ActorCount) (y : ActorCount) → CountsReady last rows → is_above is_actor_below last y.actor ≡ true → CountsReady (Some y.actor) (rows ++ y ∷ [])
counts-push = ready-push count_key is_actor_below CountAbove (λ x y. is_actor_below-decides x.actor y.actor) (λ x y z. IsActorBelow-trans x.actor y.actor z.actor)

abbrev pub pair_key : PairCount → Actor × Actor
pair_key r = (r.owner, r.target)

abbrev pub PairAbove : PairCount → PairCount → Type 0
PairAbove r s = IsPairBelow r.owner r.target s.owner s.target

abbrev pub PairsReady : Option (Actor × Actor) → List PairCount → Type 0
PairsReady = AreReady pair_key is_pair_below PairAbove

pub pairs-rise : (last : Option (Actor × Actor)) (rows : List PairCount) (y : PairCount) → PairsReady last rows → is_above is_pair_below last (y.owner, y.target) ≡ true → IsRising PairAbove (rows ++ y ∷ [])
pairs-rise = ready-rises pair_key is_pair_below PairAbove (λ x y. pair_below-decides (x.owner, x.target) (y.owner, y.target)) (λ x y z. IsPairBelow-trans x.owner x.target y.owner y.target z.owner z.target)

pub pairs-push : (last : Option (Actor × Actor)) (rows : List PairCount) (y : PairCount) → PairsReady last rows → is_above is_pair_below last (y.owner, y.target) ≡ true → PairsReady (Some (y.owner, y.target)) (rows ++ y ∷ [])
pairs-push = ready-push pair_key is_pair_below PairAbove (λ x y. pair_below-decides (x.owner, x.target) (y.owner, y.target)) (λ x y z. IsPairBelow-trans x.owner x.target y.owner y.target z.owner z.target)
