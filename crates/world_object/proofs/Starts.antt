-- The seeds and ties of a script, one after another.
use Rattle.std.proofs.Common.{◌≡◌, ◌+◌, ◌≤◌, ◌<◌, ◌*◌, ◌^◌, ℕ, zero, suc, Option, None, List, [], ◌∷◌, ◌++◌, get_or, length, map, take, true, refl, sym, ◌∙◌, ap, subst, arith}
use Rattle.std.specs.List.{AllByRecursion, sum_by}
use Rattle.std.proofs.lemmas.List.{take_more}
use Rattle.std.proofs.lemmas.List.Sums.{sum_by-append}
use Rattle.crgc_ids.specs.Actor.{Actor}
use Rattle.history_model.specs.declared.events.Event.{Event}
use Rattle.history_model.specs.declared.events.Event.TheVariants.{Seed, Tie}
use Rattle.history_model.specs.Cluster.{is_born, newborn}
use Rattle.operation_model.specs.Openings.{IsNew}
use Rattle.run_model.specs.Sound.{IsSound}
use Rattle.run_model.proofs.Beginnings.{beginning-holds, beginning-start, start-doing}
use Rattle.run_model.proofs.SeedsLegal.{beginning-legal}
use Rattle.script_actors.specs.Standing.{AreActorsAt}
use Rattle.script_actors.specs.Table.{behaviour_at, names_at}
use Rattle.script_progress.specs.Standing.{IsProgressAt}
use Rattle.world_object.specs.State.{names_or_none}
use Rattle.world_object.proofs.Openings.{behaviour-is, names-are}
use Rattle.history_model.specs.Rows.{onto}
use Rattle.script_reader.specs.Valid.{IsScript, Scripted}
use Rattle.script_reader.specs.declared.script.Seed.{Seed as SeedRow}
use Rattle.script_reader.specs.declared.script.Tie.{Tie as TieRow}
use Rattle.run_model.specs.Doing.{Doing, as_seed, beginning, behaviour_of, cluster_of, doing, first_names, is_in_ranges, row_of, seed_actors, seed_number, seeded, tie_of}
use Rattle.run_model.proofs.SeedRows.{seeded-snoc, seeds_done, seeds_done-snoc}
use Rattle.world_object.specs.declared.parts.ClusterParts.{ClusterParts}
use Rattle.world_object.specs.Standing.{IsBegun, Stands, opening_of}
use Rattle.run_model.proofs.ScriptRanges.{script-in_ranges}
use Rattle.script_actors.proofs.Beginnings.{seeded-length, start-idle}

-- one row more
row-more : {A : Type 0} (xs : List A) (i : ℕ) (x : A) → i < length xs → x ≡ get_or xs i x → take (i + 1) xs ≡ take i xs ++ x ∷ []
row-more {A} xs i x below is = take_more xs i x below ∙ ap (λ (y : A). take i xs ++ y ∷ []) (sym is)

pub seeds-more : (xs : List SeedRow) (i : ℕ) (x : SeedRow) → i < length xs → x ≡ get_or xs i x → (h later : List Event) (born : List Actor) (a : Actor) → h ≡ seeds_done (take i xs) [] → later ≡ Seed x.node ∷ h → born ≡ seeded (take i xs) []
    → a ≡ newborn x.node h → (later ≡ seeds_done (take (i + 1) xs) []) × (born ++ a ∷ [] ≡ seeded (take (i + 1) xs) [])
seeds-more xs i x below is h later born a past more actors next =
    let row = row-more xs i x below is in (
      more ∙ ap (λ p. Seed x.node ∷ p) past ∙ sym (ap (λ ys. seeds_done ys []) row ∙ seeds_done-snoc (take i xs) x []),
      ap (λ as_. as_ ++ a ∷ []) actors ∙ ap (λ b. seeded (take i xs) [] ++ b ∷ []) (next ∙ ap (newborn x.node) past) ∙ sym (ap (λ ys. seeded ys []) row ∙ seeded-snoc (take i xs) x []),
    )

-- the history after these ties
abbrev pub ties_done : Scripted → List TieRow → List Event → List Event
ties_done s ties h = onto h (map (tie_of s) ties)

ties_done-snoc : (s : Scripted) (ties : List TieRow) (t : TieRow) (h : List Event) → ties_done s (ties ++ t ∷ []) h ≡ tie_of s t ∷ ties_done s ties h
ties_done-snoc s [] t h = refl
ties_done-snoc s (u ∷ ties) t h = ties_done-snoc s ties t (tie_of s u ∷ h)

pub ties-more : (s : Scripted) (start : List Event) (xs : List TieRow) (i : ℕ) (x : TieRow) → i < length xs → x ≡ get_or xs i x → (h later : List Event) (a b : Actor) → h ≡ ties_done s (take i xs) start → later ≡ Tie a b ∷ h
    → a ≡ seed_number s x.from → b ≡ seed_number s x.to → later ≡ ties_done s (take (i + 1) xs) start
ties-more s start xs i x below is h later a b past more from to =
    let row = row-more xs i x below is in
    more ∙ ap (λ p. Tie a b ∷ p) past ∙ (λ j. Tie (from j) (to j) ∷ ties_done s (take i xs) start) ∙ sym (ap (λ ys. ties_done s ys start) row ∙ ties_done-snoc s (take i xs) x start)

-- ---- sums over seeds

pub few-seeds : (p : ClusterParts) → Stands p → length p.seeds ≤ 4096
few-seeds p stands =
    let script = stands.script in
    let few = script.few_seeds in
    let count = ap (λ (as_ : List Actor). length as_) stands.seeds in
    let many = seeded-length (let s = p.script.value in s.seeds) [] in
    omega (arith, few, count, many)

-- the sum so far, which is small
pub record IsSum (f : Actor → ℕ) (xs : List Actor) (i sum : ℕ) : Type 0 where
  pub value : sum ≡ sum_by f (take i xs)
  pub small : sum ≤ i * 2 ^ 32

pub sum-start : (f : Actor → ℕ) (xs : List Actor) → IsSum f xs 0 0
sum-start f xs = record { value = refl; small = omega arith }

pub sum-more : (f : Actor → ℕ) (xs : List Actor) (i sum : ℕ) (x : Actor) (n : ℕ) → i < length xs → x ≡ get_or xs i x → n ≡ f x → n < 2 ^ 32 → IsSum f xs i sum → IsSum f xs (i + 1) (sum + n)
sum-more f xs i sum x n below is same short so =
    let row = row-more xs i x below is in
    let small = so.small in
    let one : sum_by f (x ∷ []) ≡ f x = omega arith in
    record {
      value = ap (λ k. k + n) so.value ∙ ap (λ k. sum_by f (take i xs) + k) (same ∙ sym one) ∙ sym (ap (sum_by f) row ∙ sum_by-append f (take i xs) (x ∷ []));
      small = omega (arith, small, short);
    }

pub sum-fits : (f : Actor → ℕ) (xs : List Actor) (i sum n : ℕ) → length xs ≤ 4096 → i < length xs → n < 2 ^ 32 → IsSum f xs i sum → sum + n < 2 ^ 64
sum-fits f xs i sum n few below short so = (let small = so.small in omega (arith, few, below, short, small))

-- ---- the whole

-- the parts that were made stand, and are those of a new cluster
module _ (p : ClusterParts) (s : Scripted) (script : p.script.value ≡ s) (fits : IsScript s) (world : IsBegun s (beginning s) p.world) (seeds : p.seeds ≡ seed_actors s)
    (at : AreActorsAt s (beginning s) p.actors) (used : IsProgressAt s (beginning s) p.progress) where
  start-sound : IsSound s (beginning s)
  start-sound = (beginning-legal s (script-in_ranges s fits), beginning-holds s)

  pub begins-stands : Stands p
  begins-stands = record {
    script = subst IsScript (sym script) fits;
    cluster = world.cluster ∙ ap cluster_of (sym script);
    seeds = seeds ∙ ap seed_actors (sym script);
    actors = subst (λ x. AreActorsAt x p.world.past p.actors) (sym script) (subst (λ h. AreActorsAt s h p.actors) (sym world.past) at);
    progress = subst (λ x. IsProgressAt x p.world.past p.progress) (sym script) (subst (λ h. IsProgressAt s h p.progress) (sym world.past) used);
    sound = subst (λ x. IsSound x p.world.past) (sym script) (subst (IsSound s) (sym world.past) start-sound);
  }

  -- of an actor that was born
  module _ (a : Actor) (born : is_born a (beginning s) ≡ true) where
    doing-is : doing s a (beginning s) ≡ as_seed s a
    doing-is = start-doing s a (beginning s) (beginning-start s)

    new-behaviour : behaviour_at p.actors a ≡ behaviour_of (row_of s.seeds [] a)
    new-behaviour = behaviour-is s (beginning s) p.actors at a born ∙ ap (λ (d : Doing). d.behaviour) doing-is

    new-names : names_or_none (names_at p.actors a) ≡ first_names s a
    new-names = names-are s (beginning s) p.actors at a born (start-idle a (beginning s) (beginning-start s)) ∙ ap (λ (d : Doing). (let l = d.turn in l.names)) doing-is

  pub begins-new : ((n : ℕ) → get_or p.claims n None ≡ None) → p.halt ≡ None → IsNew (opening_of p)
  begins-new claims halt = record {
    ranges = ap is_in_ranges script ∙ script-in_ranges s fits;
    past = world.past ∙ ap beginning (sym script);
    behaviours = λ a born. new-behaviour a (subst (λ h. is_born a h ≡ true) world.past born) ∙ ap (λ (x : Scripted). behaviour_of (row_of x.seeds [] a)) (sym script);
    names = λ a born. new-names a (subst (λ h. is_born a h ≡ true) world.past born) ∙ ap (λ x. first_names x a) (sym script);
    claims = claims;
    halt = halt;
  }

-- nobody has claimed any node
pub none-claimed : (xs : List (Option ℕ)) → AllByRecursion (λ x. x ≡ None) xs → (n : ℕ) → get_or xs n None ≡ None
none-claimed [] all n = refl
none-claimed (x ∷ xs) all zero = all.0
none-claimed (x ∷ xs) all (suc n) = none-claimed xs all.1 n
