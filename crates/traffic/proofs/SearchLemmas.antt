-- The lowest node of a kind, and which rules let a window be cut and a node be removed.
use Rattle.std.proofs.Common.{◌≡◌, ◌≢◌, ◌<◌, ◌==◌, ◌++◌, not, nat_lt, ℕ, true, List, [], ◌∷◌, Option, Some, None, length, refl, sym, ◌∙◌, ap, inl, arith}
use Rattle.std.proofs.lemmas.Bool.{and_from, and_parts, cond-true, eq-eqb, false≢true, lt-ltb, ltb-true, ne_eqb, not-true}
use Rattle.crgc_ids.specs.Actor.{Actor}
use Rattle.crgc_ids.specs.Members.{IsAmong}
use Rattle.history_model.specs.declared.events.Event.{Event}
use Rattle.history_model.specs.declared.events.Event.TheVariants.{Remove, Window}
use Rattle.history_model.specs.declared.events.Rule.TheVariants.{NoNode, SameNode, Down, Closed, NothingAdmitted, NotCrashed, Removed}
use Rattle.history_model.specs.Cluster.{Cluster}
use Rattle.history_model.specs.Facts.{Fact, created, flagged, received, released, sent_to}
use Rattle.history_model.specs.Graph.{named_by, rising_actors}
use Rattle.history_model.specs.Legal.{checks, refusal}
use Rattle.history_model.specs.Messages.{is_closed}
use Rattle.history_model.specs.State.{is_up}
use Rattle.history_model.specs.Streams.{is_blank, window}
use Rattle.history_model.specs.Tells.{fact_names}
use Rattle.history_model.proofs.Basics.{first_broken-none}
use Rattle.history_model.proofs.RisingActors.{rising-among}
use Rattle.traffic.specs.Readings.{IsLowestNode, IsNextRemoval, IsNextWindow, IsOpenLink, MayCut, MayRemove}
use Rattle.traffic.specs.Standing.{IsTrafficOf}
use Rattle.traffic.specs.TrafficState.{TrafficState, link_of}
use Rattle.traffic.proofs.KeepingLinks.{is-link}
use Rattle.traffic.proofs.ReadingLemmas.{named-read}

-- the lowest node of one kind is that of another, where the two are one
pub lowest-same : (P Q : ℕ → Type 0) (o : Option ℕ) → ((n : ℕ) → P n → Q n) → ((n : ℕ) → Q n → P n) → IsLowestNode P o → IsLowestNode Q o
lowest-same P Q None to from none = λ n q. none n (from n q)
lowest-same P Q (Some n) to from lowest = (to n lowest.0, λ k q. lowest.1 k (from k q))

-- ---- facts name actors

names-one : (f : Fact) (rest : List Actor) → (a : Actor) × IsAmong a (named_by f ++ rest)
names-one (received b) rest = (b, inl refl)
names-one (sent_to b) rest = (b, inl refl)
names-one (created x y) rest = (x, inl refl)
names-one (released x y) rest = (x, inl refl)
names-one (flagged b flags) rest = (b, inl refl)

among-some : (a : Actor) (xs : List Actor) → IsAmong a xs → 0 < length xs
among-some a [] none = absurd none
among-some a (x ∷ xs) among = omega arith

some-named : (facts : List Fact) → not (is_blank facts) ≡ true → 0 < length (rising_actors (fact_names facts))
some-named [] some = absurd (false≢true some)
some-named (f ∷ facts) some = (let one = names-one f (fact_names facts) in among-some one.0 (rising_actors (fact_names (f ∷ facts))) ((rising-among one.0 (fact_names (f ∷ facts))).1 one.1))

named-some : (facts : List Fact) → 0 < length (rising_actors (fact_names facts)) → not (is_blank facts) ≡ true
named-some [] some = absurd (omega (arith, some))
named-some (f ∷ facts) some = refl

-- ---- open links

-- what the rules of a link say, and what is open
open-from : (cl : Cluster) (h : List Event) (t : TrafficState) (d s : ℕ) → IsTrafficOf cl h t → nat_lt d cl.nodes ≡ true → nat_lt s cl.nodes ≡ true → not (d == s) ≡ true → is_up d h ≡ true → not (is_closed s d h) ≡ true → IsOpenLink t d s
open-from cl h t d s stands end source differ up open_yet =
    let below = ltb-true s cl.nodes source in
    let also = ltb-true d cl.nodes end in
    let apart : s ≢ d = λ e. absurd (false≢true (sym (not-true (d == s) differ) ∙ eq-eqb d s (sym e))) in
    let link = is-link cl s d stands.few below also apart in
    let same = stands.nodes in
    (omega (arith, below, same), omega (arith, also, same), apart, (stands.links s d link).opened ∙ and_from (is_up d h) (not (is_closed s d h)) up open_yet)

-- and back
pub record IsOpenIn (cl : Cluster) (h : List Event) (d s : ℕ) : Type 0 where
  pub source : nat_lt s cl.nodes ≡ true
  pub end : nat_lt d cl.nodes ≡ true
  pub differ : not (d == s) ≡ true
  pub up : is_up d h ≡ true
  pub open_yet : not (is_closed s d h) ≡ true

open-to : (cl : Cluster) (h : List Event) (t : TrafficState) (d s : ℕ) → IsTrafficOf cl h t → IsOpenLink t d s → IsOpenIn cl h d s
open-to cl h t d s stands link =
    let same = stands.nodes in
    let source : s < cl.nodes = omega (arith, link.0, same) in
    let end : d < cl.nodes = omega (arith, link.1, same) in
    let is = is-link cl s d stands.few source end link.2 in
    let both = and_parts (is_up d h) (not (is_closed s d h)) (sym (stands.links s d is).opened ∙ link.3) in
    record { source = lt-ltb s cl.nodes source; end = lt-ltb d cl.nodes end; differ = ap not (ne_eqb d s (λ e. link.2 (sym e))); up = both.0; open_yet = both.1 }

-- ---- windows and removals

pub next-window : (cl : Cluster) (h : List Event) (t : TrafficState) (d : ℕ) (o : Option ℕ) → IsTrafficOf cl h t → IsLowestNode (MayCut t d) o → IsNextWindow cl d h o
next-window cl h t d o stands lowest = lowest-same (MayCut t d) (λ s. refusal cl (Window d s) h ≡ None) o to from lowest
  where
    to : (s : ℕ) → MayCut t d s → refusal cl (Window d s) h ≡ None
    to s may =
        let open_in = open-to cl h t d s stands may.0 in
        let link = is-link cl s d stands.few (ltb-true s cl.nodes open_in.source) (ltb-true d cl.nodes open_in.end) (may.0).2 in
        let named = named-read s d h (link_of t s d) (stands.links s d link) in
        let some = may.1 in
        let told = named-some (window s d h) (omega (arith, named, some)) in
        cond-true (nat_lt d cl.nodes) _ (Some NoNode) open_in.end ∙ cond-true (nat_lt s cl.nodes) _ (Some NoNode) open_in.source ∙ cond-true (not (d == s)) _ (Some SameNode) open_in.differ
        ∙ cond-true (is_up d h) _ (Some Down) open_in.up ∙ cond-true (not (is_closed s d h)) _ (Some Closed) open_in.open_yet ∙ cond-true (not (is_blank (window s d h))) None (Some NothingAdmitted) told

    from : (s : ℕ) → refusal cl (Window d s) h ≡ None → MayCut t d s
    from s allowed =
        let kept = first_broken-none (checks cl (Window d s) h) allowed in
        let is_open = open-from cl h t d s stands kept.0 kept.1.0 kept.1.1.0 kept.1.1.1.0 kept.1.1.1.1.0 in
        let link = is-link cl s d stands.few (ltb-true s cl.nodes kept.1.0) (ltb-true d cl.nodes kept.0) is_open.2 in
        let named = named-read s d h (link_of t s d) (stands.links s d link) in
        let some = some-named (window s d h) kept.1.1.1.1.1.0 in
        (is_open, omega (arith, named, some))

pub next-removal : (cl : Cluster) (h : List Event) (t : TrafficState) (d : ℕ) (o : Option ℕ) → IsTrafficOf cl h t → IsLowestNode (MayRemove t d) o → IsNextRemoval cl d h o
next-removal cl h t d o stands lowest = lowest-same (MayRemove t d) (λ s. refusal cl (Remove d s) h ≡ None) o to from lowest
  where
    to : (s : ℕ) → MayRemove t d s → refusal cl (Remove d s) h ≡ None
    to s may =
        let open_in = open-to cl h t d s stands may.0 in
        let down : not (is_up s h) ≡ true = ap not (sym (stands.up s) ∙ may.1) in
        cond-true (nat_lt d cl.nodes) _ (Some NoNode) open_in.end ∙ cond-true (nat_lt s cl.nodes) _ (Some NoNode) open_in.source ∙ cond-true (not (d == s)) _ (Some SameNode) open_in.differ
        ∙ cond-true (is_up d h) _ (Some Down) open_in.up ∙ cond-true (not (is_up s h)) _ (Some NotCrashed) down ∙ cond-true (not (is_closed s d h)) None (Some Removed) open_in.open_yet

    from : (s : ℕ) → refusal cl (Remove d s) h ≡ None → MayRemove t d s
    from s allowed =
        let kept = first_broken-none (checks cl (Remove d s) h) allowed in
        let is_open = open-from cl h t d s stands kept.0 kept.1.0 kept.1.1.0 kept.1.1.1.0 kept.1.1.1.1.1.0 in
        (is_open, stands.up s ∙ not-true (is_up s h) kept.1.1.1.1.0)
