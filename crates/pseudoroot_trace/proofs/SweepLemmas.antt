-- The marks of a shadow graph that stands for a fold are those of a sweep of the fold.
use Rattle.std.proofs.Common.{◌≡◌, ◌↔◌, ◌&&◌, ◌||◌, ◌==◌, ◌+◌, ◌++◌, not, ℕ, Bool, true, false, List, [], ◌∷◌, Option, Some, None, refl, sym, ◌∙◌, ap, subst, inl, inr}
use Rattle.std.proofs.lemmas.Bool.{false≢true}
use Rattle.std.specs.Prelude.{int_lt, pos}
use Rattle.crgc_ids.proofs.ActorLaws.{same_actor-decides}
use Rattle.crgc_ids.proofs.MembersLaws.{list_any-member, list_any-true}
use Rattle.crgc_ids.specs.Actor.{Actor, same_actor}
use Rattle.crgc_ids.specs.Members.{IsAmong}
use Rattle.crgc_ids.specs.Nodes.{has_node}
use Rattle.history_model.proofs.CompactedSweeps.{compacted-unmarked}
use Rattle.history_model.specs.Cluster.{Cluster}
use Rattle.history_model.specs.Compaction.{IsMarked, compacted_dead, is_left_out}
use Rattle.history_model.specs.Facts.{Flags}
use Rattle.history_model.specs.Folds.{Fold, is_lost}
use Rattle.history_model.specs.Graph as model
use Rattle.history_model.specs.Graph.{has_edge, known_actors, own_flags, released_count}
use Rattle.edge_table.specs.Table.{is_positive}
use Rattle.shadow_graph.proofs.OwnersLemmas.{positive-less}
use Rattle.history_model.specs.Reached.{IsChain, IsReachedWithout}
use Rattle.place_marks.proofs.ReachLemmas.{reached-closed, reached-on, reached-start}
use Rattle.place_marks.specs.Graph.{IsReached}
use Rattle.shadow_graph.proofs.GraphLemmas.{lost-same}
use Rattle.shadow_graph.specs.Graph.{Graph, lost_in}
use Rattle.shadow_graph.specs.Pairs.{edge_between}
use Rattle.shadow_graph.specs.Places.{ArePlaced, actor_of}
use Rattle.shadow_graph.specs.Seen.{is_dropped, is_known}
use Rattle.shadow_graph.specs.Stands.{IsGraphOf}
use Rattle.shadow_table.specs.Shadows.{flag_pair, is_named, place_in}
use Rattle.pseudoroot_trace.proofs.GraphLemmas.{is-or-not, leads-parts, positive-there, step-from, step-to}
use Rattle.pseudoroot_trace.specs.Marked.{IsReachedIn, IsSweepBy}
use Rattle.pseudoroot_trace.specs.Trace.{is_out, is_pseudoroot, is_start, leads, may_act, place_graph}

-- ---- tests

both-true : (a b : Bool) → (a && b) ≡ true → (a ≡ true) × (b ≡ true)
both-true true b e = (refl, e)
both-true false b e = absurd (false≢true e)

pub and-true : (a b : Bool) → a ≡ true → b ≡ true → (a && b) ≡ true
and-true a b p q = ap (λ v. v && b) p ∙ q

not-true : (a : Bool) → not a ≡ true → a ≡ false
not-true true e = absurd (false≢true e)
not-true false e = refl

true-not : (a : Bool) → a ≡ false → not a ≡ true
true-not a e = ap not e

acts-alike : (flags : Option Flags) → may_act (flag_pair flags) ≡ model.may_act flags
acts-alike None = refl
acts-alike (Some flags) = refl

-- ---- the graph stands for a fold

module _ (cl : Cluster) (f : Fold) (g : Graph) (placed : ArePlaced g) (stands : IsGraphOf cl f g) where
  -- whom a sweep of the fold leaves out
  abbrev Out : Actor → Bool
  Out a = is_left_out (is_lost cl f) (is_dropped g) a

  out-same : (a : Actor) → is_out g a ≡ Out a
  out-same a = ap (λ ns. is_dropped g a || has_node ns a.node) (lost-same cl f g stands)

  root-same : (a : Actor) → is_pseudoroot g a ≡ model.is_pseudoroot cl (is_lost cl f) f a
  root-same a = λ i. (
      ((ap may_act (stands.counts.flags a) ∙ acts-alike (own_flags f a)) i)
      || not (stands.counts.received a i == stands.counts.told a i + stands.counts.admitted a i)
      )

  edge-same : (b a : Actor) → is_positive (edge_between g.edges b a) ≡ has_edge cl (is_lost cl f) f b a
  edge-same b a = ap (int_lt (pos 0)) (stands.counts.count b a) ∙ positive-less _ (released_count cl f b a)

  -- known is named
  known-named : (a : Actor) → IsAmong a (known_actors cl f) → is_named g.shadows.names a ≡ true
  known-named a known = list_any-member (same_actor a) a g.shadows.names ((stands.known a).1 known) ((same_actor-decides a a).1 refl)

  named-known : (a : Actor) → is_named g.shadows.names a ≡ true → IsAmong a (known_actors cl f)
  named-known a named =
      let found = list_any-true (same_actor a) g.shadows.names named in
      (stands.known a).0 (subst (λ b. IsAmong b g.shadows.names) (sym ((same_actor-decides a found.0).0 found.2)) found.1)

  -- ---- from actors to places

  -- a chain that ends with an actor that is not left out begins with one
  head-in : (r : Actor) (bs : List Actor) (a : Actor) → IsChain cl (is_lost cl f) Out f r bs a → Out a ≡ false → Out r ≡ false
  head-in r [] a same inside = ap Out same ∙ inside
  head-in r (b ∷ bs) a chain inside = chain.0

  head-named : (r : Actor) (bs : List Actor) (a : Actor) → IsChain cl (is_lost cl f) Out f r bs a → is_named g.shadows.names a ≡ true → is_named g.shadows.names r ≡ true
  head-named r [] a same named = ap (is_named g.shadows.names) same ∙ named
  head-named r (b ∷ bs) a chain named = (placed.named r b (positive-there g placed r b (edge-same r b ∙ chain.1))).0

  -- at the place of an actor that was named stands the actor
  at-place : (a : Actor) → is_named g.shadows.names a ≡ true → actor_of g (place_in g.shadows.names a) ≡ a
  at-place a named = (placed.place a named).1

  along : (r : Actor) (bs : List Actor) (a : Actor) → is_named g.shadows.names a ≡ true → Out a ≡ false → IsReached (place_graph g) (place_in g.shadows.names r) → IsChain cl (is_lost cl f) Out f r bs a → IsReached (place_graph g) (place_in g.shadows.names a)
  along r [] a named inside reached same = subst (λ b. IsReached (place_graph g) (place_in g.shadows.names b)) same reached
  along r (b ∷ bs) a named inside reached chain =
      let there = positive-there g placed r b (edge-same r b ∙ chain.1) in
      let both = placed.named r b there in
      let p = place_in g.shadows.names r in
      let k = place_in g.shadows.names b in
      let outside : not (is_out g b) ≡ true = true-not (is_out g b) (out-same b ∙ head-in b bs a chain.2 inside) in
      let on : leads g r b ≡ true = and-true (not (is_out g b)) _ outside (edge-same r b ∙ chain.1) in
      let step = step-to g placed p k (placed.place r both.0).0 (placed.place b both.1).0 ((λ i. leads g (at-place r both.0 i) (at-place b both.1 i)) ∙ on) in
      along b bs a named inside (reached-on (place_graph g) p k reached step) chain.2

  pub marked-reached : (a : Actor) → IsMarked cl (is_lost cl f) (is_dropped g) f a → IsReachedIn g a
  marked-reached a marked =
      let named = known-named a marked.0 in
      let way = marked.2 in
      let r = way.0 in
      let bs = way.1 in
      let chain = way.3 in
      let first = head-named r bs a chain named in
      let inside : not (is_out g r) ≡ true = true-not (is_out g r) (out-same r ∙ head-in r bs a chain marked.1) in
      let start : is_start g r ≡ true = and-true (not (is_out g r)) (is_pseudoroot g r) inside (root-same r ∙ way.2) in
      let p = place_in g.shadows.names r in
      let reached = reached-start (place_graph g) p (placed.place r first).0 (ap (is_start g) (at-place r first) ∙ start) in
      (named, along r bs a named marked.1 reached chain)

  -- ---- from places to actors

  -- a chain goes on along one more edge
  chain-on : (r : Actor) (bs : List Actor) (b a : Actor) → IsChain cl (is_lost cl f) Out f r bs b → Out b ≡ false → has_edge cl (is_lost cl f) f b a ≡ true → IsChain cl (is_lost cl f) Out f r (bs ++ a ∷ []) a
  chain-on r [] b a same inside edge = (ap Out same ∙ inside, ap (λ c. has_edge cl (is_lost cl f) f c a) same ∙ edge, refl)
  chain-on r (c ∷ bs) b a chain inside edge = (chain.0, chain.1, chain-on c bs b a chain.2 inside edge)

  -- the actor at a place is not left out, and reached
  abbrev IsFound : Actor → Type 0
  IsFound a = (Out a ≡ false) × IsReachedWithout cl (is_lost cl f) Out f a

  found-start : (p : ℕ) → is_start g (actor_of g p) ≡ true → IsFound (actor_of g p)
  found-start p start =
      let a = actor_of g p in
      let parts = both-true (not (is_out g a)) (is_pseudoroot g a) start in
      (sym (out-same a) ∙ not-true (is_out g a) parts.0, (a, [], sym (root-same a) ∙ parts.1, refl))

  found-on : (p k : ℕ) → leads g (actor_of g p) (actor_of g k) ≡ true → IsFound (actor_of g p) → IsFound (actor_of g k)
  found-on p k t found =
      let b = actor_of g p in
      let a = actor_of g k in
      let parts = leads-parts (is_out g a) (edge_between g.edges b a) t in
      let way = found.1 in
      (sym (out-same a) ∙ parts.0, (way.0, way.1 ++ a ∷ [], way.2, chain-on way.0 way.1 b a way.3 found.0 (sym (edge-same b a) ∙ parts.1)))

  pub reached-marked : (a : Actor) → IsReachedIn g a → IsMarked cl (is_lost cl f) (is_dropped g) f a
  reached-marked a reached =
      let p = place_in g.shadows.names a in
      let there : IsFound (actor_of g p) = reached-closed (place_graph g) (λ q. IsFound (actor_of g q)) (λ q _ start. found-start q start) (λ q k found step. found-on q k (step-from g placed q k step).2 found) p reached.1 in
      let found : IsFound a = subst IsFound (at-place a reached.0) there in
      (named-known a reached.0, found.0, found.1)

  pub marked-same : (a : Actor) → IsMarked cl (is_lost cl f) (is_dropped g) f a ↔ IsReachedIn g a
  marked-same a = (marked-reached a, reached-marked a)

  -- ---- the dead

  known-parts : (named dropped : Bool) → (named && not dropped) ≡ true → (named ≡ true) × (dropped ≡ false)
  known-parts true true t = absurd (false≢true t)
  known-parts true false t = (refl, refl)
  known-parts false d t = absurd (false≢true t)

  known-of : (named dropped : Bool) → named ≡ true → dropped ≡ false → (named && not dropped) ≡ true
  known-of named dropped n d = and-true named (not dropped) n (true-not dropped d)

  or-parts : (a b : Bool) → (a || b) ≡ false → (a ≡ false) × (b ≡ false)
  or-parts true b e = absurd (false≢true (sym e))
  or-parts false b e = (refl, e)

  or-of : (a b : Bool) → a ≡ false → b ≡ false → (a || b) ≡ false
  or-of a b p q = ap (λ v. v || b) p ∙ q

  pub dead-same : (a : Actor) → IsAmong a (compacted_dead cl (is_lost cl f) (is_dropped g) f) ↔ ((is_known g a ≡ true) × (has_node (lost_in g) a.node ≡ false) × (IsReachedIn g a → ⊥))
  dead-same a =
      let law = compacted-unmarked cl (is_lost cl f) (is_dropped g) f a in
      let lost = ap (λ ns. has_node ns a.node) (lost-same cl f g stands) in (
        (λ dead. (
            let h = law.0 dead in
            let parts = or-parts (is_dropped g a) (is_lost cl f a.node) h.1 in (
              known-of (is_named g.shadows.names a) (is_dropped g a) (known-named a h.0) parts.0,
              lost ∙ parts.1,
              (λ reached. h.2 (reached-marked a reached)),
            ))),
        (λ h. (
            let parts = known-parts (is_named g.shadows.names a) (is_dropped g a) h.0 in
            law.1 (
              named-known a parts.0,
              or-of (is_dropped g a) (is_lost cl f a.node) parts.1 (sym lost ∙ h.1),
              (λ marked. h.2 (marked-reached a marked)),
            ))),
      )

-- marks that are what is reached are those of the sweep
pub traced-sweep : (g : Graph) (passes : Actor → Bool) → ArePlaced g → ((a : Actor) → (passes a ≡ true) ↔ IsReachedIn g a) → IsSweepBy g passes
traced-sweep g passes placed traced = record {
  marked = λ cl f stands a. (
    (λ t. reached-marked cl f g placed stands a ((traced a).0 t)),
    (λ marked. (traced a).1 (marked-reached cl f g placed stands a marked)),
  );
  dead = λ cl f stands a. (
      let law = dead-same cl f g placed stands a in (
        (λ dead. (let h = law.0 dead in (h.0, h.1, not-marked a (λ t. h.2 ((traced a).0 t))))),
        (λ h. law.1 (h.0, h.1, (λ reached. false≢true (sym h.2 ∙ (traced a).1 reached)))),
      ));
}
  where
    not-marked : (a : Actor) → (passes a ≡ true → ⊥) → passes a ≡ false
    not-marked a none = elim (is-or-not (passes a)) [ inl t ↦ absurd (none t) | inr e ↦ e ]
