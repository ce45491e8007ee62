-- The known actors of a fold, and that both ends of a positive edge are known: so the dead may be sought among the
-- known actors, as `FoldSumsDead` does.
use Rattle.std.proofs.Common.{◌≡◌, ◌<◌, ◌+◌, ◌||◌, ◌↔◌, ◌⊎◌, ℕ, Bool, true, false, cond, List, [], ◌∷◌, ◌++◌, sym, subst, inl, inr, arith}
use Rattle.std.proofs.lemmas.Bool.{false≢true, ltb-true, or_left, or_right, and_parts, or_cases}
use Rattle.std.specs.List.{flat_map}
use Rattle.crgc_ids.specs.Actor.{Actor}
use Rattle.crgc_ids.specs.Nodes.{nodes_below}
use Rattle.crgc_ids.specs.Members.{IsAmong}
use Rattle.crgc_ids.proofs.MembersLaws.{IsAmong-append_cases, IsAmong-append_left, IsAmong-append_right, IsAmong-from_range, IsAmong-range, list_any-member, list_any-true}
use Rattle.history_model.specs.Tally.{tally}
use Rattle.history_model.specs.Cluster.{Cluster, same_actor}
use Rattle.history_model.specs.Facts.{Fact, received, sent_to, created, released, flagged, is_created, names}
use Rattle.history_model.specs.Streams.{Notice, delta, window_of, final_of}
use Rattle.history_model.specs.Folds.{Fold}
use Rattle.history_model.specs.Graph.{carried_count, created_count, delta_facts, has_edge, holds_actor, known_actors, link_facts, named_by, notice_facts, released_count}
use Rattle.history_model.proofs.Basics.{same_actor-equal, same_actor-refl}
use Rattle.history_model.proofs.RisingActors.{rising-among}
use Rattle.history_model.proofs.Lists.{IsAmong-flat_map, IsAmong-from_flat_map, tally-some}

-- ---- members of lists

-- the test for a member tells the members
pub holds-among : (xs : List Actor) (a : Actor) → (holds_actor xs a ≡ true) ↔ IsAmong a xs
holds-among xs a = (
  λ t.
      let found = list_any-true (λ x. same_actor x a) xs t in
      subst (λ x. IsAmong x xs) (same_actor-equal found.0 a found.2) found.1,
  λ h. list_any-member (λ x. same_actor x a) a xs h (same_actor-refl a),
)

-- ---- named and known actors

-- the tests for one name and for two
one-named : (a b : Actor) → (same_actor b a ≡ true) ↔ IsAmong a (b ∷ [])
one-named a b = (
  λ t. inl (sym (same_actor-equal b a t)),
  λ h. elim h [ inl e ↦ subst (λ c. same_actor c a ≡ true) e (same_actor-refl a) | inr k ↦ absurd k ],
)

two-named : (a b c : Actor) → ((same_actor b a || same_actor c a) ≡ true) ↔ IsAmong a (b ∷ c ∷ [])
two-named a b c = (
  λ t. elim (or_cases (same_actor b a) (same_actor c a) t) [ inl l ↦ inl (sym (same_actor-equal b a l)) | inr r ↦ inr (inl (sym (same_actor-equal c a r))) ],
  λ h. elim h [
    | inl e ↦ or_left (same_actor b a) (same_actor c a) ((one-named a b).1 (inl e))
    | inr k ↦ or_right (same_actor b a) (same_actor c a) ((one-named a c).1 k)
  ],
)

-- the test for a name tells the actors named
pub names-among : (a : Actor) (x : Fact) → (names a x ≡ true) ↔ IsAmong a (named_by x)
names-among a (received b) = one-named a b
names-among a (sent_to b) = one-named a b
names-among a (created b c) = two-named a b c
names-among a (released b c) = two-named a b c
names-among a (flagged b g) = one-named a b

-- exactly the actors that a fact of some bulletin names are known
pub known-named : (cl : Cluster) (f : Fold) (a : Actor) → IsAmong a (known_actors cl f) ↔ ((o : ℕ) × (o < cl.nodes) × (x : Fact) × IsAmong x (notice_facts (f o)) × (names a x ≡ true))
known-named cl f a =
    let facts : ℕ → List Fact = λ o. notice_facts (f o) in
    let all : List Fact = flat_map facts (nodes_below cl.nodes) in (
      λ h.
          let named = IsAmong-from_flat_map named_by a all ((rising-among a (flat_map named_by all)).0 h) in
          let told = IsAmong-from_flat_map facts named.0 (nodes_below cl.nodes) named.1 in
          let below = IsAmong-from_range told.0 0 cl.nodes told.1 in
          (told.0, omega arith, named.0, told.2, (names-among a named.0).1 named.2),
      λ h.
          let fact = IsAmong-flat_map facts h.2 h.0 (nodes_below cl.nodes) (IsAmong-range h.0 0 cl.nodes (omega arith) (omega arith)) h.3 in
          (rising-among a (flat_map named_by all)).1 (IsAmong-flat_map named_by a h.2 all fact ((names-among a h.2).0 h.4)),
    )

-- ---- edges

-- what deltas tell is among the facts of all bulletins
pub delta-notice : (x : Fact) (ns : List Notice) → IsAmong x (delta_facts ns) → IsAmong x (notice_facts ns)
delta-notice x [] h = h
delta-notice x (delta facts ∷ ns) h =
    elim (IsAmong-append_cases x facts (delta_facts ns) h) [
      | inl k ↦ IsAmong-append_left x facts (notice_facts ns) k
      | inr k ↦ IsAmong-append_right x facts (notice_facts ns) (delta-notice x ns k)
    ]
delta-notice x (window_of s facts ∷ ns) h = IsAmong-append_right x facts (notice_facts ns) (delta-notice x ns h)
delta-notice x (final_of s facts ∷ ns) h = IsAmong-append_right x facts (notice_facts ns) (delta-notice x ns h)

link-piece : (x : Fact) (b : Bool) (facts told all : List Fact) → (IsAmong x told → IsAmong x all) → IsAmong x (cond b (facts ++ told) told) → IsAmong x (facts ++ all)
link-piece x true facts told all part h =
    elim (IsAmong-append_cases x facts told h) [ inl k ↦ IsAmong-append_left x facts all k | inr k ↦ IsAmong-append_right x facts all (part k) ]
link-piece x false facts told all part h = IsAmong-append_right x facts all (part h)

-- what windows and finals tell is among them
pub link-notice : (lost : ℕ → Bool) (x : Fact) (ns : List Notice) → IsAmong x (link_facts lost ns) → IsAmong x (notice_facts ns)
link-notice lost x [] h = h
link-notice lost x (delta facts ∷ ns) h = IsAmong-append_right x facts (notice_facts ns) (link-notice lost x ns h)
link-notice lost x (window_of s facts ∷ ns) h = link-piece x (lost s) facts (link_facts lost ns) (notice_facts ns) (link-notice lost x ns) h
link-notice lost x (final_of s facts ∷ ns) h = link-piece x (lost s) facts (link_facts lost ns) (notice_facts ns) (link-notice lost x ns) h

-- so is what the deltas of a node that is not lost tell
out-notice : (b : Bool) (x : Fact) (ns : List Notice) → IsAmong x (cond b [] (delta_facts ns)) → IsAmong x (notice_facts ns)
out-notice true x ns h = absurd h
out-notice false x ns h = delta-notice x ns h

-- what tells that a reference was made names its owner and its target
pub created-names : (b a : Actor) (x : Fact) → is_created b a x ≡ true → (names b x ≡ true) × (names a x ≡ true)
created-names b a (created c d) t =
    let both = and_parts (same_actor c b) (same_actor d a) t in
    ((two-named b c d).1 (inl (sym (same_actor-equal c b both.0))), (two-named a c d).1 (inr (inl (sym (same_actor-equal d a both.1)))))
created-names b a _ t = absurd (false≢true t)

-- where pieces of the nodes' bulletins tell of a reference, its owner and its target are known
pair-known : (cl : Cluster) (f : Fold) (b a : Actor) (pieces : ℕ → List Fact) → ((o : ℕ) (x : Fact) → IsAmong x (pieces o) → IsAmong x (notice_facts (f o))) → 0 < tally (is_created b a) (flat_map pieces (nodes_below cl.nodes)) → IsAmong b (known_actors cl f) × IsAmong a (known_actors cl f)
pair-known cl f b a pieces part l =
    let fact = tally-some (is_created b a) (flat_map pieces (nodes_below cl.nodes)) l in
    let piece = IsAmong-from_flat_map pieces fact.0 (nodes_below cl.nodes) fact.1 in
    let below = IsAmong-from_range piece.0 0 cl.nodes piece.1 in
    let named = created-names b a fact.0 fact.2 in
    let known : (c : Actor) → names c fact.0 ≡ true → IsAmong c (known_actors cl f) =
    λ c t. (known-named cl f c).1 (piece.0, omega arith, fact.0, part piece.0 fact.0 piece.2, t) in
    (known b named.0, known a named.1)

-- both ends of a positive edge are known
pub edge-known : (cl : Cluster) (lost : ℕ → Bool) (f : Fold) (b a : Actor) → has_edge cl lost f b a ≡ true → IsAmong b (known_actors cl f) × IsAmong a (known_actors cl f)
edge-known cl lost f b a edge =
    let less = ltb-true (released_count cl f b a) (created_count cl lost f b a + carried_count cl lost f b a) edge in
    let some : (0 < created_count cl lost f b a) ⊎ (0 < carried_count cl lost f b a) = grind arith in
    elim some [
      | inl told ↦ pair-known cl f b a (λ o. cond (lost o) [] (delta_facts (f o))) (λ o x. out-notice (lost o) x (f o)) told
      | inr admitted ↦ pair-known cl f b a (λ o. link_facts lost (f o)) (λ o x. link-notice lost x (f o)) admitted
    ]
