-- In version 2 a child always holds its parent: the parent gives it a reference when it spawns it, and it may not give
-- up the last one. So a quiet set holds, with each parent, its children on nodes that are up, and the children of a
-- stopped actor are stopped.
use Rattle.std.proofs.Common.{◌≡◌, ◌<◌, ◌+◌, ◌==◌, ◌&&◌, ℕ, true, false, cond, IsTrue, List, [], ◌∷◌, refl, sym, ◌∙◌, ap, subst, inl, inr, arith}
use Rattle.std.proofs.lemmas.Bool.{and_from, cond_both, false≢true, ltb-true, or_left, or_right, and_parts, or_cases, not-true, eqb-true}
use Rattle.crgc_ids.specs.Actor.{Actor}
use Rattle.crgc_ids.specs.Members.{IsAmong}
use Rattle.history_model.specs.declared.events.Event.{Event}
use Rattle.history_model.specs.declared.events.Event.TheVariants.{Spawn, Drop, Sweep}
use Rattle.history_model.specs.Tally.{tally}
use Rattle.history_model.specs.Cluster.{Cluster, same_actor, newborn}
use Rattle.history_model.specs.Facts.{Note, note_by, notes, created}
use Rattle.history_model.specs.Held.{is_note_of, got, gave, held}
use Rattle.history_model.specs.State.{is_busy, is_up}
use Rattle.history_model.specs.Graph.{holds_actor}
use Rattle.history_model.specs.Sweeps.{dead_at, is_swept, is_stopped}
use Rattle.history_model.specs.Legal.{is_parent, gives_up_parent, IsLegal}
use Rattle.history_model.specs.Quiescent.{IsQuietSet}
use Rattle.history_model.proofs.Basics.{same_actor-refl, same_actor-equal, legal-kept}
use Rattle.history_model.proofs.AccountsGrowth.{carried-grows, got-grows}
use Rattle.history_model.proofs.AccountsTaken.{gave-got}
use Rattle.history_model.proofs.FoldSumsKnown.{holds-among}
use Rattle.history_model.proofs.Stopped.{dead_at-quiet, stopped-quiescent}
use Rattle.history_model.proofs.Lists.{tally-append}

-- a child notes a reference to its parent when it is born
spawn-gives : (cl : Cluster) (s : Actor) (p : List Event) → cl.version ≡ 2 → 0 < tally (is_note_of (newborn s.node p) s) (notes cl (Spawn s) p)
spawn-gives cl s p two =
    let child = newborn s.node p in
    let test = is_note_of child s in
    let last : List Note = note_by s (created child s) ∷ [] in
    let supervised : cond (cl.version == 2) last [] ≡ last = ap (λ n. cond (n == 2) last []) two in
    let given : tally test last ≡ 1 = rw (same_actor-refl child, same_actor-refl s) refl in
    let parts = tally-append test (note_by child (created child child) ∷ note_by child (created s child) ∷ []) (cond (cl.version == 2) last []) in
    omega (arith, ap (tally test) supervised, given, parts)

-- what a drop must keep: it is not of the last reference of a child to its parent
drop-keeps : (cl : Cluster) (b a : Actor) (p : List Event) → cl.version ≡ 2 → IsLegal cl (Drop b a ∷ p) → is_parent a b p ≡ true → gave b a p + 1 < got cl b a p
drop-keeps cl b a p two legal parent =
    let kept = legal-kept cl (Drop b a) p legal in
    let some : 0 < held cl b a p = ltb-true 0 (held cl b a p) kept.1.1.1.1.0 in
    let rule : gives_up_parent cl b a p ≡ false = not-true (gives_up_parent cl b a p) kept.1.1.1.1.1.0 in
    let others : held cl b a p ≡ 1 → ⊥ = λ one. false≢true (sym rule ∙ rw (ap (λ n. n == 2) two, parent, ap (λ n. n == 1) one) refl) in
    let more : 1 < held cl b a p = grind (arith, some, others) in
    omega (arith, more)

-- a child holds its parent
pub parent-held : (cl : Cluster) (h : List Event) → cl.version ≡ 2 → IsLegal cl h → (b a : Actor) → is_parent a b h ≡ true → gave b a h < got cl b a h
parent-held cl [] two legal b a parent = absurd (false≢true parent)
parent-held cl (Spawn s ∷ p) two legal b a parent =
    let child = newborn s.node p in
    let before = gave-got cl p legal.1 in
    let given = spawn-gives cl s p two in
    let new : (same_actor s a && same_actor child b) ≡ true → gave b a (Spawn s ∷ p) < got cl b a (Spawn s ∷ p) = λ same.
    let both = and_parts (same_actor s a) (same_actor child b) same in
    let given_here : 0 < tally (is_note_of b a) (notes cl (Spawn s) p) =
    subst (λ c. 0 < tally (is_note_of c a) (notes cl (Spawn s) p)) (same_actor-equal child b both.1)
    (subst (λ c. 0 < tally (is_note_of child c) (notes cl (Spawn s) p)) (same_actor-equal s a both.0) given) in
    omega (arith, before b a, given_here, carried-grows b a (Spawn s ∷ []) p) in
    elim (or_cases (same_actor s a && same_actor child b) (is_parent a b p) parent) [
      | inl same ↦ new same
      | inr earlier ↦ omega (arith, parent-held cl p two legal.1 b a earlier, got-grows cl b a (Spawn s ∷ []) p)
    ]
parent-held cl (Drop x y ∷ p) two legal b a parent =
    let before = parent-held cl p two legal.1 b a parent in
    let count : gave b a (Drop x y ∷ p) < got cl b a p = cond_both (same_actor x b && same_actor y a) (gave b a p + 1) (gave b a p) (λ n. n < got cl b a p)
    (λ same.
    let both = and_parts (same_actor x b) (same_actor y a) same in
    let legal_here = subst (λ c. IsLegal cl (Drop c a ∷ p)) (same_actor-equal x b both.0) (subst (λ c. IsLegal cl (Drop x c ∷ p)) (same_actor-equal y a both.1) legal) in
    drop-keeps cl b a p two legal_here parent)
    (λ _. before) in
    omega (arith, count, got-grows cl b a (Drop x y ∷ []) p)
parent-held cl (e ∷ p) two legal b a parent =
    omega (arith, parent-held cl p two legal.1 b a parent, got-grows cl b a (e ∷ []) p)

-- a quiet set holds the children of its members on nodes that are up
pub supervision : (cl : Cluster) (h : List Event) (q : List Actor) → cl.version ≡ 2 → IsLegal cl h → IsQuietSet cl h q → (a b : Actor) → IsAmong a q → is_parent a b h ≡ true → IsTrue (is_up b.node h) → IsAmong b q
supervision cl h q two legal quiet a b member parent up =
    let holds : 0 < held cl b a h = omega (arith, parent-held cl h two legal b a parent) in
    quiet.holders b a member up holds

-- a child lives on its parent's node
parent-node : (h : List Event) (b a : Actor) → is_parent a b h ≡ true → b.node ≡ a.node
parent-node [] b a parent = absurd (false≢true parent)
parent-node (Spawn s ∷ p) b a parent =
    elim (or_cases (same_actor s a && same_actor (newborn s.node p) b) (is_parent a b p) parent) [
      | inl same ↦ (
          let both = and_parts (same_actor s a) (same_actor (newborn s.node p) b) same in
          sym (ap (λ (x : Actor). x.node) (same_actor-equal (newborn s.node p) b both.1)) ∙ ap (λ (x : Actor). x.node) (same_actor-equal s a both.0))
      | inr earlier ↦ parent-node p b a earlier
    ]
parent-node (_ ∷ p) b a parent = parent-node p b a parent

-- with its parent a sweep finds each child
swept-child : (cl : Cluster) (m : ℕ) (h : List Event) → cl.version ≡ 2 → IsLegal cl (Sweep m ∷ h) → (b a : Actor) → is_parent a b h ≡ true → is_swept cl m h a ≡ true → is_swept cl m h b ≡ true
swept-child cl m h two legal b a parent swept =
    let dead = dead_at cl m h in
    let found = and_parts (a.node == m) (holds_actor dead a) swept in
    let here = parent-node h b a parent in
    let up : IsTrue (is_up b.node h) = subst (λ n. IsTrue (is_up n h)) (sym (here ∙ eqb-true a.node m found.0)) (legal-kept cl (Sweep m) h legal).1.0 in
    let child = supervision cl h dead two legal.1 (dead_at-quiet cl m h legal.1) a b ((holds-among dead a).0 found.1) parent up in
    and_from (b.node == m) (holds_actor dead b) (ap (λ n. n == m) here ∙ found.0) ((holds-among dead b).1 child)

-- so every child of a stopped actor is stopped: it has no child later, since it stays idle
pub stopped-children : (cl : Cluster) (h : List Event) → cl.version ≡ 2 → IsLegal cl h → (b a : Actor) → is_parent a b h ≡ true → is_stopped cl a h ≡ true → is_stopped cl b h ≡ true
stopped-children cl [] two legal b a parent stopped = absurd (false≢true stopped)
stopped-children cl (Sweep m ∷ p) two legal b a parent stopped =
    elim (or_cases (is_swept cl m p a) (is_stopped cl a p) stopped) [
      | inl now ↦ or_left (is_swept cl m p b) (is_stopped cl b p) (swept-child cl m p two legal b a parent now)
      | inr before ↦ or_right (is_swept cl m p b) (is_stopped cl b p) (stopped-children cl p two legal.1 b a parent before)
    ]
stopped-children cl (Spawn s ∷ p) two legal b a parent stopped =
    let quiescent = stopped-quiescent cl p a legal.1 stopped in
    let busy : is_busy s p ≡ true = (legal-kept cl (Spawn s) p legal).1.1.0 in
    elim (or_cases (same_actor s a && same_actor (newborn s.node p) b) (is_parent a b p) parent) [
      | inl same ↦ (
          let one = same_actor-equal s a (and_parts (same_actor s a) (same_actor (newborn s.node p) b) same).0 in
          absurd (false≢true (sym (quiescent.2.idle a quiescent.1) ∙ subst (λ x. is_busy x p ≡ true) one busy)))
      | inr earlier ↦ stopped-children cl p two legal.1 b a earlier stopped
    ]
stopped-children cl (_ ∷ p) two legal b a parent stopped = stopped-children cl p two legal.1 b a parent stopped
