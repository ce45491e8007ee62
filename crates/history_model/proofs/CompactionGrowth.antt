-- As more is folded: horizons rise, own entries stay, what is noted and not told shrinks, and what is known stays known.
-- `CompactionDead` compares the counts of two folds by these.
use Rattle.std.proofs.Common.{◌≡◌, ◌≤◌, ◌+◌, ◌&&◌, ℕ, zero, suc, Bool, true, false, cond, List, [], ◌∷◌, ◌++◌, length, take, drop, refl, sym, ◌∙◌, ap, subst, arith, append_assoc, take-append-drop}
use Rattle.std.proofs.Math.Seq.{take-append_seam}
use Rattle.std.proofs.lemmas.Bool.{and_from, and_parts, false≢true, lt-ltb, ltb-true}
use Rattle.std.specs.Prelude.{◌==◌, nat_lt, Some}
use Rattle.crgc_ids.specs.Actor.{Actor}
use Rattle.crgc_ids.specs.Members.{IsAmong, IsPart}
use Rattle.crgc_ids.proofs.MembersLaws.{IsAmong-append_left}
use Rattle.history_model.specs.declared.events.Event.{Event}
use Rattle.history_model.specs.declared.events.Event.TheVariants.{Flush, Publish}
use Rattle.history_model.specs.Tally.{tally}
use Rattle.history_model.specs.Cluster.{Cluster, same_actor}
use Rattle.history_model.specs.Compaction.{IsFoldOf, IsWithin}
use Rattle.history_model.specs.Facts.{Flags, Note, notes}
use Rattle.history_model.specs.Folds.{Fold, cut_at, fold_to, folded}
use Rattle.history_model.specs.Graph.{known_actors, notice_facts}
use Rattle.history_model.specs.Streams.{Notice, flags_at, stream}
use Rattle.history_model.proofs.AccountsGrowth.{length-begins}
use Rattle.history_model.proofs.FoldSumsHorizons.{flush_horizon-within, publish_horizon-within}
use Rattle.history_model.proofs.FoldSumsKnown.{known-named}
use Rattle.history_model.proofs.JoinedBulletins.{notice_facts-append}
use Rattle.history_model.proofs.LinksStreams.{cut-grows, stream-grows}
use Rattle.history_model.proofs.Lists.{tally-append}
use Rattle.history_model.proofs.Sums.{flush_horizon, horizon_flags, noted_sum, publish_horizon, told_horizon, told_sum}

-- ---- folds within folds

pub within-trans : (e f g : Fold) → IsWithin e f → IsWithin f g → IsWithin e g
within-trans e f g first second o =
    let more = first o in
    let rest = second o in
    (more.0 ++ rest.0, rest.1 ∙ ap (λ xs. xs ++ rest.0) more.1 ∙ append_assoc (e o) more.0 rest.0)

-- the lengths of a fold are cuts that give it
pub fold-cuts : (cl : Cluster) (h : List Event) (f : Fold) → IsFoldOf cl h f → fold_to cl (λ o. length (f o)) h ≡ f
fold-cuts cl h f fold = λ i o. (ap (take (length (f o))) (fold o).1 ∙ take-append_seam (f o) (fold o).0) i

-- they rise with it
pub within-cuts : (g f : Fold) → IsWithin g f → (o : ℕ) → length (g o) ≤ length (f o)
within-cuts g f within o = length-begins (g o) (f o) (within o)

-- the first bulletins of each stream are a fold
pub fold_to-fold : (cl : Cluster) (c : ℕ → ℕ) (h : List Event) → IsFoldOf cl h (fold_to cl c h)
fold_to-fold cl c h o = (drop (c o) (stream cl o h), sym (take-append-drop (c o) (stream cl o h)))

-- more of a longer list begins with less of it
take-within : (c d : ℕ) (xs more : List Notice) → c ≤ d → (ys : List Notice) × (take d (xs ++ more) ≡ take c xs ++ ys)
take-within zero d xs more less = (take d (xs ++ more), refl)
take-within (suc c) d [] more less = (take d more, refl)
take-within (suc c) zero (x ∷ xs) more less = absurd (omega arith)
take-within (suc c) (suc d) (x ∷ xs) more less = (let later = take-within c d xs more (omega arith) in (later.0, ap (λ l. x ∷ l) later.1))

-- more bulletins of a longer history are a fold around
pub fold_to-within : (cl : Cluster) (c d : ℕ → ℕ) (q h : List Event) → ((o : ℕ) → c o ≤ d o)
    → IsWithin (fold_to cl c h) (fold_to cl d (q ++ h))
fold_to-within cl c d q h more o =
    let grows = stream-grows cl o q h in
    let later = take-within (c o) (d o) (stream cl o h) grows.0 (more o) in
    (later.0, ap (take (d o)) grows.1 ∙ later.1)

-- so is what is folded at a node later
pub folded-within : (cl : Cluster) (m : ℕ) (q h : List Event) → IsWithin (folded cl m h) (folded cl m (q ++ h))
folded-within cl m q h = fold_to-within cl (cut_at cl m h) (cut_at cl m (q ++ h)) q h (cut-grows cl m q h)

-- ---- horizons

-- a test of a position passes below a higher bound too
below-higher : (v : Bool) (k t u : ℕ) → t ≤ u → (v && nat_lt k t) ≡ true → (v && nat_lt k u) ≡ true
below-higher v k t u higher passed =
    let both = and_parts v (nat_lt k t) passed in
    and_from v (nat_lt k u) both.0 (lt-ltb k u (omega (arith, ltb-true k t both.1, higher)))

-- the last position that passes is no lower where more pass
last-rises : (v w : Bool) (k low high : ℕ) → (v ≡ true → w ≡ true) → low ≤ k → low ≤ high → cond v k low ≤ cond w k high
last-rises true true k low high more within before = omega arith
last-rises true false k low high more within before = absurd (false≢true (more refl))
last-rises false true k low high more within before = within
last-rises false false k low high more within before = before

flush_horizon-rises : (a : Actor) (t u : ℕ) (h : List Event) → t ≤ u → flush_horizon a t h ≤ flush_horizon a u h
flush_horizon-rises a t u [] higher = omega arith
flush_horizon-rises a t u (Flush b ∷ p) higher =
    last-rises (same_actor b a && nat_lt (length p) t) (same_actor b a && nat_lt (length p) u) (length p) (flush_horizon a t p) (flush_horizon a u p)
    (below-higher (same_actor b a) (length p) t u higher) (flush_horizon-within a t p) (flush_horizon-rises a t u p higher)
flush_horizon-rises a t u (_ ∷ p) higher = flush_horizon-rises a t u p higher

publish_horizon-rises : (cl : Cluster) (o n k : ℕ) (h : List Event) → n ≤ k → publish_horizon cl o n h ≤ publish_horizon cl o k h
publish_horizon-rises cl o n k [] more = omega arith
publish_horizon-rises cl o n k (Publish m ∷ p) more =
    let j = length (stream cl o p) in
    last-rises ((m == o) && nat_lt j n) ((m == o) && nat_lt j k) (length p) (publish_horizon cl o n p) (publish_horizon cl o k p)
    (below-higher (m == o) j n k more) (publish_horizon-within cl o n p) (publish_horizon-rises cl o n k p more)
publish_horizon-rises cl o n k (_ ∷ p) more = publish_horizon-rises cl o n k p more

-- where a was flushed below a position, it was flushed below a higher one too
flags-later : (a : Actor) (t u : ℕ) → t ≤ u → (g : Flags) (h : List Event) → horizon_flags a t h ≡ Some g
    → (k : Flags) × (horizon_flags a u h ≡ Some k)
flags-later a t u higher g [] e = absurd (cc)
flags-later a t u higher g (Flush b ∷ p) e =
    let below = same_actor b a && nat_lt (length p) t in
    let later = same_actor b a && nat_lt (length p) u in
    let Later : Bool → Type 0 = λ w. (k : Flags) × (cond w (Some (flags_at a p)) (horizon_flags a u p) ≡ Some k) in
    let now : Later true = (flags_at a p, refl) in
    let From : Bool → Type 0 = λ v. (v ≡ true → later ≡ true) → cond v (Some (flags_at a p)) (horizon_flags a t p) ≡ Some g → Later later in
    let from : From below = elim below as From [
      | true ↦ λ passes _. subst Later (sym (passes refl)) now
      | false ↦ λ _ f. elim later as Later [ true ↦ now | false ↦ flags-later a t u higher g p f ]
    ] in
    from (below-higher (same_actor b a) (length p) t u higher) e
flags-later a t u higher g (_ ∷ p) e = flags-later a t u higher g p e

module _ (cl : Cluster) (h : List Event) (c d : ℕ → ℕ) (more : (o : ℕ) → c o ≤ d o) where
  -- where more is folded, the publishes that are folded of each node go no less far
  published-rises : (o : ℕ) → publish_horizon cl o (c o) h ≤ publish_horizon cl o (d o) h
  published-rises o = publish_horizon-rises cl o (c o) (d o) h (more o)

  -- so each actor is told no less far
  pub told_horizon-rises : (a : Actor) → told_horizon cl c h a ≤ told_horizon cl d h a
  told_horizon-rises a =
      flush_horizon-rises a (publish_horizon cl a.node (c a.node) h) (publish_horizon cl a.node (d a.node) h) h (published-rises a.node)

  -- and an own entry stays, or a later one takes its place
  pub flags-stay : (a : Actor) (g : Flags) → horizon_flags a (publish_horizon cl a.node (c a.node) h) h ≡ Some g
      → (k : Flags) × (horizon_flags a (publish_horizon cl a.node (d a.node) h) h ≡ Some k)
  flags-stay a g =
      flags-later a (publish_horizon cl a.node (c a.node) h) (publish_horizon cl a.node (d a.node) h) (published-rises a.node) g h

-- ---- what is told

-- where each item passes the first two tests no more often than the other two, so do all together
tally-fewer : {X : Type 0} (p q r s : X → Bool) (xs : List X) → ((x : X) → cond (p x) 1 0 + cond (q x) 1 0 ≤ cond (r x) 1 0 + cond (s x) 1 0)
    → tally p xs + tally q xs ≤ tally r xs + tally s xs
tally-fewer p q r s [] fewer = omega arith
tally-fewer p q r s (x ∷ xs) fewer =
    omega (
      arith,
      tally-fewer p q r s xs fewer,
      fewer x,
      tally-append p (x ∷ []) xs,
      tally-append q (x ∷ []) xs,
      tally-append r (x ∷ []) xs,
      tally-append s (x ∷ []) xs,
    )

untold-fewer : (before after less all : Bool) → (before ≡ true → after ≡ true) → (less ≡ true → all ≡ true)
    → cond (before && all) 1 0 + cond less 1 0 ≤ cond (after && less) 1 0 + cond all 1 0
untold-fewer true true true true rises part = omega arith
untold-fewer true true true false rises part = absurd (false≢true (part refl))
untold-fewer true true false all rises part = omega arith
untold-fewer true false less all rises part = absurd (false≢true (rises refl))
untold-fewer false after true true rises part = omega arith
untold-fewer false after true false rises part = absurd (false≢true (part refl))
untold-fewer false after false all rises part = omega arith

-- with higher horizons, of fewer notes, no more is noted and not told
pub untold-shrinks : (cl : Cluster) (u v : Actor → ℕ) (s t : Note → Bool)
    → ((a : Actor) → u a ≤ v a) → ((x : Note) → s x ≡ true → t x ≡ true)
    → (h : List Event) → told_sum cl u t h + noted_sum cl s h ≤ told_sum cl v s h + noted_sum cl t h
untold-shrinks cl u v s t rises part [] = omega arith
untold-shrinks cl u v s t rises part (e ∷ p) =
    let before = untold-shrinks cl u v s t rises part p in
    let here = tally-fewer (λ x. nat_lt (length p) (u x.by) && t x) s (λ x. nat_lt (length p) (v x.by) && s x) t (notes cl e p)
    (λ x. untold-fewer (nat_lt (length p) (u x.by)) (nat_lt (length p) (v x.by)) (s x) (t x)
    (λ low. lt-ltb (length p) (v x.by) (omega (arith, ltb-true (length p) (u x.by) low, rises x.by))) (part x)) in
    omega (arith, before, here)

-- ---- known actors

-- who is known stays known
pub known-stays : (cl : Cluster) (g f : Fold) → IsWithin g f → IsPart (known_actors cl g) (known_actors cl f)
known-stays cl g f within a known =
    let named = (known-named cl g a).0 known in
    let more = within named.0 in
    let facts : notice_facts (f named.0) ≡ notice_facts (g named.0) ++ notice_facts more.0 =
    ap notice_facts more.1 ∙ notice_facts-append (g named.0) more.0 in
    let fact = subst (IsAmong named.2) (sym facts) (IsAmong-append_left named.2 (notice_facts (g named.0)) (notice_facts more.0) named.3) in
    (known-named cl f a).1 (named.0, named.1, named.2, fact, named.4)
