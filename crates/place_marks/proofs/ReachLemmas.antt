-- What is reached, one edge at a time.
use Rattle.std.proofs.Common.{◌≡◌, ◌<◌, ◌≤◌, ◌+◌, ℕ, true, List, [], ◌∷◌, ◌++◌, length, get_or, refl, sym, ◌∙◌, ap, subst, inl, inr, arith}
use Rattle.std.proofs.lemmas.Bool.{cases_eq}
use Rattle.place_marks.specs.Graph.{Graph, IsChain, IsGraph, IsReached, IsStep}
use Rattle.place_marks.specs.Marks.{AreMarksReached, AreStartsMarked, IsMarking, IsOrdered, Marking, MarksTargets, is_marked}

-- a chain goes on along one more edge
chain-on : (g : Graph) (r : ℕ) (bs : List ℕ) (b a : ℕ) → IsChain g r bs b → IsStep g b a → IsChain g r (bs ++ a ∷ []) a
chain-on g r [] b a here step = (subst (λ c. IsStep g c a) (sym here) step, refl)
chain-on g r (c ∷ bs) b a chain step = (chain.0, chain-on g c bs b a chain.1 step)

-- so does what is reached
pub reached-on : (g : Graph) (b a : ℕ) → IsReached g b → IsStep g b a → IsReached g a
reached-on g b a (r, bs, inside, start, chain) step = (r, bs ++ a ∷ [], inside, start, chain-on g r bs b a chain step)

-- a start is reached
pub reached-start : (g : Graph) (r : ℕ) → r < g.places → g.is_start r ≡ true → IsReached g r
reached-start g r inside start = (r, [], inside, start, refl)

-- what holds of the starts, and goes on along each edge, holds of all that is reached
pub reached-closed : (g : Graph) (P : ℕ → Type 0) → ((r : ℕ) → r < g.places → g.is_start r ≡ true → P r) → ((b a : ℕ) → P b → IsStep g b a → P a) → (a : ℕ) → IsReached g a → P a
reached-closed g P first on a (r, bs, inside, start, chain) = along r bs (first r inside start) chain
  where
    along : (r : ℕ) (bs : List ℕ) → P r → IsChain g r bs a → P a
    along r [] here same = subst P same here
    along r (b ∷ bs) here chain = along b bs (on r b here chain.0) chain.1

-- what is reached is a place
pub reached-inside : (g : Graph) → IsGraph g → (a : ℕ) → IsReached g a → a < g.places
reached-inside g whole = reached-closed g (λ a. a < g.places) (λ r inside start. inside) (λ b a inside step. (whole b a step).1)

-- ---- the worklist

-- the starts are marked, what is marked is reached, and the targets of the first so many places of the order are marked
pub record IsSpread (g : Graph) (m : Marking) (done : ℕ) : Type 0 where
  pub within : done ≤ length m.order
  pub starts : AreStartsMarked g m
  pub reached : AreMarksReached g m
  pub targets : (k : ℕ) → k < done → (a : ℕ) → IsStep g (get_or m.order k 0) a → is_marked m a ≡ true

-- the targets of one more place are marked
pub spread-on : (g : Graph) (old new : Marking) (done b : ℕ) → IsGraph g → IsSpread g old done → done < length old.order → b ≡ get_or old.order done 0 → is_marked old b ≡ true → MarksTargets g old new b → IsSpread g new (done + 1)
spread-on g old new done b whole spread more place marked targets =
    let extends = targets.extends in
    let long = extends.long in
    record {
      within = omega arith;
      starts = λ p inside start. extends.marks p (spread.starts p inside start);
      reached = λ p h. elim (targets.others p h) [
        | inl before ↦ spread.reached p before
        | inr step ↦ (let there = spread.reached b marked in ((whole b p step).1, reached-on g b p there.1 step))
      ];
      targets = λ k less a step. elim (cases_eq k done) [
        | inl last ↦ targets.targets a (subst (λ c. IsStep g c a) (ap (λ n. get_or new.order n 0) last ∙ extends.order done more ∙ sym place) step)
        | inr other ↦ (let before : k < done = omega arith in
            let there : k < length old.order = omega arith in
            extends.marks a (spread.targets k before a (subst (λ c. IsStep g c a) (extends.order k there) step)))
      ];
    }

-- where the targets of all places of the order are marked, marked is exactly what is reached
pub spread-whole : (g : Graph) (m : Marking) (done : ℕ) → IsSpread g m done → length m.order ≤ done → IsOrdered m.marks m.order → IsMarking g m
spread-whole g m done spread all ordered = λ p.
    (λ h. (spread.reached p h).1, reached-closed g (λ a. is_marked m a ≡ true) spread.starts on p)
  where
    on : (b a : ℕ) → is_marked m b ≡ true → IsStep g b a → is_marked m a ≡ true
    on b a h step =
        let listed = ordered.listed b h in
        let less = listed.1 in
        spread.targets listed.0 (omega arith) a (subst (λ c. IsStep g c a) (sym listed.2) step)
