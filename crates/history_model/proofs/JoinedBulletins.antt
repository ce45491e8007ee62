-- Joined bulletins tell what both tell: in deltas, of links from lost nodes, in all, and which Finals stand there.
use Rattle.std.proofs.Common.{◌≡◌, ℕ, Bool, true, false, cond, List, [], ◌∷◌, ◌++◌, refl, sym, ◌∙◌, ap, append_assoc}
use Rattle.history_model.specs.Facts.{Fact}
use Rattle.history_model.specs.Folds.{links_into}
use Rattle.history_model.specs.Graph.{delta_facts, link_facts, notice_facts}
use Rattle.history_model.specs.Streams.{Notice, delta, window_of, final_of}

-- put before joined lists, or not
before_joined : (v : Bool) (facts both first second : List Fact)
    → both ≡ first ++ second → cond v (facts ++ both) both ≡ cond v (facts ++ first) first ++ second
before_joined true facts both first second e = ap (λ xs. facts ++ xs) e ∙ sym (append_assoc facts first second)
before_joined false facts both first second e = e

pub delta_facts-append : (xs ys : List Notice) → delta_facts (xs ++ ys) ≡ delta_facts xs ++ delta_facts ys
delta_facts-append [] ys = refl
delta_facts-append (delta facts ∷ xs) ys = before_joined true facts _ _ _ (delta_facts-append xs ys)
delta_facts-append (window_of s facts ∷ xs) ys = delta_facts-append xs ys
delta_facts-append (final_of s facts ∷ xs) ys = delta_facts-append xs ys

pub link_facts-append : (t : ℕ → Bool) (xs ys : List Notice) → link_facts t (xs ++ ys) ≡ link_facts t xs ++ link_facts t ys
link_facts-append t [] ys = refl
link_facts-append t (delta facts ∷ xs) ys = link_facts-append t xs ys
link_facts-append t (window_of k facts ∷ xs) ys = before_joined (t k) facts _ _ _ (link_facts-append t xs ys)
link_facts-append t (final_of k facts ∷ xs) ys = before_joined (t k) facts _ _ _ (link_facts-append t xs ys)

pub notice_facts-append : (xs ys : List Notice) → notice_facts (xs ++ ys) ≡ notice_facts xs ++ notice_facts ys
notice_facts-append [] ys = refl
notice_facts-append (delta facts ∷ xs) ys = before_joined true facts _ _ _ (notice_facts-append xs ys)
notice_facts-append (window_of s facts ∷ xs) ys = before_joined true facts _ _ _ (notice_facts-append xs ys)
notice_facts-append (final_of s facts ∷ xs) ys = before_joined true facts _ _ _ (notice_facts-append xs ys)

pub links_into-append : (d : ℕ) (xs ys : List Notice) → links_into d (xs ++ ys) ≡ links_into d xs ++ links_into d ys
links_into-append d [] ys = refl
links_into-append d (final_of s facts ∷ xs) ys = ap (λ ls. (s, d) ∷ ls) (links_into-append d xs ys)
links_into-append d (delta facts ∷ xs) ys = links_into-append d xs ys
links_into-append d (window_of s facts ∷ xs) ys = links_into-append d xs ys
