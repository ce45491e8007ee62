-- What the windows and finals of a link tell, and what was admitted on it since its last window, is all that was
-- admitted on it.
use Rattle.std.proofs.Common.{◌≡◌, ◌&&◌, ◌==◌, ℕ, Bool, true, false, cond, List, [], ◌∷◌, ◌++◌, flat_map, refl, sym, ◌∙◌, ap, ap₂, append_assoc, append-nil}
use Rattle.std.proofs.lemmas.Bool.{cond-true, cond-false, eqb-true}
use Rattle.std.proofs.lemmas.Grind.{flat_map-append}
use Rattle.history_model.specs.declared.events.Event.{Event}
use Rattle.history_model.specs.declared.events.Event.TheVariants.{Publish, Window, Admit, Remove}
use Rattle.history_model.specs.Cluster.{Cluster}
use Rattle.history_model.specs.Messages.{admitted_by}
use Rattle.history_model.specs.Facts.{Fact, message_facts}
use Rattle.history_model.specs.Streams.{Notice, delta, window_of, final_of, queue, window, stream}
use Rattle.history_model.specs.Graph.{link_facts}
use Rattle.history_model.specs.Settled.{admitted_on}
use Rattle.history_model.proofs.JoinedBulletins.{link_facts-append}

-- what the windows and finals of links from s tell
abbrev pub told_from : ℕ → List Notice → List Fact
told_from s xs = link_facts (λ x. x == s) xs

-- a bulletin that tells nothing of a link may be put last
pub link_facts-skip : (t : ℕ → Bool) (xs : List Notice) (n : Notice) (b : Bool) → link_facts t (n ∷ []) ≡ []
    → link_facts t (cond b (xs ++ n ∷ []) xs) ≡ link_facts t xs
link_facts-skip t xs n true nothing = link_facts-append t xs (n ∷ []) ∙ ap (λ ys. link_facts t xs ++ ys) nothing ∙ append-nil (link_facts t xs)
link_facts-skip t xs n false nothing = refl

-- a window or final of the link from x to y tells what stood in the open window, which begins anew
window_told : (s d x y : ℕ) (open_at : ℕ → ℕ → List Fact) (xs : List Notice) (n : Notice) (told : List Fact)
    → told_from s (n ∷ []) ≡ cond (x == s) (open_at x y ++ []) []
    → told_from s xs ++ open_at s d ≡ told
    → told_from s (cond (y == d) (xs ++ n ∷ []) xs) ++ cond ((x == s) && (y == d)) [] (open_at s d) ≡ told
window_told s d x y open_at xs n told one before =
    let Goal : Bool → Bool → Type 0 = λ v w. told_from s (cond w (xs ++ n ∷ []) xs) ++ cond (v && w) [] (open_at s d) ≡ told in
    let other : x == s ≡ false → Goal false (y == d) = λ e.
    let nothing = one ∙ cond-false (x == s) (open_at x y ++ []) [] e in
    ap (λ ys. ys ++ open_at s d) (link_facts-skip (λ k. k == s) xs n (y == d) nothing) ∙ before in
    let same : x == s ≡ true → y == d ≡ true → Goal true true = λ e f.
    let all = one ∙ cond-true (x == s) (open_at x y ++ []) [] e ∙ append-nil (open_at x y) ∙ ap₂ open_at (eqb-true x s e) (eqb-true y d f) in
    append-nil (told_from s (xs ++ n ∷ [])) ∙ link_facts-append (λ k. k == s) xs (n ∷ []) ∙ ap (λ ys. told_from s xs ++ ys) all ∙ before in
    (elim (x == s) as (λ v. x == s ≡ v → Goal v (y == d)) [
      | true ↦ λ e. (elim (y == d) as (λ w. y == d ≡ w → Goal true w) [ true ↦ λ f. same e f | false ↦ λ f. before ]) refl
      | false ↦ λ e. other e
    ]) refl

-- each message that d admitted from s is told by one window or final of d's stream, or stands in the open window
pub windows-told : (cl : Cluster) (h : List Event) (s d : ℕ)
    → link_facts (λ x. x == s) (stream cl d h) ++ window s d h ≡ flat_map message_facts (admitted_on s d h)
windows-told cl [] s d = refl
windows-told cl (Publish m ∷ p) s d =
    ap (λ xs. xs ++ window s d p) (link_facts-skip (λ x. x == s) (stream cl d p) (delta (queue cl d p)) (m == d) refl) ∙ windows-told cl p s d
windows-told cl (Window y x ∷ p) s d =
    window_told s d x y (λ a b. window a b p) (stream cl d p) (window_of x (window x y p)) (flat_map message_facts (admitted_on s d p)) refl (windows-told cl p s d)
windows-told cl (Remove y x ∷ p) s d =
    window_told s d x y (λ a b. window a b p) (stream cl d p) (final_of x (window x y p)) (flat_map message_facts (admitted_on s d p)) refl (windows-told cl p s d)
windows-told cl (Admit x y k ∷ p) s d =
    let told = told_from s (stream cl d p) in
    let admitted = admitted_on s d p in
    let more = admitted_by (Admit x y k) p in
    let facts = flat_map message_facts more in
    let before = windows-told cl p s d in
    elim ((x == s) && (y == d)) as (λ v. told ++ cond v (window s d p ++ facts) (window s d p) ≡ flat_map message_facts (cond v (admitted ++ more) admitted)) [
      | true ↦ sym (append_assoc told (window s d p) facts) ∙ ap (λ xs. xs ++ facts) before ∙ sym (flat_map-append message_facts admitted more)
      | false ↦ before
    ]
windows-told cl (_ ∷ p) s d = windows-told cl p s d
