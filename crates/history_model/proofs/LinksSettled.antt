-- The nodes that a fold shows as lost are settled: they have crashed, nothing is under way from them to a node outside,
-- and all that such a node admitted from them is folded.
use Rattle.std.proofs.Common.{◌≡◌, ◌<◌, ◌&&◌, ◌||◌, ◌==◌, ℕ, Bool, true, false, not, cond, List, [], ◌∷◌, ◌++◌, length, take, flat_map, refl, sym, ◌∙◌, ap, ap₂, subst, inl, inr, arith, append-nil, eq-eqb, ltb-true, ◌↔◌, ◌⊎◌, take-append-drop, length-append, drop}
use Rattle.std.proofs.lemmas.Bool.{cases_lt, cond-false, or_left, or_right, false_from_ne_true, and_from, true≢false, and_parts, or_cases, not-true, cases_Bool, eqb-true}
use Rattle.std.proofs.lemmas.List.{take-append-le, take_all}
use Rattle.std.specs.List.{list_any}
use Rattle.crgc_ids.specs.Members.{IsAmong}
use Rattle.crgc_ids.specs.Nodes.{nodes_below}
use Rattle.crgc_ids.proofs.LostNodesLaws.{lost_nodes-lost}
use Rattle.crgc_ids.proofs.MembersLaws.{IsAmong-append_cases, IsAmong-append_left, IsAmong-append_right, IsAmong-range, IsAmong-from_range, list_any-member, list_any-true}
use Rattle.history_model.specs.declared.events.Event.{Event}
use Rattle.history_model.specs.declared.events.Event.TheVariants.{Publish, Send, Window, Admit, Crash, Remove}
use Rattle.history_model.specs.Cluster.{Cluster, births}
use Rattle.history_model.specs.Messages.{Message, admitted_by, sent, is_closed}
use Rattle.history_model.specs.Facts.{Fact, message_facts}
use Rattle.history_model.specs.State.{is_crash, is_up}
use Rattle.history_model.specs.Streams.{Notice, delta, window_of, final_of, queue, window, stream}
use Rattle.history_model.specs.Folds.{Fold, fold_to, links_into, final_links, lost_of, is_lost}
use Rattle.history_model.specs.Legal.{IsLegal}
use Rattle.history_model.specs.Settled.{AreSettled, admitted_on}
use Rattle.history_model.proofs.Basics.{eqb-refl, legal-kept}
use Rattle.history_model.proofs.JoinedBulletins.{links_into-append}
use Rattle.history_model.proofs.LinksWindows.{link_facts-skip, told_from, windows-told}
use Rattle.history_model.proofs.AccountsBirths.{births-on_nodes}
use Rattle.history_model.proofs.Lists.{IsAmong-flat_map, IsAmong-from_flat_map, place-within}

-- ---- finals and removals

-- a bulletin that is no final may be put last
links_into-skip : (d : ℕ) (xs : List Notice) (n : Notice) (b : Bool) → links_into d (n ∷ []) ≡ []
    → links_into d (cond b (xs ++ n ∷ []) xs) ≡ links_into d xs
links_into-skip d xs n true none = links_into-append d xs (n ∷ []) ∙ ap (λ ls. links_into d xs ++ ls) none ∙ append-nil (links_into d xs)
links_into-skip d xs n false none = refl

-- the finals of the first n bulletins are finals of all
pub links_into-take : (d n : ℕ) (xs : List Notice) (l : ℕ × ℕ) → IsAmong l (links_into d (take n xs)) → IsAmong l (links_into d xs)
links_into-take d n xs l m =
    subst (λ ys. IsAmong l (links_into d ys)) (take-append-drop n xs)
    (subst (IsAmong l) (sym (links_into-append d (take n xs) (drop n xs))) (IsAmong-append_left l (links_into d (take n xs)) (links_into d (drop n xs)) m))

-- the only member
final_source : (s d x : ℕ) → IsAmong {A = ℕ × ℕ} (s, d) ((x, d) ∷ []) → s ≡ x
final_source s d x (inl e) = ap (λ (l : ℕ × ℕ). l.0) e
final_source s d x (inr none) = absurd none

-- the finals where one is put last, or not
final_put : (s d x : ℕ) (xs : List Notice) (facts : List Fact) (v : Bool)
    → IsAmong (s, d) (links_into d (cond v (xs ++ final_of x facts ∷ []) xs)) ↔ ((((x == s) && v) ≡ true) ⊎ IsAmong (s, d) (links_into d xs))
final_put s d x xs facts true =
    let joined = links_into-append d xs (final_of x facts ∷ []) in
    let pair : ℕ → ℕ × ℕ = λ k. (k, d) in (
      λ m. elim (IsAmong-append_cases (s, d) (links_into d xs) ((x, d) ∷ []) (subst (IsAmong (s, d)) joined m)) [
        | inl before ↦ inr before
        | inr last ↦ inl (and_from (x == s) true (eq-eqb x s (sym (final_source s d x last))) refl)
      ],
      λ u. subst (IsAmong (s, d)) (sym joined) (elim u [
        | inl now ↦ IsAmong-append_right (s, d) (links_into d xs) ((x, d) ∷ []) (inl (ap pair (sym (eqb-true x s (and_parts (x == s) true now).0))))
        | inr before ↦ IsAmong-append_left (s, d) (links_into d xs) ((x, d) ∷ []) before
      ]),
    )
final_put s d x xs facts false = (
  λ m. inr m,
  λ u. elim u [ inl now ↦ absurd (true≢false (sym (and_parts (x == s) false now).1)) | inr before ↦ before ],
)

-- a final in d's stream was given by a removal by d
pub final-closed : (cl : Cluster) (h : List Event) (s d : ℕ) → IsAmong (s, d) (links_into d (stream cl d h)) → is_closed s d h ≡ true
final-closed cl [] s d m = absurd m
final-closed cl (Publish k ∷ p) s d m =
    final-closed cl p s d (subst (IsAmong (s, d)) (links_into-skip d (stream cl d p) (delta (queue cl d p)) (k == d) refl) m)
final-closed cl (Window y x ∷ p) s d m =
    final-closed cl p s d (subst (IsAmong (s, d)) (links_into-skip d (stream cl d p) (window_of x (window x y p)) (y == d) refl) m)
final-closed cl (Remove y x ∷ p) s d m =
    elim ((final_put s d x (stream cl d p) (window x y p) (y == d)).0 m) [
      | inl now ↦ or_left ((x == s) && (y == d)) (is_closed s d p) now
      | inr before ↦ or_right ((x == s) && (y == d)) (is_closed s d p) (final-closed cl p s d before)
    ]
final-closed cl (_ ∷ p) s d m = final-closed cl p s d m

-- a folded final too
pub folded-closed : (cl : Cluster) (h : List Event) (s d n : ℕ) → IsAmong (s, d) (links_into d (take n (stream cl d h))) → is_closed s d h ≡ true
folded-closed cl h s d n m = final-closed cl h s d (links_into-take d n (stream cl d h) (s, d) m)

-- a removal by d gives a final in d's stream
pub closed-final : (cl : Cluster) (h : List Event) (s d : ℕ) → is_closed s d h ≡ true → IsAmong (s, d) (links_into d (stream cl d h))
closed-final cl [] s d t = absurd (true≢false (sym t))
closed-final cl (Publish k ∷ p) s d t =
    subst (IsAmong (s, d)) (sym (links_into-skip d (stream cl d p) (delta (queue cl d p)) (k == d) refl)) (closed-final cl p s d t)
closed-final cl (Window y x ∷ p) s d t =
    subst (IsAmong (s, d)) (sym (links_into-skip d (stream cl d p) (window_of x (window x y p)) (y == d) refl)) (closed-final cl p s d t)
closed-final cl (Remove y x ∷ p) s d t =
    (final_put s d x (stream cl d p) (window x y p) (y == d)).1 (elim (or_cases ((x == s) && (y == d)) (is_closed s d p) t) [
      | inl now ↦ inl now
      | inr before ↦ inr (closed-final cl p s d before)
    ])
closed-final cl (_ ∷ p) s d t = closed-final cl p s d t

-- ---- closed links

-- links that test the same are equal
pub link-equal : (x y s d : ℕ) → ((x == s) && (y == d)) ≡ true → (x ≡ s) × (y ≡ d)
link-equal x y s d t = let both = and_parts (x == s) (y == d) t in (eqb-true x s both.0, eqb-true y d both.1)

-- a link that is open is not one that is closed
not_closed : (p : List Event) (x y s d : ℕ) → not (is_closed x y p) ≡ true → is_closed s d p ≡ true → ((x == s) && (y == d)) ≡ false
not_closed p x y s d opened closed = false_from_ne_true ((x == s) && (y == d)) (λ t.
    let same = link-equal x y s d t in
    true≢false (sym closed ∙ sym (ap₂ (λ a b. is_closed a b p) same.0 same.1) ∙ not-true (is_closed x y p) opened))

-- a removed node has crashed
pub closed-crashed : (cl : Cluster) (h : List Event) → IsLegal cl h → (s d : ℕ) → is_closed s d h ≡ true → is_up s h ≡ false
closed-crashed cl [] legal s d t = absurd (true≢false (sym t))
closed-crashed cl (Remove y x ∷ p) legal s d t =
    let kept = legal-kept cl (Remove y x) p legal in
    elim (or_cases ((x == s) && (y == d)) (is_closed s d p) t) [
      | inl now ↦ subst (λ k. is_up k p ≡ false) (link-equal x y s d now).0 (not-true (is_up x p) kept.1.1.1.1.0)
      | inr before ↦ closed-crashed cl p legal.1 s d before
    ]
closed-crashed cl (Crash n ∷ p) legal s d t =
    let before = closed-crashed cl p legal.1 s d t in
    elim (n == s) as (λ v. not (v || list_any (is_crash s) p) ≡ false) [ true ↦ refl | false ↦ before ]
closed-crashed cl (_ ∷ p) legal s d t = closed-crashed cl p legal.1 s d t

-- nothing is admitted on a closed link, so its window is empty
pub closed-window : (cl : Cluster) (h : List Event) → IsLegal cl h → (s d : ℕ) → is_closed s d h ≡ true → window s d h ≡ []
closed-window cl [] legal s d t = refl
closed-window cl (Admit x y k ∷ p) legal s d t =
    let kept = legal-kept cl (Admit x y k) p legal in
    let more = flat_map message_facts (admitted_by (Admit x y k) p) in
    cond-false ((x == s) && (y == d)) (window s d p ++ more) (window s d p) (not_closed p x y s d kept.1.1.1.1.0 t) ∙ closed-window cl p legal.1 s d t
closed-window cl (Window y x ∷ p) legal s d t =
    let before = closed-window cl p legal.1 s d t in
    elim ((x == s) && (y == d)) as (λ v. cond v [] (window s d p) ≡ []) [ true ↦ refl | false ↦ before ]
closed-window cl (Remove y x ∷ p) legal s d t =
    let before = closed-window cl p legal.1 s d in
    (elim ((x == s) && (y == d)) as (λ v. (v || is_closed s d p) ≡ true → cond v [] (window s d p) ≡ []) [ true ↦ λ _. refl | false ↦ before ]) t
closed-window cl (_ ∷ p) legal s d t = closed-window cl p legal.1 s d t

-- ---- nothing is told of a link after its final

-- one more bulletin, which tells nothing of the link if its final was given
last_step : (s d n : ℕ) (xs : List Notice) (x : Notice) (b : Bool)
    → (IsAmong (s, d) (links_into d xs) → b ≡ true → told_from s (x ∷ []) ≡ [])
    → (IsAmong (s, d) (links_into d (take n xs)) → told_from s (take n xs) ≡ told_from s xs)
    → IsAmong (s, d) (links_into d (take n (cond b (xs ++ x ∷ []) xs)))
    → told_from s (take n (cond b (xs ++ x ∷ []) xs)) ≡ told_from s (cond b (xs ++ x ∷ []) xs)
last_step s d n xs x false quiet before m = before m
last_step s d n xs x true quiet before m =
    elim (cases_lt (length xs) n) [
      | inl whole ↦ ap (told_from s) (take_all n (xs ++ x ∷ []) (omega (arith, whole, length-append xs (x ∷ []))))
      | inr part ↦ (
          let same = take-append-le n xs (x ∷ []) part in
          let final = subst (λ ys. IsAmong (s, d) (links_into d ys)) same m in
          let nothing = quiet (links_into-take d n xs (s, d) final) refl in
          ap (told_from s) same ∙ before final ∙ sym (link_facts-skip (λ k. k == s) xs x true nothing))
    ]

-- a bulletin of an open link tells nothing of a closed one
other_link : (p : List Event) (x y s d : ℕ) (facts : List Fact)
    → not (is_closed x y p) ≡ true → is_closed s d p ≡ true → y == d ≡ true → cond (x == s) facts [] ≡ []
other_link p x y s d facts opened closed same =
    let apart = not_closed p x y s d opened closed in
    let differ : x == s ≡ false = false_from_ne_true (x == s) (λ e. true≢false (sym (and_from (x == s) (y == d) e same) ∙ apart)) in
    cond-false (x == s) facts [] differ

-- what the first n bulletins tell of a link, its final among them, is all that is told of it
pub final-last : (cl : Cluster) (h : List Event) → IsLegal cl h → (s d n : ℕ) → IsAmong (s, d) (links_into d (take n (stream cl d h)))
    → told_from s (take n (stream cl d h)) ≡ told_from s (stream cl d h)
final-last cl [] legal s d n m = ap (told_from s) (take_all n [] (omega arith))
final-last cl (Publish k ∷ p) legal s d n m =
    last_step s d n (stream cl d p) (delta (queue cl d p)) (k == d) (λ _ _. refl) (final-last cl p legal.1 s d n) m
final-last cl (Window y x ∷ p) legal s d n m =
    let kept = legal-kept cl (Window y x) p legal in
    last_step s d n (stream cl d p) (window_of x (window x y p)) (y == d)
    (λ final same. other_link p x y s d (window x y p ++ []) kept.1.1.1.1.0 (final-closed cl p s d final) same) (final-last cl p legal.1 s d n) m
final-last cl (Remove y x ∷ p) legal s d n m =
    let kept = legal-kept cl (Remove y x) p legal in
    last_step s d n (stream cl d p) (final_of x (window x y p)) (y == d)
    (λ final same. other_link p x y s d (window x y p ++ []) kept.1.1.1.1.1.0 (final-closed cl p s d final) same) (final-last cl p legal.1 s d n) m
final-last cl (_ ∷ p) legal s d n m = final-last cl p legal.1 s d n m

-- where the final of a link is folded, so is all that was admitted on it
pub final-told : (cl : Cluster) (h : List Event) → IsLegal cl h → (s d n : ℕ) → IsAmong (s, d) (links_into d (take n (stream cl d h)))
    → told_from s (take n (stream cl d h)) ≡ flat_map message_facts (admitted_on s d h)
final-told cl h legal s d n m =
    let all = told_from s (stream cl d h) in
    let empty = closed-window cl h legal s d (folded-closed cl h s d n m) in
    final-last cl h legal s d n m ∙ sym (ap (λ w. all ++ w) empty ∙ append-nil all) ∙ windows-told cl h s d

-- ---- nodes of messages

-- messages are sent to nodes of the cluster
pub sent-below : (cl : Cluster) (h : List Event) → IsLegal cl h → (s d : ℕ) → 0 < length (sent s d h) → d < cl.nodes
sent-below cl [] legal s d some = absurd (omega arith)
sent-below cl (Send f t refs ∷ p) legal s d some =
    let kept = legal-kept cl (Send f t refs) p legal in
    let born : t.serial < births t.node p = ltb-true t.serial (births t.node p) kept.1.0 in
    let recipient = births-on_nodes cl p legal.1 t.node (omega (arith, born)) in
    let before = sent-below cl p legal.1 s d in
    let longer : List Message = sent s d p ++ record { from = f; to = t; refs = refs } ∷ [] in
    (elim ((f.node == s) && (t.node == d)) as (λ v. ((f.node == s) && (t.node == d)) ≡ v → 0 < length (cond v longer (sent s d p)) → d < cl.nodes) [
      | true ↦ λ e _. subst (λ k. k < cl.nodes) (link-equal f.node t.node s d e).1 recipient
      | false ↦ λ _ l. before l
    ]) refl some
sent-below cl (_ ∷ p) legal s d some = sent-below cl p legal.1 s d some

-- ---- the lost nodes

-- the links of d's finals lead to d
links_into-end : (d : ℕ) (xs : List Notice) (l : ℕ × ℕ) → IsAmong l (links_into d xs) → l.1 ≡ d
links_into-end d [] l m = absurd m
links_into-end d (final_of s facts ∷ xs) l (inl e) = ap (λ (k : ℕ × ℕ). k.1) e
links_into-end d (final_of s facts ∷ xs) l (inr m) = links_into-end d xs l m
links_into-end d (delta facts ∷ xs) l m = links_into-end d xs l m
links_into-end d (window_of s facts ∷ xs) l m = links_into-end d xs l m

-- the final links of a fold are the finals of its streams
pub final_links-member : (cl : Cluster) (f : Fold) (s d : ℕ) → d < cl.nodes → IsAmong (s, d) (links_into d (f d)) → IsAmong (s, d) (final_links cl f)
final_links-member cl f s d below m =
    IsAmong-flat_map (λ k. links_into k (f k)) (s, d) d (nodes_below cl.nodes) (IsAmong-range d 0 cl.nodes (omega arith) (omega arith)) m

-- and nothing else
pub final_links-from : (cl : Cluster) (f : Fold) (s d : ℕ) → IsAmong (s, d) (final_links cl f) → (d < cl.nodes) × IsAmong (s, d) (links_into d (f d))
final_links-from cl f s d m =
    let found = IsAmong-from_flat_map (λ k. links_into k (f k)) (s, d) (nodes_below cl.nodes) m in
    let below = IsAmong-from_range found.0 0 cl.nodes found.1 in
    let same : d ≡ found.0 = links_into-end found.0 (f found.0) (s, d) found.2 in
    (omega (arith, below, same), subst (λ k. IsAmong (s, d) (links_into k (f k))) (sym same) found.2)

-- the test for a lost node against the list of them
pub lost-among : (cl : Cluster) (f : Fold) (n : ℕ) → is_lost cl f n ≡ true → IsAmong n (lost_of cl f)
lost-among cl f n t =
    let found = list_any-true (λ x. n == x) (lost_of cl f) t in
    subst (λ x. IsAmong x (lost_of cl f)) (sym (eqb-true n found.0 found.2)) found.1

-- and the list against the test
pub among-lost : (cl : Cluster) (f : Fold) (n : ℕ) → IsAmong n (lost_of cl f) → is_lost cl f n ≡ true
among-lost cl f n m = list_any-member (λ x. n == x) n (lost_of cl f) m (eqb-refl n)

-- the final of the link from a lost node to each other node is folded
pub lost-final : (cl : Cluster) (f : Fold) (s d : ℕ) → is_lost cl f s ≡ true → d < cl.nodes → is_lost cl f d ≡ false
    → IsAmong (s, d) (links_into d (f d))
lost-final cl f s d lost below out =
    let all = lost_nodes-lost cl.nodes (final_links cl f) s (lost-among cl f s lost) in
    (final_links-from cl f s d (all.2 d below (λ m. true≢false (sym (among-lost cl f d m) ∙ out)))).1

-- so it is at any first bulletins of the streams
pub settled : (cl : Cluster) (h : List Event) → IsLegal cl h → (c : ℕ → ℕ) → AreSettled cl c (is_lost cl (fold_to cl c h)) h
settled cl h legal c =
    let f = fold_to cl c h in record {
      crashed = λ n lost.
          let removed = (lost_nodes-lost cl.nodes (final_links cl f) n (lost-among cl f n lost)).1 in
          let final = (final_links-from cl f n removed.0 removed.1).1 in
          closed-crashed cl h legal n removed.0 (folded-closed cl h n removed.0 (c removed.0) final);
      closed = λ m _ on_link lost.
          let below = sent-below cl h legal m.from.node m.to.node (omega (arith, place-within (sent m.from.node m.to.node h) on_link.0 m on_link.1)) in
          elim (cases_Bool (is_lost cl f m.to.node)) [
            | inl inside ↦ inside
            | inr out ↦ (
                let final = lost-final cl f m.from.node m.to.node lost below out in
                let closed = folded-closed cl h m.from.node m.to.node (c m.to.node) final in
                absurd (true≢false (sym closed ∙ on_link.2)))
          ];
      told = λ s d below lost out. final-told cl h legal s d (c d) (lost-final cl f s d lost below out);
    }
