-- What is live after the next event of a legal history was live before, or is the message that the event sends. So
-- `Stability` need look at senders alone.
use Rattle.std.proofs.Common.{◌≡◌, ◌≢◌, ◌<◌, ◌≤◌, ◌+◌, ◌-◌, ◌&&◌, ◌⊎◌, ◌==◌, ℕ, zero, suc, Bool, true, false, List, [], ◌∷◌, ◌++◌, length, drop, refl, sym, ◌∙◌, ap, subst, inl, inr, arith, IsTrue, IsFalse, if◌then◌else◌, nat_lt, filter, slice_get, option_to_list, Option, Some, None, add-one}
use Rattle.std.proofs.lemmas.Bool.{cond_both, false≢true, or_parts, not-true}
use Rattle.std.proofs.lemmas.Bool.Decides.{Decides-eqb, Decides-ltb}
use Rattle.std.proofs.lemmas.List.{drop-append-le}
use Rattle.crgc_ids.specs.Actor.{Actor}
use Rattle.crgc_ids.specs.Members.{IsAmong}
use Rattle.crgc_ids.proofs.MembersLaws.{IsAmong-append_cases, IsAmong-from_filter}
use Rattle.history_model.specs.declared.events.Event.{Event}
use Rattle.history_model.specs.declared.events.Event.TheVariants.{Send, Admit, Repeat}
use Rattle.history_model.specs.Tally.{tally}
use Rattle.history_model.specs.Cluster.{Cluster}
use Rattle.history_model.specs.Messages.{Message, sent, message_at, is_admit, is_lose, is_repeat, is_removal, is_take_by, was_admitted, admitted_by, is_to, mail, takes, waiting, copies, is_closed}
use Rattle.history_model.specs.State.{is_up}
use Rattle.history_model.specs.Legal.{IsLegal}
use Rattle.history_model.specs.Quiescent.{IsOnLink, IsLive}
use Rattle.history_model.specs.Uses.{sent_by}
use Rattle.history_model.proofs.Basics.{legal-kept}
use Rattle.history_model.proofs.AccountsBirths.{among-else, among-then, message_at-among, sent-among}
use Rattle.history_model.proofs.AccountsCopies.{same_number}
use Rattle.history_model.proofs.AccountsGrowth.{up-before}
use Rattle.history_model.proofs.AccountsTaken.{takes-mail}
use Rattle.history_model.proofs.Lists.{tally-more}

-- ---- lists

IsAmong-drop_suc : {A : Type 0} (x : A) (n : ℕ) (xs : List A) → IsAmong x (drop (suc n) xs) → IsAmong x (drop n xs)
IsAmong-drop_suc x n [] among = absurd among
IsAmong-drop_suc x zero (y ∷ ys) among = inr among
IsAmong-drop_suc x (suc n) (y ∷ ys) among = IsAmong-drop_suc x n ys among

-- ---- what waits

-- what waits after an event waited before, or the event admits it
waiting-appended : (cl : Cluster) (p : List Event) → IsLegal cl p → (b : Actor) (more : List Message) (m : Message)
    → IsAmong m (drop (takes b p) (mail b p ++ filter (is_to b) more)) → IsAmong m (waiting b p) ⊎ IsAmong m more
waiting-appended cl p legal b more m among =
    let new = filter (is_to b) more in
    let split = drop-append-le (takes b p) (mail b p) new (takes-mail cl p legal b) in
    elim (IsAmong-append_cases m (waiting b p) new (subst (IsAmong m) split among)) [
      | inl before ↦ inl before
      | inr now ↦ inr (IsAmong-from_filter (is_to b) m more now).0
    ]

waiting-next : (cl : Cluster) (e : Event) (p : List Event) → IsLegal cl (e ∷ p) → (b : Actor) (m : Message) → IsAmong m (waiting b (e ∷ p))
    → IsAmong m (waiting b p) ⊎ IsAmong m (admitted_by e p)
waiting-next cl e p legal b m among =
    let all = mail b p ++ filter (is_to b) (admitted_by e p) in
    let Waits : ℕ → Type 0 = λ n. IsAmong m (drop n all) → IsAmong m (waiting b p) ⊎ IsAmong m (admitted_by e p) in
    let kept : Waits (takes b p) = waiting-appended cl p legal.1 b (admitted_by e p) m in
    let taken : Waits (takes b p + 1) = subst Waits (sym (add-one (takes b p))) (λ later. kept (IsAmong-drop_suc m (takes b p) all later)) in
    cond_both (is_take_by b e) (takes b p + 1) (takes b p) Waits (λ _. taken) (λ _. kept) among

-- ---- what is under way

-- one item at most: the whole list, where something is among it
one_at : {A : Type 0} (x : A) (o : Option A) → IsAmong x (option_to_list o) → option_to_list o ≡ x ∷ []
one_at x None among = absurd among
one_at x (Some y) (inl e) = ap (λ z. z ∷ []) (sym e)
one_at x (Some y) (inr e) = absurd e

-- what an admission admits was on its link
admitted-on_link : (cl : Cluster) (s d k : ℕ) (p : List Event) → IsLegal cl (Admit s d k ∷ p) → (m : Message)
    → IsAmong m (admitted_by (Admit s d k) p) → IsOnLink p m
admitted-on_link cl s d k p legal m among =
    let kept = legal-kept cl (Admit s d k) p legal in
    let Admitted : List Message → Type 0 = λ ms. IsAmong m ms → IsFalse (was_admitted s d k p) × IsAmong m (message_at s d k p) in
    let admitted = cond_both (was_admitted s d k p) [] (message_at s d k p) Admitted (λ _ none. absurd none) (λ fresh there. (fresh, there)) among in
    let ends = (sent-among s d p m (message_at-among s d k p m admitted.1)) in
    let On : ℕ → ℕ → Type 0 = λ x y. (n : ℕ) × (message_at x y n p ≡ m ∷ []) × IsFalse (is_closed x y p) × IsFalse (was_admitted x y n p) × (0 < copies x y n p) × (x ≢ y) in
    let here : On s d = (
      k,
      one_at m (slice_get (sent s d p) k) admitted.1,
      not-true (is_closed s d p) kept.1.1.1.1.0,
      admitted.0,
      (Decides-ltb 0 (copies s d k p)).0 kept.1.1.1.1.1.0,
      λ e. false≢true (sym (not-true (s == d) kept.1.1.0) ∙ (Decides-eqb s d).1 e),
    ) in
    subst (λ x. On x m.to.node) (sym ends.1) (subst (On s) (sym ends.2) here)

-- what an event admits was live, or the event sends it
pub admitted-live : (cl : Cluster) (e : Event) (p : List Event) → IsLegal cl (e ∷ p) → (m : Message) → IsAmong m (admitted_by e p)
    → IsLive p m ⊎ IsAmong m (sent_by e)
admitted-live cl (Send f t refs) p legal m among = inr (among-then (f.node == t.node) m (record { from = f; to = t; refs = refs } ∷ []) among)
admitted-live cl (Admit s d k) p legal m among =
    let place = among-else (was_admitted s d k p) m (message_at s d k p) among in
    let to = (sent-among s d p m (message_at-among s d k p m place)).2 in
    let up = subst (λ n. IsTrue (is_up n p)) (sym to) (legal-kept cl (Admit s d k) p legal).1.1.1.0 in
    inl (up, inr (admitted-on_link cl s d k p legal m among))
admitted-live cl _ p legal m among = absurd among

-- a place of a list with one more item at its end is a place of the list, or has that item
slice_get-push : {A : Type 0} (xs : List A) (x : A) (k : ℕ)
    → ((k < length xs) × (slice_get (xs ++ x ∷ []) k ≡ slice_get xs k)) ⊎ ((y : A) → option_to_list (slice_get (xs ++ x ∷ []) k) ≡ y ∷ [] → y ≡ x)
slice_get-push [] x zero = inr (λ y e. sym (cons_head x y e))
  where
    cons_head : {A : Type 0} (x y : A) → x ∷ [] ≡ y ∷ [] → x ≡ y
    cons_head x y e = cc
slice_get-push [] x (suc k) = inr (λ y e. absurd (not_cons y e))
  where
    not_cons : {A : Type 0} (y : A) → [] ≡ y ∷ [] → ⊥
    not_cons y e = cc
slice_get-push (z ∷ zs) x zero = inl (omega arith, refl)
slice_get-push (z ∷ zs) x (suc k) =
    elim (slice_get-push zs x k) [ inl within ↦ inl (omega (arith, within.0), within.1) | inr last ↦ inr last ]

-- what keeps a message on its link before the event
on_link-before : (e : Event) (p : List Event) (m : Message) (on : IsOnLink (e ∷ p) m) → message_at m.from.node m.to.node on.0 p ≡ m ∷ []
    → 0 < copies m.from.node m.to.node on.0 p → IsOnLink p m
on_link-before e p m on there some =
    let s = m.from.node in
    let d = m.to.node in
    (on.0, there, (or_parts (is_removal s d e) (is_closed s d p) on.2).1, (or_parts (is_admit s d on.0 e) (was_admitted s d on.0 p) on.3).1, some, on.5)

-- copies that are neither new nor repeated were there before
copies-before : (e : Event) (p : List Event) (s d k : ℕ) → sent s d (e ∷ p) ≡ sent s d p → tally (is_repeat s d k) (e ∷ p) ≡ tally (is_repeat s d k) p
    → 0 < copies s d k (e ∷ p) → 0 < copies s d k p
copies-before e p s d k same_sent same_repeats some =
    let sends : ℕ → ℕ = λ n. if nat_lt k n then 1 else 0 in
    let same : sends (length (sent s d (e ∷ p))) ≡ sends (length (sent s d p)) = ap (λ xs. sends (length xs)) same_sent in
    let loses = tally-more (is_lose s d k) e p in
    let admits = tally-more (is_admit s d k) e p in
    omega arith

-- what is under way after an event was so before, or was sent by it
on_link-next : (cl : Cluster) (e : Event) (p : List Event) → IsLegal cl (e ∷ p) → (m : Message) → IsOnLink (e ∷ p) m → IsOnLink p m ⊎ IsAmong m (sent_by e)
on_link-next cl (Send f t refs) p legal m on =
    let s = m.from.node in
    let d = m.to.node in
    let new : Message = record { from = f; to = t; refs = refs } in
    let k = on.0 in
    let repeats = tally (is_repeat s d k) p in
    let gone = tally (is_lose s d k) p + tally (is_admit s d k) p in
    let one_if : Bool → ℕ = λ v. if v then 1 else 0 in
    let Was : List Message → Type 0 = λ xs.
    option_to_list (slice_get xs k) ≡ m ∷ [] → 0 < (one_if (nat_lt k (length xs)) + repeats) - gone → IsOnLink p m ⊎ IsAmong m (new ∷ []) in
    let pushed : Was (sent s d p ++ new ∷ []) = λ there some. elim (slice_get-push (sent s d p) new k) [
      | inl within ↦
          let before : one_if (nat_lt k (length (sent s d p))) ≡ 1 = ap one_if ((Decides-ltb k (length (sent s d p))).1 within.0) in
          let most : one_if (nat_lt k (length (sent s d p ++ new ∷ []))) ≤ 1 = at_most_one (nat_lt k (length (sent s d p ++ new ∷ []))) in
          inl (on_link-before (Send f t refs) p m on (sym (ap option_to_list within.1) ∙ there) (omega arith))
      | inr last ↦ inr (inl (last m there))
    ] in
    let kept : Was (sent s d p) = λ there some. inl (on_link-before (Send f t refs) p m on there some) in
    cond_both ((f.node == s) && (t.node == d)) (sent s d p ++ new ∷ []) (sent s d p) Was (λ _. pushed) (λ _. kept) on.1 on.4
  where
    at_most_one : (v : Bool) → (if v then 1 else 0) ≤ 1
    at_most_one true = omega arith
    at_most_one false = omega arith
on_link-next cl (Repeat x y n) p legal m on =
    let s = m.from.node in
    let d = m.to.node in
    let k = on.0 in
    let sends = if nat_lt k (length (sent s d p)) then 1 else 0 in
    let gone = tally (is_lose s d k) p + tally (is_admit s d k) p in
    let had = (Decides-ltb 0 (copies x y n p)).0 (legal-kept cl (Repeat x y n) p legal).1.1.1.1.1.0 in
    let Had : ℕ → Type 0 = λ r. 0 < (sends + r) - gone → 0 < copies s d k p in
    let repeated : ((x == s) && ((y == d) && (n == k))) ≡ true → Had (tally (is_repeat s d k) p + 1) = λ hit _.
    same_number x y n s d k hit (λ i j l. 0 < copies i j l p) had in
    let some = cond_both ((x == s) && ((y == d) && (n == k))) (tally (is_repeat s d k) p + 1) (tally (is_repeat s d k) p) Had repeated (λ _ some. some) on.4 in
    inl (on_link-before (Repeat x y n) p m on on.1 some)
on_link-next cl e p legal m on =
    inl (on_link-before e p m on on.1 (copies-before e p m.from.node m.to.node on.0 refl refl on.4))

-- what is live after an event was live before, or is what the event sends
pub live-next : (cl : Cluster) (e : Event) (p : List Event) → IsLegal cl (e ∷ p) → (m : Message) → IsLive (e ∷ p) m → IsLive p m ⊎ IsAmong m (sent_by e)
live-next cl e p legal m live =
    let up = up-before m.to.node (e ∷ []) p live.0 in
    elim live.1 [
      | inl waits ↦ elim (waiting-next cl e p legal m.to m waits) [
        | inl before ↦ inl (up, inl before)
        | inr now ↦ admitted-live cl e p legal m now
      ]
      | inr on ↦ elim (on_link-next cl e p legal m on) [ inl before ↦ inl (up, inr before) | inr new ↦ inr new ]
    ]
