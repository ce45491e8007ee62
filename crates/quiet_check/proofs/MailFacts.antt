-- Messages as the plain programs keep them: the one with a number, those to an actor, and the references that they bring.
use Rattle.std.proofs.Common.{◌≡◌, ◌≢◌, ◌<◌, ◌≤◌, ◌+◌, ◌-◌, ◌&&◌, ℕ, zero, suc, Bool, true, false, cond, ltb, List, [], ◌∷◌, ◌++◌, length, map, take, get_or, slice_get, option_to_list, length-append, refl, sym, ◌∙◌, ap, subst, inl, inr, arith}
use Rattle.std.specs.Prelude.{◌==◌, Option, Some, None}
use Rattle.std.proofs.lemmas.Bool.{and_parts, cases_lt, eq-eqb, eqb-true, false≢true, le-ltb, lt-ltb}
use Rattle.std.proofs.lemmas.List.{append-nil, take-append-le, take_all, take_more}
use Rattle.std.specs.List.{filter}
use Rattle.crgc_ids.specs.Actor.{Actor}
use Rattle.history_model.specs.declared.events.Event.{Event}
use Rattle.history_model.specs.declared.events.Event.TheVariants.{Admit, Send}
use Rattle.history_model.specs.Cluster.{same_actor}
use Rattle.history_model.specs.Held.{carried}
use Rattle.history_model.specs.Messages.{Message, admitted_by, is_to, mail, message_at, sent}
use Rattle.history_model.specs.Tally.{tally}
use Rattle.history_model.specs.Uses.{sent_by}
use Rattle.history_model.proofs.AccountsGrowth.{carried-append}
use Rattle.quiet_check.specs.declared.messages.Carrying.{Carrying}
use Rattle.quiet_check.specs.Plain.{brings, carrying, counts, is_coming, is_send_on}
use Rattle.quiet_check.proofs.Counts.{sent_length}

-- ---- the message with a number

get_last : {X : Type 0} (xs : List X) (x : X) (k : ℕ) → k ≡ length xs → option_to_list (slice_get (xs ++ x ∷ []) k) ≡ x ∷ []
get_last [] x zero e = refl
get_last [] x (suc k) e = absurd (omega arith)
get_last (y ∷ ys) x zero e = absurd (omega arith)
get_last (y ∷ ys) x (suc k) e = get_last ys x k (omega arith)

get_other : {X : Type 0} (xs : List X) (x : X) (k : ℕ) → k ≢ length xs → option_to_list (slice_get (xs ++ x ∷ []) k) ≡ option_to_list (slice_get xs k)
get_other [] x zero other = absurd (other refl)
get_other [] x (suc k) other = refl
get_other (y ∷ ys) x zero other = refl
get_other (y ∷ ys) x (suc k) other = get_other ys x k (λ e. other (omega arith))

-- the send that gets the number sends the message
pub message_here : (s d k : ℕ) (e : Event) (p : List Event) → (is_send_on s d e && (tally (is_send_on s d) p == k)) ≡ true → message_at s d k (e ∷ p) ≡ sent_by e
message_here s d k (Send f t refs) p here =
    let both = and_parts ((f.node == s) && (t.node == d)) (tally (is_send_on s d) p == k) here in
    let number : tally (is_send_on s d) p ≡ k = eqb-true (tally (is_send_on s d) p) k both.1 in
    rw both.0 (get_last (sent s d p) (record { from = f; to = t; refs = refs }) k (omega (arith, number, sent_length s d p)))
message_here s d k _ p here = absurd (false≢true here)

-- all other events leave it
pub message_there : (s d k : ℕ) (e : Event) (p : List Event) → (is_send_on s d e && (tally (is_send_on s d) p == k)) ≡ false → message_at s d k (e ∷ p) ≡ message_at s d k p
message_there s d k (Send f t refs) p there =
    let one : Message = record { from = f; to = t; refs = refs } in
    let n = tally (is_send_on s d) p in
    let xs = sent s d p in
    let Kept : Bool → Type 0 = λ v. (v && (n == k)) ≡ false → option_to_list (slice_get (cond v (xs ++ one ∷ []) xs) k) ≡ option_to_list (slice_get xs k) in
    let kept : Kept ((f.node == s) && (t.node == d)) = elim ((f.node == s) && (t.node == d)) as Kept [
      | true ↦ λ other. get_other xs one k (λ e. false≢true (sym other ∙ eq-eqb n k (omega (arith, e, sent_length s d p))))
      | false ↦ λ _. refl
    ] in
    kept there
message_there s d k _ p there = refl

-- ---- messages to an actor

-- at most one message, and whether it goes to b
pub counted : (b a : Actor) (ms : List Message) (kept : Option Carrying) → map (carrying a) ms ≡ option_to_list kept → length (filter (is_to b) ms) ≡ counts b kept
counted b a [] None e = refl
counted b a [] (Some c) e = absurd (cc)
counted b a (m ∷ ms) None e = absurd (cc)
counted b a (m ∷ []) (Some c) e =
    let same : carrying a m ≡ c = cc in
    let to : m.to ≡ c.to = ap (λ (x : Carrying). x.to) same in
    subst (λ x. length (cond (same_actor m.to b) (m ∷ []) []) ≡ cond (same_actor x b) 1 0) to
    (elim (same_actor m.to b) as (λ v. length (cond v (m ∷ []) []) ≡ cond v 1 0) [ true ↦ refl | false ↦ refl ])
counted b a (m ∷ n ∷ ms) (Some c) e = absurd (cc)

-- what one message more brings, where it is among the first t
one_more_brings : (b a : Actor) (t : ℕ) (xs : List Message) (m : Message) → carried a (take t (xs ++ cond (same_actor m.to b) (m ∷ []) [])) ≡ carried a (take t xs) + brings b (length xs) t (Some (carrying a m))
one_more_brings b a t xs m =
    let refs = tally (same_actor a) m.refs in
    elim (same_actor m.to b) as (λ v. carried a (take t (xs ++ cond v (m ∷ []) [])) ≡ carried a (take t xs) + cond (v && ltb (length xs) t) refs 0) [
      | false ↦ (let same = ap (λ ys. carried a (take t ys)) (append-nil xs) in omega (arith, same))
      | true ↦ elim (cases_lt (length xs) t) [
        | inr past ↦ (
            let test : ltb (length xs) t ≡ false = le-ltb (length xs) t past in
            let same = ap (carried a) (take-append-le t xs (m ∷ []) past) in
            rw test (omega (arith, same))
            )
        | inl within ↦ (
            let test : ltb (length xs) t ≡ true = lt-ltb (length xs) t within in
            let more = ap (carried a) (take_all t (xs ++ m ∷ []) (omega (arith, length-append xs (m ∷ []), within))) in
            let before = ap (carried a) (take_all t xs (omega (arith, within))) in
            rw test (omega (arith, more, before, carried-append a xs (m ∷ [])))
            )
      ]
    ]

more_brings : (b a : Actor) (t : ℕ) (xs ms : List Message) (kept : Option Carrying) → map (carrying a) ms ≡ option_to_list kept → carried a (take t (xs ++ filter (is_to b) ms)) ≡ carried a (take t xs) + brings b (length xs) t kept
more_brings b a t xs [] None e = (let same = ap (λ ys. carried a (take t ys)) (append-nil xs) in omega (arith, same))
more_brings b a t xs [] (Some c) e = absurd (cc)
more_brings b a t xs (m ∷ ms) None e = absurd (cc)
more_brings b a t xs (m ∷ []) (Some c) e =
    let same : carrying a m ≡ c = cc in
    subst (λ (x : Carrying). carried a (take t (xs ++ cond (same_actor m.to b) (m ∷ []) [])) ≡ carried a (take t xs) + brings b (length xs) t (Some x)) same (one_more_brings b a t xs m)
more_brings b a t xs (m ∷ n ∷ ms) (Some c) e = absurd (cc)

-- what the first t messages to b carry, with one event more
pub carried_more : (b a : Actor) (t : ℕ) (e : Event) (p : List Event) (kept : Option Carrying) → map (carrying a) (admitted_by e p) ≡ option_to_list kept
    → carried a (take t (mail b (e ∷ p))) ≡ carried a (take t (mail b p)) + brings b (length (mail b p)) t kept
carried_more b a t e p kept is_kept = more_brings b a t (mail b p) (admitted_by e p) kept is_kept

-- ---- references held

pub holds_more : (given taken dropped : ℕ) → dropped < given → true ≡ ltb 0 ((given + taken) - dropped)
holds_more given taken dropped more = sym (lt-ltb 0 ((given + taken) - dropped) (omega arith))

pub holds_taken : (given taken dropped : ℕ) → given ≤ dropped → ltb (dropped - given) taken ≡ ltb 0 ((given + taken) - dropped)
holds_taken given taken dropped less = elim (cases_lt (dropped - given) taken) [
  | inl some ↦ lt-ltb (dropped - given) taken some ∙ sym (lt-ltb 0 ((given + taken) - dropped) (omega arith))
  | inr none ↦ le-ltb (dropped - given) taken none ∙ sym (le-ltb 0 ((given + taken) - dropped) (omega arith))
]

-- ---- plain lists

pub tally_next : {X : Type 0} (test : X → Bool) (xs : List X) (x : X) → tally test (xs ++ x ∷ []) ≡ tally test xs + cond (test x) 1 0
tally_next test [] x = elim (test x) as (λ v. cond v (0 + 1) 0 ≡ 0 + cond v 1 0) [ true ↦ refl | false ↦ refl ]
tally_next test (y ∷ ys) x =
    let later = tally_next test ys x in
    elim (test y) as (λ v. cond v (tally test (ys ++ x ∷ []) + 1) (tally test (ys ++ x ∷ [])) ≡ cond v (tally test ys + 1) (tally test ys) + cond (test x) 1 0) [
      | true ↦ omega arith
      | false ↦ later
    ]

pub tally_more : {X : Type 0} (test : X → Bool) (xs : List X) (i : ℕ) (x : X) → i < length xs → x ≡ get_or xs i x
    → tally test (take (i + 1) xs) ≡ tally test (take i xs) + cond (test x) 1 0
tally_more test xs i x l e =
    ap (tally test) (take_more xs i x l) ∙ tally_next test (take i xs) (get_or xs i x)
    ∙ ap (λ y. tally test (take i xs) + cond (test y) 1 0) (sym e)

-- ---- equal nodes

pub same_admission : (a : Actor) (e : Event) (s x d y k : ℕ) (p : List Event) (kept : Option Carrying) → s ≡ x → d ≡ y → e ≡ Admit x y k
    → map (carrying a) (admitted_by (Admit s d k) p) ≡ option_to_list kept → map (carrying a) (admitted_by e p) ≡ option_to_list kept
same_admission a e s x d y k p kept from at is found =
    let Kept : Event → Type 0 = λ z. map (carrying a) (admitted_by z p) ≡ option_to_list kept in
    subst Kept (sym is) (subst (λ n. Kept (Admit x n k)) at (subst (λ n. Kept (Admit n d k)) from found))

pub same_coming : (h p : List Event) (s x d y k : ℕ) → s ≡ x → d ≡ y → k ≡ tally (is_send_on s d) p → is_coming h s d k ≡ is_coming h x y (tally (is_send_on x y) p)
same_coming h p s x d y k from to number =
    ap (is_coming h s d) number ∙ ap (λ n. is_coming h n d (tally (is_send_on n d) p)) from
    ∙ ap (λ n. is_coming h x n (tally (is_send_on x n) p)) to
