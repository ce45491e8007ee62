-- The list of actors that flags of serials tell.
use Rattle.std.proofs.Common.{◌≡◌, ◌<◌, ◌≤◌, ◌+◌, ◌*◌, ◌==◌, ◌&&◌, ◌||◌, ℕ, zero, suc, Bool, not, true, false, cond, List, [], ◌∷◌, ◌++◌, length, get_or, nat_lt, add-zero, refl, sym, ◌∙◌, ap, ap₂, inl, inr, arith, length-append}
use Rattle.std.proofs.Math.Bool.{and-true, or-false}
use Rattle.std.proofs.Math.ListN.{set}
use Rattle.std.proofs.lemmas.Bool.{and_left, and_right, cases_eq, cases_lt, cond-false, cond-true, eq-eqb, ltb-false, ltb-true, ne_eqb, or_from}
use Rattle.std.proofs.lemmas.Grind.{get_or-set_at}
use Rattle.std.proofs.lemmas.List.{get_or-set_other, get_or_default, get_or_past}
use Rattle.std.proofs.lemmas.List.Folds.{list_any-append}
use Rattle.crgc_ids.specs.Actor.{Actor, same_actor}
use Rattle.ready_actors.specs.Flags.{has_flag}
use Rattle.ready_actors.specs.Members.{actors_below, actors_from}
use Rattle.ready_actors.specs.Ready.{has_actor}
use Rattle.ready_actors.proofs.FlagLemmas.{flag-beyond}

-- the actor with this serial on this node
abbrev pub actor_at : ℕ → ℕ → Actor
actor_at n k = record { node = n; serial = k }

-- ---- who is in the list

one-more : (n k : ℕ) (flag : Bool) (a : Actor) → has_actor (cond flag (actor_at n k ∷ []) []) a ≡ (flag && same_actor a (actor_at n k))
one-more n k true a = or-false (same_actor a (actor_at n k))
one-more n k false a = refl

has-one-more : (n : ℕ) (words : List ℕ) (k : ℕ) (a : Actor) → has_actor (actors_below n words (suc k)) a ≡ (has_actor (actors_below n words k) a || (has_flag words k && same_actor a (actor_at n k)))
has-one-more n words k a = list_any-append (same_actor a) (actors_below n words k) (cond (has_flag words k) (actor_at n k ∷ []) [])
    ∙ ap (λ (t : Bool). has_actor (actors_below n words k) a || t) (one-more n k (has_flag words k) a)

has-none-more : (n : ℕ) (words : List ℕ) (k : ℕ) (a : Actor) → same_actor a (actor_at n k) ≡ false → has_actor (actors_below n words k) a ≡ false → has_actor (actors_below n words (suc k)) a ≡ false
has-none-more n words k a other none = has-one-more n words k a ∙ or_from (has_actor (actors_below n words k) a) (has_flag words k && same_actor a (actor_at n k)) none (and_right (has_flag words k) (same_actor a (actor_at n k)) other)

below-other : (n : ℕ) (words : List ℕ) (m : ℕ) (a : Actor) → (a.node == n) ≡ false → has_actor (actors_below n words m) a ≡ false
below-other n words zero a other = refl
below-other n words (suc k) a other = has-none-more n words k a (and_left (a.node == n) (a.serial == k) other) (below-other n words k a other)

below-beyond : (n : ℕ) (words : List ℕ) (m : ℕ) (a : Actor) → m ≤ a.serial → has_actor (actors_below n words m) a ≡ false
below-beyond n words zero a far = refl
below-beyond n words (suc k) a far =
    has-none-more n words k a (and_right (a.node == n) (a.serial == k) (ne_eqb a.serial k (λ e. omega arith))) (below-beyond n words k a (omega arith))

below-inside : (n : ℕ) (words : List ℕ) (m : ℕ) (a : Actor) → (a.node == n) ≡ true → a.serial < m → has_actor (actors_below n words m) a ≡ has_flag words a.serial
below-inside n words zero a on low = absurd (omega arith)
below-inside n words (suc k) a on low = elim (cases_eq a.serial k) [
  | inl last ↦
      let same : same_actor a (actor_at n k) ≡ true = ap₂ (λ v w. v && w) on (eq-eqb a.serial k last) in
      has-one-more n words k a
      ∙ ap₂ (λ v w. v || (has_flag words k && w)) (below-beyond n words k a (omega arith)) same
      ∙ and-true (has_flag words k) ∙ ap (has_flag words) (sym last)
  | inr other ↦
      let not_same = and_right (a.node == n) (a.serial == k) (ne_eqb a.serial k other) in
      has-one-more n words k a
      ∙ ap (λ w. has_actor (actors_below n words k) a || w) (and_right (has_flag words k) (same_actor a (actor_at n k)) not_same)
      ∙ or-false (has_actor (actors_below n words k) a) ∙ below-inside n words k a on (omega (arith, other))
]

below-all : (n : ℕ) (words : List ℕ) (a : Actor) → (a.node == n) ≡ true → has_actor (actors_below n words (64 * length words)) a ≡ has_flag words a.serial
below-all n words a on = elim (cases_lt a.serial (64 * length words)) [
  | inl low ↦ below-inside n words (64 * length words) a on low
  | inr far ↦ below-beyond n words (64 * length words) a far ∙ sym (flag-beyond words a.serial (omega arith))
]

from-below : (n : ℕ) (nodes : List (List ℕ)) (a : Actor) → a.node < n → has_actor (actors_from n nodes) a ≡ false
from-below n [] a low = refl
from-below n (words ∷ nodes) a low =
    list_any-append (same_actor a) (actors_below n words (64 * length words)) (actors_from (n + 1) nodes)
    ∙ or_from (has_actor (actors_below n words (64 * length words)) a) (has_actor (actors_from (n + 1) nodes) a)
    (below-other n words (64 * length words) a (ne_eqb a.node n (λ e. omega arith))) (from-below (n + 1) nodes a (omega arith))

has-from : (n : ℕ) (nodes : List (List ℕ)) (j : ℕ) (a : Actor) → a.node ≡ n + j → has_actor (actors_from n nodes) a ≡ has_flag (get_or nodes j []) a.serial
has-from n [] j a on = sym (flag-beyond [] a.serial (omega arith))
has-from n (words ∷ nodes) zero a on =
    list_any-append (same_actor a) (actors_below n words (64 * length words)) (actors_from (n + 1) nodes)
    ∙ ap₂ (λ v w. v || w) (below-all n words a (eq-eqb a.node n (omega arith))) (from-below (n + 1) nodes a (omega arith))
    ∙ or-false (has_flag words a.serial)
has-from n (words ∷ nodes) (suc j) a on =
    list_any-append (same_actor a) (actors_below n words (64 * length words)) (actors_from (n + 1) nodes)
    ∙ ap₂ (λ v w. v || w) (below-other n words (64 * length words) a (ne_eqb a.node n (λ e. omega arith))) (has-from (n + 1) nodes j a (omega arith))

-- an actor is in the list if its serial's flag is set in the words of its node
pub has-actor : (nodes : List (List ℕ)) (a : Actor) → has_actor (actors_from 0 nodes) a ≡ has_flag (get_or nodes a.node []) a.serial
has-actor nodes a = has-from 0 nodes a.node a (omega arith)

pub has-actor-past : (nodes : List (List ℕ)) (a : Actor) → length nodes ≤ a.node → has_actor (actors_from 0 nodes) a ≡ false
has-actor-past nodes a far = has-actor nodes a ∙ ap (λ (words : List ℕ). has_flag words a.serial) (get_or_past nodes a.node [] far) ∙ flag-beyond [] a.serial (omega arith)

-- a node more, of which no flag is set
pub from-pushed : (n : ℕ) (nodes : List (List ℕ)) → actors_from n (nodes ++ [] ∷ []) ≡ actors_from n nodes
from-pushed n [] = refl
from-pushed n (words ∷ nodes) = ap (λ (rest : List Actor). actors_below n words (64 * length words) ++ rest) (from-pushed (n + 1) nodes)

-- ---- the flags of one node are written

pub has-written : (nodes : List (List ℕ)) (words : List ℕ) (b : Bool) (actor a : Actor) → actor.node < length nodes
    → ((k : ℕ) → has_flag words k ≡ cond (actor.serial == k) b (has_flag (get_or nodes actor.node []) k))
    → has_actor (actors_from 0 (set nodes actor.node words)) a ≡ cond (same_actor actor a) b (has_actor (actors_from 0 nodes) a)
has-written nodes words b actor a within flags = elim (cases_eq a.node actor.node) [
  | inl same ↦
      has-actor (set nodes actor.node words) a
      ∙ ap (λ (ws : List ℕ). has_flag ws a.serial) (get_or-set_at nodes actor.node a.node words [] same within)
      ∙ flags a.serial
      ∙ ap₂ (λ (t : Bool) (v : Bool). cond t b v)
      (sym (ap (λ v. v && (actor.serial == a.serial)) (eq-eqb actor.node a.node (sym same))))
      (ap (λ (n : ℕ). has_flag (get_or nodes n []) a.serial) (sym same) ∙ sym (has-actor nodes a))
  | inr other ↦
      has-actor (set nodes actor.node words) a
      ∙ ap (λ (ws : List ℕ). has_flag ws a.serial) (get_or-set_other nodes actor.node a.node words [] other)
      ∙ sym (has-actor nodes a)
      ∙ sym (cond-false (same_actor actor a) b (has_actor (actors_from 0 nodes) a) (and_left (actor.node == a.node) (actor.serial == a.serial) (ne_eqb actor.node a.node (λ e. other (sym e)))))
]

pub or-cond : (v w : Bool) → cond v true w ≡ (v || w)
or-cond true w = refl
or-cond false w = refl

pub and-cond : (v w : Bool) → cond v false w ≡ (not v && w)
and-cond true w = refl
and-cond false w = refl

pub has-left : (nodes : List (List ℕ)) (words : List ℕ) (n : ℕ) (a : Actor) → n < length nodes → ((k : ℕ) → has_flag words k ≡ false)
    → has_actor (actors_from 0 (set nodes n words)) a ≡ (not (a.node == n) && has_actor (actors_from 0 nodes) a)
has-left nodes words n a within none = elim (cases_eq a.node n) [
  | inl same ↦
      has-actor (set nodes n words) a
      ∙ ap (λ (ws : List ℕ). has_flag ws a.serial) (get_or-set_at nodes n a.node words [] same within)
      ∙ none a.serial
      ∙ sym (ap (λ v. not v && has_actor (actors_from 0 nodes) a) (eq-eqb a.node n same))
  | inr other ↦
      has-actor (set nodes n words) a
      ∙ ap (λ (ws : List ℕ). has_flag ws a.serial) (get_or-set_other nodes n a.node words [] other)
      ∙ sym (has-actor nodes a)
      ∙ sym (ap (λ v. not v && has_actor (actors_from 0 nodes) a) (ne_eqb a.node n other))
]

pub has-left-past : (nodes : List (List ℕ)) (n : ℕ) (a : Actor) → length nodes ≤ n → has_actor (actors_from 0 nodes) a ≡ (not (a.node == n) && has_actor (actors_from 0 nodes) a)
has-left-past nodes n a far = elim (cases_eq a.node n) [
  | inl same ↦ has-actor-past nodes a (omega arith) ∙ sym (ap (λ v. not v && has_actor (actors_from 0 nodes) a) (eq-eqb a.node n same))
  | inr other ↦ sym (ap (λ v. not v && has_actor (actors_from 0 nodes) a) (ne_eqb a.node n other))
]

-- ---- how many there are

-- one for a test that is true
abbrev pub one_if : Bool → ℕ
one_if b = cond b 1 0

length-one : (flag : Bool) (a : Actor) → length (cond flag (a ∷ []) []) ≡ one_if flag
length-one true a = refl
length-one false a = refl

length-one-more : (n : ℕ) (words : List ℕ) (k : ℕ) → length (actors_below n words (suc k)) ≡ length (actors_below n words k) + one_if (has_flag words k)
length-one-more n words k = length-append (actors_below n words k) (cond (has_flag words k) (actor_at n k ∷ []) [])
    ∙ ap (λ (c : ℕ). length (actors_below n words k) + c) (length-one (has_flag words k) (actor_at n k))

-- the words are as before but for one flag, which is not set
abbrev IsUnset : List ℕ → List ℕ → ℕ → Type 0
IsUnset words words' s = (k : ℕ) → has_flag words' k ≡ cond (s == k) false (has_flag words k)

count-beyond : (n : ℕ) (words words' : List ℕ) (s m : ℕ) → IsUnset words words' s → m ≤ s → length (actors_below n words' m) ≡ length (actors_below n words m)
count-beyond n words words' s zero unset far = refl
count-beyond n words words' s (suc k) unset far =
    let same : has_flag words' k ≡ has_flag words k = unset k ∙ cond-false (s == k) false (has_flag words k) (ne_eqb s k (λ e. omega arith)) in
    length-one-more n words' k ∙ ap₂ (λ c v. c + one_if v) (count-beyond n words words' s k unset (omega arith)) same ∙ sym (length-one-more n words k)

count-inside : (n : ℕ) (words words' : List ℕ) (s m : ℕ) → IsUnset words words' s → s < m → length (actors_below n words' m) + one_if (has_flag words s) ≡ length (actors_below n words m)
count-inside n words words' s zero unset low = absurd (omega arith)
count-inside n words words' s (suc k) unset low = elim (cases_eq s k) [
  | inl same ↦
      let off : one_if (has_flag words' k) ≡ 0 = ap one_if (unset k ∙ cond-true (s == k) false (has_flag words k) (eq-eqb s k same)) in
      let on : one_if (has_flag words s) ≡ one_if (has_flag words k) = ap (λ (j : ℕ). one_if (has_flag words j)) same in
      let before = length-one-more n words k in
      let after = length-one-more n words' k in
      let rest = count-beyond n words words' s k unset (omega arith) in
      omega arith
  | inr other ↦
      let alike : one_if (has_flag words' k) ≡ one_if (has_flag words k) = ap one_if (unset k ∙ cond-false (s == k) false (has_flag words k) (ne_eqb s k other)) in
      let before = length-one-more n words k in
      let after = length-one-more n words' k in
      let rest = count-inside n words words' s k unset (omega (arith, other)) in
      omega arith
]

count-all : (n : ℕ) (words words' : List ℕ) (s : ℕ) → IsUnset words words' s → length words' ≡ length words
    → length (actors_below n words' (64 * length words')) + one_if (has_flag words s) ≡ length (actors_below n words (64 * length words))
count-all n words words' s unset room =
    ap (λ (c : ℕ). length (actors_below n words' (64 * c)) + one_if (has_flag words s)) room
    ∙ elim (cases_lt s (64 * length words)) [
      | inl low ↦ count-inside n words words' s (64 * length words) unset low
      | inr far ↦
          let none : one_if (has_flag words s) ≡ 0 = ap one_if (flag-beyond words s (omega arith)) in
          let rest = count-beyond n words words' s (64 * length words) unset far in
          omega arith
    ]

count-from : (n : ℕ) (nodes : List (List ℕ)) (j : ℕ) (words' : List ℕ) (s : ℕ) → j < length nodes → IsUnset (get_or nodes j []) words' s → length words' ≡ length (get_or nodes j [])
    → length (actors_from n (set nodes j words')) + one_if (has_flag (get_or nodes j []) s) ≡ length (actors_from n nodes)
count-from n [] j words' s within unset room = absurd (omega arith)
count-from n (words ∷ nodes) zero words' s within unset room =
    let here = count-all n words words' s unset room in
    let after = length-append (actors_below n words' (64 * length words')) (actors_from (n + 1) nodes) in
    let before = length-append (actors_below n words (64 * length words)) (actors_from (n + 1) nodes) in
    omega arith
count-from n (words ∷ nodes) (suc j) words' s within unset room =
    let rest = count-from (n + 1) nodes j words' s (omega arith) unset room in
    let after = length-append (actors_below n words (64 * length words)) (actors_from (n + 1) (set nodes j words')) in
    let before = length-append (actors_below n words (64 * length words)) (actors_from (n + 1) nodes) in
    omega arith

-- the actor is taken out, and counted if it was one of them
pub count-taken : (nodes : List (List ℕ)) (words' : List ℕ) (actor : Actor) → actor.node < length nodes → ((k : ℕ) → has_flag words' k ≡ cond (actor.serial == k) false (has_flag (get_or nodes actor.node []) k))
    → length words' ≡ length (get_or nodes actor.node []) → length (actors_from 0 (set nodes actor.node words')) + cond (has_actor (actors_from 0 nodes) actor) 1 0 ≡ length (actors_from 0 nodes)
count-taken nodes words' actor within unset room =
    ap (λ (v : Bool). length (actors_from 0 (set nodes actor.node words')) + one_if v) (has-actor nodes actor) ∙ count-from 0 nodes actor.node words' actor.serial within unset room

-- ---- what a look-up of the node's words tells

pub has-found : (nodes lent : List (List ℕ)) (n : ℕ) (words : List ℕ) (a : Actor) → lent ≡ nodes → n ≡ a.node → true ≡ nat_lt n (length lent) → words ≡ get_or lent n words
    → has_actor (actors_from 0 nodes) a ≡ has_flag words a.serial
has-found nodes lent n words a whole on inside found =
    has-actor nodes a ∙ ap (λ (ws : List ℕ). has_flag ws a.serial)
    (ap₂ (λ (ns : List (List ℕ)) (i : ℕ). get_or ns i []) (sym whole) (sym on) ∙ get_or_default lent n [] words (ltb-true n (length lent) (sym inside)) ∙ sym found)

pub has-missed : (nodes lent : List (List ℕ)) (n : ℕ) (a : Actor) → lent ≡ nodes → n ≡ a.node → false ≡ nat_lt n (length lent) → has_actor (actors_from 0 nodes) a ≡ false
has-missed nodes lent n a whole on outside =
    let far = ltb-false n (length lent) (sym outside) in
    let long = ap (λ (ns : List (List ℕ)). length ns) whole in
    has-actor-past nodes a (omega arith)

-- the words of the node, where its number was looked up
words-found : (nodes : List (List ℕ)) (n i : ℕ) (words : List ℕ) → n ≡ i → n < length nodes → words ≡ get_or nodes n words → words ≡ get_or nodes i []
words-found nodes n i words on inside found = found ∙ get_or_default nodes n words [] inside ∙ ap (λ (j : ℕ). get_or nodes j []) on

flags-found : (nodes : List (List ℕ)) (n serial : ℕ) (before words : List ℕ) (b : Bool) (actor : Actor) → n ≡ actor.node → serial ≡ actor.serial → n < length nodes → before ≡ get_or nodes n before
    → ((k : ℕ) → has_flag words k ≡ cond (serial == k) b (has_flag before k)) → (k : ℕ) → has_flag words k ≡ cond (actor.serial == k) b (has_flag (get_or nodes actor.node []) k)
flags-found nodes n serial before words b actor on at inside found flags k =
    flags k ∙ ap₂ (λ (s : ℕ) (ws : List ℕ). cond (s == k) b (has_flag ws k)) at (words-found nodes n actor.node before on inside found)

pub written-found : (nodes : List (List ℕ)) (n serial : ℕ) (before words : List ℕ) (b : Bool) (actor : Actor) → n ≡ actor.node → serial ≡ actor.serial → n < length nodes → before ≡ get_or nodes n before
    → ((k : ℕ) → has_flag words k ≡ cond (serial == k) b (has_flag before k))
    → (a : Actor) → has_actor (actors_from 0 (set nodes n words)) a ≡ cond (same_actor actor a) b (has_actor (actors_from 0 nodes) a)
written-found nodes n serial before words b actor on at inside found flags a =
    ap (λ (j : ℕ). has_actor (actors_from 0 (set nodes j words)) a) on
    ∙ has-written nodes words b actor a (omega arith) (flags-found nodes n serial before words b actor on at inside found flags)

pub count-found : (nodes : List (List ℕ)) (n serial : ℕ) (before words : List ℕ) (actor : Actor) → n ≡ actor.node → serial ≡ actor.serial → n < length nodes → before ≡ get_or nodes n before
    → ((k : ℕ) → has_flag words k ≡ cond (serial == k) false (has_flag before k)) → length words ≡ length before
    → length (actors_from 0 (set nodes n words)) + cond (has_actor (actors_from 0 nodes) actor) 1 0 ≡ length (actors_from 0 nodes)
count-found nodes n serial before words actor on at inside found flags room =
    ap (λ (j : ℕ). length (actors_from 0 (set nodes j words)) + cond (has_actor (actors_from 0 nodes) actor) 1 0) on
    ∙ count-taken nodes words actor (omega arith) (flags-found nodes n serial before words false actor on at inside found flags)
    (room ∙ ap (λ (ws : List ℕ). length ws) (words-found nodes n actor.node before on inside found))

pub left-found : (nodes : List (List ℕ)) (words : List ℕ) (n node : ℕ) (a : Actor) → n ≡ node → n < length nodes → ((k : ℕ) → has_flag words k ≡ false)
    → has_actor (actors_from 0 (set nodes n words)) a ≡ (not (a.node == node) && has_actor (actors_from 0 nodes) a)
left-found nodes words n node a on inside none = has-left nodes words n a inside none ∙ ap (λ (i : ℕ). not (a.node == i) && has_actor (actors_from 0 nodes) a) on

pub left-missed : (nodes : List (List ℕ)) (n node : ℕ) (a : Actor) → n ≡ node → length nodes ≤ n → has_actor (actors_from 0 nodes) a ≡ (not (a.node == node) && has_actor (actors_from 0 nodes) a)
left-missed nodes n node a on outside = has-left-past nodes node a (omega arith)

-- who is on a node beyond all is none of them, so it is taken out
pub taken-missed : (nodes : List (List ℕ)) (n : ℕ) (actor a : Actor) → n ≡ actor.node → length nodes ≤ n → has_actor (actors_from 0 nodes) a ≡ (not (same_actor actor a) && has_actor (actors_from 0 nodes) a)
taken-missed nodes n actor a on outside = elim (cases_eq actor.node a.node) [
  | inl same ↦ has-actor-past nodes a (omega arith)
      ∙ sym (and_right (not (same_actor actor a)) (has_actor (actors_from 0 nodes) a) (has-actor-past nodes a (omega arith)))
  | inr other ↦ sym (ap (λ v. not v && has_actor (actors_from 0 nodes) a) (and_left (actor.node == a.node) (actor.serial == a.serial) (ne_eqb actor.node a.node other)))
]

pub count-missed : (nodes : List (List ℕ)) (n : ℕ) (actor : Actor) → n ≡ actor.node → length nodes ≤ n
    → length (actors_from 0 nodes) + cond (has_actor (actors_from 0 nodes) actor) 1 0 ≡ length (actors_from 0 nodes)
count-missed nodes n actor on outside =
    ap (λ (v : Bool). length (actors_from 0 nodes) + one_if v) (has-actor-past nodes actor (omega arith)) ∙ add-zero (length (actors_from 0 nodes))
