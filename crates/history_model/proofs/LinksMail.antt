-- Where the lost nodes are settled, what a fold admits from them is the mail that they sent: this is what balances and
-- edges count in the place of what lost nodes told.
use Rattle.std.proofs.Common.{◌≡◌, ◌≢◌, ◌≤◌, ◌<◌, ◌+◌, ◌&&◌, ◌==◌, ℕ, zero, suc, Bool, true, false, cond, if◌then◌else◌, List, [], ◌∷◌, ◌++◌, map, take, drop, slice_get, option_to_list, sum_by, refl, sym, ◌∙◌, ap, ap₂, subst, inl, inr, arith, ltb-true, ne_eqb, take-append-drop, append-nil}
use Rattle.std.proofs.lemmas.Bool.{eqb-true}
use Rattle.std.proofs.lemmas.List.Sums.{sum_by-append}
use Rattle.std.specs.List.{filter}
use Rattle.crgc_ids.specs.Actor.{Actor}
use Rattle.crgc_ids.specs.Nodes.{nodes_below}
use Rattle.crgc_ids.specs.Members.{IsAmong}
use Rattle.crgc_ids.proofs.MembersLaws.{IsAmong-append_cases, IsAmong-from_filter, IsAmong-from_range}
use Rattle.history_model.specs.declared.events.Event.{Event}
use Rattle.history_model.specs.declared.events.Event.TheVariants.{Publish, Send, Window, Admit, Remove}
use Rattle.history_model.specs.Tally.{tally}
use Rattle.history_model.specs.Cluster.{Cluster, same_actor}
use Rattle.history_model.specs.Messages.{Message, sent, message_at, was_admitted, admitted_by, is_to, mail}
use Rattle.history_model.specs.Facts.{Fact, created, is_sent_to, is_created, message_facts}
use Rattle.history_model.specs.Streams.{Notice, delta, window_of, final_of, queue, window, stream}
use Rattle.history_model.specs.Folds.{fold_to}
use Rattle.history_model.specs.Graph.{link_facts, admitted_facts, admitted_count, carried_count}
use Rattle.history_model.specs.Legal.{IsLegal}
use Rattle.history_model.specs.Settled.{AreSettled, admitted_on}
use Rattle.history_model.proofs.Basics.{eqb-refl, same_actor-equal, legal-kept, same_actor-sym}
use Rattle.history_model.proofs.LinksSettled.{link-equal}
use Rattle.history_model.proofs.LinksSums.{nodes-point, sum_by-filter, sum_by-none, sum_by-same, tally-flat_map, tally-sum_by}
use Rattle.history_model.proofs.JoinedBulletins.{link_facts-append}
use Rattle.history_model.proofs.LinksWindows.{told_from, windows-told}
use Rattle.history_model.proofs.Lists.{tally-append}

-- ---- where messages come from, and go to

-- the message was sent from node s to node d
abbrev pub IsBetween : ℕ → ℕ → Message → Type 0
IsBetween s d m = (m.from.node ≡ s) × (m.to.node ≡ d)

-- what is sent on a link is between its ends
pub sent-between : (h : List Event) (s d : ℕ) (m : Message) → IsAmong m (sent s d h) → IsBetween s d m
sent-between [] s d m k = absurd k
sent-between (Send f t refs ∷ p) s d m k =
    let last : Message = record { from = f; to = t; refs = refs } in
    let before = sent s d p in
    (elim ((f.node == s) && (t.node == d)) as (λ v. ((f.node == s) && (t.node == d)) ≡ v → IsAmong m (cond v (before ++ last ∷ []) before) → IsBetween s d m) [
      | true ↦ λ e j. elim (IsAmong-append_cases m before (last ∷ []) j) [
        | inl earlier ↦ sent-between p s d m earlier
        | inr now ↦ elim now [ inl same ↦ subst (IsBetween s d) (sym same) (link-equal f.node t.node s d e) | inr none ↦ absurd none ]
      ]
      | false ↦ λ e j. sent-between p s d m j
    ]) refl k
sent-between (_ ∷ p) s d m k = sent-between p s d m k

-- what stands at a place is a member
member_at : (xs : List Message) (k : ℕ) (m : Message) → IsAmong m (option_to_list (slice_get xs k)) → IsAmong m xs
member_at [] k m j = absurd j
member_at (x ∷ xs) zero m (inl e) = inl e
member_at (x ∷ xs) zero m (inr none) = absurd none
member_at (x ∷ xs) (suc k) m j = inr (member_at xs k m j)

-- so is what an event admits from it
admitted-between : (p : List Event) (s d k : ℕ) (m : Message) → IsAmong m (admitted_by (Admit s d k) p) → IsBetween s d m
admitted-between p s d k m j =
    (elim (was_admitted s d k p) as (λ v. IsAmong m (cond v [] (message_at s d k p)) → IsBetween s d m) [
      | true ↦ λ none. absurd none
      | false ↦ λ i. sent-between p s d m (member_at (sent s d p) k m i)
    ]) j

-- and all that was admitted from it
pub admitted_on-between : (h : List Event) (s d : ℕ) (m : Message) → IsAmong m (admitted_on s d h) → IsBetween s d m
admitted_on-between [] s d m j = absurd j
admitted_on-between (Admit x y k ∷ p) s d m j =
    let more = admitted_by (Admit x y k) p in
    (elim ((x == s) && (y == d)) as (λ v. ((x == s) && (y == d)) ≡ v → IsAmong m (cond v (admitted_on s d p ++ more) (admitted_on s d p)) → IsBetween s d m) [
      | true ↦ λ e i. elim (IsAmong-append_cases m (admitted_on s d p) more i) [
        | inl before ↦ admitted_on-between p s d m before
        | inr now ↦ (let ends = admitted-between p x y k m now in let same = link-equal x y s d e in (ends.0 ∙ same.0, ends.1 ∙ same.1))
      ]
      | false ↦ λ e i. admitted_on-between p s d m i
    ]) refl j
admitted_on-between (_ ∷ p) s d m j = admitted_on-between p s d m j

-- the mail of a is to a
pub mail-to : (a : Actor) (h : List Event) (m : Message) → IsAmong m (mail a h) → is_to a m ≡ true
mail-to a [] m j = absurd j
mail-to a (e ∷ p) m j =
    let more = admitted_by e p in
    elim (IsAmong-append_cases m (mail a p) (filter (is_to a) more) j) [
      | inl before ↦ mail-to a p m before
      | inr now ↦ (IsAmong-from_filter (is_to a) m more now).1
    ]

-- ---- the mail from lost nodes, node by node

-- what a message counts, if a lost node sent it
abbrev pub if_lost : (ℕ → Bool) → (Message → ℕ) → Message → ℕ
if_lost lost w m = cond (lost m.from.node) (w m) 0

-- what the messages count that d admitted from s, if s is lost
abbrev pub from_lost : (ℕ → Bool) → (Message → ℕ) → ℕ → List Event → ℕ → ℕ
from_lost lost w d h s = cond (lost s) (sum_by w (admitted_on s d h)) 0

-- what counts nothing counts nothing from a lost node
pub cond_none : (v : Bool) (n : ℕ) → n ≡ 0 → cond v n 0 ≡ 0
cond_none true n none = none
cond_none false n none = refl

-- a sum over messages of one node
cond_sum : (v : Bool) (w : Message → ℕ) (ms : List Message) → sum_by (λ m. cond v (w m) 0) ms ≡ cond v (sum_by w ms) 0
cond_sum true w ms = refl
cond_sum false w ms = sum_by-none (λ _. 0) ms (λ _ _. refl)

-- so is a sum over joined messages
cond_append : (v : Bool) (w : Message → ℕ) (xs ys : List Message) → cond v (sum_by w (xs ++ ys)) 0 ≡ cond v (sum_by w xs) 0 + cond v (sum_by w ys) 0
cond_append true w xs ys = sum_by-append w xs ys
cond_append false w xs ys = refl

-- a message between other nodes is not to b
not_to : (b : Actor) (s d : ℕ) (m : Message) → IsBetween s d m → d == b.node ≡ false → is_to b m ≡ false
not_to b s d m ends other = ap (λ v. v && (m.to.serial == b.serial)) (ap (λ n. n == b.node) ends.1 ∙ other)

module _ (lost : ℕ → Bool) (b : Actor) (w : Message → ℕ) (none : (m : Message) → is_to b m ≡ false → w m ≡ 0) where
  -- a message on one node does not count, where that node is not lost
  local_none : lost b.node ≡ false → (f t : Actor) (refs : List Actor) (p : List Event)
      → sum_by (if_lost lost w) (filter (is_to b) (admitted_by (Send f t refs) p)) ≡ 0
  local_none out f t refs p =
      let one : Message = record { from = f; to = t; refs = refs } in
      sum_by-none (if_lost lost w) (filter (is_to b) (admitted_by (Send f t refs) p)) (λ m j.
      let found = IsAmong-from_filter (is_to b) m (admitted_by (Send f t refs) p) j in
      let same : m.from.node ≡ m.to.node =
      (elim (f.node == t.node) as (λ v. f.node == t.node ≡ v → IsAmong m (cond v (one ∷ []) []) → m.from.node ≡ m.to.node) [
        | true ↦ λ e i. elim i [
          | inl is ↦ ap (λ (x : Message). x.from.node) is ∙ eqb-true f.node t.node e ∙ sym (ap (λ (x : Message). x.to.node) is)
          | inr no_more ↦ absurd no_more
        ]
        | false ↦ λ _ i. absurd i
      ]) refl found.0 in
      let to : m.to.node ≡ b.node = ap (λ (x : Actor). x.node) (same_actor-equal m.to b found.1) in
      ap (λ v. cond v (w m) 0) (ap lost (same ∙ to) ∙ out))

  -- what an admission adds to what counts at its source
  admit_adds : (x y k : ℕ) (p : List Event)
      → from_lost lost w b.node (Admit x y k ∷ p) x ≡ from_lost lost w b.node p x + sum_by (if_lost lost w) (admitted_by (Admit x y k) p)
  admit_adds x y k p =
      let before = admitted_on x b.node p in
      let more = admitted_by (Admit x y k) p in
      let counted : sum_by (if_lost lost w) more ≡ cond (lost x) (sum_by w more) 0 =
      sum_by-same (if_lost lost w) (λ m. cond (lost x) (w m) 0) more (λ m j. ap (λ s. cond (lost s) (w m) 0) (admitted-between p x y k m j).0) ∙ cond_sum (lost x) w more in
      let Adds : Bool → Type 0 = λ v. cond (lost x) (sum_by w (cond v (before ++ more) before)) 0 ≡ cond (lost x) (sum_by w before) 0 + sum_by (if_lost lost w) more in
      let adds : (v : Bool) → y == b.node ≡ v → Adds v = λ v. (elim v as (λ v. y == b.node ≡ v → Adds v) [
        | true ↦ λ _. cond_append (lost x) w before more ∙ ap (λ n. cond (lost x) (sum_by w before) 0 + n) (sym counted)
        | false ↦ λ e. (
            let nothing : sum_by (if_lost lost w) more ≡ 0 = sum_by-none (if_lost lost w) more (λ m j.
            cond_none (lost m.from.node) (w m) (none m (not_to b x y m (admitted-between p x y k m j) e))) in
            omega (arith, nothing))
      ]) in
      subst (λ v. Adds (v && (y == b.node))) (sym (eqb-refl x)) (adds (y == b.node) refl)

  -- b's mail from lost nodes is what was admitted from each of them
  mail-by_node : (cl : Cluster) (h : List Event) → IsLegal cl h → lost b.node ≡ false
      → sum_by (if_lost lost w) (mail b h) ≡ sum_by (from_lost lost w b.node h) (nodes_below cl.nodes)
  mail-by_node cl [] legal out = sym (sum_by-none (from_lost lost w b.node []) (nodes_below cl.nodes) (λ s _. cond_none (lost s) 0 refl))
  mail-by_node cl (Send f t refs ∷ p) legal out =
      let before = mail-by_node cl p legal.1 out in
      let nothing = local_none out f t refs p in
      let both = sum_by-append (if_lost lost w) (mail b p) (filter (is_to b) (admitted_by (Send f t refs) p)) in
      both ∙ omega (arith, nothing, before)
  mail-by_node cl (Admit x y k ∷ p) legal out =
      let more = admitted_by (Admit x y k) p in
      let kept = legal-kept cl (Admit x y k) p legal in
      let before = mail-by_node cl p legal.1 out in
      let filtered = sum_by-filter (if_lost lost w) (is_to b) more (λ m e. cond_none (lost m.from.node) (w m) (none m e)) in
      let both = sum_by-append (if_lost lost w) (mail b p) (filter (is_to b) more) in
      let inside = ltb-true x cl.nodes kept.0 in
      let grown : ℕ → Bool → ℕ = λ s v. cond (lost s) (sum_by w (cond (v && (y == b.node)) (admitted_on s b.node p ++ more) (admitted_on s b.node p))) 0 in
      let adds = nodes-point (λ s. grown s (x == s)) (from_lost lost w b.node p) x (sum_by (if_lost lost w) more) cl.nodes inside
      (λ s differ. ap (grown s) (ne_eqb x s (λ e. differ (sym e)))) (admit_adds x y k p) in
      both ∙ ap₂ ◌+◌ before filtered ∙ sym adds
  mail-by_node cl (_ ∷ p) legal out = ap (sum_by (if_lost lost w)) (append-nil (mail b p)) ∙ mail-by_node cl p legal.1 out

-- ---- the facts of links from lost nodes, node by node

-- the windows and finals are of links from nodes below n
abbrev pub AreFrom : ℕ → List Notice → Type 0
AreFrom n [] = Unit {0}
AreFrom n (delta facts ∷ xs) = AreFrom n xs
AreFrom n (window_of s facts ∷ xs) = (s < n) × AreFrom n xs
AreFrom n (final_of s facts ∷ xs) = (s < n) × AreFrom n xs

-- joined bulletins
AreFrom-append : (n : ℕ) (xs ys : List Notice) → AreFrom n xs → AreFrom n ys → AreFrom n (xs ++ ys)
AreFrom-append n [] ys f g = g
AreFrom-append n (delta facts ∷ xs) ys f g = AreFrom-append n xs ys f g
AreFrom-append n (window_of s facts ∷ xs) ys f g = (f.0, AreFrom-append n xs ys f.1 g)
AreFrom-append n (final_of s facts ∷ xs) ys f g = (f.0, AreFrom-append n xs ys f.1 g)

-- the first bulletins
AreFrom-take : (n k : ℕ) (xs : List Notice) → AreFrom n xs → AreFrom n (take k xs)
AreFrom-take n zero xs f = tt
AreFrom-take n (suc k) [] f = tt
AreFrom-take n (suc k) (delta facts ∷ xs) f = AreFrom-take n k xs f
AreFrom-take n (suc k) (window_of s facts ∷ xs) f = (f.0, AreFrom-take n k xs f.1)
AreFrom-take n (suc k) (final_of s facts ∷ xs) f = (f.0, AreFrom-take n k xs f.1)

-- one more bulletin, or none
one_from : (n : ℕ) (xs : List Notice) (x : Notice) (v : Bool) → AreFrom n xs → AreFrom n (x ∷ []) → AreFrom n (cond v (xs ++ x ∷ []) xs)
one_from n xs x true f g = AreFrom-append n xs (x ∷ []) f g
one_from n xs x false f g = f

-- the bulletins of a legal history
stream-from : (cl : Cluster) (h : List Event) → IsLegal cl h → (d : ℕ) → AreFrom cl.nodes (stream cl d h)
stream-from cl [] legal d = tt
stream-from cl (Publish m ∷ p) legal d = one_from cl.nodes (stream cl d p) (delta (queue cl d p)) (m == d) (stream-from cl p legal.1 d) tt
stream-from cl (Window y x ∷ p) legal d =
    let kept = legal-kept cl (Window y x) p legal in
    one_from cl.nodes (stream cl d p) (window_of x (window x y p)) (y == d) (stream-from cl p legal.1 d) (ltb-true x cl.nodes kept.1.0, tt)
stream-from cl (Remove y x ∷ p) legal d =
    let kept = legal-kept cl (Remove y x) p legal in
    one_from cl.nodes (stream cl d p) (final_of x (window x y p)) (y == d) (stream-from cl p legal.1 d) (ltb-true x cl.nodes kept.1.0, tt)
stream-from cl (_ ∷ p) legal d = stream-from cl p legal.1 d

module _ (lost : ℕ → Bool) (test : Fact → Bool) where
  -- facts of a lost node add their tally
  put_before : (v : Bool) (facts rest : List Fact) → tally test (cond v (facts ++ rest) rest) ≡ tally test rest + cond v (tally test facts) 0
  put_before true facts rest = let both = tally-append test facts rest in omega (arith, both)
  put_before false facts rest = omega arith

  -- so they do to what counts of that node
  put_before_lost : (v : Bool) (facts rest : List Fact) → cond v (tally test (facts ++ rest)) 0 ≡ cond v (tally test rest) 0 + cond v (tally test facts) 0
  put_before_lost true facts rest = let both = tally-append test facts rest in omega (arith, both)
  put_before_lost false facts rest = refl

  -- one more window or final
  one_source : (n k : ℕ) (facts : List Fact) (xs : List Notice) → k < n
      → tally test (link_facts lost xs) ≡ sum_by (λ s. cond (lost s) (tally test (told_from s xs)) 0) (nodes_below n)
      → tally test (cond (lost k) (facts ++ link_facts lost xs) (link_facts lost xs))
      ≡ sum_by (λ s. cond (lost s) (tally test (cond (k == s) (facts ++ told_from s xs) (told_from s xs))) 0) (nodes_below n)
  one_source n k facts xs below before =
      let from : ℕ → List Fact = λ s. told_from s xs in
      let grown : ℕ → Bool → ℕ = λ s v. cond (lost s) (tally test (cond v (facts ++ from s) (from s))) 0 in
      let adds = nodes-point (λ s. grown s (k == s)) (λ s. cond (lost s) (tally test (from s)) 0) k (cond (lost k) (tally test facts) 0) n below
      (λ s differ. ap (grown s) (ne_eqb k s (λ e. differ (sym e)))) (ap (grown k) (eqb-refl k) ∙ put_before_lost (lost k) facts (from k)) in
      put_before (lost k) facts (link_facts lost xs) ∙ ap (λ m. m + cond (lost k) (tally test facts) 0) before ∙ sym adds

  -- what is told of lost nodes is what is told of each of them
  link_facts-by_node : (n : ℕ) (xs : List Notice) → AreFrom n xs
      → tally test (link_facts lost xs) ≡ sum_by (λ s. cond (lost s) (tally test (told_from s xs)) 0) (nodes_below n)
  link_facts-by_node n [] f = sym (sum_by-none (λ s. cond (lost s) 0 0) (nodes_below n) (λ s _. cond_none (lost s) 0 refl))
  link_facts-by_node n (delta facts ∷ xs) f = link_facts-by_node n xs f
  link_facts-by_node n (window_of k facts ∷ xs) f = one_source n k facts xs f.0 (link_facts-by_node n xs f.1)
  link_facts-by_node n (final_of k facts ∷ xs) f = one_source n k facts xs f.0 (link_facts-by_node n xs f.1)

-- ---- the fold against the mail

-- what a message counts by its facts
abbrev pub weight : (Fact → Bool) → Message → ℕ
weight test m = tally test (message_facts m)

module _ (cl : Cluster) (h : List Event) (c : ℕ → ℕ) (lost : ℕ → Bool) (b : Actor) (test : Fact → Bool)
    (none : (m : Message) → is_to b m ≡ false → weight test m ≡ 0) where
  -- the streams of other nodes tell of no message to b
  other_stream : (s d : ℕ) → d == b.node ≡ false → tally test (told_from s (take (c d) (stream cl d h))) ≡ 0
  other_stream s d other =
      let first = told_from s (take (c d) (stream cl d h)) in
      let rest = told_from s (drop (c d) (stream cl d h)) in
      let whole : told_from s (stream cl d h) ≡ first ++ rest =
      sym (ap (told_from s) (take-append-drop (c d) (stream cl d h))) ∙ link_facts-append (λ x. x == s) (take (c d) (stream cl d h)) (drop (c d) (stream cl d h)) in
      let told : tally test ((first ++ rest) ++ window s d h) ≡ sum_by (weight test) (admitted_on s d h) =
      ap (λ xs. tally test (xs ++ window s d h)) (sym whole) ∙ ap (tally test) (windows-told cl h s d) ∙ tally-flat_map test message_facts (admitted_on s d h) in
      let nothing = sum_by-none (weight test) (admitted_on s d h) (λ m j. none m (not_to b s d m (admitted_on-between h s d m j) other)) in
      let split = tally-append test (first ++ rest) (window s d h) in
      let halves = tally-append test first rest in
      omega (arith, told, nothing, split, halves)

  -- what the first bulletins of node o tell of lost nodes; nothing of it counts where b is on another node
  notices-by_node : IsLegal cl h → (o : ℕ) → tally test (link_facts lost (take (c o) (stream cl o h))) ≡ sum_by (λ s. cond (lost s) (tally test (told_from s (take (c o) (stream cl o h)))) 0) (nodes_below cl.nodes)
  notices-by_node legal o =
      link_facts-by_node lost test cl.nodes (take (c o) (stream cl o h)) (AreFrom-take cl.nodes (c o) (stream cl o h) (stream-from cl h legal o))

  other_notices : IsLegal cl h → (o : ℕ) → o ≢ b.node → tally test (link_facts lost (take (c o) (stream cl o h))) ≡ 0
  other_notices legal o differ =
      notices-by_node legal o
      ∙ sum_by-none (λ s. cond (lost s) (tally test (told_from s (take (c o) (stream cl o h)))) 0) (nodes_below cl.nodes)
      (λ s _. cond_none (lost s) (tally test (told_from s (take (c o) (stream cl o h)))) (other_stream s o (ne_eqb o b.node differ)))

  -- where b is on no node of the cluster, nothing that a fold admits counts
  admitted_facts-outside : IsLegal cl h → cl.nodes ≤ b.node → tally test (admitted_facts cl lost (fold_to cl c h)) ≡ 0
  admitted_facts-outside legal outside =
      tally-flat_map test (λ o. link_facts lost (take (c o) (stream cl o h))) (nodes_below cl.nodes)
      ∙ sum_by-none (λ o. tally test (link_facts lost (take (c o) (stream cl o h)))) (nodes_below cl.nodes)
      (λ o among. other_notices legal o (λ e. (let below = IsAmong-from_range o 0 cl.nodes among in absurd (omega (arith, below.1, e, outside)))))

  -- what a fold admits for b counts as much as the mail of b from lost nodes
  admitted_facts-mail : IsLegal cl h → AreSettled cl c lost h → b.node < cl.nodes → lost b.node ≡ false
      → tally test (admitted_facts cl lost (fold_to cl c h)) ≡ sum_by (if_lost lost (weight test)) (mail b h)
  admitted_facts-mail legal settled node out =
      let folded_of : ℕ → List Notice = λ o. take (c o) (stream cl o h) in
      let own : tally test (link_facts lost (folded_of b.node)) ≡ sum_by (from_lost lost (weight test) b.node h) (nodes_below cl.nodes) =
      notices-by_node legal b.node ∙ sum_by-same (λ s. cond (lost s) (tally test (told_from s (folded_of b.node))) 0) (from_lost lost (weight test) b.node h) (nodes_below cl.nodes) (λ s _.
      (elim (lost s) as (λ v. lost s ≡ v → cond v (tally test (told_from s (folded_of b.node))) 0 ≡ cond v (sum_by (weight test) (admitted_on s b.node h)) 0) [
        | true ↦ λ e. ap (tally test) (settled.told s b.node node e out) ∙ tally-flat_map test message_facts (admitted_on s b.node h)
        | false ↦ λ _. refl
      ]) refl) in
      let point = nodes-point (λ o. tally test (link_facts lost (folded_of o))) (λ _. 0) b.node (tally test (link_facts lost (folded_of b.node))) cl.nodes node (other_notices legal) (omega arith) in
      let nothing = sum_by-none (λ (_ : ℕ). 0) (nodes_below cl.nodes) (λ _ _. refl) in
      tally-flat_map test (λ o. link_facts lost (folded_of o)) (nodes_below cl.nodes) ∙ point ∙ omega (arith, nothing) ∙ own
      ∙ sym (mail-by_node lost b (weight test) none cl h legal out)

-- ---- what messages count

-- references count for no message
created_none : (a t : Actor) (refs : List Actor) → tally (is_sent_to a) (map (created t) refs) ≡ 0
created_none a t [] = refl
created_none a t (r ∷ refs) = created_none a t refs

-- a message counts once for its recipient
sent_weight : (a : Actor) (m : Message) → weight (is_sent_to a) m ≡ cond (is_to a m) 1 0
sent_weight a m =
    let nothing = created_none a m.to m.refs in
    elim (is_to a m) as (λ v. cond v (tally (is_sent_to a) (map (created m.to) m.refs) + 1) (tally (is_sent_to a) (map (created m.to) m.refs)) ≡ cond v 1 0) [
      | true ↦ omega (arith, nothing)
      | false ↦ nothing
    ]

-- the references to a among those that are made for t count, where t is b
created_weight : (b a t : Actor) (refs : List Actor) (v : Bool) → same_actor t b ≡ v
    → tally (is_created b a) (map (created t) refs) ≡ cond v (tally (same_actor a) refs) 0
created_weight b a t [] true e = refl
created_weight b a t [] false e = refl
created_weight b a t (r ∷ refs) true e =
    ap₂ (λ x n. cond x (n + 1) n) (ap₂ ◌&&◌ e (same_actor-sym r a)) (created_weight b a t refs true e)
created_weight b a t (r ∷ refs) false e =
    ap₂ (λ x n. cond x (n + 1) n) (ap (λ x. x && same_actor r a) e) (created_weight b a t refs false e)

-- the messages that a fold admits for a are its mail from lost nodes
pub admitted-mail : (cl : Cluster) (h : List Event) (c : ℕ → ℕ) (lost : ℕ → Bool) → IsLegal cl h → AreSettled cl c lost h
    → (a : Actor) → a.node < cl.nodes → lost a.node ≡ false
    → admitted_count cl lost (fold_to cl c h) a ≡ tally (λ m. lost m.from.node) (mail a h)
admitted-mail cl h c lost legal settled a node out =
    let counts = admitted_facts-mail cl h c lost a (is_sent_to a) (λ m e. sent_weight a m ∙ ap (λ v. cond v 1 0) e) legal settled node out in
    counts ∙ sum_by-same (if_lost lost (weight (is_sent_to a))) (λ m. cond (lost m.from.node) 1 0) (mail a h)
    (λ m j. ap (λ n. cond (lost m.from.node) n 0) (sent_weight a m ∙ ap (λ v. cond v 1 0) (mail-to a h m j)))
    ∙ sym (tally-sum_by (λ m. lost m.from.node) (mail a h))

-- the references to a that a fold admits for b are those that b's mail from lost nodes carries
pub carried-mail : (cl : Cluster) (h : List Event) (c : ℕ → ℕ) (lost : ℕ → Bool) → IsLegal cl h → AreSettled cl c lost h
    → (b a : Actor) → b.node < cl.nodes → lost b.node ≡ false
    → carried_count cl lost (fold_to cl c h) b a ≡ sum_by (λ m. if lost m.from.node then tally (same_actor a) m.refs else 0) (mail b h)
carried-mail cl h c lost legal settled b a node out =
    let counts = admitted_facts-mail cl h c lost b (is_created b a) (λ m e. created_weight b a m.to m.refs false e) legal settled node out in
    counts ∙ sum_by-same (if_lost lost (weight (is_created b a))) (λ m. cond (lost m.from.node) (tally (same_actor a) m.refs) 0) (mail b h)
    (λ m j. ap (λ n. cond (lost m.from.node) n 0) (created_weight b a m.to m.refs true (mail-to b h m j)))

-- none are admitted for an actor of no node of the cluster
pub carried-outside : (cl : Cluster) (h : List Event) (c : ℕ → ℕ) (lost : ℕ → Bool) → IsLegal cl h
    → (b a : Actor) → cl.nodes ≤ b.node → carried_count cl lost (fold_to cl c h) b a ≡ 0
carried-outside cl h c lost legal b a =
    admitted_facts-outside cl h c lost b (is_created b a) (λ m e. created_weight b a m.to m.refs false e) legal
