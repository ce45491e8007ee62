-- What each stage of a round brings about: after the removals each link from a node that is down to one that is up is closed;
-- after the flushes no actor of a node that is up can be flushed, and nothing is queued there; after the hands each node that
-- is up was handed all bulletins of each stream.
use Rattle.std.proofs.Common.{◌≡◌, ◌<◌, ◌≤◌, ◌&&◌, ◌||◌, ◌==◌, ℕ, zero, suc, Bool, true, false, cond, not, nat_lt, List, [], ◌∷◌, ◌++◌, length, Some, None, refl, sym, ◌∙◌, ap, subst, inl, inr, arith, append-nil, IsTrue, IsFalse}
use Rattle.std.proofs.lemmas.Bool.{and_from, cases_lt, cond-true, eq-eqb, false_from_ne_true, lt-ltb, ltb-true, ne_eqb, not_from_false, or_left, or_right, true_from_ne_false}
use Rattle.std.specs.Bool.{beq}
use Rattle.crgc_ids.specs.Actor.{Actor}
use Rattle.history_model.specs.declared.events.Event.{Event}
use Rattle.history_model.specs.declared.events.Event.TheVariants.{Flush, Publish, Remove, Hand, Sweep}
use Rattle.history_model.specs.declared.events.Rule.TheVariants.{NoNode, NoActor, Down, Blank, EmptyQueue, NoBulletin}
use Rattle.history_model.specs.Cluster.{Cluster, births, is_born, same_actor}
use Rattle.history_model.specs.Facts.{Fact}
use Rattle.history_model.specs.Folds.{cut_at, run_of, was_handed}
use Rattle.history_model.specs.Legal.{IsLegal, refusal}
use Rattle.history_model.specs.Messages.{is_closed}
use Rattle.history_model.specs.State.{is_busy, is_root, is_up}
use Rattle.history_model.specs.Streams.{are_flags, can_flush, entry, flags_at, flushed_flags, is_blank, log, queue, stream}
use Rattle.history_model.proofs.AccountsBirths.{born-on_node}
use Rattle.history_model.proofs.Basics.{eqb-refl, legal-kept, same_actor-equal, same_actor-refl}
use Rattle.run_model.specs.Round.{each, flushed, flushed_on, flushes, flushes_on, handed, handed_from, hands, published, removals, tried}
use Rattle.run_model.proofs.RoundSteps.{actor_of, allowed-makes, each-keeps, each-makes, flushed-keeps, flushed_on-keeps, handed-keeps, handed_from-keeps, published-keeps, tried-keeps, tried-makes}

-- each pair of numbers below the bound, one after the other
both-make : (Q : ℕ → ℕ → List Event → Type 0) (step : ℕ → ℕ → List Event → List Event) (bound : ℕ)
    → ((m n : ℕ) (h : List Event) → m < bound → n < bound → Q m n (step m n h)) → ((m n j k : ℕ) (h : List Event) → Q j k h → Q j k (step m n h))
    → (h : List Event) (m n : ℕ) → m < bound → n < bound → Q m n (each (λ x. each (step x) bound) bound h)
both-make Q step bound makes stays h m n first second =
    let Any : List Event → Type 0 = λ _. Unit {0} in
    let row : (x : ℕ) (g : List Event) → x < bound → (y : ℕ) → y < bound → Q x y (each (step x) bound g) = λ x g below y within.
    each-makes Any (λ k f. k < bound → Q x k f) (step x) (λ _ _ _. tt) (λ k f _ under. makes x k f below under) (λ i j f _ _ before under. stays x i x j f (before under)) bound g tt y within within in
    each-makes Any (λ x g. x < bound → (y : ℕ) → y < bound → Q x y g) (λ x. each (step x) bound) (λ _ _ _. tt) (λ x g _ below y within. row x g below y within)
    (λ i j g _ _ before below y within. each-keeps (Q j y) (step i) (λ k f. stays i k j y f) bound g (before below y within)) bound h tt m first first n second

-- ---- removals

remove-allowed : (cl : Cluster) (m n : ℕ) (h : List Event) → m < cl.nodes → n < cl.nodes → is_up n h ≡ false → is_up m h ≡ true → is_closed n m h ≡ false → refusal cl (Remove m n) h ≡ None
remove-allowed cl m n h first second down up open_link =
    let apart : (m == n) ≡ false = ne_eqb m n (λ same. (let both : true ≡ false = sym up ∙ ap (λ x. is_up x h) same ∙ down in absurd (cc))) in
    rw (lt-ltb m cl.nodes first, lt-ltb n cl.nodes second, apart, up, down, open_link) refl

-- node m, if it is up, has removed node n, if that is down
abbrev HasRemoved : ℕ → ℕ → List Event → Type 0
HasRemoved m n h = IsFalse (is_up n h) → IsTrue (is_up m h) → IsTrue (is_closed n m h)

remove-makes : (cl : Cluster) (m n : ℕ) (h : List Event) → m < cl.nodes → n < cl.nodes → HasRemoved m n (tried cl (Remove m n) h)
remove-makes cl m n h first second =
    tried-makes (HasRemoved m n) cl (Remove m n) h (λ _ down up. or_left ((n == n) && (m == m)) (is_closed n m h) (and_from (n == n) (m == m) (eqb-refl n) (eqb-refl m)))
    (λ refused down up. true_from_ne_false (is_closed n m h) (λ open_link. refused (remove-allowed cl m n h first second down up open_link)))

pub removals-close : (cl : Cluster) (h : List Event) (n k : ℕ) → n < cl.nodes → k < cl.nodes → IsFalse (is_up n (removals cl h)) → IsTrue (is_up k (removals cl h)) → IsTrue (is_closed n k (removals cl h))
removals-close cl h n k down_node up_node =
    both-make HasRemoved (λ m x. tried cl (Remove m x)) cl.nodes (remove-makes cl)
    (λ m x j y g before. tried-keeps (HasRemoved j y) cl (Remove m x) g (λ _ holds down up. or_right ((x == y) && (m == j)) (is_closed y j g) (holds down up)) before) h k n up_node down_node

-- ---- flushes

-- who was just flushed has nothing to flush
just_flushed-nothing : (cl : Cluster) (a : Actor) (h : List Event) → IsFalse (can_flush cl a (Flush a ∷ h))
just_flushed-nothing cl a h = rw (same_actor-refl a) (same (is_busy a h) (is_root a h))
  where
    same : (x y : Bool) → not (beq x x && beq y y) ≡ false
    same true true = refl
    same true false = refl
    same false true = refl
    same false false = refl

-- and whoever had nothing to flush has nothing after anybody's flush
nothing-flush : (cl : Cluster) (a b : Actor) (h : List Event) → IsFalse (can_flush cl a h) → IsFalse (can_flush cl a (Flush b ∷ h))
nothing-flush cl a b h nothing =
    elim (same_actor b a) as (λ v. same_actor b a ≡ v → IsFalse (can_flush cl a (Flush b ∷ h))) [
      | true ↦ λ same. subst (λ c. IsFalse (can_flush cl a (Flush c ∷ h))) (sym (same_actor-equal b a same)) (just_flushed-nothing cl a h)
      | false ↦ λ other. rw (other, append-nil (log cl a h)) nothing
    ] refl

-- nor after an event that notes nothing and changes no flags
nothing-silent : (cl : Cluster) (a : Actor) (h : List Event) → IsFalse (can_flush cl a h) → IsFalse (not (is_blank (log cl a h ++ [])) || not (are_flags (flushed_flags a h) (flags_at a h)))
nothing-silent cl a h nothing = rw (append-nil (log cl a h)) nothing

flush-allowed : (cl : Cluster) (a : Actor) (h : List Event) → IsTrue (is_born a h) → IsTrue (is_up a.node h) → IsTrue (can_flush cl a h) → refusal cl (Flush a) h ≡ None
flush-allowed cl a h born up can =
    cond-true (is_born a h) _ (Some NoActor) born ∙ cond-true (is_up a.node h) _ (Some Down) up ∙ cond-true (can_flush cl a h) None (Some Blank) can

publish-allowed : (cl : Cluster) (m : ℕ) (h : List Event) → m < cl.nodes → IsTrue (is_up m h) → IsFalse (is_blank (queue cl m h)) → refusal cl (Publish m) h ≡ None
publish-allowed cl m h node up some =
    cond-true (nat_lt m cl.nodes) _ (Some NoNode) (lt-ltb m cl.nodes node) ∙ cond-true (is_up m h) _ (Some Down) up
    ∙ cond-true (not (is_blank (queue cl m h))) None (Some EmptyQueue) (not_from_false (is_blank (queue cl m h)) some)

blank-empty : (facts : List Fact) → is_blank facts ≡ true → facts ≡ []
blank-empty [] blank = refl
blank-empty (x ∷ xs) blank = absurd (cc)

-- actor number s of node m was flushed, where it is there and m is up
abbrev HasFlushed : Cluster → ℕ → ℕ → List Event → Type 0
HasFlushed cl m s h = IsTrue (is_up m h) → s < births m h → IsFalse (can_flush cl (actor_of m s) h)

flush-keeps : (cl : Cluster) (m s : ℕ) (b : Actor) (h : List Event) → HasFlushed cl m s h → HasFlushed cl m s (Flush b ∷ h)
flush-keeps cl m s b h holds up below = nothing-flush cl (actor_of m s) b h (holds up below)

publish-keeps : (cl : Cluster) (m s n : ℕ) (h : List Event) → HasFlushed cl m s h → HasFlushed cl m s (Publish n ∷ h)
publish-keeps cl m s n h holds up below = nothing-silent cl (actor_of m s) h (holds up below)

flush-makes : (cl : Cluster) (m past s : ℕ) (h : List Event) → HasFlushed cl m s (flushed cl m past s h)
flush-makes cl m past s h =
    let a = actor_of m s in
    allowed-makes (HasFlushed cl m s) cl (Flush a) h (published cl m past (Flush a ∷ h))
    (λ _. published-keeps (HasFlushed cl m s) cl m (λ g _. publish-keeps cl m s m g) past (Flush a ∷ h) (λ _ _. just_flushed-nothing cl a h))
    (λ refused up below. false_from_ne_true (can_flush cl a h) (λ can. refused (flush-allowed cl a h (lt-ltb s (births m h) below) up can)))

-- node m, if it is up, has flushed its actors and published all
abbrev HasTold : Cluster → ℕ → List Event → Type 0
HasTold cl m h = ((s : ℕ) → HasFlushed cl m s h) × (IsTrue (is_up m h) → queue cl m h ≡ [])

told-makes : (cl : Cluster) (m : ℕ) (h : List Event) → m < cl.nodes → HasTold cl m (flushed_on cl m h)
told-makes cl m h node =
    let past = flushes_on m h in
    let all = each (flushed cl m past) (births m h) h in
    let Same : List Event → Type 0 = λ g. births m g ≡ births m h in
    let same : Same (flushed_on cl m h) = flushed_on-keeps Same cl m (λ _ _ e. e) (λ _ _ _ e. e) h refl in
    let each_one : (s : ℕ) → s < births m h → HasFlushed cl m s all =
    each-makes (λ _. Unit {0}) (HasFlushed cl m) (flushed cl m past) (λ _ _ _. tt) (λ s g _. flush-makes cl m past s g)
    (λ k j g _ _ before. flushed-keeps (HasFlushed cl m j) cl m (λ f _. publish-keeps cl m j m f) (λ s f _. flush-keeps cl m j (actor_of m s) f) past k g before)
    (births m h) h tt in (
      λ s up below. tried-keeps (HasFlushed cl m s) cl (Publish m) all (λ _. publish-keeps cl m s m all) (each_one s (omega (arith, below, same))) up below,
      tried-makes (λ g. IsTrue (is_up m g) → queue cl m g ≡ []) cl (Publish m) all
          (λ _ _. ap (λ v. cond v [] (queue cl m all)) (eqb-refl m))
          (λ refused up. blank-empty (queue cl m all) (true_from_ne_false (is_blank (queue cl m all)) (λ some. refused (publish-allowed cl m all node up some)))),
    )

told-stays : (cl : Cluster) (m j : ℕ) (h : List Event) → j < m → HasTold cl j h → HasTold cl j (flushed_on cl m h)
told-stays cl m j h lower holds =
    let apart : (m == j) ≡ false = ne_eqb m j (λ same. absurd (omega (arith, lower, same))) in
    flushed_on-keeps (HasTold cl j) cl m
    (λ g _ told. ((λ s. publish-keeps cl j s m g (told.0 s)), λ up. ap (λ v. cond v [] (queue cl j g)) apart ∙ told.1 up))
    (λ s g _ told. (
    let a = actor_of m s in
    ((λ x. flush-keeps cl j x a g (told.0 x)), λ up. ap (λ v. cond v (queue cl j g ++ entry cl a g) (queue cl j g)) apart ∙ told.1 up)
    )) h holds

-- nothing is queued at what is no node of the cluster
queue-beyond : (cl : Cluster) (h : List Event) → IsLegal cl h → (n : ℕ) → cl.nodes ≤ n → queue cl n h ≡ []
queue-beyond cl [] legal n beyond = refl
queue-beyond cl (Flush a ∷ p) legal n beyond =
    let node = born-on_node cl p legal.1 a (legal-kept cl (Flush a) p legal).0 in
    let apart : (a.node == n) ≡ false = ne_eqb a.node n (λ same. absurd (omega (arith, node, same, beyond))) in
    ap (λ v. cond v (queue cl n p ++ entry cl a p) (queue cl n p)) apart ∙ queue-beyond cl p legal.1 n beyond
queue-beyond cl (Publish m ∷ p) legal n beyond =
    elim (m == n) as (λ v. cond v [] (queue cl n p) ≡ []) [ true ↦ refl | false ↦ queue-beyond cl p legal.1 n beyond ]
queue-beyond cl (_ ∷ p) legal n beyond = queue-beyond cl p legal.1 n beyond

-- no actor of a node that is up can be flushed, and nothing is queued there
abbrev pub AllTold : Cluster → List Event → Type 0
AllTold cl h = ((a : Actor) → IsTrue (is_born a h) → IsTrue (is_up a.node h) → IsFalse (can_flush cl a h)) × ((n : ℕ) → IsTrue (is_up n h) → queue cl n h ≡ [])

pub flushes-tell : (cl : Cluster) (h : List Event) → IsLegal cl (flushes cl h) → AllTold cl (flushes cl h)
flushes-tell cl h legal =
    let after = flushes cl h in
    let told : (m : ℕ) → m < cl.nodes → HasTold cl m after = λ m node.
    each-makes (λ _. Unit {0}) (λ x g. x < cl.nodes → HasTold cl x g) (flushed_on cl) (λ _ _ _. tt) (λ x g _. told-makes cl x g)
    (λ k j g lower _ before below. told-stays cl k j g lower (before below)) cl.nodes h tt m node node in (
      λ a born up. (told a.node (born-on_node cl after legal a born)).0 a.serial up (ltb-true a.serial (births a.node after) born),
      λ n up. elim (cases_lt n cl.nodes) [ inl node ↦ (told n node).1 up | inr beyond ↦ queue-beyond cl after legal n beyond ],
    )

pub hand-keeps_told : (cl : Cluster) (m o k : ℕ) (h : List Event) → AllTold cl h → AllTold cl (Hand m o k ∷ h)
hand-keeps_told cl m o k h told = (λ a born up. nothing-silent cl a h (told.0 a born up), told.1)

pub sweep-keeps_told : (cl : Cluster) (m : ℕ) (h : List Event) → AllTold cl h → AllTold cl (Sweep m ∷ h)
sweep-keeps_told cl m h told = (λ a born up. nothing-silent cl a h (told.0 a born up), told.1)

-- ---- hands

hand-allowed : (cl : Cluster) (m o k : ℕ) (h : List Event) → m < cl.nodes → o < cl.nodes → IsTrue (is_up m h) → k < length (stream cl o h) → refusal cl (Hand m o k) h ≡ None
hand-allowed cl m o k h first second up there =
    cond-true (nat_lt m cl.nodes) _ (Some NoNode) (lt-ltb m cl.nodes first) ∙ cond-true (nat_lt o cl.nodes) _ (Some NoNode) (lt-ltb o cl.nodes second)
    ∙ cond-true (is_up m h) _ (Some Down) up ∙ cond-true (nat_lt k (length (stream cl o h))) None (Some NoBulletin) (lt-ltb k (length (stream cl o h)) there)

-- bulletin k of o, if it is there, was handed to m, if that is up
abbrev HasGot : Cluster → ℕ → ℕ → ℕ → List Event → Type 0
HasGot cl m o k h = IsTrue (is_up m h) → k < length (stream cl o h) → IsTrue (was_handed m o k h)

hand-keeps : (cl : Cluster) (m o k x y z : ℕ) (h : List Event) → HasGot cl m o k h → HasGot cl m o k (Hand x y z ∷ h)
hand-keeps cl m o k x y z h got up there = or_right ((x == m) && ((y == o) && (z == k))) (was_handed m o k h) (got up there)

hand-makes : (cl : Cluster) (m o k : ℕ) (h : List Event) → m < cl.nodes → o < cl.nodes → HasGot cl m o k (handed cl m o k h)
hand-makes cl m o k h first second =
    let itself = and_from (m == m) ((o == o) && (k == k)) (eqb-refl m) (and_from (o == o) (k == k) (eqb-refl o) (eqb-refl k)) in
    elim (was_handed m o k h) as (λ v. was_handed m o k h ≡ v → HasGot cl m o k (cond v h (tried cl (Hand m o k) h))) [
      | true ↦ λ was _ _. was
      | false ↦ λ _.
          tried-makes (HasGot cl m o k) cl (Hand m o k) h (λ _ _ _. or_left ((m == m) && ((o == o) && (k == k))) (was_handed m o k h) itself)
          (λ refused up there. absurd (refused (hand-allowed cl m o k h first second up there)))
    ] refl

-- all bulletins of o were handed to m, if that is up
abbrev HasGotAll : Cluster → ℕ → ℕ → List Event → Type 0
HasGotAll cl m o h = (k : ℕ) → HasGot cl m o k h

all-makes : (cl : Cluster) (m o : ℕ) (h : List Event) → m < cl.nodes → o < cl.nodes → HasGotAll cl m o (handed_from cl m o h)
all-makes cl m o h first second k up there =
    let Same : List Event → Type 0 = λ g. stream cl o g ≡ stream cl o h in
    let same : Same (handed_from cl m o h) = handed_from-keeps Same cl (λ _ _ _ _ _ e. e) m o h refl in
    let bound : length (stream cl o (handed_from cl m o h)) ≡ length (stream cl o h) = ap length same in
    each-makes (λ _. Unit {0}) (HasGot cl m o) (handed cl m o) (λ _ _ _. tt) (λ x g _. hand-makes cl m o x g first second)
    (λ x j g _ _ before. handed-keeps (HasGot cl m o j) cl (λ u v w f _. hand-keeps cl m o j u v w f) m o x g before)
    (length (stream cl o h)) h tt k (omega (arith, there, bound)) up there

run_of-all : (test : ℕ → Bool) (n : ℕ) → ((k : ℕ) → k < n → test k ≡ true) → run_of test n ≡ n
run_of-all test zero pass = refl
run_of-all test (suc n) pass =
    let before = run_of-all test n (λ k below. pass k (omega (arith, below))) in
    let full : (run_of test n == n) ≡ true = eq-eqb (run_of test n) n before in
    cond-true ((run_of test n == n) && test n) (suc n) (run_of test n) (and_from (run_of test n == n) (test n) full (pass n (omega arith)))

pub hands-fold : (cl : Cluster) (h : List Event) (m o : ℕ) → m < cl.nodes → o < cl.nodes → IsTrue (is_up m (hands cl h)) → cut_at cl m (hands cl h) o ≡ length (stream cl o (hands cl h))
hands-fold cl h m o first second up =
    let got : HasGotAll cl m o (hands cl h) =
    both-make (HasGotAll cl) (handed_from cl) cl.nodes (all-makes cl)
    (λ x y j k g before. handed_from-keeps (HasGotAll cl j k) cl (λ u v w f _ all z. hand-keeps cl j k z u v w f (all z)) x y g before) h m o first second in
    run_of-all (λ k. was_handed m o k (hands cl h)) (length (stream cl o (hands cl h))) (λ k there. got k up there)
