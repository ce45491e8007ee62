-- The names of an actor never say more than it holds. Kept at each event that fits the turns of a script.
use Rattle.std.proofs.Common.{◌≡◌, ◌+◌, ◌-◌, ◌≤◌, ◌<◌, ◌==◌, ℕ, zero, suc, Bool, true, false, cond, if◌then◌else◌, List, [], ◌∷◌, ◌++◌, take, drop, Some, None, refl, sym, ◌∙◌, ap, subst, arith, inl, inr, IsTrue, add-one, append-nil, ◌&&◌, ◌||◌, nat_lt}
use Rattle.std.proofs.lemmas.Bool.{and_parts, eqb-true, false≢true, false_from_ne_true, lt-ltb, ltb-true, or_cases}
use Rattle.std.specs.Prelude.{codes}
use Rattle.crgc_ids.specs.Actor.{Actor, same_actor}
use Rattle.history_model.specs.declared.events.Event.{Event}
use Rattle.history_model.specs.declared.events.Event.TheVariants.{Seed, Tie, Wake, Take, Spawn, Send, Drop, Retire, Rest}
use Rattle.history_model.specs.Tally.{tally}
use Rattle.history_model.specs.Cluster.{Cluster, births, is_born, newborn}
use Rattle.history_model.specs.Messages.{Message, mail, taken, takes, waiting}
use Rattle.history_model.specs.Held.{carried, gave, got, held}
use Rattle.history_model.specs.Legal.{IsLegal, is_parent}
use Rattle.history_model.specs.State.{is_root}
use Rattle.history_model.proofs.AccountsBirths.{born-grows, newborn-born, newborn-not_born}
use Rattle.history_model.proofs.AccountsGrowth.{carried-grows, got-grows}
use Rattle.history_model.proofs.AccountsTaken.{gave-got}
use Rattle.history_model.proofs.Basics.{legal-kept, same_actor-equal, same_actor-refl, same_actor-sym}
use Rattle.history_model.proofs.States.{some_waits}
use Rattle.crgc_ids.proofs.ActorLaws.{same_actor-decides}
use Rattle.std.proofs.lemmas.Bool.Decides.{Decides-eqb}
use Rattle.behaviour_lang.specs.Bound.{Names, numbered}
use Rattle.behaviour_lang.specs.Steps.{Left, due_act}
use Rattle.behaviour_lang.specs.declared.act.Act.TheVariants as acts
use Rattle.script_reader.specs.Valid.{Scripted}
use Rattle.behaviour_lang.specs.declared.act.List.TheVariants as lists
use Rattle.run_model.specs.Doing.{Doing, acts_on, as_child, begins, cluster_of, doing, first_refs, own_name}
use Rattle.run_model.proofs.NextLaws.{naming, naming-bind, one_if}
use Rattle.run_model.proofs.TurnLaws.{act-fewer, act-root, birth-fewer, drop-fewer, retire-root}
pub use Rattle.run_model.specs.Sound.{AllHold, HoldsNames, parent_of}

-- acts are those that are due; no seed or tie comes any more
abbrev pub IsDue : Scripted → Event → List Event → Type 0
IsDue s (Seed n) p = ⊥
IsDue s (Tie a b) p = ⊥
IsDue s (Spawn a) p = (b : ℕ) × (let d = doing s a p in due_act d.turn ≡ Some (acts.Spawn b))
IsDue s (Send a t refs) p = (let d = doing s a p in due_act d.turn ≡ Some (acts.Send t refs))
IsDue s (Drop a t) p = (let d = doing s a p in due_act d.turn ≡ Some (acts.Drop t))
IsDue s (Retire a) p = (let d = doing s a p in due_act d.turn ≡ Some acts.Retire)
IsDue s e p = Unit {0}

-- ---- numbers

naming-numbered : (t : Actor) (k : ℕ) (refs : List Actor) (names : Names) → naming t (numbered k refs ++ names) ≡ tally (same_actor t) refs + naming t names
naming-numbered t k [] names = omega arith
naming-numbered t k (r ∷ refs) names =
    let rest = naming-numbered t (k + 1) refs names in
    subst (λ v. (if v then naming t (numbered (k + 1) refs ++ names) + 1 else naming t (numbered (k + 1) refs ++ names)) ≡ tally (same_actor t) (r ∷ refs) + naming t names) (same_actor-sym t r)
    (elim (same_actor t r) as (λ v. (if v then naming t (numbered (k + 1) refs ++ names) + 1 else naming t (numbered (k + 1) refs ++ names)) ≡ (if v then tally (same_actor t) refs + 1 else tally (same_actor t) refs) + naming t names) [ true ↦ omega (arith, rest) | false ↦ rest ])

-- ---- what is held

module _ (cl : Cluster) (e : Event) (p : List Event) (a t : Actor) where
  -- whoever gives up nothing holds no less
  held-grows : gave a t (e ∷ p) ≡ gave a t p → held cl a t p ≤ held cl a t (e ∷ p)
  held-grows same = (let more = got-grows cl a t (e ∷ []) p in omega (arith, same, more))

-- the next message that is taken is the first that waits
carried-one_more : (a : Actor) (n : ℕ) (xs : List Message) (m : Message) (ms : List Message) → drop n xs ≡ m ∷ ms → carried a (take (suc n) xs) ≡ carried a (take n xs) + tally (same_actor a) m.refs
carried-one_more a zero [] m ms e = absurd (cc)
carried-one_more a zero (x ∷ xs) m ms e =
    let same : x ≡ m = cc in
    let counts = ap (λ (y : Message). tally (same_actor a) y.refs) same in
    omega (arith, counts)
carried-one_more a (suc n) [] m ms e = absurd (cc)
carried-one_more a (suc n) (x ∷ xs) m ms e =
    let rest = carried-one_more a n xs m ms e in
    omega (arith, rest)

-- a takes the references of its first message
carried-taken : (a t : Actor) (p : List Event) (m : Message) (ms : List Message) → waiting a p ≡ m ∷ ms → carried t (taken a (Take a ∷ p)) ≡ carried t (taken a p) + tally (same_actor t) m.refs
carried-taken a t p m ms first =
    ap (λ v. carried t (take (cond v (takes a p + 1) (takes a p)) (mail a p ++ []))) (same_actor-refl a)
    ∙ ap (λ xs. carried t (take (takes a p + 1) xs)) (append-nil (mail a p))
    ∙ ap (λ n. carried t (take n (mail a p))) (add-one (takes a p)) ∙ carried-one_more t (takes a p) (mail a p) m ms first

held-taken : (cl : Cluster) (a t : Actor) (p : List Event) (m : Message) (ms : List Message) → IsLegal cl p → waiting a p ≡ m ∷ ms → held cl a t p + tally (same_actor t) m.refs ≤ held cl a t (Take a ∷ p)
held-taken cl a t p m ms legal first =
    let more = carried-taken a t p m ms first in
    let enough = gave-got cl p legal a t in
    omega (arith, more, enough)

held-dropped : (cl : Cluster) (a u t : Actor) (p : List Event) → held cl a t p ≤ held cl a t (Drop a u ∷ p) + one_if (same_actor u t)
held-dropped cl a u t p =
    let more = got-grows cl a t (Drop a u ∷ []) p in
    subst (λ v. held cl a t p ≤ (got cl a t (Drop a u ∷ p) - (if v && same_actor u t then gave a t p + 1 else gave a t p)) + one_if (same_actor u t)) (sym (same_actor-refl a))
    (elim (same_actor u t) as (λ v. held cl a t p ≤ (got cl a t (Drop a u ∷ p) - (if v then gave a t p + 1 else gave a t p)) + one_if v) [ true ↦ omega (arith, more) | false ↦ omega (arith, more) ])

-- ---- births

-- a birth gives the newborn itself, the parent the child, and the child its parent
spawn-held : (s : Scripted) (b a t : Actor) (p : List Event) → IsLegal (cluster_of s) p
    → (let c = newborn b.node p in held (cluster_of s) a t p + one_if (same_actor c a && same_actor c t) + one_if (same_actor b a && same_actor c t) + one_if (same_actor c a && same_actor b t) ≤ held (cluster_of s) a t (Spawn b ∷ p))
spawn-held s b a t p legal =
    let cl = cluster_of s in
    let c = newborn b.node p in
    let enough = gave-got cl p legal a t in
    let more = carried-grows a t (Spawn b ∷ []) p in
    let counts = spawned-notes (same_actor c a && same_actor c t) (same_actor b a && same_actor c t) (same_actor c a && same_actor b t) in
    omega (arith, enough, more, counts)
  where
    spawned-notes : (x y z : Bool) → (if x then (if y then (if z then 0 + 1 else 0) + 1 else (if z then 0 + 1 else 0)) + 1 else (if y then (if z then 0 + 1 else 0) + 1 else (if z then 0 + 1 else 0))) ≡ one_if x + one_if y + one_if z
    spawned-notes true true true = omega arith
    spawned-notes true true false = omega arith
    spawned-notes true false true = omega arith
    spawned-notes true false false = omega arith
    spawned-notes false true true = omega arith
    spawned-notes false true false = omega arith
    spawned-notes false false true = omega arith
    spawned-notes false false false = omega arith

-- only who was born has a parent
parent-born : (t a : Actor) (h : List Event) → is_parent t a h ≡ true → IsTrue (is_born a h)
parent-born t a [] e = absurd (false≢true e)
parent-born t a (Spawn b ∷ p) e =
    elim (or_cases (same_actor b t && same_actor (newborn b.node p) a) (is_parent t a p) e) [
      | inl new ↦ subst (λ x. IsTrue (is_born x (Spawn b ∷ p))) (same_actor-equal (newborn b.node p) a (and_parts (same_actor b t) (same_actor (newborn b.node p) a) new).1) (newborn-born b.node (Spawn b) p ((Decides-eqb b.node b.node).1 refl))
      | inr earlier ↦ born-grows a (Spawn b ∷ []) p (parent-born t a p earlier)
    ]
parent-born t a (e ∷ p) parent = born-grows a (e ∷ []) p (parent-born t a p parent)

alike : (c a : Actor) → c.node ≡ a.node → c.serial ≡ a.serial → c ≡ a
alike c a node serial = λ i. record { node = node i; serial = serial i }

-- who is born after a birth on node n is the newborn, or was born before
pub born-before : (n : ℕ) (a : Actor) (p : List Event) → same_actor (newborn n p) a ≡ false → IsTrue (is_born a (Seed n ∷ p)) → IsTrue (is_born a p)
born-before n a p other born =
    elim (n == a.node) as (λ v. (n == a.node) ≡ v → IsTrue (nat_lt a.serial (if v then births a.node p + 1 else births a.node p)) → IsTrue (is_born a p)) [
      | true ↦ λ same later. lt-ltb a.serial (births a.node p) (below same (ltb-true a.serial (births a.node p + 1) later))
      | false ↦ λ _ earlier. earlier
    ] refl born
  where
    below : (n == a.node) ≡ true → a.serial < births a.node p + 1 → a.serial < births a.node p
    below same le =
        let node = eqb-true n a.node same in
        let apart : births a.node p ≡ a.serial → ⊥ = λ serial. false≢true (sym other ∙ (same_actor-decides (newborn n p) a).1 (alike (newborn n p) a node (ap (λ k. births k p) node ∙ serial))) in
        grind (arith, le, apart)

and-false : (v : Bool) → (v && false) ≡ false
and-false true = refl
and-false false = refl

-- ---- one event more

module _ (cl : Cluster) (e : Event) (p : List Event) (a : Actor) (l now : Left) where
  -- what an event adds to the names it adds to what is held
  moved : ((t : Actor) → naming t now.names + held cl a t p ≤ naming t l.names + held cl a t (e ∷ p)) → ((t : Actor) → is_parent t a (e ∷ p) ≡ is_parent t a p) → (now.root ≡ true → is_root a (e ∷ p) ≡ true) → HoldsNames cl a l p → HoldsNames cl a now (e ∷ p)
  moved balance parents root holds = record {
    held = λ t. (let before = holds.held t in let change = balance t in let same = ap one_if (parents t) in omega (arith, before, change, same));
    root = root;
  }

  -- an event that gives up nothing, by which the actor comes to name no more
  lessened : ((t : Actor) → naming t now.names ≤ naming t l.names) → ((t : Actor) → gave a t (e ∷ p) ≡ gave a t p) → ((t : Actor) → is_parent t a (e ∷ p) ≡ is_parent t a p) → (now.root ≡ true → is_root a (e ∷ p) ≡ true)
      → HoldsNames cl a l p → HoldsNames cl a now (e ∷ p)
  lessened fewer gives parents root holds =
      moved (λ t. (let less = fewer t in let more = held-grows cl e p a t (gives t) in omega (arith, less, more))) parents root holds

-- by whether it is the actor
pick : (v : Bool) (P : Doing → Type 0) (f g : Doing) → (v ≡ true → P f) → (v ≡ false → P g) → P (elim v as (λ _. Doing) [ true ↦ f | false ↦ g ])
pick true P f g own other = own refl
pick false P f g own other = other refl

module _ (s : Scripted) (p : List Event) (a : Actor) where
  abbrev Held : Event → Doing → Type 0
  Held e d = HoldsNames (cluster_of s) a d.turn (e ∷ p)

  -- an event that is none of a's, and gives up nothing of a's
  others : (e : Event) (d : Doing) → ((t : Actor) → gave a t (e ∷ p) ≡ gave a t p) → ((t : Actor) → is_parent t a (e ∷ p) ≡ is_parent t a p) → (is_root a p ≡ true → is_root a (e ∷ p) ≡ true) → HoldsNames (cluster_of s) a d.turn p → Held e d
  others e d gives parents root holds = lessened (cluster_of s) e p a d.turn d.turn (λ t. omega arith) gives parents (λ r. root (holds.root r)) holds

  -- a turn begins
  wakes : (d : Doing) → HoldsNames (cluster_of s) a d.turn p → Held (Wake a) (begins s lists.Wake [] (is_root a p) d)
  wakes d holds =
      let now = begins s lists.Wake [] (is_root a p) d in
      lessened (cluster_of s) (Wake a) p a d.turn now.turn (λ t. omega arith) (λ t. refl) (λ t. refl) (λ r. r) holds

  takes_mail : (d : Doing) → IsLegal (cluster_of s) (Take a ∷ p) → HoldsNames (cluster_of s) a d.turn p → Held (Take a) (begins s lists.Message (first_refs (waiting a p)) (is_root a p) d)
  takes_mail d legal holds =
      let cl = cluster_of s in
      let now = begins s lists.Message (first_refs (waiting a p)) (is_root a p) d in
      let some = some_waits (waiting a p) (legal-kept cl (Take a) p legal).1.1.1.0 in
      let m = some.0 in
      let refs : first_refs (waiting a p) ≡ m.refs = ap first_refs some.2 in
      let old = d.turn in
      let names = λ (t : Actor). naming-numbered t 0 (first_refs (waiting a p)) old.names in
      let counts = λ (t : Actor). ap (tally (same_actor t)) refs in
      moved cl (Take a) p a d.turn now.turn
      (λ t. (let all = names t in let same = counts t in let more = held-taken cl a t p m some.1 legal.1 some.2 in omega (arith, all, same, more)))
      (λ t. refl)
      (λ r. r) holds

  -- an act that gives up nothing
  acts_alone : (e : Event) (d : Doing) → ((t : Actor) → gave a t (e ∷ p) ≡ gave a t p) → ((t : Actor) → is_parent t a (e ∷ p) ≡ is_parent t a p) → (is_root a p ≡ true → is_root a (e ∷ p) ≡ true) → HoldsNames (cluster_of s) a d.turn p → Held e (acts_on None d)
  acts_alone e d gives parents root holds =
      let now = acts_on None d in
      lessened (cluster_of s) e p a d.turn now.turn (λ t. act-fewer d.turn t) gives parents (λ r. root (holds.root (act-root d.turn None r))) holds

  drops : (u : Actor) (d : Doing) → (let l = d.turn in due_act l ≡ Some (acts.Drop u)) → HoldsNames (cluster_of s) a d.turn p → Held (Drop a u) (acts_on None d)
  drops u d due holds =
      let now = acts_on None d in
      moved (cluster_of s) (Drop a u) p a d.turn now.turn
      (λ t. (let less = drop-fewer d.turn u t due in let more = held-dropped (cluster_of s) a u t p in omega (arith, less, more)))
      (λ t. refl)
      (λ r. holds.root (act-root d.turn None r)) holds

  retires : (d : Doing) → (let l = d.turn in due_act l ≡ Some acts.Retire) → HoldsNames (cluster_of s) a d.turn p → Held (Retire a) (acts_on None d)
  retires d due holds =
      let now = acts_on None d in
      let none = (retire-root d.turn due).1 in
      lessened (cluster_of s) (Retire a) p a d.turn now.turn (λ t. act-fewer d.turn t) (λ t. refl) (λ t. refl) (λ r. absurd (false≢true (sym none ∙ r))) holds

  spawns : (d : Doing) → IsLegal (cluster_of s) p → IsTrue (is_born a p) → HoldsNames (cluster_of s) a d.turn p → Held (Spawn a) (acts_on (Some (newborn a.node p)) d)
  spawns d legal born holds =
      let c = newborn a.node p in
      let now = acts_on (Some c) d in
      let apart : same_actor c a ≡ false = false_from_ne_true (same_actor c a) (λ same. false≢true (sym (newborn-not_born a.node p) ∙ subst (λ x. is_born x p ≡ true) (sym (same_actor-equal c a same)) born)) in
      moved (cluster_of s) (Spawn a) p a d.turn now.turn
      (λ t.
      let less = birth-fewer d.turn c t in
      let more = spawn-held s a a t p legal in
      let itself : one_if (same_actor a a && same_actor c t) ≡ one_if (same_actor c t) = rw (same_actor-refl a) refl in
      omega (arith, less, more, itself))
      (λ t. rw (apart, and-false (same_actor a t)) refl)
      (λ r. holds.root (act-root d.turn (Some c) r)) holds

  -- a child is born: it holds itself and its parent
  born_child : (b : Actor) (parent : Doing) → IsLegal (cluster_of s) p → same_actor (newborn b.node p) a ≡ true → Held (Spawn b) (as_child parent a)
  born_child b parent legal same =
      let c = newborn b.node p in
      let equal = same_actor-equal c a same in
      let fresh : is_born a p ≡ false = subst (λ x. is_born x p ≡ false) equal (newborn-not_born b.node p) in
      let one : (t : Actor) → naming t (own_name a) ≡ 0 + one_if (same_actor a t) = λ t. naming-bind t (codes "self") a [] in
      record {
        held = λ t.
            let names = one t in
            let more = spawn-held s b a t p legal in
            let itself : one_if (same_actor c a && same_actor c t) ≡ one_if (same_actor a t) = rw (same) (ap (λ x. one_if (same_actor x t)) equal) in
            let its_parent : parent_of a t (Spawn b ∷ p) ≡ one_if (same_actor c a && same_actor b t) = rw (same) (only_parent t fresh) in
            omega (arith, names, more, itself, its_parent);
        root = λ r. absurd (false≢true r);
      }
    where
      only_parent : (t : Actor) → is_born a p ≡ false → one_if ((same_actor b t && true) || is_parent t a p) ≡ one_if (same_actor b t)
      only_parent t fresh =
          let none : is_parent t a p ≡ false = false_from_ne_true (is_parent t a p) (λ there. false≢true (sym fresh ∙ parent-born t a p there)) in
          rw none (elim (same_actor b t) as (λ v. one_if ((v && true) || false) ≡ one_if v) [ true ↦ refl | false ↦ refl ])

-- what each event keeps, of each actor
pub holds-next : (s : Scripted) (e : Event) (p : List Event) → IsLegal (cluster_of s) (e ∷ p) → IsDue s e p → AllHold s p → (a : Actor) → IsTrue (is_born a (e ∷ p)) → (let d = doing s a (e ∷ p) in HoldsNames (cluster_of s) a d.turn (e ∷ p))
holds-next s (Seed n) p legal due all a born = absurd due
holds-next s (Tie b c) p legal due all a born = absurd due
holds-next s (Wake b) p legal due all a born =
    pick (same_actor b a) (Held s p a (Wake b)) (begins s lists.Wake [] (is_root a p) (doing s a p)) (doing s a p)
    (λ same. (let now = begins s lists.Wake [] (is_root a p) (doing s a p) in subst (λ x. HoldsNames (cluster_of s) a now.turn (Wake x ∷ p)) (sym (same_actor-equal b a same)) (wakes s p a (doing s a p) (all a born))))
    (λ other. others s p a (Wake b) (doing s a p) (λ t. refl) (λ t. refl) (λ r. r) (all a born))
holds-next s (Take b) p legal due all a born =
    let now = begins s lists.Message (first_refs (waiting a p)) (is_root a p) (doing s a p) in
    pick (same_actor b a) (Held s p a (Take b)) now (doing s a p)
    (λ same.
    let equal = same_actor-equal b a same in
    subst (λ x. HoldsNames (cluster_of s) a now.turn (Take x ∷ p)) (sym equal) (takes_mail s p a (doing s a p) (subst (λ x. IsLegal (cluster_of s) (Take x ∷ p)) equal legal) (all a born)))
    (λ other. others s p a (Take b) (doing s a p) (λ t. refl) (λ t. refl) (λ r. r) (all a born))
holds-next s (Spawn b) p legal due all a born =
    let parent_born = (legal-kept (cluster_of s) (Spawn b) p legal).0 in
    let now = acts_on (Some (newborn b.node p)) (doing s a p) in
    pick (same_actor b a) (Held s p a (Spawn b)) now (elim (same_actor (newborn b.node p) a) as (λ _. Doing) [ true ↦ as_child (doing s b p) a | false ↦ doing s a p ])
    (λ same.
    let equal = same_actor-equal b a same in
    let a_born = subst (λ x. IsTrue (is_born x p)) equal parent_born in
    subst (λ x. (let later = acts_on (Some (newborn x.node p)) (doing s a p) in HoldsNames (cluster_of s) a later.turn (Spawn x ∷ p))) (sym equal) (spawns s p a (doing s a p) legal.1 a_born (all a a_born)))
    (λ apart. pick (same_actor (newborn b.node p) a) (Held s p a (Spawn b)) (as_child (doing s b p) a) (doing s a p)
    (λ child. born_child s p a b (doing s b p) legal.1 child)
    (λ other. others s p a (Spawn b) (doing s a p) (λ t. refl) (λ t. rw (other, and-false (same_actor b t)) refl) (λ r. r) (all a (born-before b.node a p other born))))
holds-next s (Send b u refs) p legal due all a born =
    pick (same_actor b a) (Held s p a (Send b u refs)) (acts_on None (doing s a p)) (doing s a p)
    (λ same. acts_alone s p a (Send b u refs) (doing s a p) (λ t. refl) (λ t. refl) (λ r. r) (all a born))
    (λ other. others s p a (Send b u refs) (doing s a p) (λ t. refl) (λ t. refl) (λ r. r) (all a born))
holds-next s (Drop b u) p legal due all a born =
    let now = acts_on None (doing s a p) in
    pick (same_actor b a) (Held s p a (Drop b u)) now (doing s a p)
    (λ same.
    let equal = same_actor-equal b a same in
    let a_due = subst (λ x. (let d = doing s x p in due_act d.turn ≡ Some (acts.Drop u))) equal due in
    subst (λ x. HoldsNames (cluster_of s) a now.turn (Drop x u ∷ p)) (sym equal) (drops s p a u (doing s a p) a_due (all a born)))
    (λ other. others s p a (Drop b u) (doing s a p) (λ t. rw other refl) (λ t. refl) (λ r. r) (all a born))
holds-next s (Retire b) p legal due all a born =
    let now = acts_on None (doing s a p) in
    pick (same_actor b a) (Held s p a (Retire b)) now (doing s a p)
    (λ same.
    let equal = same_actor-equal b a same in
    let a_due = subst (λ x. (let d = doing s x p in due_act d.turn ≡ Some acts.Retire)) equal due in
    subst (λ x. HoldsNames (cluster_of s) a now.turn (Retire x ∷ p)) (sym equal) (retires s p a (doing s a p) a_due (all a born)))
    (λ other. others s p a (Retire b) (doing s a p) (λ t. refl) (λ t. refl) (λ r. rw other r) (all a born))
holds-next s (Rest b) p legal due all a born =
    pick (same_actor b a) (Held s p a (Rest b)) (acts_on None (doing s a p)) (doing s a p)
    (λ same. acts_alone s p a (Rest b) (doing s a p) (λ t. refl) (λ t. refl) (λ r. r) (all a born))
    (λ other. others s p a (Rest b) (doing s a p) (λ t. refl) (λ t. refl) (λ r. r) (all a born))
holds-next s e p legal due all a born = others s p a e (doing s a p) (λ t. refl) (λ t. refl) (λ r. r) (all a born)
