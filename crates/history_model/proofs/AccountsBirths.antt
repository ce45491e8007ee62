-- Births in a legal history: what is born stays born, births are on nodes of the cluster, and whoever notes, is named
-- by a fact, sends, is sent to or is carried was born before.
use Rattle.std.proofs.Common.{◌≡◌, ◌<◌, ◌+◌, ◌&&◌, ◌||◌, ℕ, Bool, true, false, List, [], ◌∷◌, ◌++◌, map, refl, ◌∙◌, ap, subst, inl, inr, arith, IsTrue, IsFalse, cond, filter}
use Rattle.std.proofs.lemmas.Bool.{ltb-true, lt-ltb, le-ltb, cases_lt, and_parts, or_cases, eqb-true}
use Rattle.std.specs.Prelude.{◌==◌}
use Rattle.crgc_ids.specs.Actor.{Actor}
use Rattle.crgc_ids.specs.Members.{IsAmong}
use Rattle.crgc_ids.proofs.MembersLaws.{IsAmong-append_cases, IsAmong-append_left, IsAmong-append_right, IsAmong-from_filter}
use Rattle.history_model.specs.declared.events.Event.{Event}
use Rattle.history_model.specs.declared.events.Event.TheVariants.{Seed, Tie, Take, Spawn, Send, Drop, Admit}
use Rattle.history_model.specs.Cluster.{Cluster, same_actor, is_birth_on, births, newborn, is_born}
use Rattle.history_model.specs.Messages.{Message, sent, message_at, admitted_by, was_admitted, is_to, mail, takes, waiting}
use Rattle.history_model.specs.Facts.{received, sent_to, created, released, Note, note_by, notes, names, message_facts}
use Rattle.history_model.specs.Legal.{Check, born_all, IsLegal}
use Rattle.history_model.proofs.Basics.{eqb-refl, same_actor-equal, AreKept, legal-kept}
use Rattle.history_model.proofs.Sums.{all_sent, noted_sum}
use Rattle.history_model.proofs.Lists.{Each, each-none, each-more, each-one, among-drop, among-place, each-map, tally-append, tally-some}

-- ---- members of lists

module _ {A : Type 0} where
  pub among-then : (b : Bool) (x : A) (xs : List A) → IsAmong x (cond b xs []) → IsAmong x xs
  among-then true x xs among = among
  among-then false x xs among = absurd among

  pub among-else : (b : Bool) (x : A) (xs : List A) → IsAmong x (cond b [] xs) → IsAmong x xs
  among-else true x xs among = absurd among
  among-else false x xs among = among

-- ---- births

-- who is born stays born
pub born-grows : (a : Actor) (q p : List Event) → IsTrue (is_born a p) → IsTrue (is_born a (q ++ p))
born-grows a q p born =
    lt-ltb a.serial (births a.node (q ++ p)) (omega (arith, ltb-true a.serial (births a.node p) born, tally-append (is_birth_on a.node) q p))

-- the actor that a birth gives was not born before
pub newborn-not_born : (n : ℕ) (p : List Event) → IsFalse (is_born (newborn n p) p)
newborn-not_born n p = le-ltb (births n p) (births n p) (omega arith)

-- and is born then
pub newborn-born : (n : ℕ) (e : Event) (p : List Event) → is_birth_on n e ≡ true → IsTrue (is_born (newborn n p) (e ∷ p))
newborn-born n e p birth = rw birth (lt-ltb (births n p) (births n p + 1) (omega arith))

-- births are on nodes of the cluster
pub births-on_nodes : (cl : Cluster) (h : List Event) → IsLegal cl h → (n : ℕ) → 0 < births n h → n < cl.nodes
births-on_nodes cl [] legal n some = absurd (omega arith)
births-on_nodes cl (Seed m ∷ p) legal n some =
    let kept = legal-kept cl (Seed m) p legal in
    let before = births-on_nodes cl p legal.1 n in
    let node : m < cl.nodes = ltb-true m cl.nodes kept.0 in
    let split = elim (m == n) as (λ v. (m == n) ≡ v → 0 < cond v (births n p + 1) (births n p) → n < cl.nodes) [
      | true ↦ λ same _. subst (λ k. k < cl.nodes) (eqb-true m n same) node
      | false ↦ λ _ earlier. before earlier
    ] in
    split refl some
births-on_nodes cl (Spawn a ∷ p) legal n some =
    let kept = legal-kept cl (Spawn a) p legal in
    let before = births-on_nodes cl p legal.1 in
    let parent : a.serial < births a.node p = ltb-true a.serial (births a.node p) kept.0 in
    let node : a.node < cl.nodes = before a.node (omega arith) in
    let split = elim (a.node == n) as (λ v. (a.node == n) ≡ v → 0 < cond v (births n p + 1) (births n p) → n < cl.nodes) [
      | true ↦ λ same _. subst (λ k. k < cl.nodes) (eqb-true a.node n same) node
      | false ↦ λ _ earlier. before n earlier
    ] in
    split refl some
births-on_nodes cl (_ ∷ p) legal n some = births-on_nodes cl p legal.1 n some

-- who is born lives on a node of the cluster
pub born-on_node : (cl : Cluster) (h : List Event) → IsLegal cl h → (a : Actor) → IsTrue (is_born a h) → a.node < cl.nodes
born-on_node cl h legal a born =
    births-on_nodes cl h legal a.node (omega (arith, ltb-true a.serial (births a.node h) born))

-- ---- notes

-- the noter, and whoever the note names, are born
abbrev pub AreBorn : List Event → Note → Type 0
AreBorn h x = IsTrue (is_born x.by h) × ((a : Actor) → IsTrue (names a x.fact) → IsTrue (is_born a h))

-- an actor that tests as a born one is born
same-born : (h : List Event) (b a : Actor) → IsTrue (is_born b h) → IsTrue (same_actor b a) → IsTrue (is_born a h)
same-born h b a born same = subst (λ c. IsTrue (is_born c h)) (same_actor-equal b a same) born

pair-born : (h : List Event) (b c a : Actor) → IsTrue (is_born b h) → IsTrue (is_born c h) → IsTrue (same_actor b a || same_actor c a) → IsTrue (is_born a h)
pair-born h b c a first second named =
    elim (or_cases (same_actor b a) (same_actor c a) named) [ inl same ↦ same-born h b a first same | inr same ↦ same-born h c a second same ]

created-born : (h : List Event) (by b a : Actor) → IsTrue (is_born by h) → IsTrue (is_born b h) → IsTrue (is_born a h) → AreBorn h (note_by by (created b a))
created-born h by b a noter owner target = (noter, λ c named. pair-born h b a c owner target named)

-- what checks of births give
kept-born : (as_ : List Actor) (p : List Event) (cs : List Check) → AreKept (born_all as_ p ++ cs) → Each (λ a. IsTrue (is_born a p)) as_
kept-born [] p cs kept = each-none (λ a. IsTrue (is_born a p))
kept-born (a ∷ as_) p cs kept = each-more (λ b. IsTrue (is_born b p)) a as_ kept.0 (kept-born as_ p cs kept.1)

-- what is true of each note of a spawn
pub each-notes_of_spawn : (cl : Cluster) (a : Actor) (p : List Event) (P : Note → Type 0) → P (note_by (newborn a.node p) (created (newborn a.node p) (newborn a.node p))) → P (note_by (newborn a.node p) (created a (newborn a.node p))) → P (note_by a (created (newborn a.node p) a)) → Each P (notes cl (Spawn a) p)
each-notes_of_spawn cl a p P itself parent supervisor =
    let child = newborn a.node p in
    let last : List Note = note_by a (created child a) ∷ [] in
    let supervised : Each P (cond (cl.version == 2) last []) = elim (cl.version == 2) as (λ v. Each P (cond v last [])) [
      | true ↦ each-one P (note_by a (created child a)) supervisor
      | false ↦ each-none P
    ] in
    each-more P (note_by child (created child child)) (note_by child (created a child) ∷ cond (cl.version == 2) last []) itself
    (each-more P (note_by child (created a child)) (cond (cl.version == 2) last []) parent supervised)

-- who notes is born with the event, and so is whoever its fact names
pub notes-born : (cl : Cluster) (e : Event) (p : List Event) → IsLegal cl (e ∷ p) → Each (AreBorn (e ∷ p)) (notes cl e p)
notes-born cl (Seed n) p legal =
    let h = Seed n ∷ p in
    let child = newborn n p in
    let born = newborn-born n (Seed n) p (eqb-refl n) in
    each-one (AreBorn h) (note_by child (created child child)) (created-born h child child child born born born)
notes-born cl (Tie o t) p legal =
    let h = Tie o t ∷ p in
    let kept = legal-kept cl (Tie o t) p legal in
    each-one (AreBorn h) (note_by t (created o t)) (created-born h t o t kept.1.0 kept.0 kept.1.0)
notes-born cl (Take a) p legal =
    let h = Take a ∷ p in
    let kept = legal-kept cl (Take a) p legal in
    each-one (AreBorn h) (note_by a (received a)) (kept.0, λ c named. same-born h a c kept.0 named)
notes-born cl (Spawn a) p legal =
    let h = Spawn a ∷ p in
    let kept = legal-kept cl (Spawn a) p legal in
    let child = newborn a.node p in
    let born : IsTrue (is_born child h) = newborn-born a.node (Spawn a) p (eqb-refl a.node) in
    let parent : IsTrue (is_born a h) = born-grows a (Spawn a ∷ []) p kept.0 in
    each-notes_of_spawn cl a p (AreBorn h)
    (created-born h child child child born born born) (created-born h child a child born parent born)
    (created-born h a child a parent born parent)
notes-born cl (Send f t refs) p legal =
    let h = Send f t refs ∷ p in
    let kept = legal-kept cl (Send f t refs) p legal in
    let named = kept-born refs p _ kept.1.1 in
    each-map (AreBorn h) (note_by f) (message_facts (record { from = f; to = t; refs = refs }))
    (each-more (λ x. AreBorn h (note_by f x)) (sent_to t) (map (created t) refs) (kept.0, λ c same. same-born h t c kept.1.0 same)
    (each-map (λ x. AreBorn h (note_by f x)) (created t) refs (λ a among. created-born h f t a kept.0 kept.1.0 (named a among))))
notes-born cl (Drop a t) p legal =
    let h = Drop a t ∷ p in
    let kept = legal-kept cl (Drop a t) p legal in
    each-one (AreBorn h) (note_by a (released a t)) (kept.0, λ c named. pair-born h a t c kept.0 kept.1.0 named)
notes-born cl e p legal = each-none (AreBorn (e ∷ p))

-- who was born before the event is born after it
born-later : (e : Event) (p : List Event) (x : Note) → AreBorn p x → AreBorn (e ∷ p) x
born-later e p x born = (born-grows x.by (e ∷ []) p born.0, λ a named. born-grows a (e ∷ []) p (born.1 a named))

-- a sum of notes that is not 0 counts a note, whose noter and named actors are born
pub noted-born : (cl : Cluster) (h : List Event) → IsLegal cl h → (test : Note → Bool) → 0 < noted_sum cl test h → (x : Note) × IsTrue (test x) × AreBorn h x
noted-born cl [] legal test some = absurd (omega arith)
noted-born cl (e ∷ p) legal test some =
    let before = noted-born cl p legal.1 test in
    let now = tally-some test (notes cl e p) in
    elim (cases_lt 0 (noted_sum cl test p)) [
      | inl earlier ↦ (let found = before earlier in (found.0, found.1, born-later e p found.0 found.2))
      | inr none ↦ (let found = now (omega arith) in (found.0, found.2, notes-born cl e p legal found.0 found.1))
    ]

-- ---- messages

-- what was sent on a link is among all that was sent
pub sent-among : (s d : ℕ) (h : List Event) (m : Message) → IsAmong m (sent s d h) → IsAmong m (all_sent h) × (m.from.node ≡ s) × (m.to.node ≡ d)
sent-among s d [] m among = absurd among
sent-among s d (Send f t refs ∷ p) m among =
    let one : Message = record { from = f; to = t; refs = refs } in
    let Found : Type 0 = IsAmong m (all_sent p ++ one ∷ []) × (m.from.node ≡ s) × (m.to.node ≡ d) in
    let before : IsAmong m (sent s d p) → Found = λ earlier. (let found = sent-among s d p m earlier in (IsAmong-append_left m (all_sent p) (one ∷ []) found.0, found.1, found.2)) in
    let now : IsTrue ((f.node == s) && (t.node == d)) → IsAmong m (one ∷ []) → Found = λ same here.
    let both = and_parts (f.node == s) (t.node == d) same in
    let is_one : m ≡ one = elim here [ inl e ↦ e | inr none ↦ absurd none ] in
    (IsAmong-append_right m (all_sent p) (one ∷ []) here, ap (λ (k : Message). k.from.node) is_one ∙ eqb-true f.node s both.0, ap (λ (k : Message). k.to.node) is_one ∙ eqb-true t.node d both.1) in
    let split = elim ((f.node == s) && (t.node == d)) as (λ v. ((f.node == s) && (t.node == d)) ≡ v → IsAmong m (cond v (sent s d p ++ one ∷ []) (sent s d p)) → Found) [
      | true ↦ λ same either. elim (IsAmong-append_cases m (sent s d p) (one ∷ []) either) [ inl earlier ↦ before earlier | inr here ↦ now same here ]
      | false ↦ λ _ earlier. before earlier
    ] in
    split refl among
sent-among s d (_ ∷ p) m among = sent-among s d p m among

-- a numbered message of a link was sent on it
pub message_at-among : (s d k : ℕ) (h : List Event) (m : Message) → IsAmong m (message_at s d k h) → IsAmong m (sent s d h)
message_at-among s d k h m among = among-place k m (sent s d h) among

-- what was sent stays so
sent-later : (e : Event) (p : List Event) (m : Message) → IsAmong m (all_sent p) → IsAmong m (all_sent (e ∷ p))
sent-later (Send f t refs) p m among = IsAmong-append_left m (all_sent p) (record { from = f; to = t; refs = refs } ∷ []) among
sent-later _ p m among = among

-- what an event admits was sent, at the latest by it
admitted-among : (e : Event) (p : List Event) (m : Message) → IsAmong m (admitted_by e p) → IsAmong m (all_sent (e ∷ p))
admitted-among (Send f t refs) p m among =
    let one : Message = record { from = f; to = t; refs = refs } in
    IsAmong-append_right m (all_sent p) (one ∷ []) (among-then (f.node == t.node) m (one ∷ []) among)
admitted-among (Admit s d k) p m among =
    let place = among-else (was_admitted s d k p) m (message_at s d k p) among in
    (sent-among s d p m (message_at-among s d k p m place)).0
admitted-among _ p m among = absurd among

-- what was admitted to an actor was sent to it
pub mail-among : (b : Actor) (h : List Event) (m : Message) → IsAmong m (mail b h) → IsAmong m (all_sent h) × (m.to ≡ b)
mail-among b [] m among = absurd among
mail-among b (e ∷ p) m among =
    elim (IsAmong-append_cases m (mail b p) (filter (is_to b) (admitted_by e p)) among) [
      | inl earlier ↦ (let found = mail-among b p m earlier in (sent-later e p m found.0, found.1))
      | inr here ↦ (
          let found = IsAmong-from_filter (is_to b) m (admitted_by e p) here in
          (admitted-among e p m found.0, same_actor-equal m.to b found.1))
    ]

-- what waits was admitted
pub waiting-among : (b : Actor) (h : List Event) (m : Message) → IsAmong m (waiting b h) → IsAmong m (mail b h)
waiting-among b h m among = among-drop (takes b h) m (mail b h) among

-- the sender, the recipient and the references of a message are born
abbrev pub IsMessageBorn : List Event → Message → Type 0
IsMessageBorn h m = IsTrue (is_born m.from h) × IsTrue (is_born m.to h) × ((a : Actor) → IsAmong a m.refs → IsTrue (is_born a h))

-- they stay so
message-later : (e : Event) (p : List Event) (m : Message) → IsMessageBorn p m → IsMessageBorn (e ∷ p) m
message-later e p m born =
    (born-grows m.from (e ∷ []) p born.0, born-grows m.to (e ∷ []) p born.1, λ a among. born-grows a (e ∷ []) p (born.2 a among))

-- all that was sent names born actors alone
pub sent-born : (cl : Cluster) (h : List Event) → IsLegal cl h → Each (IsMessageBorn h) (all_sent h)
sent-born cl [] legal m among = absurd among
sent-born cl (Send f t refs ∷ p) legal m among =
    let h = Send f t refs ∷ p in
    let one : Message = record { from = f; to = t; refs = refs } in
    let kept = legal-kept cl (Send f t refs) p legal in
    let named = kept-born refs p _ kept.1.1 in
    let born : IsMessageBorn h one = (kept.0, kept.1.0, named) in
    let before = sent-born cl p legal.1 m in
    elim (IsAmong-append_cases m (all_sent p) (one ∷ []) among) [
      | inl earlier ↦ message-later (Send f t refs) p m (before earlier)
      | inr here ↦ each-one (IsMessageBorn h) one born m here
    ]
sent-born cl (e ∷ p) legal m among = message-later e p m (sent-born cl p legal.1 m among)

-- and so does what was admitted
pub mail-born : (cl : Cluster) (h : List Event) → IsLegal cl h → (b : Actor) → Each (IsMessageBorn h) (mail b h)
mail-born cl h legal b m among = sent-born cl h legal m (mail-among b h m among).0
