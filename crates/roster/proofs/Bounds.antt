-- How high the counts of an actor's state can be, by the length of the history.
use Rattle.std.proofs.Common.{◌+◌, ◌*◌, ◌<◌, ◌≤◌, ◌^◌, ◌==◌, ℕ, zero, suc, Bool, true, false, cond, List, [], ◌∷◌, ◌++◌, length, length-append, take, refl, sym, ◌∙◌, ap, inl, inr, arith}
use Rattle.std.proofs.lemmas.List.{length-map}
use Rattle.crgc_ids.specs.Actor.{Actor}
use Rattle.crgc_ids.specs.Members.{IsAmong}
use Rattle.crgc_ids.proofs.MembersLaws.{IsAmong-append_cases}
use Rattle.history_model.specs.declared.events.Event.{Event}
use Rattle.history_model.specs.declared.events.Event.TheVariants.{Seed, Tie, Take, Spawn, Send, Drop}
use Rattle.history_model.specs.Cluster.{Cluster, newborn, same_actor}
use Rattle.history_model.specs.Facts.{Note, created, is_created, is_received, is_released, is_sent_to, message_facts, note_by, notes}
use Rattle.history_model.specs.Held.{carried, gifts, given_at_once, held, is_note_of}
use Rattle.history_model.specs.Messages.{Message, is_take_by, mail, takes}
use Rattle.history_model.specs.Streams.{facts_by, is_flush_of, log}
use Rattle.history_model.specs.Tally.{tally}
use Rattle.history_model.proofs.AccountsBirths.{mail-among}
use Rattle.history_model.proofs.Basics.{same_actor-refl}
use Rattle.history_model.proofs.Sums.{all_sent}
use Rattle.entry_records.specs.Unflushed.{actor_count}
use Rattle.entry_records.proofs.CountLemmas.{counted}
use Rattle.actor_states.specs.State.{HasRoom}
use Rattle.roster.specs.Standing.{IsRosterOf, SendsAreShort}
use Rattle.roster.specs.Table.{Table, state_at}

-- no more pass a test than there are
tally-length : {X : Type 0} (test : X → Bool) (xs : List X) → tally test xs ≤ length xs
tally-length test [] = omega arith
tally-length test (x ∷ xs) = more (test x) (tally test xs) (length xs) (tally-length test xs)
  where
    more : (v : Bool) (m n : ℕ) → m ≤ n → cond v (m + 1) m ≤ suc n
    more true m n le = omega arith
    more false m n le = omega arith

short-before : (e : Event) (p : List Event) → SendsAreShort (e ∷ p) → SendsAreShort p
short-before (Send f t refs) p short = short.1
short-before _ p short = short

-- ---- what is held

-- a message that was sent is short
pub sent-short : (h : List Event) → SendsAreShort h → (m : Message) → IsAmong m (all_sent h) → length m.refs ≤ 16
sent-short [] short m none = absurd none
sent-short (Send f t refs ∷ p) short m among =
    elim (IsAmong-append_cases m (all_sent p) (record { from = f; to = t; refs = refs } ∷ []) among) [
      | inl earlier ↦ sent-short p short.1 m earlier
      | inr here ↦ elim here [ inl same ↦ (let long = ap (λ (x : Message). length x.refs) same in let fits = short.0 in omega arith) | inr none ↦ absurd none ]
    ]
sent-short (e ∷ p) short m among = sent-short p (short-before e p short) m among

-- short messages carry 16 references each at most
carried-short : (t : Actor) (n : ℕ) (ms : List Message) → ((m : Message) → IsAmong m ms → length m.refs ≤ 16) → carried t (take n ms) ≤ 16 * n
carried-short t zero ms short = omega arith
carried-short t (suc n) [] short = omega arith
carried-short t (suc n) (m ∷ ms) short =
    let first = short m (inl refl) in
    let counts = tally-length (same_actor t) m.refs in
    let rest = carried-short t n ms (λ x among. short x (inr among)) in
    omega arith

few-more : (v : Bool) (test : Note → Bool) (x y z : Note) → tally test (x ∷ y ∷ cond v (z ∷ []) []) ≤ 3
few-more true test x y z = tally-length test (x ∷ y ∷ z ∷ [])
few-more false test x y z = (let two = tally-length test (x ∷ y ∷ []) in omega arith)

-- an event gives three references at most at once
given-few : (cl : Cluster) (e : Event) (p : List Event) (test : Note → Bool) → tally test (given_at_once cl e p) ≤ 3
given-few cl (Seed n) p test = (let one = tally-length test (notes cl (Seed n) p) in omega arith)
given-few cl (Tie o t) p test = (let one = tally-length test (notes cl (Tie o t) p) in omega arith)
given-few cl (Take a) p test = (let one = tally-length test (notes cl (Take a) p) in omega arith)
given-few cl (Spawn a) p test = (let new = newborn a.node p in few-more (cl.version == 2) test (note_by new (created new new)) (note_by new (created a new)) (note_by a (created new a)))
given-few cl (Drop a t) p test = (let one = tally-length test (notes cl (Drop a t) p) in omega arith)
given-few cl _ p test = omega arith

gifts-few : (cl : Cluster) (b a : Actor) (h : List Event) → gifts cl b a h ≤ 3 * length h
gifts-few cl b a [] = omega arith
gifts-few cl b a (e ∷ p) = (let before = gifts-few cl b a p in let more = given-few cl e p (is_note_of b a) in omega arith)

held-few : (cl : Cluster) (h : List Event) (b t : Actor) → SendsAreShort h → held cl b t h ≤ 19 * length h
held-few cl h b t short =
    let some = gifts-few cl b t h in
    let more = carried-short t (takes b h) (mail b h) (λ m among. sent-short h short m (mail-among b h m among).0) in
    let turns = tally-length (is_take_by b) h in
    omega arith

-- ---- what is noted

facts-few : (a : Actor) (ns : List Note) → length (facts_by a ns) ≤ length ns
facts-few a [] = omega arith
facts-few a (n ∷ ns) = more (same_actor n.by a) (facts-few a ns)
  where
    more : (v : Bool) → length (facts_by a ns) ≤ length ns → length (cond v (n.fact ∷ facts_by a ns) (facts_by a ns)) ≤ suc (length ns)
    more true le = omega arith
    more false le = omega arith

birth-few : (v : Bool) (x y z : Note) → length (x ∷ y ∷ cond v (z ∷ []) []) ≤ 17
birth-few true x y z = omega arith
birth-few false x y z = omega arith

-- an event notes 17 facts at most
notes-few : (cl : Cluster) (e : Event) (p : List Event) → SendsAreShort (e ∷ p) → length (notes cl e p) ≤ 17
notes-few cl (Seed n) p short = omega arith
notes-few cl (Tie o t) p short = omega arith
notes-few cl (Take a) p short = omega arith
notes-few cl (Spawn a) p short = (let new = newborn a.node p in birth-few (cl.version == 2) (note_by new (created new new)) (note_by new (created a new)) (note_by a (created new a)))
notes-few cl (Send f t refs) p short =
    let all = length-map (message_facts (record { from = f; to = t; refs = refs })) (note_by f) in
    let some = length-map refs (created t) in
    let fits = short.0 in
    omega arith
notes-few cl (Drop a t) p short = omega arith
notes-few cl _ p short = omega arith

log-few : (cl : Cluster) (a : Actor) (h : List Event) → SendsAreShort h → length (log cl a h) ≤ 17 * length h
log-few cl a [] short = omega arith
log-few cl a (e ∷ p) short = more (is_flush_of a e) (log-few cl a p (short-before e p short))
  where
    more : (v : Bool) → length (log cl a p) ≤ 17 * length p → length (cond v [] (log cl a p ++ facts_by a (notes cl e p))) ≤ 17 * suc (length p)
    more true before = omega arith
    more false before =
        let joined = length-append (log cl a p) (facts_by a (notes cl e p)) in
        let mine = facts-few a (notes cl e p) in
        let all = notes-few cl e p short in
        omega arith

-- ---- room

-- where 20 for each event and k more fit 32 bits, k more fit each count
pub room-left : (cl : Cluster) (h : List Event) (r : Table) (a : Actor) (k : ℕ) → SendsAreShort h → IsRosterOf cl h r → 20 * length h + k < 2 ^ 32 → HasRoom (state_at r a) k
room-left cl h r a k short stands fits =
    let s = state_at r a in
    let is = stands.states a in
    let l = s.log in
    let counts = counted l (log cl l.actor h) is.log.facts in
    let long = log-few cl l.actor h short in
    record {
      held = λ t. (let same = is.held t in let few = held-few cl h a t short in omega arith);
      received = (
          let same = sym (ap (λ v. cond v l.noted.received 0) (same_actor-refl l.actor)) ∙ counts.received l.actor in
          let few = tally-length (is_received l.actor) (log cl l.actor h) in
          omega arith
          );
      sent = λ t. (let same = counts.sent t in let few = tally-length (is_sent_to t) (log cl l.actor h) in omega arith);
      created = λ b t. (let same = counts.created b t in let few = tally-length (is_created b t) (log cl l.actor h) in omega arith);
      released = λ t. (
          let same = sym (ap (λ v. cond v (actor_count t l.noted.released) 0) (same_actor-refl l.actor)) ∙ counts.released l.actor t in
          let few = tally-length (is_released l.actor t) (log cl l.actor h) in
          omega arith
          );
    }
