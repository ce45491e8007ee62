-- What is kept beside the states of a node's actors, where the state of one changed or one more was born.
use Rattle.std.proofs.Common.{◌≡◌, ◌+◌, ◌<◌, ◌==◌, ◌&&◌, ◌||◌, not, ℕ, Bool, true, false, nat_lt, cond, List, [], ◌∷◌, Option, None, Some, IsSome, option_to_list, ◌++◌, count_by, get_or, length, set, length-set, length-append, Result, Ok, Err, OnOk, OnErr, refl, sym, ◌∙◌, ap, ap₂, subst, inl, inr, arith}
use Rattle.std.proofs.lemmas.Bool.{and_from, and_parts, and_right, cases_lt, cond-false, cond-true, cond_both, eq-eqb, eqb-true, false≢true, le-ltb, lt-ltb, ne_eqb}
use Rattle.std.proofs.lemmas.List.{get_or_append_left, get_or_default, get_or-set_other, get_or-set_same}
use Rattle.std.proofs.Math.Seq.{get_or-append_seam}
use Rattle.std.proofs.lemmas.List.Sums.{sum_by-append, sum_by-set}
use Rattle.crgc_ids.specs.Actor.{Actor, same_actor}
use Rattle.crgc_ids.proofs.ActorLaws.{same_actor-decides, same_parts}
use Rattle.ready_actors.specs.Ready.{has_actor}
use Rattle.history_model.specs.Streams.{are_flags}
use Rattle.entry_records.specs.Unflushed.{Unflushed, is_nothing}
use Rattle.entry_records.proofs.LogLemmas.{nothing-blank}
use Rattle.actor_states.specs.State.{State, blank_state, flags_of, has_news}
use Rattle.node_actors.specs.Keeping.{IsKept, IsSettled, is_due_among}
use Rattle.node_actors.specs.Node.{ChangesIn, IsThere, NodeState, state_in}

-- what holds at a success and at a failure holds
pub either_way : {A E : Type 0} (X P Q : Type 0) (r : Result A E) → OnOk r P → OnErr r Q → (P → X) → (Q → X) → X
either_way X P Q (Ok v) p q f g = f p
either_way X P Q (Err e) p q f g = g q

-- what an actor counts
abbrev pub one : Bool → ℕ
one v = cond v 1 0

-- at the place that changed the new state says whether its actor's flush is due
due-here : (number : ℕ) (actors : List State) (i : ℕ) (t : State) (a : Actor) → i < length actors → a.node ≡ number → a.serial ≡ i → is_due_among number (set actors i t) a ≡ has_news t
due-here number actors i t a below node serial =
    let length_same = length-set actors i t in
    let within : a.serial < length (set actors i t) = omega arith in
    ap (λ v. v && (nat_lt a.serial (length (set actors i t)) && has_news (get_or (set actors i t) a.serial (blank_state a)))) (eq-eqb a.node number node)
    ∙ ap (λ v. v && has_news (get_or (set actors i t) a.serial (blank_state a))) (lt-ltb a.serial (length (set actors i t)) within)
    ∙ ap has_news (ap (λ k. get_or (set actors i t) k (blank_state a)) serial ∙ get_or-set_same actors i t (blank_state a) below)

-- at another place the old one does
due-there : (number : ℕ) (actors : List State) (i : ℕ) (t : State) (a : Actor) → same_actor (record { node = number; serial = i }) a ≡ false → is_due_among number (set actors i t) a ≡ is_due_among number actors a
due-there number actors i t a other =
    elim (a.node == number) as (λ v. (a.node == number) ≡ v → (v && (nat_lt a.serial (length (set actors i t)) && has_news (get_or (set actors i t) a.serial (blank_state a)))) ≡ (v && (nat_lt a.serial (length actors) && has_news (get_or actors a.serial (blank_state a))))) [
      | false ↦ λ _. refl
      | true ↦ λ node.
          ap₂ (λ n s. nat_lt a.serial n && has_news s) (length-set actors i t) (get_or-set_other actors i a.serial t (blank_state a) (λ serial. apart (sym (eqb-true a.node number node)) (sym serial)))
    ] refl
  where
    apart : number ≡ a.node → i ≡ a.serial → ⊥
    apart node serial = (let same : same_actor (record { node = number; serial = i }) a ≡ true = and_from (number == a.node) (i == a.serial) (eq-eqb number a.node node) (eq-eqb i a.serial serial) in absurd (cc))

-- so the due ones are those before but for the one whose state changed
due-set : (number : ℕ) (actors : List State) (i : ℕ) (t : State) (a : Actor) → i < length actors → cond (same_actor (record { node = number; serial = i }) a) (has_news t) (is_due_among number actors a) ≡ is_due_among number (set actors i t) a
due-set number actors i t a below =
    cond_both (same_actor (record { node = number; serial = i }) a) (has_news t) (is_due_among number actors a) (λ v. v ≡ is_due_among number (set actors i t) a)
    (λ same. (let both = and_parts (number == a.node) (i == a.serial) same in sym (due-here number actors i t a below (sym (eqb-true number a.node both.0)) (sym (eqb-true i a.serial both.1)))))
    (λ other. sym (due-there number actors i t a other))

pub kept-changed : (number : ℕ) (up : Bool) (busy busy' stopped stopped' : ℕ) (actors : List State) (due due' : List Actor) (i : ℕ) (s t : State)
    → IsKept number up busy stopped actors due
    → i < length actors
    → s ≡ get_or actors i s
    → busy' + cond up (one s.busy) 0 ≡ busy + cond up (one t.busy) 0
    → stopped' + one s.stopped ≡ stopped + one t.stopped
    → ((a : Actor) → has_actor due' a ≡ cond (same_actor (record { node = number; serial = i }) a) (has_news t) (has_actor due a))
    → IsKept number up busy' stopped' (set actors i t) due'
kept-changed number up busy busy' stopped stopped' actors due due' i s t kept below here busy_more stopped_more settled =
    let b = sum_by-set (λ (x : State). one x.busy) actors i t s below in
    let d = sum_by-set (λ (x : State). one x.stopped) actors i t s below in
    record {
      few = (let few = kept.few in let same = length-set actors i t in omega arith);
      busy_ones = busy_case up (count_by (λ x. x.busy) (set actors i t)) (count_by (λ x. x.busy) actors) (one s.busy) (one t.busy) kept.busy_ones busy_more (omega (arith, b, ap (λ (x : State). one x.busy) here));
      stopped_ones = (let same = ap (λ (x : State). one x.stopped) here in let before = kept.stopped_ones in omega arith);
      due_ones = λ a. settled a ∙ ap (cond (same_actor (record { node = number; serial = i }) a) (has_news t)) (kept.due_ones a) ∙ due-set number actors i t a below;
    }
  where
    busy_case : (v : Bool) (x y m n : ℕ) → busy ≡ cond v y 0 → busy' + cond v m 0 ≡ busy + cond v n 0 → x + m ≡ y + n → busy' ≡ cond v x 0
    busy_case true x y m n e f g = omega arith
    busy_case false x y m n e f g = omega arith

-- where a flush is due as before, the due ones may stay
pub due-still : (number : ℕ) (up : Bool) (busy stopped : ℕ) (actors : List State) (due : List Actor) (i : ℕ) (s t : State)
    → IsKept number up busy stopped actors due
    → i < length actors
    → s ≡ get_or actors i s
    → has_news t ≡ has_news s
    → (a : Actor) → has_actor due a ≡ cond (same_actor (record { node = number; serial = i }) a) (has_news t) (has_actor due a)
due-still number up busy stopped actors due i s t kept below here same_news a =
    cond_both (same_actor (record { node = number; serial = i }) a) (has_news t) (has_actor due a) (λ v. has_actor due a ≡ v)
    (λ same. (
    let both = and_parts (number == a.node) (i == a.serial) same in
    let serial = sym (eqb-true i a.serial both.1) in
    let within : a.serial < length actors = omega arith in
    kept.due_ones a
    ∙ ap (λ v. v && (nat_lt a.serial (length actors) && has_news (get_or actors a.serial (blank_state a)))) (eq-eqb a.node number (sym (eqb-true number a.node both.0)))
    ∙ ap (λ v. v && has_news (get_or actors a.serial (blank_state a))) (lt-ltb a.serial (length actors) within)
    ∙ ap has_news (ap (λ k. get_or actors k (blank_state a)) serial ∙ get_or_default actors i (blank_state a) s below ∙ sym here)
    ∙ sym same_news
    ))
    (λ _. refl)

-- a state that changed nothing that is counted
pub kept-quiet : (number : ℕ) (up : Bool) (busy stopped : ℕ) (actors : List State) (due : List Actor) (i : ℕ) (s t : State)
    → IsKept number up busy stopped actors due
    → i < length actors
    → s ≡ get_or actors i s
    → t.busy ≡ s.busy
    → t.stopped ≡ s.stopped
    → has_news t ≡ has_news s
    → IsKept number up busy stopped (set actors i t) due
kept-quiet number up busy stopped actors due i s t kept below here same_busy same_stopped same_news =
    kept-changed number up busy busy stopped stopped actors due due i s t kept below here
    (ap (λ v. busy + cond up (one v) 0) (sym same_busy)) (ap (λ v. stopped + one v) (sym same_stopped))
    (due-still number up busy stopped actors due i s t kept below here same_news)

-- who was put into the set, and then settled, is in it where its flush is due, and the others are as before
pub settled-due : (number i : ℕ) (actor : Actor) (due put settled : List Actor) (news : Bool) → actor.node ≡ number → actor.serial ≡ i
    → ((a : Actor) → has_actor put a ≡ (same_actor actor a || has_actor due a)) → IsSettled put settled actor news
    → (a : Actor) → has_actor settled a ≡ cond (same_actor (record { node = number; serial = i }) a) news (has_actor due a)
settled-due number i actor due put settled news node serial puts settles a =
    let itself : actor ≡ record { node = number; serial = i } = same_parts actor (record { node = number; serial = i }) node serial in
    subst (λ x. has_actor settled a ≡ cond (same_actor x a) news (has_actor due a)) itself (settles a
    ∙ cond_both (same_actor actor a) news (has_actor put a) (λ v. v ≡ cond (same_actor actor a) news (has_actor due a))
    (λ same. sym (cond-true (same_actor actor a) news (has_actor due a) same))
    (λ other. puts a ∙ ap (λ v. v || has_actor due a) other ∙ sym (cond-false (same_actor actor a) news (has_actor due a) other)))

-- a message that was noted as sent is something to tell
sent-news : (s : State) → 0 < length s.log.noted.sent → has_news s ≡ true
sent-news s some =
    ap (λ v. not v || not (are_flags s.log.flushed (flags_of s))) (sym (nothing-blank s.log.actor s.log.noted) ∙ something)
  where
    n : Unflushed
    n = s.log.noted

    neither : (v : Bool) → (v && false) ≡ false
    neither true = refl
    neither false = refl

    something : is_nothing n ≡ false
    something =
        ap (λ v. (n.received == 0) && (v && ((length n.created == 0) && (length n.released == 0)))) (ne_eqb (length n.sent) 0 (λ e. omega (arith, some, e)))
        ∙ neither (n.received == 0)

-- the place of an actor that was born is one of the list
pub born-below : (number : ℕ) (up : Bool) (actors : List State) (n : NodeState) (i serial : ℕ) → record { number = number; up = up; actors = actors } ≡ n → i ≡ serial → serial < length n.actors → i < length actors
born-below number up actors n i serial view e born =
    let same = ap (λ (m : NodeState). length m.actors) view in
    omega arith

-- an actor with something to tell is due
pub news-due : (number : ℕ) (up : Bool) (busy stopped : ℕ) (actors : List State) (due : List Actor) (i : ℕ) (s : State) (actor : Actor)
    → IsKept number up busy stopped actors due
    → i < length actors
    → s ≡ get_or actors i s
    → record { node = number; serial = i } ≡ actor
    → has_news s ≡ true
    → has_actor due actor ≡ true
news-due number up busy stopped actors due i s actor kept below here itself news =
    due-still number up busy stopped actors due i s s kept below here refl actor
    ∙ cond-true (same_actor (record { node = number; serial = i }) actor) (has_news s) (has_actor due actor) ((same_actor-decides (record { node = number; serial = i }) actor).1 itself)
    ∙ news

-- so it is with one that is there
pub there-due : (number : ℕ) (up : Bool) (busy stopped : ℕ) (actors : List State) (due : List Actor) (n : NodeState) (i : ℕ) (s : State) (actor : Actor)
    → IsKept number up busy stopped actors due
    → record { number = number; up = up; actors = actors } ≡ n
    → IsThere n actor
    → i ≡ actor.serial
    → s ≡ get_or actors i s
    → has_news s ≡ true
    → has_actor due actor ≡ true
there-due number up busy stopped actors due n i s actor kept view there place here news =
    let below = born-below number up actors n i actor.serial view place there.born in
    let node : number ≡ actor.node = ap (λ (m : NodeState). m.number) view ∙ sym there.here in
    news-due number up busy stopped actors due i s actor kept below here (same_parts (record { node = number; serial = i }) actor node place) news

-- so the actor that noted one is due
pub sent-due : (number : ℕ) (up : Bool) (busy stopped : ℕ) (actors : List State) (due : List Actor) (i : ℕ) (s : State) (actor : Actor)
    → IsKept number up busy stopped actors due
    → i < length actors
    → s ≡ get_or actors i s
    → record { node = number; serial = i } ≡ actor
    → 0 < length s.log.noted.sent
    → has_actor due actor ≡ true
sent-due number up busy stopped actors due i s actor kept below here itself some =
    news-due number up busy stopped actors due i s actor kept below here itself (sent-news s some)

-- with one actor more, its state says whether its flush is due
due-more : (number : ℕ) (actors : List State) (t : State) (a : Actor) → is_due_among number (actors ++ t ∷ []) a ≡ cond (same_actor (record { node = number; serial = length actors }) a) (has_news t) (is_due_among number actors a)
due-more number actors t a =
    cond_both (same_actor (record { node = number; serial = length actors }) a) (has_news t) (is_due_among number actors a) (λ v. is_due_among number (actors ++ t ∷ []) a ≡ v) here there
  where
    longer : length (actors ++ t ∷ []) ≡ length actors + 1
    longer = length-append actors (t ∷ [])

    here : same_actor (record { node = number; serial = length actors }) a ≡ true → is_due_among number (actors ++ t ∷ []) a ≡ has_news t
    here same =
        let both = and_parts (number == a.node) (length actors == a.serial) same in
        let serial = sym (eqb-true (length actors) a.serial both.1) in
        let within : a.serial < length (actors ++ t ∷ []) = omega (arith, longer, serial) in
        ap (λ v. v && (nat_lt a.serial (length (actors ++ t ∷ [])) && has_news (get_or (actors ++ t ∷ []) a.serial (blank_state a)))) (eq-eqb a.node number (sym (eqb-true number a.node both.0)))
        ∙ ap (λ v. v && has_news (get_or (actors ++ t ∷ []) a.serial (blank_state a))) (lt-ltb a.serial (length (actors ++ t ∷ [])) within)
        ∙ ap has_news (ap (λ (k : ℕ). get_or (actors ++ t ∷ []) k (blank_state a)) serial ∙ get_or-append_seam actors t [] (blank_state a))

    apart : number ≡ a.node → length actors ≡ a.serial → same_actor (record { node = number; serial = length actors }) a ≡ true
    apart node serial = and_from (number == a.node) (length actors == a.serial) (eq-eqb number a.node node) (eq-eqb (length actors) a.serial serial)

    on_node : (length actors ≡ a.serial → ⊥) → (nat_lt a.serial (length (actors ++ t ∷ [])) && has_news (get_or (actors ++ t ∷ []) a.serial (blank_state a))) ≡ (nat_lt a.serial (length actors) && has_news (get_or actors a.serial (blank_state a)))
    on_node other =
        elim (cases_lt a.serial (length actors)) [
          | inl below ↦
              ap₂ (λ v s. v && has_news s) (lt-ltb a.serial (length (actors ++ t ∷ [])) (omega (arith, longer, below)) ∙ sym (lt-ltb a.serial (length actors) below)) (get_or_append_left actors (t ∷ []) (blank_state a) a.serial below)
          | inr above ↦
              ap (λ v. v && has_news (get_or (actors ++ t ∷ []) a.serial (blank_state a))) (le-ltb a.serial (length (actors ++ t ∷ [])) (omega (arith, longer, above, other)))
              ∙ sym (ap (λ v. v && has_news (get_or actors a.serial (blank_state a))) (le-ltb a.serial (length actors) above))
        ]

    there : same_actor (record { node = number; serial = length actors }) a ≡ false → is_due_among number (actors ++ t ∷ []) a ≡ is_due_among number actors a
    there other =
        elim (a.node == number) as (λ v. (a.node == number) ≡ v → (v && (nat_lt a.serial (length (actors ++ t ∷ [])) && has_news (get_or (actors ++ t ∷ []) a.serial (blank_state a)))) ≡ (v && (nat_lt a.serial (length actors) && has_news (get_or actors a.serial (blank_state a))))) [
          | false ↦ λ _. refl
          | true ↦ λ node. on_node (λ serial. false≢true (sym other ∙ apart (sym (eqb-true a.node number node)) serial))
        ] refl

-- an idle actor more, that was not stopped
pub kept-entered : (number : ℕ) (up : Bool) (busy stopped : ℕ) (actors : List State) (due due' : List Actor) (actor : Actor) (t : State)
    → IsKept number up busy stopped actors due
    → length actors < 262144
    → actor ≡ record { node = number; serial = length actors }
    → t.busy ≡ false
    → t.stopped ≡ false
    → has_news t ≡ true
    → ((a : Actor) → has_actor due' a ≡ (same_actor actor a || has_actor due a))
    → IsKept number up busy stopped (actors ++ t ∷ []) due'
kept-entered number up busy stopped actors due due' actor t kept room next idle not_stopped news puts =
    let b = sum_by-append (λ (x : State). one x.busy) actors (t ∷ []) in
    let d = sum_by-append (λ (x : State). one x.stopped) actors (t ∷ []) in
    let last_idle = ap one idle in
    let last_stays = ap one not_stopped in
    record {
      few = omega (arith, room, length-append actors (t ∷ []));
      busy_ones = kept.busy_ones ∙ ap (λ n. cond up n 0) (omega (arith, b, last_idle));
      stopped_ones = omega (arith, kept.stopped_ones, d, last_stays);
      due_ones = λ a. puts a ∙ ap (λ x. same_actor x a || has_actor due a) next ∙ ap (λ v. same_actor (record { node = number; serial = length actors }) a || v) (kept.due_ones a)
          ∙ put_in (same_actor (record { node = number; serial = length actors }) a) (is_due_among number actors a)
          ∙ ap (λ v. cond (same_actor (record { node = number; serial = length actors }) a) v (is_due_among number actors a)) (sym news)
          ∙ sym (due-more number actors t a);
    }
  where
    put_in : (v w : Bool) → (v || w) ≡ cond v true w
    put_in true w = refl
    put_in false w = refl

-- and taken back
pub kept-forgotten : (number : ℕ) (up : Bool) (busy stopped : ℕ) (actors : List State) (due due' : List Actor) (actor : Actor) (t : State)
    → IsKept number up busy stopped (actors ++ t ∷ []) due
    → actor ≡ record { node = number; serial = length actors }
    → t.busy ≡ false
    → t.stopped ≡ false
    → ((a : Actor) → has_actor due' a ≡ (not (same_actor actor a) && has_actor due a))
    → IsKept number up busy stopped actors due'
kept-forgotten number up busy stopped actors due due' actor t kept last idle not_stopped takes =
    let b = sum_by-append (λ (x : State). one x.busy) actors (t ∷ []) in
    let d = sum_by-append (λ (x : State). one x.stopped) actors (t ∷ []) in
    let last_idle = ap one idle in
    let last_stays = ap one not_stopped in
    record {
      few = omega (arith, kept.few, length-append actors (t ∷ []));
      busy_ones = kept.busy_ones ∙ ap (λ n. cond up n 0) (omega (arith, b, last_idle));
      stopped_ones = omega (arith, kept.stopped_ones, d, last_stays);
      due_ones = λ a. takes a ∙ ap (λ x. not (same_actor x a) && has_actor due a) last ∙ ap (λ v. not (same_actor (record { node = number; serial = length actors }) a) && v) (kept.due_ones a ∙ due-more number actors t a)
          ∙ taken_out a;
    }
  where
    taken_out : (a : Actor) → (not (same_actor (record { node = number; serial = length actors }) a) && cond (same_actor (record { node = number; serial = length actors }) a) (has_news t) (is_due_among number actors a)) ≡ is_due_among number actors a
    taken_out a =
        elim (same_actor (record { node = number; serial = length actors }) a) as (λ v. same_actor (record { node = number; serial = length actors }) a ≡ v → (not v && cond v (has_news t) (is_due_among number actors a)) ≡ is_due_among number actors a) [
          | false ↦ λ _. refl
          | true ↦ λ same.
              let both = and_parts (number == a.node) (length actors == a.serial) same in
              let serial = sym (eqb-true (length actors) a.serial both.1) in
              sym (and_right (a.node == number) (nat_lt a.serial (length actors) && has_news (get_or actors a.serial (blank_state a)))
              (ap (λ v. v && has_news (get_or actors a.serial (blank_state a))) (le-ltb a.serial (length actors) (omega (arith, serial)))))
        ] refl

-- the last actor was taken off the list
pub kept-popped : (number : ℕ) (up : Bool) (busy stopped : ℕ) (before after : List State) (last : Option State) (due due' : List Actor) (actor : Actor) (n : NodeState)
    → IsKept number up busy stopped before due
    → record { number = number; up = up; actors = before } ≡ n
    → before ≡ after ++ option_to_list last
    → (0 < length before → IsSome last)
    → (actor.node ≡ n.number) × (length n.actors ≡ actor.serial + 1)
    → ((state_in n actor.serial).busy ≡ false) × ((state_in n actor.serial).stopped ≡ false)
    → ((a : Actor) → has_actor due' a ≡ (not (same_actor actor a) && has_actor due a))
    → IsKept number up busy stopped after due'
kept-popped number up busy stopped before after last due due' actor n kept view popped some place idle takes = which last popped (some (omega (arith, long)))
  where
    long : length before ≡ actor.serial + 1
    long = ap (λ (m : NodeState). length m.actors) view ∙ place.1

    found : ((get_or before actor.serial (blank_state (record { node = number; serial = actor.serial }))).busy ≡ false) × ((get_or before actor.serial (blank_state (record { node = number; serial = actor.serial }))).stopped ≡ false)
    found = subst (λ m. ((state_in m actor.serial).busy ≡ false) × ((state_in m actor.serial).stopped ≡ false)) (sym view) idle

    which : (l : Option State) → before ≡ after ++ option_to_list l → IsSome l → IsKept number up busy stopped after due'
    which None e none = absurd (false≢true none)
    which (Some t) e _ =
        let longer = ap length e ∙ length-append after (t ∷ []) in
        let serial : actor.serial ≡ length after = omega (arith, long) in
        let d = blank_state (record { node = number; serial = actor.serial }) in
        let last_one : get_or before actor.serial d ≡ t = ap₂ (λ xs k. get_or xs k d) e serial ∙ get_or-append_seam after t [] d in
        kept-forgotten number up busy stopped after due due' actor t (subst (λ xs. IsKept number up busy stopped xs due) e kept)
        (same_parts actor (record { node = number; serial = length after }) (place.0 ∙ ap (λ (m : NodeState). m.number) (sym view)) serial)
        (ap (λ (x : State). x.busy) (sym last_one) ∙ found.0) (ap (λ (x : State). x.stopped) (sym last_one) ∙ found.1) takes

-- what stands at the place of an actor that was born is its state
pub found-state : (number : ℕ) (up : Bool) (actors : List State) (n : NodeState) (i serial : ℕ) (s : State) → record { number = number; up = up; actors = actors } ≡ n → i ≡ serial → serial < length n.actors → s ≡ get_or actors i s → s ≡ state_in n serial
found-state number up actors n i serial s view e born here =
    let below = born-below number up actors n i serial view e born in
    here ∙ get_or_default actors i s (blank_state (record { node = number; serial = serial })) below ∙ ap (λ k. get_or actors k (blank_state (record { node = number; serial = serial }))) e ∙ ap (λ m. state_in m serial) view

-- where one state changed, no other did
pub changes-in : (number : ℕ) (up : Bool) (actors : List State) (n : NodeState) (i serial : ℕ) (s t : State) (Change : State → State → Type 0)
    → record { number = number; up = up; actors = actors } ≡ n
    → i ≡ serial
    → serial < length n.actors
    → s ≡ get_or actors i s
    → Change s t
    → ChangesIn n (record { number = number; up = up; actors = set actors i t }) serial Change
changes-in number up actors n i serial s t Change view e born here change =
    let below = born-below number up actors n i serial view e born in
    let found = found-state number up actors n i serial s view e born here in
    let put : state_in (record { number = number; up = up; actors = set actors i t }) serial ≡ t =
    ap (λ k. get_or (set actors i t) k (blank_state (record { node = number; serial = serial }))) (sym e) ∙ get_or-set_same actors i t (blank_state (record { node = number; serial = serial })) below in
    record {
      node = (ap (λ (m : NodeState). m.number) view, ap (λ (m : NodeState). m.up) view, length-set actors i t ∙ ap (λ (m : NodeState). length m.actors) view);
      changed = subst (Change (state_in n serial)) (sym put) (subst (λ x. Change x t) found change);
      others = λ k apart. get_or-set_other actors i k t (blank_state (record { node = number; serial = k })) (λ same. apart (same ∙ e)) ∙ ap (λ m. state_in m k) view;
    }
