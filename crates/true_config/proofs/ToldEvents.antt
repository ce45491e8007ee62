-- What is told by windows, Finals and flushes.
use Rattle.std.proofs.Common.{◌≡◌, ◌==◌, ℕ, not, true, false, List, [], ◌∷◌, None, flat_map, length, refl, sym, ◌∙◌, ap, subst, arith}
use Rattle.std.proofs.lemmas.Bool.{eqb-false, eqb-true, false≢true}
use Rattle.crgc_ids.specs.Actor.{Actor}
use Rattle.history_model.specs.declared.events.Event.{Event}
use Rattle.history_model.specs.declared.events.Event.TheVariants.{Flush, Window}
use Rattle.history_model.specs.declared.records.Entry.{Entry}
use Rattle.history_model.specs.declared.records.Window as records
use Rattle.history_model.specs.Cluster.{Cluster}
use Rattle.history_model.specs.Facts.{Flags, message_facts}
use Rattle.history_model.specs.Ledgers.{window_ledger}
use Rattle.history_model.specs.Legal.{checks, refusal}
use Rattle.history_model.specs.Messages.{Message}
use Rattle.history_model.specs.State.{is_busy, is_root}
use Rattle.history_model.specs.Streams.{entry, flags_at, is_blank, log}
use Rattle.history_model.specs.Tells.{CountsMessages, IsLedgerOf, TellsEntry, admitted_since, message_recipients}
use Rattle.history_model.proofs.Basics.{eqb-sym, first_broken-none}
use Rattle.history_model.proofs.TellsWindows.{window-messages, window-tells}
use Rattle.link_table.specs.Standing.{CountsSince}
use Rattle.entry_records.specs.Log.{IsEntryOf, log_facts}
use Rattle.entry_records.proofs.LogLemmas.{entry-alike}
use Rattle.traffic.specs.Standing.{IsTrafficOf}
use Rattle.traffic.specs.TrafficState.{TrafficState, link_of}
use Rattle.traffic.proofs.KeepingLinks.{is-link, link-legal}
use Rattle.actor_states.specs.State.{State, flags_of, has_news}
use Rattle.roster.specs.Standing.{IsRosterOf, IsStateOf}
use Rattle.roster.specs.Table.{Table, state_at}
use Rattle.roster.proofs.Counting.{news-due}
use Rattle.bulletin_streams.specs.Standing.{AreStreamsOf, StandAfter, TellsFlush, TellsLink}
use Rattle.bulletin_streams.specs.StreamState.{AreAlike, ChangesAt, IsAlike, Queues, StreamState, TakesBack, stream_at}
use Rattle.bulletin_streams.proofs.StandingLemmas.{alike-stand, flush-stands as queued-stands}
use Rattle.true_config.specs.Pairs.{QueuesCopy}

-- a window that counts what was admitted on a link tells it
link-told : (p : List Event) (w : records.Window) (s d : ℕ) → CountsSince s d p w → TellsLink p w
link-told p w s d counts =
    let own : CountsMessages w (admitted_since w.from w.at p) = subst (λ x. CountsMessages w (admitted_since x w.at p)) (sym counts.1) (subst (λ y. CountsMessages w (admitted_since s y p)) (sym counts.0) counts.2) in
    (refl, refl, subst (λ facts. IsLedgerOf facts (window_ledger w)) (sym (window-messages w.from w.at p)) (window-tells w (admitted_since w.from w.at p) own))

-- so streams to which it comes stand after its event; room was made before
pub link-stands : (make : ℕ → ℕ → Event) (cl : Cluster) (p : List Event) (w : records.Window) (s d : ℕ) (old mid new : List StreamState) → CountsSince s d p w → AreAlike old mid
    → (TellsLink p w → StandAfter cl (make w.at w.from) p mid new) → StandAfter cl (make d s) p old new
link-stands make cl p w s d old mid new counts alike stand is =
    subst (λ x. AreStreamsOf cl (make x s ∷ p) new) counts.0
    (subst (λ y. AreStreamsOf cl (make w.at y ∷ p) new) counts.1 (stand (link-told p w s d counts) (alike-stand cl p old mid alike is)))

same-flags : (f g : Flags) → f.busy ≡ g.busy → f.root ≡ g.root → f ≡ g
same-flags f g busy root = ap (λ v. record { busy = v; root = f.root }) busy ∙ ap (λ v. record { busy = g.busy; root = v }) root

-- the entry of an actor's state tells its flush
pub flush-told : (cl : Cluster) (p : List Event) (a : Actor) (s : State) (e : Entry) → IsStateOf cl p a s → IsEntryOf s.log (flags_of s) e → TellsFlush cl p e
flush-told cl p a s e is entered =
    let flags : flags_of s ≡ flags_at s.log.actor p = same-flags (flags_of s) (flags_at s.log.actor p) (is.busy ∙ ap (λ x. is_busy x p) (sym is.actor)) (is.root ∙ ap (λ x. is_root x p) (sym is.actor)) in
    let named = subst (λ g. IsEntryOf s.log g e) flags entered in
    let tells : TellsEntry s.log.actor e (entry cl s.log.actor p) = entry-alike s.log.actor (flags_at s.log.actor p) e (log_facts s.log) (log cl s.log.actor p) is.log.facts named.tells in
    subst (λ x. TellsEntry x e (entry cl x p)) (sym tells.0) tells

-- the event of its flush is that of the actor
pub flush-stands : (make : Actor → Event) (cl : Cluster) (p : List Event) (a : Actor) (s : State) (e : Entry) (old mid new : List StreamState) → IsStateOf cl p a s → IsEntryOf s.log (flags_of s) e → AreAlike old mid
    → (TellsFlush cl p e → StandAfter cl (make e.actor) p mid new) → StandAfter cl (make a) p old new
flush-stands make cl p a s e old mid new state entered alike stand is =
    let whose : e.actor ≡ a = entered.tells.0 ∙ state.actor in
    subst (λ x. AreStreamsOf cl (make x ∷ p) new) whose (stand (flush-told cl p a s e state entered) (alike-stand cl p old mid alike is))

none-admitted : (ms : List Message) → length (message_recipients ms) ≡ 0 → is_blank (flat_map message_facts ms) ≡ true
none-admitted [] none = refl
none-admitted (m ∷ ms) none = absurd (omega arith)

-- where a window may be cut, something was admitted
pub some-window : (cl : Cluster) (p : List Event) (t : TrafficState) (s d : ℕ) → IsTrafficOf cl p t → refusal cl (Window d s) p ≡ None → length (link_of t s d).gate.messages ≡ 0 → ⊥
some-window cl p t s d is legal empty =
    let kept = first_broken-none (checks cl (Window d s) p) legal in
    let rules = link-legal cl s d p kept.1.0 kept.0 (ap not (eqb-sym s d) ∙ kept.1.1.0) kept.1.1.1.0 kept.1.1.1.1.0 in
    let stands = is.links s d (is-link cl s d is.few rules.source rules.end rules.apart) in
    let none = ap is_blank (window-messages s d p) ∙ none-admitted (admitted_since s d p) (sym (ap length stands.messages) ∙ empty) in
    false≢true (sym (ap not none) ∙ kept.1.1.1.1.1.0)

-- an actor that may be flushed has something to tell
pub flush-due : (cl : Cluster) (p : List Event) (r : Table) (a : Actor) → IsRosterOf cl p r → refusal cl (Flush a) p ≡ None → has_news (state_at r a) ≡ true
flush-due cl p r a is legal =
    let kept = first_broken-none (checks cl (Flush a) p) legal in
    news-due cl p r is a ∙ kept.1.1.0

-- the entry that a flush would give, once it is queued, tells the flush
pub copy-stands : (cl : Cluster) (p : List Event) (a : Actor) (s : State) (old new : List StreamState) → IsStateOf cl p a s → QueuesCopy old new s → StandAfter cl (Flush a) p old new
copy-stands cl p a s old new state copy =
    flush-stands Flush cl p a s copy.entry old copy.roomy new state copy.entered copy.alike (λ tells. queued-stands cl p copy.entry copy.roomy new copy.queued tells)

-- taken back, it leaves the queues as they were
pub copy-undone : (s : State) (n : ℕ) (old mid kept new : List StreamState) → QueuesCopy old mid s → s.log.actor.node ≡ n → AreAlike mid kept → ChangesAt kept new n TakesBack → AreAlike old new
copy-undone s n old mid kept new copy here same back m =
    let whose : copy.entry.actor.node ≡ n = ap (λ (a : Actor). a.node) copy.entered.tells.0 ∙ here in
    let queued = subst (λ k. ChangesAt copy.roomy mid k (λ x y. Queues x y copy.entry)) whose copy.queued in
    let first = copy.alike in
    let split = elim (m == n) as (λ v. (m == n) ≡ v → IsAlike (stream_at old m) (stream_at new m)) [
      | true ↦ λ e. subst (λ k. IsAlike (stream_at old k) (stream_at new k)) (sym (eqb-true m n e)) (
        back.changed.entries (stream_at copy.roomy n).entries copy.entry ((same n).0 ∙ queued.changed.entries) ∙ (first n).0,
        back.changed.bulletins ∙ (same n).1 ∙ queued.changed.bulletins ∙ (first n).1,
      )
      | false ↦ λ e.
          let apart = eqb-false m n e in
          let last = back.others m apart in
          let before = queued.others m apart in (
            ap (λ (x : StreamState). x.entries) last ∙ (same m).0 ∙ ap (λ (x : StreamState). x.entries) before ∙ (first m).0,
            ap (λ (x : StreamState). x.bulletins) last ∙ (same m).1 ∙ ap (λ (x : StreamState). x.bulletins) before ∙ (first m).1,
          )
    ] in
    split refl
