-- What the parts of a world answer, in the words of its history.
use Rattle.std.proofs.Common.{◌≡◌, ◌<◌, ◌∷◌, ◌&&◌, not, ℕ, Bool, true, false, cond, List, [], length, refl, sym, ◌∙◌, ap, nat_lt, Option, Some, None, IfNone, IfSome, arith}
use Rattle.std.proofs.lemmas.Bool.{false≢true, lt-ltb}
use Rattle.crgc_ids.specs.Actor.{Actor, is_actor_below, same_actor}
use Rattle.bulletin_streams.specs.Standing.{FitsWire, IsWithinLimits, TellsNumber}
use Rattle.graph_wire.specs.Writable.{IsWritable}
use Rattle.history_model.specs.declared.events.Event.{Event}
use Rattle.history_model.specs.declared.events.Event.TheVariants.{Flush}
use Rattle.history_model.specs.declared.events.Rule.TheVariants.{Blank, Down, NoActor}
use Rattle.history_model.specs.declared.records.Bulletin.{Bulletin}
use Rattle.history_model.specs.declared.records.Bulletin.TheVariants as bulletins
use Rattle.history_model.specs.Cluster.{Cluster, is_born}
use Rattle.history_model.specs.Facts.{Fact, created, flagged, received, released, sent_to}
use Rattle.history_model.specs.Graph.{insert_actor, rising_actors}
use Rattle.history_model.specs.Legal.{check, first_broken, has_nothing, refusal}
use Rattle.history_model.specs.Messages.{Message, is_closed}
use Rattle.history_model.specs.State.{is_up}
use Rattle.history_model.specs.Streams.{can_flush, is_blank}
use Rattle.history_model.specs.Tells.{IsOrdered, fact_names}
use Rattle.link_table.specs.Standing.{is_link_open}
use Rattle.roster.specs.Standing.{IsRosterOf}
use Rattle.roster.specs.Table as tables
use Rattle.roster.specs.Table.{Table, may_be_flushed}
use Rattle.roster.proofs.Counting.{flushed-due}
use Rattle.true_config.specs.Readings.{IsNextFlush}

-- a message waits where some do
pub some-mail : (ms : List Message) → nat_lt 0 (length ms) ≡ not (has_nothing ms)
some-mail [] = refl
some-mail (m ∷ ms) = lt-ltb 0 (length (m ∷ ms)) (omega arith)

insert-some : (a : Actor) (bs : List Actor) → 0 < length (insert_actor a bs)
insert-some a [] = omega arith
insert-some a (b ∷ bs) =
    elim (same_actor a b) as (λ v. 0 < length (cond v (b ∷ bs) (cond (is_actor_below a b) (a ∷ b ∷ bs) (b ∷ insert_actor a bs)))) [
      | true ↦ omega arith
      | false ↦ elim (is_actor_below a b) as (λ w. 0 < length (cond w (a ∷ b ∷ bs) (b ∷ insert_actor a bs))) [ true ↦ omega arith | false ↦ omega arith ]
    ]

some-first : (a : Actor) (bs : List Actor) → nat_lt 0 (length (insert_actor a bs)) ≡ true
some-first a bs = lt-ltb 0 (length (insert_actor a bs)) (insert-some a bs)

-- facts name somebody where there are some
pub some-named : (fs : List Fact) → nat_lt 0 (length (rising_actors (fact_names fs))) ≡ not (is_blank fs)
some-named [] = refl
some-named (received a ∷ fs) = some-first a (rising_actors (fact_names fs))
some-named (sent_to a ∷ fs) = some-first a (rising_actors (fact_names fs))
some-named (created b a ∷ fs) = some-first b (rising_actors (a ∷ fact_names fs))
some-named (released b a ∷ fs) = some-first b (rising_actors (a ∷ fact_names fs))
some-named (flagged a flags ∷ fs) = some-first a (rising_actors (fact_names fs))

-- a link whose end is up is closed where it is not open
pub closed-read : (s d : ℕ) (h : List Event) → is_up d h ≡ true → not (is_link_open s d h) ≡ is_closed s d h
closed-read s d h up = ap (λ v. not (v && not (is_closed s d h))) up ∙ twice (is_closed s d h)
  where
    twice : (c : Bool) → not (true && not c) ≡ c
    twice true = refl
    twice false = refl

pub open-read : (s d : ℕ) (h : List Event) → is_up d h ≡ true → is_closed s d h ≡ false → is_link_open s d h ≡ true
open-read s d h up open_yet = ap (λ v. v && not (is_closed s d h)) up ∙ ap (λ c. true && not c) open_yet

-- ---- flushes

flush-kept : (u b c : Bool) → (u && (b && c)) ≡ true → first_broken (check NoActor b ∷ check Down u ∷ check Blank c ∷ []) ≡ None
flush-kept true true true all = refl
flush-kept true true false all = absurd (false≢true all)
flush-kept true false c all = absurd (false≢true all)
flush-kept false b c all = absurd (false≢true all)

flush-refused : (u b c : Bool) → first_broken (check NoActor b ∷ check Down u ∷ check Blank c ∷ []) ≡ None → (u && (b && c)) ≡ true
flush-refused true true true none = refl
flush-refused true true false none = absurd (cc)
flush-refused false true c none = absurd (cc)
flush-refused u false c none = absurd (cc)

due : (cl : Cluster) (h : List Event) (r : Table) → IsRosterOf cl h r → (a : Actor) → refusal cl (Flush a) h ≡ None → may_be_flushed r a ≡ true
due cl h r stands a legal = flushed-due cl h r stands a ∙ flush-refused (is_up a.node h) (is_born a h) (can_flush cl a h) legal

-- the next actor that may be flushed is the next one whose flush no rule refuses
pub next-flushed : (cl : Cluster) (h : List Event) (r : Table) (n : ℕ) (after answer : Option Actor) → IsRosterOf cl h r → IfSome answer (tables.IsNextFlush r n after) → IfNone answer (tables.NobodyIsFlushed r n after)
    → IsNextFlush cl n h after answer
next-flushed cl h r n after None stands some none = λ a may. none a may.0 (due cl h r stands a may.1) may.2
next-flushed cl h r n after (Some first) stands some none = (
  (some.here, flush-kept (is_up first.node h) (is_born first h) (can_flush cl first h) (sym (flushed-due cl h r stands first) ∙ some.may), some.above),
  λ a may. some.lowest a may.0 (due cl h r stands a may.1) may.2,
)

-- ---- bulletins

-- what fits the wire may be written
fits-writable : (b : Bulletin) → FitsWire b → IsWritable b
fits-writable (bulletins.Delta d) fits = record { states = fits.rows.states; sent = fits.rows.sent; created = fits.rows.created; released = fits.rows.released }
fits-writable (bulletins.Window w) fits = record { link = fits.ends; messages = fits.rows.sent; carried = fits.rows.created }
fits-writable (bulletins.Final w) fits = record { link = fits.ends; messages = fits.rows.sent; carried = fits.rows.created }

-- so may a bulletin of a stream
pub if_some-writable : {X : Type 0} (of : X → Bulletin) (cl : Cluster) (h : List Event) (o k : ℕ) (r : Option X) → IsWithinLimits cl h
    → ((c : Cluster) (g : List Event) (p n : ℕ) (b : Bulletin) → IsWithinLimits c g → IsOrdered b → TellsNumber c g p n b → FitsWire b)
    → IfSome r (λ x. IsOrdered (of x)) → IfSome r (λ x. TellsNumber cl h o k (of x)) → IfSome r (λ x. IsWritable (of x))
if_some-writable of cl h o k None within law ordered told = tt
if_some-writable of cl h o k (Some x) within law ordered told = fits-writable (of x) (law cl h o k (of x) within ordered told)
