-- A cluster that stands is a sound one, so what it grants is legal.
use Rattle.std.proofs.Common.{◌≡◌, ◌<◌, ℕ, true, false, List, [], Option, Some, None, refl, sym, ◌∙◌, ap, subst}
use Rattle.std.specs.Prelude.{IsSome, get_or, option_map, if◌then◌else◌}
use Rattle.std.proofs.lemmas.Bool.{ltb-true}
use Rattle.std.proofs.lemmas.Option.{none-some, same_Some, slice_get-get_or}
use Rattle.crgc_ids.specs.Actor.{Actor}
use Rattle.history_model.specs.declared.events.Event.{Event}
use Rattle.history_model.specs.Cluster.{births, is_born}
use Rattle.history_model.specs.State.{is_busy}
use Rattle.behaviour_lang.specs.Bound.{local_names}
use Rattle.script_reader.specs.Valid.{Scripted}
use Rattle.run_model.specs.Doing.{doing}
use Rattle.script_actors.specs.declared.rows.Row.{Row}
use Rattle.script_actors.specs.Standing.{AreActorsAt, IsRowOf, names_now}
use Rattle.script_actors.specs.Table.{Table, behaviour_at, behaviour_in, names_at, names_in, row, row_at, rows_on}
use Rattle.script_actors.proofs.Standings.{some-of}
use Rattle.operation_model.specs.declared.operations.Op.{Op}
use Rattle.operation_model.specs.declared.replies.Reply.{Reply}
use Rattle.operation_model.specs.Answers.{AreLegal}
use Rattle.operation_model.specs.Fits.{Fits}
use Rattle.operation_model.specs.Openings.{IsSoundOpening}
use Rattle.operation_model.proofs.LegalGrants.{granted-legal}
use Rattle.world_object.specs.declared.parts.ClusterParts.{ClusterParts}
use Rattle.world_object.specs.Answering.{Grants, events_of, refused_by}
use Rattle.world_object.specs.Standing.{Stands, opening_of}
use Rattle.world_object.specs.State.{names_or_none}

-- ---- actors

module _ (s : Scripted) (h : List Event) (t : Table) (stands : AreActorsAt s h t) (a : Actor) (born : is_born a h ≡ true) where
  abbrev found : Row
  found = get_or (rows_on t a.node) a.serial (row 0 None)

  has-row : row_at t a ≡ Some found
  has-row = slice_get-get_or (rows_on t a.node) a.serial (row 0 None) (subst (λ n. a.serial < n) (sym (stands.counts a.node)) (ltb-true a.serial (births a.node h) born))

  is-row : IsRowOf s h a found
  is-row = some-of (IsRowOf s h a) (row_at t a) found has-row (stands.rows a)

  pub behaviour-is : behaviour_at t a ≡ (let d = doing s a h in d.behaviour)
  behaviour-is = ap behaviour_in has-row ∙ is-row.behaviour

  module _ (idle : is_busy a h ≡ false) where
    kept : option_map local_names found.names ≡ Some (names_now s a h)
    kept = is-row.names ∙ ap (λ v. if v then None else Some (names_now s a h)) idle

    with-names : (v : Option (List (List ℕ × Actor))) → option_map local_names v ≡ Some (names_now s a h) → names_or_none v ≡ names_now s a h
    with-names None e = absurd (none-some (names_now s a h) e)
    with-names (Some names) e = same_Some (local_names names) (names_now s a h) e

    has-names : (v : Option (List (List ℕ × Actor))) → option_map local_names v ≡ Some (names_now s a h) → IsSome v
    has-names None e = absurd (none-some (names_now s a h) e)
    has-names (Some names) e = refl

    pub names-are : names_or_none (names_at t a) ≡ names_now s a h
    names-are = ap (λ r. names_or_none (names_in r)) has-row ∙ with-names found.names kept

    pub names-there : IsSome (names_at t a)
    names-there = subst IsSome (sym (ap names_in has-row)) (has-names found.names kept)

-- ---- the cluster

pub stands-sound : (p : ClusterParts) → Stands p → IsSoundOpening (opening_of p)
stands-sound p stands = record {
  sound = stands.sound;
  names = λ a born idle. names-are p.script.value p.world.past p.actors stands.actors a born idle;
  behaviours = λ a born. behaviour-is p.script.value p.world.past p.actors stands.actors a born;
}

-- the events of an operation that is granted
pub grants-legal : (p : ClusterParts) → Stands p → (op : Op) (r : Reply) → Fits (opening_of p) [] op 0 → refused_by p op ≡ None → Grants p op r → AreLegal p.script.value (events_of p op r) p.world.past
grants-legal p stands op r fit none granted = granted-legal (opening_of p) (stands-sound p stands) [] tt 0 op r fit none granted
