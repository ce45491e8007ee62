use Rattle.std.proofs.Common.{◌≡◌, ◌<◌, false, List, length, None}
use Rattle.crgc_ids.specs.Actor.{Actor}
use Rattle.history_model.specs.declared.events.Event.{Event}
use Rattle.behaviour_lang.specs.Code.{IsCode}
use Rattle.behaviour_lang.specs.TurnState.{left_of}
use Rattle.script_reader.specs.Valid.{Scripted}
use Rattle.script_actors.specs.Turns.{IsTurnOf}
use Rattle.script_player.proofs.stepping.next_act.Given as goal

abbrev pub invariant-loop-act : goal.invariant-loop-act
invariant-loop-act l =
    (l.turn.ended ≡ false) × (l.turn.owed ≡ None) × (l.turn.behaviour < length l.code)
    × ((s : Scripted) (a : Actor) (h : List Event) → s.code ≡ l.code → IsCode s.code → IsTurnOf s a h l.initial.turn → IsTurnOf s a h l.turn)

abbrev pub decreases-loop-act : goal.decreases-loop-act
decreases-loop-act l = (let x = left_of l.code l.turn in length x.instrs)
