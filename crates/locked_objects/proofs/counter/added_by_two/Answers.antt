use mathlib.Core.List.{[], ◌∷◌}
use denote.RattleType.{RattleType}
use denote.Ref.{ShrRef}
use denote.Param.{param}
use denote.Struct.Field.{u64-field}
use denote.Param.Send.{IsSend, IsSync, sendable, shr_send}
use Rattle.turn_lock.specs.contracts.lock.TurnLock as TurnLock
use Rattle.turn_lock.specs.contracts.pass.Pass as Pass
use Rattle.turn_lock.proofs.Crossing.{pass_send, lock_sync, captures_send}
use Rattle.locked_objects.specs.contracts.counter.Counter as Counter
use Rattle.locked_objects.specs.contracts.counter.CounterObject.TheImpl.{ghosts}
use Rattle.locked_objects.proofs.counter.added_by_two.Goals as goal

abbrev u64 : RattleType
u64 = u64-field.row

abbrev lock : RattleType
lock = TurnLock.the_row Counter.the_row u64 u64 u64 ghosts

abbrev pass : RattleType
pass = Pass.the_row Counter.the_row u64 u64 u64 ghosts

shared : IsSync lock
shared = search (sendable, lock_sync) depth 40

moved : IsSend pass
moved = search (sendable, pass_send) depth 40

pub join-requires-send-F : goal.join-requires-send-F
join-requires-send-F g c κs h =
    captures_send 1 _ _ (ShrRef _ _ (param 0 g.row.R) ∷ ShrRef _ _ lock ∷ pass ∷ [])
    (shr_send _ _ _ c.type_bounds.sync-R, (shr_send _ _ _ shared, (moved, tt)))

pub join-requires-send-A : goal.join-requires-send-A
join-requires-send-A g c κs h = search (sendable, moved) depth 40
