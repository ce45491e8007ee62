-- A pass may go to another thread, and a lock be shared, where the state may go to another thread.
use mathlib.Core.List.{List, [], ◌∷◌}
use Prim.Native.Nat.{ℕ}
use mir.Syntax.{Sym, Ty}
use denote.Exit.{no}
use denote.RattleType.{RattleType}
use denote.Param.{param, arg}
use denote.Param.Send.{IsSend, IsSync, AllSend, AllSync, sendable, param_send, param_sync, arg_send, arg_sync}
use denote.Param.SendFields.{FieldsHave, as_row_send, as_row_sync, declared_send, declared_sync}
use denote.Struct.Field.{row_field}
use denote.Struct.Tuple.{parts, type_at, TupleAt}
use Rattle.std.proofs.Crossing.{crosses}
use Rattle.atomic_table.proofs.shared.Seat.TheSendSync as Seat
use Rattle.atomic_table.proofs.shared.Shared.TheSendSync as Shared
use Rattle.atomic_table.proofs.send_lease.SendLease.TheSendSync as SendLease
use Rattle.turn_lock.specs.declared.object.Object.{Ghosts}
use Rattle.turn_lock.specs.contracts.pass.Pass as Pass
use Rattle.turn_lock.specs.contracts.lock.TurnLock as TurnLock
use Rattle.turn_lock.specs.contracts.rule.Room as Room
use Rattle.turn_lock.specs.contracts.rule.Last as Last

last_send : (P R : RattleType) → IsSend (Last.the_row P R)
last_send P R = search (crosses, sendable) depth 40

room_send : (S P R : RattleType) → IsSend S → IsSend (Room.the_row S P R)
room_send S P R s = search (sendable, last_send) depth 40

module _ (O S P R : RattleType) (g : Ghosts O.Denot S.Denot P.Denot R.Denot) where
  pub pass_send : IsSend S → IsSend (Pass.the_row O S P R g)
  pass_send s = search (sendable, Seat.the_send, room_send) depth 40

  pub lock_send : IsSend S → IsSend (TurnLock.the_row O S P R g)
  lock_send s = search (crosses, sendable, Shared.the_send, SendLease.the_send, room_send) depth 40

  pub lock_sync : IsSend S → IsSync (TurnLock.the_row O S P R g)
  lock_sync s = search (crosses, sendable, Shared.the_sync, SendLease.the_sync, room_send) depth 40

parts_send : (Ts : List RattleType) → AllSend Ts → FieldsHave IsSend (parts Ts)
parts_send [] s = tt
parts_send (T ∷ Ts) s = (as_row_send (row_field T) s.0, parts_send Ts s.1)

-- a closure may go to another thread, as the argument i of a call that starts it, where all that it captures may
pub captures_send : (i : ℕ) (δ : Ty) (ν : Sym) (Ts : List RattleType) → AllSend Ts → IsSend (param i (arg δ no (TupleAt ν Ts)))
captures_send i δ ν Ts s = param_send i (arg δ no (TupleAt ν Ts)) (arg_send δ no (TupleAt ν Ts) (declared_send (type_at ν Ts) (parts_send Ts s)))

parts_sync : (Ts : List RattleType) → AllSync Ts → FieldsHave IsSync (parts Ts)
parts_sync [] s = tt
parts_sync (T ∷ Ts) s = (as_row_sync (row_field T) s.0, parts_sync Ts s.1)

-- the same of a closure that threads share
pub captures_sync : (i : ℕ) (δ : Ty) (ν : Sym) (Ts : List RattleType) → AllSync Ts → IsSync (param i (arg δ no (TupleAt ν Ts)))
captures_sync i δ ν Ts s = param_sync i (arg δ no (TupleAt ν Ts)) (arg_sync δ no (TupleAt ν Ts) (declared_sync (type_at ν Ts) (parts_sync Ts s)))
