-- What comes of a try to begin a turn.
use Rattle.operation_model.specs.declared.operations.Op.{Op}
use Rattle.operation_model.specs.declared.operations.Op.TheVariants as ops
use Rattle.operation_model.specs.declared.replies.Reply.{Reply}
use Rattle.operation_model.specs.declared.replies.Reply.TheVariants as replies
use Rattle.operation_model.specs.Deeds.{Begun as BegunTurn}
use Rattle.actor_dispatch.specs.declared.beginning.Beginning.{Beginning}
use Rattle.actor_dispatch.specs.declared.beginning.Tried.{Tried}
use Rattle.actor_dispatch.specs.declared.beginning.Tried.TheVariants.{Begun, Over, NotNow}

-- the operation begins a turn, if any
abbrev pub BeginsTurn : Op → Type 0
BeginsTurn ops.Wake = Unit {0}
BeginsTurn (ops.Take a) = Unit {0}
BeginsTurn op = ⊥

-- what the reply says of the turn
abbrev pub tried_by : Reply → Tried
tried_by (replies.Turn a b list locals refs root) =
    Begun (record { actor = a; behaviour = b; list = list; locals = locals; refs = refs; root = root })
tried_by replies.Over = Over
tried_by r = NotNow

abbrev pub begun_of : Beginning → BegunTurn
begun_of b = record { actor = b.actor; behaviour = b.behaviour; list = b.list; locals = b.locals; refs = b.refs; root = b.root }
