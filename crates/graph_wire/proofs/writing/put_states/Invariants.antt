use Rattle.std.proofs.Common.{◌≡◌, ◌++◌, length}
use Rattle.std.specs.List.{flat_map}
use Rattle.byteorder.specs.Endian.{big_bytes}
use Rattle.wire_grammar.specs.Spelling.{index_len, state_text}
use Rattle.graph_wire.proofs.writing.put_states.Given as goal

abbrev pub invariant-loop-state : goal.invariant-loop-state
invariant-loop-state l =
    l.out.items ≡ (l.fn.out.items ++ big_bytes (index_len l.wide) (length l.rows)) ++ flat_map (state_text l.wide l.table) l.yielded
