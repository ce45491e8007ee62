use Rattle.std.proofs.Common.{◌≡◌, ◌++◌, length, take}
use Rattle.std.specs.List.{flat_map}
use Rattle.byteorder.specs.Endian.{big_bytes}
use Rattle.wire_grammar.specs.Spelling.{actor_text, index_len}
use Rattle.graph_wire.proofs.writing.put_table.Given as goal

abbrev pub invariant-loop-actor : goal.invariant-loop-actor
invariant-loop-actor l =
    l.out.items ≡ (l.fn.out.items ++ big_bytes (index_len l.wide) (length l.table)) ++ flat_map actor_text (take l.actor-index l.table)
