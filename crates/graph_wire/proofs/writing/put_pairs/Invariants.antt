use Rattle.std.proofs.Common.{◌≡◌, ◌++◌, length}
use Rattle.std.specs.List.{flat_map}
use Rattle.byteorder.specs.Endian.{big_bytes}
use Rattle.wire_grammar.specs.Spelling.{pair_text}
use Rattle.graph_wire.proofs.writing.put_pairs.Given as goal

abbrev pub invariant-loop-pair : goal.invariant-loop-pair
invariant-loop-pair l =
    l.out.items ≡ (l.fn.out.items ++ big_bytes (4) (length l.rows)) ++ flat_map (pair_text l.wide l.table) l.yielded
