use Rattle.std.proofs.Common.{◌≡◌, [], length}
use Rattle.std.specs.List.{AllByRecursion}
use Rattle.bulletin_streams.proofs.streams.BulletinStreams.new.Given as goal

abbrev pub invariant-loop : goal.invariant-loop
invariant-loop l = record {
  many : length l.nodes.items ≡ l.counter;
  blank : AllByRecursion (λ s. (s.entries ≡ []) × (s.bulletins ≡ [])) l.nodes.items;
}
