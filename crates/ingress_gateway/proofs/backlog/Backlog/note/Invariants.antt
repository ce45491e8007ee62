use Rattle.std.proofs.Common.{◌≡◌, ◌+◌, ◌≤◌, ◌++◌, [], ◌∷◌, length, map, take}
use Rattle.ingress_gateway.proofs.backlog.Backlog.note.Given as goal

abbrev pub invariant-loop-target : goal.invariant-loop-target
invariant-loop-target l = record {
  messages : l.self.messages ≡ l.fn.self.messages ++ l.to ∷ [];
  carried : l.self.carried ≡ l.fn.self.carried ++ map (λ a. (l.to, a)) (take l.target-index l.refs);
  room : length l.refs ≤ l.self.room + l.target-index;
}
