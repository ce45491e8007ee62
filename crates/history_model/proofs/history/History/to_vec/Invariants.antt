use Rattle.std.proofs.Common.{◌≡◌, drop, reverse, take}
use Rattle.history_model.proofs.history.History.to_vec.Given as goal

abbrev pub invariant-loop : goal.invariant-loop
invariant-loop l = record {
  read : l.all.items ≡ take l.counter (reverse l.self.past);
  left : l.events ≡ drop l.counter (reverse l.self.past);
}
