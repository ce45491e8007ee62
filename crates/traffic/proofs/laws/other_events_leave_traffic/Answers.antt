use Rattle.traffic.proofs.KeepingActors.{beside, beside-leaves}
use Rattle.traffic.proofs.laws.other_events_leave_traffic.Goals as goal

pub returns : goal.returns
returns c = λ cl e p t is legal stands. (let all = beside-leaves e p is in beside cl e p t legal all.0 all.1 stands)
