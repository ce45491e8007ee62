use Rattle.std.proofs.Common.{◌≡◌, ◌<◌, ◌+◌, ◌-◌, ◌∙◌, length, ap, arith, subst, sym}
use Rattle.std.proofs.lemmas.List.{get_or_default}
use Rattle.edge_table.specs.Partition.{CountsAt, IsParted, Parted, nth_of, numbers_in}
use Rattle.edge_table.proofs.PartitionLemmas.{lowered, raised}
use Rattle.edge_table.proofs.partition.Partition.set_at.Goals as goal
use Rattle.edge_table.proofs.partition.Partition.set_at.Goals.{After-index-index}

-- where the edge stands in the order
index_is : (c : After-index-index) → nth_of c.args.self.now.indices c.args.place ≡ c.index-index.result.now
index_is c =
    let k = c.args.place in
    let parted = c.requires.parted.2 in
    let inside : k < length c.args.self.now.indices = (let long = parted.long in let indexed = parted.indexed in let place = c.requires.place in omega arith) in
    subst (λ (s : Parted). k < length s.indices → nth_of s.indices k ≡ c.index-index.result.now) c.self.view_is
    (λ within. sym (c.index-index.ensures ∙ get_or_default c.self.inside.indices.items k c.index-index.result.now 0 within)) inside

front_is : (c : After-index-index) → c.self.inside.front ≡ c.args.self.now.front
front_is c = ap (λ (s : Parted). s.front) c.self.view_is

pub returns-then-self-index : goal.returns-then-self-index
returns-then-self-index c = λ ends old new rising parted at.
    let here = (goal.at.returns-then-self-index c).After-index-index in
    let s = c.args.self.now in
    let t = c.exchange-then-self-index.new.self in
    let k = c.args.place in
    let i = c.index-index.result.now in
    let swap = c.exchange-then-self-index.ensures in
    let is = index_is here in
    let from = front_is here in
    let from_too = ap (λ (x : Parted). x.front) c.exchange.view_is in
    let long = parted.long in
    let inside : k < length ends = (let place = c.requires.place in omega arith) in
    let low = parted.within k inside in
    let high = c.if-self-index.true in
    let raise = raised ends rising old s parted t i c.exchange.inside.front (omega arith) (omega arith) swap k inside (sym is) new from_too (omega arith)
    (subst (λ v. CountsAt old new (nth_of (numbers_in ends) k) v) c.if-counts.true at) in
    subst (λ (x : Parted). IsParted ends new (record { order = x.order; places = x.places; indices = x.indices; front = x.front + 1 })) (sym c.self-then-self-index.view_is)
    (subst (λ f. IsParted ends new (record { order = t.order; places = t.places; indices = t.indices; front = f + 1 })) (sym swap.front) raise)

pub returns-then-index-self : goal.returns-then-index-self
returns-then-index-self c = λ ends old new rising parted at.
    let here = (goal.at.returns-then-index-self c).After-index-index in
    let s = c.args.self.now in
    let t = c.exchange-then-index-self-2.new.self in
    let k = c.args.place in
    let i = c.index-index.result.now in
    let swap = c.exchange-then-index-self-2.ensures in
    let is = index_is here in
    let from = front_is here in
    let from_too = ap (λ (x : Parted). x.front) c.exchange-then-index-self.view_is in
    let long = parted.long in
    let few = parted.few in
    let inside : k < length ends = (let place = c.requires.place in omega arith) in
    let low = c.if-index-self.true in
    let lower = lowered ends rising old s parted t i (c.exchange-then-index-self.inside.front - 1) (omega arith) (omega arith) swap k inside (sym is) new (omega arith) (omega arith)
    (subst (λ v. CountsAt old new (nth_of (numbers_in ends) k) v) c.if-not-counts.true at) in
    subst (λ (x : Parted). IsParted ends new (record { order = x.order; places = x.places; indices = x.indices; front = x.front - 1 })) (sym c.self-then-index-self.view_is)
    (subst (λ f. IsParted ends new (record { order = t.order; places = t.places; indices = t.indices; front = f - 1 })) (from_too ∙ sym swap.front) lower)
