use Rattle.std.proofs.Common.{refl, subst, sym, true, ◌≡◌}
use Rattle.std.specs.List.{AllByRecursion}
use Rattle.crgc_ids.proofs.MembersLaws.{all-from_members}
use Rattle.shadow_table.specs.Shadows.{is_named}
use Rattle.collector.specs.Collected.{Collected}
use Rattle.collector.specs.Traced.{AreGone, DropsAll}
use Rattle.collector.proofs.DropLemmas.{drops-compacts, drops-kept, gone-none}
use Rattle.collector.proofs.collector.Collector.compact.Goals as goal
use Rattle.collector.proofs.collector.Collector.compact.Goals.{After-clear}

abbrev before : After-clear → Collected
before c = record { node = c.self.inside.node; order = c.self.inside.order; graph = c.self.inside.graph.graph; stopped = c.self.inside.stopped.items }

abbrev after : After-clear → Collected
after c = record { node = c.self.inside.node; order = c.self.inside.order; graph = c.drop_all.new.graph.graph; stopped = c.self.inside.stopped.items }

drops : (c : After-clear) → DropsAll c.self.inside.gone.items c.self.inside.graph c.drop_all.new.graph
drops c = subst (λ xs. DropsAll xs c.self.inside.graph c.drop_all.new.graph) c.as_slice.ensures.value c.drop_all.ensures

pub drop_all-requires : goal.drop_all-requires
drop_all-requires c =
    let names = c.self.inside.graph.graph.shadows.names in
    subst (AllByRecursion (λ a. is_named names a ≡ true)) (sym c.as_slice.ensures.value)
    (all-from_members (λ a. is_named names a ≡ true) c.self.inside.gone.items (λ a m. c.self.invariant.kept.named a (c.self.invariant.gone.only a m)))

pub invariant_of-self : goal.invariant_of-self
invariant_of-self c =
    let inv = c.self.invariant in
    record {
      nodes = inv.nodes;
      kept = drops-kept (before c) (after c) c.self.inside.gone.items c.self.inside.graph c.drop_all.new.graph refl refl inv.kept inv.gone (drops c) refl refl refl;
      left = (drops c).left c.self.inside.node c.self.inside.stopped.items inv.left;
      gone = subst (AreGone (after c)) (sym c.clear.ensures.items)
          (gone-none (before c) (after c) c.self.inside.gone.items c.self.inside.graph c.drop_all.new.graph refl refl inv.kept inv.gone (drops c) refl refl refl);
    }

pub returns : goal.returns
returns c =
    let inv = c.self.invariant in
    rw (← c.self.view_is)
    (drops-compacts (before c) (after c) c.self.inside.gone.items c.self.inside.graph c.drop_all.new.graph refl refl inv.kept inv.gone (drops c) refl refl refl)
