use Rattle.std.proofs.Common.{subst}
use Rattle.collector.specs.Taking.{Takes}
use Rattle.collector.proofs.TakeLemmas.{takes-one}
use Rattle.collector.proofs.collector.Collector.take.Goals as goal

pub returns-in-Ok-eq0-clause-takes : goal.returns-in-Ok-eq0-clause-takes
returns-in-Ok-eq0-clause-takes c =
    subst (λ d. Takes c.args.origin c.args.number c.args.bytes.now d c.fold_ready.new.self) c.self.view_is
    (takes-one c.args.origin c.args.number c.args.bytes.now c.in-Ok.b _ _ _ c.in-Ok.ensures.only c.in-Ok-admit.ensures.admits c.fold_ready.ensures.folds)

pub returns-in-Ok-fold_ready-clause-takes : goal.returns-in-Ok-fold_ready-clause-takes
returns-in-Ok-fold_ready-clause-takes c =
    subst (λ d. Takes c.args.origin c.args.number c.args.bytes.now d c.fold_ready.new.self) c.self.view_is
    (takes-one c.args.origin c.args.number c.args.bytes.now c.in-Ok.b _ _ _ c.in-Ok.ensures.only c.in-Ok-admit.ensures.admits c.fold_ready.ensures.folds)

pub returns-in-Err-fold_ready-clause-takes : goal.returns-in-Err-fold_ready-clause-takes
returns-in-Err-fold_ready-clause-takes c =
    subst (λ d. Takes c.args.origin c.args.number c.args.bytes.now d c.fold_ready.new.self) c.self.view_is
    (takes-one c.args.origin c.args.number c.args.bytes.now c.in-Ok.b _ _ _ c.in-Ok.ensures.only c.in-Ok-admit.ensures.admits c.fold_ready.ensures.folds)
