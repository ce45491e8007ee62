-- A bulletin that is folded without waiting: as though it had waited, and then been folded.
use Rattle.std.proofs.Common.{◌≡◌, ◌+◌, ◌<◌, ◌∷◌, ℕ, false, cond, None, Some, length, sum, refl, sym, ap, ◌∙◌, arith}
use Rattle.std.proofs.lemmas.Bool.Decides.{nat_tests}
use Rattle.std.specs.Option.{unwrap_or}
use Rattle.history_model.specs.declared.records.Bulletin.{Bulletin}
use Rattle.gossip_core.specs.Gossip.{Passes, TakesOut, kept_at, same_key}
use Rattle.shadow_graph.specs.Taken.{FoldsIn}
use Rattle.collector.specs.Collected.{Collected, cut_of, node_count}
use Rattle.collector.specs.Kept.{IsKept}
use Rattle.collector.specs.Refusals.{IsFit}
use Rattle.collector.specs.Taking.{Admits, Keeps}
use Rattle.collector.proofs.FoldLemmas.{folds-kept, folds-one, folds-sum}
use Rattle.collector.proofs.KeepLemmas.{keeps-kept}
use Rattle.collector.proofs.NumberLemmas.{key-self}

-- keys that are apart are so either way round
key-turned : (a b o k : ℕ) → same_key (a, b) (o, k) ≡ false → same_key (o, k) (a, b) ≡ false
key-turned a b o k e = grind (arith, nat_tests)

module _ (old new : Collected) (o : ℕ) (b : Bulletin) (kept : IsKept old) (node_below : o < node_count old) (fewer : cut_of old o < 1000000)
    (missing : kept_at old.order o (cut_of old o) ≡ None) (fit : IsFit (node_count old) o b) (passes : Passes old.order new.order o)
    (folds : FoldsIn o b old.graph new.graph) (node : new.node ≡ old.node) (stopped : new.stopped ≡ old.stopped) where
  -- the collector in which the bulletin waits
  abbrev waiting : Collected
  waiting = record old { order = record old.order { kept = ((o, cut_of old o), b) ∷ old.order.kept } }

  -- it waits under its number
  ready : kept_at waiting.order o (cut_of old o) ≡ Some b
  ready = ap (λ t. cond t (Some b) (kept_at old.order o (cut_of old o))) (key-self o (cut_of old o))

  -- and under the others there is what was
  others : (x y : ℕ) → same_key (o, cut_of old o) (x, y) ≡ false → kept_at waiting.order x y ≡ kept_at old.order x y
  others x y apart = ap (λ t. cond t (Some b) (kept_at old.order x y)) (key-turned o (cut_of old o) x y apart)

  waits : Keeps old waiting o (cut_of old o) b
  waits = record {
    node = refl;
    stopped = refl;
    graph = refl;
    order = record {
      nodes = refl;
      cut = refl;
      before = λ less. absurd (omega arith);
      here = λ _. ready ∙ ap (λ was. Some (unwrap_or was b)) (sym missing);
      others = others;
    };
  }

  -- then it is taken out
  out : TakesOut waiting.order new.order o
  out = record {
    nodes = ap (λ g. g.nodes) passes;
    cut = ap (λ g. g.cut) passes;
    here = ap (λ g. kept_at g o (cut_of old o)) passes ∙ missing;
    others = λ x y apart. ap (λ g. kept_at g x y) passes ∙ sym (others x y apart);
    fewer = (let same = ap (λ g. length g.kept) passes in omega arith);
  }

  waiting-kept : IsKept waiting
  waiting-kept = keeps-kept old waiting o (cut_of old o) b waits fit kept

  pub unkept-admits : Admits old new o (cut_of old o) b
  unkept-admits = (waiting, waits, folds-one waiting new o b waiting-kept ready node_below fewer out folds node stopped)

  pub unkept-kept : IsKept new
  unkept-kept = folds-kept waiting new o b waiting-kept ready node_below fewer out folds node stopped

  pub unkept-sum : sum new.order.cut ≡ sum old.order.cut + 1
  unkept-sum = folds-sum waiting new o b waiting-kept ready node_below fewer out folds node stopped
