-- Each step of a round only adds: where a history goes on after a past with an event, it does so after the step.
use Rattle.std.proofs.Common.{◌≡◌, ℕ, List, ◌∷◌, None, ap}
use Rattle.history_model.specs.declared.events.Event.{Event}
use Rattle.history_model.specs.declared.events.Event.TheVariants.{Flush, Publish, Window, Remove, Hand, Sweep}
use Rattle.history_model.specs.Cluster.{Cluster}
use Rattle.run_model.specs.Round.{flushed, flushed_on, flushes, handed, handed_from, hands, published, sweeps, tried, windows}
use Rattle.run_model.proofs.RoundSteps.{Keeps, actor_of, each-keeps, flushed-keeps, flushed_on-keeps, flushes-keep, handed-keeps, handed_from-keeps, hands-keep, published-keeps, sweeps-keep, tried-keeps, windows-keep}
use Rattle.cluster_round.specs.Steps.{handed_to, removals_at, windows_at}
use Rattle.cluster_round.proofs.Staging.{GoesOn, OnlyAdds}

more : (e : Event) (past : List Event) (cl : Cluster) (f : Event) → Keeps (GoesOn e past) cl f
more e past cl f h none on = (f ∷ on.0, ap (λ x. f ∷ x) on.1)

module _ (cl : Cluster) where
  pub tried-adds : (e : Event) (past : List Event) (f : Event) (h : List Event) → GoesOn e past h → GoesOn e past (tried cl f h)
  tried-adds e past f h = tried-keeps (GoesOn e past) cl f h (more e past cl f h)

  pub remove-adds : (m : ℕ) → OnlyAdds (λ n. tried cl (Remove m n))
  remove-adds m e past n h = tried-adds e past (Remove m n) h

  pub removals_at-adds : OnlyAdds (removals_at cl)
  removals_at-adds e past m h = each-keeps (GoesOn e past) (λ n. tried cl (Remove m n)) (λ n g. remove-adds m e past n g) cl.nodes h

  pub window-adds : (m : ℕ) → OnlyAdds (λ s. tried cl (Window m s))
  window-adds m e past s h = tried-adds e past (Window m s) h

  pub windows_at-adds : OnlyAdds (windows_at cl)
  windows_at-adds e past m h = each-keeps (GoesOn e past) (λ s. tried cl (Window m s)) (λ s g. window-adds m e past s g) cl.nodes h

  pub windows-add : (e : Event) (past h : List Event) → GoesOn e past h → GoesOn e past (windows cl h)
  windows-add e past h = windows-keep (GoesOn e past) cl (λ m s. more e past cl (Window m s)) h

  pub published-adds : (m before : ℕ) (e : Event) (past h : List Event) → GoesOn e past h → GoesOn e past (published cl m before h)
  published-adds m before e past h = published-keeps (GoesOn e past) cl m (more e past cl (Publish m)) before h

  pub flushed-adds : (m before : ℕ) → OnlyAdds (flushed cl m before)
  flushed-adds m before e past s h = flushed-keeps (GoesOn e past) cl m (more e past cl (Publish m)) (λ k. more e past cl (Flush (actor_of m k))) before s h

  pub flushed_on-adds : OnlyAdds (flushed_on cl)
  flushed_on-adds e past m h = flushed_on-keeps (GoesOn e past) cl m (more e past cl (Publish m)) (λ k. more e past cl (Flush (actor_of m k))) h

  pub flushes-add : (e : Event) (past h : List Event) → GoesOn e past h → GoesOn e past (flushes cl h)
  flushes-add e past h = flushes-keep (GoesOn e past) cl (λ a. more e past cl (Flush a)) (λ m. more e past cl (Publish m)) h

  pub handed-adds : (m o : ℕ) → OnlyAdds (handed cl m o)
  handed-adds m o e past k h = handed-keeps (GoesOn e past) cl (λ x y z. more e past cl (Hand x y z)) m o k h

  pub handed_from-adds : (m : ℕ) → OnlyAdds (handed_from cl m)
  handed_from-adds m e past o h = handed_from-keeps (GoesOn e past) cl (λ x y z. more e past cl (Hand x y z)) m o h

  pub handed_to-adds : OnlyAdds (handed_to cl)
  handed_to-adds e past m h = each-keeps (GoesOn e past) (handed_from cl m) (λ o g. handed_from-adds m e past o g) cl.nodes h

  pub hands-add : (e : Event) (past h : List Event) → GoesOn e past h → GoesOn e past (hands cl h)
  hands-add e past h = hands-keep (GoesOn e past) cl (λ x y z. more e past cl (Hand x y z)) h

  pub sweep-adds : OnlyAdds (λ m. tried cl (Sweep m))
  sweep-adds e past m h = tried-adds e past (Sweep m) h

  pub sweeps-add : (e : Event) (past h : List Event) → GoesOn e past h → GoesOn e past (sweeps cl h)
  sweeps-add e past h = sweeps-keep (GoesOn e past) cl (λ m. more e past cl (Sweep m)) h
