-- Sums over a history, and the moments up to which it is told. A note counts as told where the position of its event
-- is below a number that depends on the actor in whose log it is noted.
use Rattle.std.proofs.Common.{◌+◌, ◌&&◌, ℕ, Bool, List, [], ◌∷◌, ◌++◌, length}
use Rattle.std.specs.Prelude.{◌==◌, nat_lt, Option, Some, None, if◌then◌else◌}
use Rattle.crgc_ids.specs.Actor.{Actor}
use Rattle.history_model.specs.declared.events.Event.{Event}
use Rattle.history_model.specs.declared.events.Event.TheVariants.{Send, Flush, Publish}
use Rattle.history_model.specs.Tally.{tally}
use Rattle.history_model.specs.Cluster.{Cluster, same_actor}
use Rattle.history_model.specs.Messages.{Message}
use Rattle.history_model.specs.Facts.{Flags, Note, notes}
use Rattle.history_model.specs.Streams.{flags_at, stream}

-- all messages sent, in order
abbrev pub all_sent : List Event → List Message
all_sent [] = []
all_sent (Send f t refs ∷ p) = all_sent p ++ record { from = f; to = t; refs = refs } ∷ []
all_sent (_ ∷ p) = all_sent p

-- how many notes of the history pass the test
abbrev pub noted_sum : Cluster → (Note → Bool) → List Event → ℕ
noted_sum cl test [] = 0
noted_sum cl test (e ∷ p) = noted_sum cl test p + tally test (notes cl e p)

-- how many of them are told, where what a noted is told below position u a
abbrev pub told_sum : Cluster → (Actor → ℕ) → (Note → Bool) → List Event → ℕ
told_sum cl u test [] = 0
told_sum cl u test (e ∷ p) = told_sum cl u test p + tally (λ n. nat_lt (length p) (u n.by) && test n) (notes cl e p)

-- the position of the last publish of o among the first n bulletins of its stream
abbrev pub publish_horizon : Cluster → ℕ → ℕ → List Event → ℕ
publish_horizon cl o n [] = 0
publish_horizon cl o n (Publish m ∷ p) =
    if (m == o) && nat_lt (length (stream cl o p)) n then length p else publish_horizon cl o n p
publish_horizon cl o n (_ ∷ p) = publish_horizon cl o n p

-- the position of the last flush of a before position t
abbrev pub flush_horizon : Actor → ℕ → List Event → ℕ
flush_horizon a t [] = 0
flush_horizon a t (Flush b ∷ p) = if same_actor b a && nat_lt (length p) t then length p else flush_horizon a t p
flush_horizon a t (_ ∷ p) = flush_horizon a t p

-- the flags of a at its last flush before position t
abbrev pub horizon_flags : Actor → ℕ → List Event → Option Flags
horizon_flags a t [] = None
horizon_flags a t (Flush b ∷ p) = if same_actor b a && nat_lt (length p) t then Some (flags_at a p) else horizon_flags a t p
horizon_flags a t (_ ∷ p) = horizon_flags a t p

-- below which position what a noted is told, where the first c bulletins of each stream are folded
abbrev pub told_horizon : Cluster → (ℕ → ℕ) → List Event → Actor → ℕ
told_horizon cl c h a = flush_horizon a (publish_horizon cl a.node (c a.node) h) h
