-- What the core of soundness stands on: a history, a set of actors, and the positions below which what actors noted is
-- told. Every moment of the history is judged with these; `SoundnessBounds` gives what they bound there.
use Rattle.std.proofs.Common.{◌≡◌, ◌<◌, ◌≤◌, ◌+◌, ◌&&◌, ◌⊎◌, ℕ, Bool, false, not, cond, List, ◌++◌, length, sum_by, sym, subst, arith}
use Rattle.crgc_ids.specs.Actor.{Actor}
use Rattle.crgc_ids.specs.Members.{IsAmong}
use Rattle.history_model.specs.declared.events.Event.{Event}
use Rattle.history_model.specs.Cluster.{Cluster}
use Rattle.history_model.specs.Messages.{Message, mail, takes}
use Rattle.history_model.specs.Facts.{Note, is_received, is_sent_to, is_created, is_released}
use Rattle.history_model.specs.Held.{gave}
use Rattle.history_model.proofs.Sums.{noted_sum, told_sum}
use Rattle.history_model.proofs.AccountsNotes.{carries_from, released-noted, received-noted}
use Rattle.history_model.proofs.FoldSumsNotes.{AreToldBelow, told-noted, told-below, noter-received, noter-released}
use Rattle.history_model.proofs.States.{IsAtRest}

-- ---- the notes that are counted

abbrev pub is_receipt : Actor → Note → Bool
is_receipt a x = is_received a x.fact

abbrev pub is_release : Actor → Actor → Note → Bool
is_release b a x = is_released b a x.fact

-- a message to a, noted on a node that is not lost
abbrev pub is_sending : (ℕ → Bool) → Actor → Note → Bool
is_sending lost a x = not (lost x.by.node) && is_sent_to a x.fact

-- a reference to a for b, noted on a node that is not lost
abbrev pub is_creation : (ℕ → Bool) → Actor → Actor → Note → Bool
is_creation lost b a x = not (lost x.by.node) && is_created b a x.fact

-- 1 for a message from a lost node
abbrev pub counts_lost : (ℕ → Bool) → Message → ℕ
counts_lost lost m = cond (lost m.from.node) 1 0

-- ---- premises

-- the members are at rest where they are told up to; they received as much as was told or admitted for them; and whoever
-- was given more references to a member than it is told to have released is a member
pub record IsToldSet (cl : Cluster) (h : List Event) (lost : ℕ → Bool) (u : Actor → ℕ) (members : List Actor) : Type 0 where
  pub placed : (a : Actor) → IsAmong a members → lost a.node ≡ false
  pub at_horizon : (a : Actor) → IsAmong a members → (q p : List Event) → h ≡ q ++ p → length p ≡ u a → IsAtRest a p
  pub within : (b : Actor) → u b ≤ length h
  pub balanced : (a : Actor) → IsAmong a members → told_sum cl u (is_receipt a) h ≡ told_sum cl u (is_sending lost a) h + sum_by (counts_lost lost) (mail a h)
  pub holders : (b a : Actor) → IsAmong a members → b.node < cl.nodes → lost b.node ≡ false → IsAmong b members ⊎ (told_sum cl u (is_creation lost b a) h + sum_by (carries_from lost a) (mail b h) ≤ told_sum cl u (is_release b a) h)

-- ---- moments

-- what holds at the moment p of the history: members past their horizons are at rest, and all that gave access to members
-- until then, noted on nodes that are not lost, is told
pub record AreTold (cl : Cluster) (lost : ℕ → Bool) (u : Actor → ℕ) (members : List Actor) (p : List Event) : Type 0 where
  pub rest : (a : Actor) → IsAmong a members → u a ≤ length p → IsAtRest a p
  pub sendings : (a : Actor) → IsAmong a members → told_sum cl u (is_sending lost a) p ≡ noted_sum cl (is_sending lost a) p
  pub creations : (b a : Actor) → IsAmong a members → told_sum cl u (is_creation lost b a) p ≡ noted_sum cl (is_creation lost b a) p

-- past its horizon, an actor took all that it is told to have received
pub received-below : (cl : Cluster) (u : Actor → ℕ) (a : Actor) (q p : List Event) → u a ≤ length p → told_sum cl u (is_receipt a) (q ++ p) ≤ takes a p
received-below cl u a q p past =
    let past_all : AreToldBelow cl u (is_receipt a) (length p) = λ e r x among test. subst (λ b. u b ≤ length p) (sym (noter-received cl e r a x among test)) past in
    let same = told-below cl u (is_receipt a) q p past_all in
    omega (arith, same, told-noted cl u (is_receipt a) p, received-noted cl p a)

-- and gave up all that it is told to have released
pub released-below : (cl : Cluster) (u : Actor → ℕ) (b a : Actor) (q p : List Event) → u b ≤ length p → told_sum cl u (is_release b a) (q ++ p) ≤ gave b a p
released-below cl u b a q p past =
    let past_all : AreToldBelow cl u (is_release b a) (length p) = λ e r x among test. subst (λ c. u c ≤ length p) (sym (noter-released cl e r b a x among test)) past in
    let same = told-below cl u (is_release b a) q p past_all in
    omega (arith, same, told-noted cl u (is_release b a) p, released-noted cl p b a)
