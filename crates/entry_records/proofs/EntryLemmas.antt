-- The entry that counts what was noted: what it tells, and the order of its rows.
use Rattle.std.proofs.Common.{◌≡◌, ◌<◌, Bool, List, [], ◌∷◌, map, refl, sym, ◌∙◌, inr}
use Rattle.std.proofs.lemmas.Bool.{cond-false, cond-true}
use Rattle.std.specs.List.{AllByRecursion}
use Rattle.crgc_ids.specs.Actor.{Actor, IsActorBelow, IsPairBelow, same_actor}
use Rattle.crgc_ids.specs.Rising.{IsRising}
use Rattle.crgc_ids.specs.declared.rising.ActorCount.{ActorCount}
use Rattle.crgc_ids.specs.declared.rising.PairCount.{PairCount}
use Rattle.crgc_ids.proofs.ActorLaws.{same_actor-apart}
use Rattle.history_model.specs.declared.records.Entry.{Entry}
use Rattle.history_model.specs.Facts.{Flags, flagged}
use Rattle.history_model.specs.Ledgers.{IsInOrder, actor_total, entry_ledger, pair_total}
use Rattle.history_model.specs.Tells.{AreNotedBy, TellsEntry}
use Rattle.history_model.proofs.Basics.{same_actor-refl}
use Rattle.history_model.proofs.TellsEntries.{entry-tells}
use Rattle.entry_records.specs.Unflushed.{Unflushed, actor_count, facts_noted, pair_count}
use Rattle.entry_records.proofs.CountLemmas.{facts-counted}

-- ---- what one owner gave up

abbrev pub own_row : Actor → ActorCount → PairCount
own_row a r = record { owner = a; target = r.actor; count = r.count }

module _ (a : Actor) where
  own-above : (r : ActorCount) (rows : List ActorCount) → AllByRecursion (λ s. IsActorBelow r.actor s.actor) rows → AllByRecursion (λ s. IsPairBelow a r.actor s.owner s.target) (map (own_row a) rows)
  own-above r [] above = tt
  own-above r (s ∷ rows) above = (inr (refl, above.0), own-above r rows above.1)

  own-rise : (rows : List ActorCount) → IsRising (λ r s. IsActorBelow r.actor s.actor) rows → IsRising (λ r s. IsPairBelow r.owner r.target s.owner s.target) (map (own_row a) rows)
  own-rise [] rise = tt
  own-rise (r ∷ rows) rise = (own-above r rows rise.0, own-rise rows rise.1)

  own-stand : (rows : List ActorCount) → AllByRecursion (λ r. 0 < r.count) rows → AllByRecursion (λ r. 0 < r.count) (map (own_row a) rows)
  own-stand [] stand = tt
  own-stand (r ∷ rows) stand = (stand.0, own-stand rows stand.1)

-- an entry whose rows rise, and of which none counts 0, is in order
pub entry-ordered : (e : Entry) → IsRising (λ r s. IsActorBelow r.actor s.actor) e.sent → IsRising (λ r s. IsPairBelow r.owner r.target s.owner s.target) e.created → IsRising (λ r s. IsActorBelow r.actor s.actor) e.released
    → AllByRecursion (λ r. 0 < r.count) e.sent → AllByRecursion (λ r. 0 < r.count) e.created → AllByRecursion (λ r. 0 < r.count) e.released → IsInOrder (entry_ledger e)
entry-ordered e sent created released sent_stand created_stand released_stand = (
  record { states = (tt, tt); sent = sent; created = created; released = own-rise e.actor e.released released },
  record { sent = sent_stand; created = created_stand; released = own-stand e.actor e.released released_stand },
)

-- ---- what the entry tells

-- what an actor noted is such as it notes
noted-own : (a : Actor) (n : Unflushed) → AreNotedBy a (facts_noted a n)
noted-own a n =
    let counted = facts-counted a n in
    record {
      received = λ b other. counted.received b ∙ cond-false (same_actor b a) n.received 0 (same_actor-apart b a other);
      released = λ b t other. counted.released b t ∙ cond-false (same_actor b a) (actor_count t n.released) 0 (same_actor-apart b a other);
      flags = λ b. counted.flags b;
    }

module _ (a : Actor) (n : Unflushed) (busy root : Bool) (sent : List ActorCount) (created : List PairCount) (released : List ActorCount) where
  abbrev flags : Flags
  flags = record { busy = busy; root = root }

  abbrev the_entry : Entry
  the_entry = record { actor = a; received = n.received; busy = busy; root = root; created = created; sent = sent; released = released }

  -- rows that count what was noted tell it, and the flags
  pub entry-told : ((x : Actor) → actor_total x sent ≡ actor_count x n.sent) → ((b x : Actor) → pair_total b x created ≡ pair_count b x n.created) → ((x : Actor) → actor_total x released ≡ actor_count x n.released)
      → TellsEntry a the_entry (flagged a flags ∷ facts_noted a n)
  entry-told sent_totals created_totals released_totals =
      let counted = facts-counted a n in
      let own = same_actor-refl a in
      entry-tells a the_entry flags (facts_noted a n) (noted-own a n) (record {
        actor = refl;
        busy = refl;
        root = refl;
        received = sym (counted.received a ∙ cond-true (same_actor a a) n.received 0 own);
        sent = λ x. sent_totals x ∙ sym (counted.sent x);
        created = λ b x. created_totals b x ∙ sym (counted.created b x);
        released = λ x. released_totals x ∙ sym (counted.released a x ∙ cond-true (same_actor a a) (actor_count x n.released) 0 own);
      })
