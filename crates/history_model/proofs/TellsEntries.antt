-- An actor's log tells of what it took and gave up itself, so its entry may leave out whose these are.
use Rattle.std.proofs.Common.{◌≡◌, ◌≢◌, ◌+◌, ◌&&◌, Bool, true, false, cond, List, [], ◌∷◌, map, refl, sym, ◌∙◌, ap, ap₂, inl, inr, arith}
use Rattle.std.proofs.lemmas.Bool.{cases_Bool, cond-false, cond-true, false_from_ne_true, false≢true}
use Rattle.std.proofs.lemmas.List.Sums.{sum_by-cons}
use Rattle.std.specs.Prelude.{None, Some, unwrap_or}
use Rattle.crgc_ids.specs.Actor.{Actor, same_actor}
use Rattle.crgc_ids.specs.Members.{IsAmong}
use Rattle.crgc_ids.specs.declared.rising.ActorCount.{ActorCount}
use Rattle.crgc_ids.specs.declared.rising.PairCount.{PairCount}
use Rattle.history_model.specs.declared.events.Event.{Event}
use Rattle.history_model.specs.declared.records.Entry.{Entry}
use Rattle.history_model.specs.declared.records.StateRow.{StateRow}
use Rattle.history_model.specs.Cluster.{Cluster}
use Rattle.history_model.specs.Tally.{tally}
use Rattle.history_model.specs.Facts.{Fact, Flags, Note, flagged, is_received, is_released, notes}
use Rattle.history_model.specs.Graph.{last_flags}
use Rattle.history_model.specs.Ledgers.{actor_total, entry_ledger, pair_total, received_total, row_flags}
use Rattle.history_model.specs.Streams.{facts_by, is_flush_of, log}
use Rattle.history_model.specs.Tells.{AreNotedBy, CountsLog, TellsEntry}
use Rattle.history_model.proofs.Basics.{same_actor-equal, same_actor-refl, same_actor-sym}
use Rattle.history_model.proofs.FoldSumsFlags.{log-unflagged}
use Rattle.history_model.proofs.FoldSumsLogs.{log-flushed, log-next}
use Rattle.history_model.proofs.FoldSumsNotes.{noter-received, noter-released}
use Rattle.history_model.proofs.Lists.{tally-append}

-- ---- logs

-- where only another actor notes what passes, nothing in the log does
facts_by-none : (test : Fact → Bool) (a b : Actor) (ns : List Note) → ((x : Note) → IsAmong x ns → test x.fact ≡ true → x.by ≡ b) → b ≢ a → tally test (facts_by a ns) ≡ 0
facts_by-none test a b [] by other = refl
facts_by-none test a b (x ∷ ns) by other =
    let later = facts_by-none test a b ns (λ y m. by y (inr m)) other in
    let Goal : Bool → Type 0 = λ v. same_actor x.by a ≡ v → tally test (cond v (x.fact ∷ facts_by a ns) (facts_by a ns)) ≡ 0 in
    let goal : Goal (same_actor x.by a) = elim (same_actor x.by a) as Goal [
      | true ↦ λ mine. (
          let fails = false_from_ne_true (test x.fact) (λ t. other (sym (by x (inl refl) t) ∙ same_actor-equal x.by a mine)) in
          ap (λ v. cond v (tally test (facts_by a ns) + 1) (tally test (facts_by a ns))) fails ∙ later
          )
      | false ↦ λ _. later
    ] in
    goal refl

log-none : (cl : Cluster) (test : Fact → Bool) (a b : Actor) → ((e : Event) (p : List Event) (x : Note) → IsAmong x (notes cl e p) → test x.fact ≡ true → x.by ≡ b) → b ≢ a → (h : List Event) → tally test (log cl a h) ≡ 0
log-none cl test a b by other [] = refl
log-none cl test a b by other (e ∷ p) =
    elim (cases_Bool (is_flush_of a e)) [
      | inl flush ↦ ap (tally test) (log-flushed cl a e p flush).0
      | inr none ↦ (
          let before = log-none cl test a b by other p in
          let here = facts_by-none test a b (notes cl e p) (by e p) other in
          let next = ap (tally test) (log-next cl a e p none) in
          omega (arith, next, tally-append test (log cl a p) (facts_by a (notes cl e p)), before, here)
          )
    ]

pub log-noted : (cl : Cluster) (a : Actor) (h : List Event) → AreNotedBy a (log cl a h)
log-noted cl a h = record {
  received = λ b other. log-none cl (is_received b) a b (λ e p. noter-received cl e p b) other h;
  released = λ b t other. log-none cl (is_released b t) a b (λ e p. noter-released cl e p b t) other h;
  flags = λ b. log-unflagged cl b a h;
}

-- ---- entries

-- what an entry says was given up, its actor gave up
owned : (b o t : Actor) (rows : List ActorCount) → pair_total b t (map (λ r. record { owner = o; target = r.actor; count = r.count }) rows) ≡ cond (same_actor b o) (actor_total t rows) 0
owned b o t [] = elim (same_actor b o) as (λ v. pair_total b t [] ≡ cond v 0 0) [ true ↦ refl | false ↦ refl ]
owned b o t (r ∷ rows) =
    let later = owned b o t rows in
    let rest : List PairCount = map (λ x. record { owner = o; target = x.actor; count = x.count }) rows in
    let first : PairCount = record { owner = o; target = r.actor; count = r.count } in
    let whole = sum_by-cons (λ x. cond (same_actor b x.owner && same_actor t x.target) x.count 0) first rest in
    let part = sum_by-cons (λ x. cond (same_actor t x.actor) x.count 0) r rows in
    elim (cases_Bool (same_actor b o)) [
      | inl same ↦ (
          let row = ap (λ v. cond (v && same_actor t r.actor) r.count 0) same in
          let tail = ap (λ v. cond v (actor_total t rows) 0) same in
          let all = ap (λ v. cond v (actor_total t (r ∷ rows)) 0) same in
          omega arith
          )
      | inr other ↦ (
          let row = ap (λ v. cond (v && same_actor t r.actor) r.count 0) other in
          let tail = ap (λ v. cond v (actor_total t rows) 0) other in
          let all = ap (λ v. cond v (actor_total t (r ∷ rows)) 0) other in
          omega arith
          )
    ]

module _ (a : Actor) (e : Entry) (g : Flags) (facts : List Fact) (noted : AreNotedBy a facts) (counts : CountsLog a e g facts) where
  apart : (b : Actor) → same_actor b e.actor ≡ false → b ≢ a
  apart b other same = false≢true (sym other ∙ ap₂ same_actor same counts.actor ∙ same_actor-refl a)

  mine : (b : Actor) → same_actor b e.actor ≡ true → a ≡ b
  mine b same = sym (same_actor-equal b e.actor same ∙ counts.actor)

  took : (b : Actor) → received_total b (entry_ledger e).states ≡ tally (is_received b) facts
  took b =
      let row = sum_by-cons {X = StateRow} (λ r. cond (same_actor b r.actor) r.received 0) (record { actor = e.actor; received = e.received; busy = e.busy; root = e.root }) [] in
      elim (cases_Bool (same_actor b e.actor)) [
        | inl same ↦ (
            let here = cond-true (same_actor b e.actor) e.received 0 same in
            let told = counts.received ∙ ap (λ c. tally (is_received c) facts) (mine b same) in
            omega (arith, row, here, told)
            )
        | inr other ↦ (
            let here = cond-false (same_actor b e.actor) e.received 0 other in
            let none = noted.received b (apart b other) in
            omega (arith, row, here, none)
            )
      ]

  gave_up : (b t : Actor) → pair_total b t (entry_ledger e).released ≡ tally (is_released b t) facts
  gave_up b t =
      let all = owned b e.actor t e.released in
      elim (cases_Bool (same_actor b e.actor)) [
        | inl same ↦ all ∙ cond-true (same_actor b e.actor) (actor_total t e.released) 0 same ∙ counts.released t ∙ ap (λ c. tally (is_released c t) facts) (mine b same)
        | inr other ↦ all ∙ cond-false (same_actor b e.actor) (actor_total t e.released) 0 other ∙ sym (noted.released b t (apart b other))
      ]

  has_flags : (b : Actor) → row_flags b (entry_ledger e).states ≡ last_flags b (flagged a g ∷ facts)
  has_flags b =
      let same_flags : (f : Flags) → f ≡ record { busy = e.busy; root = e.root } → f ≡ g = λ f q. q ∙ (λ i. record { busy = counts.busy i; root = counts.root i }) in
      let one : row_flags b (entry_ledger e).states ≡ cond (same_actor b a) (Some g) None =
      ap₂ (λ c f. cond (same_actor b c) (Some f) None) counts.actor (same_flags (record { busy = e.busy; root = e.root }) refl) in
      one ∙ ap (λ v. cond v (Some g) None) (same_actor-sym b a)
      ∙ ap (λ o. cond (same_actor a b) (Some (unwrap_or o g)) o) (sym (noted.flags b))

  pub entry-tells : TellsEntry a e (flagged a g ∷ facts)
  entry-tells = (
    counts.actor,
    record { received = took; flags = has_flags; sent = counts.sent; created = counts.created; released = gave_up },
  )
