-- The acts of turns are legal: what is due next in a busy actor's turn breaks no rule.
use Rattle.std.proofs.Common.{◌≡◌, ◌≤◌, ◌<◌, ◌==◌, ℕ, true, false, not, if◌then◌else◌, List, [], ◌∷◌, ◌++◌, map, Option, Some, None, refl, ap, subst, arith, inl, inr, IsTrue, ◌&&◌, nat_lt}
use Rattle.std.specs.List.{sum_by}
use Rattle.std.proofs.lemmas.Bool.{false≢true, lt-ltb, ne_eqb}
use Rattle.crgc_ids.specs.Actor.{Actor, same_actor}
use Rattle.crgc_ids.specs.Members.{IsAmong}
use Rattle.history_model.specs.declared.events.Event.{Event}
use Rattle.history_model.specs.declared.events.Event.TheVariants.{Wake, Take, Spawn, Send, Drop, Retire, Rest}
use Rattle.history_model.specs.declared.events.Rule.TheVariants.{NoActor, Idle, NotHeld}
use Rattle.history_model.specs.Tally.{tally}
use Rattle.history_model.specs.Cluster.{Cluster, is_born}
use Rattle.history_model.specs.Messages.{Message, mail, taken}
use Rattle.history_model.specs.Held.{carried, held}
use Rattle.history_model.specs.Facts.{is_created}
use Rattle.history_model.specs.Legal.{Check, check, checks, born_all, first_broken, gives_up_parent, held_all, is_parent, node_up, refusal, IsLegal}
use Rattle.history_model.specs.State.{is_busy, is_up}
use Rattle.history_model.proofs.AccountsBirths.{born-grows, noted-born}
use Rattle.history_model.proofs.AccountsMail.{mail-sent}
use Rattle.history_model.proofs.AccountsNotes.{created-noted}
use Rattle.history_model.proofs.Basics.{AreKept, legal-kept, same_actor-equal}
use Rattle.history_model.proofs.FoldSumsKnown.{created-names}
use Rattle.history_model.proofs.SoundnessBounds.{taken-carried}
use Rattle.history_model.proofs.SoundnessSums.{carried-sum}
use Rattle.behaviour_lang.specs.Steps.{Left, due_act}
use Rattle.behaviour_lang.specs.declared.act.Act.{Act}
use Rattle.behaviour_lang.specs.declared.act.Act.TheVariants as acts
use Rattle.script_reader.specs.Valid.{Scripted}
use Rattle.run_model.specs.Doing.{cluster_of, doing, due, event_of}
use Rattle.run_model.proofs.HeldNames.{AllHold, HoldsNames}
use Rattle.run_model.proofs.NextLaws.{naming, one_if}
use Rattle.run_model.proofs.TurnLaws.{drop-named, retire-root, send-named}

-- what is held is born
held-born : (cl : Cluster) (h : List Event) → IsLegal cl h → (b a : Actor) → 0 < held cl b a h → IsTrue (is_born a h)
held-born cl h legal b a some =
    let weight : Message → ℕ = λ m. tally (same_actor a) m.refs in
    let noted = created-noted cl h (λ _. true) b a refl in
    let in_mail : carried a (taken b h) ≤ sum_by weight (mail b h) = omega (arith, taken-carried b a h, carried-sum a (mail b h)) in
    let found = noted-born cl h legal (λ x. is_created b a x.fact) (omega (arith, some, noted, in_mail, mail-sent cl h legal b weight)) in
    found.2.1 a (created-names b a found.0.fact found.1).1

-- who is busy is born
pub busy-born : (cl : Cluster) (h : List Event) → IsLegal cl h → (a : Actor) → is_busy a h ≡ true → IsTrue (is_born a h)
busy-born cl [] legal a busy = absurd (false≢true busy)
busy-born cl (Wake b ∷ p) legal a busy =
    elim (same_actor b a) as (λ v. same_actor b a ≡ v → (if v then true else is_busy a p) ≡ true → IsTrue (is_born a (Wake b ∷ p))) [
      | true ↦ λ same _. subst (λ x. IsTrue (is_born x (Wake b ∷ p))) (same_actor-equal b a same) (legal-kept cl (Wake b) p legal).0
      | false ↦ λ _ before. busy-born cl p legal.1 a before
    ] refl busy
busy-born cl (Take b ∷ p) legal a busy =
    elim (same_actor b a) as (λ v. same_actor b a ≡ v → (if v then true else is_busy a p) ≡ true → IsTrue (is_born a (Take b ∷ p))) [
      | true ↦ λ same _. subst (λ x. IsTrue (is_born x (Take b ∷ p))) (same_actor-equal b a same) (legal-kept cl (Take b) p legal).0
      | false ↦ λ _ before. busy-born cl p legal.1 a before
    ] refl busy
busy-born cl (Rest b ∷ p) legal a busy =
    elim (same_actor b a) as (λ v. (if v then false else is_busy a p) ≡ true → IsTrue (is_born a (Rest b ∷ p))) [
      | true ↦ λ none. absurd (false≢true none)
      | false ↦ λ before. busy-born cl p legal.1 a before
    ] busy
busy-born cl (e ∷ p) legal a busy = born-grows a (e ∷ []) p (busy-born cl p legal.1 a busy)

-- ---- rules

pub none-broken : (cs : List Check) → AreKept cs → first_broken cs ≡ None
none-broken [] kept = refl
none-broken (c ∷ cs) kept = rw kept.0 (none-broken cs kept.1)

kept-append : (xs ys : List Check) → AreKept xs → AreKept ys → AreKept (xs ++ ys)
kept-append [] ys first rest = rest
kept-append (x ∷ xs) ys first rest = (first.0, kept-append xs ys first.1 rest)

kept-map : {A : Type 0} (rule : A → Check) (xs : List A) → ((x : A) → IsAmong x xs → (rule x).kept ≡ true) → AreKept (map rule xs)
kept-map rule [] each = tt
kept-map rule (x ∷ xs) each = (each x (inl refl), kept-map rule xs (λ y among. each y (inr among)))

module _ (s : Scripted) (a : Actor) (h : List Event) (legal : IsLegal (cluster_of s) h) (born : IsTrue (is_born a h)) (busy : is_busy a h ≡ true) (up : is_up a.node h ≡ true) where
  -- whoever is named is held, and born
  named-held : (l : Left) → HoldsNames (cluster_of s) a l h → (t : Actor) → 0 < naming t l.names → 0 < held (cluster_of s) a t h
  named-held l holds t named = (let more = holds.held t in omega (arith, named, more))

  named-born : (l : Left) → HoldsNames (cluster_of s) a l h → (t : Actor) → 0 < naming t l.names → IsTrue (is_born t h)
  named-born l holds t named = held-born (cluster_of s) h legal a t (named-held l holds t named)

  send-legal : (l : Left) → HoldsNames (cluster_of s) a l h → (t : Actor) (refs : List Actor) → due_act l ≡ Some (acts.Send t refs) → refusal (cluster_of s) (Send a t refs) h ≡ None
  send-legal l holds t refs next =
      let named = λ (x : Actor). send-named l t x refs next in
      let rules : List Check = node_up a.node h ∷ check Idle (is_busy a h) ∷ held_all (cluster_of s) a (t ∷ refs) h in
      none-broken (born_all (a ∷ t ∷ refs) h ++ rules)
      (kept-append (born_all (a ∷ t ∷ refs) h) rules
      (born, kept-map (λ x. check NoActor (is_born x h)) (t ∷ refs) (λ x among. named-born l holds x (named x among)))
      (up, (busy, kept-map (λ x. check NotHeld (nat_lt 0 (held (cluster_of s) a x h))) (t ∷ refs) (λ x among. lt-ltb 0 (held (cluster_of s) a x h) (named-held l holds x (named x among))))))

  drop-legal : (l : Left) → HoldsNames (cluster_of s) a l h → (t : Actor) → due_act l ≡ Some (acts.Drop t) → refusal (cluster_of s) (Drop a t) h ≡ None
  drop-legal l holds t next =
      let cl = cluster_of s in
      let named = drop-named l t next in
      let keeps : not (gives_up_parent cl a t h) ≡ true = elim (is_parent t a h) as (λ v. is_parent t a h ≡ v → not (v && (held cl a t h == 1)) ≡ true) [
        | true ↦ λ parent. (let more = holds.held t in let one = ap one_if parent in let others : held cl a t h ≡ 1 → ⊥ = λ e. omega (arith, named, more, one, e) in rw (ne_eqb (held cl a t h) 1 others) refl)
        | false ↦ λ _. refl
      ] refl in
      none-broken (checks cl (Drop a t) h) (born, (named-born l holds t named, (up, (busy, (lt-ltb 0 (held cl a t h) (named-held l holds t named), (keeps, tt))))))

  act-legal : (l : Left) → HoldsNames (cluster_of s) a l h → (v : Option Act) → due_act l ≡ v → refusal (cluster_of s) (event_of a v) h ≡ None
  act-legal l holds None next = none-broken (checks (cluster_of s) (Rest a) h) (born, (up, (busy, tt)))
  act-legal l holds (Some (acts.Spawn b)) next = none-broken (checks (cluster_of s) (Spawn a) h) (born, (up, (busy, tt)))
  act-legal l holds (Some (acts.Send t refs)) next = send-legal l holds t refs next
  act-legal l holds (Some (acts.Drop t)) next = drop-legal l holds t next
  act-legal l holds (Some acts.Retire) next = none-broken (checks (cluster_of s) (Retire a) h) (born, (up, (holds.root (retire-root l next).0, (busy, tt))))

-- what is due next in the turn of a busy actor, on a node that is up, is legal
pub due-legal : (s : Scripted) (a : Actor) (h : List Event) → IsLegal (cluster_of s) h → AllHold s h → is_busy a h ≡ true → is_up a.node h ≡ true → refusal (cluster_of s) (due s a h) h ≡ None
due-legal s a h legal all busy up =
    let born = busy-born (cluster_of s) h legal a busy in
    let d = doing s a h in
    act-legal s a h legal born busy up d.turn (all a born) (due_act d.turn) refl
