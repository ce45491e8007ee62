-- What the first pass of a lock knows once one more of the crew is joined, and which collectors came back.
use Rattle.std.proofs.Common.{◌≡◌, ◌≢◌, ◌||◌, ◌+◌, ◌<◌, ◌≤◌, ◌⊎◌, ◌++◌, ℕ, zero, suc, Bool, true, false, List, [], ◌∷◌, length, append-nil, arith, Option, Some, None, refl, sym, ◌∙◌, ap, subst, inl, inr}
use Rattle.std.specs.Prelude.{IfSome}
use Rattle.std.specs.List.{AllByRecursion}
use Rattle.std.proofs.lemmas.Option.{none-some, same_Some}
use Rattle.history_model.specs.Cluster.{Cluster}
use Rattle.crgc_ids.proofs.MembersLaws.{all-implied}
use Rattle.turn_lock.specs.History.{calls_of, entry}
use Rattle.turn_lock.specs.Known.{Made}
use Rattle.turn_lock.proofs.Calls.{calls_of-append, calls_of_calls, calls_of_calls_of_other}
use Rattle.script_reader.specs.Valid.{Scripted}
use Rattle.run_model.specs.Doing.{cluster_of}
use Rattle.operation_model.specs.declared.operations.Op.TheVariants as ops
use Rattle.operation_model.specs.declared.replies.Reply.{Reply}
use Rattle.operation_model.specs.declared.replies.Reply.TheVariants as replies
use Rattle.operation_model.specs.Turns.{Calls}
use Rattle.collector.specs.Collected.{Collected}
use Rattle.collected_calls.specs.Collecting.{WasToldDown}
use Rattle.collected_calls.proofs.Fitting.{over-neither}
use Rattle.collected_calls.proofs.Following.{follows-other}
use Rattle.cluster_calls.specs.Calling.{IsAsked, IsSame, Knows, last_reply}
use Rattle.node_threads.specs.Collecting.{IsAllCollected, IsDown}
use Rattle.world_object.specs.State.{ClusterState, as_opening}
use Rattle.script_workers.specs.declared.threads.Crew.{Crew}
use Rattle.script_workers.specs.Leading.{HasLed, HasServed, ends_work, has_end}
use Rattle.script_workers.specs.Returned.{AreBack, IsBack, KeepsOne}
use Rattle.script_workers.proofs.Ends.{end-first, end-later}

-- ---- a collector that comes back

or-right : (a b : Bool) → b ≡ true → (a || b) ≡ true
or-right true b is = refl
or-right false b is = is

told-last : (calls : Calls) (n : ℕ) → last_reply calls ≡ Some (replies.Down n) → WasToldDown n calls
told-last [] n last = absurd (none-some (replies.Down n) last)
told-last (e ∷ earlier) n last = inl (same_Some e.reply (replies.Down n) last)

-- one that has collected all, or whose node is down
pub collected-back : (s : Scripted) (old new : Knows) (c : Collected) → IsAllCollected s old new c ⊎ IsDown s new c → IsBack (cluster_of s) new.own c
collected-back s old new c (inl all) = inl all.collector
collected-back s old new c (inr down) = inr (told-last new.own c.node down.last)

-- a question more leaves it so
pub asked-back : (cl : Cluster) (own : Calls) (pass : ℕ) (r : Reply) (c : Collected) → IsBack cl own c → IsBack cl (entry pass ops.Finished r ∷ own) c
asked-back cl own pass r c (inl goes) = inl (follows-other cl own c ops.Finished r pass (over-neither r) goes)
asked-back cl own pass r c (inr told) = inr (inr told)

pub asked-back-if : (cl : Cluster) (own : Calls) (pass : ℕ) (r : Reply) (o : Option Collected) → IfSome o (IsBack cl own) → IfSome o (IsBack cl (entry pass ops.Finished r ∷ own))
asked-back-if cl own pass r None back = tt
asked-back-if cl own pass r (Some c) back = asked-back cl own pass r c back

-- ---- the last question

module _ (lock : Made ClusterState) (old mid new : Knows) (r : Reply) (asked : IsAsked (as_opening lock.start) ops.Finished r mid new) where
  asked-number : new.number ≡ mid.number
  asked-number = ap (λ (p : Knows). p.number) asked.same

  pub asked-calls : calls_of new.number new.own ≡ new.own
  asked-calls = ap (calls_of new.number) (sym asked.calls) ∙ calls_of_calls new.number new.seen ∙ asked.calls

  pub asked-end : has_end mid.own ≡ true → has_end new.own ≡ true
  asked-end found = ap has_end asked.own ∙ or-right (ends_work r) (has_end mid.own) found

  module _ (crew : Crew) (number : ℕ) (c : Option Collected) (served : IsSame old mid) (ended : number < crew.workers → has_end mid.own ≡ true) (back : (let start = lock.start in IfSome c (IsBack (cluster_of start.script) mid.own))) where
    pub has-served : HasServed lock crew number old new c
    has-served = record {
      lock_is = ap (λ (p : Knows). p.origin) asked.same ∙ ap (λ (p : Knows). p.origin) served;
      number_is = asked-number ∙ ap (λ (p : Knows). p.number) served;
      calls = asked-calls;
      ended = λ below. asked-end (ended below);
      back = (
          let start = lock.start in
          subst (λ own. IfSome c (IsBack (cluster_of start.script) own)) (sym asked.own) (asked-back-if (cluster_of start.script) mid.own mid.number r c back)
          );
    }

-- ---- one pass more is joined

module _ (q : ℕ) (own more : Calls) (all_own : calls_of q own ≡ own) where
  other-calls : (p : ℕ) → p ≢ q → calls_of p (own ++ more) ≡ calls_of p more
  other-calls p apart =
      calls_of-append p own more
      ∙ ap (λ (l : Calls). l ++ calls_of p more) (ap (calls_of p) (sym all_own) ∙ calls_of_calls_of_other p q own apart)

  own-calls : calls_of q more ≡ [] → calls_of q (own ++ more) ≡ own
  own-calls none = calls_of-append q own more ∙ (λ i. all_own i ++ none i) ∙ append-nil own

-- what came back stays so
back-more : (cl : Cluster) (q : ℕ) (own more : Calls) → calls_of q own ≡ own → (cs : List Collected) → AreBack cl q more cs
    → (above : ℕ) → above < q → AreBack cl above (own ++ more) cs
back-more cl q own more all_own cs back above below =
    all-implied (λ c. (p : ℕ) × (q < p) × IsBack cl (calls_of p more) c) (λ c. (p : ℕ) × (above < p) × IsBack cl (calls_of p (own ++ more)) c)
    (λ c x. (
    let higher = x.1 in
    let apart : x.0 ≢ q = λ same. omega (arith, same, higher) in
    (x.0, omega (arith, higher, below), subst (λ calls. IsBack cl calls c) (sym (other-calls q own more all_own x.0 apart)) x.2)
    ))
    cs back

-- a list with one item more
pub all-last : {X : Type 0} (P : X → Type 0) (xs : List X) (x : X) → AllByRecursion P xs → P x → AllByRecursion P (xs ++ x ∷ [])
all-last P [] x all here = (here, tt)
all-last P (y ∷ xs) x all here = (all.0, all-last P xs x all.1 here)

kept-back : (cl : Cluster) (above q : ℕ) (gathered own : Calls) → above < q → calls_of q gathered ≡ own → (o : Option Collected) → IfSome o (IsBack cl own)
    → (old new : List Collected) → KeepsOne o old new → AreBack cl above gathered old → AreBack cl above gathered new
kept-back cl above q gathered own below all_own None back old new keeps are = subst (AreBack cl above gathered) (sym keeps) are
kept-back cl above q gathered own below all_own (Some c) back old new (inr keeps) are = subst (AreBack cl above gathered) (sym keeps) are
kept-back cl above q gathered own below all_own (Some c) back old new (inl keeps) are =
    subst (AreBack cl above gathered) (sym keeps)
    (all-last (λ d. (p : ℕ) × (above < p) × IsBack cl (calls_of p gathered) d) old c are (q, below, subst (λ calls. IsBack cl calls c) (sym all_own) back))

module _
    (lock : Made ClusterState) (crew : Crew) (others : ℕ) (old first led ended after : Knows) (cs all : List Collected) (c : Option Collected)
    (first_is : first ≡ record old { split = old.split + 1 })
    (none_later : (p : ℕ) → old.split < p → calls_of p old.gathered ≡ [])
    (has_led : HasLed lock others first led cs)
    (pass : Knows) (pass_is : (pass.number ≡ old.split + 1) × (pass.origin ≡ old.origin))
    (has_served : HasServed lock crew others pass ended c)
    (seen : Calls) (after_is : after ≡ record led { joined = ended.number ∷ led.joined; seen = seen; gathered = ended.own ++ led.gathered })
    (some : 0 < crew.workers)
    (keeps : KeepsOne c cs all)
  where
    abbrev q : ℕ
    q = ended.number

    q-is : q ≡ old.split + 1
    q-is = has_served.number_is ∙ pass_is.0

    first-split : first.split ≡ old.split + 1
    first-split = ap (λ (p : Knows). p.split) first_is

    first-gathered : first.gathered ≡ old.gathered
    first-gathered = ap (λ (p : Knows). p.gathered) first_is

    after-gathered : after.gathered ≡ ended.own ++ led.gathered
    after-gathered = ap (λ (p : Knows). p.gathered) after_is

    after-split : after.split ≡ old.split + 1 + others
    after-split = ap (λ (p : Knows). p.split) after_is ∙ has_led.split ∙ ap (λ n. n + others) first-split

    -- the pass that is joined had no calls before
    none-before : calls_of q led.gathered ≡ []
    none-before =
        let at : q ≤ first.split = omega (arith, q-is, first-split) in
        has_led.before q at ∙ ap (calls_of q) first-gathered ∙ none_later q (omega (arith, q-is))

    own-after : calls_of q after.gathered ≡ ended.own
    own-after = ap (calls_of q) after-gathered ∙ own-calls q ended.own led.gathered has_served.calls none-before

    other-after : (p : ℕ) → p ≢ q → calls_of p after.gathered ≡ calls_of p led.gathered
    other-after p apart = ap (calls_of p) after-gathered ∙ other-calls q ended.own led.gathered has_served.calls p apart

    -- one of the crew is at its end: a worker, the one that is joined or one before
    an-end : has_end after.gathered ≡ true
    an-end = ap has_end after-gathered ∙ by_others others refl
      where
        by_others : (n : ℕ) → n ≡ others → has_end (ended.own ++ led.gathered) ≡ true
        by_others zero is = end-first ended.own led.gathered (has_served.ended (omega (arith, is, some)))
        by_others (suc n) is = end-later ended.own led.gathered (has_led.ended (omega (arith, is)))

    all-back : (let start = lock.start in AreBack (cluster_of start.script) old.split after.gathered all)
    all-back =
        let start = lock.start in
        let cl = cluster_of start.script in
        let before = subst (λ n. AreBack cl n led.gathered cs) (first-split ∙ sym q-is) has_led.back in
        let below : old.split < q = omega (arith, q-is) in
        let more = subst (λ g. AreBack cl old.split g cs) (sym after-gathered) (back-more cl q ended.own led.gathered has_served.calls cs before old.split below) in
        kept-back cl old.split q after.gathered ended.own below own-after c has_served.back cs all keeps more

    pub led-one_more : (count : ℕ) → count ≡ others + 1 → HasLed lock count old after all
    led-one_more count is = record {
      lock_is = ap (λ (p : Knows). p.origin) after_is ∙ has_led.lock_is ∙ ap (λ (p : Knows). p.origin) first_is;
      number = ap (λ (p : Knows). p.number) after_is ∙ has_led.number ∙ ap (λ (p : Knows). p.number) first_is;
      split = (let n = after-split in omega (arith, n, is));
      joined = (
          let n : length after.joined ≡ suc (length led.joined) = ap (λ (p : Knows). length p.joined) after_is in
          let m = has_led.joined in
          let f : length first.joined ≡ length old.joined = ap (λ (p : Knows). length p.joined) first_is in
          omega (arith, n, m, f, is)
          );
      own = ap (λ (p : Knows). p.own) after_is ∙ has_led.own ∙ ap (λ (p : Knows). p.own) first_is;
      ended = λ any. an-end;
      before = λ p at. (
          let apart : p ≢ q = λ same. omega (arith, same, at, q-is) in
          other-after p apart ∙ has_led.before p (omega (arith, at, first-split)) ∙ ap (calls_of p) first-gathered
          );
      none_later = λ p above. (
          let far = after-split in
          let led_split : led.split ≡ after.split = sym (ap (λ (x : Knows). x.split) after_is) in
          let apart : p ≢ q = λ same. omega (arith, same, above, far, q-is) in
          other-after p apart ∙ has_led.none_later p (omega (arith, led_split, above))
          );
      back = all-back;
    }
