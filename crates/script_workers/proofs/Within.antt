-- A course of a new cluster passes no limit.
use Rattle.std.proofs.Common.{◌≡◌, ◌==◌, ◌+◌, ◌<◌, ◌≤◌, ℕ, suc, Bool, true, false, cond, nat_le, List, [], ◌∷◌, length, map, Option, Some, None, refl, sym, ◌∙◌, ap, subst, arith, inl, inr}
use Rattle.std.proofs.lemmas.Bool.Decides.{nat_tests}
use Rattle.history_model.specs.declared.events.Event.{Event}
use Rattle.history_model.specs.declared.events.Event.TheVariants.{Seed, Spawn}
use Rattle.history_model.specs.Cluster.{Cluster, births}
use Rattle.history_model.specs.Rows.{onto}
use Rattle.journal_model.specs.Limits.{limit_passed}
use Rattle.script_reader.specs.Valid.{IsScript, Scripted}
use Rattle.script_reader.specs.declared.script.Seed.{Seed as SeedRow}
use Rattle.script_reader.specs.declared.script.Tie.{Tie as TieRow}
use Rattle.run_model.specs.Doing.{beginning, cluster_of, tie_of}
use Rattle.run_model.specs.Schedule.{IsWithinLimits}
use Rattle.operation_model.specs.declared.operations.Op.{Op}
use Rattle.operation_model.specs.declared.replies.Halt.{Halt}
use Rattle.operation_model.specs.declared.replies.Halt.TheVariants.{Limit, Memory}
use Rattle.operation_model.specs.declared.replies.Reply.{Reply}
use Rattle.operation_model.specs.declared.replies.Reply.TheVariants as replies
use Rattle.operation_model.specs.Answers.{IsCourse, IsReply, MayFollow}
use Rattle.operation_model.specs.Courses.{events_by, halt_at, world}
use Rattle.operation_model.specs.Deeds.{deed_of}
use Rattle.operation_model.specs.Openings.{IsNew, Opening}
use Rattle.operation_model.specs.Turns.{Calls}
use Rattle.operation_model.proofs.CourseLaws.{halted-quiet}

-- ---- the beginning

-- no more actors are born than there are events
births-short : (n : ℕ) (h : List Event) → births n h ≤ length h
births-short n [] = omega arith
births-short n (Seed m ∷ p) = one-more (m == n) (births-short n p)
  where
    one-more : (b : Bool) → births n p ≤ length p → cond b (births n p + 1) (births n p) ≤ suc (length p)
    one-more true few = omega (arith, few)
    one-more false few = omega (arith, few)
births-short n (Spawn a ∷ p) = one-more (a.node == n) (births-short n p)
  where
    one-more : (b : Bool) → births n p ≤ length p → cond b (births n p + 1) (births n p) ≤ suc (length p)
    one-more true few = omega (arith, few)
    one-more false few = omega (arith, few)
births-short n (e ∷ p) = (let few = births-short n p in omega (arith, few))

-- a short history is far from its limits
abbrev IsShort : List Event → Type 0
IsShort h = length h < 10000

seed-within : (cl : Cluster) (n : ℕ) (h : List Event) → IsShort h → limit_passed cl (Seed n) h ≡ None
seed-within cl n h short =
    let few = births-short n h in
    let below : births n h < 262144 = omega (arith, few, short) in
    let actors : nat_le 262144 (births n h) ≡ false = grind (arith, nat_tests, below) in
    let events : nat_le 1000000 (length h) ≡ false = grind (arith, nat_tests, short) in
    rw (actors, events) refl

tie-within : (s : Scripted) (cl : Cluster) (t : TieRow) (h : List Event) → IsShort h → limit_passed cl (tie_of s t) h ≡ None
tie-within s cl t h short = (let events : nat_le 1000000 (length h) ≡ false = grind (arith, nat_tests, short) in rw events refl)

onto-within : {A : Type 0} (cl : Cluster) (f : A → Event) → ((x : A) (h : List Event) → IsShort h → limit_passed cl (f x) h ≡ None) → (xs : List A) (h : List Event)
    → length h + length xs < 10000 → IsWithinLimits cl h → IsWithinLimits cl (onto h (map f xs)) × (length (onto h (map f xs)) ≡ length h + length xs)
onto-within cl f passes [] h short within = (within, omega arith)
onto-within cl f passes (x ∷ xs) h short within =
    let rest = onto-within cl f passes xs (f x ∷ h) (omega (arith, short)) (passes x h (omega (arith, short)), within) in
    let count = rest.1 in
    (rest.0, omega (arith, count))

pub beginning-within : (s : Scripted) → IsScript s → IsWithinLimits (cluster_of s) (beginning s)
beginning-within s fits =
    let cl = cluster_of s in
    let few_seeds = fits.few_seeds in
    let few_ties = (let t = fits.ties in t.few) in
    let seeds = onto-within cl (λ (x : SeedRow). Seed x.node) (λ x. seed-within cl x.node) s.seeds [] (omega (arith, few_seeds)) tt in
    let count = seeds.1 in
    (onto-within cl (tie_of s) (tie-within s cl) s.ties (onto [] (map (λ (x : SeedRow). Seed x.node) s.seeds)) (omega (arith, count, few_seeds, few_ties)) seeds.0).0

-- ---- the calls

follow-within : (s : Scripted) (es w : List Event) → MayFollow s es w → IsWithinLimits (cluster_of s) w → IsWithinLimits (cluster_of s) (onto w es)
follow-within s [] w may within = within
follow-within s (e ∷ es) w may within = follow-within s es (e ∷ w) may.2 (may.1, within)

module _ (o : Opening) (h : Calls) (op : Op) (r : Reply) where
  abbrev Follow : Type 0
  Follow = MayFollow o.script (events_by o.script (deed_of op r) (world o h)) (world o h)

  halted-follow : (why : Halt) → r ≡ replies.Halted why → Follow
  halted-follow why is = subst (λ d. MayFollow o.script (events_by o.script d (world o h)) (world o h)) (sym (ap (deed_of op) is ∙ halted-quiet op why)) tt

  reply-follow : (v : Option Halt) → IsReply o h v op r → Follow
  reply-follow (Some why) is = halted-follow why is
  reply-follow None (inl made) = made.1
  reply-follow None (inr (inl limit)) = halted-follow (Limit limit.0) limit.1
  reply-follow None (inr (inr memory)) = halted-follow Memory memory

pub course-within : (o : Opening) → IsScript o.script → IsNew o → (h : Calls) → IsCourse o h → IsWithinLimits (cluster_of o.script) (world o h)
course-within o fits new [] course = subst (IsWithinLimits (cluster_of o.script)) (sym new.past) (beginning-within o.script fits)
course-within o fits new (e ∷ h) course =
    follow-within o.script _ (world o h) (reply-follow o h e.op e.reply (halt_at o h) course.1) (course-within o fits new h course.2)
