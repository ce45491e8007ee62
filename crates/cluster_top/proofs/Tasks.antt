-- What the words ask for, and what a call came to and wrote.
use Rattle.std.proofs.Common.{ℕ, ◌≡◌, Bool, List, Option, Result, Ok, Err, Vec, ap, arith, inl, refl, subst, sym}
use Rattle.std.specs.Prelude.{IfOk, IfErr}
use Rattle.std.specs.declared.alloc.Global.{Global}
use Rattle.command_words.specs.Commands.{Spells, WantsWorkers}
use Rattle.command_words.specs.declared.command.Command.{Command}
use Rattle.command_words.specs.declared.command.Command.TheVariants.{Run}
use Rattle.command_words.proofs.CommandLaws.{spells_one}
use Rattle.workload_gen.specs.Texts.{workload_text}
use Rattle.cluster_top.specs.declared.refusal.Refusal.{Refusal}
use Rattle.cluster_top.specs.declared.refusal.Refusal.TheVariants.{NoMemory as OutOfMemory}
use Rattle.cluster_top.specs.declared.status.Status.{Status}
use Rattle.cluster_top.specs.declared.status.Status.TheVariants.{Done}
use Rattle.cluster_top.specs.GenOutcome.{GenCameTo}
use Rattle.cluster_top.specs.Outcome.{CameTo, CommandCameTo}
use Rattle.cluster_top.specs.Refusals.{line_for, status_of}

abbrev workers_of : Command → ℕ
workers_of (Run workers brief) = workers
workers_of c = 0

-- words that spell a command without workers ask for none
pub no-workers : (words : List (List ℕ)) (c : Command) → Spells words c → workers_of c ≡ 0 → ¬ WantsWorkers words
no-workers words c spelled none wants =
    let same : wants.0 ≡ workers_of c = ap workers_of (spells_one words (Run wants.0 wants.1) c wants.2 spelled) in
    let some = wants.3 in
    absurd (omega (arith, same, none, some))

-- what an answer came to is some status and text of which both hold
pub ended : {P Q : Status → List ℕ → Type 0} (r : Result (Vec ℕ Global) Refusal)
    → IfOk r (λ v. P Done v.items) → IfErr r (λ f. P (status_of f) (line_for f))
    → IfOk r (λ v. Q Done v.items) → IfErr r (λ f. Q (status_of f) (line_for f))
    → (reason : Status) × (text : List ℕ) × P reason text × Q reason text
ended (Ok v) p p' q q' = (Done, v.items, p, q)
ended (Err f) p p' q q' = (status_of f, line_for f, p', q')

-- what the command came to is what its words ask for
module _ {S : Type 0} (left : S → Option (List ℕ)) (given : S → List ℕ) (ends : S → Bool) (faults : S → ℕ)
    (words : List (List ℕ)) (old new : S) (c : Command) (spelled : Spells words c) where
  pub text-came : (r : Result (Vec ℕ Global) Refusal) → IfOk r (λ v. CommandCameTo left given ends faults old new c Done v.items)
      → IfOk r (λ v. CameTo left given ends faults words old new Done v.items)
  text-came (Ok v) came = inl (c, spelled, came)
  text-came (Err f) none = tt

  pub refusal-came : (r : Result (Vec ℕ Global) Refusal)
      → IfErr r (λ f. CommandCameTo left given ends faults old new c (status_of f) (line_for f))
      → IfErr r (λ f. CameTo left given ends faults words old new (status_of f) (line_for f))
  refusal-came (Ok v) none = tt
  refusal-came (Err f) came = inl (c, spelled, came)

-- a script that is made has no other source before than after
module _ {S : Type 0} (source : S) (seed size : ℕ) where
  pub text-made : (r : Result (Vec ℕ Global) Refusal) → IfOk r (λ v. v.items ≡ workload_text seed size)
      → IfOk r (λ v. GenCameTo source source seed size Done v.items)
  text-made (Ok v) made = (refl, made)
  text-made (Err f) none = tt

  pub refusal-made : (r : Result (Vec ℕ Global) Refusal) → IfErr r (λ f. f ≡ OutOfMemory)
      → IfErr r (λ f. GenCameTo source source seed size (status_of f) (line_for f))
  refusal-made (Ok v) none = tt
  refusal-made (Err f) is = subst (λ x. GenCameTo source source seed size (status_of x) (line_for x)) (sym is) (refl, refl)
