-- A `keep` that is undone.
use Rattle.std.proofs.Common.{◌≡◌, ◌+◌, ◌-◌, ℕ, List, refl, ap, arith}
use Rattle.behaviour_lang.specs.Running.{IsMovedBy, passed}
use Rattle.behaviour_lang.specs.declared.bound.BoundNames.{BoundNames}
use Rattle.behaviour_lang.specs.declared.instr.Instr.{Instr}
use Rattle.behaviour_lang.specs.declared.instr.Instr.TheVariants.{Spawn, Send, Drop, Keep, Work, Retire}
use Rattle.behaviour_lang.specs.declared.run.Run.{Run}

-- no other instruction moves a reference
pub only_keep_moves : (i : Instr) (before now : Run) → ((x : List ℕ) (k : ℕ) → i ≡ Keep x k → ⊥) → IsMovedBy i before now → ⊥
only_keep_moves (Spawn x b) before now not moved = moved
only_keep_moves (Send x refs) before now not moved = moved
only_keep_moves (Drop x) before now not moved = moved
only_keep_moves (Keep x k) before now not moved = not x k refl
only_keep_moves (Work k) before now not moved = moved
only_keep_moves Retire before now not moved = moved

-- one place back, with the names of before, all is as before
pub back : (before now : Run) (names : BoundNames) → names ≡ before.names → record now { names = before.names } ≡ passed before → record now { names = names; position = now.position - 1 } ≡ before
back before now names same others =
    let place : now.position ≡ before.position + 1 = ap (λ (r : Run). r.position) others in
    let position : now.position - 1 ≡ before.position = omega (arith, place) in
    λ i. record {
      names = same i;
      position = position i;
      root = ap (λ (r : Run). r.root) others i;
      owed = ap (λ (r : Run). r.owed) others i;
      alloc = ap (λ (r : Run). r.alloc) others i;
    }
