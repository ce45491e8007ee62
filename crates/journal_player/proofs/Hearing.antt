-- What the next line does.
use Rattle.std.proofs.Common.{◌≡◌, ℕ, Bool, true, false, if◌then◌else◌, List, [], ◌∷◌, Result, Ok, Err, refl, sym, ◌∙◌, ap}
use Rattle.std.specs.Str.{bytes_eq}
use Rattle.std.proofs.lemmas.Slice.Eq.{bytes_eq-Decides}
use Rattle.history_model.specs.declared.events.Event.TheVariants.{Send}
use Rattle.journal_model.specs.declared.lines.Line.{Line}
use Rattle.journal_model.specs.declared.lines.Line.TheVariants as said
use Rattle.journal_model.specs.Journals.{Fault, Replay, after_told, differs}
use Rattle.journal_model.specs.Lines.{IsPrintable}
use Rattle.journal_player.specs.Hearing.{LineCarriesFew}

-- a line that may be printed carries few references
pub few-printed : (l : Line) → IsPrintable l → LineCarriesFew l
few-printed (said.Event (Send f t refs)) fits = fits.3
few-printed (said.Event _) fits = tt
few-printed (said.Cut m counts lost) fits = tt
few-printed (said.Stop m s) fits = tt
few-printed (said.End events stopped) fits = tt

abbrev chosen : Replay → List (List ℕ) → Bool → Result Replay Fault
chosen r later b = if b then Ok (record r { due = later }) else Err differs

-- the line is the one that is due
pub told-same : (r : Replay) (first : List ℕ) (later : List (List ℕ)) (bytes : List ℕ) → r.due ≡ first ∷ later → first ≡ bytes → after_told r r.due bytes ≡ Ok (record r { due = later })
told-same r first later bytes due same =
    ap (λ (d : List (List ℕ)). after_told r d bytes) due ∙ ap (chosen r later) ((bytes_eq-Decides bytes first).1 (sym same))

-- it is another one
pub told-other : (r : Replay) (first : List ℕ) (later : List (List ℕ)) (bytes : List ℕ) → r.due ≡ first ∷ later → (first ≡ bytes → ⊥) → after_told r r.due bytes ≡ Err differs
told-other r first later bytes due other =
    ap (λ (d : List (List ℕ)). after_told r d bytes) due
    ∙ elim (bytes_eq bytes first) as (λ b. bytes_eq bytes first ≡ b → chosen r later (bytes_eq bytes first) ≡ Err differs) [
      | true ↦ λ same. absurd (other (sym ((bytes_eq-Decides bytes first).0 same)))
      | false ↦ λ differ. ap (chosen r later) differ
    ] refl

-- none is due
pub told-none : (r : Replay) (bytes : List ℕ) → r.due ≡ [] → after_told r r.due bytes ≡ Err differs
told-none r bytes none = ap (λ (d : List (List ℕ)). after_told r d bytes) none
