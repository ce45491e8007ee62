use Rattle.std.proofs.Common.{◌≡◌, ◌+◌, ℕ, List, drop, Ok, Err, sym, ◌∙◌, ap, subst}
use Rattle.std.proofs.lemmas.Bool.{false≢true}
use Rattle.std.proofs.lemmas.Bool.Decides.{Decides-eqb}
use Rattle.std.proofs.lemmas.Slice.Eq.{slice_eq-Decides}
use Rattle.journal_model.specs.Journals.{Replay, after_told, differs}
use Rattle.cluster_course.specs.Due.{lines_made_due}
use Rattle.journal_player.specs.Following.{Following, following}
use Rattle.journal_player.proofs.DueLines.{due-first, due-next}
use Rattle.journal_player.proofs.Hearing.{told-none, told-other, told-same}
use Rattle.journal_player.proofs.player.Player.repeat.Goals as goal

pub returns-in_default-clause-halt : goal.returns-in_default-clause-halt
returns-in_default-clause-halt c =
    let s = c.self.inside.course in
    let told = c.self.inside.told in
    let r : Replay = (following s told c.self.inside.ended).replay in
    let none = rw c.in_default.is at (due-first (lines_made_due s.cluster s.past) told c.in_ok-due.field-0 c.in_ok-due.ensures.line) in
    subst (λ (x : Following). after_told x.replay x.replay.due c.args.line.now ≡ Err differs) c.self.view_is
    (told-none r c.args.line.now none)

pub returns-then-eq-clause-ok : goal.returns-then-eq-clause-ok
returns-then-eq-clause-ok c =
    let s = c.self.inside.course in
    let told = c.self.inside.told in
    let lines = lines_made_due s.cluster s.past in
    let r : Replay = (following s told c.self.inside.ended).replay in
    let due = rw c.in-Some.is at (due-first lines told c.in_ok-due.field-0 c.in_ok-due.ensures.line) in
    let later = drop 1 (drop told lines) in
    let same = sym c.as_slice.ensures ∙ (slice_eq-Decides Decides-eqb _ _ _ c.eq.ensures).0 c.if-eq.true in
    subst (λ (x : Following). after_told x.replay x.replay.due c.args.line.now ≡ Ok (following s (told + 1) c.self.inside.ended).replay) c.self.view_is
    (told-same r c.in-Some.due later c.args.line.now due same
    ∙ ap (λ (d : List (List ℕ)). Ok (record r { due = d })) (sym (due-next lines told c.in-Some.due later due)))

pub returns-clause-halt : goal.returns-clause-halt
returns-clause-halt c =
    let s = c.self.inside.course in
    let told = c.self.inside.told in
    let lines = lines_made_due s.cluster s.past in
    let r : Replay = (following s told c.self.inside.ended).replay in
    let due = rw c.in-Some.is at (due-first lines told c.in_ok-due.field-0 c.in_ok-due.ensures.line) in
    let later = drop 1 (drop told lines) in
    subst (λ (x : Following). after_told x.replay x.replay.due c.args.line.now ≡ Err differs) c.self.view_is
    (told-other r c.in-Some.due later c.args.line.now due
    (λ same. false≢true (sym c.if-eq.false ∙ (slice_eq-Decides Decides-eqb _ _ _ c.eq.ensures).1 (c.as_slice.ensures ∙ same))))
