-- Events and verdicts in their order: each sweep meets its verdict.
use Rattle.std.proofs.Common.{◌≡◌, ◌<◌, ◌≤◌, ◌+◌, ℕ, suc, List, [], ◌∷◌, ◌++◌, append_assoc, append-nil, length, take, drop, map, get_or, reverse, refl, sym, ◌∙◌, ap, subst, arith}
use Rattle.std.proofs.Math.Seq.{drop-cons}
use Rattle.std.proofs.lemmas.Grind.{flat_map-append}
use Rattle.std.proofs.lemmas.List.{get_or-take, length-take-le, reverse-append, reverse-reverse, take_more}
use Rattle.std.proofs.lemmas.List.FromFn.{fill_by_all}
use Rattle.history_model.specs.declared.events.Event.{Event}
use Rattle.history_model.specs.declared.events.Event.TheVariants.{Sweep}
use Rattle.history_model.specs.declared.records.Stop.{Stop}
use Rattle.history_model.specs.declared.records.Verdict.{Verdict}
use Rattle.history_model.specs.Cluster.{Cluster}
use Rattle.history_model.specs.Folds.{cut_at, folded, lost_of}
use Rattle.history_model.specs.Sweeps.{IsVerdict}
use Rattle.crgc_ids.specs.Nodes.{nodes_below}
use Rattle.journal_model.specs.Lines.{cut_words, end_words, event_line, header_line, line_of, spell, stop_words, text_of}
use Rattle.journal_model.specs.Report.{report_of, stopped_total, told_lines, verdict_lines}
use Rattle.journal_model.specs.Verdicts.{AreVerdicts}
use Rattle.evidence_report.specs.Pieces.{verdict_text}

-- after the past, the events and the verdicts follow
abbrev pub Follow : Cluster → List Event → List Event → List Verdict → Type 0
Follow cl p [] [] = Unit {0}
Follow cl p [] (v ∷ vs) = ⊥
Follow cl p (Sweep m ∷ es) [] = ⊥
Follow cl p (Sweep m ∷ es) (v ∷ vs) = IsVerdict cl m p v × Follow cl (Sweep m ∷ p) es vs
Follow cl p (e ∷ es) vs = Follow cl (e ∷ p) es vs

reverse-cons : {X : Type 0} (x : X) (xs ys : List X) → reverse (x ∷ xs) ++ ys ≡ reverse xs ++ x ∷ ys
reverse-cons x xs ys = ap (λ zs. zs ++ ys) (reverse-append (x ∷ []) xs) ∙ append_assoc (reverse xs) (x ∷ []) ys

-- so do all of a history, from its beginning
follow-back : (cl : Cluster) (h q : List Event) (rs ws : List Verdict) → AreVerdicts cl h rs → Follow cl h q ws → Follow cl [] (reverse h ++ q) (reverse rs ++ ws)
follow-back cl [] q [] ws are follow = follow
follow-back cl [] q (v ∷ vs) ws are follow = absurd are
follow-back cl (Sweep m ∷ p) q [] ws are follow = absurd are
follow-back cl (Sweep m ∷ p) q (v ∷ vs) ws are follow =
    rw (reverse-cons (Sweep m) p q, reverse-cons v vs ws) (follow-back cl p (Sweep m ∷ q) vs (v ∷ ws) are.1 (are.0, follow))
follow-back cl (e ∷ p) q rs ws are follow =
    rw (reverse-cons e p q) (follow-back cl p (e ∷ q) rs ws are follow)

pub follow-all : (cl : Cluster) (h es : List Event) (vs : List Verdict) → h ≡ reverse es → AreVerdicts cl h (reverse vs) → Follow cl [] es vs
follow-all cl h es vs is are =
    let all = follow-back cl (reverse es) [] (reverse vs) [] (subst (λ x. AreVerdicts cl x (reverse vs)) is are) tt in
    rw (append-nil (reverse (reverse es)), append-nil (reverse (reverse vs)), reverse-reverse es, reverse-reverse vs) at all

-- ---- the text of a verdict

cut-taken : (cl : Cluster) (m : ℕ) (p : List Event) (v : Verdict) → IsVerdict cl m p v → cl.nodes ≤ length v.cut → take cl.nodes v.cut ≡ map (cut_at cl m p) (nodes_below cl.nodes)
cut-taken cl m p v is within =
    fill_by_all (cut_at cl m p) (take cl.nodes v.cut) cl.nodes 0 (length-take-le cl.nodes v.cut within)
    (λ k below. get_or-take cl.nodes v.cut k 0 below ∙ is.cut k below)

pub verdict-told : (cl : Cluster) (m : ℕ) (p : List Event) (v : Verdict) → IsVerdict cl m p v → cl.nodes ≤ length v.cut → verdict_text cl.nodes v ≡ text_of (verdict_lines cl m p)
verdict-told cl m p v is within =
    let lines : ℕ → List ℕ → List ℕ → List Stop → List ℕ = λ n cut lost stops. text_of (spell (cut_words n cut lost) ∷ map (λ s. spell (stop_words n s)) stops) in
    ap (λ n. lines n (take cl.nodes v.cut) v.lost v.stops) is.node ∙ ap (λ cut. lines m cut v.lost v.stops) (cut-taken cl m p v is within)
    ∙ ap (λ lost. lines m (map (cut_at cl m p) (nodes_below cl.nodes)) lost v.stops) is.lost
    ∙ ap (λ stops. lines m (map (cut_at cl m p) (nodes_below cl.nodes)) (lost_of cl (folded cl m p)) stops) is.stops

-- ---- what is told of the first events

-- the text begins as it did, and then tells of the first i events; the others and the verdicts that are left follow
pub record IsTold (cl : Cluster) (es : List Event) (i : ℕ) (start text : List ℕ) (left : List Verdict) : Type 0 where
  pub told : text ≡ start ++ text_of (told_lines cl (reverse (take i es)))
  pub follow : Follow cl (reverse (take i es)) (drop i es) left

-- the event is no sweep
abbrev pub IsOther : Event → Type 0
IsOther e = (m : ℕ) → e ≡ Sweep m → ⊥

lines-after : (cl : Cluster) (p : List Event) (e : Event) → IsOther e → told_lines cl (e ∷ p) ≡ told_lines cl p ++ event_line e ∷ []
lines-after cl p (Sweep m) other = absurd (other m refl)
lines-after cl p _ other = refl

follow-other : (cl : Cluster) (p es : List Event) (e : Event) (vs : List Verdict) → IsOther e → Follow cl p (e ∷ es) vs → Follow cl (e ∷ p) es vs
follow-other cl p es (Sweep m) vs other follow = absurd (other m refl)
follow-other cl p es _ vs other follow = follow

-- the first i + 1 events are event e after the first i
first-more : (es : List Event) (i : ℕ) (e : Event) → i < length es → e ≡ get_or es i e → reverse (take (i + 1) es) ≡ e ∷ reverse (take i es)
first-more es i e below is =
    ap reverse (take_more es i e below) ∙ reverse-append (take i es) (get_or es i e ∷ []) ∙ ap (λ x. x ∷ reverse (take i es)) (sym is)

rest-more : (es : List Event) (i : ℕ) (e : Event) → i < length es → e ≡ get_or es i e → drop i es ≡ e ∷ drop (i + 1) es
rest-more es i e below is =
    let next : suc i ≡ i + 1 = omega arith in
    drop-cons es i e below ∙ ap (λ x. x ∷ drop (suc i) es) (sym is) ∙ ap (λ k. e ∷ drop k es) next

-- what is told grows by the lines that are appended
text-more : (start text more : List ℕ) (told lines : List (List ℕ)) → text ≡ start ++ text_of told → more ≡ text ++ text_of lines → more ≡ start ++ text_of (told ++ lines)
text-more start text more told lines is then =
    then ∙ ap (λ t. t ++ text_of lines) is ∙ append_assoc start (text_of told) (text_of lines) ∙ ap (λ t. start ++ t) (sym (flat_map-append line_of told lines))

-- the lines of a report in full
pub report-written : (cl : Cluster) (h : List Event) (stops : ℕ) (header told all : List ℕ) → header ≡ line_of (header_line cl) → told ≡ header ++ text_of (told_lines cl h)
    → stops ≡ stopped_total cl h → all ≡ told ++ line_of (spell (end_words (length h) stops)) → all ≡ report_of cl h
report-written cl h stops header told all first then count last =
    let end = line_of (spell (end_words (length h) (stopped_total cl h))) in
    last ∙ ap (λ n. told ++ line_of (spell (end_words (length h) n))) count ∙ ap (λ t. t ++ end) (then ∙ ap (λ t. t ++ text_of (told_lines cl h)) first)
    ∙ append_assoc (line_of (header_line cl)) (text_of (told_lines cl h)) end
    ∙ ap (λ t. line_of (header_line cl) ++ (text_of (told_lines cl h) ++ t)) (sym (append-nil end))
    ∙ ap (λ t. line_of (header_line cl) ++ t) (sym (flat_map-append line_of (told_lines cl h) (spell (end_words (length h) (stopped_total cl h)) ∷ [])))

module _ (cl : Cluster) (es : List Event) (i : ℕ) (start text : List ℕ) (left : List Verdict) (before : IsTold cl es i start text left) (e : Event) (below : i < length es) (is : e ≡ get_or es i e) where
  follow-next : Follow cl (reverse (take i es)) (e ∷ drop (i + 1) es) left
  follow-next = subst (λ q. Follow cl (reverse (take i es)) q left) (rest-more es i e below is) before.follow

  -- the next event, where it is no sweep
  pub told-other : IsOther e → (more : List ℕ) → more ≡ text ++ line_of (event_line e) → IsTold cl es (i + 1) start more left
  told-other other more then =
      let p = reverse (take i es) in
      let lines = text-more start text more (told_lines cl p) (event_line e ∷ []) before.told (then ∙ ap (λ t. text ++ t) (sym (append-nil (line_of (event_line e))))) in
      record {
        told = lines ∙ ap (λ ls. start ++ text_of ls) (sym (lines-after cl p e other)) ∙ ap (λ q. start ++ text_of (told_lines cl q)) (sym (first-more es i e below is));
        follow = subst (λ q. Follow cl q (drop (i + 1) es) left) (sym (first-more es i e below is)) (follow-other cl p (drop (i + 1) es) e left other follow-next);
      }

  -- the next event, where it is a sweep, with its verdict
  pub told-sweep : (m : ℕ) → e ≡ Sweep m → (middle more : List ℕ) (rest : List Verdict) → middle ≡ text ++ line_of (event_line e) → rest ≡ drop 1 left
      → ((d : Verdict) → cl.nodes ≤ length (get_or left 0 d).cut) → ((d : Verdict) → more ≡ middle ++ verdict_text cl.nodes (get_or left 0 d)) → IsTold cl es (i + 1) start more rest
  told-sweep m sweep middle more rest line dropped within then = sweep-told left before.told (subst (λ x. Follow cl (reverse (take i es)) (x ∷ drop (i + 1) es) left) sweep follow-next) dropped within then
    where
      p : List Event
      p = reverse (take i es)

      sweep-told : (vs : List Verdict) → text ≡ start ++ text_of (told_lines cl p) → Follow cl p (Sweep m ∷ drop (i + 1) es) vs → rest ≡ drop 1 vs
          → ((d : Verdict) → cl.nodes ≤ length (get_or vs 0 d).cut) → ((d : Verdict) → more ≡ middle ++ verdict_text cl.nodes (get_or vs 0 d)) → IsTold cl es (i + 1) start more rest
      sweep-told [] told follow dropped within then = absurd follow
      sweep-told (v ∷ vs) told follow dropped within then =
          let past : reverse (take (i + 1) es) ≡ Sweep m ∷ p = first-more es i e below is ∙ ap (λ x. x ∷ p) sweep in
          let added : more ≡ text ++ text_of (event_line (Sweep m) ∷ verdict_lines cl m p) =
          then v ∙ ap (λ t. middle ++ t) (verdict-told cl m p v follow.0 (within v)) ∙ ap (λ t. t ++ text_of (verdict_lines cl m p)) (line ∙ ap (λ x. text ++ line_of (event_line x)) sweep)
          ∙ append_assoc text (line_of (event_line (Sweep m))) (text_of (verdict_lines cl m p)) in
          record {
            told = text-more start text more (told_lines cl p) (event_line (Sweep m) ∷ verdict_lines cl m p) told added ∙ ap (λ q. start ++ text_of (told_lines cl q)) (sym past);
            follow = rw (past, dropped) follow.1;
          }

-- ---- one event more

-- with a sweep its verdict comes last
pub verdicts-swept : (cl : Cluster) (h : List Event) (m : ℕ) (v : Verdict) (vs : List Verdict) → AreVerdicts cl h (reverse vs) → IsVerdict cl m h v
    → AreVerdicts cl (Sweep m ∷ h) (reverse (vs ++ v ∷ []))
verdicts-swept cl h m v vs are is = subst (AreVerdicts cl (Sweep m ∷ h)) (sym (reverse-append vs (v ∷ []))) (is, are)

-- any other event leaves the verdicts
pub verdicts-other : (cl : Cluster) (h : List Event) (e : Event) (vs : List Verdict) → IsOther e → AreVerdicts cl h vs → AreVerdicts cl (e ∷ h) vs
verdicts-other cl h (Sweep m) vs other are = absurd (other m refl)
verdicts-other cl h _ vs other are = are
