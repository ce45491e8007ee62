-- The text of a report in full, as far as it has come.
use Rattle.std.proofs.Common.{◌≡◌, ℕ, Bool, false, List, [], ◌∷◌, ◌++◌, append_assoc, append-nil, length, refl, sym, ◌∙◌, ap, subst}
use Rattle.std.proofs.lemmas.Grind.{flat_map-append}
use Rattle.history_model.specs.declared.events.Event.{Event}
use Rattle.history_model.specs.declared.events.Event.TheVariants.{Sweep}
use Rattle.history_model.specs.Cluster.{Cluster}
use Rattle.history_model.specs.Story.{Story}
use Rattle.journal_model.specs.Journals.{due_after}
use Rattle.journal_model.specs.Lines.{end_words, event_line, header_line, line_of, spell, text_of}
use Rattle.journal_model.specs.Report.{report_of, stopped_total, told_lines}
use Rattle.true_config.specs.Applying.{is_sweep}
use Rattle.true_config.specs.Steps.{Adds}
use Rattle.cluster_course.specs.Due.{lines_made_due}
use Rattle.cluster_course.specs.Telling.{IsToldBy, IsTelling}

-- before the first event the text is the header
pub telling-begun : (s : Story) (nodes version : ℕ) (text : List ℕ) → text ≡ line_of (header_line (record { nodes = nodes; version = version }))
    → s.cluster.nodes ≡ nodes → s.cluster.version ≡ version → s.past ≡ [] → IsTelling s false text
telling-begun s nodes version text header same_nodes same_version past =
    let t : Story = record { cluster = record { nodes = nodes; version = version }; past = [] } in
    let same : t ≡ s = λ i. record { cluster = record { nodes = sym same_nodes i; version = sym same_version i }; past = sym past i } in
    subst (λ (x : Story). IsTelling x false text) same (record { swept = refl; told = ap (λ (x : List ℕ). x ++ []) header })

lines-more : (cl : Cluster) (e : Event) (p : List Event) → told_lines cl (e ∷ p) ≡ told_lines cl p ++ event_line e ∷ due_after cl e p
lines-more cl (Sweep m) p = refl
lines-more cl _ p = refl

-- with one event more, after the lines that were due and the event's line
pub told-more : (cl : Cluster) (e : Event) (p : List Event) (text : List ℕ) → IsToldBy (record { cluster = cl; past = p }) text
    → IsToldBy (record { cluster = cl; past = e ∷ p }) (text ++ (text_of (lines_made_due cl p) ++ line_of (event_line e)))
told-more cl e p text told =
    let due = text_of (lines_made_due cl p) in
    let line = line_of (event_line e) in
    let new = text_of (due_after cl e p) in
    append_assoc text (due ++ line) new ∙ ap (λ (t : List ℕ). text ++ t) (append_assoc due line new)
    ∙ sym (append_assoc text due (line ++ new)) ∙ ap (λ (t : List ℕ). t ++ (line ++ new)) told
    ∙ sym (flat_map-append line_of (header_line cl ∷ told_lines cl p) (event_line e ∷ due_after cl e p))
    ∙ ap (λ (ls : List (List ℕ)). text_of (header_line cl ∷ ls)) (sym (lines-more cl e p))

pub telling-more : (e : Event) (s s' : Story) (swept now : Bool) (before text : List ℕ) → IsTelling s swept before
    → text ≡ before ++ (text_of (lines_made_due s.cluster s.past) ++ line_of (event_line e)) → Adds e s s' → now ≡ is_sweep e → IsTelling s' now text
telling-more e s s' swept now before text telling more adds is =
    let t : Story = record { cluster = s.cluster; past = e ∷ s.past } in
    let same : t ≡ s' = λ i. record { cluster = sym adds.cluster i; past = sym adds.past i } in
    subst (λ (x : Story). IsTelling x now text) same (record { swept = is; told = subst (IsToldBy t) (sym more) (told-more s.cluster e s.past before telling.told) })

-- where the event does not happen, its line is taken back
pub telling-same : (s s' : Story) (swept : Bool) (before text : List ℕ) → IsTelling s swept before → s' ≡ s → text ≡ before → IsTelling s' swept text
telling-same s s' swept before text telling same taken_back =
    subst (λ (x : Story). IsTelling x swept text) (sym same) (subst (λ (t : List ℕ). IsTelling s swept t) (sym taken_back) telling)

-- at the end, after the lines that were due and the end line, it is the report
pub telling-ends : (s : Story) (swept : Bool) (before middle text : List ℕ) (events stops : ℕ) → IsTelling s swept before
    → middle ≡ before ++ text_of (lines_made_due s.cluster s.past) → text ≡ middle ++ (spell (end_words events stops) ++ 10 ∷ [])
    → events ≡ length s.past → stops ≡ stopped_total s.cluster s.past → text ≡ report_of s.cluster s.past
telling-ends s swept before middle text events stops telling due end count stopped =
    let last : ℕ → ℕ → List ℕ = λ m n. spell (end_words m n) in
    let told = header_line s.cluster ∷ told_lines s.cluster s.past in
    end ∙ ap (λ m. middle ++ line_of (last m stops)) count ∙ ap (λ n. middle ++ line_of (last (length s.past) n)) stopped
    ∙ ap (λ (t : List ℕ). t ++ line_of (last (length s.past) (stopped_total s.cluster s.past))) (due ∙ telling.told)
    ∙ ap (λ (t : List ℕ). text_of told ++ t) (sym (append-nil (line_of (last (length s.past) (stopped_total s.cluster s.past)))))
    ∙ sym (flat_map-append line_of told (last (length s.past) (stopped_total s.cluster s.past) ∷ []))
