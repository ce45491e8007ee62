-- What a line says is what spells it, and no line says two things.
use Rattle.std.proofs.Common.{◌≡◌, ◌<◌, ◌≤◌, ◌^◌, ℕ, Bool, true, false, cond, List, [], ◌∷◌, ◌++◌, length, map, Result, Ok, codes, refl, sym, ◌∙◌, ap, arith}
use Rattle.std.proofs.lemmas.Slice.Eq.{bytes_eq-Decides}
use Rattle.std.specs.Fmt.{decimal}
use Rattle.std.specs.List.{AllByRecursion}
use Rattle.std.specs.Str.{bytes_eq}
use Rattle.crgc_ids.specs.Actor.{IsActor}
use Rattle.history_model.specs.declared.events.Event.{Event}
use Rattle.history_model.specs.declared.events.Event.TheVariants.{Seed, Tie, Wake, Take, Spawn, Send, Drop, Retire, Rest, Flush, Publish, Window, Admit, Lose, Repeat, Crash, Remove, Hand, Sweep}
use Rattle.journal_model.specs.declared.lines.Line.{Line}
use Rattle.journal_model.specs.declared.lines.Line.TheVariants as lines
use Rattle.journal_model.specs.declared.lines.LineFault.{LineFault}
use Rattle.journal_model.specs.Fields.{pieces}
use Rattle.journal_model.specs.Lines.{actor_word, AreActors, event_words, IsPrintable, IsPrintableCut, IsPrintableStop, IsWithinRanges, line_words, spell, spelling}
use Rattle.journal_model.specs.Reading.{Form, actor_forms, actor_line, actor_pair_forms, any_line, by_form, cut_forms, end_forms, link_forms, link_line, message_forms, node_forms, node_line, node_pair_forms, pair_line, read_line, read_words, stop_forms}
use Rattle.journal_model.specs.Shapes.{◌>>=◌, cut_fields, end_fields, link_number, message, one_actor, one_node, stop_fields, two_actors, two_nodes}
use Rattle.event_lines.proofs.FreeLaws.{AreFree, line_words-free}
use Rattle.event_lines.proofs.PiecesLaws.{join-pieces, pieces-join}
use Rattle.event_lines.proofs.ShapesLaws.{bind-ok, cut_fields-ok, cut_fields-words, end_fields-ok, end_fields-words, link_number-ok, link_number-words, made, message-ok, message-words, one_actor-ok, one_actor-words, one_node-ok, one_node-words, stop_fields-ok, stop_fields-words, stop_rest, two_actors-ok, two_actors-words, two_nodes-ok, two_nodes-words}

-- the words spell the line, which may be printed
abbrev pub IsSpelledBy : List ℕ → List (List ℕ) → Line → Type 0
IsSpelledBy w ws l = IsPrintable l × (line_words l ≡ w ∷ ws)

-- each form of the table makes lines that are spelled by its first word and the words of its fields
abbrev pub AreSpelled : {A : Type 0} → (A → Type 0) → (A → List (List ℕ)) → List (Form A) → Type 0
AreSpelled IsGood words forms = AllByRecursion (λ form. (x : _) → IsGood x → IsSpelledBy form.0 (words x) (form.1 x)) forms

module _ {A : Type 0} (fields : Result A LineFault) (IsGood : A → Type 0) (words : A → List (List ℕ)) (w : List ℕ) (ws : List (List ℕ)) (faithful : (x : A) → fields ≡ Ok x → IsGood x × (ws ≡ words x)) where
  form-here : (form : Form A) (l : Line) → ((x : A) → IsGood x → IsSpelledBy form.0 (words x) (form.1 x)) → w ≡ form.0 → (fields >>= λ x. Ok (form.1 x)) ≡ Ok l → IsSpelledBy w ws l
  form-here form l spells same e = bind-ok _ _ l e (λ x ex le.
      let good = faithful x ex in
      let from = spells x good.0 in
      made (IsSpelledBy w ws) (form.1 x) l le (from.0, from.1 ∙ (λ i. sym same i ∷ sym good.1 i)))

  -- what one of the forms says is spelled so, where what the others say is
  by_form-ok : (forms : List (Form A)) → AreSpelled IsGood words forms → (other : Result Line LineFault) (l : Line) → (other ≡ Ok l → IsSpelledBy w ws l) → by_form forms fields w other ≡ Ok l → IsSpelledBy w ws l
  by_form-ok [] spelled other l later e = later e
  by_form-ok (form ∷ forms) spelled other l later e = chosen (λ others. by_form-ok forms spelled.1 other l later others) (bytes_eq w form.0) refl e where
    chosen : (by_form forms fields w other ≡ Ok l → IsSpelledBy w ws l) → (b : Bool) → bytes_eq w form.0 ≡ b → cond b (fields >>= λ x. Ok (form.1 x)) (by_form forms fields w other) ≡ Ok l → IsSpelledBy w ws l
    chosen others true same e = form-here form l spelled.0 ((bytes_eq-Decides w form.0).0 same) e
    chosen others false _ e = others e

-- what is read by some forms is spelled so
abbrev IsFaithful : (List ℕ → List (List ℕ) → Result Line LineFault) → Type 0
IsFaithful read = (w : List ℕ) (ws : List (List ℕ)) (l : Line) → read w ws ≡ Ok l → IsSpelledBy w ws l

link-ok : IsFaithful link_line
unfolding link_line
link-ok w ws l e =
    by_form-ok (link_number ws) (λ p. (p.0 < 16) × (p.1 < 16) × (p.2 < 2 ^ 32)) (λ p. decimal p.0 ∷ decimal p.1 ∷ decimal p.2 ∷ []) w ws (link_number-ok ws) link_forms
    ((λ x h. (h, refl)), ((λ x h. (h, refl)), ((λ x h. (h, refl)), ((λ x h. (h, refl)), tt)))) _ l
    (by_form-ok (end_fields ws) (λ p. (p.0 < 2 ^ 32) × (p.1 < 2 ^ 32)) (λ p. codes "events" ∷ decimal p.0 ∷ codes "stopped" ∷ decimal p.1 ∷ []) w ws (end_fields-ok ws) end_forms
    ((λ x h. (h, refl)), tt) _ l (λ fault. absurd cc)) e

pair-ok : IsFaithful pair_line
unfolding pair_line
pair-ok w ws l e =
    by_form-ok (two_actors ws) (λ p. IsActor p.0 × IsActor p.1) (λ p. actor_word p.0 ∷ actor_word p.1 ∷ []) w ws (two_actors-ok ws) actor_pair_forms
    ((λ x h. (h, refl)), ((λ x h. (h, refl)), tt)) _ l
    (by_form-ok (two_nodes ws) (λ p. (p.0 < 16) × (p.1 < 16)) (λ p. decimal p.0 ∷ decimal p.1 ∷ []) w ws (two_nodes-ok ws) node_pair_forms
    ((λ x h. (h, refl)), ((λ x h. (h, refl)), tt)) _ l (link-ok w ws l)) e

node-ok : IsFaithful node_line
unfolding node_line
node-ok w ws l e =
    by_form-ok (one_node ws) (λ n. n < 16) (λ n. decimal n ∷ []) w ws (one_node-ok ws) node_forms
    ((λ x h. (h, refl)), ((λ x h. (h, refl)), ((λ x h. (h, refl)), ((λ x h. (h, refl)), tt)))) _ l (pair-ok w ws l) e

actor-ok : IsFaithful actor_line
unfolding actor_line
actor-ok w ws l e =
    by_form-ok (one_actor ws) IsActor (λ a. actor_word a ∷ []) w ws (one_actor-ok ws) actor_forms
    ((λ x h. (h, refl)), ((λ x h. (h, refl)), ((λ x h. (h, refl)), ((λ x h. (h, refl)), ((λ x h. (h, refl)), ((λ x h. (h, refl)), tt)))))) _ l (node-ok w ws l) e

any-ok : IsFaithful any_line
unfolding any_line
any-ok w ws l e =
    by_form-ok (message ws) (λ m. IsActor m.0 × IsActor m.1 × AreActors m.2 × (length m.2 ≤ 16)) (λ m. actor_word m.0 ∷ actor_word m.1 ∷ map actor_word m.2) w ws (message-ok ws) message_forms
    ((λ x h. (h, refl)), tt) _ l
    (by_form-ok (cut_fields ws) (λ c. IsPrintableCut c.0 c.1 c.2) (λ c. decimal c.0 ∷ (map decimal c.1 ++ codes "lost" ∷ map decimal c.2)) w ws (cut_fields-ok ws) cut_forms
    ((λ x h. (h, refl)), tt) _ l
    (by_form-ok (stop_fields ws) (λ s. IsPrintableStop s.0 s.1) stop_rest w ws (stop_fields-ok ws) stop_forms
    ((λ x h. (h, refl)), tt) _ l (actor-ok w ws l))) e

-- an event is read from its words
event-words : (e : Event) → IsWithinRanges e → read_words (event_words e) ≡ Ok (lines.Event e)
unfolding any_line actor_line node_line pair_line link_line
event-words (Seed n) h = rw (one_node-words n h) refl
event-words (Tie a b) h = rw (two_actors-words a b h.0 h.1) refl
event-words (Wake a) h = rw (one_actor-words a h) refl
event-words (Take a) h = rw (one_actor-words a h) refl
event-words (Spawn a) h = rw (one_actor-words a h) refl
event-words (Send a b refs) h = rw (message-words a b refs h.0 h.1 h.2 h.3) refl
event-words (Drop a b) h = rw (two_actors-words a b h.0 h.1) refl
event-words (Retire a) h = rw (one_actor-words a h) refl
event-words (Rest a) h = rw (one_actor-words a h) refl
event-words (Flush a) h = rw (one_actor-words a h) refl
event-words (Publish n) h = rw (one_node-words n h) refl
event-words (Window d s) h = rw (two_nodes-words d s h.0 h.1) refl
event-words (Admit s d k) h = rw (link_number-words s d k h.0 h.1 h.2) refl
event-words (Lose s d k) h = rw (link_number-words s d k h.0 h.1 h.2) refl
event-words (Repeat s d k) h = rw (link_number-words s d k h.0 h.1 h.2) refl
event-words (Crash n) h = rw (one_node-words n h) refl
event-words (Remove m n) h = rw (two_nodes-words m n h.0 h.1) refl
event-words (Hand m o k) h = rw (link_number-words m o k h.0 h.1 h.2) refl
event-words (Sweep n) h = rw (one_node-words n h) refl

-- and so is each other line
words-read : (l : Line) → IsPrintable l → read_words (line_words l) ≡ Ok l
unfolding any_line actor_line node_line pair_line link_line
words-read (lines.Event e) h = event-words e h
words-read (lines.Cut m counts lost) h = rw (cut_fields-words m counts lost h) refl
words-read (lines.Stop m s) h = rw (stop_fields-words (m, s) h) refl
words-read (lines.End events stopped) h = rw (end_fields-words events stopped h.0 h.1) refl

pieces-words : (words : List (List ℕ)) (l : Line) → read_words words ≡ Ok l → AreFree 32 words → pieces 32 (spell words) ≡ words
pieces-words [] l r free = absurd cc
pieces-words (w ∷ ws) l r free = pieces-join 32 w ws free

-- a line that may be printed is read from its spelling
pub spelling-read : (l : Line) → IsPrintable l → read_line (spelling l) ≡ Ok l
spelling-read l h =
    let r = words-read l h in
    ap read_words (pieces-words (line_words l) l r (line_words-free 32 (omega arith) l h)) ∙ r

words-spelled : (words : List (List ℕ)) (l : Line) → read_words words ≡ Ok l → IsPrintable l × (line_words l ≡ words)
words-spelled [] l e = absurd cc
words-spelled (w ∷ ws) l e = any-ok w ws l e

-- what is read may be printed, and spells the line
pub read-spelling : (bytes : List ℕ) (l : Line) → read_line bytes ≡ Ok l → IsPrintable l × (spelling l ≡ bytes)
read-spelling bytes l e =
    let s = words-spelled (pieces 32 bytes) l e in
    (s.0, ap spell s.1 ∙ join-pieces 32 bytes)

-- no two lines are spelled alike
pub spelling-injective : (k l : Line) → IsPrintable k → IsPrintable l → spelling k ≡ spelling l → k ≡ l
spelling-injective k l g h same =
    let e : ◌≡◌ {A = Result Line LineFault} (Ok k) (Ok l) = sym (spelling-read k g) ∙ ap read_line same ∙ spelling-read l h in
    cc
