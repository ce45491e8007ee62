-- `Extra` is told only where more words follow a line.
use Rattle.std.proofs.Common.{◌≡◌, ◌<◌, ◌≤◌, ◌^◌, ℕ, zero, suc, Bool, true, false, cond, List, [], ◌∷◌, ◌++◌, append_assoc, drop, length, length-append, map, Option, Some, Result, Ok, Err, codes, refl, sym, ◌∙◌, ap, arith}
use Rattle.std.proofs.lemmas.Grind.{flat_map-append}
use Rattle.std.proofs.lemmas.List.{length-map}
use Rattle.std.proofs.lemmas.Slice.Eq.{bytes_eq-Decides}
use Rattle.std.specs.Fmt.{decimal}
use Rattle.std.specs.List.{AllByRecursion}
use Rattle.std.specs.Str.{bytes_eq}
use Rattle.crgc_ids.specs.Actor.{Actor, IsActor}
use Rattle.journal_model.specs.declared.lines.Line.{Line}
use Rattle.journal_model.specs.declared.lines.LineFault.{LineFault}
use Rattle.journal_model.specs.declared.lines.LineFault.TheVariants.{Field, Extra}
use Rattle.journal_model.specs.Fields.{actor_of, number_of, pieces}
use Rattle.journal_model.specs.Lines.{actor_word, AreActors, IsNodeNumber, IsPrintable, IsPrintableCut, IsPrintableStop, spell, spelling}
use Rattle.journal_model.specs.Reading.{Form, actor_forms, actor_line, actor_pair_forms, any_line, by_form, cut_forms, end_forms, link_forms, link_line, message_forms, node_forms, node_line, node_pair_forms, pair_line, read_line, read_words, stop_forms}
use Rattle.journal_model.specs.Shapes.{◌>>=◌, cut_fields, end_fields, ended, link_number, message, one_actor, one_node, stop_fields, two_actors, two_nodes, up_to}
use Rattle.event_lines.specs.Words.{spaced}
use Rattle.event_lines.proofs.FieldFaults.{actor-not, before_lost-not, bind-fault, evidence_fields-not, field-not, name-not, named_number-not, node-not, number-not, ok-not, some_of-not, stopped_fields-not}
use Rattle.event_lines.proofs.FieldsLaws.{actor_of-some, number_of-some}
use Rattle.event_lines.proofs.LinesLaws.{AreSpelled, IsSpelledBy}
use Rattle.event_lines.proofs.PiecesLaws.{join-pieces}
use Rattle.event_lines.proofs.ShapesLaws.{actor_field-ok, before_lost-ok, field-ok, named_number-ok, node_field-ok, number_field-ok, some-ok, stop_rest}
use Rattle.event_lines.proofs.WordsLaws.{spell-spaced}

-- a field is told by its own fault
no_field : Field ≡ Extra → ⊥
no_field e = absurd cc

ended-extra : (ws : List (List ℕ)) → ended ws ≡ Err Extra → (v : List ℕ) × (more : List (List ℕ)) × (ws ≡ v ∷ more)
ended-extra [] e = absurd cc
ended-extra (w ∷ ws) e = (w, ws, refl)

-- more words follow the fields of this shape
abbrev GoesOn : {A : Type 0} → (A → Type 0) → (A → List (List ℕ)) → List (List ℕ) → Type 0
GoesOn IsGood words ws = (x : _) × (v : List ℕ) × (more : List (List ℕ)) × IsGood x × (ws ≡ words x ++ v ∷ more)

module _ {A : Type 0} (read : List ℕ → Option A) (IsGood : A → Type 0) (word : A → List ℕ) (good : (x : A) (w : List ℕ) → read w ≡ Some x → IsGood x × (word x ≡ w)) where
  up_to-extra : (most : ℕ) (ws : List (List ℕ)) → up_to read most ws ≡ Err Extra → GoesOn (λ (xs : List A). AllByRecursion IsGood xs × (length xs ≡ most)) (map word) ws
  up_to-extra most [] e = absurd cc
  up_to-extra zero (w ∷ ws) e = ([], w, ws, (tt, refl), refl)
  up_to-extra (suc most) (w ∷ ws) e = bind-fault Extra no_field _ _ e (λ f. absurd (field-not Extra no_field _ f)) (λ x ex e1. bind-fault Extra no_field _ _ e1
      (λ f. let first = good x w (field-ok _ x ex) in
      let rest = up_to-extra most ws f in
      (x ∷ rest.0, rest.1, rest.2, ((first.0, rest.3.0), ap suc rest.3.1), (λ i. sym first.1 i ∷ rest.4 i)))
      (λ xs exs e2. absurd cc))

  all_of-extra : (ws : List (List ℕ)) → up_to read (length ws) ws ≡ Err Extra → ⊥
  all_of-extra ws e =
      let r = up_to-extra (length ws) ws e in
      omega (arith, r.3.1, ap length r.4, length-append (map word r.0) (r.1 ∷ r.2), length-map r.0 word)

one_node-extra : (ws : List (List ℕ)) → one_node ws ≡ Err Extra → GoesOn (λ (n : ℕ). n < 16) (λ n. decimal n ∷ []) ws
one_node-extra ws e = bind-fault Extra no_field _ _ e (λ f. absurd (node-not Extra no_field ws f)) (λ n en e1. bind-fault Extra no_field _ _ e1 (λ f.
    let node = node_field-ok 0 ws n en in
    let end = ended-extra (drop 1 ws) f in
    (n, end.0, end.1, node.0, node.1 ∙ ap (λ l. decimal n ∷ l) end.2)) (λ u eu e2. absurd (ok-not Extra no_field _ e2)))

one_actor-extra : (ws : List (List ℕ)) → one_actor ws ≡ Err Extra → GoesOn IsActor (λ a. actor_word a ∷ []) ws
one_actor-extra ws e = bind-fault Extra no_field _ _ e (λ f. absurd (actor-not Extra no_field ws f)) (λ a ea e1. bind-fault Extra no_field _ _ e1 (λ f.
    let actor = actor_field-ok 0 ws a ea in
    let end = ended-extra (drop 1 ws) f in
    (a, end.0, end.1, actor.0, actor.1 ∙ ap (λ l. actor_word a ∷ l) end.2)) (λ u eu e2. absurd (ok-not Extra no_field _ e2)))

two_nodes-extra : (ws : List (List ℕ)) → two_nodes ws ≡ Err Extra → GoesOn (λ (p : ℕ × ℕ). (p.0 < 16) × (p.1 < 16)) (λ p. decimal p.0 ∷ decimal p.1 ∷ []) ws
two_nodes-extra ws e = bind-fault Extra no_field _ _ e (λ f. absurd (node-not Extra no_field ws f)) (λ m em e1. bind-fault Extra no_field _ _ e1 (λ f. absurd (node-not Extra no_field (drop 1 ws) f)) (λ n en e2. bind-fault Extra no_field _ _ e2 (λ f.
    let first = node_field-ok 0 ws m em in
    let second = node_field-ok 1 ws n en in
    let end = ended-extra (drop 2 ws) f in
    ((m, n), end.0, end.1, (first.0, second.0), first.1 ∙ ap (λ l. decimal m ∷ l) (second.1 ∙ ap (λ l. decimal n ∷ l) end.2))) (λ u eu e3. absurd (ok-not Extra no_field _ e3))))

two_actors-extra : (ws : List (List ℕ)) → two_actors ws ≡ Err Extra → GoesOn (λ (p : Actor × Actor). IsActor p.0 × IsActor p.1) (λ p. actor_word p.0 ∷ actor_word p.1 ∷ []) ws
two_actors-extra ws e = bind-fault Extra no_field _ _ e (λ f. absurd (actor-not Extra no_field ws f)) (λ a ea e1. bind-fault Extra no_field _ _ e1 (λ f. absurd (actor-not Extra no_field (drop 1 ws) f)) (λ b eb e2. bind-fault Extra no_field _ _ e2 (λ f.
    let first = actor_field-ok 0 ws a ea in
    let second = actor_field-ok 1 ws b eb in
    let end = ended-extra (drop 2 ws) f in
    ((a, b), end.0, end.1, (first.0, second.0), first.1 ∙ ap (λ l. actor_word a ∷ l) (second.1 ∙ ap (λ l. actor_word b ∷ l) end.2))) (λ u eu e3. absurd (ok-not Extra no_field _ e3))))

link_number-extra : (ws : List (List ℕ)) → link_number ws ≡ Err Extra → GoesOn (λ (p : ℕ × ℕ × ℕ). (p.0 < 16) × (p.1 < 16) × (p.2 < 2 ^ 32)) (λ p. decimal p.0 ∷ decimal p.1 ∷ decimal p.2 ∷ []) ws
link_number-extra ws e = bind-fault Extra no_field _ _ e (λ f. absurd (node-not Extra no_field ws f)) (λ m em e1. bind-fault Extra no_field _ _ e1 (λ f. absurd (node-not Extra no_field (drop 1 ws) f)) (λ n en e2.
    bind-fault Extra no_field _ _ e2 (λ f. absurd (number-not Extra no_field (drop 2 ws) f)) (λ k ek e3. bind-fault Extra no_field _ _ e3 (λ f.
    let first = node_field-ok 0 ws m em in
    let second = node_field-ok 1 ws n en in
    let third = number_field-ok 2 ws k ek in
    let end = ended-extra (drop 3 ws) f in
    ((m, n, k), end.0, end.1, (first.0, second.0, third.0), first.1 ∙ ap (λ l. decimal m ∷ l) (second.1 ∙ ap (λ l. decimal n ∷ l) (third.1 ∙ ap (λ l. decimal k ∷ l) end.2)))) (λ u eu e4. absurd (ok-not Extra no_field _ e4)))))

message-extra : (ws : List (List ℕ)) → message ws ≡ Err Extra → GoesOn (λ (m : Actor × Actor × List Actor). IsActor m.0 × IsActor m.1 × AreActors m.2 × (length m.2 ≤ 16)) (λ m. actor_word m.0 ∷ actor_word m.1 ∷ map actor_word m.2) ws
message-extra ws e = bind-fault Extra no_field _ _ e (λ f. absurd (actor-not Extra no_field ws f)) (λ a ea e1. bind-fault Extra no_field _ _ e1 (λ f. absurd (actor-not Extra no_field (drop 1 ws) f)) (λ b eb e2. bind-fault Extra no_field _ _ e2 (λ f.
    let first = actor_field-ok 0 ws a ea in
    let second = actor_field-ok 1 ws b eb in
    let rest = up_to-extra actor_of IsActor actor_word actor_of-some 16 (drop 2 ws) f in
    ((a, b, rest.0), rest.1, rest.2, (first.0, second.0, rest.3.0, omega (arith, rest.3.1)), first.1 ∙ ap (λ l. actor_word a ∷ l) (second.1 ∙ ap (λ l. actor_word b ∷ l) rest.4))) (λ refs er e3. absurd (ok-not Extra no_field _ e3))))

cut_fields-extra : (ws : List (List ℕ)) → cut_fields ws ≡ Err Extra → GoesOn (λ (c : ℕ × List ℕ × List ℕ). IsPrintableCut c.0 c.1 c.2) (λ c. decimal c.0 ∷ (map decimal c.1 ++ codes "lost" ∷ map decimal c.2)) ws
cut_fields-extra ws e = bind-fault Extra no_field _ _ e (λ f. absurd (node-not Extra no_field ws f)) (λ m em e1. bind-fault Extra no_field _ _ e1 (λ f. absurd (before_lost-not Extra no_field 16 (drop 1 ws) f)) (λ r er e2.
    bind-fault Extra no_field _ _ e2 (λ f. absurd (some_of-not Extra no_field r.0 f)) (λ u eu e3. bind-fault Extra no_field _ _ e3 (λ f.
    let node = node_field-ok 0 ws m em in
    let counts = before_lost-ok 16 (drop 1 ws) r er in
    let some = some-ok r.0 u eu in
    let rest = up_to-extra (number_of 16) IsNodeNumber decimal (number_of-some 16) 16 r.1 f in (
      (m, r.0, rest.0),
      rest.1,
      rest.2,
      (node.0, some, counts.1, counts.0, omega (arith, rest.3.1), rest.3.0),
      node.1 ∙ ap (λ l. decimal m ∷ l) (counts.2 ∙ ap (λ l. map decimal r.0 ++ codes "lost" ∷ l) rest.4 ∙ sym (append_assoc (map decimal r.0) (codes "lost" ∷ map decimal rest.0) (rest.1 ∷ rest.2))),
    )) (λ lost el e4. absurd (ok-not Extra no_field _ e4)))))

stop_fields-extra : (ws : List (List ℕ)) → stop_fields ws ≡ Err Extra → ⊥
stop_fields-extra ws e = bind-fault Extra no_field _ _ e (stopped_fields-not Extra no_field ws) (λ s es e1. bind-fault Extra no_field _ _ e1 (evidence_fields-not Extra no_field (drop 3 ws)) (λ n en e2.
    bind-fault Extra no_field _ _ e2 (name-not Extra no_field (codes "owners") (drop 9 ws)) (λ u eu e3. bind-fault Extra no_field _ _ e3 (all_of-extra actor_of IsActor actor_word actor_of-some (drop 10 ws)) (λ owners eo.
    ok-not Extra no_field (s.1, record { actor = s.0; received = n.0; told = n.1; admitted = n.2; owners = owners })))))

end_fields-extra : (ws : List (List ℕ)) → end_fields ws ≡ Err Extra → GoesOn (λ (p : ℕ × ℕ). (p.0 < 2 ^ 32) × (p.1 < 2 ^ 32)) (λ p. codes "events" ∷ decimal p.0 ∷ codes "stopped" ∷ decimal p.1 ∷ []) ws
end_fields-extra ws e = bind-fault Extra no_field _ _ e (λ f. absurd (named_number-not Extra no_field (codes "events") ws f)) (λ events ee e1.
    bind-fault Extra no_field _ _ e1 (λ f. absurd (named_number-not Extra no_field (codes "stopped") (drop 2 ws) f)) (λ stopped es e2. bind-fault Extra no_field _ _ e2 (λ f.
    let first = named_number-ok (codes "events") 0 ws events ee in
    let second = named_number-ok (codes "stopped") 2 ws stopped es in
    let end = ended-extra (drop 4 ws) f in
    ((events, stopped), end.0, end.1, (first.0, second.0), first.1 ∙ ap (λ l. codes "events" ∷ decimal events ∷ l) (second.1 ∙ ap (λ l. codes "stopped" ∷ decimal stopped ∷ l) end.2))) (λ u eu e3. absurd (ok-not Extra no_field _ e3))))

-- more words follow those of a line that begins with this word
abbrev GoesOnFrom : List ℕ → List (List ℕ) → Type 0
GoesOnFrom w ws = (l : Line) × (rest : List (List ℕ)) × (v : List ℕ) × (more : List (List ℕ)) × IsSpelledBy w rest l × (ws ≡ rest ++ v ∷ more)

module _ {A : Type 0} (fields : Result A LineFault) (IsGood : A → Type 0) (words : A → List (List ℕ)) (w : List ℕ) (ws : List (List ℕ)) (extra : fields ≡ Err Extra → GoesOn IsGood words ws) where
  extra-here : (form : Form A) → ((x : A) → IsGood x → IsSpelledBy form.0 (words x) (form.1 x)) → w ≡ form.0 → (fields >>= λ x. Ok (form.1 x)) ≡ Err Extra → GoesOnFrom w ws
  extra-here form spells same e = bind-fault Extra no_field _ _ e (λ f.
      let on = extra f in
      let from = spells on.0 on.3 in
      (form.1 on.0, words on.0, on.1, on.2, (from.0, from.1 ∙ (λ i. sym same i ∷ words on.0)), on.4)) (λ x ex e1. absurd cc)

  by_form-extra : (forms : List (Form A)) → AreSpelled IsGood words forms → (other : Result Line LineFault) → (other ≡ Err Extra → GoesOnFrom w ws) → by_form forms fields w other ≡ Err Extra → GoesOnFrom w ws
  by_form-extra [] spelled other later e = later e
  by_form-extra (form ∷ forms) spelled other later e = chosen (λ others. by_form-extra forms spelled.1 other later others) (bytes_eq w form.0) refl e where
    chosen : (by_form forms fields w other ≡ Err Extra → GoesOnFrom w ws) → (b : Bool) → bytes_eq w form.0 ≡ b → cond b (fields >>= λ x. Ok (form.1 x)) (by_form forms fields w other) ≡ Err Extra → GoesOnFrom w ws
    chosen others true same e = extra-here form spelled.0 ((bytes_eq-Decides w form.0).0 same) e
    chosen others false _ e = others e

any_line-extra : (w : List ℕ) (ws : List (List ℕ)) → any_line w ws ≡ Err Extra → GoesOnFrom w ws
unfolding any_line actor_line node_line pair_line link_line
any_line-extra w ws e =
    by_form-extra (message ws) (λ m. IsActor m.0 × IsActor m.1 × AreActors m.2 × (length m.2 ≤ 16)) (λ m. actor_word m.0 ∷ actor_word m.1 ∷ map actor_word m.2) w ws (message-extra ws) message_forms
    ((λ x h. (h, refl)), tt) _
    (by_form-extra (cut_fields ws) (λ c. IsPrintableCut c.0 c.1 c.2) (λ c. decimal c.0 ∷ (map decimal c.1 ++ codes "lost" ∷ map decimal c.2)) w ws (cut_fields-extra ws) cut_forms
    ((λ x h. (h, refl)), tt) _
    (by_form-extra (stop_fields ws) (λ s. IsPrintableStop s.0 s.1) stop_rest w ws (λ f. absurd (stop_fields-extra ws f)) stop_forms
    ((λ x h. (h, refl)), tt) _
    (by_form-extra (one_actor ws) IsActor (λ a. actor_word a ∷ []) w ws (one_actor-extra ws) actor_forms
    ((λ x h. (h, refl)), ((λ x h. (h, refl)), ((λ x h. (h, refl)), ((λ x h. (h, refl)), ((λ x h. (h, refl)), ((λ x h. (h, refl)), tt)))))) _
    (by_form-extra (one_node ws) (λ n. n < 16) (λ n. decimal n ∷ []) w ws (one_node-extra ws) node_forms
    ((λ x h. (h, refl)), ((λ x h. (h, refl)), ((λ x h. (h, refl)), ((λ x h. (h, refl)), tt)))) _
    (by_form-extra (two_actors ws) (λ p. IsActor p.0 × IsActor p.1) (λ p. actor_word p.0 ∷ actor_word p.1 ∷ []) w ws (two_actors-extra ws) actor_pair_forms
    ((λ x h. (h, refl)), ((λ x h. (h, refl)), tt)) _
    (by_form-extra (two_nodes ws) (λ p. (p.0 < 16) × (p.1 < 16)) (λ p. decimal p.0 ∷ decimal p.1 ∷ []) w ws (two_nodes-extra ws) node_pair_forms
    ((λ x h. (h, refl)), ((λ x h. (h, refl)), tt)) _
    (by_form-extra (link_number ws) (λ p. (p.0 < 16) × (p.1 < 16) × (p.2 < 2 ^ 32)) (λ p. decimal p.0 ∷ decimal p.1 ∷ decimal p.2 ∷ []) w ws (link_number-extra ws) link_forms
    ((λ x h. (h, refl)), ((λ x h. (h, refl)), ((λ x h. (h, refl)), ((λ x h. (h, refl)), tt)))) _
    (by_form-extra (end_fields ws) (λ p. (p.0 < 2 ^ 32) × (p.1 < 2 ^ 32)) (λ p. codes "events" ∷ decimal p.0 ∷ codes "stopped" ∷ decimal p.1 ∷ []) w ws (end_fields-extra ws) end_forms
    ((λ x h. (h, refl)), tt) _ (λ fault. absurd cc))))))))) e

-- a line, a space, and more
spell-more : (w : List ℕ) (rest : List (List ℕ)) (v : List ℕ) (more : List (List ℕ)) → spell (w ∷ (rest ++ v ∷ more)) ≡ spell (w ∷ rest) ++ 32 ∷ (v ++ spaced more)
spell-more w rest v more =
    rw (spell-spaced w (rest ++ v ∷ more), spell-spaced w rest, flat_map-append (λ x. 32 ∷ x) rest (v ∷ more)) (sym (append_assoc w (spaced rest) (32 ∷ (v ++ spaced more))))

words-extra : (ws : List (List ℕ)) → read_words ws ≡ Err Extra → (l : Line) × (more : List ℕ) × IsPrintable l × (spell ws ≡ spelling l ++ 32 ∷ more)
words-extra [] e = absurd cc
words-extra (w ∷ ws) e =
    let on = any_line-extra w ws e in (
      on.0,
      on.2 ++ spaced on.3,
      on.4.0,
      ap (λ l. spell (w ∷ l)) on.5 ∙ spell-more w on.1 on.2 on.3 ∙ ap (λ l. spell l ++ 32 ∷ (on.2 ++ spaced on.3)) (sym on.4.1),
    )

pub line-extra : (bytes : List ℕ) → read_line bytes ≡ Err Extra → (l : Line) × (more : List ℕ) × IsPrintable l × (bytes ≡ spelling l ++ 32 ∷ more)
line-extra bytes e =
    let on = words-extra (pieces 32 bytes) e in
    (on.0, on.1, on.2, sym (join-pieces 32 bytes) ∙ on.3)
