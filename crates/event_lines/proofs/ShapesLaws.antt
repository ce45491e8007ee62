-- What the words after the first say is what spells them.
use Rattle.std.proofs.Common.{◌≡◌, ◌<◌, ◌≤◌, ◌^◌, ◌+◌, ℕ, zero, suc, Bool, true, false, cond, List, [], ◌∷◌, ◌++◌, length, map, drop, Option, Some, None, Result, Ok, Err, codes, refl, sym, ◌∙◌, ap, subst, arith}
use Rattle.std.proofs.lemmas.List.{drop-drop, length-map}
use Rattle.std.proofs.lemmas.Option.{none-some}
use Rattle.std.proofs.lemmas.Slice.Eq.{bytes_eq-Decides}
use Rattle.std.specs.Fmt.{decimal, digits}
use Rattle.std.specs.List.{AllByRecursion}
use Rattle.std.specs.Str.{bytes_eq}
use Rattle.crgc_ids.specs.Actor.{Actor, IsActor}
use Rattle.history_model.specs.declared.records.Stop.{Stop}
use Rattle.journal_model.specs.declared.lines.LineFault.{LineFault}
use Rattle.journal_model.specs.Fields.{actor_of, first_name, number_of}
use Rattle.journal_model.specs.Lines.{actor_word, AreActors, IsNodeNumber, IsNumber, IsPrintableCut, IsPrintableStop}
use Rattle.journal_model.specs.Shapes.{◌>>=◌, actor_field, before_lost, cut_fields, end_fields, ended, evidence_fields, field, link_number, message, name_field, named_number, node_field, number_field, one_actor, one_node, some_of, stop_fields, stopped_fields, two_actors, two_nodes, up_to}
use Rattle.event_lines.proofs.FieldsLaws.{actor_of-some, actor_of-word, first_actor-some, first_number-some, number_of-decimal, number_of-some}

-- what is read of something says what was read before
pub bind-ok : {A B G : Type 0} (r : Result A LineFault) (f : A → Result B LineFault) (y : B) → (r >>= f) ≡ Ok y → ((x : A) → r ≡ Ok x → f x ≡ Ok y → G) → G
bind-ok (Ok x) f y e go = go x refl e
bind-ok (Err fault) f y e go = absurd cc

pub made : {A : Type 0} {E : Type 0} (P : A → Type 0) (x y : A) → ◌≡◌ {A = Result A E} (Ok x) (Ok y) → P x → P y
made P x y e h = let same : x ≡ y = cc in subst P same h

pub field-ok : {A : Type 0} (o : Option A) (x : A) → field o ≡ Ok x → o ≡ Some x
field-ok None x e = absurd cc
field-ok (Some y) x e = ap Some (let same : y ≡ x = cc in same)

ended-ok : (ws : List (List ℕ)) (u : Unit {0}) → ended ws ≡ Ok u → ws ≡ []
ended-ok [] u e = refl
ended-ok (w ∷ ws) u e = absurd cc

-- each field is read from its word, at any place

pub node_field-ok : (k : ℕ) (ws : List (List ℕ)) (n : ℕ) → node_field (drop k ws) ≡ Ok n → (n < 16) × (drop k ws ≡ decimal n ∷ drop (k + 1) ws)
node_field-ok k ws n e =
    let s = first_number-some 16 n (drop k ws) (field-ok _ n e) in
    (s.0, s.1 ∙ ap (λ l. decimal n ∷ l) (drop-drop 1 k ws))

pub number_field-ok : (k : ℕ) (ws : List (List ℕ)) (n : ℕ) → number_field (drop k ws) ≡ Ok n → (n < 2 ^ 32) × (drop k ws ≡ decimal n ∷ drop (k + 1) ws)
number_field-ok k ws n e =
    let s = first_number-some (2 ^ 32) n (drop k ws) (field-ok _ n e) in
    (s.0, s.1 ∙ ap (λ l. decimal n ∷ l) (drop-drop 1 k ws))

pub actor_field-ok : (k : ℕ) (ws : List (List ℕ)) (a : Actor) → actor_field (drop k ws) ≡ Ok a → IsActor a × (drop k ws ≡ actor_word a ∷ drop (k + 1) ws)
actor_field-ok k ws a e =
    let s = first_actor-some a (drop k ws) (field-ok _ a e) in
    (s.0, s.1 ∙ ap (λ l. actor_word a ∷ l) (drop-drop 1 k ws))

chosen_name : (b : Bool) (u : Unit {0}) → cond b (Some tt) None ≡ Some u → b ≡ true
chosen_name true u e = refl
chosen_name false u e = absurd (none-some u e)

pub first_name-some : (text : List ℕ) (ws : List (List ℕ)) (u : Unit {0}) → first_name text ws ≡ Some u → ws ≡ text ∷ drop 1 ws
first_name-some text [] u e = absurd (none-some u e)
first_name-some text (w ∷ ws) u e = ap (λ v. v ∷ ws) ((bytes_eq-Decides w text).0 (chosen_name (bytes_eq w text) u e))

name_field-ok : (text : List ℕ) (k : ℕ) (ws : List (List ℕ)) (u : Unit {0}) → name_field text (drop k ws) ≡ Ok u → drop k ws ≡ text ∷ drop (k + 1) ws
name_field-ok text k ws u e =
    first_name-some text (drop k ws) u (field-ok _ u e) ∙ ap (λ l. text ∷ l) (drop-drop 1 k ws)

pub named_number-ok : (text : List ℕ) (k : ℕ) (ws : List (List ℕ)) (n : ℕ) → named_number text (drop k ws) ≡ Ok n → (n < 2 ^ 32) × (drop k ws ≡ text ∷ decimal n ∷ drop (k + 2) ws)
named_number-ok text k ws n e = bind-ok _ _ n e (λ u eu en.
    let name = name_field-ok text 0 (drop k ws) u eu in
    let number = number_field-ok 1 (drop k ws) n en in
    (number.0, name ∙ ap (λ l. text ∷ l) (number.1 ∙ ap (λ l. decimal n ∷ l) (drop-drop 2 k ws))))

-- fields of one kind

module _ {A : Type 0} (read : List ℕ → Option A) (IsGood : A → Type 0) (word : A → List ℕ) where
  up_to-ok : ((x : A) (w : List ℕ) → read w ≡ Some x → IsGood x × (word x ≡ w)) → (most : ℕ) (ws : List (List ℕ)) (xs : List A) → up_to read most ws ≡ Ok xs → AllByRecursion IsGood xs × (length xs ≤ most) × (ws ≡ map word xs)
  up_to-ok good most [] xs e = made (λ (l : List A). AllByRecursion IsGood l × (length l ≤ most) × ([] ≡ map word l)) [] xs e (tt, omega arith, refl)
  up_to-ok good zero (w ∷ ws) xs e = absurd cc
  up_to-ok good (suc most) (w ∷ ws) xs e = bind-ok _ _ xs e (λ x ex e'. bind-ok _ _ xs e' (λ ys eys same.
      let first = good x w (field-ok _ x ex) in
      let rest = up_to-ok good most ws ys eys in
      made (λ (l : List A). AllByRecursion IsGood l × (length l ≤ suc most) × (w ∷ ws ≡ map word l)) (x ∷ ys) xs same
      ((first.0, rest.0), omega (arith, rest.1), (λ i. sym first.1 i ∷ rest.2 i))))

  up_to-words : ((x : A) → IsGood x → read (word x) ≡ Some x) → (most : ℕ) (xs : List A) → AllByRecursion IsGood xs → length xs ≤ most → up_to read most (map word xs) ≡ Ok xs
  up_to-words reads most [] h few = refl
  up_to-words reads zero (x ∷ xs) h few = absurd (omega arith)
  up_to-words reads (suc most) (x ∷ xs) h few = rw (reads x h.0, up_to-words reads most xs h.1 (omega arith)) refl

actors-ok : (most : ℕ) (ws : List (List ℕ)) (as_ : List Actor) → up_to actor_of most ws ≡ Ok as_ → AreActors as_ × (length as_ ≤ most) × (ws ≡ map actor_word as_)
actors-ok most ws as_ e = up_to-ok actor_of IsActor actor_word actor_of-some most ws as_ e

actors-words : (most : ℕ) (as_ : List Actor) → AreActors as_ → length as_ ≤ most → up_to actor_of most (map actor_word as_) ≡ Ok as_
actors-words most as_ h few = up_to-words actor_of IsActor actor_word actor_of-word most as_ h few

nodes-ok : (most : ℕ) (ws : List (List ℕ)) (ns : List ℕ) → up_to (number_of 16) most ws ≡ Ok ns → AllByRecursion IsNodeNumber ns × (length ns ≤ most) × (ws ≡ map decimal ns)
nodes-ok most ws ns e = up_to-ok (number_of 16) IsNodeNumber decimal (number_of-some 16) most ws ns e

nodes-words : (most : ℕ) (ns : List ℕ) → AllByRecursion IsNodeNumber ns → length ns ≤ most → up_to (number_of 16) most (map decimal ns) ≡ Ok ns
nodes-words most ns h few = up_to-words (number_of 16) IsNodeNumber decimal (λ n l. number_of-decimal 16 n (omega arith) l) most ns h few

-- the counts of a cut

abbrev IsCounted : ℕ → List (List ℕ) → List ℕ × List (List ℕ) → Type 0
IsCounted most ws r = AllByRecursion IsNumber r.0 × (length r.0 ≤ most) × (ws ≡ map decimal r.0 ++ codes "lost" ∷ r.1)

lost-here : (most : ℕ) (w : List ℕ) (ws : List (List ℕ)) (r : List ℕ × List (List ℕ)) → bytes_eq w (codes "lost") ≡ true → ◌≡◌ {A = Result (List ℕ × List (List ℕ)) LineFault} (Ok ([], ws)) (Ok r) → IsCounted most (w ∷ ws) r
lost-here most w ws r same e =
    made (IsCounted most (w ∷ ws)) ([], ws) r e (tt, omega arith, ap (λ v. v ∷ ws) ((bytes_eq-Decides w (codes "lost")).0 same))

pub before_lost-ok : (most : ℕ) (ws : List (List ℕ)) (r : List ℕ × List (List ℕ)) → before_lost most ws ≡ Ok r → IsCounted most ws r
before_lost-ok most [] r e = absurd cc
before_lost-ok zero (w ∷ ws) r e = chosen (bytes_eq w (codes "lost")) refl e where
  chosen : (b : Bool) → bytes_eq w (codes "lost") ≡ b → ◌≡◌ {A = Result (List ℕ × List (List ℕ)) LineFault} (cond b (Ok ([], ws)) (field None)) (Ok r) → IsCounted zero (w ∷ ws) r
  chosen true same e = lost-here zero w ws r same e
  chosen false other e = absurd cc
before_lost-ok (suc most) (w ∷ ws) r e = chosen (λ p ep. before_lost-ok most ws p ep) (bytes_eq w (codes "lost")) refl e where
  chosen : ((p : List ℕ × List (List ℕ)) → before_lost most ws ≡ Ok p → IsCounted most ws p) → (b : Bool) → bytes_eq w (codes "lost") ≡ b → cond b (Ok ([], ws)) (field (number_of (2 ^ 32) w) >>= λ n. before_lost most ws >>= λ p. Ok (n ∷ p.0, p.1)) ≡ Ok r → IsCounted (suc most) (w ∷ ws) r
  chosen later true same e = lost-here (suc most) w ws r same e
  chosen later false other e = bind-ok _ _ r e (λ n en e'. bind-ok _ _ r e' (λ p ep same.
      let first = number_of-some (2 ^ 32) n w (field-ok _ n en) in
      let rest = later p ep in
      made (IsCounted (suc most) (w ∷ ws)) (n ∷ p.0, p.1) r same
      ((first.0, rest.0), omega (arith, rest.1), (λ i. sym first.1 i ∷ rest.2 i))))

-- no number is spelled `lost`
lost-no_number : (n : ℕ) → n < 2 ^ 32 → bytes_eq (decimal n) (codes "lost") ≡ false
unfolding number_of digits
lost-no_number n h = chosen (bytes_eq (decimal n) (codes "lost")) refl where
  chosen : (b : Bool) → bytes_eq (decimal n) (codes "lost") ≡ b → b ≡ false
  chosen false e = refl
  chosen true e =
      let same = (bytes_eq-Decides (decimal n) (codes "lost")).0 e in
      absurd (none-some n (ap (number_of (2 ^ 32)) (sym same) ∙ number_of-decimal (2 ^ 32) n (omega arith) h))

before_lost-words : (most : ℕ) (ns : List ℕ) (ws : List (List ℕ)) → AllByRecursion IsNumber ns → length ns ≤ most → before_lost most (map decimal ns ++ codes "lost" ∷ ws) ≡ Ok (ns, ws)
before_lost-words zero [] ws h few = refl
before_lost-words (suc most) [] ws h few = refl
before_lost-words zero (n ∷ ns) ws h few = absurd (omega arith)
before_lost-words (suc most) (n ∷ ns) ws h few =
    rw (lost-no_number n h.0, number_of-decimal (2 ^ 32) n (omega arith) h.0, before_lost-words most ns ws h.1 (omega arith)) refl

pub some-ok : (ns : List ℕ) (u : Unit {0}) → some_of ns ≡ Ok u → 1 ≤ length ns
some-ok [] u e = absurd cc
some-ok (n ∷ ns) u e = omega arith

some-words : (ns : List ℕ) → 1 ≤ length ns → some_of ns ≡ Ok tt
some-words [] h = absurd (omega arith)
some-words (n ∷ ns) h = refl

-- each shape is read from its spelling

pub one_node-words : (n : ℕ) → n < 16 → one_node (decimal n ∷ []) ≡ Ok n
one_node-words n h = rw (number_of-decimal 16 n (omega arith) h) refl

pub one_actor-words : (a : Actor) → IsActor a → one_actor (actor_word a ∷ []) ≡ Ok a
one_actor-words a h = rw (actor_of-word a h) refl

pub two_nodes-words : (m n : ℕ) → m < 16 → n < 16 → two_nodes (decimal m ∷ decimal n ∷ []) ≡ Ok (m, n)
two_nodes-words m n g h = rw (number_of-decimal 16 m (omega arith) g) (rw (number_of-decimal 16 n (omega arith) h) refl)

pub two_actors-words : (a b : Actor) → IsActor a → IsActor b → two_actors (actor_word a ∷ actor_word b ∷ []) ≡ Ok (a, b)
two_actors-words a b g h = rw (actor_of-word a g) (rw (actor_of-word b h) refl)

pub link_number-words : (m n k : ℕ) → m < 16 → n < 16 → k < 2 ^ 32 → link_number (decimal m ∷ decimal n ∷ decimal k ∷ []) ≡ Ok (m, n, k)
link_number-words m n k g h l =
    rw (number_of-decimal 16 m (omega arith) g) (rw (number_of-decimal 16 n (omega arith) h) (rw (number_of-decimal (2 ^ 32) k (omega arith) l) refl))

pub message-words : (a b : Actor) (refs : List Actor) → IsActor a → IsActor b → AreActors refs → length refs ≤ 16 → message (actor_word a ∷ actor_word b ∷ map actor_word refs) ≡ Ok (a, b, refs)
message-words a b refs g h names few = rw (actor_of-word a g) (rw (actor_of-word b h) (rw (actors-words 16 refs names few) refl))

pub cut_fields-words : (m : ℕ) (counts lost : List ℕ) → IsPrintableCut m counts lost → cut_fields (decimal m ∷ (map decimal counts ++ codes "lost" ∷ map decimal lost)) ≡ Ok (m, counts, lost)
cut_fields-words m counts lost h =
    rw (number_of-decimal 16 m (omega arith) h.0)
    (rw (before_lost-words 16 counts (map decimal lost) h.3 h.2) (rw (some-words counts h.1) (rw (nodes-words 16 lost h.5 h.4) refl)))

-- the words of a stop after the first
abbrev pub stop_rest : ℕ × Stop → List (List ℕ)
stop_rest s =
    actor_word s.1.actor ∷ codes "by" ∷ decimal s.0 ∷ codes "received" ∷ decimal s.1.received ∷ codes "told" ∷ decimal s.1.told
    ∷ codes "admitted" ∷ decimal s.1.admitted ∷ codes "owners" ∷ map actor_word s.1.owners

pub stop_fields-words : (s : ℕ × Stop) → IsPrintableStop s.0 s.1 → stop_fields (stop_rest s) ≡ Ok s
stop_fields-words s h =
    rw (actor_of-word s.1.actor h.1)
    (rw (number_of-decimal 16 s.0 (omega arith) h.0)
    (rw (number_of-decimal (2 ^ 32) s.1.received (omega arith) h.2)
    (rw (number_of-decimal (2 ^ 32) s.1.told (omega arith) h.3)
    (rw (number_of-decimal (2 ^ 32) s.1.admitted (omega arith) h.4)
    (rw (actors-words (length (map actor_word s.1.owners)) s.1.owners h.5 (omega (arith, length-map s.1.owners actor_word))) refl)))))

pub end_fields-words : (events stopped : ℕ) → events < 2 ^ 32 → stopped < 2 ^ 32 → end_fields (codes "events" ∷ decimal events ∷ codes "stopped" ∷ decimal stopped ∷ []) ≡ Ok (events, stopped)
end_fields-words events stopped g h =
    rw (number_of-decimal (2 ^ 32) events (omega arith) g) (rw (number_of-decimal (2 ^ 32) stopped (omega arith) h) refl)

-- what each shape reads is spelled so

pub one_node-ok : (ws : List (List ℕ)) (n : ℕ) → one_node ws ≡ Ok n → (n < 16) × (ws ≡ decimal n ∷ [])
one_node-ok ws n e = bind-ok _ _ n e (λ m em e'. bind-ok _ _ n e' (λ u eu same.
    let node = node_field-ok 0 ws m em in
    made (λ (x : ℕ). (x < 16) × (ws ≡ decimal x ∷ [])) m n same (node.0, node.1 ∙ ap (λ l. decimal m ∷ l) (ended-ok (drop 1 ws) u eu))))

pub one_actor-ok : (ws : List (List ℕ)) (a : Actor) → one_actor ws ≡ Ok a → IsActor a × (ws ≡ actor_word a ∷ [])
one_actor-ok ws a e = bind-ok _ _ a e (λ b eb e'. bind-ok _ _ a e' (λ u eu same.
    let actor = actor_field-ok 0 ws b eb in
    made (λ (x : Actor). IsActor x × (ws ≡ actor_word x ∷ [])) b a same (actor.0, actor.1 ∙ ap (λ l. actor_word b ∷ l) (ended-ok (drop 1 ws) u eu))))

pub two_nodes-ok : (ws : List (List ℕ)) (p : ℕ × ℕ) → two_nodes ws ≡ Ok p → ((p.0 < 16) × (p.1 < 16)) × (ws ≡ decimal p.0 ∷ decimal p.1 ∷ [])
two_nodes-ok ws p e = bind-ok _ _ p e (λ m em e'. bind-ok _ _ p e' (λ n en e''. bind-ok _ _ p e'' (λ u eu same.
    let first = node_field-ok 0 ws m em in
    let second = node_field-ok 1 ws n en in
    made (λ (x : ℕ × ℕ). ((x.0 < 16) × (x.1 < 16)) × (ws ≡ decimal x.0 ∷ decimal x.1 ∷ [])) (m, n) p same
    ((first.0, second.0), first.1 ∙ ap (λ l. decimal m ∷ l) (second.1 ∙ ap (λ l. decimal n ∷ l) (ended-ok (drop 2 ws) u eu))))))

pub two_actors-ok : (ws : List (List ℕ)) (p : Actor × Actor) → two_actors ws ≡ Ok p → (IsActor p.0 × IsActor p.1) × (ws ≡ actor_word p.0 ∷ actor_word p.1 ∷ [])
two_actors-ok ws p e = bind-ok _ _ p e (λ a ea e'. bind-ok _ _ p e' (λ b eb e''. bind-ok _ _ p e'' (λ u eu same.
    let first = actor_field-ok 0 ws a ea in
    let second = actor_field-ok 1 ws b eb in
    made (λ (x : Actor × Actor). (IsActor x.0 × IsActor x.1) × (ws ≡ actor_word x.0 ∷ actor_word x.1 ∷ [])) (a, b) p same
    ((first.0, second.0), first.1 ∙ ap (λ l. actor_word a ∷ l) (second.1 ∙ ap (λ l. actor_word b ∷ l) (ended-ok (drop 2 ws) u eu))))))

pub link_number-ok : (ws : List (List ℕ)) (p : ℕ × ℕ × ℕ) → link_number ws ≡ Ok p → ((p.0 < 16) × (p.1 < 16) × (p.2 < 2 ^ 32)) × (ws ≡ decimal p.0 ∷ decimal p.1 ∷ decimal p.2 ∷ [])
link_number-ok ws p e = bind-ok _ _ p e (λ m em e1. bind-ok _ _ p e1 (λ n en e2. bind-ok _ _ p e2 (λ k ek e3. bind-ok _ _ p e3 (λ u eu same.
    let first = node_field-ok 0 ws m em in
    let second = node_field-ok 1 ws n en in
    let third = number_field-ok 2 ws k ek in
    made (λ (x : ℕ × ℕ × ℕ). ((x.0 < 16) × (x.1 < 16) × (x.2 < 2 ^ 32)) × (ws ≡ decimal x.0 ∷ decimal x.1 ∷ decimal x.2 ∷ [])) (m, n, k) p same
    ((first.0, second.0, third.0), first.1 ∙ ap (λ l. decimal m ∷ l) (second.1 ∙ ap (λ l. decimal n ∷ l) (third.1 ∙ ap (λ l. decimal k ∷ l) (ended-ok (drop 3 ws) u eu))))))))

pub message-ok : (ws : List (List ℕ)) (m : Actor × Actor × List Actor) → message ws ≡ Ok m → (IsActor m.0 × IsActor m.1 × AreActors m.2 × (length m.2 ≤ 16)) × (ws ≡ actor_word m.0 ∷ actor_word m.1 ∷ map actor_word m.2)
message-ok ws m e = bind-ok _ _ m e (λ a ea e1. bind-ok _ _ m e1 (λ b eb e2. bind-ok _ _ m e2 (λ refs er same.
    let first = actor_field-ok 0 ws a ea in
    let second = actor_field-ok 1 ws b eb in
    let rest = actors-ok 16 (drop 2 ws) refs er in
    made (λ (x : Actor × Actor × List Actor). (IsActor x.0 × IsActor x.1 × AreActors x.2 × (length x.2 ≤ 16)) × (ws ≡ actor_word x.0 ∷ actor_word x.1 ∷ map actor_word x.2)) (a, b, refs) m same
    ((first.0, second.0, rest.0, rest.1), first.1 ∙ ap (λ l. actor_word a ∷ l) (second.1 ∙ ap (λ l. actor_word b ∷ l) rest.2)))))

pub cut_fields-ok : (ws : List (List ℕ)) (c : ℕ × List ℕ × List ℕ) → cut_fields ws ≡ Ok c → IsPrintableCut c.0 c.1 c.2 × (ws ≡ decimal c.0 ∷ (map decimal c.1 ++ codes "lost" ∷ map decimal c.2))
cut_fields-ok ws c e = bind-ok _ _ c e (λ m em e1. bind-ok _ _ c e1 (λ r er e2. bind-ok _ _ c e2 (λ u eu e3. bind-ok _ _ c e3 (λ lost el same.
    let node = node_field-ok 0 ws m em in
    let counts = before_lost-ok 16 (drop 1 ws) r er in
    let some = some-ok r.0 u eu in
    let rest = nodes-ok 16 r.1 lost el in
    made (λ (x : ℕ × List ℕ × List ℕ). IsPrintableCut x.0 x.1 x.2 × (ws ≡ decimal x.0 ∷ (map decimal x.1 ++ codes "lost" ∷ map decimal x.2))) (m, r.0, lost) c same
    ((node.0, some, counts.1, counts.0, rest.1, rest.0), node.1 ∙ ap (λ l. decimal m ∷ l) (counts.2 ∙ ap (λ l. map decimal r.0 ++ codes "lost" ∷ l) rest.2))))))

evidence_fields-ok : (k : ℕ) (ws : List (List ℕ)) (p : ℕ × ℕ × ℕ) → evidence_fields (drop k ws) ≡ Ok p
    → ((p.0 < 2 ^ 32) × (p.1 < 2 ^ 32) × (p.2 < 2 ^ 32)) × (drop k ws ≡ codes "received" ∷ decimal p.0 ∷ codes "told" ∷ decimal p.1 ∷ codes "admitted" ∷ decimal p.2 ∷ drop (k + 6) ws)
evidence_fields-ok k ws p e = bind-ok _ _ p e (λ received er e1. bind-ok _ _ p e1 (λ told et e2. bind-ok _ _ p e2 (λ admitted ea same.
    let first = named_number-ok (codes "received") 0 (drop k ws) received er in
    let second = named_number-ok (codes "told") 2 (drop k ws) told et in
    let third = named_number-ok (codes "admitted") 4 (drop k ws) admitted ea in
    made (λ (x : ℕ × ℕ × ℕ). ((x.0 < 2 ^ 32) × (x.1 < 2 ^ 32) × (x.2 < 2 ^ 32)) × (drop k ws ≡ codes "received" ∷ decimal x.0 ∷ codes "told" ∷ decimal x.1 ∷ codes "admitted" ∷ decimal x.2 ∷ drop (k + 6) ws)) (received, told, admitted) p same (
      (first.0, second.0, third.0),
      first.1 ∙ ap (λ l. codes "received" ∷ decimal received ∷ l) (second.1 ∙ ap (λ l. codes "told" ∷ decimal told ∷ l)
          (third.1 ∙ ap (λ l. codes "admitted" ∷ decimal admitted ∷ l) (drop-drop 6 k ws))),
    ))))

stopped_fields-ok : (ws : List (List ℕ)) (p : Actor × ℕ) → stopped_fields ws ≡ Ok p → (IsActor p.0 × (p.1 < 16)) × (ws ≡ actor_word p.0 ∷ codes "by" ∷ decimal p.1 ∷ drop 3 ws)
stopped_fields-ok ws p e = bind-ok _ _ p e (λ a ea e1. bind-ok _ _ p e1 (λ u eu e2. bind-ok _ _ p e2 (λ m em same.
    let actor = actor_field-ok 0 ws a ea in
    let by = name_field-ok (codes "by") 1 ws u eu in
    let node = node_field-ok 2 ws m em in
    made (λ (x : Actor × ℕ). (IsActor x.0 × (x.1 < 16)) × (ws ≡ actor_word x.0 ∷ codes "by" ∷ decimal x.1 ∷ drop 3 ws)) (a, m) p same
    ((actor.0, node.0), actor.1 ∙ ap (λ l. actor_word a ∷ l) (by ∙ ap (λ l. codes "by" ∷ l) node.1)))))

pub stop_fields-ok : (ws : List (List ℕ)) (s : ℕ × Stop) → stop_fields ws ≡ Ok s → IsPrintableStop s.0 s.1 × (ws ≡ stop_rest s)
stop_fields-ok ws s e = bind-ok _ _ s e (λ p ep e1. bind-ok _ _ s e1 (λ n en e2. bind-ok _ _ s e2 (λ v ev e3. bind-ok _ _ s e3 (λ owners eo same.
    let who = stopped_fields-ok ws p ep in
    let numbers = evidence_fields-ok 3 ws n en in
    let named = name_field-ok (codes "owners") 9 ws v ev in
    let rest = actors-ok (length (drop 10 ws)) (drop 10 ws) owners eo in
    made (λ (x : ℕ × Stop). IsPrintableStop x.0 x.1 × (ws ≡ stop_rest x))
    (p.1, record { actor = p.0; received = n.0; told = n.1; admitted = n.2; owners = owners }) s same (
      (who.0.1, who.0.0, numbers.0.0, numbers.0.1, numbers.0.2, rest.0),
      who.1 ∙ ap (λ l. actor_word p.0 ∷ codes "by" ∷ decimal p.1 ∷ l)
          (numbers.1 ∙ ap (λ l. codes "received" ∷ decimal n.0 ∷ codes "told" ∷ decimal n.1 ∷ codes "admitted" ∷ decimal n.2 ∷ l)
          (named ∙ ap (λ l. codes "owners" ∷ l) rest.2)),
    )))))

pub end_fields-ok : (ws : List (List ℕ)) (p : ℕ × ℕ) → end_fields ws ≡ Ok p → ((p.0 < 2 ^ 32) × (p.1 < 2 ^ 32)) × (ws ≡ codes "events" ∷ decimal p.0 ∷ codes "stopped" ∷ decimal p.1 ∷ [])
end_fields-ok ws p e = bind-ok _ _ p e (λ events ee e1. bind-ok _ _ p e1 (λ stopped es e2. bind-ok _ _ p e2 (λ u eu same.
    let first = named_number-ok (codes "events") 0 ws events ee in
    let second = named_number-ok (codes "stopped") 2 ws stopped es in
    made (λ (x : ℕ × ℕ). ((x.0 < 2 ^ 32) × (x.1 < 2 ^ 32)) × (ws ≡ codes "events" ∷ decimal x.0 ∷ codes "stopped" ∷ decimal x.1 ∷ [])) (events, stopped) p same
    ((first.0, second.0), first.1 ∙ ap (λ l. codes "events" ∷ decimal events ∷ l) (second.1 ∙ ap (λ l. codes "stopped" ∷ decimal stopped ∷ l) (ended-ok (drop 4 ws) u eu))))))
