-- `Word` is told exactly where no form has the first word.
use Rattle.std.proofs.Common.{◌≡◌, ◌||◌, ℕ, zero, suc, Bool, true, false, cond, List, [], ◌∷◌, drop, length, Option, Some, Result, Ok, Err, codes, refl, sym, subst, slice_get}
use Rattle.std.proofs.lemmas.Option.{none-some, same_Some}
use Rattle.std.specs.Str.{bytes_eq}
use Rattle.journal_model.specs.declared.lines.Line.{Line}
use Rattle.journal_model.specs.declared.lines.LineFault.{LineFault}
use Rattle.journal_model.specs.declared.lines.LineFault.TheVariants.{Word, Field}
use Rattle.journal_model.specs.Fields.{actor_of, number_of, pieces}
use Rattle.journal_model.specs.Reading.{Form, actor_forms, actor_line, actor_pair_forms, any_line, by_form, cut_forms, end_forms, is_first_word, is_in_table, link_forms, link_line, message_forms, node_forms, node_line, node_pair_forms, pair_line, read_line, read_words, stop_forms}
use Rattle.journal_model.specs.Shapes.{◌>>=◌, cut_fields, end_fields, ended, link_number, message, one_actor, one_node, stop_fields, two_actors, two_nodes, up_to}
use Rattle.event_lines.proofs.FieldFaults.{IsNot, actor-not, before_lost-not, bind-fault, evidence_fields-not, field-not, name-not, named_number-not, node-not, number-not, ok-not, some_of-not, stopped_fields-not}

-- a field is told by its own fault
no_field : Field ≡ Word → ⊥
no_field e = absurd cc

ended-word : (ws : List (List ℕ)) → IsNot Word no_field (ended ws)
ended-word [] e = absurd cc
ended-word (w ∷ ws) e = absurd cc

up_to-word : {A : Type 0} (read : List ℕ → Option A) (most : ℕ) (ws : List (List ℕ)) → IsNot Word no_field (up_to read most ws)
up_to-word read most [] e = absurd cc
up_to-word read zero (w ∷ ws) e = absurd cc
up_to-word read (suc most) (w ∷ ws) e = bind-fault Word no_field _ _ e (field-not Word no_field (read w)) (λ x _ e1. bind-fault Word no_field _ _ e1 (up_to-word read most ws) (λ xs _. ok-not Word no_field (x ∷ xs)))

one_node-word : (ws : List (List ℕ)) → IsNot Word no_field (one_node ws)
one_node-word ws e = bind-fault Word no_field _ _ e (node-not Word no_field ws) (λ n _ e1. bind-fault Word no_field _ _ e1 (ended-word (drop 1 ws)) (λ u _. ok-not Word no_field n))

one_actor-word : (ws : List (List ℕ)) → IsNot Word no_field (one_actor ws)
one_actor-word ws e = bind-fault Word no_field _ _ e (actor-not Word no_field ws) (λ a _ e1. bind-fault Word no_field _ _ e1 (ended-word (drop 1 ws)) (λ u _. ok-not Word no_field a))

two_nodes-word : (ws : List (List ℕ)) → IsNot Word no_field (two_nodes ws)
two_nodes-word ws e = bind-fault Word no_field _ _ e (node-not Word no_field ws) (λ m _ e1. bind-fault Word no_field _ _ e1 (node-not Word no_field (drop 1 ws)) (λ n _ e2. bind-fault Word no_field _ _ e2 (ended-word (drop 2 ws)) (λ u _. ok-not Word no_field (m, n))))

two_actors-word : (ws : List (List ℕ)) → IsNot Word no_field (two_actors ws)
two_actors-word ws e = bind-fault Word no_field _ _ e (actor-not Word no_field ws) (λ a _ e1. bind-fault Word no_field _ _ e1 (actor-not Word no_field (drop 1 ws)) (λ b _ e2. bind-fault Word no_field _ _ e2 (ended-word (drop 2 ws)) (λ u _. ok-not Word no_field (a, b))))

link_number-word : (ws : List (List ℕ)) → IsNot Word no_field (link_number ws)
link_number-word ws e = bind-fault Word no_field _ _ e (node-not Word no_field ws) (λ m _ e1. bind-fault Word no_field _ _ e1 (node-not Word no_field (drop 1 ws)) (λ n _ e2.
    bind-fault Word no_field _ _ e2 (number-not Word no_field (drop 2 ws)) (λ k _ e3. bind-fault Word no_field _ _ e3 (ended-word (drop 3 ws)) (λ u _. ok-not Word no_field (m, n, k)))))

message-word : (ws : List (List ℕ)) → IsNot Word no_field (message ws)
message-word ws e = bind-fault Word no_field _ _ e (actor-not Word no_field ws) (λ a _ e1. bind-fault Word no_field _ _ e1 (actor-not Word no_field (drop 1 ws)) (λ b _ e2. bind-fault Word no_field _ _ e2 (up_to-word actor_of 16 (drop 2 ws)) (λ refs _. ok-not Word no_field (a, b, refs))))

cut_fields-word : (ws : List (List ℕ)) → IsNot Word no_field (cut_fields ws)
cut_fields-word ws e = bind-fault Word no_field _ _ e (node-not Word no_field ws) (λ m _ e1. bind-fault Word no_field _ _ e1 (before_lost-not Word no_field 16 (drop 1 ws)) (λ r _ e2.
    bind-fault Word no_field _ _ e2 (some_of-not Word no_field r.0) (λ u _ e3. bind-fault Word no_field _ _ e3 (up_to-word (number_of 16) 16 r.1) (λ lost _. ok-not Word no_field (m, r.0, lost)))))

stop_fields-word : (ws : List (List ℕ)) → IsNot Word no_field (stop_fields ws)
stop_fields-word ws e = bind-fault Word no_field _ _ e (stopped_fields-not Word no_field ws) (λ s _ e1. bind-fault Word no_field _ _ e1 (evidence_fields-not Word no_field (drop 3 ws)) (λ n _ e2.
    bind-fault Word no_field _ _ e2 (name-not Word no_field (codes "owners") (drop 9 ws)) (λ u _ e3. bind-fault Word no_field _ _ e3 (up_to-word actor_of (length (drop 10 ws)) (drop 10 ws)) (λ owners _.
    ok-not Word no_field (s.1, record { actor = s.0; received = n.0; told = n.1; admitted = n.2; owners = owners })))))

end_fields-word : (ws : List (List ℕ)) → IsNot Word no_field (end_fields ws)
end_fields-word ws e = bind-fault Word no_field _ _ e (named_number-not Word no_field (codes "events") ws) (λ events _ e1.
    bind-fault Word no_field _ _ e1 (named_number-not Word no_field (codes "stopped") (drop 2 ws)) (λ stopped _ e2. bind-fault Word no_field _ _ e2 (ended-word (drop 4 ws)) (λ u _. ok-not Word no_field (events, stopped))))

-- `Word` is told exactly where the word is not known
abbrev TellsWord : Bool → Result Line LineFault → Type 0
TellsWord known r = (r ≡ Err Word → known ≡ false) × (known ≡ false → r ≡ Err Word)

-- so with more forms, whose fields are of no word
module _ {A : Type 0} (fields : Result A LineFault) (no_word : IsNot Word no_field fields) (w : List ℕ) (other : Result Line LineFault) (known : Bool) (tells : TellsWord known other) where
  by_form-word : (forms : List (Form A)) → TellsWord (is_in_table forms w || known) (by_form forms fields w other)
  by_form-word [] = tells
  by_form-word (form ∷ forms) = chosen (by_form-word forms) (bytes_eq w form.0) where
    chosen : TellsWord (is_in_table forms w || known) (by_form forms fields w other) → (b : Bool) → TellsWord ((b || is_in_table forms w) || known) (cond b (fields >>= λ x. Ok (form.1 x)) (by_form forms fields w other))
    chosen later true = ((λ e. absurd (bind-fault Word no_field fields (λ x. Ok (form.1 x)) e no_word (λ x _. ok-not Word no_field (form.1 x)))), (λ e. absurd cc))
    chosen later false = later

-- and with these forms alone
by_form-last : {A : Type 0} (fields : Result A LineFault) → IsNot Word no_field fields → (w : List ℕ) (forms : List (Form A)) → TellsWord (is_in_table forms w) (by_form forms fields w (Err Word))
by_form-last fields no_word w forms =
    subst (λ (known : Bool). TellsWord known (by_form forms fields w (Err Word))) (or-false (is_in_table forms w)) (by_form-word fields no_word w (Err Word) false ((λ e. refl), (λ e. refl)) forms) where
      or-false : (b : Bool) → (b || false) ≡ b
      or-false true = refl
      or-false false = refl

any_line-word : (w : List ℕ) (ws : List (List ℕ)) → TellsWord (is_first_word w) (any_line w ws)
unfolding any_line actor_line node_line pair_line link_line
any_line-word w ws =
    by_form-word (message ws) (message-word ws) w _ _
    (by_form-word (cut_fields ws) (cut_fields-word ws) w _ _
    (by_form-word (stop_fields ws) (stop_fields-word ws) w _ _
    (by_form-word (one_actor ws) (one_actor-word ws) w _ _
    (by_form-word (one_node ws) (one_node-word ws) w _ _
    (by_form-word (two_actors ws) (two_actors-word ws) w _ _
    (by_form-word (two_nodes ws) (two_nodes-word ws) w _ _
    (by_form-word (link_number ws) (link_number-word ws) w _ _
    (by_form-last (end_fields ws) (end_fields-word ws) w end_forms) link_forms) node_pair_forms) actor_pair_forms) node_forms) actor_forms) stop_forms) cut_forms) message_forms

words-word : (ws : List (List ℕ)) (w : List ℕ) → slice_get ws 0 ≡ Some w → TellsWord (is_first_word w) (read_words ws)
words-word [] w first = absurd (none-some w first)
words-word (v ∷ ws) w first = let same : v ≡ w = same_Some v w first in rw (sym same) (any_line-word v ws)

pub line-word : (bytes w : List ℕ) → slice_get (pieces 32 bytes) 0 ≡ Some w → TellsWord (is_first_word w) (read_line bytes)
line-word bytes w first = words-word (pieces 32 bytes) w first
