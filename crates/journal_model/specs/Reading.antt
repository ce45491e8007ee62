-- What a line says, or its first fault.
use Rattle.std.specs.Prelude.{ℕ, ◌||◌, Bool, if◌then◌else◌, List, [], ◌∷◌, codes, Result, Ok, Err}
use Rattle.std.specs.List.{list_any}
use Rattle.std.specs.Str.{bytes_eq}
use Rattle.crgc_ids.specs.Actor.{Actor}
use Rattle.history_model.specs.declared.events.Event.TheVariants.{Seed, Tie, Wake, Take, Spawn, Send, Drop, Retire, Rest, Flush, Publish, Window, Admit, Lose, Repeat, Crash, Remove, Hand, Sweep}
use Rattle.history_model.specs.declared.records.Stop.{Stop}
use Rattle.journal_model.specs.declared.lines.Line.{Line}
use Rattle.journal_model.specs.declared.lines.Line.TheVariants as lines
use Rattle.journal_model.specs.declared.lines.LineFault.{LineFault}
use Rattle.journal_model.specs.declared.lines.LineFault.TheVariants.{Word}
use Rattle.journal_model.specs.Fields.{pieces}
use Rattle.journal_model.specs.Shapes.{◌>>=◌, cut_fields, end_fields, link_number, message, one_actor, one_node, stop_fields, two_actors, two_nodes}

-- a form: its first word, and the line that it makes of its fields
abbrev pub Form : Type 0 → Type 0
Form A = List ℕ × (A → Line)

abbrev pub node_forms : List (Form ℕ)
node_forms =
    (codes "seed", λ n. lines.Event (Seed n)) ∷ (codes "publish", λ n. lines.Event (Publish n))
    ∷ (codes "crash", λ n. lines.Event (Crash n)) ∷ (codes "sweep", λ n. lines.Event (Sweep n)) ∷ []

abbrev pub actor_forms : List (Form Actor)
actor_forms =
    (codes "wake", λ a. lines.Event (Wake a)) ∷ (codes "take", λ a. lines.Event (Take a))
    ∷ (codes "spawn", λ a. lines.Event (Spawn a)) ∷ (codes "retire", λ a. lines.Event (Retire a))
    ∷ (codes "rest", λ a. lines.Event (Rest a)) ∷ (codes "flush", λ a. lines.Event (Flush a)) ∷ []

abbrev pub actor_pair_forms : List (Form (Actor × Actor))
actor_pair_forms = (codes "tie", λ p. lines.Event (Tie p.0 p.1)) ∷ (codes "drop", λ p. lines.Event (Drop p.0 p.1)) ∷ []

abbrev pub node_pair_forms : List (Form (ℕ × ℕ))
node_pair_forms = (codes "window", λ p. lines.Event (Window p.0 p.1)) ∷ (codes "remove", λ p. lines.Event (Remove p.0 p.1)) ∷ []

abbrev pub link_forms : List (Form (ℕ × ℕ × ℕ))
link_forms =
    (codes "admit", λ l. lines.Event (Admit l.0 l.1 l.2)) ∷ (codes "lose", λ l. lines.Event (Lose l.0 l.1 l.2))
    ∷ (codes "repeat", λ l. lines.Event (Repeat l.0 l.1 l.2)) ∷ (codes "hand", λ l. lines.Event (Hand l.0 l.1 l.2)) ∷ []

abbrev pub message_forms : List (Form (Actor × Actor × List Actor))
message_forms = (codes "send", λ m. lines.Event (Send m.0 m.1 m.2)) ∷ []

abbrev pub cut_forms : List (Form (ℕ × List ℕ × List ℕ))
cut_forms = (codes "cut", λ c. lines.Cut c.0 c.1 c.2) ∷ []

abbrev pub stop_forms : List (Form (ℕ × Stop))
stop_forms = (codes "stop", λ s. lines.Stop s.0 s.1) ∷ []

abbrev pub end_forms : List (Form (ℕ × ℕ))
end_forms = (codes "end", λ e. lines.End e.0 e.1) ∷ []

-- the word is the first one of a form of the table
abbrev pub is_in_table : {A : Type 0} → List (Form A) → List ℕ → Bool
is_in_table forms word = list_any (λ form. bytes_eq word form.0) forms

-- the word is the first one of some form
abbrev pub is_first_word : List ℕ → Bool
is_first_word word =
    is_in_table message_forms word || (is_in_table cut_forms word || (is_in_table stop_forms word || (is_in_table actor_forms word
    || (is_in_table node_forms word || (is_in_table actor_pair_forms word || (is_in_table node_pair_forms word
    || (is_in_table link_forms word || is_in_table end_forms word)))))))

-- the line that one of the forms makes of what the fields say, where the word is its first one; else the other line
abbrev pub by_form : {A : Type 0} → List (Form A) → Result A LineFault → List ℕ → Result Line LineFault → Result Line LineFault
by_form [] fields word other = other
by_form (form ∷ forms) fields word other =
    if bytes_eq word form.0 then (fields >>= λ x. Ok (form.1 x)) else by_form forms fields word other

-- the forms with a link and a number, or with two numbers; `Word` where the word is of no form
unfoldable pub link_line : List ℕ → List (List ℕ) → Result Line LineFault
link_line word words =
    by_form link_forms (link_number words) word
    (by_form end_forms (end_fields words) word
    (Err Word))

-- the forms with two actors or two nodes, and the above
unfoldable pub pair_line : List ℕ → List (List ℕ) → Result Line LineFault
pair_line word words =
    by_form actor_pair_forms (two_actors words) word
    (by_form node_pair_forms (two_nodes words) word
    (link_line word words))

-- the forms with one node, and the above
unfoldable pub node_line : List ℕ → List (List ℕ) → Result Line LineFault
node_line word words = by_form node_forms (one_node words) word (pair_line word words)

-- the forms with one actor, and the above
unfoldable pub actor_line : List ℕ → List (List ℕ) → Result Line LineFault
actor_line word words = by_form actor_forms (one_actor words) word (node_line word words)

-- the forms with a list, and the above: all forms
unfoldable pub any_line : List ℕ → List (List ℕ) → Result Line LineFault
any_line word words =
    by_form message_forms (message words) word
    (by_form cut_forms (cut_fields words) word
    (by_form stop_forms (stop_fields words) word
    (actor_line word words)))

-- what the words of a line say
abbrev pub read_words : List (List ℕ) → Result Line LineFault
read_words [] = Err Word
read_words (word ∷ words) = any_line word words

-- what a line says, without its line feed
abbrev pub read_line : List ℕ → Result Line LineFault
read_line bytes = read_words (pieces 32 bytes)
