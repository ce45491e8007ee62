-- What the words after the first say, by the shapes of the forms, or their first fault: from left to right `Field` where a
-- field is missing or is not spelled so, and then `Extra` where words are left.
use Rattle.std.specs.Prelude.{ℕ, zero, suc, ◌^◌, if◌then◌else◌, List, [], ◌∷◌, length, drop, codes, Option, Some, None, Result, Ok, Err}
use Rattle.std.specs.Str.{bytes_eq}
use Rattle.crgc_ids.specs.Actor.{Actor}
use Rattle.history_model.specs.declared.records.Stop.{Stop}
use Rattle.journal_model.specs.declared.lines.LineFault.{LineFault}
use Rattle.journal_model.specs.declared.lines.LineFault.TheVariants.{Field, Extra}
use Rattle.journal_model.specs.Fields.{actor_of, first_actor, first_name, first_number, number_of}

infixl 10 ◌>>=◌
abbrev pub ◌>>=◌ : {A B : Type 0} → Result A LineFault → (A → Result B LineFault) → Result B LineFault
(Ok x) >>= f = f x
(Err fault) >>= f = Err fault

-- a field that the form needs
abbrev pub field : {A : Type 0} → Option A → Result A LineFault
field None = Err Field
field (Some x) = Ok x

-- no word follows
abbrev pub ended : List (List ℕ) → Result (Unit {0}) LineFault
ended [] = Ok tt
ended (_ ∷ _) = Err Extra

abbrev pub node_field : List (List ℕ) → Result ℕ LineFault
node_field words = field (first_number 16 words)

abbrev pub number_field : List (List ℕ) → Result ℕ LineFault
number_field words = field (first_number (2 ^ 32) words)

abbrev pub actor_field : List (List ℕ) → Result Actor LineFault
actor_field words = field (first_actor words)

abbrev pub name_field : List ℕ → List (List ℕ) → Result (Unit {0}) LineFault
name_field text words = field (first_name text words)

-- this text, and a number after it
abbrev pub named_number : List ℕ → List (List ℕ) → Result ℕ LineFault
named_number text words = do
  _ ← name_field text words
  number_field (drop 1 words)

-- fields of one kind up to the end, at most so many
abbrev pub up_to : {A : Type 0} → (List ℕ → Option A) → ℕ → List (List ℕ) → Result (List A) LineFault
up_to read most [] = Ok []
up_to read zero (word ∷ words) = Err Extra
up_to read (suc most) (word ∷ words) = do
  x ← field (read word)
  xs ← up_to read most words
  Ok (x ∷ xs)

-- the same, any number of them
abbrev pub all_of : {A : Type 0} → (List ℕ → Option A) → List (List ℕ) → Result (List A) LineFault
all_of read words = up_to read (length words) words

abbrev pub one_node : List (List ℕ) → Result ℕ LineFault
one_node words = do
  n ← node_field words
  _ ← ended (drop 1 words)
  Ok n

abbrev pub one_actor : List (List ℕ) → Result Actor LineFault
one_actor words = do
  a ← actor_field words
  _ ← ended (drop 1 words)
  Ok a

abbrev pub two_nodes : List (List ℕ) → Result (ℕ × ℕ) LineFault
two_nodes words = do
  m ← node_field words
  n ← node_field (drop 1 words)
  _ ← ended (drop 2 words)
  Ok (m, n)

abbrev pub two_actors : List (List ℕ) → Result (Actor × Actor) LineFault
two_actors words = do
  a ← actor_field words
  b ← actor_field (drop 1 words)
  _ ← ended (drop 2 words)
  Ok (a, b)

-- two nodes and a number
abbrev pub link_number : List (List ℕ) → Result (ℕ × ℕ × ℕ) LineFault
link_number words = do
  m ← node_field words
  n ← node_field (drop 1 words)
  k ← number_field (drop 2 words)
  _ ← ended (drop 3 words)
  Ok (m, n, k)

-- two actors, and at most 16 more
abbrev pub message : List (List ℕ) → Result (Actor × Actor × List Actor) LineFault
message words = do
  a ← actor_field words
  b ← actor_field (drop 1 words)
  refs ← up_to actor_of 16 (drop 2 words)
  Ok (a, b, refs)

-- at most so many numbers before the word `lost`, and the words after it
abbrev pub before_lost : ℕ → List (List ℕ) → Result (List ℕ × List (List ℕ)) LineFault
before_lost most [] = Err Field
before_lost zero (word ∷ words) = if bytes_eq word (codes "lost") then Ok ([], words) else Err Field
before_lost (suc most) (word ∷ words) =
    if bytes_eq word (codes "lost") then Ok ([], words) else do
      n ← field (number_of (2 ^ 32) word)
      r ← before_lost most words
      Ok (n ∷ r.0, r.1)

-- at least one was there
abbrev pub some_of : List ℕ → Result (Unit {0}) LineFault
some_of [] = Err Field
some_of (_ ∷ _) = Ok tt

-- a node, 1 to 16 numbers, the word `lost`, and at most 16 nodes
abbrev pub cut_fields : List (List ℕ) → Result (ℕ × List ℕ × List ℕ) LineFault
cut_fields words = do
  m ← node_field words
  r ← before_lost 16 (drop 1 words)
  _ ← some_of r.0
  lost ← up_to (number_of 16) 16 r.1
  Ok (m, r.0, lost)

-- what was received, told and admitted: three numbers, each after its name
abbrev pub evidence_fields : List (List ℕ) → Result (ℕ × ℕ × ℕ) LineFault
evidence_fields words = do
  received ← named_number (codes "received") words
  told ← named_number (codes "told") (drop 2 words)
  admitted ← named_number (codes "admitted") (drop 4 words)
  Ok (received, told, admitted)

-- an actor, and a node after `by`
abbrev pub stopped_fields : List (List ℕ) → Result (Actor × ℕ) LineFault
stopped_fields words = do
  a ← actor_field words
  _ ← name_field (codes "by") (drop 1 words)
  m ← node_field (drop 2 words)
  Ok (a, m)

-- these two, the three numbers, and any number of actors after `owners`
abbrev pub stop_fields : List (List ℕ) → Result (ℕ × Stop) LineFault
stop_fields words = do
  s ← stopped_fields words
  n ← evidence_fields (drop 3 words)
  _ ← name_field (codes "owners") (drop 9 words)
  owners ← all_of actor_of (drop 10 words)
  Ok (s.1, record { actor = s.0; received = n.0; told = n.1; admitted = n.2; owners = owners })

-- two numbers, each after its name
abbrev pub end_fields : List (List ℕ) → Result (ℕ × ℕ) LineFault
end_fields words = do
  events ← named_number (codes "events") words
  stopped ← named_number (codes "stopped") (drop 2 words)
  _ ← ended (drop 4 words)
  Ok (events, stopped)
