-- Reading a JSON tree: each reader gives a value, or the first fault.
use Rattle.std.specs.Prelude.{ℕ, ◌&&◌, Bool, true, nat_le, nat_lt, if◌then◌else◌, List, [], ◌∷◌, ◌++◌, length, Option, Some, None, Result, Ok, Err, option_and_then, option_map}
use Rattle.std.specs.List.{list_any}
use Rattle.std.specs.Str.{bytes_eq}
use Rattle.serde_json.specs.Data.{Data, Items, no_items, item, Members, no_members, member}
use Rattle.serde_json.specs.Find.{as_array, as_number, as_object, as_str, as_u64, get}
use Rattle.script_reader.specs.declared.fault.Flaw.{Flaw}
use Rattle.script_reader.specs.declared.fault.Flaw.TheVariants.{Key, Missing, Kind, Range}
use Rattle.script_reader.specs.declared.words.Word.{Word}
use Rattle.script_reader.specs.Words.{spelled}

infixl 10 ◌>>=◌
abbrev pub ◌>>=◌ : {A B : Type 0} → Result A Flaw → (A → Result B Flaw) → Result B Flaw
(Ok x) >>= f = f x
(Err e) >>= f = Err e

-- what is read of each item in turn, after the rows before it; the reader is told all rows before
abbrev pub each_after : {A B : Type 0} → (List B → A → Result B Flaw) → List B → List A → Result (List B) Flaw
each_after read before [] = Ok before
each_after read before (x ∷ xs) = read before x >>= λ row. each_after read (before ++ row ∷ []) xs

abbrev pub each : {A B : Type 0} → (List B → A → Result B Flaw) → List A → Result (List B) Flaw
each read xs = each_after read [] xs

-- the value is there, else the word's JSON kind is wrong
abbrev pub of_kind : {A : Type 0} → Word → Option A → Result A Flaw
of_kind word None = Err (Kind word)
of_kind word (Some x) = Ok x

-- the value passes the test, else the word's range is wrong
abbrev pub in_range : {A : Type 0} → Word → Bool → A → Result A Flaw
in_range word test x = if test then Ok x else Err (Range word)

abbrev pub passes : Word → Bool → Result (Unit {0}) Flaw
passes word test = in_range word test tt

-- the value at a key that has to be there
abbrev pub required : Word → Option Data → Result Data Flaw
required key None = Err (Missing key)
required key (Some d) = Ok d

-- the members of an array, in order
abbrev pub list_of : Items → List Data
list_of no_items = []
list_of (item d ds) = d ∷ list_of ds

abbrev pub array_of : Data → Option (List Data)
array_of d = option_map list_of (as_array d)

-- a number that is written without sign, point and exponent, below 2 ^ 64
abbrev pub number_of : Data → Option ℕ
number_of d = option_and_then as_u64 (as_number d)

-- whether a key is one of the table
abbrev pub is_in_table : List Word → List ℕ → Bool
is_in_table table key = list_any (λ word. bytes_eq key (spelled word)) table

-- each key of the object stands in the table
abbrev pub has_only : List Word → Members → Bool
has_only table no_members = true
has_only table (member key d ms) = is_in_table table key && has_only table ms

-- an object of this name, which has only the keys of its table
abbrev pub object_at : Word → List Word → Data → Result (Unit {0}) Flaw
object_at name table d = of_kind name (as_object d) >>= λ ms. if has_only table ms then Ok tt else Err (Key name)

-- the key is there, and a number from `low` on, below `limit`
abbrev pub number_at : Word → ℕ → ℕ → Data → Result ℕ Flaw
number_at key low limit d = do
  v ← required key (get (spelled key) d)
  n ← of_kind key (number_of v)
  in_range key (nat_le low n && nat_lt n limit) n

-- the key is there, and a text that passes the test
abbrev pub text_at : Word → (List ℕ → Bool) → Data → Result (List ℕ) Flaw
text_at key test d = do
  v ← required key (get (spelled key) d)
  text ← of_kind key (as_str v)
  in_range key (test text) text

-- an array of at most so many members
abbrev pub array_in : Word → ℕ → Data → Result (List Data) Flaw
array_in key most v = of_kind key (array_of v) >>= λ ds. in_range key (nat_le (length ds) most) ds

-- the key is there, and such an array
abbrev pub array_at : Word → ℕ → Data → Result (List Data) Flaw
array_at key most d = required key (get (spelled key) d) >>= λ v. array_in key most v

abbrev pub optional : Word → ℕ → Option Data → Result (List Data) Flaw
optional key most None = Ok []
optional key most (Some v) = array_in key most v

-- the key is absent, which stands for an empty array, or it is such an array
abbrev pub optional_at : Word → ℕ → Data → Result (List Data) Flaw
optional_at key most d = optional key most (get (spelled key) d)
