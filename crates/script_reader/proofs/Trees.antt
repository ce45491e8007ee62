-- What the readers of JSON see of a tree.
use Rattle.std.proofs.Common.{◌≡◌, ◌&&◌, Bool, List, [], ◌∷◌, String, Global, map, string_bytes, refl, ap}
use Rattle.std.specs.List.{list_all}
use Rattle.std.specs.Map.{keys_of}
use Rattle.serde_json.specs.Data.{Data}
use Rattle.serde_json.specs.View.{items_of, members_view}
use Rattle.serde_json.specs.declared.value.Value.{Value}
use Rattle.script_reader.specs.declared.words.Word.{Word}
use Rattle.script_reader.specs.Walk.{has_only, is_in_table, list_of}

-- the members of an array are those of its vector
pub list_of-items : (ds : List Data) → list_of (items_of ds) ≡ ds
list_of-items [] = refl
list_of-items (d ∷ ds) = ap (λ es. d ∷ es) (list_of-items ds)

-- an object has only keys of a table where each key of its map is one
pub has_only-keys : (table : List Word) (es : List (String Global × Value)) → has_only table (members_view es) ≡ list_all (λ k. is_in_table table (string_bytes k)) (keys_of es)
has_only-keys table [] = refl
has_only-keys table (e ∷ es) = ap (λ b. is_in_table table (string_bytes e.0) && b) (has_only-keys table es)

-- a test of what the elements are seen as
pub list_all-map : {A B : Type 0} (p : B → Bool) (f : A → B) (xs : List A) → list_all p (map f xs) ≡ list_all (λ x. p (f x)) xs
list_all-map p f [] = refl
list_all-map p f (x ∷ xs) = ap (λ b. p (f x) && b) (list_all-map p f xs)
