-- Values whose text is read back.
use Rattle.std.proofs.Common.{◌≡◌, ◌<◌, ◌≤◌, ◌^◌, ◌++◌, ℕ, suc, List, [], ◌∷◌, map, Some, option_and_then, option_map, codes, refl, sym, ap, ◌∙◌, arith}
use Rattle.std.specs.List.{AllByRecursion}
use Rattle.json.specs.Tree as tree
use Rattle.json.proofs.Printed.Decimals.{IsNumber-decimal}
use Rattle.serde_json.specs.Data.{Data, unsigned, number, string, array, object, Items, no_items, item, Members, no_members, member, put}
use Rattle.serde_json.specs.Read.{max_depth, of_items, of_json, of_members, read}
use Rattle.serde_json.specs.View.{items_of}
use Rattle.serde_json.specs.Written.{compact_text, items_outline, members_outline, outline}
use Rattle.serde_json.proofs.Numbers.{number_of-decimal}
use Rattle.serde_json.proofs.Texts.{print-outline}
use Rattle.workload_gen.proofs.LineFeed.{read-line}

-- the value nests no deeper than n, and what is written for it is read as it
pub record IsReadable (n : ℕ) (d : Data) : Type 0 where
  pub numbers : tree.HasNumbers (outline d)
  pub shallow : tree.depth (outline d) ≤ n
  pub back : of_json (outline d) ≡ Some d

pub record AreReadable (n : ℕ) (ds : Items) : Type 0 where
  pub numbers : tree.ItemsHaveNumbers (items_outline ds)
  pub shallow : tree.items_depth (items_outline ds) ≤ n
  pub back : of_items (items_outline ds) ≡ Some ds

-- the members ms, read after those that were found, give all of them
pub record GiveMembers (n : ℕ) (found ms all : Members) : Type 0 where
  pub numbers : tree.MembersHaveNumbers (members_outline ms)
  pub shallow : tree.members_depth (members_outline ms) ≤ n
  pub back : of_members (members_outline ms) found ≡ Some all

pub readable-string : (n : ℕ) (s : List ℕ) → IsReadable n (string s)
readable-string n s = record { numbers = tt; shallow = omega arith; back = refl }

pub readable-number : (n k : ℕ) → k < 2 ^ 64 → IsReadable n (number (unsigned k))
readable-number n k h = record { numbers = IsNumber-decimal k h; shallow = omega arith; back = ap (option_map number) (number_of-decimal k h) }

readable-none : (n : ℕ) → AreReadable n no_items
readable-none n = record { numbers = tt; shallow = omega arith; back = refl }

pub readable-item : (n : ℕ) (d : Data) (ds : Items) → IsReadable n d → AreReadable n ds → AreReadable n (item d ds)
readable-item n d ds h hs =
    let p = h.shallow in
    let q = hs.shallow in
    record {
      numbers = (h.numbers, hs.numbers);
      shallow = omega arith;
      back = ap (option_and_then (λ e. option_map (item e) (of_items (items_outline ds)))) h.back ∙ ap (option_map (item d)) hs.back;
    }

pub readable-array : (n : ℕ) (ds : Items) → AreReadable n ds → IsReadable (suc n) (array ds)
readable-array n ds h = let p = h.shallow in record { numbers = h.numbers; shallow = omega arith; back = ap (option_map array) h.back }

pub readable-list : {A : Type 0} (n : ℕ) (f : A → Data) (ok : A → Type 0) → ((x : A) → ok x → IsReadable n (f x)) → (xs : List A) → AllByRecursion ok xs → AreReadable n (items_of (map f xs))
readable-list n f ok each [] h = readable-none n
readable-list n f ok each (x ∷ xs) h = readable-item n (f x) (items_of (map f xs)) (each x h.0) (readable-list n f ok each xs h.1)

pub give-none : (n : ℕ) (found : Members) → GiveMembers n found no_members found
give-none n found = record { numbers = tt; shallow = omega arith; back = refl }

pub give-member : (n : ℕ) (k : List ℕ) (d : Data) (found ms all : Members) → IsReadable n d → GiveMembers n (put k d found) ms all → GiveMembers n found (member k d ms) all
give-member n k d found ms all h hs =
    let p = h.shallow in
    let q = hs.shallow in
    record {
      numbers = (h.numbers, hs.numbers);
      shallow = omega arith;
      back = ap (option_and_then (λ e. of_members (members_outline ms) (put k e found))) h.back ∙ hs.back;
    }

pub readable-object : (n : ℕ) (ms : Members) → GiveMembers n no_members ms ms → IsReadable (suc n) (object ms)
readable-object n ms h = let p = h.shallow in record { numbers = h.numbers; shallow = omega arith; back = ap (option_map object) h.back }

-- its compact text with a line feed is read back
pub read-compact : (n : ℕ) (d : Data) → n ≤ max_depth → IsReadable n d → read (compact_text d ++ codes "\n") ≡ Some d
read-compact n d few h =
    let p = h.shallow in
    let shallow : tree.depth (outline d) ≤ max_depth = omega arith in
    ap (λ text. read (text ++ codes "\n")) (sym (print-outline d)) ∙ read-line (outline d) d h.numbers shallow h.back
