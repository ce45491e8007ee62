-- The tree of a generated script, its text, and that the text is read back.
use Rattle.std.proofs.Common.{◌≡◌, ◌<◌, ◌≤◌, ◌^◌, ◌+◌, ◌==◌, ◌%◌, ◌++◌, Bool, true, false, not, cond, nat_lt, ℕ, zero, suc, List, [], ◌∷◌, map, length, flat_map, decimal, Some, codes, refl, sym, ap, ap₂, ◌∙◌, subst, arith}
use Rattle.std.proofs.lemmas.Bool.{ne_eqb}
use Rattle.std.proofs.lemmas.List.{append_assoc}
use Rattle.std.specs.Fmt.{digits}
use Rattle.std.specs.List.{AllByRecursion, enumerate_from}
use Rattle.json.specs.Print.{escape_byte}
use Rattle.serde_json.specs.Data.{Data, unsigned, number, string, array, object, no_members, member, put}
use Rattle.serde_json.specs.Read.{read}
use Rattle.serde_json.specs.View.{items_of}
use Rattle.serde_json.specs.Written.{comma_if, compact_text, items_text}
use Rattle.workload_gen.specs.declared.makers.Maker.{Maker}
use Rattle.workload_gen.specs.declared.texts.TheConstants.{HEAD, MIDDLE, SEED_NODE, SEED_WAKES, TAIL, TIE_FROM, TIE_TO}
use Rattle.workload_gen.specs.Makers.{maker_of, makers_from, number_after}
use Rattle.workload_gen.specs.Texts.{pieces, seed_text, tie_text}
use Rattle.workload_gen.specs.Trees.{cell_tree, cell_words, friend_seed_tree, friend_tree, friend_words, instructions, keys, maker_seed_tree, maker_tree, maker_words, seed_tree, tie_tree, tree}
use Rattle.workload_gen.proofs.Readable.{AreReadable, GiveMembers, IsReadable, give-member, give-none, read-compact, readable-array, readable-item, readable-list, readable-number, readable-object, readable-string}

-- ---- what each maker keeps

pub record IsFit (m : Maker) : Type 0 where
  pub node : m.node < 4
  pub friend : m.friend < 4
  pub wakes : m.wakes < 1000001

small_if : (b : Bool) → cond b 1 0 ≤ 1
small_if true = omega arith
small_if false = omega arith

maker-fit : (x size j : ℕ) → size ≤ 10000 → IsFit (maker_of x size j)
maker-fit x size j h =
    let more = small_if (nat_lt j (size % 16)) in
    record { node = omega arith; friend = omega arith; wakes = omega arith }

pub makers-fit : (n j x size : ℕ) → size ≤ 10000 → AllByRecursion IsFit (makers_from n j x size)
unfolding makers_from
makers-fit zero j x size h = tt
makers-fit (suc n) j x size h = (maker-fit (number_after x) size j h, makers-fit n (j + 1) (number_after x) size h)

-- ---- the tree is read back

Words : List ℕ → Type 0
Words s = Unit {0}

each-word : (words : List (List ℕ)) → AllByRecursion Words words
unfolding Words
each-word [] = tt
each-word (w ∷ ws) = (tt, each-word ws)

readable-instruction : (n : ℕ) (words : List (List ℕ)) → IsReadable (suc n) (array (items_of (map string words)))
readable-instruction n words = readable-array n (items_of (map string words)) (readable-list n string Words (λ s _. readable-string n s) words (each-word words))

Instructions : List (List ℕ) → Type 0
Instructions words = Unit {0}

each-instruction : (is : List (List (List ℕ))) → AllByRecursion Instructions is
unfolding Instructions
each-instruction [] = tt
each-instruction (i ∷ is) = (tt, each-instruction is)

readable-instructions : (n : ℕ) (is : List (List (List ℕ))) → IsReadable (suc (suc n)) (instructions is)
readable-instructions n is =
    readable-array (suc n) _ (readable-list (suc n) (λ words. array (items_of (map string words))) Instructions (λ words _. readable-instruction n words) is (each-instruction is))

-- two members, and three
readable-two : (n : ℕ) (k l : List ℕ) (d e : Data) → put l e (member k d no_members) ≡ member k d (member l e no_members) → IsReadable n d → IsReadable n e
    → IsReadable (suc n) (object (keys ((k, d) ∷ (l, e) ∷ [])))
readable-two n k l d e order p q =
    let all = member k d (member l e no_members) in
    readable-object n all
    (give-member n k d no_members (member l e no_members) all p
    (give-member n l e (member k d no_members) no_members all q (subst (λ found. GiveMembers n found no_members all) (sym order) (give-none n all))))

readable-seed : (n : ℕ) (behaviour : List ℕ) (node wakes : ℕ) → node < 2 ^ 64 → wakes < 2 ^ 64 → IsReadable (suc n) (seed_tree behaviour node wakes)
readable-seed n behaviour node wakes p q =
    let a = string behaviour in
    let b = number (unsigned node) in
    let c = number (unsigned wakes) in
    let last = member (codes "wakes") c no_members in
    let all = member (codes "behaviour") a (member (codes "node") b last) in
    readable-object n all
    (give-member n (codes "behaviour") a no_members (member (codes "node") b last) all (readable-string n behaviour)
    (give-member n (codes "node") b (member (codes "behaviour") a no_members) last all (readable-number n node p)
    (give-member n (codes "wakes") c (member (codes "behaviour") a (member (codes "node") b no_members)) no_members all (readable-number n wakes q) (give-none n all))))

readable-tie : (n j : ℕ) (m : Maker) → 4 + j < 2 ^ 64 → m.friend < 2 ^ 64 → IsReadable (suc n) (tie_tree (j, m))
readable-tie n j m p q =
    let a = string (codes "b") in
    let b = number (unsigned (4 + j)) in
    let c = number (unsigned m.friend) in
    let last = member (codes "to") c no_members in
    let all = member (codes "as") a (member (codes "from") b last) in
    readable-object n all
    (give-member n (codes "as") a no_members (member (codes "from") b last) all (readable-string n (codes "b"))
    (give-member n (codes "from") b (member (codes "as") a no_members) last all (readable-number n (4 + j) p)
    (give-member n (codes "to") c (member (codes "as") a (member (codes "from") b no_members)) no_members all (readable-number n m.friend q) (give-none n all))))

readable-makers : (n : ℕ) (ms : List Maker) → AllByRecursion IsFit ms → AreReadable (suc n) (items_of (map maker_seed_tree ms))
readable-makers n ms fit =
    readable-list (suc n) maker_seed_tree IsFit
    (λ m f. let p = f.node in let q = f.wakes in readable-seed n (codes "maker") m.node m.wakes (omega (arith, p)) (omega (arith, q))) ms fit

readable-ties : (n j : ℕ) (ms : List Maker) → j + length ms ≤ 16 → AllByRecursion IsFit ms → AreReadable (suc n) (items_of (map tie_tree (enumerate_from j ms)))
readable-ties n j [] h fit = record { numbers = tt; shallow = omega arith; back = refl }
readable-ties n j (m ∷ ms) h fit =
    let f = fit.0.friend in
    readable-item (suc n) (tie_tree (j, m)) (items_of (map tie_tree (enumerate_from (j + 1) ms))) (readable-tie n j m (omega arith) (omega (arith, f)))
    (readable-ties n (j + 1) ms (omega arith) fit.1)

friend-seed : (n k : ℕ) → k < 2 ^ 64 → IsReadable (suc n) (friend_seed_tree k)
friend-seed n k h = readable-seed n (codes "friend") k 0 h (omega arith)

readable-seeds : (n : ℕ) (ms : List Maker) → AllByRecursion IsFit ms → AreReadable (suc n) (items_of (map friend_seed_tree (0 ∷ 1 ∷ 2 ∷ 3 ∷ []) ++ map maker_seed_tree ms))
readable-seeds n ms fit =
    readable-item (suc n) (friend_seed_tree 0) _ (friend-seed n 0 (omega arith))
    (readable-item (suc n) (friend_seed_tree 1) _ (friend-seed n 1 (omega arith))
    (readable-item (suc n) (friend_seed_tree 2) _ (friend-seed n 2 (omega arith))
    (readable-item (suc n) (friend_seed_tree 3) _ (friend-seed n 3 (omega arith)) (readable-makers n ms fit))))

readable-behaviours : AreReadable 3 (items_of (friend_tree ∷ maker_tree ∷ cell_tree ∷ []))
readable-behaviours =
    readable-item 3 friend_tree _
    (readable-two 2 (codes "message") (codes "name") (instructions friend_words) (string (codes "friend")) refl (readable-instructions 0 friend_words) (readable-string 2 (codes "friend")))
    (readable-item 3 maker_tree _
    (readable-two 2 (codes "name") (codes "wake") (string (codes "maker")) (instructions maker_words) refl (readable-string 2 (codes "maker")) (readable-instructions 0 maker_words))
    (readable-item 3 cell_tree _
    (readable-two 2 (codes "message") (codes "name") (instructions cell_words) (string (codes "cell")) refl (readable-instructions 0 cell_words) (readable-string 2 (codes "cell")))
    (record { numbers = tt; shallow = omega arith; back = refl })))

readable-tree : (ms : List Maker) → length ms ≤ 16 → AllByRecursion IsFit ms → IsReadable 5 (tree ms)
readable-tree ms h fit =
    let a = array (items_of (friend_tree ∷ maker_tree ∷ cell_tree ∷ [])) in
    let b = number (unsigned 4) in
    let c = array (items_of (map friend_seed_tree (0 ∷ 1 ∷ 2 ∷ 3 ∷ []) ++ map maker_seed_tree ms)) in
    let d = array (items_of (map tie_tree (enumerate_from 0 ms))) in
    let e = number (unsigned 1000000) in
    let four = member (codes "turns") e no_members in
    let three = member (codes "ties") d four in
    let two = member (codes "seeds") c three in
    let one = member (codes "nodes") b two in
    let all = member (codes "behaviours") a one in
    readable-object 4 all
    (give-member 4 (codes "behaviours") a no_members one all (readable-array 3 _ readable-behaviours)
    (give-member 4 (codes "nodes") b (member (codes "behaviours") a no_members) two all (readable-number 4 4 (omega arith))
    (give-member 4 (codes "seeds") c (member (codes "behaviours") a (member (codes "nodes") b no_members)) three all (readable-array 3 _ (readable-seeds 2 ms fit))
    (give-member 4 (codes "ties") d (member (codes "behaviours") a (member (codes "nodes") b (member (codes "seeds") c no_members))) four all
    (readable-array 3 _ (readable-ties 2 0 ms (omega arith) fit))
    (give-member 4 (codes "turns") e (member (codes "behaviours") a (member (codes "nodes") b (member (codes "seeds") c (member (codes "ties") d no_members)))) no_members all
    (readable-number 4 1000000 (omega arith)) (give-none 4 all))))))

-- the text of the makers is read as their tree
pub tree-read : (ms : List Maker) → length ms ≤ 16 → AllByRecursion IsFit ms → read (compact_text (tree ms) ++ codes "\n") ≡ Some (tree ms)
tree-read ms h fit = read-compact 5 (tree ms) (omega arith) (readable-tree ms h fit)

-- ---- the pieces are the compact text

join_five : (a b c d e out : List ℕ) → (a ++ (b ++ (c ++ (d ++ e)))) ++ out ≡ (a ++ b ++ c ++ d ++ e) ++ out
join_five a b c d e out = simp append_assoc

seed-text : (m : Maker) (out : List ℕ) → comma_if true ++ (compact_text (maker_seed_tree m) ++ out) ≡ seed_text m ++ out
unfolding escape_byte
seed-text m out = join_five SEED_NODE.now (decimal m.node) SEED_WAKES.now (decimal m.wakes) (codes "}") out

seeds-text : (ms : List Maker) → items_text true (items_of (map maker_seed_tree ms)) ≡ flat_map seed_text ms ++ codes "]"
seeds-text [] = refl
seeds-text (m ∷ ms) =
    seed-text m (items_text true (items_of (map maker_seed_tree ms))) ∙ ap (λ x. seed_text m ++ x) (seeds-text ms)
    ∙ sym (append_assoc (seed_text m) (flat_map seed_text ms) (codes "]"))

join_six : (a b c d e f out : List ℕ) → (a ++ (b ++ (c ++ (d ++ (e ++ f))))) ++ out ≡ (a ++ b ++ c ++ d ++ e ++ f) ++ out
join_six a b c d e f out = simp append_assoc

tie-text : (b : Bool) (j : ℕ) (m : Maker) (out : List ℕ)
    → comma_if (not b) ++ (compact_text (tie_tree (j, m)) ++ out) ≡ (cond b [] (codes ",") ++ TIE_FROM.now ++ decimal (4 + j) ++ TIE_TO.now ++ decimal m.friend ++ codes "}") ++ out
unfolding escape_byte
tie-text true j m out = join_six [] TIE_FROM.now (decimal (4 + j)) TIE_TO.now (decimal m.friend) (codes "}") out
tie-text false j m out = join_six (codes ",") TIE_FROM.now (decimal (4 + j)) TIE_TO.now (decimal m.friend) (codes "}") out

ties-text : (j : ℕ) (ms : List Maker) → items_text (not (j == 0)) (items_of (map tie_tree (enumerate_from j ms))) ≡ flat_map tie_text (enumerate_from j ms) ++ codes "]"
ties-text j [] = refl
ties-text j (m ∷ ms) =
    let more : not (j + 1 == 0) ≡ true = ap not (ne_eqb (j + 1) 0 (λ e. omega arith)) in
    let trees = items_of (map tie_tree (enumerate_from (j + 1) ms)) in
    let rest = flat_map tie_text (enumerate_from (j + 1) ms) in
    tie-text (j == 0) j m (items_text true trees)
    ∙ ap (λ x. tie_text (j, m) ++ x) (ap (λ b. items_text b trees) (sym more) ∙ ties-text (j + 1) ms) ∙ sym (append_assoc (tie_text (j, m)) rest (codes "]"))

shape : (ms : List Maker) → compact_text (tree ms)
    ≡ HEAD.now ++ (items_text true (items_of (map maker_seed_tree ms)) ++ (codes ",\"ties\":[" ++ (items_text false (items_of (map tie_tree (enumerate_from 0 ms))) ++ codes ",\"turns\":1000000}")))
unfolding escape_byte digits
shape ms = refl

regroup : (h f t : List ℕ) → (h ++ ((f ++ codes "]") ++ (codes ",\"ties\":[" ++ ((t ++ codes "]") ++ codes ",\"turns\":1000000}")))) ++ codes "\n" ≡ h ++ f ++ MIDDLE.now ++ t ++ TAIL.now
regroup h f t = simp append_assoc

-- the pieces that are written are the compact text of the tree, with a line feed
pub pieces-text : (ms : List Maker) → pieces ms ≡ compact_text (tree ms) ++ codes "\n"
pieces-text ms =
    let f = flat_map seed_text ms in
    let t = flat_map tie_text (enumerate_from 0 ms) in
    sym (ap (λ x. x ++ codes "\n") (shape ms ∙ ap₂ (λ a b. HEAD.now ++ (a ++ (codes ",\"ties\":[" ++ (b ++ codes ",\"turns\":1000000}")))) (seeds-text ms) (ties-text 0 ms)) ∙ regroup HEAD.now f t)
