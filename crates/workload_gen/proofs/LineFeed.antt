-- A line feed after a JSON text changes nothing of what is read.
use Rattle.std.proofs.Common.{◌≡◌, ◌≤◌, ◌&&◌, Bool, true, false, cond, ℕ, List, [], ◌∷◌, ◌++◌, Option, Some, option_and_then, codes, refl, sym, ap, ap₂, ◌∙◌, append_assoc, append-nil}
use Rattle.json.specs.Json.{Json, if_last, value}
use Rattle.json.specs.Lex.{Lexeme, token, comma, colon, between, fresh, lex, punctuate, string_token, tokens}
use Rattle.json.specs.Print.{ArePrintable, IsPrintable, begins, ends, escape, print, print_from, quoted, separator, token_text}
use Rattle.json.specs.Token.{Token, begin_object, end_object, begin_array, end_array, key, string, number, boolean, null, bad}
use Rattle.json.specs.Tree.{HasNumbers, depth, json_tokens}
use Rattle.json.specs.Word.{ends_word, word}
use Rattle.json.proofs.Printed.Numbers.{in_word-ended, lex-number}
use Rattle.json.proofs.Printed.Strings.{content-escape, lex-escape}
use Rattle.json.proofs.Printed.Tokens.{tokens-print}
use Rattle.json.proofs.Printed.Trees.{ArePrintable-json_tokens, value-json_tokens}
use Rattle.serde_json.specs.Data.{Data}
use Rattle.serde_json.specs.Read.{max_depth, of_json, read}

-- the lexemes of a token, and those after it
abbrev lexed : Token → List Lexeme → List Lexeme
lexed begin_object ls = token begin_object ∷ ls
lexed end_object ls = token end_object ∷ ls
lexed begin_array ls = token begin_array ∷ ls
lexed end_array ls = token end_array ∷ ls
lexed (key s) ls = token (string s) ∷ colon ∷ ls
lexed (string s) ls = token (string s) ∷ ls
lexed (number s) ls = token (number s) ∷ ls
lexed (boolean b) ls = token (boolean b) ∷ ls
lexed null ls = token null ∷ ls
lexed bad ls = ls

lex-quoted : (s r : List ℕ) → lex between (quoted s ++ r) ≡ token (string s) ∷ lex between r
unfolding lex
lex-quoted s r = ap (λ l. lex between (34 ∷ l)) (append_assoc (escape s) (34 ∷ []) r) ∙ ap₂ (λ o l. token (string_token o) ∷ l) (content-escape s r) (lex-escape s r)

lex-token : (t : Token) (r : List ℕ) → IsPrintable t → (ends t ≡ true → ends_word r ≡ true) → lex between (token_text t ++ r) ≡ lexed t (lex between r)
unfolding lex word
lex-token begin_object r h ended = refl
lex-token end_object r h ended = refl
lex-token begin_array r h ended = refl
lex-token end_array r h ended = refl
lex-token (key s) r h ended = ap (lex between) (append_assoc (quoted s) (58 ∷ []) r) ∙ lex-quoted s (58 ∷ r)
lex-token (string s) r h ended = lex-quoted s r
lex-token (number s) r h ended = lex-number s r h (ended refl)
lex-token (boolean true) r h ended = ap₂ (λ b l. token (cond b (boolean true) bad) ∷ l) (ended refl) (in_word-ended r (ended refl))
lex-token (boolean false) r h ended = ap₂ (λ b l. token (cond b (boolean false) bad) ∷ l) (ended refl) (in_word-ended r (ended refl))
lex-token null r h ended = ap₂ (λ b l. token (cond b null bad) ∷ l) (ended refl) (in_word-ended r (ended refl))
lex-token bad r h ended = absurd h

lex-separator : (b : Bool) (r : List ℕ) → lex between (cond b (44 ∷ []) [] ++ r) ≡ cond b (comma ∷ []) [] ++ lex between r
unfolding lex
lex-separator true r = refl
lex-separator false r = refl

-- after a value stands what ends a word
value-ends : (ts : List Token) (r : List ℕ) → ends_word r ≡ true → ends_word (print_from true ts ++ r) ≡ true
unfolding print_from
value-ends [] r h = h
value-ends (begin_object ∷ ts) r h = refl
value-ends (end_object ∷ ts) r h = refl
value-ends (begin_array ∷ ts) r h = refl
value-ends (end_array ∷ ts) r h = refl
value-ends (key s ∷ ts) r h = refl
value-ends (string s ∷ ts) r h = refl
value-ends (number s ∷ ts) r h = refl
value-ends (boolean b ∷ ts) r h = refl
value-ends (null ∷ ts) r h = refl
value-ends (bad ∷ ts) r h = refl

-- two ends of a text that end a word and have the same lexemes are alike
same-lexemes : (c : Bool) (ts : List Token) (r s : List ℕ) → ArePrintable ts → ends_word r ≡ true → ends_word s ≡ true → lex between r ≡ lex between s
    → lex between (print_from c ts ++ r) ≡ lex between (print_from c ts ++ s)
unfolding print_from ArePrintable
same-lexemes c [] r s h p q same = same
same-lexemes c (t ∷ ts) r s h p q same =
    let front : (l : List ℕ) → ends_word l ≡ true → lex between ((separator c t ++ (token_text t ++ print_from (ends t) ts)) ++ l)
    ≡ cond (c && begins t) (comma ∷ []) [] ++ lexed t (lex between (print_from (ends t) ts ++ l)) =
    λ l e.
    ap (lex between) (append_assoc (separator c t) (token_text t ++ print_from (ends t) ts) l ∙ ap (λ x. separator c t ++ x) (append_assoc (token_text t) (print_from (ends t) ts) l))
    ∙ lex-separator (c && begins t) (token_text t ++ (print_from (ends t) ts ++ l))
    ∙ ap (λ ls. cond (c && begins t) (comma ∷ []) [] ++ ls) (lex-token t (print_from (ends t) ts ++ l) h.0 (λ v. ap (λ b. ends_word (print_from b ts ++ l)) v ∙ value-ends ts l e)) in
    front r p ∙ ap (λ ls. cond (c && begins t) (comma ∷ []) [] ++ lexed t ls) (same-lexemes (ends t) ts r s h.1 p q same) ∙ sym (front s q)

line_feed : (ts : List Token) → ArePrintable ts → tokens (print ts ++ codes "\n") ≡ ts
unfolding lex
line_feed ts h =
    ap (punctuate fresh) (same-lexemes false ts (codes "\n") [] h refl refl refl ∙ ap (lex between) (append-nil (print ts))) ∙ tokens-print ts h

abbrev whole : Option (Json × List Token) → Option Data
whole o = option_and_then of_json (option_and_then (λ p. if_last p.0 p.1) o)

-- a printed value with a line feed is read back
pub read-line : (j : Json) (d : Data) → HasNumbers j → depth j ≤ max_depth → of_json j ≡ Some d → read (print (json_tokens j) ++ codes "\n") ≡ Some d
read-line j d numbers shallow is =
    ap (λ ts. whole (value max_depth ts)) (line_feed (json_tokens j) (ArePrintable-json_tokens j numbers) ∙ sym (append-nil (json_tokens j)))
    ∙ ap whole (value-json_tokens j max_depth [] shallow) ∙ is
