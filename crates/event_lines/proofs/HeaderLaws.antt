-- What is read from a header is what spells it.
use Rattle.std.proofs.Common.{◌≡◌, ◌≤◌, ◌||◌, ◌≢◌, ℕ, Bool, true, false, cond, eqb, List, [], ◌∷◌, drop, Option, Some, None, codes, refl, sym, ◌∙◌, ap, subst, arith}
use Rattle.std.proofs.lemmas.Bool.{eq-eqb, false≢true, ne_eqb}
use Rattle.std.proofs.lemmas.Option.{none-some, same_Some, option_and_then_some}
use Rattle.std.specs.Fmt.{decimal}
use Rattle.std.specs.Option.{MatchOption}
use Rattle.journal_model.specs.Lines.{header_words, spell, header_line}
use Rattle.journal_model.specs.Fields.{pieces}
use Rattle.event_lines.specs.Header.{header_numbers}
use Rattle.event_lines.proofs.FreeLaws.{header_words-free}
use Rattle.event_lines.proofs.FieldsLaws.{first_number-some, nothing_left-some, number_of-decimal}
use Rattle.event_lines.proofs.PiecesLaws.{join-pieces, pieces-join}
use Rattle.event_lines.proofs.ShapesLaws.{first_name-some}

-- the numbers are in range and their header is the line
abbrev pub IsHeader : ℕ → ℕ → List ℕ → Type 0
IsHeader nodes version line =
    (1 ≤ nodes) × (nodes ≤ 16) × (1 ≤ version) × (version ≤ 2) × (header_line (record { nodes = nodes; version = version }) ≡ line)

in_range : (a b : Bool) (n v : ℕ) (r : ℕ × ℕ) → eqb n 0 ≡ a → eqb v 0 ≡ b → cond (a || b) None (Some (n, v)) ≡ Some r → (n ≢ 0) × (v ≢ 0) × ((n, v) ≡ r)
in_range true b n v r ea eb e = absurd (none-some r e)
in_range false true n v r ea eb e = absurd (none-some r e)
in_range false false n v r ea eb e =
    let p : ℕ × ℕ = (n, v) in
    ((λ z. false≢true (sym ea ∙ eq-eqb n 0 z)), (λ z. false≢true (sym eb ∙ eq-eqb v 0 z)), same_Some p r e)

numbers-some : (line : List ℕ) (r : ℕ × ℕ) → header_numbers (pieces 32 line) ≡ Some r → IsHeader r.0 r.1 line
numbers-some line r e =
    let ws = pieces 32 line in
    option_and_then_some _ _ r e (λ u eu e1. option_and_then_some _ _ r e1 (λ v ev e2. option_and_then_some _ _ r e2 (λ t et e3.
    option_and_then_some _ _ r e3 (λ n en e4. option_and_then_some _ _ r e4 (λ s es rest.
    let crgc = first_name-some (codes "crgc") ws u eu in
    let version = first_number-some 3 v (drop 1 ws) ev in
    let label = first_name-some (codes "nodes") (drop 1 (drop 1 ws)) t et in
    let nodes = first_number-some 17 n (drop 1 (drop 1 (drop 1 ws))) en in
    let none = nothing_left-some (drop 1 (drop 1 (drop 1 (drop 1 ws)))) s es in
    let fits = in_range (eqb n 0) (eqb v 0) n v r refl refl rest in
    let p : ℕ × ℕ = (n, v) in
    let same : p ≡ r = fits.2 in
    let words : ws ≡ codes "crgc" ∷ decimal v ∷ codes "nodes" ∷ decimal n ∷ [] =
    crgc ∙ ap (λ l. codes "crgc" ∷ l) (version.1 ∙ ap (λ l. decimal v ∷ l) (label ∙ ap (λ l. codes "nodes" ∷ l) (nodes.1 ∙ ap (λ l. decimal n ∷ l) none))) in
    subst (λ (x : ℕ × ℕ). IsHeader x.0 x.1 line) same
    (omega (arith, fits.0), omega (arith, nodes.0), omega (arith, fits.1), omega (arith, version.0), ap spell (sym words) ∙ join-pieces 32 line))))))

header-words : (n v : ℕ) → 1 ≤ n → n ≤ 16 → 1 ≤ v → v ≤ 2 → header_numbers (header_words (record { nodes = n; version = v })) ≡ Some (n, v)
header-words n v some few one two =
    rw (number_of-decimal 3 v (omega arith) (omega arith))
    (rw (number_of-decimal 17 n (omega arith) (omega arith))
    (rw (ne_eqb n 0 (λ e. omega arith), ne_eqb v 0 (λ e. omega arith)) refl))

header-line : (n v : ℕ) (line : List ℕ) → IsHeader n v line → header_numbers (pieces 32 line) ≡ Some (n, v)
header-line n v line h =
    let free = header_words-free 32 (omega arith) (record { nodes = n; version = v }) h.1 h.3 in
    let words = pieces-join 32 (codes "crgc") (decimal v ∷ codes "nodes" ∷ decimal n ∷ []) free in
    ap (λ l. header_numbers (pieces 32 l)) (sym h.4) ∙ ap header_numbers words ∙ header-words n v h.0 h.1 h.2 h.3

-- what reading answers
pub header-match : (line : List ℕ) (o : Option (ℕ × ℕ)) → o ≡ header_numbers (pieces 32 line)
    → MatchOption o ((nodes version : ℕ) → 1 ≤ nodes → nodes ≤ 16 → 1 ≤ version → version ≤ 2 → header_line (record { nodes = nodes; version = version }) ≡ line → ⊥) (λ r. IsHeader r.0 r.1 line)
header-match line (Some r) e = numbers-some line r (sym e)
header-match line None e = λ n v some few one two same. none-some (n, v) (e ∙ header-line n v line (some, few, one, two, same))
