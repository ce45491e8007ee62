-- The lines of a report in brief, and the sum of births over the first nodes.
use Rattle.std.proofs.Common.{◌≡◌, ◌+◌, ℕ, List, [], ◌∷◌, ◌++◌, append_assoc, append-nil, codes, map, sum_by, refl, sym, ◌∙◌, ap, arith}
use Rattle.std.proofs.lemmas.Grind.{flat_map-append}
use Rattle.std.proofs.lemmas.List.FromFn.{map-range_with_len_more}
use Rattle.std.proofs.lemmas.List.Sums.{sum_by-append, sum_by-cons}
use Rattle.crgc_ids.specs.Nodes.{nodes_below}
use Rattle.history_model.specs.declared.events.Event.{Event}
use Rattle.history_model.specs.Cluster.{Cluster, births}
use Rattle.journal_model.specs.Lines.{header_line, line_of, spell, text_of}
use Rattle.evidence_report.specs.Pieces.{counts_text}
use Rattle.journal_model.specs.Report.{brief_of, node_words, stopped_total, total_words}

-- one number more
pub sum-more : (f : ℕ → ℕ) (n : ℕ) → sum_by f (nodes_below (n + 1)) ≡ sum_by f (nodes_below n) + f n
sum-more f n =
    let one = sum_by-cons f n [] in
    let both = sum_by-append f (nodes_below n) (n ∷ []) in
    ap (sum_by f) (nodes-more n) ∙ omega (arith, both, one)
  where
    map-same : (xs : List ℕ) → map (λ x. x) xs ≡ xs
    map-same [] = refl
    map-same (x ∷ xs) = ap (λ ys. x ∷ ys) (map-same xs)

    nodes-more : (k : ℕ) → nodes_below (k + 1) ≡ nodes_below k ++ k ∷ []
    nodes-more k =
        let same : 0 + k ≡ k = omega arith in
        sym (map-same (nodes_below (k + 1))) ∙ map-range_with_len_more (λ x. x) 0 k k same ∙ ap (λ ys. ys ++ k ∷ []) (map-same (nodes_below k))

-- the lines of the nodes, with that of one more
pub nodes-written : (line : ℕ → List ℕ) (n : ℕ) (start text more : List ℕ) → text ≡ start ++ text_of (map line (nodes_below n)) → more ≡ text ++ line_of (line n)
    → more ≡ start ++ text_of (map line (nodes_below (n + 1)))
nodes-written line n start text more is then =
    let same : 0 + n ≡ n = omega arith in
    let one = line_of (line n) in
    then ∙ ap (λ t. t ++ one) is ∙ append_assoc start (text_of (map line (nodes_below n))) one
    ∙ ap (λ t. start ++ (text_of (map line (nodes_below n)) ++ t)) (sym (append-nil one))
    ∙ ap (λ t. start ++ t) (sym (flat_map-append line_of (map line (nodes_below n)) (line n ∷ [])))
    ∙ ap (λ ls. start ++ text_of ls) (sym (map-range_with_len_more line 0 n n same))

-- the lines of a report in brief
pub brief-written : (cl : Cluster) (h : List Event) (born stopped : ℕ) (header nodes label all : List ℕ) → header ≡ line_of (header_line cl)
    → nodes ≡ header ++ text_of (map (λ n. spell (node_words cl h n)) (nodes_below cl.nodes)) → label ≡ nodes ++ codes "total"
    → born ≡ sum_by (λ n. births n h) (nodes_below cl.nodes) → stopped ≡ stopped_total cl h
    → all ≡ label ++ counts_text born stopped → all ≡ brief_of cl h
brief-written cl h born stopped header nodes label all first then named count stops last =
    let lines = map (λ n. spell (node_words cl h n)) (nodes_below cl.nodes) in
    let births_all = sum_by (λ n. births n h) (nodes_below cl.nodes) in
    let stops_all = stopped_total cl h in
    let front = line_of (header_line cl) ++ text_of lines in
    let end = line_of (spell (total_words cl h)) in
    let total : codes "total" ++ counts_text births_all stops_all ≡ end = simp append_assoc in
    let label_is : label ≡ front ++ codes "total" = named ∙ ap (λ t. t ++ codes "total") (then ∙ ap (λ t. t ++ text_of lines) first) in
    last ∙ ap (λ b. label ++ counts_text b stopped) count ∙ ap (λ s. label ++ counts_text births_all s) stops
    ∙ ap (λ t. t ++ counts_text births_all stops_all) label_is ∙ append_assoc front (codes "total") (counts_text births_all stops_all)
    ∙ ap (λ t. front ++ t) (total ∙ sym (append-nil end)) ∙ append_assoc (line_of (header_line cl)) (text_of lines) (end ++ [])
    ∙ ap (λ t. line_of (header_line cl) ++ t) (sym (flat_map-append line_of lines (spell (total_words cl h) ∷ [])))
