-- What one more write took stands after what was written before.
use Rattle.std.proofs.Common.{◌≡◌, ◌≤◌, ◌+◌, ◌++◌, ℕ, List, arith, length, length-take, length-drop, take, drop, sym, subst, ◌∙◌, ap}
use Rattle.std.proofs.lemmas.List.{take-take}
use Rattle.std.proofs.Math.Seq.{take-add}
use Rattle.crgc_io.specs.Taken.{Puts}
use Rattle.crgc_io.proofs.TakenLemmas.{Puts-trans}
use Rattle.crgc_io.proofs.whole.write_all.Goals as goal

-- n bytes from the front of a piece are no more than the piece, and than what the list has from there on
within_piece : (start size n : ℕ) (bytes : List ℕ) → n ≤ length (take size (drop start bytes)) → start ≤ length bytes → (n ≤ size) × (start + n ≤ length bytes)
within_piece start size n bytes taken within =
    let piece = length-take size (drop start bytes) in
    let rest = length-drop start bytes in
    (omega arith, omega arith)

-- what comes before a piece, and then the front of the piece
front_of_piece : (start size n : ℕ) (bytes : List ℕ) → n ≤ size → take start bytes ++ take n (take size (drop start bytes)) ≡ take (start + n) bytes
front_of_piece start size n bytes small =
    ap (λ piece. take start bytes ++ piece) (take-take n size (drop start bytes) small) ∙ sym (take-add start n bytes)

pub loop-written-preserved : goal.loop-written-preserved
loop-written-preserved g c =
    let (within, put, never_falls) = c.loop-written.invariant in
    let wrote = c.in-Ok.ensures in
    let (small, fits) = within_piece _ _ c.in-Ok.n _ wrote.bound within in
    let joined = front_of_piece _ _ c.in-Ok.n c.args.bytes.now small in
    (fits, subst (Puts _ _ _ _) joined (Puts-trans _ _ _ _ _ _ _ put (record { appended = wrote.bytes; recorded = wrote.record })), omega (arith, wrote.never_falls))
