-- What each way of making a reader gives: what is read is spelled so, and what is spelled so is read.
use Rattle.std.proofs.Common.{◌≡◌, ℕ, zero, suc, ◌+◌, ◌^◌, ◌<◌, ◌≤◌, Bool, true, false, cond, ltb, List, [], ◌∷◌, ◌++◌, length, take, drop, get_or, Option, Some, None, Result, Ok, Err, refl, sym, ap, subst, ◌∙◌, append_assoc, inl, inr, arith}
use Rattle.std.specs.List.{flat_map}
use Rattle.std.proofs.lemmas.Bool.{cases_lt, ltb-false, le-ltb}
use Rattle.std.proofs.lemmas.List.{drop_at, length-append, length-take, take-append-drop, get_or-append-add, get_or-take, get_or_past}
use Rattle.std.proofs.lemmas.List.Concat.{flat_map-cons}
use Rattle.byteorder.specs.Endian.{big_bytes, big_number}
use Rattle.byteorder.specs.Numbers.{big_from-lt, big_number-reads_back, length-bytes_high_first}
use Rattle.crgc_bytes.specs.Place.{IsBytes, Place, after}
use Rattle.crgc_bytes.proofs.NumberLaws.{big_bytes-big_number}
use Rattle.wire_grammar.specs.declared.fault.WireFault.{WireFault}
use Rattle.wire_grammar.specs.declared.fault.WireKind.{WireKind}
use Rattle.wire_grammar.specs.declared.fault.WireKind.TheVariants.{Short}
use Rattle.wire_grammar.specs.Spelling.{section_text}
use Rattle.wire_grammar.specs.Fields.{◌>>=◌, Reader, both, checked, fault, is_above, made, number_at, rows_at}

-- the text stands between the two places
pub record Moves (p : Place) (text : List ℕ) (q : Place) : Type 0 where
  pub parts : p.rest ≡ text ++ q.rest
  pub count : q.offset ≡ p.offset + length text

pub Moves-then : (p q r : Place) (a b : List ℕ) → Moves p a q → Moves q b r → Moves p (a ++ b) r
Moves-then p q r a b h k = record {
  parts = h.parts ∙ ap (λ t. a ++ t) k.parts ∙ sym (append_assoc a b r.rest);
  count = omega (arith, h.count, k.count, length-append a b);
}

-- a place between two texts
abbrev pub between : Place → List ℕ → List ℕ → Place → Place
between p a b r = record { offset = p.offset + length a; rest = b ++ r.rest }

pub Moves-first : (p r : Place) (a b : List ℕ) → Moves p (a ++ b) r → Moves p a (between p a b r)
Moves-first p r a b h = record { parts = h.parts ∙ append_assoc a b r.rest; count = refl }

pub Moves-second : (p r : Place) (a b : List ℕ) → Moves p (a ++ b) r → Moves (between p a b r) b r
Moves-second p r a b h = record { parts = refl; count = omega (arith, h.count, length-append a b) }

pub Moves-bytes : (p q : Place) (text : List ℕ) → Moves p text q → IsBytes p.rest → IsBytes q.rest
Moves-bytes p q text h fits i =
    let there : get_or (text ++ q.rest) (length text + i) 0 < 256 = subst (λ xs. get_or xs (length text + i) 0 < 256) h.parts (fits (length text + i)) in
    subst (λ n. n < 256) (get_or-append-add text q.rest i 0) there

-- the value of a step without fault
pub bind_ok : {A B : Type 0} (r : Result A WireFault) (f : A → Result B WireFault) (y : B) → (r >>= f) ≡ Ok y → (x : A) × (r ≡ Ok x) × (f x ≡ Ok y)
bind_ok (Ok x) f y e = (x, refl, e)
bind_ok (Err d) f y e = absurd cc

-- a test without fault
pub guard_ok : {A : Type 0} (b : Bool) (d : WireFault) (x y : A) → cond b (Ok x) (Err d) ≡ Ok y → (b ≡ true) × (x ≡ y)
guard_ok true d x y e = (refl, cc)
guard_ok false d x y e = absurd cc

abbrev pub done : {A : Type 0} → A → Result A WireFault
done x = Ok x

pub ok_is : {A : Type 0} (x y : A) → done x ≡ done y → x ≡ y
ok_is x y e = cc

-- What is read is spelled so and fits; what fits and is spelled so is read.
pub record IsReader {X : Type 0} (text : X → List ℕ) (read : Reader X) (Fits : X → Type 0) : Type 0 where
  pub takes : (p q : Place) (x : X) → IsBytes p.rest → read p ≡ Ok (x, q) → Fits x × Moves p (text x) q
  pub again : (p q : Place) (x : X) → Fits x → Moves p (text x) q → read p ≡ Ok (x, q)

same_place : (p q : Place) → p.offset ≡ q.offset → p.rest ≡ q.rest → p ≡ q
same_place p q e f = λ i. record { offset = e i; rest = f i }

-- a test without fault
guard_not : {A : Type 0} (b : Bool) (d : WireFault) (x y : A) → cond b (Err d) (Ok x) ≡ Ok y → (b ≡ false) × (x ≡ y)
guard_not true d x y e = absurd cc
guard_not false d x y e = (refl, cc)

IsBytes-take : (k : ℕ) (xs : List ℕ) → IsBytes xs → IsBytes (take k xs)
IsBytes-take k xs h i =
    elim (cases_lt i k) [
      | inl lt ↦ rw (get_or-take k xs i 0 lt) (h i)
      | inr le ↦ rw (get_or_past (take k xs) i 0 (omega (arith, length-take k xs))) (omega arith)
    ]

number_is : (short : Bool) (offset m n : ℕ) (r q : Place) → short ≡ false → m ≡ n → r ≡ q → cond short (fault {X = ℕ × Place} Short offset) (Ok (m, r)) ≡ Ok (n, q)
number_is short offset m n r q e f g = rw (e, f, g) refl

-- a number
pub number-reader : (k : ℕ) → IsReader (big_bytes k) (number_at k) (λ n. n < 256 ^ k)
number-reader k = record {
  takes = λ p q n fits e.
      let g = guard_not (ltb (length p.rest) k) (record { kind = Short; offset = p.offset }) (big_number k p.rest, after k p) (n, q) e in
      let long : k ≤ length p.rest = ltb-false _ _ g.0 in
      let front = take k p.rest in
      let len : length front ≡ k = omega (arith, length-take k p.rest) in
      let whole : front ++ drop k p.rest ≡ p.rest = take-append-drop k p.rest in
      let bytes : big_bytes k (big_number k p.rest) ≡ front = ap (λ xs. big_bytes k (big_number k xs)) (sym whole) ∙ big_bytes-big_number k front (drop k p.rest) len (IsBytes-take k p.rest fits) in
      let parts : p.rest ≡ big_bytes k (big_number k p.rest) ++ drop k p.rest = sym whole ∙ ap (λ xs. xs ++ drop k p.rest) (sym bytes) in
      let count : p.offset + k ≡ p.offset + length (big_bytes k (big_number k p.rest)) = omega (arith, length-bytes_high_first k (big_number k p.rest)) in
      subst (λ (y : ℕ × Place). (y.0 < 256 ^ k) × Moves p (big_bytes k y.0) y.1) g.1
      (big_from-lt 0 k p.rest fits, record { parts = parts; count = count });
  again = λ p q n lt m.
      let len = length-bytes_high_first k n in
      let long : ltb (length p.rest) k ≡ false = le-ltb _ _ (omega (arith, ap length m.parts, length-append (big_bytes k n) q.rest)) in
      let number : big_number k p.rest ≡ n = ap (big_number k) m.parts ∙ big_number-reads_back k n q.rest lt in
      let place : after k p ≡ q = same_place (after k p) q (omega (arith, m.count)) (ap (drop k) m.parts ∙ drop_at (big_bytes k n) q.rest k len) in
      number_is (ltb (length p.rest) k) p.offset (big_number k p.rest) n (after k p) q long number place;
}

-- a value that passes a test
pub checked-reader : {X : Type 0} {text : X → List ℕ} {read : Reader X} {Fits : X → Type 0} (kind : WireKind) (test : X → Bool)
    → IsReader text read Fits → IsReader text (checked kind test read) (λ x. Fits x × (test x ≡ true))
checked-reader {X} {text} {read} {Fits} kind test r = record {
  takes = λ p q x fits e.
      let a = bind_ok (read p) (λ y. cond (test y.0) (Ok y) (fault kind p.offset)) (x, q) e in
      let g = guard_ok (test a.0.0) (record { kind = kind; offset = p.offset }) a.0 (x, q) a.2 in
      let t = r.takes p a.0.1 a.0.0 fits a.1 in
      subst (λ (y : X × Place). (Fits y.0 × (test y.0 ≡ true)) × Moves p (text y.0) y.1) g.1 ((t.0, g.0), t.1);
  again = λ p q x h m. rw (r.again p q x h.0 m, h.1) refl;
}

-- two values, one after the other
pub both-reader : {X Y : Type 0} {text : X → List ℕ} {text2 : X → Y → List ℕ} {read : Reader X} {read2 : X → Reader Y} {Fits : X → Type 0} {Fits2 : X → Y → Type 0}
    → IsReader text read Fits → ((x : X) → Fits x → IsReader (text2 x) (read2 x) (Fits2 x))
    → IsReader (λ z. text z.0 ++ text2 z.0 z.1) (both read read2) (λ z. Fits z.0 × Fits2 z.0 z.1)
both-reader {X} {Y} {text} {text2} {read} {read2} {Fits} {Fits2} r s = record {
  takes = λ p q z fits e.
      let a = bind_ok (read p) (λ x. read2 x.0 x.1 >>= λ y. Ok ((x.0, y.0), y.1)) (z, q) e in
      let b = bind_ok (read2 a.0.0 a.0.1) (λ y. Ok ((a.0.0, y.0), y.1)) (z, q) a.2 in
      let t = r.takes p a.0.1 a.0.0 fits a.1 in
      let u = (s a.0.0 t.0).takes a.0.1 b.0.1 b.0.0 (Moves-bytes p a.0.1 (text a.0.0) t.1 fits) b.1 in
      subst (λ (y : (X × Y) × Place). (Fits y.0.0 × Fits2 y.0.0 y.0.1) × Moves p (text y.0.0 ++ text2 y.0.0 y.0.1) y.1)
      (ok_is ((a.0.0, b.0.0), b.0.1) (z, q) b.2)
      ((t.0, u.0), Moves-then p a.0.1 b.0.1 (text a.0.0) (text2 a.0.0 b.0.0) t.1 u.1);
  again = λ p q z h m.
      let one = r.again p (between p (text z.0) (text2 z.0 z.1) q) z.0 h.0 (Moves-first p q (text z.0) (text2 z.0 z.1) m) in
      let two = (s z.0 h.0).again (between p (text z.0) (text2 z.0 z.1) q) q z.1 h.1 (Moves-second p q (text z.0) (text2 z.0 z.1) m) in
      rw (one, two) refl;
}

-- a value made of another, from which that one follows
pub made-reader : {X Y : Type 0} {text : X → List ℕ} {read : Reader X} {Fits : X → Type 0} (make : X → Y) (parts : Y → X)
    → ((x : X) → Fits x → parts (make x) ≡ x) → ((y : Y) → make (parts y) ≡ y)
    → IsReader text read Fits → IsReader (λ y. text (parts y)) (made make read) (λ y. Fits (parts y))
made-reader {X} {Y} {text} {read} {Fits} make parts there back r = record {
  takes = λ p q y fits e.
      let a = bind_ok (read p) (λ x. Ok (make x.0, x.1)) (y, q) e in
      let t = r.takes p a.0.1 a.0.0 fits a.1 in
      let same = there a.0.0 t.0 in
      subst (λ (z : Y × Place). Fits (parts z.0) × Moves p (text (parts z.0)) z.1) (ok_is (make a.0.0, a.0.1) (y, q) a.2)
      (subst Fits (sym same) t.0, subst (λ x. Moves p (text x) a.0.1) (sym same) t.1);
  again = λ p q y h m. rw (r.again p q (parts y) h m) (ap (λ z. Ok (z, q)) (back y));
}

-- rows whose keys rise from the one before the first
abbrev pub AreChained : {X K : Type 0} → (X → K) → (K → K → Bool) → (X → Type 0) → Option K → List X → Type 0
AreChained key below Fits last [] = Unit {0}
AreChained key below Fits last (x ∷ xs) =
    (Fits x × (is_above below last (key x) ≡ true)) × AreChained key below Fits (Some (key x)) xs

module _ {X K : Type 0} (key : X → K) (below : K → K → Bool) (text : X → List ℕ) (row : Option K → Reader X) (Fits : X → Type 0)
    (each : (last : Option K) → IsReader text (row last) (λ x. Fits x × (is_above below last (key x) ≡ true)))
  where
    -- rows, one after the other
    pub rows_take : (n : ℕ) (last : Option K) (p q : Place) (xs : List X) → IsBytes p.rest → rows_at key row n last p ≡ Ok (xs, q)
        → (AreChained key below Fits last xs × (length xs ≡ n)) × Moves p (flat_map text xs) q
    unfolding rows_at
    rows_take zero last p q xs fits e =
        subst (λ (y : List X × Place). (AreChained key below Fits last y.0 × (length y.0 ≡ 0)) × Moves p (flat_map text y.0) y.1)
        (ok_is ([], p) (xs, q) e) ((tt, refl), record { parts = refl; count = omega arith })
    rows_take (suc n) last p q xs fits e =
        let a = bind_ok (row last p) (λ x. rows_at key row n (Some (key x.0)) x.1 >>= λ ys. Ok (x.0 ∷ ys.0, ys.1)) (xs, q) e in
        let b = bind_ok (rows_at key row n (Some (key a.0.0)) a.0.1) (λ ys. Ok (a.0.0 ∷ ys.0, ys.1)) (xs, q) a.2 in
        let t = (each last).takes p a.0.1 a.0.0 fits a.1 in
        let u = rows_take n (Some (key a.0.0)) a.0.1 b.0.1 b.0.0 (Moves-bytes p a.0.1 (text a.0.0) t.1 fits) b.1 in
        subst (λ (y : List X × Place). (AreChained key below Fits last y.0 × (length y.0 ≡ suc n)) × Moves p (flat_map text y.0) y.1)
        (ok_is (a.0.0 ∷ b.0.0, b.0.1) (xs, q) b.2)
        (((t.0, u.0.0), ap suc u.0.1), rw flat_map-cons (Moves-then p a.0.1 b.0.1 (text a.0.0) (flat_map text b.0.0) t.1 u.1))

    pub rows_again : (last : Option K) (p q : Place) (xs : List X) → AreChained key below Fits last xs → Moves p (flat_map text xs) q
        → rows_at key row (length xs) last p ≡ Ok (xs, q)
    unfolding rows_at
    rows_again last p q [] h m = ap (λ r. Ok ([], r)) (same_place p q (omega (arith, m.count)) m.parts)
    rows_again last p q (x ∷ xs) h m =
        let split : Moves p (text x ++ flat_map text xs) q = subst (λ t. Moves p t q) (flat_map-cons text x xs) m in
        let one = (each last).again p (between p (text x) (flat_map text xs) q) x h.0 (Moves-first p q (text x) (flat_map text xs) split) in
        let two = rows_again (Some (key x)) (between p (text x) (flat_map text xs) q) q xs h.1 (Moves-second p q (text x) (flat_map text xs) split) in
        rw (one, two) refl

    -- the number of rows, and the rows
    pub section-reader : (k : ℕ) (len_at : Reader ℕ) (IsLen : ℕ → Type 0) → IsReader (big_bytes k) len_at IsLen
        → IsReader (section_text k text) (λ p. len_at p >>= λ n. rows_at key row n.0 None n.1)
        (λ xs. AreChained key below Fits None xs × IsLen (length xs))
    section-reader k len_at IsLen r = record {
      takes = λ p q xs fits e.
          let a = bind_ok (len_at p) (λ n. rows_at key row n.0 None n.1) (xs, q) e in
          let t = r.takes p a.0.1 a.0.0 fits a.1 in
          let u = rows_take a.0.0 None a.0.1 q xs (Moves-bytes p a.0.1 (big_bytes k a.0.0) t.1 fits) a.2 in
          ((u.0.0, subst IsLen (sym u.0.1) t.0), Moves-then p a.0.1 q (big_bytes k (length xs)) (flat_map text xs) (subst (λ n. Moves p (big_bytes k n) a.0.1) (sym u.0.1) t.1) u.1);
      again = λ p q xs h m.
          let front = big_bytes k (length xs) in
          let one = r.again p (between p front (flat_map text xs) q) (length xs) h.1 (Moves-first p q front (flat_map text xs) m) in
          let two = rows_again None (between p front (flat_map text xs) q) q xs h.0 (Moves-second p q front (flat_map text xs) m) in
          rw (one, two) refl;
    }
