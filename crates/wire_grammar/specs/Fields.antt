-- Readers of fields: each gives a value and the place after it, or the first fault.
use Rattle.std.specs.Prelude.{ℕ, zero, suc, Bool, true, List, [], ◌∷◌, length, Option, Some, None, Result, Ok, Err, nat_lt, if◌then◌else◌}
use Rattle.byteorder.specs.Endian.{big_number}
use Rattle.crgc_bytes.specs.Place.{Place, after}
use Rattle.wire_grammar.specs.declared.fault.WireFault.{WireFault}
use Rattle.wire_grammar.specs.declared.fault.WireKind.{WireKind}
use Rattle.wire_grammar.specs.declared.fault.WireKind.TheVariants.{Short}

-- a reader of values of X
abbrev pub Reader : Type 0 → Type 0
Reader X = Place → Result (X × Place) WireFault

abbrev pub fault : {X : Type 0} → WireKind → ℕ → Result X WireFault
fault kind offset = Err (record { kind = kind; offset = offset })

infixl 10 ◌>>=◌
abbrev pub ◌>>=◌ : {A B : Type 0} → Result A WireFault → (A → Result B WireFault) → Result B WireFault
(Ok x) >>= f = f x
(Err e) >>= f = Err e

-- a number of k bytes
abbrev pub number_at : ℕ → Reader ℕ
number_at k p = if nat_lt (length p.rest) k then fault Short p.offset else Ok (big_number k p.rest, after k p)

-- what is read has to pass a test, else the fault stands where it begins
abbrev pub checked : {X : Type 0} → WireKind → (X → Bool) → Reader X → Reader X
checked kind test read p = do
  x ← read p
  if test x.0 then Ok x else fault kind p.offset

-- one value, and a second one that may depend on it
abbrev pub both : {X Y : Type 0} → Reader X → (X → Reader Y) → Reader (X × Y)
both first second p = do
  x ← first p
  y ← second x.0 x.1
  Ok ((x.0, y.0), y.1)

-- a value made of what is read
abbrev pub made : {X Y : Type 0} → (X → Y) → Reader X → Reader Y
made make read p = do
  x ← read p
  Ok (make x.0, x.1)

-- whether a key is above the one before it
abbrev pub is_above : {K : Type 0} → (K → K → Bool) → Option K → K → Bool
is_above below None k = true
is_above below (Some j) k = below j k

-- n rows, each of which is told the key of the one before it
unfoldable pub rows_at : {X K : Type 0} → (X → K) → (Option K → Reader X) → ℕ → Option K → Reader (List X)
rows_at key row zero last p = Ok ([], p)
rows_at key row (suc n) last p = do
  x ← row last p
  xs ← rows_at key row n (Some (key x.0)) x.1
  Ok (x.0 ∷ xs.0, xs.1)
