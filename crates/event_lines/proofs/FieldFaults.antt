-- What is read field by field has no fault but `Field`.
use Rattle.std.proofs.Common.{◌≡◌, ℕ, zero, suc, ◌^◌, Bool, true, false, cond, List, [], ◌∷◌, drop, Option, Some, None, Result, Ok, Err, codes, refl, ap}
use Rattle.std.specs.Str.{bytes_eq}
use Rattle.journal_model.specs.declared.lines.LineFault.{LineFault}
use Rattle.journal_model.specs.declared.lines.LineFault.TheVariants.{Field}
use Rattle.journal_model.specs.Fields.{first_actor, first_name, first_number, number_of}
use Rattle.journal_model.specs.Shapes.{◌>>=◌, actor_field, before_lost, evidence_fields, field, name_field, named_number, node_field, number_field, some_of, stopped_fields}

module _ (fault : LineFault) (other : Field ≡ fault → ⊥) where
  -- this is not the fault
  abbrev pub IsNot : {A : Type 0} → Result A LineFault → Type 0
  IsNot r = r ≡ Err fault → ⊥

  pub ok-not : {A : Type 0} (x : A) → IsNot (Ok x)
  ok-not x e = absurd cc

  pub field-not : {A : Type 0} (o : Option A) → IsNot (field o)
  field-not None e = other (let same : Field ≡ fault = cc in same)
  field-not (Some x) e = absurd cc

  -- the fault of what is read before, or of what is read of it
  pub bind-fault : {A B G : Type 0} (r : Result A LineFault) (f : A → Result B LineFault) → (r >>= f) ≡ Err fault → (r ≡ Err fault → G) → ((x : A) → r ≡ Ok x → f x ≡ Err fault → G) → G
  bind-fault (Ok x) f e first later = later x refl e
  bind-fault (Err found) f e first later = first (ap Err (let same : found ≡ fault = cc in same))

  pub node-not : (ws : List (List ℕ)) → IsNot (node_field ws)
  node-not ws = field-not (first_number 16 ws)

  pub number-not : (ws : List (List ℕ)) → IsNot (number_field ws)
  number-not ws = field-not (first_number (2 ^ 32) ws)

  pub actor-not : (ws : List (List ℕ)) → IsNot (actor_field ws)
  actor-not ws = field-not (first_actor ws)

  pub name-not : (text : List ℕ) (ws : List (List ℕ)) → IsNot (name_field text ws)
  name-not text ws = field-not (first_name text ws)

  pub named_number-not : (text : List ℕ) (ws : List (List ℕ)) → IsNot (named_number text ws)
  named_number-not text ws e = bind-fault _ _ e (name-not text ws) (λ u eu. number-not (drop 1 ws))

  cond-not : {A : Type 0} (b : Bool) (x y : Result A LineFault) → cond b x y ≡ Err fault → IsNot x → IsNot y → ⊥
  cond-not true x y e g h = g e
  cond-not false x y e g h = h e

  pub before_lost-not : (most : ℕ) (ws : List (List ℕ)) → IsNot (before_lost most ws)
  before_lost-not most [] e = field-not {A = List ℕ × List (List ℕ)} None e
  before_lost-not zero (w ∷ ws) e = cond-not (bytes_eq w (codes "lost")) (Ok ([], ws)) (field None) e (ok-not ([], ws)) (field-not None)
  before_lost-not (suc most) (w ∷ ws) e =
      cond-not (bytes_eq w (codes "lost")) _ _ e (ok-not ([], ws))
      (λ e1. bind-fault _ _ e1 (field-not (number_of (2 ^ 32) w)) (λ n en e2. bind-fault _ _ e2 (before_lost-not most ws) (λ r er. ok-not (n ∷ r.0, r.1))))

  pub some_of-not : (ns : List ℕ) → IsNot (some_of ns)
  some_of-not [] e = field-not {A = Unit {0}} None e
  some_of-not (n ∷ ns) e = ok-not tt e

  pub stopped_fields-not : (ws : List (List ℕ)) → IsNot (stopped_fields ws)
  stopped_fields-not ws e = bind-fault _ _ e (actor-not ws) (λ a ea e1. bind-fault _ _ e1 (name-not (codes "by") (drop 1 ws)) (λ u eu e2. bind-fault _ _ e2 (node-not (drop 2 ws)) (λ m em. ok-not (a, m))))

  pub evidence_fields-not : (ws : List (List ℕ)) → IsNot (evidence_fields ws)
  evidence_fields-not ws e = bind-fault _ _ e (named_number-not (codes "received") ws) (λ r er e1.
      bind-fault _ _ e1 (named_number-not (codes "told") (drop 2 ws)) (λ t et e2. bind-fault _ _ e2 (named_number-not (codes "admitted") (drop 4 ws)) (λ a ea. ok-not (r, t, a))))
