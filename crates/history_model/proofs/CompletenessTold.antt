-- At a quiet point all that the actors of the nodes that are up have noted is told, and so are their flags. So the
-- counts of what is folded there are counts of the history.
use Rattle.std.proofs.Common.{◌≡◌, ◌<◌, ◌≤◌, ◌&&◌, ◌==◌, ℕ, Bool, true, false, not, List, [], ◌∷◌, ◌++◌, length, refl, sym, ◌∙◌, ap, subst, inl, inr, arith, IsTrue, cond, nat_lt, Option, Some, None, append_assoc, le_of_eq, length-append}
use Rattle.std.proofs.lemmas.Bool.{cond_both, false≢true, or_parts, and_parts, cases_Bool, not-false}
use Rattle.std.proofs.lemmas.Bool.Decides.{Decides-ltb}
use Rattle.std.specs.Bool.{beq}
use Rattle.crgc_ids.specs.Actor.{Actor}
use Rattle.crgc_ids.specs.Members.{IsAmong}
use Rattle.history_model.specs.declared.events.Event.{Event}
use Rattle.history_model.specs.declared.events.Event.TheVariants.{Flush, Publish, Window, Remove}
use Rattle.history_model.specs.Cluster.{Cluster, same_actor, is_born}
use Rattle.history_model.specs.Facts.{Fact, flagged, Flags, Note, notes}
use Rattle.history_model.specs.State.{is_busy, is_root, is_up}
use Rattle.history_model.specs.Streams.{delta, window_of, final_of, facts_by, is_flush_of, log, flags_at, flushed_flags, are_flags, is_blank, entry, queue, window, stream}
use Rattle.history_model.specs.Folds.{cut_at}
use Rattle.history_model.specs.Legal.{IsLegal}
use Rattle.history_model.specs.Quiescent.{IsQuietPoint}
use Rattle.history_model.proofs.Basics.{legal-before, same_actor-refl}
use Rattle.history_model.proofs.Sums.{noted_sum, told_sum, publish_horizon, horizon_flags, told_horizon}
use Rattle.history_model.proofs.AccountsBirths.{born-grows, born-on_node, notes-born}
use Rattle.history_model.proofs.FoldSumsHorizons.{flush_horizon-last, last_flush, last_flush-here, last_flush-other}
use Rattle.history_model.proofs.FoldSumsLogs.{log-flushed, log-next}
use Rattle.history_model.proofs.FoldSumsNotes.{told-next}
use Rattle.crgc_ids.proofs.MembersLaws.{append-empty}

-- ---- flushes below a position

-- each flush of a lies below position t
abbrev pub AreFlushesBelow : Actor → ℕ → List Event → Type 0
AreFlushesBelow a t [] = Unit {0}
AreFlushesBelow a t (e ∷ p) = (is_flush_of a e ≡ true → length p < t) × AreFlushesBelow a t p

flushes-within : (a : Actor) (t : ℕ) (h : List Event) → length h ≤ t → AreFlushesBelow a t h
flushes-within a t [] below = tt
flushes-within a t (e ∷ p) below = (λ _. omega arith, flushes-within a t p (omega arith))

append-not_empty : {A : Type 0} (xs : List A) (y : A) (ys : List A) → xs ++ y ∷ ys ≡ [] → ⊥
append-not_empty [] y ys e = cc
append-not_empty (x ∷ xs) y ys e = cc

-- a list that may have got one more item was no longer
shorter : {A : Type 0} (v : Bool) (xs : List A) (x : A) (n : ℕ) → length (cond v (xs ++ x ∷ []) xs) ≤ n → length xs ≤ n
shorter true xs x n below = omega (arith, length-append xs (x ∷ []))
shorter false xs x n below = below

other_event : {P : Type 0} → false ≡ true → P
other_event t = absurd (false≢true t)

-- where the queue of a's node is empty, its flushes lie below the last publish
flushes-published : (cl : Cluster) (a : Actor) (n : ℕ) (h : List Event) → length (stream cl a.node h) ≤ n → queue cl a.node h ≡ []
    → AreFlushesBelow a (publish_horizon cl a.node n h) h
flushes-published cl a n [] all empty = tt
flushes-published cl a n (Flush b ∷ p) all empty =
    let Left : Bool → Type 0 = λ v. cond v (queue cl a.node p ++ entry cl b p) (queue cl a.node p) ≡ [] → (v ≡ false) × (queue cl a.node p ≡ []) in
    let left : Left (b.node == a.node) = elim (b.node == a.node) as Left [
      | true ↦ λ e. absurd (append-not_empty (queue cl a.node p) (flagged b (flags_at b p)) (log cl b p) e)
      | false ↦ λ e. (refl, e)
    ] in
    let apart = left empty in
    (λ same. absurd (false≢true (sym apart.0 ∙ (and_parts (b.node == a.node) (b.serial == a.serial) same).0)), flushes-published cl a n p all apart.1)
flushes-published cl a n (Publish m ∷ p) all empty =
    let s = stream cl a.node p in
    let At : Bool → Type 0 = λ v.
    length (cond v (s ++ delta (queue cl a.node p) ∷ []) s) ≤ n → cond v [] (queue cl a.node p) ≡ []
    → AreFlushesBelow a (cond (v && nat_lt (length s) n) (length p) (publish_horizon cl a.node n p)) p in
    let at_publish : At true = λ longer _.
    let within : nat_lt (length s) n ≡ true = (Decides-ltb (length s) n).1 (omega (arith, longer, length-append s (delta (queue cl a.node p) ∷ []))) in
    subst (λ v. AreFlushesBelow a (cond v (length p) (publish_horizon cl a.node n p)) p) (sym within) (flushes-within a (length p) p (omega arith)) in
    (other_event, (elim (m == a.node) as At [ true ↦ at_publish | false ↦ flushes-published cl a n p ]) all empty)
flushes-published cl a n (Window d s ∷ p) all empty =
    (other_event, flushes-published cl a n p (shorter (d == a.node) (stream cl a.node p) (window_of s (window s d p)) n all) empty)
flushes-published cl a n (Remove d s ∷ p) all empty =
    (other_event, flushes-published cl a n p (shorter (d == a.node) (stream cl a.node p) (final_of s (window s d p)) n all) empty)
flushes-published cl a n (_ ∷ p) all empty = (other_event, flushes-published cl a n p all empty)

-- the flags at the last flush below the position are those at the last flush
flags-flushed : (a : Actor) (t : ℕ) (h : List Event) → AreFlushesBelow a t h → horizon_flags a t h ≡ flushed_flags a h
flags-flushed a t [] below = refl
flags-flushed a t (Flush b ∷ p) below =
    let later = flags-flushed a t p below.1 in
    let Same : Bool → Type 0 = λ v. same_actor b a ≡ v → cond (v && nat_lt (length p) t) (Some (flags_at a p)) (horizon_flags a t p) ≡ cond v (Some (flags_at a p)) (flushed_flags a p) in
    (elim (same_actor b a) as Same [
      | true ↦ λ s. ap (λ v. cond v (Some (flags_at a p)) (horizon_flags a t p)) ((Decides-ltb (length p) t).1 (below.0 s))
      | false ↦ λ _. later
    ]) refl
flags-flushed a t (_ ∷ p) below = flags-flushed a t p below.1

-- ---- notes below the last flush

-- a note by a is a fact of a's log
facts_by-some : (a : Actor) (x : Note) (before : List Fact) (ns : List Note) → IsAmong x ns → x.by ≡ a → before ++ facts_by a ns ≡ [] → ⊥
facts_by-some a x before [] among by empty = among
facts_by-some a x before (n ∷ ns) (inl e) by empty =
    let own : same_actor n.by a ≡ true = subst (λ b. same_actor b a ≡ true) (sym by ∙ ap (λ (y : Note). y.by) e) (same_actor-refl a) in
    append-not_empty before n.fact (facts_by a ns) (ap (λ v. before ++ cond v (n.fact ∷ facts_by a ns) (facts_by a ns)) (sym own) ∙ empty)
facts_by-some a x before (n ∷ ns) (inr later) by empty =
    cond_both (same_actor n.by a) (n.fact ∷ facts_by a ns) (facts_by a ns) (λ xs. before ++ xs ≡ [] → ⊥)
    (λ _. append-not_empty before n.fact (facts_by a ns)) (λ _. facts_by-some a x before ns later by) empty

-- what an event notes in a's log does not leave the log blank
noted-log : (cl : Cluster) (a : Actor) (e : Event) (p : List Event) (x : Note) → IsAmong x (notes cl e p) → x.by ≡ a → log cl a (e ∷ p) ≡ [] → ⊥
noted-log cl a e p x among by blank =
    elim (cases_Bool (is_flush_of a e)) [
      | inl flush ↦ subst (IsAmong x) (log-flushed cl a e p flush).1 among
      | inr other ↦ facts_by-some a x (log cl a p) (notes cl e p) among by (sym (log-next cl a e p other) ∙ blank)
    ]

-- where a's log is blank, what it noted lies below its last flush
noted-flushed : (cl : Cluster) (a : Actor) (t : ℕ) (q : List Event) (e : Event) (p : List Event) (x : Note) → AreFlushesBelow a t (q ++ e ∷ p)
    → log cl a (q ++ e ∷ p) ≡ []
    → IsAmong x (notes cl e p) → x.by ≡ a → length p < last_flush 0 length a t (q ++ e ∷ p)
noted-flushed cl a t [] e p x below blank among by = absurd (noted-log cl a e p x among by blank)
noted-flushed cl a t (f ∷ q) e p x below blank among by =
    let r = q ++ e ∷ p in
    let longer : length p < length r = omega (arith, length-append q (e ∷ p)) in
    elim (cases_Bool (is_flush_of a f)) [
      | inl flush ↦ subst (λ n. length p < n) (sym (last_flush-here 0 length a t f r flush (below.0 flush))) longer
      | inr other ↦ (
          let before = append-empty (log cl a r) (facts_by a (notes cl f r)) (sym (log-next cl a f r other) ∙ blank) in
          subst (λ n. length p < n) (sym (last_flush-other 0 length a t f r other)) (noted-flushed cl a t q e p x below.1 before among by))
    ]

-- ---- sums

-- all is told, where each note that passes the test lies below its noter's horizon
told-within : (cl : Cluster) (u : Actor → ℕ) (t : Note → Bool) (h : List Event)
    → ((q : List Event) (e : Event) (p : List Event) (x : Note) → h ≡ q ++ e ∷ p → IsAmong x (notes cl e p) → t x ≡ true → length p < u x.by)
    → (q p : List Event) → h ≡ q ++ p → told_sum cl u t p ≡ noted_sum cl t p
told-within cl u t h all q [] parts = refl
told-within cl u t h all q (e ∷ p) parts =
    told-next cl u t e p (λ x. all q e p x parts) (told-within cl u t h all (q ++ e ∷ []) p (parts ∙ sym (append_assoc q (e ∷ []) p)))

pub blank-empty : (xs : List Fact) → is_blank xs ≡ true → xs ≡ []
blank-empty [] blank = refl
blank-empty (x ∷ xs) blank = absurd (false≢true blank)

-- flags that differ from none are there, and are the same
as_flushed : (found : Option Flags) (now : Flags) → are_flags found now ≡ true
    → (g : Flags) × (found ≡ Some g) × (g.busy ≡ now.busy) × (g.root ≡ now.root)
as_flushed None now same = absurd (false≢true same)
as_flushed (Some g) now same =
    let both = and_parts (beq g.busy now.busy) (beq g.root now.root) same in
    (g, refl, beq-equal g.busy now.busy both.0, beq-equal g.root now.root both.1)
  where
    beq-equal : (x y : Bool) → beq x y ≡ true → x ≡ y
    beq-equal true true e = refl
    beq-equal true false e = absurd (false≢true e)
    beq-equal false true e = absurd (false≢true e)
    beq-equal false false e = refl

-- what is flushed and published of an actor on a node that is up
pub record IsTold (cl : Cluster) (m : ℕ) (h : List Event) (a : Actor) : Type 0 where
  pub blank : log cl a h ≡ []
  pub flags : are_flags (flushed_flags a h) (flags_at a h) ≡ true
  pub flushes : AreFlushesBelow a (publish_horizon cl a.node (cut_at cl m h a.node) h) h

pub quiet-actor : (cl : Cluster) (m : ℕ) (h : List Event) → IsLegal cl h → IsQuietPoint cl m h → (a : Actor) → IsTrue (is_born a h)
    → IsTrue (is_up a.node h) → IsTold cl m h a
quiet-actor cl m h legal quiet a born up =
    let told = or_parts (not (is_blank (log cl a h))) (not (are_flags (flushed_flags a h) (flags_at a h))) (quiet.flushed a born up) in
    let all : length (stream cl a.node h) ≤ cut_at cl m h a.node = le_of_eq (sym (quiet.folded a.node (born-on_node cl h legal a born) up)) in
    record {
      blank = blank-empty (log cl a h) (not-false (is_blank (log cl a h)) told.0);
      flags = not-false (are_flags (flushed_flags a h) (flags_at a h)) told.1;
      flushes = flushes-published cl a (cut_at cl m h a.node) h all (quiet.published a.node up);
    }

-- at a quiet point all notes of actors on nodes that are up are told
pub quiet-told : (cl : Cluster) (m : ℕ) (h : List Event) → IsLegal cl h → IsQuietPoint cl m h → (t : Note → Bool)
    → ((e : Event) (p : List Event) (x : Note) → IsAmong x (notes cl e p) → t x ≡ true → IsTrue (is_born x.by h) → IsTrue (is_up x.by.node h))
    → told_sum cl (told_horizon cl (cut_at cl m h) h) t h ≡ noted_sum cl t h
quiet-told cl m h legal quiet t up =
    let below : (q : List Event) (e : Event) (p : List Event) (x : Note) → h ≡ q ++ e ∷ p → IsAmong x (notes cl e p) → t x ≡ true → length p < told_horizon cl (cut_at cl m h) h x.by =
    λ q e p x parts among pass.
    let then_legal = legal-before cl q (e ∷ p) (subst (IsLegal cl) parts legal) in
    let born = subst (λ r. IsTrue (is_born x.by r)) (sym parts) (born-grows x.by q (e ∷ p) (notes-born cl e p then_legal x among).0) in
    let told = quiet-actor cl m h legal quiet x.by born (up e p x among pass born) in
    let horizon = publish_horizon cl x.by.node (cut_at cl m h x.by.node) h in
    subst (λ n. length p < n) (sym (flush_horizon-last x.by horizon h)) (subst (λ r. length p < last_flush 0 length x.by horizon r) (sym parts)
    (noted-flushed cl x.by horizon q e p x (subst (AreFlushesBelow x.by horizon) parts told.flushes) (subst (λ r. log cl x.by r ≡ []) parts told.blank) among refl)) in
    told-within cl (told_horizon cl (cut_at cl m h) h) t h below [] h refl

-- and the flags of such an actor are as at its last flush
pub flags-told : (cl : Cluster) (m : ℕ) (h : List Event) → IsLegal cl h → IsQuietPoint cl m h → (a : Actor) → IsTrue (is_born a h)
    → IsTrue (is_up a.node h)
    → (g : Flags) × (horizon_flags a (publish_horizon cl a.node (cut_at cl m h a.node) h) h ≡ Some g) × (g.busy ≡ is_busy a h) × (g.root ≡ is_root a h)
flags-told cl m h legal quiet a born up =
    let told = quiet-actor cl m h legal quiet a born up in
    let flushed = as_flushed (flushed_flags a h) (flags_at a h) told.flags in
    (flushed.0, flags-flushed a (publish_horizon cl a.node (cut_at cl m h a.node) h) h told.flushes ∙ flushed.1, flushed.2, flushed.3)
