-- The rows of one entry more.
use Rattle.std.proofs.Common.{◌≡◌, ◌+◌, ◌<◌, ℕ, Bool, true, false, cond, List, [], ◌∷◌, ◌++◌, length, get_or, map, take, sym, ◌∙◌, ap, append_assoc, append-nil}
use Rattle.std.proofs.lemmas.Bool.{false≢true}
use Rattle.std.proofs.lemmas.List.{take_more}
use Rattle.std.specs.List.{AllByRecursion}
use Rattle.crgc_ids.specs.Actor.{Actor}
use Rattle.crgc_ids.specs.declared.rising.ActorCount.{ActorCount}
use Rattle.crgc_ids.specs.declared.rising.PairCount.{PairCount}
use Rattle.history_model.specs.declared.records.Entry.{Entry}
use Rattle.history_model.specs.Ledgers.{Ledger, entries_ledger, entry_ledger, joined}

-- what a growth that succeeds leaves
pub grown : {X : Type 0} (ok : Bool) (was more now : List X) → ok ≡ true → now ≡ cond ok (was ++ more) was → now ≡ was ++ more
grown true was more now e is = is
grown false was more now e is = absurd (false≢true e)

-- one entry after others
entries-push : (es : List Entry) (e : Entry) → entries_ledger (es ++ e ∷ []) ≡ joined (entries_ledger es) (entry_ledger e)
entries-push [] e =
    let l : Ledger = entry_ledger e in
    λ i. record {
      states = append-nil l.states i;
      sent = append-nil l.sent i;
      created = append-nil l.created i;
      released = append-nil l.released i;
    }
entries-push (x ∷ es) e =
    let l : Ledger = entry_ledger x in
    let m : Ledger = entries_ledger es in
    let n : Ledger = entry_ledger e in
    ap (joined l) (entries-push es e)
    ∙ (λ i. record {
      states = sym (append_assoc l.states m.states n.states) i;
      sent = sym (append_assoc l.sent m.sent n.sent) i;
      created = sym (append_assoc l.created m.created n.created) i;
      released = sym (append_assoc l.released m.released n.released) i;
    })

-- the entry at i comes after those before it
pub entries-more : (es : List Entry) (i : ℕ) (e : Entry) → i < length es → e ≡ get_or es i e → entries_ledger (take (i + 1) es) ≡ joined (entries_ledger (take i es)) (entry_ledger e)
entries-more es i e inside is =
    ap entries_ledger (take_more es i e inside ∙ ap (λ x. take i es ++ x ∷ []) (sym is)) ∙ entries-push (take i es) e

-- an actor's row as a pair of the owner
abbrev pub own_row : Actor → ActorCount → PairCount
own_row owner r = record { owner = owner; target = r.actor; count = r.count }

-- rows of one owner count from 1 as theirs do
pub own-stand : (owner : Actor) (rows : List ActorCount) → AllByRecursion (λ r. 0 < r.count) rows → AllByRecursion (λ r. 0 < r.count) (map (own_row owner) rows)
own-stand owner [] stand = tt
own-stand owner (r ∷ rows) stand = (stand.0, own-stand owner rows stand.1)
