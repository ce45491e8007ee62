-- How each step changes a view.
use Rattle.std.specs.Prelude.{ℕ, ◌+◌, nat_le, List, [], ◌∷◌, ◌++◌, length, Option, None, cond}
use Rattle.turn_lock.specs.declared.object.Entry.{Entry}
use Rattle.turn_lock.specs.declared.rule.View.{View}
use Rattle.turn_lock.specs.History.{entry}

module _ {A : Type 0} where
  abbrev pub longer : List A → List A → List A
  longer xs ys = cond (nat_le (length ys) (length xs)) xs ys

  abbrev pub shorter : List A → List A → List A
  shorter xs ys = cond (nat_le (length ys) (length xs)) ys xs

module _ {S P R : Type 0} where
  -- a pass that has seen this much, and has made no call
  abbrev pub fresh : Option S → ℕ → List (Entry P R) → View S P R
  fresh start number seen = record {
    start = start;
    live = 1;
    number = number;
    drawn = 0;
    given = 0;
    joined = [];
    waits = 0;
    turn = 0;
    ticket = 0;
    seen = seen;
    own = [];
    gathered = [];
    heard = [];
  }

  -- a pass that was joined
  abbrev pub spent : View S P R
  spent = record (fresh None 0 []) { live = 0 }

  -- the first pass has drawn a number
  abbrev pub numbered : View S P R → View S P R
  numbered v = record v { drawn = 1 }

  -- the first pass gives that number away, and the new pass has it
  abbrev pub kept : View S P R → View S P R
  kept v = record v { drawn = 0; given = v.given + 1 }

  abbrev pub given : View S P R → View S P R
  given v = fresh v.start (v.given + 1) v.seen

  -- the pass has drawn a ticket
  abbrev pub ticketed : View S P R → ℕ → View S P R
  ticketed v ticket = record v { waits = 1; ticket = ticket }

  -- the pass has the turn, and has seen the calls that came later too
  abbrev pub turned : View S P R → List (Entry P R) → View S P R
  turned v later = record v { turn = 1; seen = later ++ v.seen }

  -- the pass has made a call
  abbrev pub called : View S P R → P → R → View S P R
  called v op reply = record v { waits = 0; turn = 0; seen = entry v.number op reply ∷ v.seen; own = entry v.number op reply ∷ v.own }

  -- the first pass has taken another in
  abbrev pub both : View S P R → View S P R → View S P R
  both v w = record v { joined = w.number ∷ v.joined; seen = longer v.seen w.seen; heard = shorter v.seen w.seen; gathered = w.own ++ v.gathered }
