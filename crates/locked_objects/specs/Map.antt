-- What a map's state stands for, and who may take a key back.
use Rattle.std.specs.Prelude.{◌≡◌, ◌⊎◌, ℕ, Bool, true, false, cond, List, [], ◌∷◌, ◌++◌, Option, Some, None, eqb, refl}
use Rattle.std.specs.Ordering.{nat_cmp}
use Rattle.std.specs.BTreeMap.{BTreeMap, get, is_at}
use Rattle.std.proofs.Common.{◌∙◌}
use Rattle.turn_lock.specs.declared.object.Entry.{Entry}
use Rattle.turn_lock.specs.History.{calls_of}
use Rattle.locked_objects.specs.declared.map.MapOp.{MapOp}
use Rattle.locked_objects.specs.declared.map.MapOp.TheVariants.{Put, Get, TakeBack}
use Rattle.locked_objects.specs.declared.map.MapReply.{MapReply}
use Rattle.locked_objects.specs.declared.map.MapReply.TheVariants.{Done, NoMemory, Value}

-- a history of calls of a map
abbrev pub Log : Type 0
Log = List (Entry MapOp MapReply)

-- the value at a key after a call, where this was the value before
abbrev pub value_after : MapOp → MapReply → ℕ → Option ℕ → Option ℕ
value_after (Put k v) Done key before = cond (is_at (nat_cmp k) key) (Some v) before
value_after (TakeBack k) _ key before = cond (is_at (nat_cmp k) key) None before
value_after _ _ key before = before

abbrev pub value_at : BTreeMap ℕ ℕ → Log → ℕ → Option ℕ
value_at start [] key = get nat_cmp start key
value_at start (e ∷ earlier) key = value_after e.op e.reply key (value_at start earlier key)

-- the reply is right where these were the values before
abbrev pub IsAnswer : MapOp → MapReply → (ℕ → Option ℕ) → Type 0
IsAnswer (Put k v) reply values = (reply ≡ Done) ⊎ (reply ≡ NoMemory)
IsAnswer (Get k) reply values = reply ≡ Value (values k)
IsAnswer (TakeBack k) reply values = reply ≡ Value (values k)

abbrev pub AllAnswered : BTreeMap ℕ ℕ → Log → Type 0
AllAnswered start [] = Unit {0}
AllAnswered start (e ∷ earlier) = IsAnswer e.op e.reply (value_at start earlier) × AllAnswered start earlier

abbrev pub IsMapOf : BTreeMap ℕ ℕ → Log → BTreeMap ℕ ℕ → Type 0
IsMapOf start history map = ((key : ℕ) → get nat_cmp map key ≡ value_at start history key) × AllAnswered start history

-- whether a pass has put a key and not taken it back since, after a call of its own
abbrev pub has_put_after : MapOp → MapReply → ℕ → Bool → Bool
has_put_after (Put k v) Done key before = cond (eqb k key) true before
has_put_after (TakeBack k) _ key before = cond (eqb k key) false before
has_put_after _ _ key before = before

abbrev pub has_put : ℕ → ℕ → Log → Bool
has_put pass key [] = false
has_put pass key (e ∷ earlier) = cond (eqb e.pass pass) (has_put_after e.op e.reply key (has_put pass key earlier)) (has_put pass key earlier)

abbrev pub MayMake : Log → MapOp → ℕ → Type 0
MayMake history (TakeBack key) pass = has_put pass key history ≡ true
MayMake history _ pass = Unit {0}

-- ---- the laws
-- calls of others change nothing
has_put_later : (pass key : ℕ) (later history : Log) → calls_of pass later ≡ [] → has_put pass key (later ++ history) ≡ has_put pass key history
has_put_later pass key [] history none = refl
has_put_later pass key (e ∷ later) history none = by_test (eqb e.pass pass) none (has_put_later pass key later history)
  where
    by_test : (b : Bool) → cond b (e ∷ calls_of pass later) (calls_of pass later) ≡ []
        → (calls_of pass later ≡ [] → has_put pass key (later ++ history) ≡ has_put pass key history)
        → cond b (has_put_after e.op e.reply key (has_put pass key (later ++ history))) (has_put pass key (later ++ history)) ≡ has_put pass key history
    by_test true n rest = absurd (cc)
    by_test false n rest = rest n

pub still_may_make : (later history : Log) (op : MapOp) (pass : ℕ) → calls_of pass later ≡ []
    → MayMake history op pass → MayMake (later ++ history) op pass
still_may_make later history (Put k v) pass none may = tt
still_may_make later history (Get k) pass none may = tt
still_may_make later history (TakeBack k) pass none may = has_put_later pass k later history none ∙ may

pub map_of_nothing : (start : BTreeMap ℕ ℕ) → IsMapOf start [] start
map_of_nothing start = ((λ key. refl), tt)
