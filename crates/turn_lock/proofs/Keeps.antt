-- Each step of a pass keeps the rule.
use Rattle.std.proofs.Common.{◌≡◌, ◌≢◌, ◌⊎◌, ℕ, zero, suc, ◌+◌, ◌%◌, ◌^◌, ◌<◌, ◌≤◌, List, [], ◌∷◌, ◌++◌, ◌==◌, length, map, set, get_or, Some, refl, sym, ap, ◌∙◌, subst, inl, inr, ⊎_elim, arith, append_assoc, le_refl}
use Rattle.std.proofs.Math.Nat.{mod-add-mod, mod-eq_of_lt}
use mathlib.Core.Option.{Option, none, some}
use prog.Atomic.{either}
use mathlib.Core.Logic.{dite}
use native.Mathlib.Decide.{ℕ_discrete}
use lib.ListN.{get_elem?}
use Rattle.atomic_table.specs.Table.{State, Step, step, keeps, takes, gives, opening, Allows, Splits}
use Rattle.atomic_table.proofs.Lists.{set_else, set_here, set_again, at_longer, one_turn}
use lib.Seq.{set-get_or}
use mathlib.Core.List.{append-nil}
use Rattle.turn_lock.specs.declared.object.Entry.{Entry}
use Rattle.turn_lock.specs.declared.rule.Last.{Last}
use Rattle.turn_lock.specs.declared.rule.Room.{Room}
use Rattle.turn_lock.specs.declared.rule.View.{View}
use Rattle.turn_lock.specs.History.{entry, calls_of, Begins, IsProper}
use Rattle.turn_lock.specs.Views.{numbered, kept, given, ticketed, turned, called}
use Rattle.turn_lock.specs.Rule.{newcomer, total, Lives, IsAway, Alive, Queued, Leads, IsHome, Kept}
use Rattle.turn_lock.specs.Plays.{Sat, draws_number, draws_ticket, hands_on, passes_door, looks}
use Rattle.turn_lock.proofs.Calls.{none_later, seen_has_none, calls_of_own, calls_of_other}
use Rattle.turn_lock.proofs.Rosters.{only, one_at, set_at, total_set, total_snoc, total_le, each_set, each_snoc, Apart_set, Apart_snoc}

-- a word behind the first three changes none of these
behind_three : (word new x y z : ℕ) (others : List ℕ) → 2 < word → (after : List ℕ) × (set (x ∷ y ∷ z ∷ others) word new ≡ x ∷ y ∷ z ∷ after)
behind_three zero new x y z others later = absurd (omega arith)
behind_three (suc zero) new x y z others later = absurd (omega arith)
behind_three (suc (suc zero)) new x y z others later = absurd (omega arith)
behind_three (suc (suc (suc i))) new x y z others later = (set others i new, refl)

-- a flag is not both down and up
pub zero_one : (flag : ℕ) → flag ≡ 0 → flag ≡ 1 → ⊥
zero_one flag down up = omega arith

module _ {S P R : Type 0} where
  -- a pass lives on where a view changes and keeps its number
  pub still_lives : (views : List (View S P R)) (id : ℕ) (v w : View S P R) → get_elem? views id ≡ some v → w.live ≡ v.live → w.number ≡ v.number → (pass : ℕ) → Lives views pass → Lives (set views id w) pass
  still_lives views id v w at live number pass l = dite (ℕ_discrete l.0 id)
      (λ same. let is : l.1 ≡ v = one_at views l.0 id l.1 v same l.2 at in
      (id, w, set_at views id v w at, live ∙ (sym (ap (λ (u : View S P R). u.live) is) ∙ l.3), number ∙ (sym (ap (λ (u : View S P R). u.number) is) ∙ l.4)))
      (λ other. (l.0, l.1, set_else views id l.0 w other ∙ l.2, l.3, l.4))

  pub still_away : (views : List (View S P R)) (id : ℕ) (v w : View S P R) → get_elem? views id ≡ some v → v.turn ≡ 0 → IsAway views → IsAway (set views id w)
  still_away views id v w at no_turn a = dite (ℕ_discrete a.0 id)
      (λ same. let t = ap (λ (u : View S P R). u.turn) (one_at views a.0 id a.1 v same a.2 at) in let h = a.3 in absurd (omega arith))
      (λ other. (a.0, a.1, set_else views id a.0 w other ∙ a.2, a.3))

  -- what a pass knows, where it has seen no more, or the whole log
  knows_more : (key : S) (log : List (Entry P R)) (given : ℕ) (gathered : List (Entry P R)) (v : View S P R) (drawn waits turn ticket : ℕ) (seen : List (Entry P R)) → (seen ≡ v.seen) ⊎ (seen ≡ log)
      → Alive key log given gathered v → Alive key log given gathered (record v { drawn = drawn; waits = waits; turn = turn; ticket = ticket; seen = seen })
  knows_more key log given gathered v drawn waits turn ticket seen (inl same) a = record {
    start = a.start;
    number = a.number;
    knows = subst (λ (l : List (Entry P R)). Begins l log) (sym same) a.knows;
    all_seen = ap (calls_of v.number) same ∙ a.all_seen;
    all = a.all;
    not_joined = a.not_joined;
    heard = subst (λ (l : List (Entry P R)). Begins v.heard l) (sym same) a.heard;
  }
  knows_more key log given gathered v drawn waits turn ticket seen (inr whole) a = record {
    start = a.start;
    number = a.number;
    knows = ([], sym whole);
    all_seen = ap (calls_of v.number) whole ∙ a.all;
    all = a.all;
    not_joined = a.not_joined;
    heard = (a.knows.0 ++ a.heard.0, whole ∙ (a.knows.1 ∙ (ap (λ (l : List (Entry P R)). a.knows.0 ++ l) a.heard.1 ∙ sym (append_assoc a.knows.0 a.heard.0 v.heard))));
  }

module _ {S P R : Type 0} (fits : S → List (Entry P R) → P → ℕ → Type 0) (stands : S → List (Entry P R) → S → Type 0) (key : S) where
  -- a new lock keeps the rule
  pub opens : (words others : List ℕ) (rooms : List (Room S P R)) (room : Room S P R) → words ≡ 1 ∷ 0 ∷ 0 ∷ others → rooms ≡ room ∷ [] → stands key [] room.state → Kept fits stands key (opening words rooms (newcomer key))
  opens words others rooms room are_words is_room stood = record {
    log = [];
    given = 0;
    drawn = 0;
    joined = 0;
    next = 0;
    gathered = [];
    others = others;
    words = are_words;
    few = omega arith;
    proper = tt;
    none_more = λ _ _. (refl, refl);
    lives = omega arith;
    waits = omega arith;
    numbers = λ i j u v at_i at_j _ _ _. (only (newcomer key) u i at_i).0 ∙ sym (only (newcomer key) v j at_j).0;
    tickets = λ i j u v at_i at_j _ _ _. (only (newcomer key) u i at_i).0 ∙ sym (only (newcomer key) v j at_j).0;
    queued = λ j v at. subst (Queued [] 0) (only (newcomer key) v j at).1
        record { lives = le_refl 1; waits = omega arith; turn = le_refl 0; ticket = λ f. absurd (zero_one 0 refl f); served = λ f. absurd (zero_one 0 refl f) };
    alive = λ j v at _. subst (Alive key [] 0 []) (only (newcomer key) v j at).1
        record { start = refl; number = le_refl 0; knows = ([], refl); all_seen = refl; all = refl; not_joined = refl; heard = ([], refl) };
    leads = λ j v at _ _. subst (Leads [] 0 0 0 [] (newcomer key ∷ [])) (only (newcomer key) v j at).1
        record { split_so_far = refl; has_drawn = refl; joined_so_far = refl; has_gathered = refl; settled = λ _. inr (refl, refl) };
    slot = inl (room, ap (λ (l : List (Room S P R)). get_elem? (map some l) 0) is_room, stood);
  }

  -- a step that makes no call: one view changes, and the rest of the rule stays
  quiet : (s : State (Room S P R) (View S P R)) (k : Kept fits stands key s) (id : ℕ) (v : View S P R) → get_elem? s.views id ≡ some v → v.live ≡ 1
      → (book drawn waits turn ticket : ℕ) (seen : List (Entry P R)) (next : ℕ) (words : List ℕ) (homes : List (Option (Room S P R)))
      → words ≡ (k.given + book + 1) ∷ (next % 2 ^ 64) ∷ (length k.log % 2 ^ 64) ∷ k.others → k.given + book < 2 ^ 32 → (v.number ≡ 0 → drawn ≡ book) → (v.number ≢ 0 → book ≡ k.drawn)
      → waits + k.next ≡ next + v.waits → k.next ≤ next → ((t : ℕ) → waits ≡ 1 → t < k.next → (v.waits ≡ 1 → t ≢ v.ticket) → t ≢ ticket) → (seen ≡ v.seen) ⊎ (seen ≡ k.log)
      → Queued k.log next (record v { drawn = drawn; waits = waits; turn = turn; ticket = ticket; seen = seen })
      → IsHome fits stands key k.log homes ⊎ IsAway (set s.views id (record v { drawn = drawn; waits = waits; turn = turn; ticket = ticket; seen = seen }))
      → Kept fits stands key record { words = words; homes = homes; views = set s.views id (record v { drawn = drawn; waits = waits; turn = turn; ticket = ticket; seen = seen }) }
  quiet s k id v at live book drawn waits turn ticket seen next words homes is_words few own_draw others_draw count more apart saw mine slot =
      let w : View S P R = record v { drawn = drawn; waits = waits; turn = turn; ticket = ticket; seen = seen } in
      let lives = k.lives in
      let waiting = k.waits in
      let settled : (u : View S P R) → Leads k.log k.given k.drawn k.joined k.gathered s.views u → (pass : ℕ) → Lives (set s.views id w) pass ⊎ ((calls_of pass u.seen ≡ calls_of pass k.gathered) × (calls_of pass k.log ≡ calls_of pass k.gathered))
      = λ u l pass. ⊎_elim (λ (t : Lives s.views pass). inl (still_lives s.views id v w at refl refl pass t)) (λ t. inr t) (l.settled pass) in record {
        log = k.log;
        given = k.given;
        drawn = book;
        joined = k.joined;
        next = next;
        gathered = k.gathered;
        others = k.others;
        words = is_words;
        few = few;
        proper = k.proper;
        none_more = k.none_more;
        lives = let t = total_set (λ (u : View S P R). u.live) s.views id v w at in omega arith;
        waits = let t = total_set (λ (u : View S P R). u.waits) s.views id v w at in omega arith;
        numbers = Apart_set (λ u. u.live) (λ u. u.number) s.views id w k.numbers (λ j u other at_j live_u live_w same. other (k.numbers j id u v at_j at live_u live same));
        tickets = Apart_set (λ u. u.waits) (λ u. u.ticket) s.views id w k.tickets
            (λ j u other at_j waits_u waits_w. apart u.ticket waits_w ((k.queued j u at_j).ticket waits_u).1 (λ waits_v same. other (k.tickets j id u v at_j at waits_u waits_v same)));
        queued = each_set (Queued k.log next) s.views id w
            (λ j u _ at_j. let q = k.queued j u at_j in record { lives = q.lives; waits = q.waits; turn = q.turn; ticket = λ f. let t = q.ticket f in let a = t.1 in (t.0, omega arith); served = q.served }) mine;
        alive = each_set (λ u. u.live ≡ 1 → Alive key k.log k.given k.gathered u) s.views id w (λ j u _ at_j. k.alive j u at_j) (λ _. knows_more key k.log k.given k.gathered v drawn waits turn ticket seen saw (k.alive id v at live));
        leads = each_set (λ u. u.live ≡ 1 → u.number ≡ 0 → Leads k.log k.given book k.joined k.gathered (set s.views id w) u) s.views id w
            (λ j u other at_j live_u first. let l = k.leads j u at_j live_u first in let b = others_draw (λ z. other (k.numbers j id u v at_j at live_u live (first ∙ sym z))) in record {
              split_so_far = l.split_so_far;
              has_drawn = l.has_drawn ∙ sym b;
              joined_so_far = l.joined_so_far;
              has_gathered = l.has_gathered;
              settled = settled u l;
            })
            (λ _ first. let l = k.leads id v at live first in record {
              split_so_far = l.split_so_far;
              has_drawn = own_draw first;
              joined_so_far = l.joined_so_far;
              has_gathered = l.has_gathered;
              settled = λ pass. ⊎_elim (λ (t : Lives (set s.views id w) pass). inl t)
                  (λ (t : (calls_of pass v.seen ≡ calls_of pass k.gathered) × (calls_of pass k.log ≡ calls_of pass k.gathered)). inr (⊎_elim (λ (e : seen ≡ v.seen). ap (calls_of pass) e ∙ t.0) (λ (e : seen ≡ k.log). ap (calls_of pass) e ∙ t.1) saw, t.1)) (settled v l pass);
            });
        slot = slot;
      }

  -- the slot stays where it is
  slot_stays : (s : State (Room S P R) (View S P R)) (k : Kept fits stands key s) (id : ℕ) (v w : View S P R) → get_elem? s.views id ≡ some v → v.turn ≡ 0 → IsHome fits stands key k.log s.homes ⊎ IsAway (set s.views id w)
  slot_stays s k id v w at no_turn = ⊎_elim (λ (h : IsHome fits stands key k.log s.homes). inl h) (λ (a : IsAway s.views). inr (still_away s.views id v w at no_turn a)) k.slot

  pub draws_a_number : (slots id : ℕ) (me : Sat S P R) → me.0.live ≡ 1 → me.0.number ≡ 0 → me.0.drawn ≡ 0 → me.0.waits ≡ 0 → me.0.turn ≡ 0 → me.0.given + 1 < 2 ^ 32
      → Allows (Kept fits stands key) slots id me 0 (λ n. (n + 1) % 2 ^ 64) (draws_number (step slots 0 1 0 none) me)
  draws_a_number slots id me live first none_drawn idle no_turn room s k _ at small =
      let v : View S P R = me.0 in
      let l = k.leads id v at live first in
      let so_far = l.split_so_far in
      let had = l.has_drawn in
      let word : get_or s.words 0 0 ≡ k.given + k.drawn + 1 = ap (λ (ws : List ℕ). get_or ws 0 0) k.words in
      let new : (get_or s.words 0 0 + 1) % 2 ^ 64 ≡ k.given + 1 + 1 = mod-eq_of_lt (omega arith) ∙ omega arith in
      let q = k.queued id v at in (
        numbered v,
        keeps,
        tt,
        quiet s k id v at live 1 1 v.waits v.turn v.ticket v.seen k.next (set s.words 0 ((get_or s.words 0 0 + 1) % 2 ^ 64)) s.homes
            (ap (λ (ws : List ℕ). set ws 0 ((get_or s.words 0 0 + 1) % 2 ^ 64)) k.words ∙ ap (λ (n : ℕ). n ∷ (k.next % 2 ^ 64) ∷ (length k.log % 2 ^ 64) ∷ k.others) new)
            (omega arith) (λ _. refl) (λ other. absurd (other first)) (omega arith) (le_refl k.next) (λ t w _ _. absurd (omega arith)) (inl refl)
            record { lives = q.lives; waits = q.waits; turn = q.turn; ticket = q.ticket; served = q.served }
            (slot_stays s k id v (numbered v) at no_turn),
        (omega arith, refl),
      )

  pub draws_a_ticket : (slots id : ℕ) (me : Sat S P R) → me.0.live ≡ 1 → me.0.waits ≡ 0 → me.0.turn ≡ 0
      → Allows (Kept fits stands key) slots id me 1 (λ n. (n + 1) % 2 ^ 64) (draws_ticket (step slots 1 1 0 none) me)
  draws_a_ticket slots id me live idle no_turn s k _ at small =
      let v : View S P R = me.0 in
      let word : get_or s.words 1 0 ≡ k.next % 2 ^ 64 = ap (λ (ws : List ℕ). get_or ws 1 0) k.words in
      let new : (get_or s.words 1 0 + 1) % 2 ^ 64 ≡ (k.next + 1) % 2 ^ 64 = ap (λ (n : ℕ). (n + 1) % 2 ^ 64) word ∙ mod-add-mod k.next (2 ^ 64) 1 in
      let waiting = k.waits in
      let q = k.queued id v at in (
        ticketed v k.next,
        keeps,
        tt,
        quiet s k id v at live k.drawn v.drawn 1 v.turn k.next v.seen (k.next + 1) (set s.words 1 ((get_or s.words 1 0 + 1) % 2 ^ 64)) s.homes
            (ap (λ (ws : List ℕ). set ws 1 ((get_or s.words 1 0 + 1) % 2 ^ 64)) k.words ∙ ap (λ (n : ℕ). (k.given + k.drawn + 1) ∷ n ∷ (length k.log % 2 ^ 64) ∷ k.others) new)
            k.few (λ first. (k.leads id v at live first).has_drawn) (λ _. refl) (omega arith) (omega arith) (λ t _ before _ same. omega arith) (inl refl)
            record { lives = q.lives; waits = omega arith; turn = omega arith; ticket = λ _. (omega arith, omega arith); served = λ t. absurd (omega arith) }
            (slot_stays s k id v (ticketed v k.next) at no_turn),
        (k.next, word, refl),
      )

  -- a look that finds another's turn changes nothing
  pub unchanged : (s : State (Room S P R) (View S P R)) → Kept fits stands key s → (id i : ℕ) (v : View S P R) → get_elem? s.views id ≡ some v
      → Kept fits stands key record { words = set s.words i (get_or s.words i 0); homes = s.homes; views = set s.views id v }
  unchanged s k id i v at = subst (Kept fits stands key) (λ j. record { words = sym (set-get_or s.words i 0) j; homes = s.homes; views = sym (set_again s.views id v at) j }) k

  -- a word behind the first three has any value
  stands_behind : (s : State (Room S P R) (View S P R)) (k : Kept fits stands key s) (words others : List ℕ) → words ≡ (k.given + k.drawn + 1) ∷ (k.next % 2 ^ 64) ∷ (length k.log % 2 ^ 64) ∷ others
      → Kept fits stands key record { words = words; homes = s.homes; views = s.views }
  stands_behind s k words others are_words = record {
    log = k.log;
    given = k.given;
    drawn = k.drawn;
    joined = k.joined;
    next = k.next;
    gathered = k.gathered;
    others = others;
    words = are_words;
    few = k.few;
    proper = k.proper;
    none_more = k.none_more;
    lives = k.lives;
    waits = k.waits;
    numbers = k.numbers;
    tickets = k.tickets;
    queued = k.queued;
    alive = k.alive;
    leads = k.leads;
    slot = k.slot;
  }

  changes_the_door : (slots id word : ℕ) (change : ℕ → ℕ) (st : Step (Room S P R)) (me : Sat S P R) → 2 < word → Allows (Kept fits stands key) slots id me word change (passes_door st me)
  changes_the_door slots id word change st me behind s k _ at small =
      let new = change (get_or s.words word 0) in
      let b = behind_three word new _ _ _ k.others behind in (
        me.0,
        keeps,
        tt,
        subst (λ (views : List (View S P R)). Kept fits stands key record { words = set s.words word new; homes = s.homes; views = views }) (sym (set_again s.views id me.0 at))
            (stands_behind s k (set s.words word new) b.0 (ap (λ (ws : List ℕ). set ws word new) k.words ∙ b.1)),
        refl,
      )

  pub swaps_the_door : (slots id word new : ℕ) (me : Sat S P R) → 2 < word → Allows (Kept fits stands key) slots id me word (λ _. new) (passes_door (step slots word new 0 none) me)
  swaps_the_door slots id word new me = changes_the_door slots id word (λ _. new) (step slots word new 0 none) me

  pub tries_the_door : (slots id word old new : ℕ) (me : Sat S P R) → 2 < word → Allows (Kept fits stands key) slots id me word (λ n. either (n == old) new n) (passes_door (step slots word old new none) me)
  tries_the_door slots id word old new me = changes_the_door slots id word (λ n. either (n == old) new n) (step slots word old new none) me

  -- the ticket served is the number of calls, where the two words are equal
  served : (s : State (Room S P R) (View S P R)) (k : Kept fits stands key s) (id : ℕ) (v : View S P R) → get_elem? s.views id ≡ some v → v.waits ≡ 1 → length k.log % 2 ^ 64 ≡ v.ticket % 2 ^ 64 → length k.log ≡ v.ticket
  served s k id v at waits same =
      let t = (k.queued id v at).ticket waits in
      let from = t.0 in
      let below = t.1 in
      let lives = k.lives in
      let waiting = k.waits in
      let few = k.few in
      let count : total (λ u. u.waits) s.views ≤ total (λ u. u.live) s.views = total_le (λ u. u.waits) (λ u. u.live) s.views (λ j u at_j. (k.queued j u at_j).waits) in
      one_turn (length k.log) v.ticket (2 ^ 64) from (omega arith) same

  -- no other seat has the turn
  own_turn : (s : State (Room S P R) (View S P R)) (k : Kept fits stands key s) (id : ℕ) (v : View S P R) → get_elem? s.views id ≡ some v → v.waits ≡ 1 → v.ticket ≡ length k.log
      → (j : ℕ) (u : View S P R) → get_elem? s.views j ≡ some u → u.turn ≡ 1 → j ≡ id
  own_turn s k id v at waits next j u at_j turn =
      let q = k.queued j u at_j in
      let a = q.lives in
      let b = q.waits in
      let c = q.turn in
      k.tickets j id u v at_j at (omega arith) waits ((q.served turn).0 ∙ sym next)

  pub looks_up : (slots id : ℕ) (me : Sat S P R) → me.0.live ≡ 1 → me.0.waits ≡ 1 → me.0.turn ≡ 0
      → Allows (Kept fits stands key) slots id me 2 (λ n. n) (looks fits stands (step slots 2 0 0 none) me)
  looks_up slots id me live waits no_turn s k _ at small =
      let v : View S P R = me.0 in
      let word : get_or s.words 2 0 ≡ length k.log % 2 ^ 64 = ap (λ (ws : List ℕ). get_or ws 2 0) k.words in
      dite (ℕ_discrete (get_or s.words 2 0) (v.ticket % 2 ^ 64))
      (λ hit.
      let here = served s k id v at waits (sym word ∙ hit) in
      let q = k.queued id v at in
      let a = k.alive id v at live in
      let later = a.knows.0 in
      let whole = sym a.knows.1 in
      let home = ⊎_elim (λ (h : IsHome fits stands key k.log s.homes). h)
      (λ (away : IsAway s.views). let same = one_at s.views away.0 id away.1 v (own_turn s k id v at waits (sym here) away.0 away.1 away.2 away.3) away.2 at in
      absurd (zero_one v.turn no_turn (sym (ap (λ (u : View S P R). u.turn) same) ∙ away.3))) k.slot in (
        turned v later,
        takes 0 home.0,
        home.1,
        quiet s k id v at live k.drawn v.drawn v.waits 1 v.ticket (later ++ v.seen) k.next (set s.words 2 (get_or s.words 2 0)) (set s.homes 0 none)
            (set-get_or s.words 2 0 ∙ k.words) k.few (λ first. (k.leads id v at live first).has_drawn) (λ _. refl) (omega arith) (le_refl k.next) (λ t _ _ other. other waits) (inr whole)
            record { lives = q.lives; waits = q.waits; turn = omega arith; ticket = q.ticket; served = λ _. (sym here, whole) }
            (inr (id, turned v later, set_at s.views id v (turned v later) at, refl)),
        (
          (λ _. record {
            start = key;
            later = later;
            room = home.0;
            is_start = a.start;
            after = refl;
            none_later = none_later v.number later v.seen v.own a.all_seen (ap (calls_of v.number) whole ∙ a.all);
            own = ap (calls_of v.number) whole ∙ a.all;
            proper = subst (IsProper fits stands key) (sym whole) k.proper;
            stood = subst (λ (l : List (Entry P R)). stands key l home.0.state) (sym whole) home.2;
          }),
          λ miss. absurd (miss hit),
        ),
      ))
      (λ miss. (v, keeps, tt, unchanged s k id 2 v at, ((λ hit. absurd (miss hit)), λ _. refl)))

  -- the call stands in the log, and the slot is at home again
  calls : (s : State (Room S P R) (View S P R)) (k : Kept fits stands key s) (id : ℕ) (v : View S P R) → get_elem? s.views id ≡ some v → v.live ≡ 1 → v.turn ≡ 1
      → (op : P) (reply : R) (room : Room S P R) → fits key v.seen op v.number → stands key (entry v.number op reply ∷ v.seen) room.state → 0 < length s.homes
      → Kept fits stands key record { words = set s.words 2 ((get_or s.words 2 0 + 1) % 2 ^ 64); homes = set s.homes 0 (some room); views = set s.views id (called v op reply) }
  calls s k id v at live turn op reply room fitted stood roomy =
      let w : View S P R = called v op reply in
      let e : Entry P R = entry v.number op reply in
      let q = k.queued id v at in
      let a = k.alive id v at live in
      let below = a.number in
      let q1 = q.waits in
      let q2 = q.turn in
      let waits : v.waits ≡ 1 = omega arith in
      let whole : v.seen ≡ k.log = (q.served turn).1 in
      let next : v.ticket ≡ length k.log = (q.served turn).0 in
      let before = (q.ticket waits).1 in
      let lives = k.lives in
      let waiting = k.waits in
      let word : get_or s.words 2 0 ≡ length k.log % 2 ^ 64 = ap (λ (ws : List ℕ). get_or ws 2 0) k.words in
      let longer : length k.log + 1 ≡ length (e ∷ k.log) = omega arith in
      let new : (get_or s.words 2 0 + 1) % 2 ^ 64 ≡ length (e ∷ k.log) % 2 ^ 64 = ap (λ (n : ℕ). (n + 1) % 2 ^ 64) word ∙ (mod-add-mod (length k.log) (2 ^ 64) 1 ∙ ap (λ (n : ℕ). n % 2 ^ 64) longer) in
      let alone : (j : ℕ) (u : View S P R) → j ≢ id → get_elem? s.views j ≡ some u → u.waits ≡ 1 → u.ticket ≢ length k.log
      = λ j u other at_j waits_u same. other (k.tickets j id u v at_j at waits_u waits (same ∙ sym next)) in
      let others : (j : ℕ) (u : View S P R) → j ≢ id → get_elem? s.views j ≡ some u → u.live ≡ 1 → v.number ≢ u.number
      = λ j u other at_j live_u same. other (k.numbers j id u v at_j at live_u live (sym same)) in
      let lives_on : (pass : ℕ) → Lives s.views pass → Lives (set s.views id w) pass = still_lives s.views id v w at refl refl in record {
        log = e ∷ k.log;
        given = k.given;
        drawn = k.drawn;
        joined = k.joined;
        next = k.next;
        gathered = k.gathered;
        others = k.others;
        words = ap (λ (ws : List ℕ). set ws 2 ((get_or s.words 2 0 + 1) % 2 ^ 64)) k.words ∙ ap (λ (n : ℕ). (k.given + k.drawn + 1) ∷ (k.next % 2 ^ 64) ∷ n ∷ k.others) new;
        few = k.few;
        proper = (
          subst (λ (l : List (Entry P R)). fits key l op v.number) whole fitted,
          (room.state, subst (λ (l : List (Entry P R)). stands key (e ∷ l) room.state) whole stood),
          k.proper,
        );
        none_more = λ pass more. let n = k.none_more pass more in (calls_of_other e k.log pass (λ same. absurd (omega arith)) ∙ n.0, n.1);
        lives = let t = total_set (λ (u : View S P R). u.live) s.views id v w at in omega arith;
        waits = let t = total_set (λ (u : View S P R). u.waits) s.views id v w at in omega arith;
        numbers = Apart_set (λ u. u.live) (λ u. u.number) s.views id w k.numbers (λ j u other at_j live_u _ same. others j u other at_j live_u (sym same));
        tickets = Apart_set (λ u. u.waits) (λ u. u.ticket) s.views id w k.tickets (λ j u other at_j _ idle _. zero_one 0 refl idle);
        queued = each_set (Queued (e ∷ k.log) k.next) s.views id w
            (λ j u other at_j. let r = k.queued j u at_j in record {
              lives = r.lives;
              waits = r.waits;
              turn = r.turn;
              ticket = λ f. let t = r.ticket f in let least = t.0 in let not_mine = alone j u other at_j f in (omega arith, t.1);
              served = λ f. absurd (other (own_turn s k id v at waits next j u at_j f));
            })
            record { lives = q.lives; waits = omega arith; turn = le_refl 0; ticket = λ f. absurd (zero_one 0 refl f); served = λ f. absurd (zero_one 0 refl f) };
        alive = each_set (λ u. u.live ≡ 1 → Alive key (e ∷ k.log) k.given k.gathered u) s.views id w
            (λ j u other at_j live_u. let b = k.alive j u at_j live_u in record {
              start = b.start;
              number = b.number;
              knows = (e ∷ b.knows.0, ap (λ (l : List (Entry P R)). e ∷ l) b.knows.1);
              all_seen = b.all_seen;
              all = calls_of_other e k.log u.number (others j u other at_j live_u) ∙ b.all;
              not_joined = b.not_joined;
              heard = b.heard;
            })
            (λ _. record {
              start = a.start;
              number = a.number;
              knows = ([], ap (λ (l : List (Entry P R)). e ∷ l) (sym whole));
              all_seen = calls_of_own e v.seen v.number refl ∙ ap (λ (l : List (Entry P R)). e ∷ l) a.all_seen;
              all = calls_of_own e k.log v.number refl ∙ ap (λ (l : List (Entry P R)). e ∷ l) a.all;
              not_joined = a.not_joined;
              heard = (e ∷ a.heard.0, ap (λ (l : List (Entry P R)). e ∷ l) a.heard.1);
            });
        leads = each_set (λ u. u.live ≡ 1 → u.number ≡ 0 → Leads (e ∷ k.log) k.given k.drawn k.joined k.gathered (set s.views id w) u) s.views id w
            (λ j u other at_j live_u first. let l = k.leads j u at_j live_u first in record {
              split_so_far = l.split_so_far;
              has_drawn = l.has_drawn;
              joined_so_far = l.joined_so_far;
              has_gathered = l.has_gathered;
              settled = λ pass. dite (ℕ_discrete v.number pass)
                  (λ same. inl (id, w, set_at s.views id v w at, live, same))
                  (λ apart. ⊎_elim (λ t. inl (lives_on pass t)) (λ (t : (calls_of pass u.seen ≡ calls_of pass k.gathered) × (calls_of pass k.log ≡ calls_of pass k.gathered)). inr (t.0, calls_of_other e k.log pass apart ∙ t.1)) (l.settled pass));
            })
            (λ _ first. let l = k.leads id v at live first in record {
              split_so_far = l.split_so_far;
              has_drawn = l.has_drawn;
              joined_so_far = l.joined_so_far;
              has_gathered = l.has_gathered;
              settled = λ pass. dite (ℕ_discrete v.number pass)
                  (λ same. inl (id, w, set_at s.views id v w at, live, same))
                  (λ apart. ⊎_elim (λ t. inl (lives_on pass t)) (λ (t : (calls_of pass v.seen ≡ calls_of pass k.gathered) × (calls_of pass k.log ≡ calls_of pass k.gathered)). inr (calls_of_other e v.seen pass apart ∙ t.0, calls_of_other e k.log pass apart ∙ t.1)) (l.settled pass));
            });
        slot = inl (room, set_here s.homes 0 (some room) roomy, subst (λ (l : List (Entry P R)). stands key (e ∷ l) room.state) whole stood);
      }

  hands_on_at : (slots id : ℕ) (v : View S P R) (room : Room S P R) (last : Last P R) (start : S) → slots ≡ 1 → room.last ≡ Some last → v.live ≡ 1 → v.turn ≡ 1 → v.start ≡ Some start
      → fits start v.seen last.op.value v.number → stands start (entry v.number last.op.value last.reply.value ∷ v.seen) room.state
      → Allows (Kept fits stands key) slots id (v, (0, room) ∷ []) 2 (λ n. (n + 1) % 2 ^ 64) (hands_on (step slots 2 1 0 none) (v, (0, room) ∷ []))
  hands_on_at slots id v room last start one is_last live turn is_start fitted stood s k wide at small =
      let same : key ≡ start = cc (sym (k.alive id v at live).start ∙ is_start) in (
        called v last.op.value last.reply.value,
        gives,
        tt,
        calls s k id v at live turn last.op.value last.reply.value room (subst (λ (x : S). fits x v.seen last.op.value v.number) (sym same) fitted)
            (subst (λ (x : S). stands x (entry v.number last.op.value last.reply.value ∷ v.seen) room.state) (sym same) stood) (omega arith),
        λ room' last' held is_last'.
            let pair : ◌≡◌ {A = ℕ × Room S P R} (0, room) (0, room') = cc in
            let r : room ≡ room' = ap (λ (x : ℕ × Room S P R). x.1) pair in
            let l : last ≡ last' = cc (sym is_last ∙ (ap (λ (x : Room S P R). x.last) r ∙ is_last')) in
            ap (λ (x : Last P R). (called v x.op.value x.reply.value, [])) l,
      )

  pub hands : (slots id : ℕ) (me : Sat S P R) (room : Room S P R) (last : Last P R) (start : S) → slots ≡ 1 → me.1 ≡ (0, room) ∷ [] → room.last ≡ Some last → me.0.live ≡ 1 → me.0.turn ≡ 1 → me.0.start ≡ Some start
      → fits start me.0.seen last.op.value me.0.number → stands start (entry me.0.number last.op.value last.reply.value ∷ me.0.seen) room.state
      → Allows (Kept fits stands key) slots id me 2 (λ n. (n + 1) % 2 ^ 64) (hands_on (step slots 2 1 0 none) me)
  hands slots id me room last start one held is_last live turn is_start fitted stood =
      subst (λ (c : List (ℕ × Room S P R)). Allows (Kept fits stands key) slots id (me.0, c) 2 (λ n. (n + 1) % 2 ^ 64) (hands_on (step slots 2 1 0 none) (me.0, c))) (sym held)
      (hands_on_at slots id me.0 room last start one is_last live turn is_start fitted stood)

  -- the first pass gives its drawn number to a new one
  pub splits : (id : ℕ) (v : View S P R) → v.live ≡ 1 → v.number ≡ 0 → v.drawn ≡ 1 → v.waits ≡ 0 → v.turn ≡ 0 → Splits (Kept fits stands key) id v (kept v) (given v)
  splits id v live first has_drawn idle no_turn s k at =
      let w : View S P R = kept v in
      let n : View S P R = given v in
      let mid : List (View S P R) = set s.views id w in
      let views : List (View S P R) = mid ++ n ∷ [] in
      let l = k.leads id v at live first in
      let a = k.alive id v at live in
      let q = k.queued id v at in
      let so_far = l.split_so_far in
      let had : 1 ≡ k.drawn = sym has_drawn ∙ l.has_drawn in
      let few = k.few in
      let lives = k.lives in
      let waiting = k.waits in
      let none = k.none_more (v.given + 1) (omega arith) in
      let lives_on : (pass : ℕ) → Lives s.views pass → Lives views pass = λ pass t. let m = still_lives s.views id v w at refl refl pass t in (m.0, m.1, at_longer mid (n ∷ []) m.0 m.1 m.2, m.3, m.4) in record {
        log = k.log;
        given = k.given + 1;
        drawn = 0;
        joined = k.joined;
        next = k.next;
        gathered = k.gathered;
        others = k.others;
        words = k.words ∙ ap (λ (x : ℕ). x ∷ (k.next % 2 ^ 64) ∷ (length k.log % 2 ^ 64) ∷ k.others) (omega arith);
        few = omega arith;
        proper = k.proper;
        none_more = λ pass more. k.none_more pass (omega arith);
        lives = let t = total_set (λ (u : View S P R). u.live) s.views id v w at in let m = total_snoc (λ (u : View S P R). u.live) mid n in omega arith;
        waits = let t = total_set (λ (u : View S P R). u.waits) s.views id v w at in let m = total_snoc (λ (u : View S P R). u.waits) mid n in omega arith;
        numbers = Apart_snoc (λ u. u.live) (λ u. u.number) mid n
            (Apart_set (λ u. u.live) (λ u. u.number) s.views id w k.numbers (λ j u other at_j live_u _ same. other (k.numbers j id u v at_j at live_u live same)))
            (each_set (λ u. u.live ≡ 1 → 1 ≡ 1 → u.number ≢ v.given + 1) s.views id w (λ j u _ at_j live_u _. let b = (k.alive j u at_j live_u).number in λ same. omega arith) (λ _ _ same. omega arith));
        tickets = Apart_snoc (λ u. u.waits) (λ u. u.ticket) mid n
            (Apart_set (λ u. u.waits) (λ u. u.ticket) s.views id w k.tickets (λ j u other at_j waits_u waits_w _. zero_one v.waits idle waits_w)) (λ j u _ _ up _. zero_one 0 refl up);
        queued = each_snoc (Queued k.log k.next) mid n (each_set (Queued k.log k.next) s.views id w (λ j u _ at_j. k.queued j u at_j) record { lives = q.lives; waits = q.waits; turn = q.turn; ticket = q.ticket; served = q.served })
            record { lives = le_refl 1; waits = omega arith; turn = le_refl 0; ticket = λ f. absurd (zero_one 0 refl f); served = λ f. absurd (zero_one 0 refl f) };
        alive = each_snoc (λ u. u.live ≡ 1 → Alive key k.log (k.given + 1) k.gathered u) mid n
            (each_set (λ u. u.live ≡ 1 → Alive key k.log (k.given + 1) k.gathered u) s.views id w
            (λ j u _ at_j live_u. let b = k.alive j u at_j live_u in let below = b.number in record { start = b.start; number = omega arith; knows = b.knows; all_seen = b.all_seen; all = b.all; not_joined = b.not_joined; heard = b.heard })
            (λ _. record { start = a.start; number = omega arith; knows = a.knows; all_seen = a.all_seen; all = a.all; not_joined = a.not_joined; heard = a.heard }))
            (λ _. record {
              start = a.start;
              number = omega arith;
              knows = a.knows;
              all_seen = seen_has_none (v.given + 1) a.knows.0 v.seen (ap (calls_of (v.given + 1)) (sym a.knows.1) ∙ none.0);
              all = none.0;
              not_joined = none.1;
              heard = (v.seen, sym (append-nil v.seen));
            });
        leads = each_snoc (λ u. u.live ≡ 1 → u.number ≡ 0 → Leads k.log (k.given + 1) 0 k.joined k.gathered views u) mid n
            (each_set (λ u. u.live ≡ 1 → u.number ≡ 0 → Leads k.log (k.given + 1) 0 k.joined k.gathered views u) s.views id w
            (λ j u other at_j live_u zero. absurd (other (k.numbers j id u v at_j at live_u live (zero ∙ sym first))))
            (λ _ _. record {
              split_so_far = ap (λ (x : ℕ). x + 1) so_far;
              has_drawn = refl;
              joined_so_far = l.joined_so_far;
              has_gathered = l.has_gathered;
              settled = λ pass. ⊎_elim (λ t. inl (lives_on pass t)) (λ t. inr t) (l.settled pass);
            }))
            (λ _ zero. absurd (omega arith));
        slot = ⊎_elim (λ (h : IsHome fits stands key k.log s.homes). inl h)
            (λ (away : IsAway s.views). let m = still_away s.views id v w at no_turn away in inr (m.0, m.1, at_longer mid (n ∷ []) m.0 m.1 m.2, m.3)) k.slot;
      }

  pub splits_after : (id : ℕ) (v w : View S P R) → w ≡ numbered v → v.live ≡ 1 → v.number ≡ 0 → v.waits ≡ 0 → v.turn ≡ 0 → Splits (Kept fits stands key) id w (kept w) (given w)
  splits_after id v w is live first idle no_turn = subst (λ (x : View S P R). Splits (Kept fits stands key) id x (kept x) (given x)) (sym is) (splits id (numbered v) live first refl idle no_turn)

  -- the same, where what the seat is and holds is known by equations
  pub hands_over : (slots id : ℕ) (me : Sat S P R) (w : View S P R) (room : Room S P R) (last : Last P R) (start : S) (op : P) (reply : R) (number : ℕ)
      → slots ≡ 1 → me.0 ≡ w → me.1 ≡ (0, room) ∷ [] → room.last ≡ Some last → last.op.value ≡ op → last.reply.value ≡ reply → w.number ≡ number → w.live ≡ 1 → w.turn ≡ 1 → w.start ≡ Some start
      → fits start w.seen op number → stands start (entry number op reply ∷ w.seen) room.state → Allows (Kept fits stands key) slots id me 2 (λ n. (n + 1) % 2 ^ 64) (hands_on (step slots 2 1 0 none) me)
  hands_over slots id me w room last start op reply number one is held is_last is_op is_reply is_number live turn is_start fitted stood =
      let fitted' : fits start me.0.seen last.op.value me.0.number = subst (λ (x : View S P R × P × ℕ). fits start x.0.seen x.1 x.2) (λ i. (sym is i, sym is_op i, sym (ap (λ (u : View S P R). u.number) is ∙ is_number) i)) fitted in
      let stood' : stands start (entry me.0.number last.op.value last.reply.value ∷ me.0.seen) room.state
      = subst (λ (x : View S P R × P × R × ℕ). stands start (entry x.3 x.1 x.2 ∷ x.0.seen) room.state) (λ i. (sym is i, sym is_op i, sym is_reply i, sym (ap (λ (u : View S P R). u.number) is ∙ is_number) i)) stood in
      hands slots id me room last start one held is_last (ap (λ (u : View S P R). u.live) is ∙ live) (ap (λ (u : View S P R). u.turn) is ∙ turn) (ap (λ (u : View S P R). u.start) is ∙ is_start) fitted' stood'
