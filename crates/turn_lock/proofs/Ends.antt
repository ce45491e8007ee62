-- A join keeps the rule, and what is known at the end.
use Rattle.std.proofs.Common.{◌≡◌, ◌≢◌, ℕ, ◌+◌, ◌≤◌, Bool, true, false, cond, List, [], ◌∷◌, ◌++◌, length, set, Some, refl, sym, ap, ◌∙◌, subst, inl, inr, ⊎_elim, arith, length-append, le_refl}
use Rattle.std.specs.Prelude.{nat_le}
use Rattle.std.proofs.lemmas.Bool.Decides.{nat_tests}
use mathlib.Core.Option.{none, some}
use mathlib.Core.List.{append-nil}
use mathlib.Core.Logic.{dite}
use native.Mathlib.Decide.{ℕ_discrete}
use lib.ListN.{get_elem?}
use Rattle.atomic_table.specs.Table.{State, step, keeps, Allows, Joins}
use Rattle.atomic_table.proofs.Lists.{set_else}
use Rattle.turn_lock.specs.declared.object.Entry.{Entry}
use Rattle.turn_lock.specs.declared.rule.Room.{Room}
use Rattle.turn_lock.specs.declared.rule.View.{View}
use Rattle.turn_lock.specs.History.{calls_of, Begins, IsMadeOf, IsProper}
use Rattle.turn_lock.specs.Views.{longer, shorter, both, spent}
use Rattle.turn_lock.specs.Rule.{Lives, IsAway, Alive, Queued, Leads, IsHome, Kept}
use Rattle.turn_lock.specs.Plays.{Sat, compares}
use Rattle.turn_lock.proofs.Calls.{two_beginnings, none_later, nothing_later, calls_of-append, calls_of_calls, calls_of_calls_of_other}
use Rattle.turn_lock.proofs.Rosters.{one_at, total_set, two_in_total, one_set, each_set, Apart_set}
use Rattle.turn_lock.proofs.Keeps.{zero_one, still_lives, still_away, unchanged}

module _ {P R : Type 0} where
  -- two beginnings of one history, with the longer and the shorter of them
  pub record Longest (log xs ys long short : List (Entry P R)) : Type 0 where
    pub begins_log : Begins long log
    pub short_begins : Begins short long
    pub first_begins : Begins xs long
    pub second_begins : Begins ys long

  longest_if : (log xs ys : List (Entry P R)) (test : Bool) → (test ≡ true → length ys ≤ length xs) → (test ≡ false → length xs ≤ length ys) → Begins xs log → Begins ys log
      → Longest log xs ys (cond test xs ys) (cond test ys xs)
  longest_if log xs ys true first second x y = let t = two_beginnings x.0 y.0 xs ys (sym x.1 ∙ y.1) (first refl) in
      record { begins_log = x; short_begins = (t.0, t.2); first_begins = ([], refl); second_begins = (t.0, t.2) }
  longest_if log xs ys false first second x y = let t = two_beginnings y.0 x.0 ys xs (sym y.1 ∙ x.1) (second refl) in
      record { begins_log = y; short_begins = (t.0, t.2); first_begins = (t.0, t.2); second_begins = ([], refl) }

  pub longest : (log xs ys : List (Entry P R)) → Begins xs log → Begins ys log → Longest log xs ys (longer xs ys) (shorter xs ys)
  longest log xs ys x y = longest_if log xs ys (nat_le (length ys) (length xs)) (λ t. grind (arith, nat_tests)) (λ t. grind (arith, nat_tests)) x y

  -- a history between two that have the same calls of a pass has them too
  pub between : (pass : ℕ) (xs mid log calls : List (Entry P R)) → Begins xs mid → Begins mid log → calls_of pass xs ≡ calls → calls_of pass log ≡ calls → calls_of pass mid ≡ calls
  between pass xs mid log calls x m in_xs in_log =
      let lower : calls_of pass mid ≡ calls_of pass x.0 ++ calls = ap (calls_of pass) x.1 ∙ (calls_of-append pass x.0 xs ∙ ap (λ (l : List (Entry P R)). calls_of pass x.0 ++ l) in_xs) in
      let upper : calls_of pass m.0 ++ calls_of pass mid ≡ calls = sym (calls_of-append pass m.0 mid) ∙ (sym (ap (calls_of pass) m.1) ∙ in_log) in
      let none : calls_of pass x.0 ≡ [] = empty (calls_of pass x.0) (omega (arith, ap length lower, ap length upper, length-append (calls_of pass x.0) calls, length-append (calls_of pass m.0) (calls_of pass mid))) in
      lower ∙ ap (λ (l : List (Entry P R)). l ++ calls) none
    where
      empty : (l : List (Entry P R)) → length l ≡ 0 → l ≡ []
      empty [] e = refl
      empty (x ∷ l) e = absurd (omega arith)

module _ {S P R : Type 0} (fits : S → List (Entry P R) → P → ℕ → Type 0) (stands : S → List (Entry P R) → S → Type 0) (key : S) where
  pub compares_histories : (slots id : ℕ) (me : Sat S P R) → me.0.live ≡ 1 → Allows (Kept fits stands key) slots id me 0 (λ n. n) (compares (step slots 0 0 0 none) me)
  compares_histories slots id me live s k _ at small = (me.0, keeps, tt, unchanged fits stands key s k id 0 me.0 at, (refl, (k.alive id me.0 at live).heard))

  pub joins : (id : ℕ) (v : View S P R) (other : ℕ) (w : View S P R) → v.live ≡ 1 → v.number ≡ 0 → v.waits ≡ 0 → v.turn ≡ 0 → w.live ≡ 1 → w.waits ≡ 0 → w.turn ≡ 0
      → Joins (Kept fits stands key) id v other w (both v w) spent
  joins id v other w live_v first idle_v no_turn_v live_w idle_w no_turn_w s k at apart there' =
      let b : View S P R = both v w in
      let views : List (View S P R) = s.views in
      let mid : List (View S P R) = set views id b in
      let there : get_elem? views other ≡ some w = sym (set_else views id other b apart) ∙ there' in
      let l = k.leads id v at live_v first in
      let av = k.alive id v at live_v in
      let aw = k.alive other w there live_w in
      let qv = k.queued id v at in
      let lives = k.lives in
      let waiting = k.waits in
      let in_range = aw.number in
      let so_far = l.joined_so_far in
      let long = longest k.log v.seen w.seen av.knows aw.knows in
      let numbers_apart : (j : ℕ) (u : View S P R) → j ≢ other → get_elem? views j ≡ some u → u.live ≡ 1 → u.number ≢ w.number
      = λ j u off at_j live_u same. off (k.numbers j other u w at_j there live_u live_w same) in
      -- the calls of another pass in what is joined then
      let as_before : (pass : ℕ) → pass ≢ w.number → calls_of pass (w.own ++ k.gathered) ≡ calls_of pass k.gathered
      = λ pass not_it. calls_of-append pass w.own k.gathered
      ∙ ap (λ (c : List (Entry P R)). c ++ calls_of pass k.gathered) (ap (calls_of pass) (sym aw.all) ∙ calls_of_calls_of_other pass w.number k.log not_it) in
      let its_own : calls_of w.number (w.own ++ k.gathered) ≡ w.own
      = calls_of-append w.number w.own k.gathered ∙ (ap (λ (c : List (Entry P R)). calls_of w.number w.own ++ c) aw.not_joined
      ∙ (append-nil (calls_of w.number w.own) ∙ (ap (calls_of w.number) (sym aw.all) ∙ (calls_of_calls w.number k.log ∙ aw.all)))) in record {
        log = k.log;
        given = k.given;
        drawn = k.drawn;
        joined = k.joined + 1;
        next = k.next;
        gathered = w.own ++ k.gathered;
        others = k.others;
        words = k.words;
        few = k.few;
        proper = k.proper;
        none_more = λ pass more. let n = k.none_more pass more in (n.0, as_before pass (λ same. omega arith) ∙ n.1);
        lives = let t = total_set (λ (u : View S P R). u.live) views id v b at in let m = total_set (λ (u : View S P R). u.live) mid other w spent there' in omega arith;
        waits = let t = total_set (λ (u : View S P R). u.waits) views id v b at in let m = total_set (λ (u : View S P R). u.waits) mid other w spent there' in omega arith;
        numbers = Apart_set (λ u. u.live) (λ u. u.number) mid other spent
            (Apart_set (λ u. u.live) (λ u. u.number) views id b k.numbers (λ j u off at_j live_u _ same. off (k.numbers j id u v at_j at live_u live_v same))) (λ j u _ _ _ up _. zero_one 0 refl up);
        tickets = Apart_set (λ u. u.waits) (λ u. u.ticket) mid other spent
            (Apart_set (λ u. u.waits) (λ u. u.ticket) views id b k.tickets (λ j u _ _ _ up _. zero_one v.waits idle_v up)) (λ j u _ _ _ up _. zero_one 0 refl up);
        queued = each_set (Queued k.log k.next) mid other spent
            (λ j u _ at_j. each_set (Queued k.log k.next) views id b (λ i x _ at_i. k.queued i x at_i)
            record { lives = qv.lives; waits = qv.waits; turn = qv.turn; ticket = qv.ticket; served = λ up. absurd (zero_one v.turn no_turn_v up) } j u at_j)
            record { lives = omega arith; waits = le_refl 0; turn = le_refl 0; ticket = λ up. absurd (zero_one 0 refl up); served = λ up. absurd (zero_one 0 refl up) };
        alive = each_set (λ u. u.live ≡ 1 → Alive key k.log k.given (w.own ++ k.gathered) u) mid other spent
            (λ j u off at_j. one_set (λ u. u.live ≡ 1 → Alive key k.log k.given (w.own ++ k.gathered) u) views id b j u
            (λ _ at_u live_u. let a = k.alive j u at_u live_u in record {
              start = a.start;
              number = a.number;
              knows = a.knows;
              all_seen = a.all_seen;
              all = a.all;
              not_joined = as_before u.number (numbers_apart j u off at_u live_u) ∙ a.not_joined;
              heard = a.heard;
            })
            (λ _. record {
              start = av.start;
              number = av.number;
              knows = long.begins_log;
              all_seen = between v.number v.seen b.seen k.log v.own long.first_begins long.begins_log av.all_seen av.all;
              all = av.all;
              not_joined = as_before v.number (numbers_apart id v (λ same. apart (sym same)) at live_v) ∙ av.not_joined;
              heard = long.short_begins;
            }) at_j)
            (λ up. absurd (zero_one 0 refl up));
        leads = each_set (λ u. u.live ≡ 1 → u.number ≡ 0 → Leads k.log k.given k.drawn (k.joined + 1) (w.own ++ k.gathered) (set mid other spent) u) mid other spent
            (λ j u off at_j. each_set (λ u. u.live ≡ 1 → u.number ≡ 0 → Leads k.log k.given k.drawn (k.joined + 1) (w.own ++ k.gathered) (set mid other spent) u) views id b
            (λ i x off_i at_i live_x zero. absurd (off_i (k.numbers i id x v at_i at live_x live_v (zero ∙ sym first))))
            (λ _ _. record {
              split_so_far = l.split_so_far;
              has_drawn = l.has_drawn;
              joined_so_far = omega arith;
              has_gathered = ap (λ (c : List (Entry P R)). w.own ++ c) l.has_gathered;
              settled = λ pass. dite (ℕ_discrete pass w.number)
                  (λ same. let mine = ap (λ (n : ℕ). calls_of n (w.own ++ k.gathered)) same ∙ its_own in inr (
                    ap (λ (n : ℕ). calls_of n b.seen) same ∙ (between w.number w.seen b.seen k.log w.own long.second_begins long.begins_log aw.all_seen aw.all ∙ sym mine),
                    ap (λ (n : ℕ). calls_of n k.log) same ∙ (aw.all ∙ sym mine),
                  ))
                  (λ not_it. ⊎_elim
                  (λ (t : Lives views pass). let m = still_lives views id v b at refl refl pass t in
                  inl (m.0, m.1, set_else mid other m.0 spent (λ same. not_it (sym m.4 ∙ ap (λ (u : View S P R). u.number) (one_at mid m.0 other m.1 w same m.2 there'))) ∙ m.2, m.3, m.4))
                  (λ (t : (calls_of pass v.seen ≡ calls_of pass k.gathered) × (calls_of pass k.log ≡ calls_of pass k.gathered)). inr (
                    between pass v.seen b.seen k.log (calls_of pass k.gathered) long.first_begins long.begins_log t.0 t.1 ∙ sym (as_before pass not_it),
                    t.1 ∙ sym (as_before pass not_it),
                  )) (l.settled pass));
            }) j u at_j)
            (λ up _. absurd (zero_one 0 refl up));
        slot = ⊎_elim (λ (h : IsHome fits stands key k.log s.homes). inl h) (λ (away : IsAway views). inr (still_away mid other w spent there' no_turn_w (still_away views id v b at no_turn_v away))) k.slot;
      }

  -- once every pass is joined, the first one has seen all calls: its own and those joined, and the slot is at home
  pub record Settled (v : View S P R) (s : State (Room S P R) (View S P R)) : Type 0 where
    pub start : v.start ≡ Some key
    pub home : IsHome fits stands key v.seen s.homes
    pub proper : IsProper fits stands key v.seen
    pub calls : IsMadeOf (v.own ++ v.gathered) v.seen

  module _ (s : State (Room S P R) (View S P R)) (k : Kept fits stands key s) (id : ℕ) (v : View S P R) (at : get_elem? s.views id ≡ some v) (live : v.live ≡ 1) (first : v.number ≡ 0) (all_joined : length v.joined ≡ v.given) where
    -- no other view lives
    alone : (j : ℕ) (u : View S P R) → get_elem? s.views j ≡ some u → u.live ≡ 1 → j ≡ id
    alone j u at_j live_u =
        let l = k.leads id v at live first in
        let a = l.split_so_far in
        let b = l.joined_so_far in
        let lives = k.lives in
        dite (ℕ_discrete j id) (λ e. e) (λ apart. let two = two_in_total (λ (x : View S P R). x.live) s.views j id u v at_j at apart in absurd (omega arith))

    -- what the first pass has seen has all calls of each pass, and they are those that it knows
    accounted : (pass : ℕ) → (calls_of pass v.seen ≡ calls_of pass (v.own ++ v.gathered)) × (calls_of pass k.log ≡ calls_of pass (v.own ++ v.gathered))
    accounted pass =
        let l = k.leads id v at live first in
        let a = k.alive id v at live in
        let split = calls_of-append pass v.own v.gathered in
        let gathered = ap (calls_of pass) l.has_gathered in
        dite (ℕ_discrete pass v.number)
        (λ same.
        let own : calls_of pass v.own ≡ v.own = ap (λ (n : ℕ). calls_of n v.own) same ∙ (ap (calls_of v.number) (sym a.all) ∙ (calls_of_calls v.number k.log ∙ a.all)) in
        let none : calls_of pass v.gathered ≡ [] = gathered ∙ (ap (λ (n : ℕ). calls_of n k.gathered) same ∙ a.not_joined) in
        let all : calls_of pass (v.own ++ v.gathered) ≡ v.own = split ∙ ((λ i. own i ++ none i) ∙ append-nil v.own) in
        (ap (λ (n : ℕ). calls_of n v.seen) same ∙ (a.all_seen ∙ sym all), ap (λ (n : ℕ). calls_of n k.log) same ∙ (a.all ∙ sym all)))
        (λ other.
        let none : calls_of pass v.own ≡ [] = ap (calls_of pass) (sym a.all) ∙ calls_of_calls_of_other pass v.number k.log other in
        let all : calls_of pass (v.own ++ v.gathered) ≡ calls_of pass k.gathered = split ∙ (λ i. none i ++ gathered i) in
        ⊎_elim
        (λ (t : Lives s.views pass). absurd (other (sym t.4 ∙ ap (λ (u : View S P R). u.number) (one_at s.views t.0 id t.1 v (alone t.0 t.1 t.2 t.3) t.2 at))))
        (λ (t : (calls_of pass v.seen ≡ calls_of pass k.gathered) × (calls_of pass k.log ≡ calls_of pass k.gathered)). (t.0 ∙ sym all, t.1 ∙ sym all))
        (l.settled pass))

    pub settles : v.turn ≡ 0 → Settled v s
    settles no_turn =
        let a = k.alive id v at live in
        let none = nothing_later a.knows.0 (λ pass. let t = accounted pass in none_later pass a.knows.0 v.seen (calls_of pass (v.own ++ v.gathered)) t.0 (ap (calls_of pass) (sym a.knows.1) ∙ t.1)) in
        let whole : k.log ≡ v.seen = a.knows.1 ∙ ap (λ (l : List (Entry P R)). l ++ v.seen) none in record {
          start = a.start;
          home = ⊎_elim (λ (h : IsHome fits stands key k.log s.homes). subst (λ (l : List (Entry P R)). IsHome fits stands key l s.homes) whole h)
              (λ (away : IsAway s.views). let q = k.queued away.0 away.1 away.2 in let turn = away.3 in let q1 = q.lives in let q2 = q.waits in let q3 = q.turn in
              let same = one_at s.views away.0 id away.1 v (alone away.0 away.1 away.2 (omega arith)) away.2 at in
              absurd (zero_one v.turn no_turn (sym (ap (λ (u : View S P R). u.turn) same) ∙ turn))) k.slot;
          proper = subst (IsProper fits stands key) whole k.proper;
          calls = λ pass. (accounted pass).0;
        }
