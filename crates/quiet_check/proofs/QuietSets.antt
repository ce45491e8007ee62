-- The plain program finds exactly the quiescent actors.
use Rattle.std.proofs.Common.{◌≡◌, ◌<◌, ◌+◌, ◌↔◌, ◌&&◌, ◌||◌, ℕ, zero, suc, Bool, true, false, not, cond, nat_lt, List, [], ◌∷◌, ◌++◌, take, refl, sym, ◌∙◌, ap, subst, inl, inr, arith, IsTrue, IsFalse}
use Rattle.std.proofs.lemmas.Bool.{and_from, and_parts, cases_Bool, cases_lt, false≢true, lt-ltb, ltb-true, not-true, or_cases, or_left, or_right}
use Rattle.std.specs.List.{filter}
use Rattle.crgc_ids.specs.Actor.{Actor}
use Rattle.crgc_ids.specs.Greatest.{AreFit, IsMonotone, greatest}
use Rattle.crgc_ids.specs.Members.{IsAmong, IsPart}
use Rattle.crgc_ids.proofs.GreatestLaws.{greatest-contains, greatest-fit, greatest-part}
use Rattle.crgc_ids.proofs.MembersLaws.{IsAmong-append_left, IsAmong-append_right, IsAmong-filter, IsAmong-from_filter, list_all-members, list_all-true}
use Rattle.history_model.specs.declared.events.Event.{Event}
use Rattle.history_model.specs.declared.events.Event.TheVariants.{Seed, Tie, Take, Spawn, Send, Drop}
use Rattle.history_model.specs.Cluster.{Cluster, births, is_born, newborn, same_actor}
use Rattle.history_model.specs.Facts.{Note, created, is_created, note_by}
use Rattle.history_model.specs.Graph.{holds_actor}
use Rattle.history_model.specs.Held.{carried, gifts, given_at_once, held, is_note_of}
use Rattle.history_model.specs.Messages.{Message, mail, takes}
use Rattle.history_model.specs.Quiescent.{IsLive, IsQuiescent, IsQuietSet}
use Rattle.history_model.specs.State.{is_busy, is_root, is_up}
use Rattle.history_model.proofs.AccountsBirths.{each-notes_of_spawn}
use Rattle.history_model.proofs.Basics.{same_actor-equal}
use Rattle.history_model.proofs.FoldSumsKnown.{holds-among}
use Rattle.history_model.proofs.Lists.{Each, each-none, each-one, tally-some}
use Rattle.quiet_check.specs.Plain.{is_candidate, is_held_within, is_holder, owners, owners_by, plain_quiescent, some_moment, uses}
use Rattle.quiet_check.proofs.LiveMessages.{live_is_used, used_is_live}
use Rattle.quiet_check.proofs.Owners.{born_owner}

-- ---- who holds anything is gone over

-- the owner that a note names is among them
abbrev GivesOwner : Event → List Event → Note → Type 0
GivesOwner e p x = (b a : Actor) → is_created b a x.fact ≡ true → IsAmong b (owners_by e p)

created_gives : (e : Event) (p : List Event) (by x y : Actor) → IsAmong x (owners_by e p) → GivesOwner e p (note_by by (created x y))
created_gives e p by x y among b a made =
    subst (λ z. IsAmong z (owners_by e p)) (same_actor-equal x b (and_parts (same_actor x b) (same_actor y a) made).0) among

gives_owners : (cl : Cluster) (e : Event) (p : List Event) → Each (GivesOwner e p) (given_at_once cl e p)
gives_owners cl (Seed n) p =
    let child = newborn n p in
    each-one (GivesOwner (Seed n) p) (note_by child (created child child)) (created_gives (Seed n) p child child child (inl refl))
gives_owners cl (Tie o t) p = each-one (GivesOwner (Tie o t) p) (note_by t (created o t)) (created_gives (Tie o t) p t o t (inl refl))
gives_owners cl (Spawn x) p =
    let e = Spawn x in
    let child = newborn x.node p in
    each-notes_of_spawn cl x p (GivesOwner e p) (created_gives e p child child child (inr (inl refl))) (created_gives e p child x child (inl refl))
    (created_gives e p x child x (inr (inl refl)))
gives_owners cl (Take a) p = each-one (GivesOwner (Take a) p) _ (λ b c made. absurd (false≢true made))
gives_owners cl (Drop a t) p = each-one (GivesOwner (Drop a t) p) _ (λ b c made. absurd (false≢true made))
gives_owners cl (Send f t refs) p = each-none (GivesOwner (Send f t refs) p)
gives_owners cl e p = each-none (GivesOwner e p)

given_owner : (cl : Cluster) (b a : Actor) (h : List Event) → 0 < gifts cl b a h → IsAmong b (owners h)
given_owner cl b a [] some = absurd (omega arith)
given_owner cl b a (e ∷ p) some =
    elim (cases_lt 0 (gifts cl b a p)) [
      | inl earlier ↦ IsAmong-append_left b (owners p) (owners_by e p) (given_owner cl b a p earlier)
      | inr none ↦ (
          let found = tally-some (is_note_of b a) (given_at_once cl e p) (omega (arith, none, some)) in
          IsAmong-append_right b (owners p) (owners_by e p) (gives_owners cl e p found.0 found.1 b a found.2)
          )
    ]

taker_owner : (b : Actor) (h : List Event) → 0 < takes b h → IsAmong b (owners h)
taker_owner b [] some = absurd (omega arith)
taker_owner b (Take c ∷ p) some =
    let Taker : Bool → Type 0 = λ v. same_actor c b ≡ v → 0 < cond v (takes b p + 1) (takes b p) → IsAmong b (owners p ++ c ∷ []) in
    let split : Taker (same_actor c b) = elim (same_actor c b) as Taker [
      | true ↦ λ same _. IsAmong-append_right b (owners p) (c ∷ []) (inl (sym (same_actor-equal c b same)))
      | false ↦ λ _ earlier. IsAmong-append_left b (owners p) (c ∷ []) (taker_owner b p earlier)
    ] in
    split refl some
taker_owner b (e ∷ p) some = IsAmong-append_left b (owners p) (owners_by e p) (taker_owner b p some)

none_carried : (a : Actor) (n : ℕ) (ms : List Message) → n ≡ 0 → carried a (take n ms) ≡ 0
none_carried a zero ms e = refl
none_carried a (suc n) ms e = absurd (omega arith)

held_owner : (cl : Cluster) (b a : Actor) (h : List Event) → 0 < held cl b a h → IsAmong b (owners h)
held_owner cl b a h some =
    elim (cases_lt 0 (gifts cl b a h)) [
      | inl given ↦ given_owner cl b a h given
      | inr none ↦ elim (cases_lt 0 (takes b h)) [
        | inl took ↦ taker_owner b h took
        | inr idle ↦ (
            let nothing = none_carried a (takes b h) (mail b h) (omega (arith, idle)) in
            absurd (omega (arith, some, none, nothing))
            )
      ]
    ]

-- ---- what makes a set quiet

-- no live message goes to a or carries it
untouched : (a : Actor) (h : List Event) → some_moment (uses h a) h ≡ false → (m : Message) → IsLive h m → ¬ IsAmong a (m.to ∷ m.refs)
untouched a h none m live named = false≢true (sym none ∙ live_is_used a h m live named)

record IsApart (h : List Event) (a : Actor) : Type 0 where
  born : IsTrue (is_born a h)
  idle : IsFalse (is_busy a h)
  no_root : IsFalse (is_root a h)
  unused : some_moment (uses h a) h ≡ false

candidate_parts : (h : List Event) (a : Actor) → is_candidate h a ≡ true → IsApart h a
candidate_parts h a test =
    let used = some_moment (uses h a) h in
    let one = and_parts (is_born a h) (not (is_busy a h) && (not (is_root a h) && not used)) test in
    let two = and_parts (not (is_busy a h)) (not (is_root a h) && not used) one.1 in
    let three = and_parts (not (is_root a h)) (not used) two.1 in
    record { born = one.0; idle = not-true (is_busy a h) two.0; no_root = not-true (is_root a h) three.0; unused = not-true used three.1 }

grows : (cl : Cluster) (h : List Event) → IsMonotone (is_held_within cl h)
grows cl h xs ys a part fit =
    list_all-members (λ b. holds_actor ys b || not (is_holder cl h a b)) (owners h) (λ b among.
    elim (or_cases (holds_actor xs b) (not (is_holder cl h a b)) (list_all-true (λ x. holds_actor xs x || not (is_holder cl h a x)) b (owners h) fit among)) [
      | inl member ↦ or_left (holds_actor ys b) (not (is_holder cl h a b)) ((holds-among ys b).1 (part b ((holds-among xs b).0 member)))
      | inr outside ↦ or_right (holds_actor ys b) (not (is_holder cl h a b)) outside
    ])

-- candidates that are held from within are a quiet set
fit_is_quiet : (cl : Cluster) (h : List Event) (q : List Actor) → ((a : Actor) → IsAmong a q → IsApart h a) → AreFit (is_held_within cl h) q → IsQuietSet cl h q
fit_is_quiet cl h q apart fit = record {
  born = λ a member. (apart a member).born;
  idle = λ a member. (apart a member).idle;
  no_root = λ a member. (apart a member).no_root;
  no_mail = λ m live member. untouched m.to h (apart m.to member).unused m live (inl refl);
  not_carried = λ m live a member carries. untouched a h (apart a member).unused m live (inr carries);
  holders = λ b a member up some.
      let holder = and_from (is_up b.node h) (nat_lt 0 (held cl b a h)) up (lt-ltb 0 (held cl b a h) some) in
      let either = list_all-true (λ x. holds_actor q x || not (is_holder cl h a x)) b (owners h) (fit a member) (held_owner cl b a h some) in
      elim (or_cases (holds_actor q b) (not (is_holder cl h a b)) either) [
        | inl within ↦ (holds-among q b).0 within
        | inr outside ↦ absurd (false≢true (sym (not-true (is_holder cl h a b) outside) ∙ holder))
      ];
}

-- the members of a quiet set are candidates
quiet_is_candidate : (cl : Cluster) (h : List Event) (q : List Actor) → IsQuietSet cl h q → (a : Actor) → IsAmong a q → is_candidate h a ≡ true
quiet_is_candidate cl h q quiet a member =
    let used = some_moment (uses h a) h in
    let unused : used ≡ false = elim (cases_Bool used) [
      | inr unused_so ↦ unused_so
      | inl some ↦ (
          let found = used_is_live a h some in
          let m : Message = found.0 in
          elim found.2 [
            | inl to ↦ absurd (quiet.no_mail m found.1 (subst (λ x. IsAmong x q) to member))
            | inr carries ↦ absurd (quiet.not_carried m found.1 a member carries)
          ]
          )
    ] in
    and_from (is_born a h) (not (is_busy a h) && (not (is_root a h) && not used)) (quiet.born a member)
    (and_from (not (is_busy a h)) (not (is_root a h) && not used) (ap not (quiet.idle a member))
    (and_from (not (is_root a h)) (not used) (ap not (quiet.no_root a member)) (ap not unused)))

-- and held from within
quiet_is_fit : (cl : Cluster) (h : List Event) (q : List Actor) → IsQuietSet cl h q → AreFit (is_held_within cl h) q
quiet_is_fit cl h q quiet a member =
    list_all-members (λ b. holds_actor q b || not (is_holder cl h a b)) (owners h) (λ b _.
    elim (cases_Bool (is_holder cl h a b)) [
      | inr no_holder ↦ or_right (holds_actor q b) (not (is_holder cl h a b)) (ap not no_holder)
      | inl holder ↦ (
          let both = and_parts (is_up b.node h) (nat_lt 0 (held cl b a h)) holder in
          let within = quiet.holders b a member both.0 (ltb-true 0 (held cl b a h) both.1) in
          or_left (holds_actor q b) (not (is_holder cl h a b)) ((holds-among q b).1 within)
          )
    ])

-- ---- the greatest one

found_is_quiescent : (cl : Cluster) (h : List Event) (a : Actor) → IsAmong a (plain_quiescent cl h) → IsQuiescent cl h a
unfolding plain_quiescent
found_is_quiescent cl h a among =
    let from : List Actor = filter (is_candidate h) (owners h) in
    let fit = is_held_within cl h in
    let apart : (b : Actor) → IsAmong b (greatest fit from) → IsApart h b = λ b member.
    candidate_parts h b (IsAmong-from_filter (is_candidate h) b (owners h) (greatest-part fit from b member)).1 in
    (greatest fit from, among, fit_is_quiet cl h (greatest fit from) apart (greatest-fit fit from))

quiescent_is_found : (cl : Cluster) (h : List Event) (a : Actor) → IsQuiescent cl h a → IsAmong a (plain_quiescent cl h)
unfolding plain_quiescent
quiescent_is_found cl h a quiescent =
    let q : List Actor = quiescent.0 in
    let quiet = quiescent.2 in
    let from : List Actor = filter (is_candidate h) (owners h) in
    let part : IsPart q from = λ b member.
    IsAmong-filter (is_candidate h) b (owners h) (born_owner b h (ltb-true b.serial (births b.node h) (quiet.born b member))) (quiet_is_candidate cl h q quiet b member) in
    greatest-contains (is_held_within cl h) (grows cl h) from q part (quiet_is_fit cl h q quiet) a quiescent.1

pub quiescent_are_found : (cl : Cluster) (h : List Event) (a : Actor) → (holds_actor (plain_quiescent cl h) a ≡ true) ↔ IsQuiescent cl h a
quiescent_are_found cl h a = (
  λ found. found_is_quiescent cl h a ((holds-among (plain_quiescent cl h) a).0 found),
  λ quiescent. (holds-among (plain_quiescent cl h) a).1 (quiescent_is_found cl h a quiescent),
)
