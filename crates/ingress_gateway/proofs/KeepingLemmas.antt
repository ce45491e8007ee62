-- Rows and names that keep one message or one carried reference more.
use Rattle.std.proofs.Common.{◌≡◌, ◌+◌, ◌<◌, ◌^◌, ◌==◌, ◌&&◌, ◌||◌, ℕ, Bool, true, false, cond, List, [], ◌∷◌, ◌++◌, length, map, refl, sym, ◌∙◌, ap, subst, inl, inr, arith}
use Rattle.std.proofs.ByRecursion.{All-push}
use Rattle.std.proofs.lemmas.Bool.{and_parts}
use Rattle.std.proofs.lemmas.Bool.Decides.{Decides-eqb, same_from_decides}
use Rattle.std.proofs.lemmas.Grind.{flat_map-append}
use Rattle.std.proofs.lemmas.List.{map-append}
use Rattle.std.proofs.lemmas.List.Sums.{sum_by-cons, sum_by_push}
use Rattle.std.specs.Bool.{IsTrue}
use Rattle.std.specs.List.{AllByRecursion, count_by, flat_map, list_any, sum_by}
use Rattle.crgc_ids.specs.Actor.{Actor, same_actor}
use Rattle.crgc_ids.specs.Members.{IsAmong, IsPart}
use Rattle.crgc_ids.specs.declared.rising.ActorCount.{ActorCount}
use Rattle.crgc_ids.specs.declared.rising.PairCount.{PairCount}
use Rattle.crgc_ids.proofs.ActorLaws.{same_actor-decides}
use Rattle.crgc_ids.proofs.MembersLaws.{IsAmong-append_cases, IsAmong-append_left, IsAmong-append_right, all-implied}
use Rattle.history_model.specs.Graph.{rising_actors}
use Rattle.history_model.proofs.RisingActors.{among-decides, length-rising_more}
use Rattle.row_sums.specs.Totals.{actor_total, pair_total}
use Rattle.row_sums.proofs.OnesLemmas.{fits-push, total-ones}
use Rattle.ingress_gateway.specs.Keeping.{IsKept}
use Rattle.ingress_gateway.specs.NameSet.{HasSameNames, NameSet, has_name}
use Rattle.ingress_gateway.specs.Pending.{carried_count, message_count, pairs, recipients}

-- names to which an actor was added
pub record HasOneMore (old new : NameSet) (added : Actor) : Type 0 where
  pub names : (a : Actor) → has_name new a ≡ (same_actor a added || has_name old a)
  pub count : length new.actors ≡ length old.actors + cond (has_name old added) 0 1

-- such names are those of a list with that actor more
names_more : (old new : NameSet) (added : Actor) (named more : List Actor) → HasOneMore old new added → ((a : Actor) → has_name old a ≡ list_any (same_actor a) named) → length old.actors ≡ length (rising_actors named) → IsPart more (added ∷ named) → IsPart (added ∷ named) more → ((a : Actor) → has_name new a ≡ list_any (same_actor a) more) × (length new.actors ≡ length (rising_actors more))
names_more old new added named more one has many there back = (
  λ a.
      one.names a ∙ ap (λ b. same_actor a added || b) (has a)
      ∙ same_from_decides (list_any (same_actor a) (added ∷ named)) (list_any (same_actor a) more) (among-decides (added ∷ named) a) (
        λ t. there a ((among-decides more a).0 t),
        λ h. (among-decides more a).1 (back a h),
      ),
  one.count ∙ ap (λ n. n + cond (has_name old added) 0 1) many
      ∙ ap (λ b. length (rising_actors named) + cond b 0 1) (has added)
      ∙ sym (length-rising_more added named more there back),
)

-- ---- one message more

message_part : (to : Actor) (messages : List Actor) (rest : List Actor) → IsPart ((messages ++ to ∷ []) ++ rest) (to ∷ (messages ++ rest)) × IsPart (to ∷ (messages ++ rest)) ((messages ++ to ∷ []) ++ rest)
message_part to messages rest = (
  λ a h. elim (IsAmong-append_cases a (messages ++ to ∷ []) rest h) [
    | inl m ↦ elim (IsAmong-append_cases a messages (to ∷ []) m) [
      | inl k ↦ inr (IsAmong-append_left a messages rest k)
      | inr k ↦ elim k [ inl e ↦ inl e | inr none ↦ absurd none ]
    ]
    | inr r ↦ inr (IsAmong-append_right a messages rest r)
  ],
  λ a h. elim h [
    | inl e ↦ IsAmong-append_left a (messages ++ to ∷ []) rest (IsAmong-append_right a messages (to ∷ []) (inl e))
    | inr m ↦ elim (IsAmong-append_cases a messages rest m) [
      | inl k ↦ IsAmong-append_left a (messages ++ to ∷ []) rest (IsAmong-append_left a messages (to ∷ []) k)
      | inr k ↦ IsAmong-append_right a (messages ++ to ∷ []) rest k
    ]
  ],
)

pub kept-message : (messages : List ActorCount) (carried : List PairCount) (old new : NameSet) (to : Actor) → IsKept messages carried old → message_count to (recipients messages) + 1 < 2 ^ 32 → HasOneMore old new to → IsKept (messages ++ (record { actor = to; count = 1 }) ∷ []) carried new
kept-message messages carried old new to kept fits one =
    let row : ActorCount = record { actor = to; count = 1 } in
    let all = recipients messages in
    let moved : recipients (messages ++ row ∷ []) ≡ all ++ to ∷ [] = map-append (λ r. r.actor) messages (row ∷ []) in
    let rest = flat_map (λ (p : Actor × Actor). p.0 ∷ p.1 ∷ []) (pairs carried) in
    let part = message_part to all rest in
    let more = names_more old new to (all ++ rest) ((all ++ to ∷ []) ++ rest) one kept.named kept.count part.0 part.1 in
    record {
      one_message = All-push (λ r. r.count ≡ 1) messages row kept.one_message refl;
      one_reference = kept.one_reference;
      owners = subst (λ keys. AllByRecursion (λ r. IsAmong r.owner keys) carried) (sym moved) (all-implied (λ r. IsAmong r.owner all) (λ r. IsAmong r.owner (all ++ to ∷ [])) (λ r h. IsAmong-append_left r.owner all (to ∷ []) h) carried kept.owners);
      messages_fit = λ a. subst (λ keys. message_count a keys < 2 ^ 32) (sym moved) (fits-push (same_actor a) all to (2 ^ 32) (kept.messages_fit a) (λ t. subst (λ b. message_count b all + 1 < 2 ^ 32) (sym ((same_actor-decides a to).0 t)) fits));
      carried_fit = kept.carried_fit;
      named = λ a. more.0 a ∙ ap (λ keys. list_any (same_actor a) (keys ++ rest)) (sym moved);
      count = more.1 ∙ ap (λ keys. length (rising_actors (keys ++ rest))) (sym moved);
    }

-- ---- one carried reference more

pair_part : (owner target : Actor) (messages : List Actor) (rest : List Actor) → IsAmong owner messages → IsPart (messages ++ (rest ++ owner ∷ target ∷ [])) (target ∷ (messages ++ rest)) × IsPart (target ∷ (messages ++ rest)) (messages ++ (rest ++ owner ∷ target ∷ []))
pair_part owner target messages rest named = (
  λ a h. elim (IsAmong-append_cases a messages (rest ++ owner ∷ target ∷ []) h) [
    | inl m ↦ inr (IsAmong-append_left a messages rest m)
    | inr r ↦ elim (IsAmong-append_cases a rest (owner ∷ target ∷ []) r) [
      | inl k ↦ inr (IsAmong-append_right a messages rest k)
      | inr k ↦ elim k [
        | inl e ↦ inr (IsAmong-append_left a messages rest (subst (λ x. IsAmong x messages) (sym e) named))
        | inr l ↦ elim l [ inl e ↦ inl e | inr none ↦ absurd none ]
      ]
    ]
  ],
  λ a h. elim h [
    | inl e ↦ IsAmong-append_right a messages (rest ++ owner ∷ target ∷ []) (IsAmong-append_right a rest (owner ∷ target ∷ []) (inr (inl e)))
    | inr m ↦ elim (IsAmong-append_cases a messages rest m) [
      | inl k ↦ IsAmong-append_left a messages (rest ++ owner ∷ target ∷ []) k
      | inr k ↦ IsAmong-append_right a messages (rest ++ owner ∷ target ∷ []) (IsAmong-append_left a rest (owner ∷ target ∷ []) k)
    ]
  ],
)

pub kept-carried : (messages : List ActorCount) (carried : List PairCount) (old new : NameSet) (owner target : Actor) → IsKept messages carried old → carried_count owner target (pairs carried) + 1 < 2 ^ 32 → IsAmong owner (recipients messages) → HasOneMore old new target → IsKept messages (carried ++ (record { owner = owner; target = target; count = 1 }) ∷ []) new
kept-carried messages carried old new owner target kept fits named one =
    let row : PairCount = record { owner = owner; target = target; count = 1 } in
    let each : Actor × Actor → List Actor = λ p. p.0 ∷ p.1 ∷ [] in
    let all = pairs carried in
    let moved : pairs (carried ++ row ∷ []) ≡ all ++ (owner, target) ∷ [] = map-append (λ (r : PairCount). (r.owner, r.target)) carried (row ∷ []) in
    let rest = flat_map each all in
    let tail : rest ++ owner ∷ target ∷ [] ≡ flat_map each (pairs (carried ++ row ∷ [])) = sym (ap (flat_map each) moved ∙ flat_map-append each all ((owner, target) ∷ [])) in
    let part = pair_part owner target (recipients messages) rest named in
    let more = names_more old new target (recipients messages ++ rest) (recipients messages ++ (rest ++ owner ∷ target ∷ [])) one kept.named kept.count part.0 part.1 in
    record {
      one_message = kept.one_message;
      one_reference = All-push (λ r. r.count ≡ 1) carried row kept.one_reference refl;
      owners = All-push (λ r. IsAmong r.owner (recipients messages)) carried row kept.owners named;
      messages_fit = kept.messages_fit;
      carried_fit = λ b a. subst (λ keys. carried_count b a keys < 2 ^ 32) (sym moved) (fits-push (λ p. same_actor b p.0 && same_actor a p.1) all (owner, target) (2 ^ 32) (kept.carried_fit b a) (λ t. (
          let both = and_parts (same_actor b owner) (same_actor a target) t in
          let owned = subst (λ x. carried_count x target all + 1 < 2 ^ 32) (sym ((same_actor-decides b owner).0 both.0)) fits in
          subst (λ x. carried_count b x all + 1 < 2 ^ 32) (sym ((same_actor-decides a target).0 both.1)) owned
          )));
      named = λ a. more.0 a ∙ ap (λ keys. list_any (same_actor a) (recipients messages ++ keys)) tail;
      count = more.1 ∙ ap (λ keys. length (rising_actors (recipients messages ++ keys))) tail;
    }

-- ---- the same names, and what the rows add up to

-- the same names keep the rows as before
pub kept-same : (messages : List ActorCount) (carried : List PairCount) (old new : NameSet) → IsKept messages carried old → HasSameNames old new → IsKept messages carried new
kept-same messages carried old new kept same = record {
  one_message = kept.one_message;
  one_reference = kept.one_reference;
  owners = kept.owners;
  messages_fit = kept.messages_fit;
  carried_fit = kept.carried_fit;
  named = λ a. same.names a ∙ kept.named a;
  count = same.count ∙ kept.count;
}

-- the rows count each key as often as it comes
pub messages-total : (messages : List ActorCount) (carried : List PairCount) (names : NameSet) (a : Actor) → IsKept messages carried names → actor_total a messages ≡ message_count a (recipients messages)
messages-total messages carried names a kept = total-ones (λ (r : ActorCount). r.actor) (λ (r : ActorCount). r.count) (same_actor a) messages kept.one_message

pub carried-total : (messages : List ActorCount) (carried : List PairCount) (names : NameSet) (b a : Actor) → IsKept messages carried names → pair_total b a carried ≡ carried_count b a (pairs carried)
carried-total messages carried names b a kept = total-ones (λ (r : PairCount). (r.owner, r.target)) (λ (r : PairCount). r.count) (λ p. same_actor b p.0 && same_actor a p.1) carried kept.one_reference

-- where no message was admitted, nothing is carried
pub no_carried : (messages rows : List ActorCount) (carried : List PairCount) (names : NameSet) (none : Bool) → IsKept messages carried names → rows ≡ messages → none ≡ (length rows == 0) → IsTrue none → pairs carried ≡ []
no_carried messages rows carried names none kept is told t =
    let empty : length rows ≡ 0 = (Decides-eqb (length rows) 0).0 (sym told ∙ t) in
    without messages carried kept.owners (sym (ap length is) ∙ empty)
  where
    without : (messages : List ActorCount) (carried : List PairCount) → AllByRecursion (λ r. IsAmong r.owner (recipients messages)) carried → length messages ≡ 0 → pairs carried ≡ []
    without messages [] owners e = refl
    without [] (r ∷ carried) owners e = absurd owners.0
    without (m ∷ messages) (r ∷ carried) owners e = absurd (omega arith)
