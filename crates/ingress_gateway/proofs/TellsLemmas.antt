-- The window of a link tells the facts of the messages that it counts, and names the actors that these name.
use Rattle.std.proofs.Common.{◌≡◌, ◌&&◌, ◌++◌, ℕ, List, [], ◌∷◌, map, flat_map, length, refl, sym, ◌∙◌, ap, ap₂, subst, inl, inr, count_by, append-nil}
use Rattle.std.proofs.lemmas.Grind.{flat_map-append}
use Rattle.std.proofs.lemmas.List.{map-append}
use Rattle.crgc_ids.specs.Actor.{Actor, same_actor}
use Rattle.crgc_ids.specs.Members.{IsAmong}
use Rattle.crgc_ids.proofs.MembersLaws.{IsAmong-append_cases, IsAmong-append_left, IsAmong-append_right}
use Rattle.history_model.specs.declared.records.Window.{Window}
use Rattle.history_model.specs.Facts.{created, message_facts}
use Rattle.history_model.specs.Graph.{named_by}
use Rattle.history_model.specs.Messages.{Message}
use Rattle.history_model.specs.Tells.{CountsMessages, TellsWindow, fact_names, message_pairs, message_recipients, messages_facts}
use Rattle.history_model.proofs.RisingActors.{rising_actors-same}
use Rattle.history_model.proofs.TellsWindows.{window-tells}
use Rattle.ingress_gateway.specs.Admission.{Admits}
use Rattle.ingress_gateway.specs.Gate.{Gate, IsWindowOf}
use Rattle.ingress_gateway.specs.Pending.{named_count, names_in}
use Rattle.ingress_gateway.specs.Told.{HasMessages, NamesAsMany}

-- a window counts the messages that its gate admitted
window-counts : (g : Gate) (w : Window) (ms : List Message) → HasMessages g ms → IsWindowOf g w → CountsMessages w ms
window-counts g w ms has is = record {
  messages = λ a. is.messages a ∙ ap (count_by (same_actor a)) has.0;
  carried = λ b a. is.carried b a ∙ ap (count_by (λ p. same_actor b p.0 && same_actor a p.1)) has.1;
}

pub window-told : (g : Gate) (w : Window) (ms : List Message) → HasMessages g ms → IsWindowOf g w → TellsWindow g.at g.from w (messages_facts ms)
window-told g w ms has is = (is.nodes.0, is.nodes.1, window-tells w ms (window-counts g w ms has is))

-- one admission more is one message more
pub admitted-more : (g h : Gate) (k : ℕ) (ms : List Message) (m : Message) → HasMessages g ms → Admits g h k m.to m.refs → HasMessages h (ms ++ m ∷ [])
admitted-more g h k ms m has admits = (
  admits.messages ∙ ap (λ xs. xs ++ m.to ∷ []) has.0 ∙ sym (map-append (λ x. x.to) ms (m ∷ [])),
  admits.carried ∙ ap (λ xs. xs ++ map (λ a. (m.to, a)) m.refs) has.1
      ∙ ap (λ xs. message_pairs ms ++ xs) (sym (append-nil (map (λ a. (m.to, a)) m.refs)))
      ∙ sym (flat_map-append (λ x. map (λ a. (x.to, a)) x.refs) ms (m ∷ [])),
)

-- ---- names

abbrev pair_names : List (Actor × Actor) → List Actor
pair_names ps = flat_map (λ p. p.0 ∷ p.1 ∷ []) ps

-- the pairs of a message's recipient and its references
abbrev own_pairs : Message → List (Actor × Actor)
own_pairs m = map (λ r. (m.to, r)) m.refs

-- the facts of references name the recipient and the references, as their pairs do
refs-named : (to : Actor) (rs : List Actor) → fact_names (map (created to) rs) ≡ pair_names (map (λ r. (to, r)) rs)
refs-named to [] = refl
refs-named to (r ∷ rs) = ap (λ xs. to ∷ r ∷ xs) (refs-named to rs)

-- what the facts of one message more name
facts-more : (m : Message) (ms : List Message) → fact_names (flat_map message_facts (m ∷ ms)) ≡ m.to ∷ (pair_names (own_pairs m) ++ fact_names (flat_map message_facts ms))
facts-more m ms =
    ap (λ xs. m.to ∷ xs) (flat_map-append named_by (map (created m.to) m.refs) (flat_map message_facts ms)
    ∙ ap (λ xs. xs ++ fact_names (flat_map message_facts ms)) (refs-named m.to m.refs))

-- what its pairs name, after those of the others
pairs-more : (m : Message) (ms : List Message) → pair_names (message_pairs (m ∷ ms)) ≡ pair_names (own_pairs m) ++ pair_names (message_pairs ms)
pairs-more m ms = flat_map-append (λ p. p.0 ∷ p.1 ∷ []) (own_pairs m) (message_pairs ms)

module _ (a : Actor) where
  abbrev by_gate : List Message → List Actor
  by_gate ms = names_in (message_recipients ms) (message_pairs ms)

  abbrev by_facts : List Message → List Actor
  by_facts ms = fact_names (flat_map message_facts ms)

  named-there : (ms : List Message) → IsAmong a (by_gate ms) → IsAmong a (by_facts ms)
  named-there [] h = h
  named-there (m ∷ ms) h =
      let own = pair_names (own_pairs m) in
      let later : IsAmong a (by_gate ms) → IsAmong a (own ++ by_facts ms) = λ k. IsAmong-append_right a own (by_facts ms) (named-there ms k) in
      let among : IsAmong a (m.to ∷ (own ++ by_facts ms)) = elim h [
        | inl e ↦ inl e
        | inr k ↦ elim (IsAmong-append_cases a (message_recipients ms) (pair_names (message_pairs (m ∷ ms))) k) [
          | inl l ↦ inr (later (IsAmong-append_left a (message_recipients ms) (pair_names (message_pairs ms)) l))
          | inr l ↦ elim (IsAmong-append_cases a own (pair_names (message_pairs ms)) (subst (IsAmong a) (pairs-more m ms) l)) [
            | inl n ↦ inr (IsAmong-append_left a own (by_facts ms) n)
            | inr n ↦ inr (later (IsAmong-append_right a (message_recipients ms) (pair_names (message_pairs ms)) n))
          ]
        ]
      ] in
      subst (IsAmong a) (sym (facts-more m ms)) among

  named-back : (ms : List Message) → IsAmong a (by_facts ms) → IsAmong a (by_gate ms)
  named-back [] h = h
  named-back (m ∷ ms) h =
      let own = pair_names (own_pairs m) in
      let pairs : IsAmong a (own ++ pair_names (message_pairs ms)) → IsAmong a (by_gate (m ∷ ms)) =
      λ k. inr (IsAmong-append_right a (message_recipients ms) (pair_names (message_pairs (m ∷ ms))) (subst (IsAmong a) (sym (pairs-more m ms)) k)) in
      let among : IsAmong a (m.to ∷ (own ++ by_facts ms)) = subst (IsAmong a) (facts-more m ms) h in
      elim among [
        | inl e ↦ inl e
        | inr k ↦ elim (IsAmong-append_cases a own (by_facts ms) k) [
          | inl l ↦ pairs (IsAmong-append_left a own (pair_names (message_pairs ms)) l)
          | inr l ↦ elim (IsAmong-append_cases a (message_recipients ms) (pair_names (message_pairs ms)) (named-back ms l)) [
            | inl n ↦ inr (IsAmong-append_left a (message_recipients ms) (pair_names (message_pairs (m ∷ ms))) n)
            | inr n ↦ pairs (IsAmong-append_right a own (pair_names (message_pairs ms)) n)
          ]
        ]
      ]

-- the actors that the messages name are those that their facts name
pub messages-named : (g : Gate) (ms : List Message) → HasMessages g ms → NamesAsMany g (messages_facts ms)
messages-named g ms has =
    ap₂ named_count has.0 has.1
    ∙ ap length (rising_actors-same (names_in (message_recipients ms) (message_pairs ms)) (fact_names (flat_map message_facts ms)) (λ a. named-there a ms) (λ a. named-back a ms))
