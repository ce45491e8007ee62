-- The last flags of an actor in logs and entries: `FoldSumsStreams` uses this where a flush moves its flags into an
-- entry.
use Rattle.std.proofs.Common.{◌≡◌, suc, Bool, true, false, cond, List, [], ◌∷◌, ◌++◌, length, refl, sym, ◌∙◌, ap, inl, inr, arith}
use Rattle.std.proofs.lemmas.Bool.{cases_Bool, cond_both}
use Rattle.std.specs.Prelude.{Option, Some, None, unwrap_or}
use Rattle.crgc_ids.specs.Actor.{Actor}
use Rattle.crgc_ids.specs.Members.{IsAmong}
use Rattle.history_model.specs.declared.events.Event.{Event}
use Rattle.history_model.specs.declared.events.Event.TheVariants.{Flush}
use Rattle.history_model.specs.Cluster.{Cluster, same_actor}
use Rattle.history_model.specs.Facts.{Flags, Fact, flagged, is_flagged, Note, notes, names}
use Rattle.history_model.specs.Streams.{entry, facts_by, flags_at, is_flush_of, log}
use Rattle.history_model.specs.Graph.{last_flags}
use Rattle.history_model.proofs.Basics.{same_actor-equal}
use Rattle.history_model.proofs.FoldSumsNotes.{notes-kinds}
use Rattle.history_model.proofs.FoldSumsHorizons.{last_flush, last_flush-here, last_flush-skip, some_flags}
use Rattle.history_model.proofs.FoldSumsLogs.{log-next, log-flushed}

-- the newer flags, where there are any
abbrev pub newer : Option Flags → Option Flags → Option Flags
newer old None = old
newer old (Some g) = Some g

pub newer-none : (y : Option Flags) → y ≡ newer None y
newer-none None = refl
newer-none (Some g) = refl

pub newer-unwrap : (r y : Option Flags) (g : Flags) → Some (unwrap_or (newer r y) g) ≡ newer (Some (unwrap_or r g)) y
newer-unwrap r None g = refl
newer-unwrap r (Some f) g = refl

pub newer-assoc : (x y z : Option Flags) → newer (newer x y) z ≡ newer x (newer y z)
newer-assoc x y None = refl
newer-assoc x y (Some g) = refl

pub last_flags-append : (a : Actor) (xs ys : List Fact) → last_flags a (xs ++ ys) ≡ newer (last_flags a xs) (last_flags a ys)
last_flags-append a [] ys = newer-none (last_flags a ys)
last_flags-append a (flagged b g ∷ xs) ys =
    let later = last_flags-append a xs ys in
    elim (same_actor b a) as (λ v. cond v (Some (unwrap_or (last_flags a (xs ++ ys)) g)) (last_flags a (xs ++ ys)) ≡ newer (cond v (Some (unwrap_or (last_flags a xs) g)) (last_flags a xs)) (last_flags a ys)) [
      | true ↦ ap (λ r. Some (unwrap_or r g)) later ∙ newer-unwrap (last_flags a xs) (last_flags a ys) g
      | false ↦ later
    ]
last_flags-append a (x ∷ xs) ys = last_flags-append a xs ys

-- the facts with an actor's flags name it
pub last_flags-named : (a : Actor) (xs : List Fact) (g : Flags) → last_flags a xs ≡ Some g → (x : Fact) × IsAmong x xs × (names a x ≡ true)
last_flags-named a [] g e = absurd (cc)
last_flags-named a (flagged b flags ∷ xs) g e =
    let later : last_flags a xs ≡ Some g → (x : Fact) × IsAmong x (flagged b flags ∷ xs) × (names a x ≡ true) = λ k.
    let found = last_flags-named a xs g k in
    (found.0, inr found.1, found.2) in
    cond_both (same_actor b a) (Some (unwrap_or (last_flags a xs) flags)) (last_flags a xs) (λ o. o ≡ Some g → (x : Fact) × IsAmong x (flagged b flags ∷ xs) × (names a x ≡ true))
    (λ s _. (flagged b flags, inl refl, s)) (λ _. later) e
last_flags-named a (_ ∷ xs) g e =
    let found = last_flags-named a xs g e in
    (found.0, inr found.1, found.2)

last_flags-skip : (a : Actor) (x : Fact) (xs : List Fact) → is_flagged a x ≡ false → last_flags a (x ∷ xs) ≡ last_flags a xs
last_flags-skip a (flagged b g) xs f = ap (λ v. cond v (Some (unwrap_or (last_flags a xs) g)) (last_flags a xs)) f
last_flags-skip a x xs f = refl

facts_by-unflagged : (a b : Actor) (ns : List Note) → ((x : Note) → IsAmong x ns → is_flagged a x.fact ≡ false) → last_flags a (facts_by b ns) ≡ None
facts_by-unflagged a b [] plain = refl
facts_by-unflagged a b (x ∷ ns) plain =
    let later = facts_by-unflagged a b ns (λ y m. plain y (inr m)) in
    elim (same_actor x.by b) as (λ v. last_flags a (cond v (x.fact ∷ facts_by b ns) (facts_by b ns)) ≡ None) [
      | true ↦ last_flags-skip a x.fact (facts_by b ns) (plain x (inl refl)) ∙ later
      | false ↦ later
    ]

-- a log has no flags
pub log-unflagged : (cl : Cluster) (a b : Actor) (h : List Event) → last_flags a (log cl b h) ≡ None
log-unflagged cl a b [] = refl
log-unflagged cl a b (e ∷ p) =
    let unflagged = notes-kinds (λ x. is_flagged a x.fact ≡ false) (λ _ _. refl) (λ _ _ _. refl) (λ _. refl) (λ _ _. refl) cl e p in
    let added = facts_by-unflagged a b (notes cl e p) unflagged in
    elim (cases_Bool (is_flush_of b e)) [
      | inl flush ↦ ap (last_flags a) (log-flushed cl b e p flush).0
      | inr none ↦
          ap (last_flags a) (log-next cl b e p none) ∙ last_flags-append a (log cl b p) (facts_by b (notes cl e p))
          ∙ ap (newer (last_flags a (log cl b p))) added ∙ log-unflagged cl a b p
    ]

-- an entry of a has its flags, and no other entry has any of a
pub entry-flags : (cl : Cluster) (a b : Actor) (p : List Event) → last_flush None (some_flags a) a (suc (length p)) (Flush b ∷ p) ≡ newer (last_flush None (some_flags a) a (length p) p) (last_flags a (entry cl b p))
entry-flags cl a b p =
    let Older : Option Flags = last_flush None (some_flags a) a (length p) p in
    let Goal : Bool → Type 0 = λ v. same_actor b a ≡ v → last_flush None (some_flags a) a (suc (length p)) (Flush b ∷ p) ≡ newer Older (cond v (Some (unwrap_or None (flags_at b p))) None) in
    let goal : Goal (same_actor b a) = elim (same_actor b a) as Goal [
      | true ↦ λ t. last_flush-here None (some_flags a) a (suc (length p)) (Flush b) p t (omega arith) ∙ ap (λ c. Some (flags_at c p)) (sym (same_actor-equal b a t))
      | false ↦ λ f. last_flush-skip None (some_flags a) a (Flush b) p f
    ] in
    goal refl ∙ ap (λ l. newer Older (cond (same_actor b a) (Some (unwrap_or l (flags_at b p))) l)) (sym (log-unflagged cl a b p))
