-- What queues and streams stand for after one event more.
use Rattle.std.proofs.Common.{◌≡◌, ◌≢◌, ◌+◌, ◌<◌, ◌≤◌, ℕ, zero, suc, true, false, cond, List, [], ◌∷◌, ◌++◌, Some, None, length, length-append, eqb, get_or, get_or-set_other, slice_set, refl, sym, ◌∙◌, ap, subst, inl, inr, arith}
use Rattle.std.proofs.lemmas.Bool.{cases_eq, false_from_ne_true, false≢true}
use Rattle.std.proofs.lemmas.Bool.Decides.{Decides-eqb}
use Rattle.std.proofs.lemmas.Grind.{get_or-set_at}
use Rattle.std.proofs.lemmas.List.{get_or_default}
use Rattle.std.specs.Prelude.{slice_get}
use Rattle.history_model.specs.declared.events.Event.{Event}
use Rattle.history_model.specs.declared.events.Event.TheVariants.{Flush, Publish, Remove, Window}
use Rattle.history_model.specs.declared.records.Bulletin.{Bulletin}
use Rattle.history_model.specs.declared.records.Bulletin.TheVariants as bulletins
use Rattle.history_model.specs.declared.records.Delta.{Delta}
use Rattle.history_model.specs.declared.records.Entry.{Entry}
use Rattle.history_model.specs.declared.records.Window as windows
use Rattle.history_model.specs.Cluster.{Cluster}
use Rattle.history_model.specs.Streams.{Notice, delta, entry, final_of, queue, stream, window, window_of}
use Rattle.history_model.specs.Tells.{TellEntries, Tells}
use Rattle.history_model.proofs.Basics.{eqb-refl}
use Rattle.history_model.proofs.TellsBulletins.{delta-tells, more_entries-tell, no_entries-tell, one_entry-tells}
use Rattle.bulletin_streams.specs.Standing.{AreStreamsOf, AreTold, IsStreamOf, StandAfter, TellsFlush, TellsLink, is_silent, queued}
use Rattle.bulletin_streams.specs.StreamState.{Appends, AreAlike, ChangesAt, IsAlike, Publishes, Queues, StreamState, blank, stream_at}

-- ---- one node of the table

-- what is read in the place of a node is its state
pub read-at : (old items : List StreamState) (k m : ℕ) (was : StreamState) → items ≡ old → length items ≡ 16 → k ≡ m → m < 16 → was ≡ get_or items k was → was ≡ stream_at old m
read-at old items k m was same long here low found =
    found ∙ get_or_default items k was blank (omega arith) ∙ ap (λ xs. get_or xs k blank) same ∙ ap (λ j. get_or old j blank) here

-- what is put in the place of one node's state is a change there
pub changed-at : (Change : StreamState → StreamState → Type 0) (old items : List StreamState) (k m : ℕ) (was now : StreamState) → items ≡ old → length items ≡ 16 → k ≡ m → m < 16 → was ≡ get_or items k was → Change was now → ChangesAt old (slice_set items k now) m Change
changed-at Change old items k m was now same long here low found change = record {
  changed = subst (λ s. Change s (stream_at (slice_set items k now) m)) (read-at old items k m was same long here low found)
      (subst (Change was) (sym (get_or-set_at items k m now blank (sym here) (omega arith))) change);
  others = λ n apart. get_or-set_other items k n now blank (λ e. apart (e ∙ here)) ∙ ap (λ xs. get_or xs n blank) same;
}

-- ---- bulletins and notices

-- one bulletin more tells one notice more
told-push : (o : ℕ) (bs : List Bulletin) (ns : List Notice) (b : Bulletin) (n : Notice) → AreTold o bs ns → Tells o b n → AreTold o (bs ++ b ∷ []) (ns ++ n ∷ [])
told-push o [] [] b n told tells = (tells, tt)
told-push o (x ∷ bs) (m ∷ ns) b n told tells = (told.0, told-push o bs ns b n told.1 tells)
told-push o [] (m ∷ ns) b n told tells = absurd told
told-push o (x ∷ bs) [] b n told tells = absurd told

-- there are as many
pub told-length : (o : ℕ) (bs : List Bulletin) (ns : List Notice) → AreTold o bs ns → length bs ≡ length ns
told-length o [] [] told = refl
told-length o (b ∷ bs) (n ∷ ns) told = ap suc (told-length o bs ns told.1)
told-length o [] (n ∷ ns) told = absurd told
told-length o (b ∷ bs) [] told = absurd told

-- the bulletin at a place tells the notice there
pub told-at : (o : ℕ) (bs : List Bulletin) (ns : List Notice) (k : ℕ) (b : Bulletin) → AreTold o bs ns → slice_get bs k ≡ Some b → (n : Notice) × (slice_get ns k ≡ Some n) × Tells o b n
told-at o [] [] k b told is = absurd (cc)
told-at o (x ∷ bs) (n ∷ ns) zero b told is = (n, refl, subst (λ y. Tells o y n) (same is) told.0)
  where
    same : Some x ≡ Some b → x ≡ b
    same e = cc
told-at o (x ∷ bs) (n ∷ ns) (suc k) b told is = told-at o bs ns k b told.1 is
told-at o [] (n ∷ ns) k b told is = absurd told
told-at o (x ∷ bs) [] k b told is = absurd told

-- past the bulletins there is no notice
pub told-beyond : (o : ℕ) (bs : List Bulletin) (ns : List Notice) (k : ℕ) → AreTold o bs ns → slice_get bs k ≡ None → length ns ≤ k
told-beyond o [] [] k told is = omega arith
told-beyond o (x ∷ bs) (n ∷ ns) zero told is = absurd (cc)
told-beyond o (x ∷ bs) (n ∷ ns) (suc k) told is = (let later = told-beyond o bs ns k told.1 is in omega arith)
told-beyond o [] (n ∷ ns) k told is = absurd told
told-beyond o (x ∷ bs) [] k told is = absurd told

-- ---- one event

-- the node itself, or another one
at-node : (P : ℕ → Type 0) (m n : ℕ) → P m → (n ≢ m → P n) → P n
at-node P m n here there = elim (cases_eq n m) [ inl same ↦ subst P (sym same) here | inr apart ↦ there apart ]

apart-tests : (m n : ℕ) → n ≢ m → eqb m n ≡ false
apart-tests m n apart = false_from_ne_true (eqb m n) (λ t. apart (sym ((Decides-eqb m n).0 t)))

-- what an event does not change stands
stays : (cl : Cluster) (e : Event) (p : List Event) (n : ℕ) (s t : StreamState) → queue cl n (e ∷ p) ≡ queue cl n p → queued n (e ∷ p) ≡ queued n p → stream cl n (e ∷ p) ≡ stream cl n p → IsAlike s t → IsStreamOf cl n p s → IsStreamOf cl n (e ∷ p) t
stays cl e p n s t queue_same count_same stream_same alike stands = record {
  entries = subst (λ es. TellEntries es (queue cl n (e ∷ p))) (sym alike.0) (subst (TellEntries s.entries) (sym queue_same) stands.entries);
  count = ap length alike.0 ∙ stands.count ∙ sym count_same;
  bulletins = subst (λ bs. AreTold n bs (stream cl n (e ∷ p))) (sym alike.1) (subst (AreTold n s.bulletins) (sym stream_same) stands.bulletins);
}

same-alike : (s t : StreamState) → t ≡ s → IsAlike s t
same-alike s t e = (ap (λ x. x.entries) e, ap (λ x. x.bulletins) e)

-- streams that keep the same stand for the same
pub alike-stand : (cl : Cluster) (h : List Event) (old new : List StreamState) → AreAlike old new → AreStreamsOf cl h old → AreStreamsOf cl h new
alike-stand cl h old new alike stands n below = (
    let s = stands n below in
    let a = alike n in
    record {
      entries = subst (λ es. TellEntries es (queue cl n h)) (sym a.0) s.entries;
      count = ap length a.0 ∙ s.count;
      bulletins = subst (λ bs. AreTold n bs (stream cl n h)) (sym a.1) s.bulletins;
    }
    )

-- an event that moves nothing leaves them
pub silent-stands : (cl : Cluster) (e : Event) (p : List Event) (streams : List StreamState) → is_silent e ≡ true → StandAfter cl e p streams streams
silent-stands cl (Flush a) p streams silent = absurd (false≢true silent)
silent-stands cl (Publish n) p streams silent = absurd (false≢true silent)
silent-stands cl (Window d s) p streams silent = absurd (false≢true silent)
silent-stands cl (Remove d s) p streams silent = absurd (false≢true silent)
silent-stands cl e p streams silent = λ stands n below. (let s = stands n below in record { entries = s.entries; count = s.count; bulletins = s.bulletins })

-- a flush
pub flush-stands : (cl : Cluster) (p : List Event) (e : Entry) (old new : List StreamState) → ChangesAt old new e.actor.node (λ s t. Queues s t e) → TellsFlush cl p e → StandAfter cl (Flush e.actor) p old new
flush-stands cl p e old new change tells stands n below =
    at-node (λ x. x < 16 → IsStreamOf cl x (Flush e.actor ∷ p) (stream_at new x)) m n here there below
  where
    m : ℕ
    m = e.actor.node

    own : eqb m m ≡ true
    own = eqb-refl m

    here : m < 16 → IsStreamOf cl m (Flush e.actor ∷ p) (stream_at new m)
    here low = (
        let s = stands m low in
        let facts = entry cl e.actor p in
        let q = change.changed in
        record {
          entries = subst (λ v. TellEntries (stream_at new m).entries (cond v (queue cl m p ++ facts) (queue cl m p))) (sym own)
              (subst (λ es. TellEntries es (queue cl m p ++ facts)) (sym q.entries)
              (more_entries-tell (stream_at old m).entries (e ∷ []) (queue cl m p) facts s.entries (one_entry-tells e.actor e facts tells)));
          count = ap length q.entries ∙ length-append (stream_at old m).entries (e ∷ []) ∙ ap (λ k. k + 1) s.count ∙ sym (ap (λ v. cond v (queued m p + 1) (queued m p)) own);
          bulletins = subst (λ bs. AreTold m bs (stream cl m p)) (sym q.bulletins) s.bulletins;
        }
        )

    there : n ≢ m → n < 16 → IsStreamOf cl n (Flush e.actor ∷ p) (stream_at new n)
    there apart low = (
        let no = apart-tests m n apart in
        stays cl (Flush e.actor) p n (stream_at old n) (stream_at new n) (ap (λ v. cond v (queue cl n p ++ entry cl e.actor p) (queue cl n p)) no)
        (ap (λ v. cond v (queued n p + 1) (queued n p)) no) refl (same-alike (stream_at old n) (stream_at new n) (change.others n apart)) (stands n low)
        )

-- a publish
pub publish-stands : (cl : Cluster) (p : List Event) (m : ℕ) (old new : List StreamState) → ChangesAt old new m (Publishes m) → StandAfter cl (Publish m) p old new
publish-stands cl p m old new change stands n below =
    at-node (λ x. x < 16 → IsStreamOf cl x (Publish m ∷ p) (stream_at new x)) m n here there below
  where
    own : eqb m m ≡ true
    own = eqb-refl m

    here : m < 16 → IsStreamOf cl m (Publish m ∷ p) (stream_at new m)
    here low = (
        let s = stands m low in
        let q = change.changed in
        let d : Delta = q.bulletins.0 in
        let facts = queue cl m p in
        record {
          entries = subst (λ v. TellEntries (stream_at new m).entries (cond v [] facts)) (sym own) (subst (λ es. TellEntries es []) (sym q.entries) no_entries-tell);
          count = ap length q.entries ∙ sym (ap (λ v. cond v 0 (queued m p)) own);
          bulletins = subst (λ v. AreTold m (stream_at new m).bulletins (cond v (stream cl m p ++ delta facts ∷ []) (stream cl m p))) (sym own)
              (subst (λ bs. AreTold m bs (stream cl m p ++ delta facts ∷ [])) (sym q.bulletins.2)
              (told-push m (stream_at old m).bulletins (stream cl m p) (bulletins.Delta d) (delta facts) s.bulletins
              (delta-tells m (stream_at old m).entries d facts s.entries q.bulletins.1)));
        }
        )

    there : n ≢ m → n < 16 → IsStreamOf cl n (Publish m ∷ p) (stream_at new n)
    there apart low = (
        let no = apart-tests m n apart in
        stays cl (Publish m) p n (stream_at old n) (stream_at new n) (ap (λ v. cond v [] (queue cl n p)) no) (ap (λ v. cond v 0 (queued n p)) no)
        (ap (λ v. cond v (stream cl n p ++ delta (queue cl n p) ∷ []) (stream cl n p)) no) (same-alike (stream_at old n) (stream_at new n) (change.others n apart)) (stands n low)
        )

-- a bulletin of a link
link-stands : (cl : Cluster) (e : Event) (p : List Event) (m : ℕ) (b : Bulletin) (notice : Notice) (old new : List StreamState) → ((n : ℕ) → queue cl n (e ∷ p) ≡ queue cl n p) → ((n : ℕ) → queued n (e ∷ p) ≡ queued n p)
    → ((n : ℕ) → stream cl n (e ∷ p) ≡ cond (eqb m n) (stream cl n p ++ notice ∷ []) (stream cl n p)) → ((n : ℕ) → m ≡ n → Tells m b notice) → ChangesAt old new m (λ s t. Appends s t b) → StandAfter cl e p old new
link-stands cl e p m b notice old new queue_same count_same next tells change stands n below =
    at-node (λ x. x < 16 → IsStreamOf cl x (e ∷ p) (stream_at new x)) m n here there below
  where
    here : m < 16 → IsStreamOf cl m (e ∷ p) (stream_at new m)
    here low = (
        let s = stands m low in
        let q = change.changed in
        let there : stream cl m (e ∷ p) ≡ stream cl m p ++ notice ∷ [] = next m ∙ ap (λ v. cond v (stream cl m p ++ notice ∷ []) (stream cl m p)) (eqb-refl m) in
        record {
          entries = subst (λ es. TellEntries es (queue cl m (e ∷ p))) (sym q.entries) (subst (TellEntries (stream_at old m).entries) (sym (queue_same m)) s.entries);
          count = ap length q.entries ∙ s.count ∙ sym (count_same m);
          bulletins = subst (AreTold m (stream_at new m).bulletins) (sym there)
              (subst (λ bs. AreTold m bs (stream cl m p ++ notice ∷ [])) (sym q.bulletins) (told-push m (stream_at old m).bulletins (stream cl m p) b notice s.bulletins (tells m refl)));
        }
        )

    there : n ≢ m → n < 16 → IsStreamOf cl n (e ∷ p) (stream_at new n)
    there apart low =
        stays cl e p n (stream_at old n) (stream_at new n) (queue_same n) (count_same n)
        (next n ∙ ap (λ v. cond v (stream cl n p ++ notice ∷ []) (stream cl n p)) (apart-tests m n apart)) (same-alike (stream_at old n) (stream_at new n) (change.others n apart)) (stands n low)

pub window-stands : (cl : Cluster) (p : List Event) (w : windows.Window) (old new : List StreamState) → ChangesAt old new w.at (λ s t. Appends s t (bulletins.Window w)) → TellsLink p w → StandAfter cl (Window w.at w.from) p old new
window-stands cl p w old new change tells =
    link-stands cl (Window w.at w.from) p w.at (bulletins.Window w) (window_of w.from (window w.from w.at p)) old new (λ _. refl) (λ _. refl) (λ _. refl) (λ _ _. tells) change

pub final-stands : (cl : Cluster) (p : List Event) (w : windows.Window) (old new : List StreamState) → ChangesAt old new w.at (λ s t. Appends s t (bulletins.Final w)) → TellsLink p w → StandAfter cl (Remove w.at w.from) p old new
final-stands cl p w old new change tells =
    link-stands cl (Remove w.at w.from) p w.at (bulletins.Final w) (final_of w.from (window w.from w.at p)) old new (λ _. refl) (λ _. refl) (λ _. refl) (λ _ _. tells) change
