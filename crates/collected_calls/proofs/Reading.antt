-- A bulletin that a pass was given is one that a collector of its cluster reads.
use Rattle.std.proofs.Common.{◌≡◌, ◌<◌, ℕ, List, [], ◌∷◌, Some}
use Rattle.std.specs.List.{AllByRecursion}
use Rattle.turn_lock.specs.History.{calls_of}
use Rattle.history_model.specs.declared.records.Bulletin.{Bulletin}
use Rattle.history_model.specs.declared.records.Bulletin.TheVariants as bulletins
use Rattle.history_model.specs.declared.records.Window.{Window}
use Rattle.history_model.specs.Ledgers.{IsInOrder, window_ledger}
use Rattle.history_model.specs.Tells.{IsOrdered}
use Rattle.wire_grammar.specs.Spellable.{IsActorCount, IsPairCount, IsSpellable, IsWindow}
use Rattle.node_collectors.specs.Standing.{IsRead}
use Rattle.node_collectors.proofs.BulletinLemmas.{read-own, told-own}
use Rattle.run_model.specs.Doing.{cluster_of}
use Rattle.operation_model.specs.Answers.{IsCourse}
use Rattle.operation_model.specs.Courses.{world}
use Rattle.operation_model.specs.Hands.{given}
use Rattle.operation_model.specs.Openings.{IsNew, Opening}
use Rattle.operation_model.specs.Turns.{Calls}
use Rattle.operation_model.proofs.CourseLaws.{kept-course, kept-sound}

all-weaker : {X : Type 0} (P Q : X → Type 0) → ((x : X) → P x → Q x) → (xs : List X) → AllByRecursion P xs → AllByRecursion Q xs
all-weaker P Q weaker [] all = all
all-weaker P Q weaker (x ∷ xs) all = (weaker x all.0, all-weaker P Q weaker xs all.1)

-- the rows of a bulletin that can be spelled rise, and none counts 0
window-ordered : (w : Window) → IsWindow w → IsInOrder (window_ledger w)
window-ordered w is = (
  record { states = tt; sent = is.messages.rise; created = is.carried.rise; released = tt },
  record {
    sent = all-weaker IsActorCount (λ r. 0 < r.count) (λ r row. row.1.0) w.messages is.messages.stand;
    created = all-weaker IsPairCount (λ r. 0 < r.count) (λ r row. row.2.0) w.carried is.carried.stand;
    released = tt;
  },
)

spellable-ordered : (b : Bulletin) → IsSpellable b → IsOrdered b
spellable-ordered (bulletins.Delta d) is = (
  record { states = is.states.rise; sent = is.sent.rise; created = is.created.rise; released = is.released.rise },
  record {
    sent = all-weaker IsActorCount (λ r. 0 < r.count) (λ r row. row.1.0) d.sent is.sent.stand;
    created = all-weaker IsPairCount (λ r. 0 < r.count) (λ r row. row.2.0) d.created is.created.stand;
    released = all-weaker IsPairCount (λ r. 0 < r.count) (λ r row. row.2.0) d.released is.released.stand;
  },
)
spellable-ordered (bulletins.Window w) is = window-ordered w is
spellable-ordered (bulletins.Final w) is = window-ordered w is

pub given-read : (o : Opening) (h : Calls) (p n x k : ℕ) (bytes : List ℕ) → IsNew o → IsCourse o h → (let s = o.script in x < s.nodes)
    → given n x k (calls_of p h) ≡ Some bytes → (let s = o.script in IsRead s.nodes x bytes)
given-read o h p n x k bytes fresh course inside is =
    let s = o.script in
    let kept = kept-course o fresh h course in
    let hands = kept.hands in
    let handed = hands.given_is p n x k bytes is in
    let told = handed.spells in
    let b = told.0 in
    let own = told-own (cluster_of s) (world o h) x k b (kept-sound o fresh h kept).0 inside (spellable-ordered b told.1) (handed.notice, handed.stands, told.3) in
    (b, read-own s.nodes x b bytes told.1 told.2 own)
