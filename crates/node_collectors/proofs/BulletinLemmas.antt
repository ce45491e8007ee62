-- A bulletin of a legal history's stream is none that a collector refuses.
use Rattle.std.proofs.Common.{◌≡◌, ◌==◌, ◌<◌, ◌&&◌, not, ℕ, true, false, List, [], ◌∷◌, ◌||◌, ◌++◌, Result, Ok, length, map, refl, sym, ap, subst, ◌∙◌, inl, inr, arith}
use Rattle.std.proofs.lemmas.Bool.{lt-ltb}
use Rattle.std.proofs.lemmas.List.{append-nil}
use Rattle.std.specs.List.{list_all}
use Rattle.std.specs.Prelude.{nat_lt}
use Rattle.crgc_ids.specs.Actor.{Actor}
use Rattle.crgc_ids.specs.Members.{IsAmong}
use Rattle.crgc_ids.specs.declared.rising.PairCount.{PairCount}
use Rattle.crgc_ids.proofs.MembersLaws.{IsAmong-append_left, IsAmong-append_right}
use Rattle.history_model.specs.declared.events.Event.{Event}
use Rattle.history_model.specs.declared.records.Bulletin.{Bulletin}
use Rattle.history_model.specs.declared.records.Bulletin.TheVariants as bulletins
use Rattle.history_model.specs.Cluster.{Cluster}
use Rattle.history_model.specs.Graph.{named_by}
use Rattle.history_model.specs.declared.records.Window.{Window}
use Rattle.history_model.specs.Ledgers.{ledger_names, pair_names, window_ledger}
use Rattle.history_model.specs.Legal.{IsLegal}
use Rattle.history_model.specs.Streams.{Notice, delta, final_of, window_of}
use Rattle.history_model.specs.Tells.{IsOrdered, Tells, bulletin_ledger, facts_in, origin_of}
use Rattle.history_model.proofs.Basics.{eqb-refl}
use Rattle.history_model.proofs.FoldSumsKnown.{names-among}
use Rattle.history_model.proofs.Lists.{IsAmong-from_flat_map}
use Rattle.history_model.proofs.TellsBulletins.{ledger-named, tells-counts}
use Rattle.bulletin_streams.specs.Standing.{TellsNumber}
use Rattle.wire_grammar.specs.Reading.{reading}
use Rattle.wire_grammar.specs.Spellable.{IsSpellable}
use Rattle.wire_grammar.specs.Spelling.{spelled}
use Rattle.wire_grammar.proofs.Bulletins.{reading-again}
use Rattle.collector.specs.declared.read.TakeFault.{TakeFault}
use Rattle.collector.specs.declared.read.TakeFault.TheVariants as faults
use Rattle.collector.specs.Refusals.{IsRefusal, counts_within, is_foreign, is_within, pairs_within, read_as}
use Rattle.collector.proofs.TakeLemmas.{read_accepted}
use Rattle.true_config.specs.Readings.{IsSpelledAt}
use Rattle.node_collectors.specs.Standing.{IsRead}
use Rattle.node_collectors.proofs.WithinLemmas.{IsNoticeWithin, NameWithin, notice-within}

-- ---- names

-- the actors are of the first nodes alone
abbrev AreBelow : ℕ → List Actor → Type 0
AreBelow nodes as_ = (a : Actor) → IsAmong a as_ → a.node < nodes

rows-below : {X : Type 0} (nodes : ℕ) (key : X → Actor) (rows : List X) → AreBelow nodes (map key rows) → list_all (λ r. nat_lt (key r).node nodes) rows ≡ true
rows-below nodes key [] below = refl
rows-below nodes key (r ∷ rows) below =
    let here = lt-ltb (key r).node nodes (below (key r) (inl refl)) in
    let later = rows-below nodes key rows (λ a among. below a (inr among)) in
    λ i. here i && later i

pairs-below : (nodes : ℕ) (rows : List PairCount) → AreBelow nodes (pair_names rows) → pairs_within nodes rows ≡ true
pairs-below nodes [] below = refl
pairs-below nodes (r ∷ rows) below =
    let owner = lt-ltb r.owner.node nodes (below r.owner (inl refl)) in
    let target = lt-ltb r.target.node nodes (below r.target (inr (inl refl))) in
    let later = pairs-below nodes rows (λ a among. below a (inr (inr among))) in
    λ i. (owner i && target i) && later i

below-left : (nodes : ℕ) (xs ys : List Actor) → AreBelow nodes (xs ++ ys) → AreBelow nodes xs
below-left nodes xs ys below a among = below a (IsAmong-append_left a xs ys among)

below-right : (nodes : ℕ) (xs ys : List Actor) → AreBelow nodes (xs ++ ys) → AreBelow nodes ys
below-right nodes xs ys below a among = below a (IsAmong-append_right a xs ys among)

-- the link of a window or Final is from one of the first nodes
abbrev IsLinkBelow : ℕ → Bulletin → Type 0
IsLinkBelow nodes (bulletins.Delta d) = Unit {0}
IsLinkBelow nodes (bulletins.Window w) = w.from < nodes
IsLinkBelow nodes (bulletins.Final w) = w.from < nodes

window-below : (nodes : ℕ) (w : Window) → AreBelow nodes (ledger_names (window_ledger w)) → w.at < nodes → w.from < nodes
    → (nat_lt w.at nodes && (nat_lt w.from nodes && (counts_within nodes w.messages && pairs_within nodes w.carried))) ≡ true
window-below nodes w below own link =
    let at = lt-ltb w.at nodes own in
    let from = lt-ltb w.from nodes link in
    let messages = rows-below nodes (λ r. r.actor) w.messages (below-left nodes (map (λ r. r.actor) w.messages) (pair_names w.carried ++ []) below) in
    let carried = pairs-below nodes w.carried (below-left nodes (pair_names w.carried) [] (below-right nodes (map (λ r. r.actor) w.messages) (pair_names w.carried ++ []) below)) in
    λ i. at i && (from i && (messages i && carried i))

-- a bulletin names the first nodes alone, where its own node, its link and its rows do
bulletin-below : (nodes : ℕ) (b : Bulletin) → AreBelow nodes (ledger_names (bulletin_ledger b)) → origin_of b < nodes → IsLinkBelow nodes b → is_within nodes b ≡ true
bulletin-below nodes (bulletins.Delta d) below own link =
    let node = lt-ltb d.node nodes own in
    let pairs = pair_names d.created ++ pair_names d.released in
    let counts = map (λ r. r.actor) d.sent ++ pairs in
    let states = rows-below nodes (λ r. r.actor) d.states (below-left nodes (map (λ r. r.actor) d.states) counts below) in
    let later = below-right nodes (map (λ r. r.actor) d.states) counts below in
    let sent = rows-below nodes (λ r. r.actor) d.sent (below-left nodes (map (λ r. r.actor) d.sent) pairs later) in
    let last = below-right nodes (map (λ r. r.actor) d.sent) pairs later in
    let created = pairs-below nodes d.created (below-left nodes (pair_names d.created) (pair_names d.released) last) in
    let released = pairs-below nodes d.released (below-right nodes (pair_names d.created) (pair_names d.released) last) in
    λ i. node i && (states i && (sent i && (created i && released i)))
bulletin-below nodes (bulletins.Window w) below own link = window-below nodes w below own link
bulletin-below nodes (bulletins.Final w) below own link = window-below nodes w below own link

-- ---- bulletins of a history

-- a bulletin that tells a notice is its origin's
told-origin : (o : ℕ) (b : Bulletin) (n : Notice) → Tells o b n → origin_of b ≡ o
told-origin o (bulletins.Delta d) (delta facts) tells = tells.0
told-origin o (bulletins.Window w) (window_of s facts) tells = tells.0
told-origin o (bulletins.Final w) (final_of s facts) tells = tells.0
told-origin o (bulletins.Delta d) (window_of s facts) tells = absurd tells
told-origin o (bulletins.Delta d) (final_of s facts) tells = absurd tells
told-origin o (bulletins.Window w) (delta facts) tells = absurd tells
told-origin o (bulletins.Window w) (final_of s facts) tells = absurd tells
told-origin o (bulletins.Final w) (delta facts) tells = absurd tells
told-origin o (bulletins.Final w) (window_of s facts) tells = absurd tells

told-link : (cl : Cluster) (o : ℕ) (b : Bulletin) (n : Notice) → Tells o b n → IsNoticeWithin cl n → IsLinkBelow cl.nodes b
told-link cl o (bulletins.Delta d) n tells within = tt
told-link cl o (bulletins.Window w) (window_of s facts) tells within = subst (λ k. k < cl.nodes) (sym tells.1) within.0
told-link cl o (bulletins.Final w) (final_of s facts) tells within = subst (λ k. k < cl.nodes) (sym tells.1) within.0
told-link cl o (bulletins.Window w) (delta facts) tells within = absurd tells
told-link cl o (bulletins.Window w) (final_of s facts) tells within = absurd tells
told-link cl o (bulletins.Final w) (delta facts) tells within = absurd tells
told-link cl o (bulletins.Final w) (window_of s facts) tells within = absurd tells

notice-names : (cl : Cluster) (n : Notice) → IsNoticeWithin cl n → NameWithin cl (facts_in n)
notice-names cl (delta facts) within = within
notice-names cl (window_of s facts) within = within.1
notice-names cl (final_of s facts) within = within.1

-- the actors that its rows name are of the cluster's nodes
told-names : (cl : Cluster) (o : ℕ) (b : Bulletin) (n : Notice) → IsOrdered b → Tells o b n → IsNoticeWithin cl n → AreBelow cl.nodes (ledger_names (bulletin_ledger b))
told-names cl o b n ordered tells within a among =
    let named = (ledger-named (facts_in n) (bulletin_ledger b) ordered.1 (tells-counts o b n tells) a).0 among in
    let fact = IsAmong-from_flat_map named_by a (facts_in n) named in
    notice-names cl n within fact.0 fact.1 a ((names-among a fact.0).1 fact.2)

-- the bulletin of a legal history's stream is not foreign
pub told-own : (cl : Cluster) (h : List Event) (o k : ℕ) (b : Bulletin) → IsLegal cl h → o < cl.nodes → IsOrdered b → TellsNumber cl h o k b
    → is_foreign cl.nodes o b ≡ false
told-own cl h o k b legal inside ordered told =
    let n = told.0 in
    let within = notice-within cl o k h n legal told.1 in
    let origin = told-origin o b n told.2 in
    let same : (origin_of b == o) ≡ true = ap (λ x. x == o) origin ∙ eqb-refl o in
    let below = bulletin-below cl.nodes b (told-names cl o b n ordered told.2 within) (subst (λ x. x < cl.nodes) (sym origin) inside) (told-link cl o b n told.2 within) in
    λ i. not (same i) || not (below i)

-- bytes that spell it are read as it
pub read-own : (nodes o : ℕ) (b : Bulletin) (bytes : List ℕ) → IsSpellable b → bytes ≡ spelled b → is_foreign nodes o b ≡ false → read_as nodes o bytes ≡ Ok b
read-own nodes o b bytes fits is own =
    let whole : spelled b ++ [] ≡ bytes = append-nil (spelled b) ∙ sym is in
    let read : reading bytes ≡ Ok (b, length (spelled b)) = ap reading (sym whole) ∙ reading-again b [] fits in
    read_accepted nodes o bytes (b, length (spelled b)) read (omega (arith, ap length is)) own

-- so what is spelled at a number of a stream is read
pub spelled-read : (cl : Cluster) (h : List Event) (o k : ℕ) (bytes : List ℕ) → IsLegal cl h → o < cl.nodes → IsSpelledAt cl h o k bytes → IsRead cl.nodes o bytes
spelled-read cl h o k bytes legal inside at =
    let b = at.bulletin in
    (b, read-own cl.nodes o b bytes at.spells.spellable at.spells.bytes (told-own cl h o k b legal inside at.ordered at.told))

-- so no refusal is left but want of memory
pub none-refused : (read : Result Bulletin TakeFault) (b : Bulletin) (e : TakeFault) → read ≡ Ok b → IsRefusal e read → e ≡ faults.NoMemory
none-refused read b (faults.BadBulletin f) is refusal = absurd (cc)
none-refused read b (faults.Trailing n) is refusal = absurd (cc)
none-refused read b faults.Foreign is refusal = absurd (cc)
none-refused read b faults.NoMemory is refusal = refl
