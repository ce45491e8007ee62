use Rattle.std.proofs.Common.{◌≡◌, ℕ, Bool, sym, ◌∙◌, subst}
use Rattle.std.proofs.lemmas.Option.{IfSome_then}
use Rattle.ready_actors.specs.Flags.{IsFirstOf, has_flag}
use Rattle.ready_actors.specs.Members.{actors_from}
use Rattle.ready_actors.specs.Ready.{IsFirstOnFrom, has_actor}
use Rattle.ready_actors.proofs.LevelLemmas.{first-alike}
use Rattle.ready_actors.proofs.MemberLemmas.{actor_at, has-found, has-missed}
use Rattle.ready_actors.proofs.ready.ReadyActors.first_on.Goals as goal

pub returns-in_err-get-clause-none : goal.returns-in_err-get-clause-none
returns-in_err-get-clause-none c =
    rw (c.from_residual.ensures, ← c.self.view_is)
    (λ k above. has-missed c.self.inside.nodes.items c.deref.result.now c.get.result (actor_at c.args.node k) c.deref.ensures.value c.get.ensures.number c.in_err-get.ensures.lookup.0)

pub returns-in_err-serial-clause-none : goal.returns-in_err-serial-clause-none
returns-in_err-serial-clause-none c =
    let looked = c.in_ok-get.ensures.lookup in
    rw (c.from_residual-in_err-serial.ensures, ← c.self.view_is)
    (λ k above. has-found c.self.inside.nodes.items c.deref.result.now c.get.result c.in_ok-get.field-0.now (actor_at c.args.node k) c.deref.ensures.value c.get.ensures.number looked.0 looked.1
    ∙ c.in_err-serial.ensures.none k above)

pub returns-clause-some : goal.returns-clause-some
returns-clause-some c =
    let node = c.args.node in
    let from = c.args.serial in
    let serial = c.in_ok-serial.serial in
    let words = c.in_ok-get.field-0.now in
    let nodes = c.self.inside.nodes.items in
    let looked = c.in_ok-get.ensures.lookup in
    let here : ℕ → Bool = λ k. has_actor (actors_from 0 nodes) (actor_at node k) in
    let same : (k : ℕ) → has_flag words k ≡ here k = λ k. sym (has-found nodes c.deref.result.now c.get.result words (actor_at node k) c.deref.ensures.value c.get.ensures.number looked.0 looked.1) in
    let first : IsFirstOf here from serial = first-alike (has_flag words) here from serial same c.in_ok-serial.ensures.some in
    rw (← c.self.view_is)
    (IfSome_then c.new.result {P = λ a. (a.node ≡ node) × (a.serial ≡ serial)} {Q = IsFirstOnFrom (actors_from 0 nodes) node from} c.new.ensures.some
    (λ a is. record { on_node = is.0; first_of = subst (λ k. IsFirstOf here from k) (sym is.1) first }))
