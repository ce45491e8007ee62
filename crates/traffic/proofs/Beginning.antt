-- The traffic at the beginning, and where nothing happened.
use Rattle.std.proofs.Common.{◌≡◌, ◌≤◌, ◌==◌, ℕ, Bool, true, false, cond, [], refl, sym, ◌∙◌, ap, arith, subst, List}
use Rattle.std.proofs.lemmas.Bool.{le-ltb}
use Rattle.crgc_ids.specs.Nodes.{nodes_below}
use Rattle.history_model.specs.Cluster.{Cluster}
use Rattle.history_model.specs.Messages.{copies}
use Rattle.history_model.specs.Live.{coming_to, live_at}
use Rattle.history_model.proofs.LinksSums.{sum_by-none}
use Rattle.traffic.proofs.LiveSums.{comes_from}
use Rattle.link_table.specs.LinkState.{IsNewLink, LinkState}
use Rattle.link_table.specs.Piled.{kept_count, pile_at}
use Rattle.link_table.specs.Standing.{StandsFor, envelope_at, pile_with}
use Rattle.mailboxes.specs.Mail.{mail_of}
use Rattle.ready_actors.specs.Ready.{has_actor}
use Rattle.history_model.specs.declared.events.Event.{Event}
use Rattle.traffic.specs.Changes.{IsAsBefore, IsNewTraffic}
use Rattle.traffic.specs.Loads.{Loads, live_in, up_in}
use Rattle.traffic.specs.Standing.{IsTrafficOf}
use Rattle.traffic.specs.TrafficState.{TrafficState, link_of}

no-copies : (s d k : ℕ) → copies s d k [] ≡ 0
no-copies s d k = rw (le-ltb k 0 (omega arith)) (omega arith)

-- a new link stands for the beginning
new-stands : (s d : ℕ) (l : LinkState) → IsNewLink l s d → StandsFor s d [] l
new-stands s d l fresh =
    let none = λ (k : ℕ). ap (λ n. pile_with true n (envelope_at s d [] k)) (no-copies s d k) in
    record {
      ends = fresh.ends;
      opened = fresh.state.0;
      stamped = fresh.state.1;
      piled = λ k. ap (λ ps. pile_at ps k) fresh.state.2 ∙ sym (none k);
      counted = ap kept_count fresh.state.2;
      admitted = fresh.numbers;
      messages = fresh.admitted.0;
      carried = fresh.admitted.1;
    }

abbrev none_if : Bool → ℕ
none_if v = cond v 0 0

-- nothing comes to any node
none-comes : (cl : Cluster) (n : ℕ) → coming_to cl n [] ≡ 0
none-comes cl n = sum_by-none (comes_from n []) (nodes_below cl.nodes) (λ s _. zero_either (s == n))
  where
    zero_either : (v : Bool) → none_if v ≡ 0
    zero_either true = refl
    zero_either false = refl

nothing-live : (cl : Cluster) (n : ℕ) → live_at cl n [] ≡ 0
nothing-live cl n = (let comes = none-comes cl n in omega (arith, comes))

pub begins : (cl : Cluster) (t : TrafficState) (n : ℕ) → cl.nodes ≡ n → n ≤ 16 → IsNewTraffic t n → IsTrafficOf cl [] t
begins cl t n same few fresh = record {
  nodes = fresh.nodes_are ∙ sym same;
  few = omega (arith, same, few);
  up = λ n. (fresh.loads n).0;
  live = λ n. (fresh.loads n).1 ∙ sym (nothing-live cl n);
  links = λ s d link. new-stands s d (link_of t s d) (fresh.links s d link);
  mail = λ a. ap (λ boxes. mail_of boxes a) fresh.empty.0;
  ready = λ a. ap (λ actors. has_actor actors a) fresh.empty.1;
}

-- what is as before stands as before
pub as-before : (cl : Cluster) (h : List Event) (old new : TrafficState) → IsAsBefore old new → IsTrafficOf cl h old → IsTrafficOf cl h new
as-before cl h old new same stands = record {
  nodes = same.nodes.0 ∙ stands.nodes;
  few = stands.few;
  up = λ n. ap (λ (l : Loads). up_in l n) same.nodes.1 ∙ stands.up n;
  live = λ n. ap (λ (l : Loads). live_in l n) same.nodes.1 ∙ stands.live n;
  links = λ s d link. subst (StandsFor s d h) (sym (same.links s d link)) (stands.links s d link);
  mail = λ a. same.mail a ∙ stands.mail a;
  ready = λ a. same.ready a ∙ stands.ready a;
}
