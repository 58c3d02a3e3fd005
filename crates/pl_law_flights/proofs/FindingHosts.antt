-- An edge switch finds a host at a port: what it knows of places stays, where it was placed.
use Rattle.std.proofs.Common.{◌≡◌, ℕ, zero, suc, ◌&&◌, nat_lt, true, false, if◌then◌else◌, List, [], ◌∷◌, ◌++◌, Option, None, Some, get_or, set, is_none, refl, sym, ◌∙◌, ap, subst}
use Rattle.std.proofs.lemmas.Bool.{cond-false}
use Rattle.pl_wiring.specs.Plan.{Plan}
use Rattle.pl_layouts.specs.declared.place.Place.{Place}
use Rattle.pl_node.specs.declared.neighbour.PortRecord.{PortRecord}
use Rattle.pl_node.specs.PortRecords.{heard_echo, heard_place, is_id, is_usable, new_port, port_of, with_port}
use Rattle.pl_node.specs.SwitchViews.{SwitchView}
use Rattle.pl_steps.specs.Steps.{SwitchStep, rests}
use Rattle.pl_switch_rule.specs.Levels.{becomes_edge, finds_host, has_become_placed, pod_told_before}
use Rattle.pl_switch_rule.specs.Telling.{changes_told}
use Rattle.pl_law_flights.specs.Standing.{KnowsNeighbours}

abbrev placed_at : Option ℕ → Option ℕ → Option ℕ → Place
placed_at level position pod = record { level = level; position = position; pod = pod }

-- the pod of an edge switch that finds a host
abbrev pod_then : Option ℕ → Option ℕ → Option ℕ → Option ℕ
pod_then level pod told = if is_none level && is_none pod then told else pod

unsettled : (level position pod told : Option ℕ) → ((n : ℕ) → position ≡ Some n → level ≡ Some 0) →
    has_become_placed (placed_at level position pod) (placed_at (Some 0) position (pod_then level pod told)) ≡ false
unsettled level None pod told positions = refl
unsettled level (Some n) pod told positions =
    subst (λ l. has_become_placed (placed_at l (Some n) pod) (placed_at (Some 0) (Some n) (pod_then l pod told)) ≡ false) (sym (positions n refl)) (same pod)
  where
    same : (pod : Option ℕ) → has_become_placed (placed_at (Some 0) (Some n) pod) (placed_at (Some 0) (Some n) pod) ≡ false
    same None = refl
    same (Some m) = refl

still : (level position pod told : Option ℕ) → level ≡ Some 0 → placed_at (Some 0) position (pod_then level pod told) ≡ placed_at level position pod
still level position pod told is =
    subst (λ l. placed_at (Some 0) position (pod_then l pod told) ≡ placed_at l position pod) (sym is) refl

-- a host is noted at a port: what was heard there stays
heard_stays : (ports : List PortRecord) (n q : ℕ) → (r : PortRecord) → r.heard ≡ (get_or ports n new_port).heard →
    (get_or (set ports n r) q new_port).heard ≡ (get_or ports q new_port).heard
heard_stays [] n q r same = refl
heard_stays (p ∷ ports) zero zero r same = same
heard_stays (p ∷ ports) zero (suc q) r same = refl
heard_stays (p ∷ ports) (suc n) zero r same = refl
heard_stays (p ∷ ports) (suc n) (suc q) r same = heard_stays ports n q r same

silent_stays : (ports : List PortRecord) (n q : ℕ) → (r : PortRecord) → r.silent ≡ (get_or ports n new_port).silent →
    (get_or (set ports n r) q new_port).silent ≡ (get_or ports q new_port).silent
silent_stays [] n q r same = refl
silent_stays (p ∷ ports) zero zero r same = same
silent_stays (p ∷ ports) zero (suc q) r same = refl
silent_stays (p ∷ ports) (suc n) zero r same = refl
silent_stays (p ∷ ports) (suc n) (suc q) r same = silent_stays ports n q r same

-- the same of places and neighbours
pub record LooksAlike (v w : SwitchView) : Type 0 where
  pub place : w.place ≡ v.place
  pub heard : (q : ℕ) → (port_of w q).heard ≡ (port_of v q).heard
  pub usable : (q : ℕ) → is_usable w q ≡ is_usable v q

pub alike_then : (u v w : SwitchView) → LooksAlike u v → LooksAlike v w → LooksAlike u w
alike_then u v w first next = record {
  place = next.place ∙ first.place;
  heard = λ q. next.heard q ∙ first.heard q;
  usable = λ q. next.usable q ∙ first.usable q;
}

pub neighbours_alike : (plan : Plan) (place : ℕ → Place) (t : ℕ) (v w : SwitchView) → LooksAlike v w → KnowsNeighbours plan place t v → KnowsNeighbours plan place t w
neighbours_alike plan place t v w same knows = record {
  own = same.place ∙ knows.own;
  level = λ q s p n peer is. knows.level q s p n peer (ap (λ o. (heard_place o).level) (sym (same.heard q)) ∙ is);
  position = λ q s p n peer is. knows.position q s p n peer (ap (λ o. (heard_place o).position) (sym (same.heard q)) ∙ is);
  pod = λ q s p n peer is. knows.pod q s p n peer (ap (λ o. (heard_place o).pod) (sym (same.heard q)) ∙ is);
  linked = λ q is. knows.linked q (sym (same.usable q) ∙ is);
}

module _ (v : SwitchView) (port : ℕ) where
  -- the switch once it has found the host
  abbrev pub with_host : SwitchView
  with_host = becomes_edge (with_port v port (record (port_of v port) { host = true }))

  pub host_unsettled : ((n : ℕ) → v.place.position ≡ Some n → v.place.level ≡ Some 0) → has_become_placed v.place (with_host).place ≡ false
  host_unsettled positions = unsettled v.place.level v.place.position v.place.pod (pod_told_before (with_port v port (record (port_of v port) { host = true }))) positions

  pub host_place : v.place.level ≡ Some 0 → (with_host).place ≡ v.place
  host_place is = still v.place.level v.place.position v.place.pod (pod_told_before (with_port v port (record (port_of v port) { host = true }))) is

  pub host_alike : v.place.level ≡ Some 0 → LooksAlike v with_host
  host_alike is = record {
    place = host_place is;
    heard = λ q. heard_stays v.ports port q (record (port_of v port) { host = true }) refl;
    usable = λ q.
        ap (λ n. nat_lt n 3 && is_id (heard_echo (port_of with_host q).heard) v.id) (silent_stays v.ports port q (record (port_of v port) { host = true }) refl)
        ∙ ap (λ o. nat_lt (port_of v q).silent 3 && is_id (heard_echo o) v.id) (heard_stays v.ports port q (record (port_of v port) { host = true }) refl);
  }

  -- where it does not settle, it tells what changed
  pub host_found : has_become_placed v.place (with_host).place ≡ false →
      finds_host v port ≡ record { view = with_host; acts = changes_told v with_host ++ [] }
  host_found stays = ap (λ (step : SwitchStep). record { view = step.view; acts = changes_told v with_host ++ step.acts })
      (cond-false (has_become_placed v.place (with_host).place) _ (rests with_host) stays)
