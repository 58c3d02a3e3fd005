-- From one moment of a settled fabric to the next no link and no place changes, so what leads on still does.
use Rattle.std.proofs.Common.{◌≡◌, ◌⊎◌, ℕ, ◌<◌, Some, sym, ap, ◌∙◌, subst, inl, inr}
use Rattle.std.specs.Prelude.{slice_index_or}
use Rattle.pl_frame.specs.declared.address.SwitchId.{SwitchId}
use Rattle.pl_layouts.specs.declared.place.Place.{Place}
use Rattle.pl_wiring.specs.Labels.{switch_count}
use Rattle.pl_wiring.specs.LiveLinks.{LivePorts, is_live_at}
use Rattle.pl_wiring.specs.Plan.{IsPlan, Plan}
use Rattle.pl_node.specs.ManagerViews.{Told, place_of}
use Rattle.pl_node.specs.PortRecords.{is_usable}
use Rattle.pl_node.specs.SwitchViews.{SwitchView}
use Rattle.pl_manager_rule.specs.WholeRule.{whole_rule}
use Rattle.pl_switch_rule.specs.SwitchRule.{Loose}
use Rattle.pl_law_control_plane.specs.ControlPlanes.{AreAdjacent, ControlPlane}
use Rattle.pl_law_control_plane.specs.PlaneSteps.{PlaneStep}
use Rattle.pl_law_control_plane.specs.PlaneSteps.PlaneStep.{Carried, Entered, Heard, Left, Managed, Ordered, Ticked}
use Rattle.pl_law_control_plane.specs.Restarts.{OnPlane}
use Rattle.pl_law_control_plane.specs.Restarts.OnPlane.{BeginsAnew, Steps}
use Rattle.pl_law_control_plane.proofs.Exports.{adjacent_there, adjacent_turned}
use Rattle.pl_law_arrival.specs.Ways.{Alike, AreLinked, Fabric, IsLast, IsTop, LeadsBy, LeadsDown}
use Rattle.pl_law_arrival.proofs.Calm.{Calm, Net, fabric}

module _ (f g : Fabric) (is : IsPlan f.plan) (same : Alike f g) where
  pub still_by : (s p t : ℕ) → LeadsBy f s p t → LeadsBy g s p t
  still_by s p t l = record {
    into = l.into;
    adjacent = subst (λ (plan : Plan). AreAdjacent plan s p t l.into) (sym same.plan) l.adjacent;
    live = same.live s p t l.into l.adjacent ∙ l.live;
  }

  still_linked : (s t : ℕ) → AreLinked f s t → AreLinked g s t
  still_linked s t l = record { port = l.port; by = still_by s l.port t l.by }

  pub from_there : (s p t : ℕ) → LeadsBy f s p t → s < switch_count f.plan.k
  from_there s p t l = (adjacent_there f.plan s p t l.into is l.adjacent).0

  to_there : (s t : ℕ) → AreLinked f s t → t < switch_count f.plan.k
  to_there s t l = (adjacent_there f.plan t l.by.into s l.port is (adjacent_turned f.plan s l.port t l.by.into is l.by.adjacent)).0

  pub still_level : (s x : ℕ) → s < switch_count f.plan.k → (f.place s).level ≡ Some x → (g.place s).level ≡ Some x
  still_level s x within e = ap (λ (p : Place). p.level) (same.place s within) ∙ e

  still_pod : (s x : ℕ) → s < switch_count f.plan.k → (f.place s).pod ≡ Some x → (g.place s).pod ≡ Some x
  still_pod s x within e = ap (λ (p : Place). p.pod) (same.place s within) ∙ e

  pub still_last : (pod t a : ℕ) → IsLast f pod t a → IsLast g pod t a
  still_last pod t a last =
      let within = from_there a last.linked.port t last.linked.by in
      record { level = still_level a 1 within last.level; pod_is = still_pod a pod within last.pod_is; linked = still_linked a t last.linked }

  pub still_top : (pod t c : ℕ) → IsTop f pod t c → IsTop g pod t c
  still_top pod t c top = record {
    level = still_level c 2 (from_there c top.linked.port top.last top.linked.by) top.level;
    last = top.last;
    linked = still_linked c top.last top.linked;
    is_last = still_last pod t top.last top.is_last;
  }

  pub still_down : (pod t a : ℕ) → LeadsDown f pod t a → LeadsDown g pod t a
  still_down pod t a (inl last) = inl (still_last pod t a last)
  still_down pod t a (inr first) =
      let within = from_there a first.linked.port first.top first.linked.by in
      inr (record {
        level = still_level a 1 within first.level;
        own = first.own;
        pod_is = still_pod a first.own within first.pod_is;
        another = first.another;
        top = first.top;
        linked = still_linked a first.top first.linked;
        is_top = still_top pod t first.top first.is_top;
      })

module _ (m n : Net) (before : Calm m) (after : Calm n) (plan : n.plan ≡ m.plan) where
  there_now : (s p t q : ℕ) → AreAdjacent m.plan s p t q → AreAdjacent n.plan s p t q
  there_now s p t q adjacent = subst (λ (x : Plan). AreAdjacent x s p t q) (sym plan) adjacent

  -- where no switch's view changed
  pub alike_by_views : ((s : ℕ) → n.view s ≡ m.view s) → Alike (fabric m) (fabric n)
  alike_by_views views = record {
    plan = plan;
    live = λ s p t q adjacent.
        sym (after.usable s p t q (there_now s p t q adjacent)) ∙ ap (λ (v : SwitchView). is_usable v p) (views s) ∙ before.usable s p t q adjacent;
    place = λ s within. ap (λ (v : SwitchView). v.place) (views s);
  }

  -- where no link changed, nor what the manager was told
  pub alike_by_manager : n.links ≡ m.links → n.told ≡ m.told → Alike (fabric m) (fabric n)
  alike_by_manager links told = record {
    plan = plan;
    live = λ s p t q adjacent. ap (λ (l : LivePorts). is_live_at l s p) links;
    place = λ s within.
        let id : (n.view s).id ≡ (m.view s).id = after.named s ∙ ap (λ (x : Plan). slice_index_or x.ids s (record { 0 = 0 })) plan ∙ sym (before.named s) in
        sym (after.places s (subst (λ (x : Plan). s < switch_count x.k) (sym plan) within))
        ∙ ap (λ (i : SwitchId). place_of n.told i) id ∙ ap (λ (t : Told). place_of t (m.view s).id) told ∙ before.places s within;
  }

-- a step changes what the manager was told, or what switches know; a restart nothing at switches
one_of_both : (f g : ControlPlane) → PlaneStep Loose whole_rule f g → (g.manager ≡ f.manager) ⊎ ((s : ℕ) → g.view s ≡ f.view s)
one_of_both f g (Left left) = inl left.manager
one_of_both f g (Ticked s turns) = inl turns.acted.manager
one_of_both f g (Heard t q s port frame mid adjacent control taken turns) = inl (turns.acted.manager ∙ taken.left.manager)
one_of_both f g (Carried t q s port frame mid adjacent control carries taken turns) = inl (turns.acted.manager ∙ taken.left.manager)
one_of_both f g (Entered s port frame edge within free control turns) = inl turns.acted.manager
one_of_both f g (Ordered s says mid taken turns) = inl (turns.acted.manager ∙ taken.left.manager)
one_of_both f g (Managed s id told mid there named taken turns) = inr (λ t. turns.view t ∙ taken.left.view t)

pub one_of_both_on : (f g : ControlPlane) → OnPlane Loose whole_rule f g → (g.manager ≡ f.manager) ⊎ ((s : ℕ) → g.view s ≡ f.view s)
one_of_both_on f g (Steps step) = one_of_both f g step.0
one_of_both_on f g (BeginsAnew anew) = inr anew.alike.view
