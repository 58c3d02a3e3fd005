-- The manager begins anew, and addresses stay in order: nothing is due, ordered or known, and each switch has to hear of it.
use Rattle.std.proofs.Common.{◌≡◌, ℕ, ◌+◌, not, true, List, [], ◌∷◌, Option, Some, slice_get, refl, sym, ap, subst, arith, ne_eqb}
use Rattle.std.specs.List.{IsDistinct}
use Rattle.std.proofs.lemmas.Bool.{false≢true}
use Rattle.std.proofs.lemmas.Option.{none-some, slice_get_within}
use Rattle.pl_frame.specs.declared.address.Ip4.{Ip4}
use Rattle.pl_frame.specs.declared.address.Mac.{Mac}
use Rattle.pl_frame.specs.declared.address.SwitchId.{SwitchId}
use Rattle.pl_layouts.specs.Equality.{same_pmac}
use Rattle.pl_wiring.specs.Plan.{IsPlan}
use Rattle.pl_node.specs.declared.messages.ToSwitch.{ToSwitch}
use Rattle.pl_node.specs.declared.messages.ToSwitch.TheVariants as say
use Rattle.pl_node.specs.ManagerViews.{ManagerView, restarted_manager}
use Rattle.pl_law_control_plane.specs.ControlPlanes.{ControlPlane}
use Rattle.pl_law_control_plane.specs.Restarts.{Restarts}
use Rattle.pl_law_addresses.specs.EdgeAddresses.{Edge, edge_of}
use Rattle.pl_law_epochs.specs.Addressed.{AreAddressed, AreInOrder}
use Rattle.pl_law_epochs.specs.Edges.{IsGoodEdge, IsGoodRegistry, is_later, registry_of, tenure_at}
use Rattle.pl_law_epochs.specs.Situations.{IsIn}
use Rattle.pl_law_epochs.proofs.Lives.{restarts}
use Rattle.pl_law_epochs.proofs.Stepping.{same_in_order}

-- ---- it knows nothing
pub anew_registry : (own : Mac → Option Ip4) (k epoch : ℕ) → IsGoodRegistry own (registry_of (restarted_manager k epoch))
anew_registry own k epoch = record {
  named = λ x reg is. absurd (none-some reg is);
  counted = λ x reg is. absurd (none-some reg is);
  known_too = λ x reg is. absurd (none-some reg is);
  newest_is = λ mac reg is. absurd (none-some reg is);
  newest_leads = λ mac reg is. absurd (none-some reg is);
  is_newest = λ x reg is none. absurd (none-some reg is);
  leads = λ x reg known c is found to waits. absurd (none-some reg is);
  ips = λ x ip is. absurd (none-some ip is);
}

pub nothing_twice : IsDistinct same_pmac []
unfolding IsDistinct
nothing_twice = tt

module _ (own : Mac → Option Ip4) (f g : ControlPlane) (is : IsPlan f.plan) (anew : Restarts f g) (a : AreAddressed own f) where
  later : is_later (restarted_manager f.plan.k (f.manager.epoch + 1)) ≡ true
  later = ap not (ne_eqb (f.manager.epoch + 1) 0 (λ none. absurd (omega (arith, none))))

  abbrev waits : ℕ → List ToSwitch
  waits t = say.Hello (f.manager.epoch + 1) ∷ []

  anew_edge : (t : ℕ) (i : SwitchId) → slice_get f.plan.ids t ≡ Some i →
      IsGoodEdge own (registry_of (restarted_manager f.plan.k (f.manager.epoch + 1))) (edge_of (Some i) (f.view t) [] (waits t))
  anew_edge t i at =
      let good = a.edges t i at in
      let e : Edge = edge_of (Some i) (f.view t) (f.reports t) (f.orders t) in
      let n = registry_of (restarted_manager f.plan.k (f.manager.epoch + 1)) in
      record {
        placed = good.placed;
        grants = λ x g found. let it = good.grants x g found in record {
          own_ip = it.own_ip;
          told_ip = λ loud. absurd (false≢true (sym loud));
          trap_ip = it.trap_ip;
        };
        situations = λ x here.
            subst (λ b. IsIn b (tenure_at n (edge_of (Some i) (f.view t) [] (waits t)) x)) (sym later)
            (restarts (is_later f.manager) (tenure_at (registry_of f.manager) e x) (good.situations x here) []);
        words = tt;
        orders = (tt, tt);
        unheard = λ silent. later;
        tellers = λ x known found here. absurd (none-some known found);
        here = λ x reg found here. absurd (none-some reg found);
      }

  pub restart_in_order : AreAddressed own g
  restart_in_order =
      let n : ManagerView = restarted_manager f.plan.k (f.manager.epoch + 1) in
      let there : AreInOrder own f.plan f.view (λ t. []) g.orders n = record {
        registry = anew_registry own f.plan.k (f.manager.epoch + 1);
        edges = λ t i at.
            let less = slice_get_within f.plan.ids t i at in
            let many = is.ids_many in
            subst (λ o. IsGoodEdge own (registry_of n) (edge_of (Some i) (f.view t) [] o)) (sym (anew.orders t (omega (arith, less, many)))) (anew_edge t i at);
        tables = a.tables;
        homed = λ x known found. absurd (none-some known found);
        once = nothing_twice;
        alone = λ mac. tt;
      } in
      same_in_order own f.plan g.plan f.view g.view (λ t. []) g.reports g.orders g.orders n g.manager anew.alike.plan anew.alike.view anew.reports (λ t. refl) anew.manager there
