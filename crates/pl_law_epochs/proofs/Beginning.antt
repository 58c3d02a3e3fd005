-- At the beginning addresses are in order: none is granted, and nothing is known or due.
use Rattle.std.proofs.Common.{◌≡◌, ℕ, ◌==◌, ◌-◌, Bool, true, false, if◌then◌else◌, get_or, List, [], replicate, Option, Some, None, slice_get, refl, sym, subst, ◌∙◌}
use Rattle.std.proofs.lemmas.Option.{none-some}
use Rattle.std.proofs.lemmas.List.{length-replicate}
use Rattle.pl_lemmas.proofs.Exports.{replicated}
use Rattle.pl_frame.specs.declared.address.Ip4.{Ip4}
use Rattle.pl_frame.specs.declared.address.Mac.{Mac}
use Rattle.pl_frame.specs.declared.address.SwitchId.{SwitchId}
use Rattle.pl_wiring.specs.Labels.{switch_count}
use Rattle.pl_wiring.specs.Plan.{Plan}
use Rattle.pl_node.specs.declared.messages.ToManager.{ToManager}
use Rattle.pl_node.specs.declared.messages.ToSwitch.{ToSwitch}
use Rattle.pl_node.specs.declared.switch_records.Grant.{Grant}
use Rattle.pl_node.specs.ManagerViews.{booted_manager}
use Rattle.pl_node.specs.SwitchFacts.{switch_at_boot}
use Rattle.pl_node.specs.SwitchViews.{SwitchView}
use Rattle.pl_world.specs.declared.limits.Limits.{Limits}
use Rattle.pl_world.specs.Booting.{booted}
use Rattle.pl_law_control_plane.specs.ControlPlanes.{ControlPlane, control_plane}
use Rattle.pl_law_control_plane.proofs.Exports.{booted_view}
use Rattle.pl_law_due.specs.Due.{due_plane}
use Rattle.pl_law_due.proofs.Exports.{nothing_due}
use Rattle.pl_law_addresses.specs.EdgeAddresses.{IsGoodAddressTable, edge_of}
use Rattle.pl_law_addresses.specs.FreeVmids.{AreFreeVmids, is_free}
use Rattle.pl_law_epochs.specs.Addressed.{AreAddressed}
use Rattle.pl_law_epochs.specs.Edges.{IsGoodEdge, registry_of}
use Rattle.pl_law_epochs.specs.Situations.Situation.{Gone}
use Rattle.pl_law_epochs.proofs.Restarting.{anew_registry, nothing_twice}
use Rattle.std.proofs.lemmas.Bool.{false≢true}

none_free : AreFreeVmids [] []
none_free = record { listed = λ vmid. sym (no_grant (vmid == 0) vmid); once = tt }
  where
    no_grant : (b : Bool) (vmid : ℕ) → is_free (if b then None else slice_get [] (vmid - 1)) ≡ false
    no_grant true vmid = refl
    no_grant false vmid = refl

table_at_first : (own : Mac → Option Ip4) (id : SwitchId) (k : ℕ) → IsGoodAddressTable own (switch_at_boot id k)
table_at_first own id k = record {
  many = length-replicate k [];
  many_freed = length-replicate k [];
  empty = λ unsettled port. replicated k port [];
  free = λ port.
      subst (λ (fs : List ℕ). AreFreeVmids (get_or (replicate k []) port []) fs) (sym (replicated k port []))
      (subst (λ (gs : List Grant). AreFreeVmids gs []) (sym (replicated k port [])) none_free);
  sources = λ port source is. absurd (none-some source (sym (replicated k port None) ∙ is));
}

edge_at_first : (own : Mac → Option Ip4) (ports : ℕ) (name : SwitchId) (id : SwitchId) (k : ℕ) → IsGoodEdge own (registry_of (booted_manager ports)) (edge_of (Some name) (switch_at_boot id k) [] [])
edge_at_first own ports name id k = record {
  placed = λ x g is. absurd (none-some g is);
  grants = λ x g is. absurd (none-some g is);
  situations = λ x at. (Gone, refl);
  words = tt;
  orders = tt;
  unheard = λ silent. absurd (false≢true silent);
  tellers = λ x known is at. absurd (none-some known is);
  here = λ x reg is at. absurd (none-some reg is);
}

pub first_in_order : (own : Mac → Option Ip4) (plan : Plan) (limits : Limits) → AreAddressed own (due_plane (control_plane (booted plan limits)))
first_in_order own plan limits =
    let f : ControlPlane = control_plane (booted plan limits) in
    let none_told : (s : ℕ) → f.reports s ≡ [] = λ s. replicated (switch_count plan.k) s [] in
    let none_ordered : (s : ℕ) → f.orders s ≡ [] = λ s. replicated (switch_count plan.k) s [] in
    record {
      registry = anew_registry own plan.k 0;
      edges = λ s id named.
          subst (λ (d : List ToManager). IsGoodEdge own (registry_of (booted_manager plan.k)) (edge_of (Some id) (f.view s) d (f.orders s))) (sym (nothing_due f refl s (none_told s)))
          (subst (λ (o : List ToSwitch). IsGoodEdge own (registry_of (booted_manager plan.k)) (edge_of (Some id) (f.view s) [] o)) (sym (none_ordered s))
          (booted_view (λ (v : SwitchView). IsGoodEdge own (registry_of (booted_manager plan.k)) (edge_of (Some id) v [] [])) (edge_at_first own plan.k id) plan.k plan.ids s));
      tables = λ s id named. booted_view (IsGoodAddressTable own) (table_at_first own) plan.k plan.ids s;
      homed = λ x known is. absurd (none-some known is);
      once = nothing_twice;
      alone = λ mac. tt;
    }
