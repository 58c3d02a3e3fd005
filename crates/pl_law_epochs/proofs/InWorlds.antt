-- In each step of a world data frames come in fairly: so the addresses of its switches stay in order.
use Rattle.std.proofs.Common.{◌≡◌, ◌<◌, ℕ, zero, suc, true, false, get_or, Contains, List, [], ◌∷◌, length, Option, Some, None, slice_get, refl, sym, subst, ◌∙◌}
use Rattle.std.specs.List.{AllByRecursion}
use Rattle.std.proofs.lemmas.Bool.{false≢true}
use Rattle.std.proofs.lemmas.List.Elements.{Contains-append_left, Contains-push}
use Rattle.std.proofs.lemmas.Option.{get_or_from_slice_get, slice_get_within}
use Rattle.pl_frame.specs.declared.address.Ip4.{Ip4}
use Rattle.pl_frame.specs.declared.address.Mac.{Mac}
use Rattle.pl_pmac.specs.declared.pmac.Pmac.{Pmac}
use Rattle.pl_wiring.specs.Peers.{IsPort}
use Rattle.pl_wiring.specs.Plan.{IsPlan, Plan}
use Rattle.pl_node.specs.HostInputs.{HostRule}
use Rattle.pl_node.specs.PortRecords.{is_open_to_hosts, port_of}
use Rattle.pl_node.specs.SwitchViews.{SwitchView}
use Rattle.pl_manager_rule.specs.WholeRule.{whole_rule}
use Rattle.pl_switch_rule.specs.Granting.{is_local}
use Rattle.pl_switch_rule.specs.SwitchRule.{Loose}
use Rattle.pl_switch_rule.proofs.Exports.{loose_steps_are_accounted}
use Rattle.pl_world.specs.declared.event.Event.{Event}
use Rattle.pl_world.specs.declared.item.Item.{Item}
use Rattle.pl_world.specs.declared.item.Item.TheVariants.{Data}
use Rattle.pl_world.specs.declared.limits.Limits.{Limits}
use Rattle.pl_world.specs.Booting.{booted, me_of}
use Rattle.pl_world.specs.Flying.{IsCounted}
use Rattle.pl_world.specs.Refusals.{refusal}
use Rattle.pl_world.specs.WorldRule.{WorldStep}
use Rattle.pl_world.specs.Worlds.{WorldView}
use Rattle.pl_world.proofs.Exports.{peer_is_port}
use Rattle.pl_law_control_plane.specs.ControlPlanes.{ControlPlane, control_plane, no_switch}
use Rattle.pl_law_control_plane.specs.HostsAtEdges.{HostsAtEdges}
use Rattle.pl_law_control_plane.specs.Incoming.{ComeInSo}
use Rattle.pl_law_control_plane.specs.Restarts.{ComeSoOn, OnPlane}
use Rattle.pl_law_control_plane.specs.Restarts.OnPlane.{BeginsAnew, Steps}
use Rattle.pl_law_control_plane.proofs.Exports.{frames_come_so, plan_same, step_on_plane}
use Rattle.pl_law_due.specs.Gathering.{GathersWell, IsSized}
use Rattle.pl_law_due.proofs.Exports.{restarts_here}
use Rattle.pl_law_addresses.specs.Addressed.{AreApart as SwitchesAreApart, IsGrounded}
use Rattle.pl_law_addresses.specs.EdgeAddresses.{IsGoodAddressTable}
use Rattle.pl_law_addresses.specs.OwnAddresses.{own_ip}
use Rattle.pl_law_addresses.specs.OwnFrames.{HostsAreOwn, IsOwnItem}
use Rattle.pl_law_addresses.proofs.Exports.{exists_at, filled_within, own_frame}
use Rattle.pl_law_epochs.specs.Addressed.{AreApart, BringsOwn, ComesFromSwitch}
use Rattle.pl_law_epochs.specs.InOrder.{AddressesAreInOrder, IsAddressed}
use Rattle.pl_law_epochs.proofs.InPlanes.{plane_first_in_order, plane_in_order, plane_restart_in_order, plane_stood}
use Rattle.pl_law_epochs.proofs.TrapsStood.{TrapsStood, same_stood}

-- ---- where a switch is not there, nothing is its own
local_found : (switches : List SwitchView) (s : ℕ) (x : Pmac) → is_local (get_or switches s no_switch) x ≡ true → (v : SwitchView) × ((slice_get switches s ≡ Some v) × (is_local v x ≡ true))
local_found [] s x local = absurd (false≢true local)
local_found (v ∷ switches) zero x local = (v, (refl, local))
local_found (v ∷ switches) (suc s) x local = local_found switches s x local

apart_views : (switches : List SwitchView) → SwitchesAreApart switches → AreApart (λ s. get_or switches s no_switch)
apart_views switches apart s t x here there =
    let a = local_found switches s x here in
    let b = local_found switches t x there in
    apart s t a.0 b.0 x a.1.0 b.1.0 a.1.1 b.1.1

-- ---- what comes next
open_switch : (switches : List SwitchView) (t q : ℕ) → ((v : SwitchView) → slice_get switches t ≡ Some v → is_open_to_hosts (port_of v q) ≡ false) →
    (within : t < length switches) → is_open_to_hosts (port_of (get_or switches t no_switch) q) ≡ false
open_switch switches t q all within =
    let it = exists_at switches t within in
    subst (λ (v : SwitchView). is_open_to_hosts (port_of v q) ≡ false) (sym (get_or_from_slice_get switches t it.0 no_switch it.1)) (all it.0 it.1)

come_fairly : (w : WorldView) → IsCounted w → IsGrounded w → HostsAreOwn w →
    ComeInSo (λ v port frame. BringsOwn (λ mac. own_ip w.plan mac) v port frame) (λ v port frame. ComesFromSwitch v port frame) w
come_fairly w is grounded own = record {
  hosts = λ h attachment id frame items head at.
      let within : h < length w.from_hosts = filled_within w.from_hosts h (Data id frame) items head in
      let view = exists_at w.hosts h (subst (λ n. h < n) (is.formed.from_hosts ∙ sym is.formed.hosts) within) in
      let host = exists_at w.plan.hosts h (subst (λ n. h < n) is.formed.from_hosts within) in
      let those = own h host.0 view.0 host.1 view.1 in
      own_frame w.plan is.formed.plan h host.0 host.1 frame (subst (λ (xs : List Item). AllByRecursion (IsOwnItem (me_of host.0)) xs) head those.sends).0;
  links = λ s port t q id frame items peer head.
      open_switch w.switches t.0 q (λ v found.
      grounded.neighbours s port t q id frame v peer
      (subst (λ (xs : List Item). Contains xs (Data id frame)) (sym head) (Contains-append_left (Data id frame ∷ []) items (Data id frame) (Contains-push [] (Data id frame)))) found)
      (subst (λ n. t.0 < n) (sym is.formed.switches) (subst (IsPort w.plan.k) peer (peer_is_port w.plan s port is.formed.plan)).0);
}

-- by a step of the control plane in which data frames come in fairly, or a restart
on_plane_in_order : (own : Mac → Option Ip4) (f g : ControlPlane) → IsPlan f.plan → IsSized f → GathersWell f → AreApart f.view → AreApart g.view →
    (step : OnPlane Loose whole_rule f g) →
    ComeSoOn (λ v port frame. BringsOwn own v port frame) (λ v port frame. ComesFromSwitch v port frame) Loose whole_rule f g step →
    AddressesAreInOrder own f → AddressesAreInOrder own g
on_plane_in_order own f g is size well apart apart_then (Steps step) fair a = plane_in_order own f g is well apart apart_then step fair a
on_plane_in_order own f g is size well apart apart_then (BeginsAnew anew) fair a = plane_restart_in_order own f g is (restarts_here f g size anew) a

pub world_in_order : (rule : HostRule) (old : WorldView) (event : Event) (new : WorldView) → IsCounted old → HostsAtEdges old → HostsAreOwn old →
    IsGrounded old → SwitchesAreApart new.switches → refusal old event ≡ None → IsSized (control_plane old) → GathersWell (control_plane old) → IsAddressed old →
    WorldStep Loose whole_rule rule old event new → IsAddressed new
world_in_order rule old event new is attachments own grounded apart_then none size well a step =
    let taken = step_on_plane Loose whole_rule rule loose_steps_are_accounted old event new is attachments none step in
    let fair =
    frames_come_so Loose whole_rule rule loose_steps_are_accounted (λ v port frame. BringsOwn (λ mac. own_ip old.plan mac) v port frame)
    (λ v port frame. ComesFromSwitch v port frame) old event new is attachments none step (come_fairly old is grounded own) in
    subst (λ (p : Plan). AddressesAreInOrder (λ mac. own_ip p mac) (control_plane new))
    (sym (plan_same Loose whole_rule (control_plane old) (control_plane new) taken))
    (on_plane_in_order (λ mac. own_ip old.plan mac) (control_plane old) (control_plane new) is.formed.plan size well
    (apart_views old.switches grounded.apart) (apart_views new.switches apart_then) taken fair a)

-- ---- traps that stand
on_plane_stood : (own : Mac → Option Ip4) (f g : ControlPlane) → IsPlan f.plan → GathersWell f → AreApart f.view → AreApart g.view →
    (step : OnPlane Loose whole_rule f g) → ComeSoOn (λ v port frame. BringsOwn own v port frame) (λ v port frame. ComesFromSwitch v port frame) Loose whole_rule f g step →
    AddressesAreInOrder own f → TrapsStood f.plan f.view f.orders g.view
on_plane_stood own f g is well apart apart_then (Steps step) fair a = plane_stood own f g is well apart apart_then step fair a
on_plane_stood own f g is well apart apart_then (BeginsAnew anew) fair a = same_stood f.plan f.view g.view f.orders anew.alike.view

-- each one stood before, or is set by the order that its switch obeys
pub world_stood : (rule : HostRule) (old : WorldView) (event : Event) (new : WorldView) → IsCounted old → HostsAtEdges old → HostsAreOwn old → IsGrounded old →
    SwitchesAreApart new.switches → refusal old event ≡ None → GathersWell (control_plane old) → IsAddressed old → WorldStep Loose whole_rule rule old event new →
    TrapsStood old.plan (control_plane old).view (control_plane old).orders (control_plane new).view
world_stood rule old event new is attachments own grounded apart_then none well a step =
    let taken = step_on_plane Loose whole_rule rule loose_steps_are_accounted old event new is attachments none step in
    let fair = frames_come_so Loose whole_rule rule loose_steps_are_accounted (λ v port frame. BringsOwn (λ mac. own_ip old.plan mac) v port frame) (λ v port frame. ComesFromSwitch v port frame) old event new is attachments none step
    (come_fairly old is grounded own) in
    on_plane_stood (λ mac. own_ip old.plan mac) (control_plane old) (control_plane new) is.formed.plan well (apart_views old.switches grounded.apart) (apart_views new.switches apart_then) taken fair a

-- ---- the lists of its switches
pub world_tables : (w : WorldView) → IsCounted w → IsAddressed w → (s : ℕ) (v : SwitchView) → slice_get w.switches s ≡ Some v →
    IsGoodAddressTable (λ mac. own_ip w.plan mac) v
world_tables w is a s v found =
    let named = exists_at w.plan.ids s (subst (λ n. s < n) (is.formed.switches ∙ sym is.formed.plan.ids_many) (slice_get_within w.switches s v found)) in
    subst (λ (u : SwitchView). IsGoodAddressTable (λ mac. own_ip w.plan mac) u) (get_or_from_slice_get w.switches s v no_switch found)
    (a.addressed.tables s named.0 named.1)

-- ---- at the beginning
pub world_first_in_order : (plan : Plan) (limits : Limits) → IsAddressed (booted plan limits)
world_first_in_order plan limits = plane_first_in_order (λ mac. own_ip plan mac) plan limits
