-- What is kept in every run, as hosts want it.
use Rattle.std.proofs.Common.{◌≡◌, ◌<◌, ◌+◌, ◌*◌, ◌==◌, ◌||◌, ℕ, Bool, true, false, length, Option, Some, None, is_none, slice_get, refl, sym, ap, subst, ◌∙◌}
use Rattle.std.specs.List.{AllByRecursion}
use Rattle.std.proofs.lemmas.Option.{get_or_from_slice_get}
use Rattle.pl_lemmas.proofs.Exports.{all_found}
use Rattle.pl_wiring.specs.declared.label.Label.{Label}
use Rattle.pl_wiring.specs.declared.link.Peer.TheVariants.{HostPort}
use Rattle.pl_wiring.specs.Labels.{edge_count, label_of, switch_count}
use Rattle.pl_wiring.specs.Peers.{peer_of}
use Rattle.pl_wiring.specs.Plan.{IsPlan}
use Rattle.pl_wiring.proofs.Exports.{label_of-edge}
use Rattle.pl_layouts.specs.declared.place.Place.{Place}
use Rattle.pl_layouts.specs.Placement.{is_known}
use Rattle.pl_node.specs.declared.neighbour.Neighbour.{Neighbour}
use Rattle.pl_node.specs.declared.neighbour.PortRecord.{PortRecord}
use Rattle.pl_node.specs.Accounting.{IsShaped}
use Rattle.pl_node.specs.HostDuties.{HoldsData}
use Rattle.pl_node.specs.PortRecords.{is_open_to_hosts, port_of}
use Rattle.pl_node.specs.SwitchViews.{SwitchView}
use Rattle.pl_world.specs.declared.attachment.AttachmentPoint.{AttachmentPoint}
use Rattle.pl_world.specs.Flying.{IsDataItem, IsItem}
use Rattle.pl_world.specs.Worlds.{WorldView}
use Rattle.pl_law_control_plane.specs.ControlPlanes.{control_plane, no_switch}
use Rattle.pl_law_control_plane.specs.HostsAtEdges.{IsAtEdge}
use Rattle.pl_law_places.specs.Known.{IsPlaceOfLabel}
use Rattle.pl_law_addresses.specs.Addressed.{KnowNeighbours}
use Rattle.pl_law_addresses.specs.OwnFrames.{HostsAreOwn}
use Rattle.pl_law_epochs.proofs.Exports.{world_tables}
use Rattle.pl_law_invariant.specs.ControlInvariant.{ControlInvariant}
use Rattle.pl_law_invariant.proofs.Exports.{grounded}
use Rattle.pl_switch_rule.specs.Granting.{freed_at, grants_at}
use Rattle.pl_law_registration.proofs.FirstUses.{free_given}
use Rattle.pl_law_registration.proofs.RowsAttendHosts.{IsReady}
use Rattle.pl_law_registration.proofs.Sources.{IsLow}
use Rattle.pl_journal.specs.Flights.{label_level}

-- a host port of an edge switch takes in hosts
pub record IsHome (v : SwitchView) (port : ℕ) : Type 0 where
  pub ready : IsReady v port
  pub takes : is_open_to_hosts (port_of v port) ≡ true

pub record Facts (w : WorldView) : Type 0 where
  pub plan : IsPlan w.plan
  pub many_out : length w.out ≡ switch_count w.plan.k * w.plan.k
  pub many_from : length w.from_hosts ≡ length w.hosts
  pub many_hosts : length w.hosts ≡ length w.plan.hosts
  pub many_attachments : length w.attachments ≡ length w.plan.hosts
  pub at_edges : (h : ℕ) (attachment : AttachmentPoint) → slice_get w.attachments h ≡ Some attachment → IsAtEdge w.plan attachment
  pub homes : (s port : ℕ) (v : SwitchView) → s < edge_count w.plan.k → port < w.plan.k → peer_of w.plan s port ≡ HostPort → slice_get w.switches s ≡ Some v → IsHome v port
  pub own : HostsAreOwn w
  pub neighbours : KnowNeighbours w
  pub holding : AllByRecursion HoldsData w.hosts
  pub host_items : AllByRecursion (AllByRecursion IsDataItem) w.from_hosts
  pub port_items : AllByRecursion (AllByRecursion IsItem) w.out

not_level : (k s n : ℕ) (place : Place) → s < edge_count k → IsPlaceOfLabel k (label_of k s) place → (0 == n) ≡ false → is_known place.level n ≡ false
not_level k s n place edge own other = by place.level refl
  where
    by : (o : Option ℕ) → place.level ≡ o → is_known o n ≡ false
    by None is = refl
    by (Some m) is =
        let zero_is : m ≡ 0 = own.level m is ∙ ap (λ (l : Label). label_level l) (label_of-edge k s edge) in
        ap (λ x. x == n) zero_is ∙ other

takes_hosts : (r : PortRecord) → r.heard ≡ None → is_open_to_hosts r ≡ true
takes_hosts r none = ap (λ (o : Option Neighbour). r.host || is_none o) none ∙ always r.host
  where
    always : (b : Bool) → (b || true) ≡ true
    always true = refl
    always false = refl

pub facts_of : (w : WorldView) → ControlInvariant w → Facts (record w { steps = w.steps + 1 })
facts_of w kept =
    let formed = kept.counted.formed in
    record {
      plan = formed.plan;
      many_out = formed.out;
      many_from = formed.from_hosts ∙ sym formed.hosts;
      many_hosts = formed.hosts;
      many_attachments = formed.attachments;
      at_edges = λ h attachment is. all_found (IsAtEdge w.plan) w.attachments h attachment kept.hosts is;
      homes = λ s port v edge within free found.
          let here : (control_plane w).view s ≡ v = get_or_from_slice_get w.switches s v no_switch found in
          let own : IsPlaceOfLabel w.plan.k (label_of w.plan.k s) v.place = subst (λ (u : SwitchView). IsPlaceOfLabel w.plan.k (label_of w.plan.k s) u.place) here (kept.placed.own s) in
          let shaped : IsShaped v = all_found IsShaped w.switches s v kept.counted.shaped found in
          let size : v.k ≡ w.plan.k = all_found (λ (u : SwitchView). u.k ≡ w.plan.k) w.switches s v formed.ports found in
          let low : IsLow v.place = record { middle = not_level w.plan.k s 1 v.place edge own refl; top = not_level w.plan.k s 2 v.place edge own refl } in
          record {
            ready = record {
              low = low;
              has = record { grants = subst (λ n. port < n) (sym (shaped.grants ∙ size)) within; remembered = subst (λ n. port < n) (sym (shaped.remembered ∙ size)) within; free = free_given (grants_at v port) (freed_at v port) ((world_tables w kept.counted kept.addresses s v found).free port) };
              within = subst (λ n. port < n) (sym size) within;
            };
            takes = takes_hosts (port_of v port) (ap (λ (u : SwitchView). (port_of u port).heard) (sym here) ∙ kept.placed.strangers s port free);
          };
      own = kept.own;
      neighbours = (grounded w kept.counted kept.placed kept.voting kept.numbered).neighbours;
      holding = kept.counted.holding;
      host_items = kept.counted.in_host_queues;
      port_items = kept.counted.in_port_queues;
    }
