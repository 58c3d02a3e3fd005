-- What is used of a world at a sure moment, and what follows of the hosts that are registered there.
use Rattle.std.proofs.Common.{◌≡◌, ℕ, ◌<◌, ◌&&◌, not, true, false, length, Some, slice_get, sym, ap, ◌∙◌, subst}
use Rattle.std.proofs.lemmas.Bool.{and_left, and_right}
use Rattle.std.proofs.lemmas.Option.{get_or_from_slice_get, slice_get-get_or, slice_get_within}
use Rattle.pl_pmac.specs.declared.pmac.Pmac.{Pmac}
use Rattle.pl_layouts.specs.declared.place.Place.{Place}
use Rattle.pl_layouts.specs.Placement.{is_known}
use Rattle.pl_wiring.specs.declared.link.Peer.{Peer}
use Rattle.pl_wiring.specs.declared.link.Peer.TheVariants.{HostPort}
use Rattle.pl_wiring.specs.Index.{port_index}
use Rattle.pl_wiring.specs.Labels.{switch_count}
use Rattle.pl_wiring.specs.LiveLinks.{is_live_at}
use Rattle.pl_wiring.specs.Peers.{peer_of}
use Rattle.pl_wiring.specs.Plan.{Plan}
use Rattle.pl_wiring.proofs.Exports.{port_index-below}
use Rattle.pl_journal.specs.Places.{is_host_port}
use Rattle.pl_node.specs.SwitchViews.{SwitchView}
use Rattle.pl_switch_rule.specs.Granting.{is_local}
use Rattle.pl_switch_rule.proofs.Exports.{granted_parts}
use Rattle.pl_world.specs.Changes.{is_failed_at}
use Rattle.pl_world.specs.Flying.{IsCounted}
use Rattle.pl_world.specs.Worlds.{WorldView}
use Rattle.pl_world.proofs.Exports.{all_found}
use Rattle.pl_law_control_plane.specs.ControlPlanes.{control_plane, no_switch}
use Rattle.pl_law_control_plane.specs.HostsAtEdges.{HostsAtEdges, IsAtEdge}
use Rattle.pl_law_addresses.specs.Addressed.{IsGrounded}
use Rattle.pl_law_addresses.specs.OwnFrames.{HostsAreOwn}
use Rattle.pl_law_arrival.specs.Orderly.{AreApart}
use Rattle.pl_law_addresses.specs.Registered.{IsRegisteredBy}
use Rattle.pl_law_arrival.specs.Ways.{Alike, LeadsBy, fabric_of}
use Rattle.pl_law_arrival.proofs.Avoiding.{IsHome, home_of}
use Rattle.pl_law_arrival.proofs.Calm.{Calm, Net}

abbrev pub net : WorldView → Net
net w = record { plan = w.plan; links = w.links; view = (control_plane w).view; told = w.manager.told }

pub record Ready (w : WorldView) : Type 0 where
  pub calm : Calm (net w)
  pub counted : IsCounted w
  pub hosts : HostsAtEdges w
  pub grounded : IsGrounded w
  pub own : HostsAreOwn w
  pub apart : AreApart w.attachments

module _ (w : WorldView) (r : Ready w) where
  pub view_is : (s : ℕ) (v : SwitchView) → slice_get w.switches s ≡ Some v → (control_plane w).view s ≡ v
  view_is s v found = get_or_from_slice_get w.switches s v no_switch found

  pub is_there : (s : ℕ) (v : SwitchView) → slice_get w.switches s ≡ Some v → s < switch_count w.plan.k
  is_there s v found = subst (λ n. s < n) r.counted.formed.switches (slice_get_within w.switches s v found)

  pub there_is : (s : ℕ) → s < switch_count w.plan.k → slice_get w.switches s ≡ Some ((control_plane w).view s)
  there_is s within = slice_get-get_or w.switches s no_switch (subst (λ n. s < n) (sym r.counted.formed.switches) within)

  pub index_within : (s p : ℕ) → s < switch_count w.plan.k → p < w.plan.k → port_index w.plan.k s p < length w.out
  index_within s p there within = subst (λ n. port_index w.plan.k s p < n) (sym r.counted.formed.out) (port_index-below w.plan.k s p (switch_count w.plan.k) there within)

  pub live_port : (s p u : ℕ) → LeadsBy (fabric_of w) s p u → is_failed_at w s p ≡ false
  live_port s p u l = and_right (not (is_host_port (peer_of w.plan s p))) (not (is_live_at w.links s p)) (ap not l.live)

  pub free_port : (s p : ℕ) → peer_of w.plan s p ≡ HostPort → is_failed_at w s p ≡ false
  free_port s p free = and_left (not (is_host_port (peer_of w.plan s p))) (not (is_live_at w.links s p)) (ap (λ (peer : Peer). not (is_host_port peer)) free)

  module _ (h : ℕ) (x : Pmac) (reg : IsRegisteredBy w h x) where
    pub at_edge : IsAtEdge w.plan reg.attachment
    at_edge = all_found (IsAtEdge w.plan) w.attachments h reg.attachment reg.attachments r.hosts

    pub edge_within : reg.attachment.edge.0 < switch_count w.plan.k
    edge_within = is_there reg.attachment.edge.0 reg.edge reg.there

    pub local_there : is_local reg.edge x ≡ true
    local_there = (granted_parts reg.edge x reg.grant reg.found).0

    pub edge_is : (control_plane w).view reg.attachment.edge.0 ≡ reg.edge
    edge_is = view_is reg.attachment.edge.0 reg.edge reg.there

    pub home : IsHome (net w) x reg.attachment.edge.0
    home = home_of (net w) x reg.attachment.edge.0 edge_within (subst (λ (v : SwitchView). is_local v x ≡ true) (sym edge_is) local_there)

    -- no other edge switch has that place
    pub one_edge : (s : ℕ) (v : SwitchView) → slice_get w.switches s ≡ Some v → is_local v x ≡ true → s ≡ reg.attachment.edge.0
    one_edge s v found local = r.grounded.apart s reg.attachment.edge.0 v reg.edge x found reg.there local local_there

-- what is of a place stays so
pub same_local : (v u : SwitchView) (x : Pmac) → u.place ≡ v.place → is_local v x ≡ true → is_local u x ≡ true
same_local v u x same local = ap (λ (p : Place). is_known p.level 0 && (is_known p.pod x.pod && is_known p.position x.position)) same ∙ local

-- a host that is registered by one address at two moments stands at one edge switch
pub stays_at_edge : (old new : WorldView) → Ready old → Ready new → Alike (fabric_of old) (fabric_of new) → (h : ℕ) (x : Pmac) (before : IsRegisteredBy old h x) (after : IsRegisteredBy new h x) →
    before.attachment.edge.0 ≡ after.attachment.edge.0
stays_at_edge old new r ahead alike h x before after =
    let t = before.attachment.edge.0 in
    let within = edge_within old r h x before in
    let local = subst (λ (v : SwitchView). is_local v x ≡ true) (sym (edge_is old r h x before)) (local_there old r h x before) in
    let now = same_local ((control_plane old).view t) ((control_plane new).view t) x (alike.place t within) local in
    one_edge new ahead h x after t ((control_plane new).view t) (there_is new ahead t (subst (λ (p : Plan). t < switch_count p.k) (sym alike.plan) within)) now
