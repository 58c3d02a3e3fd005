-- At rest a host that is heard is registered where it stands.
use Rattle.std.proofs.Common.{◌≡◌, ◌<◌, ℕ, zero, suc, nat_lt, Bool, true, List, [], ◌∷◌, length, Option, Some, None, is_some, refl, sym, ap, subst, ◌∙◌, inl, inr, arith}
use Rattle.std.specs.List.{AllByRecursion, list_any}
use Rattle.std.proofs.lemmas.Bool.{and_from, cases_Bool, false≢true}
use Rattle.std.proofs.lemmas.Bool.Decides.{Decides-ltb}
use Rattle.std.proofs.lemmas.Option.{slice_get_within}
use Rattle.pl_arp.specs.declared.cache.Me.{Me}
use Rattle.pl_wiring.specs.declared.host.Host.{Host}
use Rattle.pl_wiring.specs.Labels.{edge_count, switch_count}
use Rattle.pl_wiring.specs.Plan.{Plan}
use Rattle.pl_layouts.specs.Placement.{is_placed}
use Rattle.pl_node.specs.declared.messages.ToManager.{ToManager}
use Rattle.pl_node.specs.declared.messages.ToSwitch.{ToSwitch}
use Rattle.pl_node.specs.AddressUses.{is_in_use}
use Rattle.pl_node.specs.SwitchViews.{SwitchView}
use Rattle.pl_queues.specs.Queues.{items_at}
use Rattle.pl_queues.proofs.Exports.{no_items}
use Rattle.pl_switch_rule.specs.Granting.{address_at_port, grants_at}
use Rattle.pl_world.specs.declared.event.QueueName.TheVariants as queue
use Rattle.pl_world.specs.declared.item.Item.{Item}
use Rattle.pl_world.specs.declared.attachment.AttachmentPoint.{AttachmentPoint}
use Rattle.pl_world.specs.Booting.{me_of}
use Rattle.pl_world.specs.Changes.{host_no, out_of, switch_no}
use Rattle.pl_world.specs.Refusals.{has_port, has_switch}
use Rattle.pl_world.specs.Worlds.{WorldView}
use Rattle.pl_law_addresses.specs.Registered.{IsRegisteredWithIp, IsServed}
use Rattle.pl_law_addresses.specs.EdgeAddresses.{is_settled}
use Rattle.pl_law_addresses.proofs.Exports.{granted_here, local_here}
use Rattle.pl_law_control_plane.specs.ControlPlanes.{control_plane}
use Rattle.pl_law_due.specs.Due.{is_hello}
use Rattle.pl_law_due.specs.Gathering.{IsNoEnd}
use Rattle.pl_law_due.proofs.Exports.{rest_whole}
use Rattle.pl_law_epochs.proofs.Exports.{served_registered}
use Rattle.pl_node.specs.HostDuties.{HostsSendData, HostsSendOwn}
use Rattle.pl_node.specs.HostInputs.{HostRule}
use Rattle.pl_host_rule.specs.HostRule.{IsHostRule}
use Rattle.pl_gathering.specs.Gathering.{is_whole}
use Rattle.pl_manager_rule.specs.WholeRule.{gathered, whole_rule}
use Rattle.pl_switch_rule.specs.SwitchRule.{Loose}
use Rattle.pl_world.specs.declared.limits.Limits.{Limits}
use Rattle.pl_world.specs.Booting.{CanBegin, booted}
use Rattle.pl_world.specs.Runs.{Moment, WorldRun}
use Rattle.pl_law_invariant.specs.ControlInvariant.{ControlInvariant}
use Rattle.pl_law_invariant.proofs.Exports.{run_keeps_all}
use Rattle.pl_law_registration.specs.BeingRegistered.{AreBeingRegistered, AreRemembered, HostIsAttached, IsHeard, IsKnownAt, NothingWaits, heard_at}
use Rattle.pl_law_registration.specs.Registering.{AreRegistered}
use Rattle.pl_law_registration.specs.Probes.{is_packet, is_probe}
use Rattle.pl_law_registration.proofs.Facts.{facts_of}
use Rattle.pl_law_registration.proofs.KeepingRegistration.{AttendsAll, run_attends}
use Rattle.pl_law_registration.proofs.Sources.{KnowsAt, low_placed}

known_at : (me : Me) (ticks : ℕ) (v : SwitchView) (port : ℕ) → KnowsAt me ticks v port → IsKnownAt ticks v port me
known_at me ticks v port knows = record {
  unplaced = knows.unplaced;
  placed = λ settled room.
      let s = knows.placed settled ((Decides-ltb (length (grants_at v port)) 65535).1 room) in
      let is_served : IsServed v port me = record {
        address = address_at_port v port s.vmid;
        grant = s.grant;
        found = granted_here v (address_at_port v port s.vmid) (local_here v port s.vmid settled) ∙ s.found;
        at_port = refl;
        used = ap is_in_use s.used;
        mac = s.mac;
        ip = s.ip;
      } in
      record { served = is_served; idle = s.idle; counts = s.used; young = s.young };
}

-- it was heard so many ticks ago
heard_ticks : (o : Option ℕ) → is_some o ≡ true → (ticks : ℕ) × (o ≡ Some ticks)
heard_ticks None is = absurd (false≢true is)
heard_ticks (Some ticks) is = (ticks, refl)

pub all_being_registered : (w : WorldView) → AttendsAll w → AreBeingRegistered w
all_being_registered w all h host attachment v ticks at heard = elim ((all.each h).noticed host attachment at.is_host at.attachments v at.switch ticks heard) [
  | inl knows ↦ inl (known_at (me_of host) ticks v attachment.port knows)
  | inr waits ↦ inr waits
]

-- an edge switch that is not placed remembers it
pub all_remembered : (w : WorldView) → AreBeingRegistered w → AreRemembered w
all_remembered w being_registered h host attachment v at reached unsettled =
    let ticks = heard_ticks (heard_at w h) reached in
    elim (being_registered h host attachment v ticks.0 at ticks.1) [
      | inl known ↦ known.unplaced unsettled
      | inr waits ↦ absurd (false≢true (sym unsettled ∙ waits.0))
    ]

none_of : (p : Item → Bool) (xs : List Item) → xs ≡ [] → list_any p xs ≡ true → ⊥
none_of p xs is any = false≢true (ap (λ (ys : List Item). list_any p ys) (sym is) ∙ any)

none_beyond : {T : Type 0} (queues : List (List T)) (s : ℕ) → (s < length queues → ⊥) → items_at queues s ≡ []
none_beyond [] s beyond = refl
none_beyond (q ∷ queues) zero beyond = absurd (beyond (omega arith))
none_beyond (q ∷ queues) (suc s) beyond = none_beyond queues s (λ within. beyond (omega (arith, within)))

-- no report is missing then
whole_now : (w : WorldView) → ControlInvariant w → NothingWaits w → is_whole (gathered w.manager) ≡ true
whole_now w kept nothing =
    let f = control_plane w in
    let many = kept.counted.formed.plan.ids_many in
    rest_whole f kept.counted.formed.plan kept.gathered (λ s. subst (λ (q : List ToManager). AllByRecursion IsNoEnd q) (sym (none_up s)) tt)
    (λ s id named. ap (λ (q : List ToSwitch). list_any is_hello q)
    (no_items (items_at w.from_manager s) (nothing (queue.FromManager (switch_no s)) ((Decides-ltb s (switch_count w.plan.k)).1 (subst (λ n. s < n) many (slice_get_within w.plan.ids s id named))))))
  where
    none_up : (s : ℕ) → items_at w.to_manager s ≡ []
    none_up s = elim (cases_Bool (nat_lt s (switch_count w.plan.k))) [
      | inl there ↦ no_items (items_at w.to_manager s) (nothing (queue.ToManager (switch_no s)) there)
      | inr beyond ↦ none_beyond w.to_manager s (λ within. false≢true (sym beyond ∙ (Decides-ltb s (switch_count w.plan.k)).1 (subst (λ n. s < n) kept.counted.formed.to_manager within)))
    ]

pub registered_at_rest : (w : WorldView) → ControlInvariant w → AreBeingRegistered w → NothingWaits w → (h : ℕ) (host : Host) (attachment : AttachmentPoint) (v : SwitchView) → HostIsAttached w h host attachment v →
    is_placed v.place ≡ true → IsHeard w h → length (grants_at v attachment.port) < 65535 → IsRegisteredWithIp w h
registered_at_rest w kept being_registered nothing h host attachment v at placed reached room =
    let f = facts_of w kept in
    let edge = f.at_edges h attachment at.attachments in
    let home = f.homes attachment.edge.0 attachment.port v edge.edge edge.port edge.free at.switch in
    let settled : is_settled v.place ≡ true = sym (low_placed v.place home.ready.low) ∙ placed in
    let low = edge.edge in
    let there : has_switch w.plan attachment.edge.0 ≡ true = (Decides-ltb attachment.edge.0 (switch_count w.plan.k)).1 (below w.plan.k low) in
    let in_port : has_port w.plan attachment.edge.0 attachment.port ≡ true =
    and_from (has_switch w.plan attachment.edge.0) (nat_lt attachment.port w.plan.k) there ((Decides-ltb attachment.port w.plan.k).1 edge.port) in
    let mine = no_items (items_at w.from_hosts h) (nothing (queue.FromHost (host_no h)) ((Decides-ltb h (length w.plan.hosts)).1 (slice_get_within w.plan.hosts h host at.is_host))) in
    let out = no_items (out_of w attachment.edge.0 attachment.port) (nothing (queue.Port attachment.edge attachment.port) in_port) in
    let up = no_items (items_at w.to_manager attachment.edge.0) (nothing (queue.ToManager attachment.edge) there) in
    let down = no_items (items_at w.from_manager attachment.edge.0) (nothing (queue.FromManager attachment.edge) there) in
    let ticks = heard_ticks (heard_at w h) reached in
    elim (being_registered h host attachment v ticks.0 at ticks.1) [
      | inl known ↦ served_registered w kept.counted kept.addresses h host attachment v at.is_host at.attachments at.switch (whole_now w kept nothing) up down ((known.placed settled room).served)
      | inr waits ↦ elim waits.1 [
        | inl probe ↦ absurd (none_of (is_probe (me_of host)) (out_of w attachment.edge.0 attachment.port) out probe)
        | inr packet ↦ absurd (none_of is_packet (items_at w.from_hosts h) mine packet)
      ]
    ]
  where
    below : (k : ℕ) {s : ℕ} → s < edge_count k → s < switch_count k
    below k less = omega (arith, less)

-- ---- in every run
module _ (rule : HostRule) (lawful : IsHostRule rule) (sends : HostsSendData rule) (owns : HostsSendOwn rule) (plan : Plan) (limits : Limits) (moments : List Moment) (new : WorldView) (can : CanBegin plan)
    (run : WorldRun Loose whole_rule rule (booted plan limits) moments new) where
  attends : AttendsAll new
  attends = run_attends rule (λ view input after acts answer. (lawful view input after acts answer).0) sends owns plan limits can moments new run

  pub run_being_registered : AreBeingRegistered new
  run_being_registered = all_being_registered new attends

  pub run_remembers : AreRemembered new
  run_remembers = all_remembered new run_being_registered

  pub run_registers : NothingWaits new → AreRegistered new
  run_registers nothing = λ h host attachment v at placed reached room.
      registered_at_rest new (run_keeps_all rule sends owns plan limits moments new can run) run_being_registered nothing h host attachment v at placed reached room
