-- Where nothing waits between an edge switch and the manager, and no report is missing, each host that it serves is registered.
use Rattle.std.proofs.Common.{◌≡◌, ◌<◌, ℕ, Bool, true, false, List, [], Option, Some, None, slice_get, refl, sym, ap, subst, ◌∙◌, inl, inr}
use Rattle.std.specs.List.{list_any}
use Rattle.std.proofs.lemmas.Bool.{false≢true}
use Rattle.std.proofs.lemmas.Option.{get_or_from_slice_get, slice_get_within}
use Rattle.pl_frame.specs.declared.address.SwitchId.{SwitchId}
use Rattle.pl_wiring.specs.declared.host.Host.{Host}
use Rattle.pl_node.specs.ManagerViews.{Registration, ip_of, newest, registration}
use Rattle.pl_node.specs.SwitchViews.{SwitchView}
use Rattle.pl_gathering.specs.Gathering.{is_whole}
use Rattle.pl_manager_rule.specs.WholeRule.{gathered}
use Rattle.pl_queues.specs.Queues.{items_at}
use Rattle.pl_switch_rule.specs.Granting.{granted}
use Rattle.pl_world.specs.declared.attachment.AttachmentPoint.{AttachmentPoint}
use Rattle.pl_world.specs.Booting.{me_of}
use Rattle.pl_world.specs.Flying.{IsCounted}
use Rattle.pl_world.specs.Worlds.{WorldView}
use Rattle.pl_law_control_plane.specs.ControlPlanes.{ControlPlane, control_plane, no_switch}
use Rattle.pl_law_due.specs.Due.{due_plane, is_hello, is_silent}
use Rattle.pl_law_due.proofs.Exports.{nothing_due}
use Rattle.pl_law_addresses.specs.EdgeAddresses.{recalls, tells, tells_ip}
use Rattle.pl_law_addresses.specs.OwnAddresses.{own_ip}
use Rattle.pl_law_addresses.specs.Registered.{IsRegisteredWithIp, IsServed}
use Rattle.pl_law_addresses.proofs.Exports.{exists_at}
use Rattle.pl_law_epochs.specs.Edges.{IsGoodGrant, registry_of}
use Rattle.pl_law_epochs.specs.InOrder.{IsAddressed}
use Rattle.pl_law_epochs.proofs.Consequences.{in_use_told, newest_or_recalled}

nothing : {X : Type 0} (p : X → Bool) (xs : List X) → xs ≡ [] → list_any p xs ≡ true → ⊥
nothing p xs is any = false≢true (ap (λ ys. list_any p ys) (sym is) ∙ any)

pub served_registered : (w : WorldView) → IsCounted w → IsAddressed w → (h : ℕ) (host : Host) (attachment : AttachmentPoint) (v : SwitchView) → slice_get w.plan.hosts h ≡ Some host →
    slice_get w.attachments h ≡ Some attachment → slice_get w.switches attachment.edge.0 ≡ Some v → is_whole (gathered w.manager) ≡ true → items_at w.to_manager attachment.edge.0 ≡ [] →
    items_at w.from_manager attachment.edge.0 ≡ [] → IsServed v attachment.port (me_of host) → IsRegisteredWithIp w h
served_registered w counted a h host attachment v is attachments at whole up down served = by (registration w.manager.learnt served.address) refl
  where
    f : ControlPlane
    f = due_plane (control_plane w)

    s : ℕ
    s = attachment.edge.0

    due : f.reports s ≡ []
    due = nothing_due (control_plane w) whole s up

    named : (id : SwitchId) × (slice_get f.plan.ids s ≡ Some id)
    named = exists_at w.plan.ids s (subst (λ n. s < n) (counted.formed.switches ∙ sym counted.formed.plan.ids_many) (slice_get_within w.switches s v at))

    loud : is_silent f.orders s ≡ false
    loud = ap (λ orders. list_any is_hello orders) down

    found : granted (f.view s) served.address ≡ Some served.grant
    found = ap (λ (u : SwitchView). granted u served.address) (get_or_from_slice_get w.switches s v no_switch at) ∙ served.found

    good : IsGoodGrant (λ mac. own_ip w.plan mac) (registry_of f.manager) (is_silent f.orders s) (f.reports s) served.address served.grant
    good = (a.addressed.edges s named.0 named.1).grants served.address served.grant found

    with_ip : ip_of w.manager.learnt served.address ≡ Some host.ip
    with_ip = elim (good.told_ip loud served.used host.ip served.ip) [
      | inl knows ↦ knows
      | inr waits ↦ absurd (nothing (tells_ip served.address) (f.reports s) due waits)
    ]

    by : (o : Option Registration) → registration w.manager.learnt served.address ≡ o → IsRegisteredWithIp w h
    by None none = absurd (nothing (tells served.address) (f.reports s) due
        (in_use_told (λ mac. own_ip w.plan mac) f a.addressed s named.0 named.1 loud served.address served.grant found served.used none))
    by (Some reg) known =
        let name : reg.pmac ≡ served.address = a.addressed.registry.named served.address reg known in
        let newest_is : newest w.manager.learnt host.mac ≡ Some reg = elim (newest_or_recalled (λ mac. own_ip w.plan mac) f a.addressed s named.0 named.1 loud served.address served.grant found served.used reg known) [
          | inl is_newest ↦ ap (λ m. newest w.manager.learnt m) (sym served.mac) ∙ is_newest
          | inr waits ↦ absurd (nothing (recalls served.address) (items_at w.from_manager s) down waits)
        ] in
        record {
          address = served.address;
          by = record {
            host = host;
            is = is;
            attachment = attachment;
            attachments = attachments;
            newest_one = reg;
            is_newest = newest_is;
            address = name;
            edge = v;
            there = at;
            grant = served.grant;
            found = served.found;
            used = served.used;
            by_host = served.mac;
            at_port = served.at_port;
          };
          at_edge = served.ip;
          at_manager = with_ip;
        }
