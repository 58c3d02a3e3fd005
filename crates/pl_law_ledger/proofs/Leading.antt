-- Traps lead to newer addresses, by what the journal says.
use Rattle.std.proofs.Common.{◌≡◌, ◌<◌, ℕ, true, length, reverse, Some, slice_get, refl, sym, ap, subst, ◌∙◌, inl, inr}
use Rattle.std.proofs.lemmas.Option.{get_or_from_slice_get, same_Some, slice_get_within}
use Rattle.pl_frame.specs.declared.address.Mac.{Mac}
use Rattle.pl_frame.specs.declared.address.SwitchId.{SwitchId}
use Rattle.pl_pmac.specs.declared.pmac.Pmac.{Pmac}
use Rattle.pl_pmac.specs.Pmac.{PmacFits, pmac_number}
use Rattle.pl_journal.specs.Places.{holder, is_live}
use Rattle.pl_node.specs.SwitchViews.{SwitchView}
use Rattle.pl_queues.specs.Queues.{items_at}
use Rattle.pl_switch_rule.specs.Granting.{granted}
use Rattle.pl_world.specs.Changes.{host_of}
use Rattle.pl_world.specs.Worlds.{WorldView}
use Rattle.pl_law_control_plane.specs.ControlPlanes.{control_plane, no_switch}
use Rattle.pl_law_addresses.specs.Addressed.{IsGrantedBySome}
use Rattle.pl_law_addresses.specs.Standing.{HasTrap, IsOrdered}
use Rattle.pl_law_addresses.proofs.Exports.{exists_at}
use Rattle.pl_law_invariant.specs.ControlInvariant.{ControlInvariant}
use Rattle.pl_law_ledger.specs.Leading.{AreLed, HoldsLedger, Leads, Rises}
use Rattle.pl_law_ledger.proofs.AddressTables.{Says, same_says}
use Rattle.pl_law_ledger.proofs.LedgerInRuns.{granted_in_world, ready}
use Rattle.pl_law_ledger.proofs.Rising.{order_leads, order_rises, rises_whole, somebodys_fits, trap_held}
use Rattle.pl_law_ledger.proofs.Takes.{is_as_there}

module _ (w : WorldView) (kept : ControlInvariant w) (holds : HoldsLedger w) where
  -- an address is a host's, by the journal
  record IsSomebodys (x : Pmac) (mac : Mac) : Type 0 where
    host : ℕ
    of_mac : host_of w.plan mac ≡ Some host
    held : holder (reverse w.journal) (pmac_number x) ≡ Some host
    live : is_live (reverse w.journal) (pmac_number x) ≡ true
    fits : PmacFits x

  somebodys : (x : Pmac) (mac : Mac) → IsGrantedBySome w.switches x mac → IsSomebodys x mac
  somebodys x mac h =
      let is = h.granted_to in
      let e = holds.entered.grants h.switch h.view x is.grant h.found is.found in
      record {
        host = e.host;
        of_mac = ap (host_of w.plan) (sym is.to) ∙ e.of_mac;
        held = ap (λ (f : Says). f.hold (pmac_number x)) (sym (same_says w.plan (reverse w.journal))) ∙ e.held;
        live = ap (λ (f : Says). f.live (pmac_number x)) (sym (same_says w.plan (reverse w.journal))) ∙ e.live ∙ is_as_there is.grant.held ∙ is.held;
        fits = somebodys_fits w kept holds.entered x mac h;
      }

  -- from a host's address to another one of it
  led_so : (x y : Pmac) (trap : ℕ) (mac : Mac) → IsGrantedBySome w.switches x mac → IsGrantedBySome w.switches y mac → Rises (reverse w.journal) x y trap →
      Leads (reverse w.journal) x y trap
  led_so x y trap mac one other rises =
      let here = somebodys x mac one in
      let there = somebodys y mac other in
      let same : there.host ≡ here.host = same_Some there.host here.host (sym there.of_mac ∙ here.of_mac) in
      record { numbers = rises; live = (here.live, there.live); host = there.held ∙ ap Some same ∙ sym here.held; fits = there.fits }

  trap_led : (s : ℕ) (id : SwitchId) → slice_get w.plan.ids s ≡ Some id → (v : SwitchView) → slice_get w.switches s ≡ Some v → (x y : Pmac) (trap : ℕ) →
      HasTrap v x y trap →
      Leads (reverse w.journal) x y trap
  trap_led s id named v found x y trap t =
      let view : (control_plane w).view s ≡ v = get_or_from_slice_get w.switches s v no_switch found in
      let leads = kept.addresses.lead s id named x t.grant t.trap (ap (λ (u : SwitchView). granted u x) view ∙ t.found) t.set in
      led_so x y trap t.grant.amac
      (record { switch = s; view = v; found = found; granted_to = record { grant = t.grant; found = t.found; held = trap_held t.grant.held t.trap t.set; to = refl } })
      (subst (λ z. IsGrantedBySome w.switches z t.grant.amac) t.leads_to
      (granted_in_world w kept t.trap.new t.grant.amac leads.live.switch leads.live.id leads.live.named leads.live.held))
      (holds.traps s v x y trap found t)

  order_led : (s : ℕ) (id : SwitchId) → slice_get w.plan.ids s ≡ Some id → (x y : Pmac) (trap : ℕ) → IsOrdered (items_at w.from_manager s) x y trap →
      Leads (reverse w.journal) x y trap
  order_led s id named x y trap ordered =
      let it = order_leads w kept holds.entered s id named x y trap ordered in
      let newer = it.1.1 in
      led_so x y trap it.0.amac ((ready w kept).registered x it.0 it.1.0)
      (subst (λ m. IsGrantedBySome w.switches y m) newer.mac_after ((ready w kept).registered y newer.after newer.found_after))
      (rises_whole w x y trap (order_rises w kept holds.entered s id named x y trap ordered))

  pub are_led : AreLed w
  are_led s v x y trap found standing =
      let many : length w.switches ≡ length w.plan.ids = kept.counted.formed.switches ∙ sym kept.counted.formed.plan.ids_many in
      let id = exists_at w.plan.ids s (subst (λ n. s < n) many (slice_get_within w.switches s v found)) in
      elim standing [ inl t ↦ trap_led s id.0 id.1 v found x y trap t | inr ordered ↦ order_led s id.0 id.1 x y trap ordered ]
