-- Traps lead to larger numbers: one that is ordered does, and a step leaves those that are set so.
use Rattle.std.proofs.Common.{◌≡◌, ◌<◌, ℕ, zero, suc, true, false, List, [], ◌∷◌, length, reverse, Some, None, slice_get, refl, sym, ap, subst, ◌∙◌, inl, inr, arith}
use Rattle.std.specs.List.{list_any}
use Rattle.std.proofs.lemmas.Bool.{cases_Bool, false≢true}
use Rattle.std.proofs.lemmas.Option.{get_or_from_slice_get, none-some, slice_get_within}
use Rattle.pl_lemmas.proofs.Exports.{all_found}
use Rattle.pl_frame.specs.declared.address.Mac.{Mac}
use Rattle.pl_frame.specs.declared.address.SwitchId.{SwitchId}
use Rattle.pl_pmac.specs.declared.pmac.Pmac.{Pmac}
use Rattle.pl_pmac.specs.Pmac.{PmacFits, pmac_number}
use Rattle.pl_wiring.specs.Labels.{switch_count}
use Rattle.pl_wiring.specs.Plan.{Plan}
use Rattle.pl_journal.specs.Places.{number}
use Rattle.pl_node.specs.AddressUses.{standing_trap}
use Rattle.pl_node.specs.declared.address_use.AddressUse.{AddressUse}
use Rattle.pl_node.specs.declared.address_use.AddressUse.TheVariants.{Free, InUse, Resting, Trapped}
use Rattle.pl_node.specs.declared.messages.ToSwitch.{ToSwitch}
use Rattle.pl_node.specs.declared.messages.ToSwitch.TheVariants as say
use Rattle.pl_node.specs.declared.switch_records.Grant.{Grant}
use Rattle.pl_node.specs.declared.trap.Trap.{Trap}
use Rattle.pl_node.specs.ManagerViews.{Registration, registration}
use Rattle.pl_node.specs.SwitchViews.{SwitchView}
use Rattle.pl_node.proofs.Exports.{among_of_Contains, IsAmong}
use Rattle.pl_queues.specs.Queues.{items_at}
use Rattle.pl_switch_rule.specs.Granting.{granted}
use Rattle.pl_switch_rule.proofs.Exports.{granted_parts}
use Rattle.pl_world.specs.Worlds.{WorldView}
use Rattle.pl_law_control_plane.specs.ControlPlanes.{ControlPlane, control_plane, no_switch}
use Rattle.pl_law_due.specs.Due.{due_plane, is_silent}
use Rattle.pl_law_addresses.specs.Addressed.{IsGrantedBySome}
use Rattle.pl_law_addresses.specs.EdgeAddresses.{IsHeld, is_held, tells}
use Rattle.pl_law_addresses.specs.OwnAddresses.{own_ip}
use Rattle.pl_law_addresses.specs.Standing.{HasTrap, IsOrdered}
use Rattle.pl_law_addresses.proofs.Exports.{exists_at}
use Rattle.pl_law_epochs.specs.Edges.{IsGoodOrder, LeadsToNewer, registry_of}
use Rattle.pl_law_epochs.proofs.Exports.{IsOrderedNext, order_newer, StoodSo, trapped_told, TrapsStood}
use Rattle.pl_law_invariant.specs.ControlInvariant.{ControlInvariant}
use Rattle.pl_law_invariant.proofs.Exports.{world_unheard}
use Rattle.pl_law_ledger.specs.Leading.{HoldsLedger, Rises}
use Rattle.pl_law_ledger.specs.Ledgers.{IsLedger}
use Rattle.pl_law_ledger.proofs.AddressTables.{Says, same_says}
use Rattle.pl_law_ledger.proofs.GrantsWritten.{parts_of, written}
use Rattle.pl_law_ledger.proofs.LedgerInRuns.{granted_in_world, grounds, in_bounds, ready}
use Rattle.pl_law_ledger.proofs.Numbering.{below_highest}
use Rattle.pl_law_ledger.proofs.StepsKeepLedger.{fits_there}
use Rattle.pl_law_ledger.proofs.TellsNumbers.{IsDue}
use Rattle.pl_law_ledger.proofs.TurnsKeepLedger.{KeepsLedger, word_held}

-- an address that has a trap is somebody's
pub trap_held : (h : AddressUse) (trap : Trap) → standing_trap h ≡ Some trap → is_held (Some h) ≡ true
trap_held (InUse idle) trap is = absurd (none-some trap is)
trap_held (Trapped own age) trap is = refl
trap_held (Resting number) trap is = absurd (none-some trap is)
trap_held Free trap is = absurd (none-some trap is)

index_of : {X : Type 0} (x : X) (xs : List X) → IsAmong x xs → (i : ℕ) × (slice_get xs i ≡ Some x)
index_of x [] is = absurd is
index_of x (y ∷ xs) (inl here) = (zero, ap Some here)
index_of x (y ∷ xs) (inr later) = let rest = index_of x xs later in (suc rest.0, rest.1)

-- the whole journal says no more of numbers than its ledger
pub rises_whole : (w : WorldView) (x y : Pmac) (trap : ℕ) → Rises (written w.journal) x y trap → Rises (reverse w.journal) x y trap
rises_whole w x y trap r =
    let same = λ (n : ℕ). ap (λ (f : Says). f.numbers n) (sym (same_says w.plan (reverse w.journal))) in
    record {
      from = r.from;
      to = r.to;
      old_has = same (pmac_number x) ∙ r.old_has;
      new_has = same (pmac_number y) ∙ r.new_has;
      rises = r.rises;
      within = r.within;
    }

pub rises_written : (w : WorldView) (x y : Pmac) (trap : ℕ) → Rises (reverse w.journal) x y trap → Rises (written w.journal) x y trap
rises_written w x y trap r =
    let same = λ (n : ℕ). ap (λ (f : Says). f.numbers n) (same_says w.plan (reverse w.journal)) in
    record {
      from = r.from;
      to = r.to;
      old_has = same (pmac_number x) ∙ r.old_has;
      new_has = same (pmac_number y) ∙ r.new_has;
      rises = r.rises;
      within = r.within;
    }

module _ (w : WorldView) (kept : ControlInvariant w) (entered : IsLedger w) where
  pub somebodys_fits : (x : Pmac) (mac : Mac) → IsGrantedBySome w.switches x mac → PmacFits x
  somebodys_fits x mac h = fits_there w.switches kept.counted.shaped
      (in_bounds w kept) entered.few h.switch h.view x h.granted_to.grant h.found h.granted_to.found

  registered_number : (x : Pmac) (reg : Registration) → registration w.manager.learnt x ≡ Some reg →
      number (written w.journal) (pmac_number x) ≡ Some reg.number
  registered_number x reg is = entered.numbers x reg (somebodys_fits x reg.amac ((ready w kept).registered x reg is)) is

  -- an address leads to a newer one that is registered
  newer_rises : (x y : Pmac) (trap : ℕ) (mac : Mac) → LeadsToNewer (registry_of (due_plane (control_plane w)).manager) x y trap mac →
      Rises (written w.journal) x y trap
  newer_rises x y trap mac leads = record {
    from = leads.before.number;
    to = leads.after.number;
    old_has = registered_number x leads.before leads.found_before;
    new_has = registered_number y leads.after leads.found_after;
    rises = leads.rises;
    within = let same = leads.number_after in omega (arith, same);
  }

  -- an order that sets a trap, at the switch that has the address
  pub order_leads : (s : ℕ) (id : SwitchId) → slice_get w.plan.ids s ≡ Some id → (x y : Pmac) (trap : ℕ) → IsOrdered (items_at w.from_manager s) x y trap →
      (reg : Registration) × ((registration w.manager.learnt x ≡ Some reg) × LeadsToNewer (registry_of (due_plane (control_plane w)).manager) x y trap reg.amac)
  order_leads s id named x y trap ordered =
      let f = due_plane (control_plane w) in
      let a = kept.addresses.addressed in
      let order : ToSwitch = say.Invalidate x y trap ordered.ip in
      let at = index_of order (items_at w.from_manager s) (among_of_Contains order (items_at w.from_manager s) ordered.waits) in
      let good = all_found (IsGoodOrder (λ mac. own_ip w.plan mac) (λ z. granted (f.view s) z)) (items_at w.from_manager s) at.0 order
      (a.edges s id named).orders at.1 in
      order_newer (λ mac. own_ip w.plan mac) f.plan f.view f.reports f.orders f.manager a s id named x y trap ordered.ip at.0 at.1 (good.mac, good.granted_to)

  pub order_rises : (s : ℕ) (id : SwitchId) → slice_get w.plan.ids s ≡ Some id → (x y : Pmac) (trap : ℕ) → IsOrdered (items_at w.from_manager s) x y trap →
      Rises (written w.journal) x y trap
  order_rises s id named x y trap ordered = let it = order_leads s id named x y trap ordered in newer_rises x y trap it.0.amac it.1.1

  -- ---- an address that has a trap, and that a word tells which is due, is registered
  view_at : (s : ℕ) (id : SwitchId) → slice_get w.plan.ids s ≡ Some id → (v : SwitchView) × ((slice_get w.switches s ≡ Some v) × ((control_plane w).view s ≡ v))
  view_at s id named =
      let many : length w.switches ≡ length w.plan.ids = kept.counted.formed.switches ∙ sym kept.counted.formed.plan.ids_many in
      let v = exists_at w.switches s (subst (λ n. s < n) (sym many) (slice_get_within w.plan.ids s id named)) in
      (v.0, (v.1, get_or_from_slice_get w.switches s v.0 no_switch v.1))

  one_switch : (s : ℕ) (i : SwitchId) → slice_get w.plan.ids s ≡ Some i → (t : ℕ) (j : SwitchId) → slice_get w.plan.ids t ≡ Some j → (x : Pmac) (g h : Grant) →
      granted ((control_plane w).view s) x ≡ Some g → granted ((control_plane w).view t) x ≡ Some h → t ≡ s
  one_switch s i named t j named_too x g h here there =
      let v = view_at s i named in
      let u = view_at t j named_too in
      (grounds w kept).apart t s u.0 v.0 x u.1.0 v.1.0 (granted_parts u.0 x h (ap (λ (q : SwitchView). granted q x) (sym u.1.1) ∙ there)).0
      (granted_parts v.0 x g (ap (λ (q : SwitchView). granted q x) (sym v.1.1) ∙ here)).0

  told_registered : (s : ℕ) (id : SwitchId) → slice_get w.plan.ids s ≡ Some id → (x : Pmac) (g : Grant) (trap : Trap) →
      granted ((control_plane w).view s) x ≡ Some g →
      standing_trap g.held ≡ Some trap → IsDue (control_plane w) x → (reg : Registration) × (registration w.manager.learnt x ≡ Some reg)
  told_registered s id named x g trap found set due =
      let f = due_plane (control_plane w) in
      let a = kept.addresses.addressed in
      let held : IsHeld (λ z. granted (f.view due.switch) z) x =
      word_held (λ mac. own_ip w.plan mac) (λ z. granted (f.view due.switch) z) x (f.reports due.switch) (a.edges due.switch due.id due.named).words due.told in
      let same : due.switch ≡ s = one_switch s id named due.switch due.id due.named x g held.1.grant found held.1.found in
      let told : list_any (tells x) (f.reports s) ≡ true = subst (λ n. list_any (tells x) (f.reports n) ≡ true) same due.told in
      trapped_told (λ mac. own_ip w.plan mac) f a s id named (loud told) x g found trap set told
    where
      loud : list_any (tells x) ((due_plane (control_plane w)).reports s) ≡ true → is_silent (due_plane (control_plane w)).orders s ≡ false
      loud told = elim (cases_Bool (is_silent (due_plane (control_plane w)).orders s)) [
        | inr is ↦ is
        | inl silent ↦ absurd (false≢true (ap (list_any (tells x)) (sym (world_unheard w kept s id named silent).nothing) ∙ told))
      ]

-- ---- a step
module _ (old new : WorldView) (kept : ControlInvariant old) (kept_then : ControlInvariant new) (holds : HoldsLedger old) (plan : new.plan ≡ old.plan)
    (st : KeepsLedger (control_plane old) (parts_of old) (parts_of new))
    (stood : TrapsStood old.plan (control_plane old).view (control_plane old).orders (control_plane new).view) where
  abbrev f : ControlPlane
  f = control_plane old

  -- an address that is numbered again has a larger number then; the one that leads to it is not
  carried : (x y : Pmac) (trap : ℕ) (mac host : Mac) → Rises (written old.journal) x y trap → IsGrantedBySome old.switches x mac →
      IsGrantedBySome old.switches y host →
      (IsDue f x → registration old.manager.learnt x ≡ None → ⊥) → Rises (written new.journal) x y trap
  carried x y trap mac host r here there never =
      elim (st.numbers x mac (somebodys_fits old kept holds.entered x mac here) here) [
        | inr anew ↦ absurd (never anew.1.1.due anew.1.1.fresh)
        | inl same ↦ elim (st.numbers y host (somebodys_fits old kept holds.entered y host there) there) [
          | inl still ↦ record { from = r.from; to = r.to; old_has = same ∙ r.old_has; new_has = still ∙ r.new_has; rises = r.rises; within = r.within }
          | inr anew ↦ record {
            from = r.from;
            to = anew.0;
            old_has = same ∙ r.old_has;
            new_has = anew.1.0;
            rises = r.rises;
            within =
                let most = below_highest (written old.journal) (pmac_number y) r.to r.new_has in
                let above = anew.1.1.above in
                let less = r.within in
                omega (arith, most, above, less);
          }
        ]
      ]

  trap_stood : (s : ℕ) (id : SwitchId) → slice_get old.plan.ids s ≡ Some id → (x : Pmac) (mac : Mac) (trap : Trap) →
      StoodSo (λ z. granted (f.view s) z) x mac trap →
      Rises (written new.journal) x trap.new trap.number
  trap_stood s id named x mac trap was =
      let v = view_at old kept holds.entered s id named in
      let leads = kept.addresses.lead s id named x was.grant trap was.found was.set in
      carried x trap.new trap.number was.grant.amac was.grant.amac
      (rises_written old x trap.new trap.number (holds.traps s v.0 x trap.new trap.number v.1.0 (record {
        grant = was.grant;
        trap = trap;
        found = ap (λ (u : SwitchView). granted u x) (sym v.1.1) ∙ was.found;
        set = was.set;
        leads_to = refl;
        carries = refl;
      })))
      (granted_in_world old kept x was.grant.amac s id named (record { grant = was.grant; found = was.found; held = trap_held was.grant.held trap was.set; to = refl }))
      (granted_in_world old kept trap.new was.grant.amac leads.live.switch leads.live.id leads.live.named leads.live.held)
      (λ due fresh. let it = told_registered old kept holds.entered s id named x was.grant trap was.found was.set due in none-some it.0 (sym fresh ∙ it.1))

  trap_set : (s : ℕ) (id : SwitchId) → slice_get old.plan.ids s ≡ Some id → (x : Pmac) (mac : Mac) (trap : Trap) → IsOrderedNext f.view f.orders s x mac trap →
      Rises (written new.journal) x trap.new trap.number
  trap_set s id named x mac trap now =
      let d = due_plane f in
      let it = order_newer (λ m. own_ip old.plan m) d.plan d.view d.reports d.orders d.manager kept.addresses.addressed s id named x trap.new trap.number trap.ip 0 now.is (mac, now.held) in
      let newer = it.1.1 in
      carried x trap.new trap.number mac newer.after.amac (newer_rises old kept holds.entered x trap.new trap.number it.0.amac newer)
      (granted_in_world old kept x mac s id named now.held)
      ((ready old kept).registered trap.new newer.after newer.found_after)
      (λ due fresh. none-some it.0 (sym fresh ∙ it.1.0))

  pub traps_then : (s : ℕ) (v : SwitchView) (x y : Pmac) (trap : ℕ) → slice_get new.switches s ≡ Some v → HasTrap v x y trap →
      Rises (reverse new.journal) x y trap
  traps_then s v x y trap found t =
      let many : length new.switches ≡ length old.plan.ids =
      kept_then.counted.formed.switches ∙ ap (λ (p : Plan). switch_count p.k) plan ∙ sym kept.counted.formed.plan.ids_many in
      let id = exists_at old.plan.ids s (subst (λ n. s < n) many (slice_get_within new.switches s v found)) in
      let here : granted ((control_plane new).view s) x ≡ Some t.grant = ap (λ (u : SwitchView). granted u x)
      (get_or_from_slice_get new.switches s v no_switch found) ∙ t.found in
      rises_whole new x y trap
      (subst (λ n. Rises (written new.journal) x y n) t.carries
      (subst (λ z. Rises (written new.journal) x z t.trap.number) t.leads_to
      (elim (stood s id.0 id.1 x t.grant t.trap here t.set) [
        | inl was ↦ trap_stood s id.0 id.1 x t.grant.amac t.trap was
        | inr now ↦ trap_set s id.0 id.1 x t.grant.amac t.trap now
      ])))
