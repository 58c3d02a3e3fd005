-- An address that is nobody's at any switch stands for nothing.
use Rattle.std.proofs.Common.{◌≡◌, ◌<◌, ℕ, true, Contains, List, [], ◌∷◌, ◌++◌, length, Option, Some, None, slice_get, refl, sym, ap, subst, ◌∙◌, inl, inr}
use Rattle.std.specs.List.{AllByRecursion}
use Rattle.std.specs.Option.{option_map}
use Rattle.std.proofs.lemmas.Bool.{cond-false, false≢true}
use Rattle.std.proofs.lemmas.Option.{get_or_from_slice_get, none-some, slice_get-get_or, slice_get_within}
use Rattle.pl_frame.specs.declared.address.Ip4.{Ip4}
use Rattle.pl_frame.specs.declared.address.Mac.{Mac}
use Rattle.pl_frame.specs.declared.address.SwitchId.{SwitchId}
use Rattle.pl_pmac.specs.declared.pmac.Pmac.{Pmac}
use Rattle.pl_layouts.specs.Equality.{same_pmac}
use Rattle.pl_node.specs.AddressUses.{is_held as is_somebodys, standing_trap}
use Rattle.pl_node.specs.declared.address_use.AddressUse.{AddressUse}
use Rattle.pl_node.specs.declared.address_use.AddressUse.TheVariants.{Free, InUse, Resting, Trapped}
use Rattle.pl_node.specs.declared.messages.ToSwitch.{ToSwitch}
use Rattle.pl_node.specs.declared.messages.ToSwitch.TheVariants as say
use Rattle.pl_node.specs.declared.switch_records.Grant.{Grant}
use Rattle.pl_node.specs.declared.trap.Trap.{Trap}
use Rattle.pl_node.specs.ManagerViews.{Registration, registration}
use Rattle.pl_node.specs.SwitchViews.{SwitchView}
use Rattle.pl_queues.specs.Queues.{items_at}
use Rattle.pl_switch_rule.specs.Granting.{granted}
use Rattle.pl_world.specs.Flying.{IsCounted}
use Rattle.pl_world.specs.Worlds.{WorldView}
use Rattle.pl_world.proofs.Exports.{all_found}
use Rattle.pl_law_control_plane.specs.ControlPlanes.{ControlPlane, control_plane, no_switch}
use Rattle.pl_law_due.specs.Due.{due_plane}
use Rattle.pl_law_addresses.specs.Addressed.{IsLiveNowhere}
use Rattle.pl_law_addresses.specs.EdgeAddresses.{IsHeldFor, is_held, is_live}
use Rattle.pl_law_addresses.specs.Orders.{orders_of}
use Rattle.pl_law_addresses.specs.OwnAddresses.{own_ip}
use Rattle.pl_law_addresses.specs.Standing.{StandsForNothing}
use Rattle.pl_law_addresses.proofs.Exports.{exists_at, is_or_other}
use Rattle.pl_law_epochs.specs.Edges.{IsGoodOrder}
use Rattle.pl_law_epochs.specs.InOrder.{IsAddressed}
use Rattle.pl_law_epochs.specs.Leading.{IsLive}
use Rattle.pl_law_epochs.proofs.Leading.{order_leads_on, registered_leads_on}

held_with_trap : (h : AddressUse) (trap : Trap) → standing_trap h ≡ Some trap → is_somebodys h ≡ true
held_with_trap (Trapped own age) trap set = refl
held_with_trap (InUse idle) trap set = absurd (none-some trap set)
held_with_trap (Resting number) trap set = absurd (none-some trap set)
held_with_trap Free trap set = absurd (none-some trap set)

-- no order speaks of an address that is nobody's
none_ordered : (own : Mac → Option Ip4) (f : Pmac → Option Grant) (x : Pmac) → ((mac : Mac) → IsHeldFor f x mac → ⊥) → (down : List ToSwitch) → AllByRecursion (IsGoodOrder own f) down →
    orders_of x down ≡ []
none_ordered own f x nobody [] all = refl
none_ordered own f x nobody (say.Invalidate old new number ip ∷ down) all = elim (is_or_other old x) [
  | inl same ↦ absurd (nobody all.0.mac (subst (λ z. IsHeldFor f z all.0.mac) same all.0.granted_to))
  | inr other ↦ ap (λ os. os ++ orders_of x down) (cond-false (same_pmac old x) _ [] other) ∙ none_ordered own f x nobody down all.1
]
none_ordered own f x nobody (say.Release y ∷ down) all = elim (is_or_other y x) [
  | inl same ↦ absurd (nobody all.0.0 (subst (λ z. IsHeldFor f z all.0.0) same all.0.1))
  | inr other ↦ ap (λ os. os ++ orders_of x down) (cond-false (same_pmac y x) _ [] other) ∙ none_ordered own f x nobody down all.1
]
none_ordered own f x nobody (says ∷ down) all = none_ordered own f x nobody down all.1

module _ (w : WorldView) (counted : IsCounted w) (a : IsAddressed w) (x : Pmac) (nowhere : IsLiveNowhere w.switches x) where
  abbrev f : ControlPlane
  f = due_plane (control_plane w)

  abbrev own : Mac → Option Ip4
  own mac = own_ip w.plan mac

  many : length w.switches ≡ length w.plan.ids
  many = counted.formed.switches ∙ sym counted.formed.plan.ids_many

  -- a switch of the world has an id, and its view is the one of the control plane
  record IsThere (s : ℕ) (v : SwitchView) : Type 0 where
    id : SwitchId
    named : slice_get w.plan.ids s ≡ Some id
    view : f.view s ≡ v

  there : (s : ℕ) (v : SwitchView) → slice_get w.switches s ≡ Some v → IsThere s v
  there s v found =
      let it = exists_at w.plan.ids s (subst (λ n. s < n) many (slice_get_within w.switches s v found)) in
      record { id = it.0; named = it.1; view = get_or_from_slice_get w.switches s v no_switch found }

  nobody : (s : ℕ) (v : SwitchView) → slice_get w.switches s ≡ Some v → (mac : Mac) → IsHeldFor (λ z. granted v z) x mac → ⊥
  nobody s v found mac h =
      let live : is_live v x ≡ true = ap (λ (o : Option Grant). is_held (option_map (λ (g : Grant). g.held) o)) h.found ∙ h.held in
      false≢true (sym (nowhere s v found) ∙ live)

  -- so it is no live address of the control plane
  not_live : (mac : Mac) → IsLive f.plan f.view x mac → ⊥
  not_live mac l =
      let it = exists_at w.switches l.switch (subst (λ n. l.switch < n) (sym many) (slice_get_within w.plan.ids l.switch l.id l.named)) in
      nobody l.switch it.0 it.1 mac
      (subst (λ (v : SwitchView). IsHeldFor (λ z. granted v z) x mac) (get_or_from_slice_get w.switches l.switch it.0 no_switch it.1) l.held)

  edge_good : (s : ℕ) (v : SwitchView) → slice_get w.switches s ≡ Some v → AllByRecursion (IsGoodOrder (λ mac. own mac) (λ z. granted v z)) (items_at w.from_manager s)
  edge_good s v found =
      let here = there s v found in
      subst (λ (u : SwitchView). AllByRecursion (IsGoodOrder (λ mac. own mac) (λ z. granted u z)) (items_at w.from_manager s)) here.view (a.addressed.edges s here.id here.named).orders

  unregistered : (o : Option Registration) → registration w.manager.learnt x ≡ o → registration w.manager.learnt x ≡ None
  unregistered None is = is
  unregistered (Some reg) is =
      absurd (not_live reg.amac (registered_leads_on (λ mac. own mac) f.plan f.view f.reports f.orders f.manager a.addressed x reg is reg.amac refl).live)

  contained : {X : Type 0} (P : X → Type 0) (xs : List X) (y : X) → AllByRecursion P xs → (c : Contains xs y) → P y
  contained P xs y all c = all_found P xs c.0 y (slice_get-get_or xs c.0 y c.1 ∙ ap Some c.2) all

  pub nobodys_for_nothing : StandsForNothing w x
  nobodys_for_nothing = record {
    unknown = unregistered (registration w.manager.learnt x) refl;
    leads_nowhere = λ s v new number found stands. elim stands [
      | inl h ↦ nobody s v found h.grant.amac (record { grant = h.grant; found = h.found; held = held_with_trap h.grant.held h.trap h.set; to = refl })
      | inr h ↦
          (let good = contained (IsGoodOrder (λ mac. own mac) (λ z. granted v z)) (items_at w.from_manager s) (say.Invalidate x new number h.ip) (edge_good s v found) h.waits in
          nobody s v found good.mac good.granted_to)
    ];
    led_from_nowhere = λ s v old number found stands.
        let here = there s v found in
        elim stands [
          | inl h ↦
              (let at : granted (f.view s) old ≡ Some h.grant = ap (λ (u : SwitchView). granted u old) here.view ∙ h.found in
              not_live h.grant.amac (subst (λ z. IsLive f.plan f.view z h.grant.amac) h.leads_to (a.lead s here.id here.named old h.grant h.trap at h.set).live))
          | inr h ↦
              (let good = contained (IsGoodOrder (λ mac. own mac) (λ z. granted v z)) (items_at w.from_manager s) (say.Invalidate old x number h.ip) (edge_good s v found) h.waits in
              let waits : slice_get (items_at w.from_manager s) h.waits.0 ≡ Some (say.Invalidate old x number h.ip) =
              slice_get-get_or (items_at w.from_manager s) h.waits.0 (say.Invalidate old x number h.ip) h.waits.1 ∙ ap Some h.waits.2 in
              let held : IsHeldFor (λ z. granted (f.view s) z) old good.mac = subst (λ (u : SwitchView). IsHeldFor (λ z. granted u z) old good.mac) (sym here.view) good.granted_to in
              not_live good.mac
              (order_leads_on (λ mac. own mac) f.plan f.view f.reports f.orders f.manager a.addressed s here.id here.named old x number h.ip h.waits.0 waits good.mac held).live)
        ];
    silent = λ s v found. none_ordered (λ mac. own mac) (λ z. granted v z) x (nobody s v found) (items_at w.from_manager s) (edge_good s v found);
  }
