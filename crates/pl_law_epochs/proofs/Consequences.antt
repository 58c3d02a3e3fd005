-- What it means that addresses are in order.
use Rattle.std.proofs.Common.{◌≡◌, ◌⊎◌, ℕ, ◌==◌, ◌&&◌, ◌||◌, Bool, true, false, if◌then◌else◌, List, [], ◌∷◌, ◌++◌, Option, Some, None, is_some, slice_get, refl, sym, ap, subst, ◌∙◌, inl, inr, eq-eqb}
use Rattle.std.specs.List.{list_any}
use Rattle.std.specs.Option.{option_and_then, option_map}
use Rattle.std.proofs.lemmas.Bool.{and_from, false≢true, or_left, or_right}
use Rattle.std.proofs.lemmas.Option.{none-some, same_Some}
use Rattle.pl_frame.specs.declared.address.Ip4.{Ip4}
use Rattle.pl_frame.specs.declared.address.Mac.{Mac}
use Rattle.pl_frame.specs.declared.address.SwitchId.{SwitchId}
use Rattle.pl_pmac.specs.declared.pmac.Pmac.{Pmac}
use Rattle.pl_layouts.specs.Equality.{same_pmac}
use Rattle.pl_layouts.proofs.Exports.{pmac_itself}
use Rattle.pl_node.specs.AddressUses.{is_in_use, standing_trap}
use Rattle.pl_node.specs.declared.address_use.AddressUse.{AddressUse}
use Rattle.pl_node.specs.declared.address_use.AddressUse.TheVariants.{Free, InUse, Resting, Trapped}
use Rattle.pl_node.specs.declared.messages.ToManager.{ToManager}
use Rattle.pl_node.specs.declared.messages.ToManager.TheVariants as tell
use Rattle.pl_node.specs.declared.messages.ToSwitch.{ToSwitch}
use Rattle.pl_node.specs.declared.messages.ToSwitch.TheVariants as say
use Rattle.pl_node.specs.declared.switch_records.Grant.{Grant}
use Rattle.pl_node.specs.declared.trap.Trap.{Trap}
use Rattle.pl_node.specs.ManagerViews.{Recall, Registration, Reported, newest, registration}
use Rattle.pl_manager_rule.specs.Reports.{known_at}
use Rattle.pl_switch_rule.specs.Granting.{granted}
use Rattle.pl_law_control_plane.specs.ControlPlanes.{ControlPlane}
use Rattle.pl_law_due.specs.Due.{is_silent}
use Rattle.pl_law_addresses.specs.EdgeAddresses.{Edge, edge_of, recalls, tells}
use Rattle.pl_law_epochs.specs.Addressed.{AreAddressed, IsGrantedBySome, says_trap}
use Rattle.pl_law_epochs.specs.Edges.{Registry, registry_of, tenure_at}
use Rattle.pl_law_epochs.specs.Situations.{IsIn, Situation, is_learns, tenure_of}
use Rattle.pl_law_epochs.specs.Situations.Situation.{Counted, Gone, Led, LedTold, Recalled, Released, RestLedTold, RestRecalled, RestTold, Resting, Silent, Used}
use Rattle.pl_law_epochs.specs.Tenures.{Order, Tenure, knowledge, orders_on, use_of, words_on}
use Rattle.pl_law_epochs.specs.Tenures.Knowledge.{Knows, Nothing}
use Rattle.pl_law_epochs.specs.Tenures.Order.{Recalls, Releases}
use Rattle.pl_law_epochs.specs.Tenures.Said.{Ages, Learns, Traps}
use Rattle.pl_law_epochs.specs.Tenures.Use.{Leads, Serves}

-- ---- what a situation says, of a switch that has heard of the epoch
module _ (later : Bool) where
  pub by_situation : (P : Tenure → Type 0) → ((s : Situation later) → P (tenure_of s)) → (t : Tenure) → IsIn later t → P t
  by_situation P all t at = subst P at.1 (all at.0)

  not_false : {P : Type 0} → true ≡ false → P
  not_false is = absurd (false≢true (sym is))

  -- in use: it is known to lead nowhere, an order waits that says where, or it is told
  pub data IsServed (t : Tenure) : Type 0 where
    Newest : t.known ≡ Knows true None false → IsServed t
    IsRecalled : (to : Recall) → t.known ≡ Knows true (Some to) false → t.orders ≡ Recalls to ∷ [] → IsServed t
    IsTold : t.known ≡ Nothing → list_any is_learns t.due ≡ true → IsServed t

  serves_at : (s : Situation later) → (tenure_of s).silent ≡ false → (tenure_of s).use_is ≡ Serves → IsServed (tenure_of s)
  serves_at (Used due calm true told) loud is = Newest refl
  serves_at (Used due calm false told) loud is = elim told [ inl not ↦ absurd (false≢true not) | inr any ↦ IsTold refl any ]
  serves_at (Recalled to some due calm) loud is = IsRecalled to refl refl
  serves_at (Silent use_is due numbered now) loud is = not_false loud
  serves_at (Led to some due calm known fresh) loud is = absurd (cc)
  serves_at (LedTold to some now) loud is = absurd (cc)
  serves_at (Resting behind due calm known told) loud is = absurd (cc)
  serves_at (RestTold number now) loud is = absurd (cc)
  serves_at (RestLedTold to now) loud is = absurd (cc)
  serves_at (Counted number behind known at) loud is = absurd (cc)
  serves_at (RestRecalled to some due calm) loud is = absurd (cc)
  serves_at (Released number) loud is = absurd (cc)
  serves_at Gone loud is = absurd (cc)

  pub serves : (t : Tenure) → IsIn later t → t.silent ≡ false → t.use_is ≡ Serves → IsServed t
  serves = by_situation (λ t. t.silent ≡ false → t.use_is ≡ Serves → IsServed t) serves_at

  -- a trap stands: it is known to, or that is due
  abbrev IsLed : Tenure → Recall → Type 0
  IsLed t to = ((registered : Bool) × (t.known ≡ Knows registered (Some to) false)) ⊎ (t.due ≡ Traps to ∷ [])

  leads_at : (s : Situation later) (to : Recall) → (tenure_of s).silent ≡ false → (tenure_of s).use_is ≡ Leads to → IsLed (tenure_of s) to
  leads_at (Led own some due calm known fresh) to loud is = let same : own ≡ to = cc in inl (known, ap (λ c. Knows known (Some c) false) same)
  leads_at (LedTold own some now) to loud is = let same : own ≡ to = cc in inr (ap (λ c. Traps c ∷ []) same)
  leads_at (Silent use_is due numbered now) to loud is = not_false loud
  leads_at (Used due calm known told) to loud is = absurd (cc)
  leads_at (Recalled own some due calm) to loud is = absurd (cc)
  leads_at (Resting behind due calm known told) to loud is = absurd (cc)
  leads_at (RestTold number now) to loud is = absurd (cc)
  leads_at (RestLedTold own now) to loud is = absurd (cc)
  leads_at (Counted number behind known at) to loud is = absurd (cc)
  leads_at (RestRecalled own some due calm) to loud is = absurd (cc)
  leads_at (Released number) to loud is = absurd (cc)
  leads_at Gone to loud is = absurd (cc)

  pub leads : (t : Tenure) → IsIn later t → (to : Recall) → t.silent ≡ false → t.use_is ≡ Leads to → IsLed t to
  leads = by_situation (λ t. (to : Recall) → t.silent ≡ false → t.use_is ≡ Leads to → IsLed t to) leads_at

  -- and where it is told it is registered
  told_at : (s : Situation later) (to : Recall) → (tenure_of s).silent ≡ false → (tenure_of s).use_is ≡ Leads to → list_any is_learns (tenure_of s).due ≡ true →
      (led : Recall) × ((tenure_of s).known ≡ Knows true (Some led) false)
  told_at (Led own some due calm true fresh) to loud is any = (own, refl)
  told_at (Led own some due calm false fresh) to loud is any = absurd (false≢true (ap (list_any is_learns) (sym (fresh refl)) ∙ any))
  told_at (LedTold own some now) to loud is any = absurd (false≢true any)
  told_at (Silent use_is due numbered now) to loud is any = not_false loud
  told_at (Used due calm known told) to loud is any = absurd (cc)
  told_at (Recalled own some due calm) to loud is any = absurd (cc)
  told_at (Resting behind due calm known told) to loud is any = absurd (cc)
  told_at (RestTold number now) to loud is any = absurd (cc)
  told_at (RestLedTold own now) to loud is any = absurd (cc)
  told_at (Counted number behind known at) to loud is any = absurd (cc)
  told_at (RestRecalled own some due calm) to loud is any = absurd (cc)
  told_at (Released number) to loud is any = absurd (cc)
  told_at Gone to loud is any = absurd (cc)

  pub told_known : (t : Tenure) → IsIn later t → (to : Recall) → t.silent ≡ false → t.use_is ≡ Leads to → list_any is_learns t.due ≡ true → (led : Recall) × (t.known ≡ Knows true (Some led) false)
  told_known = by_situation (λ t. (to : Recall) → t.silent ≡ false → t.use_is ≡ Leads to → list_any is_learns t.due ≡ true → (led : Recall) × (t.known ≡ Knows true (Some led) false)) told_at

-- ---- words and orders in queues
told_learns : (x : Pmac) (up : List ToManager) → list_any (tells x) up ≡ true → list_any is_learns (words_on x up) ≡ true
told_learns x [] any = absurd (false≢true any)
told_learns x (tell.Learned y a b ∷ up) any = by (same_pmac y x) any (told_learns x up)
  where
    by : (c : Bool) → (c || list_any (tells x) up) ≡ true → (list_any (tells x) up ≡ true → list_any is_learns (words_on x up) ≡ true) →
        list_any is_learns ((if c then Learns ∷ [] else []) ++ words_on x up) ≡ true
    by true h rest = refl
    by false h rest = rest h
told_learns x (tell.Aged y n ∷ up) any = by (same_pmac y x) (told_learns x up any)
  where
    by : (c : Bool) → list_any is_learns (words_on x up) ≡ true → list_any is_learns ((if c then Ages n ∷ [] else []) ++ words_on x up) ≡ true
    by true h = h
    by false h = h
told_learns x (tell.Trapped y new n ∷ up) any = by (same_pmac y x) (told_learns x up any)
  where
    by : (c : Bool) → list_any is_learns (words_on x up) ≡ true → list_any is_learns ((if c then Traps (record { new = new; number = n }) ∷ [] else []) ++ words_on x up) ≡ true
    by true h = h
    by false h = h
told_learns x (says ∷ up) any = told_learns x up any

learns_told : (x : Pmac) (up : List ToManager) → list_any is_learns (words_on x up) ≡ true → list_any (tells x) up ≡ true
learns_told x [] any = absurd (false≢true any)
learns_told x (tell.Learned y a b ∷ up) any = by (same_pmac y x) any (learns_told x up)
  where
    by : (c : Bool) → list_any is_learns ((if c then Learns ∷ [] else []) ++ words_on x up) ≡ true → (list_any is_learns (words_on x up) ≡ true → list_any (tells x) up ≡ true) →
        (c || list_any (tells x) up) ≡ true
    by true h rest = refl
    by false h rest = rest h
learns_told x (tell.Aged y n ∷ up) any = by (same_pmac y x) any (learns_told x up)
  where
    by : (c : Bool) → list_any is_learns ((if c then Ages n ∷ [] else []) ++ words_on x up) ≡ true → (list_any is_learns (words_on x up) ≡ true → list_any (tells x) up ≡ true) →
        list_any (tells x) up ≡ true
    by true h rest = rest h
    by false h rest = rest h
learns_told x (tell.Trapped y new n ∷ up) any = by (same_pmac y x) any (learns_told x up)
  where
    by : (c : Bool) → list_any is_learns ((if c then Traps (record { new = new; number = n }) ∷ [] else []) ++ words_on x up) ≡ true →
        (list_any is_learns (words_on x up) ≡ true → list_any (tells x) up ≡ true) → list_any (tells x) up ≡ true
    by true h rest = rest h
    by false h rest = rest h
learns_told x (says ∷ up) any = learns_told x up any

traps_told : (x : Pmac) (to : Recall) (up : List ToManager) → words_on x up ≡ Traps to ∷ [] → list_any (says_trap x to) up ≡ true
traps_told x to [] is = absurd (cc)
traps_told x to (tell.Learned y a b ∷ up) is = by (same_pmac y x) is (traps_told x to up)
  where
    by : (c : Bool) → (if c then Learns ∷ [] else []) ++ words_on x up ≡ Traps to ∷ [] → (words_on x up ≡ Traps to ∷ [] → list_any (says_trap x to) up ≡ true) → list_any (says_trap x to) up ≡ true
    by true h rest = absurd (cc)
    by false h rest = rest h
traps_told x to (tell.Aged y n ∷ up) is = by (same_pmac y x) is (traps_told x to up)
  where
    by : (c : Bool) → (if c then Ages n ∷ [] else []) ++ words_on x up ≡ Traps to ∷ [] → (words_on x up ≡ Traps to ∷ [] → list_any (says_trap x to) up ≡ true) → list_any (says_trap x to) up ≡ true
    by true h rest = absurd (cc)
    by false h rest = rest h
traps_told x to (tell.Trapped y new n ∷ up) is = by (same_pmac y x) refl is (traps_told x to up)
  where
    own : Recall
    own = record { new = new; number = n }

    by : (c : Bool) → same_pmac y x ≡ c → (if c then Traps (record { new = new; number = n }) ∷ [] else []) ++ words_on x up ≡ Traps to ∷ [] → (words_on x up ≡ Traps to ∷ [] → list_any (says_trap x to) up ≡ true) →
        (says_trap x to (tell.Trapped y new n) || list_any (says_trap x to) up) ≡ true
    by false other h rest = or_right (says_trap x to (tell.Trapped y new n)) (list_any (says_trap x to) up) (rest h)
    by true same h rest =
        let it : record { new = new; number = n } ≡ to = cc in
        or_left (says_trap x to (tell.Trapped y new n)) (list_any (says_trap x to) up)
        (and_from (same_pmac y x) (same_pmac new to.new && (n == to.number)) same
        (and_from (same_pmac new to.new) (n == to.number) (subst (λ z. same_pmac new z ≡ true) (ap (λ (c : Recall). c.new) it) (pmac_itself new)) (eq-eqb n to.number (ap (λ (c : Recall). c.number) it))))
traps_told x to (says ∷ up) is = traps_told x to up is

recalls_ordered : (x : Pmac) (to : Recall) (rest : List Order) (down : List ToSwitch) → orders_on x down ≡ Recalls to ∷ rest → list_any (recalls x) down ≡ true
recalls_ordered x to rest [] is = absurd (cc)
recalls_ordered x to rest (say.Invalidate y new n ip ∷ down) is = by (same_pmac y x) is (recalls_ordered x to rest down)
  where
    by : (c : Bool) → (if c then Recalls (record { new = new; number = n }) ∷ [] else []) ++ orders_on x down ≡ Recalls to ∷ rest → (orders_on x down ≡ Recalls to ∷ rest → list_any (recalls x) down ≡ true) →
        (c || list_any (recalls x) down) ≡ true
    by true h again = refl
    by false h again = again h
recalls_ordered x to rest (say.Release y ∷ down) is = by (same_pmac y x) is (recalls_ordered x to rest down)
  where
    by : (c : Bool) → (if c then Releases ∷ [] else []) ++ orders_on x down ≡ Recalls to ∷ rest → (orders_on x down ≡ Recalls to ∷ rest → list_any (recalls x) down ≡ true) → list_any (recalls x) down ≡ true
    by true h again = absurd (cc)
    by false h again = again h
recalls_ordered x to rest (says ∷ down) is = recalls_ordered x to rest down is

-- ---- of the whole fabric
used_serves : (h : AddressUse) → is_in_use h ≡ true → use_of (Some h) ≡ Serves
used_serves (InUse idle) is = refl
used_serves (Trapped trap age) is = absurd (false≢true is)
used_serves (Resting number) is = absurd (false≢true is)
used_serves Free is = absurd (false≢true is)

trapped_leads : (h : AddressUse) (trap : Trap) → standing_trap h ≡ Some trap → use_of (Some h) ≡ Leads (record { new = trap.new; number = trap.number })
trapped_leads (InUse idle) trap is = absurd (none-some trap is)
trapped_leads (Trapped own age) trap is = ap (λ (t : Trap). Leads (record { new = t.new; number = t.number })) (same_Some own trap is)
trapped_leads (Resting number) trap is = absurd (none-some trap is)
trapped_leads Free trap is = absurd (none-some trap is)

nothing_unregistered : (o : Option Registration) (q : Option Reported) → ((reg : Registration) → o ≡ Some reg → (known : Reported) × (q ≡ Some known)) → knowledge (is_some o) q ≡ Nothing → o ≡ None
nothing_unregistered None q too is = refl
nothing_unregistered (Some reg) None too is = let it = too reg refl in absurd (none-some it.0 it.1)
nothing_unregistered (Some reg) (Some known) too is = absurd (cc)

known_registered : (o : Option Registration) (q : Option Reported) (to : Option Recall) (aged : Bool) → knowledge (is_some o) q ≡ Knows true to aged → (reg : Registration) × (o ≡ Some reg)
known_registered None None to aged is = absurd (cc)
known_registered None (Some known) to aged is = absurd (cc)
known_registered (Some reg) q to aged is = (reg, refl)

known_leads : (registered : Bool) (q : Option Reported) (b : Bool) (to : Option Recall) (aged : Bool) → knowledge registered q ≡ Knows b to aged → option_and_then (λ (k : Reported). k.recall) q ≡ to
known_leads registered None b to aged is = absurd (cc)
known_leads registered (Some known) b to aged is = cc

module _ (own : Mac → Option Ip4) (f : ControlPlane) (a : AreAddressed own f) where
  abbrev r : Registry
  r = registry_of f.manager

  -- a registered address is granted, to the host for which it is registered
  pub registered_held : (x : Pmac) (reg : Registration) → registration f.manager.learnt x ≡ Some reg → IsGrantedBySome f x reg.amac reg.switch
  registered_held x reg is =
      let too = a.registry.known_too x reg is in
      let home = a.homed x too.known too.found in
      let edge = a.edges home.switch home.id home.named in
      record {
        switch = home.switch;
        named = home.named ∙ edge.tellers x too.known too.found home.at ∙ ap Some too.switch;
        granted_to = (edge.here x reg is home.at).granted_to;
      }

  module _ (s : ℕ) (id : SwitchId) (named : slice_get f.plan.ids s ≡ Some id) (loud : is_silent f.orders s ≡ false) (x : Pmac) (g : Grant) (found : granted (f.view s) x ≡ Some g) where
    abbrev e : Edge
    e = edge_of (Some id) (f.view s) (f.reports s) (f.orders s)

    here : IsIn r.later (tenure_at r e x)
    here = (a.edges s id named).situations x ((a.edges s id named).placed x g found)

    served : is_in_use g.held ≡ true → IsServed r.later (tenure_at r e x)
    served used = serves r.later (tenure_at r e x) here loud (ap (λ (o : Option Grant). use_of (option_map (λ (q : Grant). q.held) o)) found ∙ used_serves g.held used)

    -- an address in use that the manager does not know is told to it by a word that is due
    pub in_use_told : is_in_use g.held ≡ true → registration f.manager.learnt x ≡ None → list_any (tells x) (f.reports s) ≡ true
    in_use_told used none = by (served used)
      where
        by : IsServed r.later (tenure_at r e x) → list_any (tells x) (f.reports s) ≡ true
        by (Newest known) = let it = known_registered (r.at x) (r.known_at x) None false known in absurd (none-some it.0 (sym none ∙ it.1))
        by (IsRecalled to known orders) = let it = known_registered (r.at x) (r.known_at x) (Some to) false known in absurd (none-some it.0 (sym none ∙ it.1))
        by (IsTold known any) = learns_told x (f.reports s) any

    -- one that it knows is the newest of its host, or an order waits that tells of a newer one
    pub newest_or_recalled : is_in_use g.held ≡ true → (reg : Registration) → registration f.manager.learnt x ≡ Some reg →
        (newest f.manager.learnt g.amac ≡ Some reg) ⊎ (list_any (recalls x) (f.orders s) ≡ true)
    newest_or_recalled used reg is = by (served used)
      where
        host : reg.amac ≡ g.amac
        host = let there = ((a.edges s id named).here x reg is ((a.edges s id named).placed x g found)).granted_to in
            sym there.to ∙ ap (λ (q : Grant). q.amac) (same_Some there.grant g (sym there.found ∙ found))

        by : IsServed r.later (tenure_at r e x) → (newest f.manager.learnt g.amac ≡ Some reg) ⊎ (list_any (recalls x) (f.orders s) ≡ true)
        by (Newest known) =
            inl (ap (newest f.manager.learnt) (sym host) ∙ a.registry.is_newest x reg is (known_leads (is_some (r.at x)) (r.known_at x) true None false known))
        by (IsRecalled to known orders) = inr (recalls_ordered x to [] (f.orders s) orders)
        by (IsTold known any) =
            absurd (none-some reg (sym (nothing_unregistered (r.at x) (r.known_at x) (λ q at. let too = a.registry.known_too x q at in (too.known, too.found)) known) ∙ is))

    -- a trap that stands is one that the manager knows, or that is going to be reported
    pub trap_known : (trap : Trap) → standing_trap g.held ≡ Some trap →
        (option_and_then (λ (k : Reported). k.recall) (known_at f.manager.learnt x) ≡ Some (record { new = trap.new; number = trap.number }))
        ⊎ (list_any (says_trap x (record { new = trap.new; number = trap.number })) (f.reports s) ≡ true)
    trap_known trap stands =
        let to : Recall = record { new = trap.new; number = trap.number } in
        elim (leads r.later (tenure_at r e x) here to loud (ap (λ (o : Option Grant). use_of (option_map (λ (q : Grant). q.held) o)) found ∙ trapped_leads g.held trap stands)) [
          | inl known ↦ inl (known_leads (is_some (r.at x)) (r.known_at x) known.0 (Some to) false known.1)
          | inr due ↦ inr (traps_told x to (f.reports s) due)
        ]

    -- and one that is told by a word that is due is registered
    pub trapped_told : (trap : Trap) → standing_trap g.held ≡ Some trap → list_any (tells x) (f.reports s) ≡ true → (reg : Registration) × (registration f.manager.learnt x ≡ Some reg)
    trapped_told trap stands any =
        let to : Recall = record { new = trap.new; number = trap.number } in
        let it = told_known r.later (tenure_at r e x) here to loud (ap (λ (o : Option Grant). use_of (option_map (λ (q : Grant). q.held) o)) found ∙ trapped_leads g.held trap stands)
        (told_learns x (f.reports s) any) in
        known_registered (r.at x) (r.known_at x) (Some it.0) false it.1
