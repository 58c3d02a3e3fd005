-- Traps lead to addresses that are somebody's: what orders say of it, and what a switch and the manager do.
use Rattle.std.proofs.Common.{◌≡◌, ◌||◌, ℕ, zero, suc, Bool, true, false, if◌then◌else◌, List, [], ◌∷◌, ◌++◌, Option, Some, None, is_some, slice_get, refl, sym, ap, subst, ◌∙◌, inl, inr, append_assoc}
use Rattle.std.specs.List.{AllByRecursion, list_any}
use Rattle.std.specs.Option.{option_map}
use Rattle.std.proofs.lemmas.Bool.{cases_Bool, cases_eq, false≢true}
use Rattle.std.proofs.lemmas.Option.{none-some, same_Some}
use Rattle.pl_frame.specs.declared.address.Ip4.{Ip4}
use Rattle.pl_frame.specs.declared.address.Mac.{Mac}
use Rattle.pl_frame.specs.declared.address.SwitchId.{SwitchId}
use Rattle.pl_pmac.specs.declared.pmac.Pmac.{Pmac}
use Rattle.pl_layouts.specs.Equality.{same_pmac}
use Rattle.pl_wiring.specs.Plan.{Plan}
use Rattle.pl_node.specs.AddressUses.{standing_trap}
use Rattle.pl_node.specs.declared.address_use.AddressUse.{AddressUse}
use Rattle.pl_node.specs.declared.address_use.AddressUse.TheVariants.{Free, InUse, Resting, Trapped}
use Rattle.pl_node.specs.declared.messages.ToManager.{ToManager}
use Rattle.pl_node.specs.declared.messages.ToManager.TheVariants as tell
use Rattle.pl_node.specs.declared.messages.ToSwitch.{ToSwitch}
use Rattle.pl_node.specs.declared.messages.ToSwitch.TheVariants as say
use Rattle.pl_node.specs.declared.switch_records.Grant.{Grant}
use Rattle.pl_node.specs.declared.trap.Trap.{Trap}
use Rattle.pl_node.specs.ManagerViews.{ManagerView, Recall, Registration, Reported}
use Rattle.pl_node.specs.SwitchViews.{SwitchView}
use Rattle.pl_manager_rule.specs.Reports.{known_at}
use Rattle.pl_switch_rule.specs.Granting.{granted}
use Rattle.pl_law_control_plane.proofs.Exports.{any_append}
use Rattle.pl_law_addresses.specs.EdgeAddresses.{Edge, IsHeld, IsHeldFor, edge_of}
use Rattle.pl_law_addresses.proofs.Exports.{is_or_other}
use Rattle.pl_law_epochs.specs.Addressed.{AreInOrder}
use Rattle.pl_law_epochs.specs.Edges.{IsGoodOrder, LeadsToNewer, Registry, is_unheard, registry_of, tenure_at}
use Rattle.pl_law_epochs.specs.Leading.{IsNoTrap, LeadsOn, TrapsLeadOn, is_release_of}
use Rattle.pl_law_epochs.specs.Situations.{IsIn, Situation, tenure_of}
use Rattle.pl_law_epochs.specs.Situations.Situation.{Counted, Gone, Led, LedTold, Recalled, Released, RestLedTold, RestRecalled, RestTold, Resting, Silent, Used}
use Rattle.pl_law_epochs.specs.Tenures.{Order, Tenure, knowledge, order_of, orders_on, use_of, words_on}
use Rattle.pl_law_epochs.specs.Tenures.Knowledge.{Knows, Nothing}
use Rattle.pl_law_epochs.specs.Tenures.Order.{Recalls, Releases}
use Rattle.pl_law_epochs.specs.Tenures.Said.{Ages, Learns, Traps}
use Rattle.pl_law_epochs.specs.Tenures.Use.{Leads}
use Rattle.pl_law_epochs.proofs.Consequences.{by_situation, leads}
use Rattle.pl_law_epochs.proofs.Moves.{IsSetBy, MovesBy}
use Rattle.pl_law_epochs.proofs.Staying.{ordered_here}

is_releases : Order → Bool
is_releases Releases = true
is_releases (Recalls to) = false

-- ---- what a situation says of the orders
module _ (later : Bool) where
  -- what is released is not known
  released_at : (s : Situation later) → list_any is_releases (tenure_of s).orders ≡ true → (tenure_of s).known ≡ Nothing
  unfolding is_releases
  released_at (Silent use_is due numbered now) any = refl
  released_at (Used due calm known told) any = absurd (false≢true any)
  released_at (Recalled to some due calm) any = absurd (false≢true any)
  released_at (Led to some due calm known fresh) any = absurd (false≢true any)
  released_at (LedTold to some now) any = refl
  released_at (Resting behind due calm known told) any = absurd (false≢true any)
  released_at (RestTold number now) any = refl
  released_at (RestLedTold to now) any = refl
  released_at (Counted number behind known at) any = absurd (false≢true any)
  released_at (RestRecalled to some due calm) any = absurd (false≢true any)
  released_at (Released number) any = refl
  released_at Gone any = refl

  released_unknown : (t : Tenure) → IsIn later t → list_any is_releases t.orders ≡ true → t.known ≡ Nothing
  released_unknown = by_situation later (λ t. list_any is_releases t.orders ≡ true → t.known ≡ Nothing) released_at

  -- what is recalled is registered, and known to lead there: at most one order waits
  recalled_at : (s : Situation later) (to : Recall) (rest : List Order) → (tenure_of s).orders ≡ Recalls to ∷ rest → (tenure_of s).known ≡ Knows true (Some to) false
  recalled_at (Recalled own some due calm) to rest is = let same : own ≡ to = cc in ap (λ c. Knows true (Some c) false) same
  recalled_at (RestRecalled own some due calm) to rest is = let same : own ≡ to = cc in ap (λ c. Knows true (Some c) false) same
  recalled_at (Silent use_is due numbered now) to rest is = absurd (cc)
  recalled_at (Used due calm known told) to rest is = absurd (cc)
  recalled_at (Led own some due calm known fresh) to rest is = absurd (cc)
  recalled_at (LedTold own some now) to rest is = absurd (cc)
  recalled_at (Resting behind due calm known told) to rest is = absurd (cc)
  recalled_at (RestTold number now) to rest is = absurd (cc)
  recalled_at (RestLedTold own now) to rest is = absurd (cc)
  recalled_at (Counted number behind known at) to rest is = absurd (cc)
  recalled_at (Released number) to rest is = absurd (cc)
  recalled_at Gone to rest is = absurd (cc)

  one_order : (s : Situation later) (first next : Order) (rest : List Order) → (tenure_of s).orders ≡ first ∷ next ∷ rest → ⊥
  one_order (Silent use_is due numbered now) first next rest is = absurd (cc)
  one_order (Used due calm known told) first next rest is = absurd (cc)
  one_order (Recalled to some due calm) first next rest is = let none : [] ≡ next ∷ rest = cc in absurd (cc)
  one_order (Led to some due calm known fresh) first next rest is = absurd (cc)
  one_order (LedTold to some now) first next rest is = absurd (cc)
  one_order (Resting behind due calm known told) first next rest is = absurd (cc)
  one_order (RestTold number now) first next rest is = absurd (cc)
  one_order (RestLedTold to now) first next rest is = absurd (cc)
  one_order (Counted number behind known at) first next rest is = absurd (cc)
  one_order (RestRecalled to some due calm) first next rest is = let none : [] ≡ next ∷ rest = cc in absurd (cc)
  one_order (Released number) first next rest is = let none : [] ≡ next ∷ rest = cc in absurd (cc)
  one_order Gone first next rest is = absurd (cc)

  recalled_among : (s : Situation later) (to : Recall) (before behind : List Order) → (tenure_of s).orders ≡ before ++ Recalls to ∷ behind → (tenure_of s).known ≡ Knows true (Some to) false
  recalled_among s to [] behind is = recalled_at s to behind is
  recalled_among s to (o ∷ []) behind is = absurd (one_order s o (Recalls to) behind is)
  recalled_among s to (o ∷ next ∷ before) behind is = absurd (one_order s o next (before ++ Recalls to ∷ behind) is)

  recalled_known : (t : Tenure) → IsIn later t → (to : Recall) (before behind : List Order) → t.orders ≡ before ++ Recalls to ∷ behind → t.known ≡ Knows true (Some to) false
  recalled_known = by_situation later (λ t. (to : Recall) (before behind : List Order) → t.orders ≡ before ++ Recalls to ∷ behind → t.known ≡ Knows true (Some to) false) recalled_among

-- ---- orders in queues
releases_ordered : (y : Pmac) (down : List ToSwitch) → list_any (is_release_of y) down ≡ true → list_any is_releases (orders_on y down) ≡ true
unfolding is_releases
releases_ordered y [] any = absurd (false≢true any)
releases_ordered y (say.Release x ∷ down) any = by (same_pmac x y) any (releases_ordered y down)
  where
    by : (c : Bool) → (c || list_any (is_release_of y) down) ≡ true → (list_any (is_release_of y) down ≡ true → list_any is_releases (orders_on y down) ≡ true) →
        list_any is_releases ((if c then Releases ∷ [] else []) ++ orders_on y down) ≡ true
    by true h rest = refl
    by false h rest = rest h
releases_ordered y (say.Invalidate x new n ip ∷ down) any = by (same_pmac x y) any (releases_ordered y down)
  where
    by : (c : Bool) → list_any (is_release_of y) down ≡ true → (list_any (is_release_of y) down ≡ true → list_any is_releases (orders_on y down) ≡ true) →
        list_any is_releases ((if c then Recalls (record { new = new; number = n }) ∷ [] else []) ++ orders_on y down) ≡ true
    by true h rest = rest h
    by false h rest = rest h
releases_ordered y (says ∷ down) any = releases_ordered y down any

-- among the orders on an address is each that recalls it
record IsAmid (x : Pmac) (to : Recall) (down : List ToSwitch) : Type 0 where
  before : List Order
  behind : List Order
  are : orders_on x down ≡ before ++ Recalls to ∷ behind

amid : (x new : Pmac) (number : ℕ) (ip : Option Ip4) (down : List ToSwitch) (i : ℕ) → slice_get down i ≡ Some (say.Invalidate x new number ip) → IsAmid x (record { new = new; number = number }) down
amid x new number ip [] i is = absurd (none-some (say.Invalidate x new number ip) is)
amid x new number ip (o ∷ down) zero is = record {
  before = [];
  behind = orders_on x down;
  are = ap (λ os. os ++ orders_on x down) (ap (order_of x) (same_Some o (say.Invalidate x new number ip) is) ∙ ordered_here x new number ip);
}
amid x new number ip (o ∷ down) (suc i) is =
    let rest = amid x new number ip down i is in
    let to : Recall = record { new = new; number = number } in
    record {
      before = order_of x o ++ rest.before;
      behind = rest.behind;
      are = ap (λ os. order_of x o ++ os) rest.are ∙ sym (append_assoc (order_of x o) rest.before (Recalls to ∷ rest.behind));
    }

-- an order that releases an address goes to the switch that has it
release_held : (own : Mac → Option Ip4) (f : Pmac → Option Grant) (y : Pmac) (down : List ToSwitch) → AllByRecursion (IsGoodOrder own f) down → list_any (is_release_of y) down ≡ true → IsHeld f y
release_held own f y [] all any = absurd (false≢true any)
release_held own f y (say.Release x ∷ down) all any = elim (is_or_other x y) [
  | inl same ↦ (all.0.0, subst (λ z. IsHeldFor f z all.0.0) same all.0.1)
  | inr other ↦ release_held own f y down all.1 (sym (ap (λ b. b || list_any (is_release_of y) down) other) ∙ any)
]
release_held own f y (says ∷ down) all any = release_held own f y down all.1 any

traps_untold : (x : Pmac) (to : Recall) (up : List ToManager) → AllByRecursion IsNoTrap up → words_on x up ≡ Traps to ∷ [] → ⊥
traps_untold x to [] none is = absurd (cc)
traps_untold x to (tell.Trapped y new n ∷ up) none is = none.0
traps_untold x to (tell.Learned y a b ∷ up) none is = by (same_pmac y x) is (traps_untold x to up none.1)
  where
    by : (c : Bool) → (if c then Learns ∷ [] else []) ++ words_on x up ≡ Traps to ∷ [] → (words_on x up ≡ Traps to ∷ [] → ⊥) → ⊥
    by true h rest = absurd (cc)
    by false h rest = rest h
traps_untold x to (tell.Aged y n ∷ up) none is = by (same_pmac y x) is (traps_untold x to up none.1)
  where
    by : (c : Bool) → (if c then Ages n ∷ [] else []) ++ words_on x up ≡ Traps to ∷ [] → (words_on x up ≡ Traps to ∷ [] → ⊥) → ⊥
    by true h rest = absurd (cc)
    by false h rest = rest h
traps_untold x to (says ∷ up) none is = traps_untold x to up none.1 is

-- ---- what is known
nothing_known : (registered : Bool) (q : Option Reported) → knowledge registered q ≡ Nothing → q ≡ None
nothing_known registered None is = refl
nothing_known registered (Some known) is = absurd (cc)

pub record LeadsThere (q : Option Reported) (to : Recall) : Type 0 where
  pub known : Reported
  pub found : q ≡ Some known
  pub recall : known.recall ≡ Some to
  pub waits : known.aged ≡ false

known_there : (registered : Bool) (q : Option Reported) (b : Bool) (to : Recall) → knowledge registered q ≡ Knows b (Some to) false → LeadsThere q to
known_there registered None b to is = absurd (cc)
known_there registered (Some known) b to is = record { known = known; found = refl; recall = cc; waits = cc }

registered_there : (o : Option Registration) (q : Option Reported) (to : Recall) → knowledge (is_some o) q ≡ Knows true (Some to) false → (reg : Registration) × (o ≡ Some reg)
registered_there None None to is = absurd (cc)
registered_there None (Some known) to is = absurd (cc)
registered_there (Some reg) q to is = (reg, refl)

trap_leads : (h : AddressUse) (trap : Trap) → standing_trap h ≡ Some trap → use_of (Some h) ≡ Leads (record { new = trap.new; number = trap.number })
trap_leads (InUse idle) trap is = absurd (none-some trap is)
trap_leads (Trapped own age) trap is = ap (λ (t : Trap). Leads (record { new = t.new; number = t.number })) (same_Some own trap is)
trap_leads (Resting number) trap is = absurd (none-some trap is)
trap_leads Free trap is = absurd (none-some trap is)

module _ (own : Mac → Option Ip4) (plan : Plan) (view : ℕ → SwitchView) (due : ℕ → List ToManager) (orders : ℕ → List ToSwitch) (manager : ManagerView)
    (a : AreInOrder own plan view due orders manager) where
  abbrev r : Registry
  r = registry_of manager

  abbrev edge_at : ℕ → SwitchId → Edge
  edge_at t i = edge_of (Some i) (view t) (due t) (orders t)

  -- what is released is not known
  unknown_released : (t : ℕ) (i : SwitchId) → slice_get plan.ids t ≡ Some i → (y : Pmac) → list_any (is_release_of y) (orders t) ≡ true → known_at manager.learnt y ≡ None
  unknown_released t i at y any =
      let good = a.edges t i at in
      let held = release_held own (λ z. granted (view t) z) y (orders t) good.orders any in
      nothing_known (is_some (r.at y)) (r.known_at y)
      (released_unknown r.later (tenure_at r (edge_at t i) y) (good.situations y (good.placed y held.1.grant held.1.found)) (releases_ordered y (orders t) any))

  -- so what is registered is not released
  pub registered_leads_on : (y : Pmac) (reg : Registration) → r.at y ≡ Some reg → (mac : Mac) → reg.amac ≡ mac → LeadsOn plan view orders y mac
  registered_leads_on y reg is mac host =
      let too = a.registry.known_too y reg is in
      let home = a.homed y too.known too.found in
      record {
        live = record {
          switch = home.switch;
          id = home.id;
          named = home.named;
          held = subst (IsHeldFor (λ z. granted (view home.switch) z) y) host ((a.edges home.switch home.id home.named).here y reg is home.at).granted_to;
        };
        unreleased = λ t i at. elim (cases_Bool (list_any (is_release_of y) (orders t))) [
          | inr none ↦ none
          | inl any ↦ absurd (none-some too.known (sym (unknown_released t i at y any) ∙ too.found))
        ];
      }

  module _ (s : ℕ) (id : SwitchId) (named : slice_get plan.ids s ≡ Some id) (x : Pmac) where
    -- an order that recalls an address leads from it to a newer one, and both are registered
    pub order_newer : (new : Pmac) (number : ℕ) (ip : Option Ip4) (i : ℕ) → slice_get (orders s) i ≡ Some (say.Invalidate x new number ip) → IsHeld (λ z. granted (view s) z) x →
        (reg : Registration) × ((r.at x ≡ Some reg) × LeadsToNewer r x new number reg.amac)
    order_newer new number ip i waits held =
        let good = a.edges s id named in
        let to : Recall = record { new = new; number = number } in
        let among = amid x new number ip (orders s) i waits in
        let knows = recalled_known r.later (tenure_at r (edge_at s id) x) (good.situations x (good.placed x held.1.grant held.1.found)) to among.before among.behind among.are in
        let reg = registered_there (r.at x) (r.known_at x) to knows in
        let there = known_there (is_some (r.at x)) (r.known_at x) true to knows in
        (reg.0, (reg.1, a.registry.leads x reg.0 there.known to reg.1 there.found there.recall there.waits))

    -- for the host of which it is
    pub order_leads_on : (new : Pmac) (number : ℕ) (ip : Option Ip4) (i : ℕ) → slice_get (orders s) i ≡ Some (say.Invalidate x new number ip) → (mac : Mac) →
        IsHeldFor (λ z. granted (view s) z) x mac → LeadsOn plan view orders new mac
    order_leads_on new number ip i waits mac held =
        let good = a.edges s id named in
        let it = order_newer new number ip i waits (mac, held) in
        let its = (good.here x it.0 it.1.0 (good.placed x held.grant held.found)).granted_to in
        let host : it.0.amac ≡ mac = sym its.to ∙ ap (λ (g : Grant). g.amac) (same_Some its.grant held.grant (sym its.found ∙ held.found)) ∙ held.to in
        registered_leads_on new it.1.1.after it.1.1.found_after mac (it.1.1.mac_after ∙ host)

    -- a trap that stands is known, where its switch is not going to report it
    pub trap_there : (g : Grant) (trap : Trap) → granted (view s) x ≡ Some g → standing_trap g.held ≡ Some trap → is_unheard (orders s) ≡ false → AllByRecursion IsNoTrap (due s) →
        LeadsThere (known_at manager.learnt x) (record { new = trap.new; number = trap.number })
    trap_there g trap found set loud none =
        let good = a.edges s id named in
        let to : Recall = record { new = trap.new; number = trap.number } in
        elim (leads r.later (tenure_at r (edge_at s id) x) (good.situations x (good.placed x g found)) to loud
        (ap (λ (o : Option Grant). use_of (option_map (λ (q : Grant). q.held) o)) found ∙ trap_leads g.held trap set)) [
          | inl known ↦ known_there (is_some (r.at x)) (r.known_at x) known.0 to known.1
          | inr told ↦ absurd (traps_untold x to (due s) none told)
        ]

-- ---- more orders, none of which releases where a trap leads
pub more_lead : (plan : Plan) (view : ℕ → SwitchView) (orders more : ℕ → List ToSwitch) →
    ((s : ℕ) (id : SwitchId) → slice_get plan.ids s ≡ Some id → (x : Pmac) (g : Grant) (trap : Trap) → granted (view s) x ≡ Some g → standing_trap g.held ≡ Some trap →
    (t : ℕ) (i : SwitchId) → slice_get plan.ids t ≡ Some i → list_any (is_release_of trap.new) (more t) ≡ false) →
    TrapsLeadOn plan view orders → TrapsLeadOn plan view (λ t. orders t ++ more t)
more_lead plan view orders more none lead s id named x g trap found set =
    let there = lead s id named x g trap found set in
    record {
      live = there.live;
      unreleased = λ t i at.
          any_append (is_release_of trap.new) (orders t) (more t) ∙ ap (λ b. b || list_any (is_release_of trap.new) (more t)) (there.unreleased t i at)
          ∙ none s id named x g trap found set t i at;
    }

-- ---- a switch takes a turn, by this order if any
module _ (plan : Plan) (view next_view : ℕ → SwitchView) (waited next_orders : ℕ → List ToSwitch) (lead : TrapsLeadOn plan view waited) (s : ℕ) (id : SwitchId) (named : slice_get plan.ids s ≡ Some id)
    (other_views : (t : ℕ) → (t ≡ s → ⊥) → next_view t ≡ view t) (says : ToSwitch) (moved : MovesBy says (λ z. granted (view s) z) (λ z. granted (next_view s) z))
    (less : (t : ℕ) (i : SwitchId) → slice_get plan.ids t ≡ Some i → (y : Pmac) → list_any (is_release_of y) (waited t) ≡ false → list_any (is_release_of y) (next_orders t) ≡ false)
    (first : (y : Pmac) → says ≡ say.Release y → list_any (is_release_of y) (waited s) ≡ true)
    (sets : (x : Pmac) (mac : Mac) (trap : Trap) → IsSetBy says (λ z. granted (view s) z) x mac trap → LeadsOn plan view waited trap.new mac) where
  live_then : (y : Pmac) (mac : Mac) → LeadsOn plan view waited y mac → LeadsOn plan next_view next_orders y mac
  live_then y mac l = record {
    live = elim (cases_eq l.live.switch s) [
      | inl same ↦ elim (moved.holders y mac (subst (λ n. IsHeldFor (λ z. granted (view n) z) y mac) same l.live.held)) [
        | inl held ↦ record { switch = s; id = id; named = named; held = held }
        | inr gone ↦ absurd (false≢true (sym (l.unreleased s id named) ∙ first y gone))
      ]
      | inr other ↦ record {
        switch = l.live.switch;
        id = l.live.id;
        named = l.live.named;
        held = subst (λ (v : SwitchView). IsHeldFor (λ z. granted v z) y mac) (sym (other_views l.live.switch other)) l.live.held;
      }
    ];
    unreleased = λ t i at. less t i at y (l.unreleased t i at);
  }

  pub turn_leads : TrapsLeadOn plan next_view next_orders
  turn_leads t i at x g trap found set = elim (cases_eq t s) [
    | inl same ↦ elim (moved.stood x g trap (subst (λ n. granted (next_view n) x ≡ Some g) same found) set) [
      | inl was ↦ live_then trap.new g.amac (subst (LeadsOn plan view waited trap.new) was.to (lead s id named x was.grant trap was.found was.set))
      | inr now ↦ live_then trap.new g.amac (sets x g.amac trap now)
    ]
    | inr other ↦ live_then trap.new g.amac (lead t i at x g trap (ap (λ (v : SwitchView). granted v x) (sym (other_views t other)) ∙ found) set)
  ]
