-- The manager releases addresses that have aged, and the addresses of the whole fabric stay in order.
use Rattle.std.proofs.Common.{◌≡◌, ℕ, ◌&&◌, not, Bool, true, false, cond, filter, fold, List, [], ◌∷◌, ◌++◌, map, Option, Some, None, is_some, slice_get, refl, sym, ap, subst, ◌∙◌, inl, inr, append-nil, append_assoc}
use Rattle.std.specs.List.{AllByRecursion, IsDistinct}
use Rattle.std.specs.Option.{option_map}
use Rattle.std.proofs.lemmas.Bool.{and_parts, false≢true}
use Rattle.std.proofs.lemmas.List.Concat.{flat_map-append}
use Rattle.std.proofs.lemmas.Option.{none-some, same_Some}
use Rattle.pl_lemmas.proofs.Exports.{all_append}
use Rattle.pl_frame.specs.declared.address.Ip4.{Ip4}
use Rattle.pl_frame.specs.declared.address.Mac.{Mac}
use Rattle.pl_frame.specs.declared.address.SwitchId.{SwitchId}
use Rattle.pl_pmac.specs.declared.pmac.Pmac.{Pmac}
use Rattle.pl_layouts.specs.Equality.{same_pmac}
use Rattle.pl_wiring.specs.Plan.{IsPlan, Plan}
use Rattle.pl_node.specs.AddressUses.{is_held, is_in_use}
use Rattle.pl_node.specs.declared.acts.ManagerAct.{ManagerAct}
use Rattle.pl_node.specs.declared.acts.ManagerAct.TheVariants.{Say}
use Rattle.pl_node.specs.declared.address_use.AddressUse.{AddressUse}
use Rattle.pl_node.specs.declared.address_use.AddressUse.TheVariants.{Free, InUse, Resting, Trapped}
use Rattle.pl_node.specs.declared.messages.ToManager.{ToManager}
use Rattle.pl_node.specs.declared.messages.ToSwitch.{ToSwitch}
use Rattle.pl_node.specs.declared.messages.ToSwitch.TheVariants as say
use Rattle.pl_node.specs.declared.switch_records.Grant.{Grant}
use Rattle.pl_node.specs.ManagerViews.{Learnt, LearntAddress, ManagerView, Reported}
use Rattle.pl_node.specs.SwitchViews.{SwitchView}
use Rattle.pl_manager_rule.specs.ManagerRule.{LearntStep, ManagerStep, nothing_said}
use Rattle.pl_manager_rule.specs.Reports.{forgets_known, is_known_led_to, known_at, releases_as_known, releases_known}
use Rattle.pl_manager_rule.specs.Treating.{then_releases}
use Rattle.pl_manager_rule.proofs.Exports.{alone_filtered}
use Rattle.pl_switch_rule.specs.Granting.{granted, is_local}
use Rattle.pl_law_control_plane.specs.PlaneSteps.{ordered, ordered_by}
use Rattle.pl_law_due.specs.Due.{is_hello}
use Rattle.pl_law_addresses.specs.EdgeAddresses.{Edge, IsHeld, edge_of}
use Rattle.pl_law_addresses.proofs.Exports.{is_or_other, other_turned, place_is}
use Rattle.pl_law_epochs.specs.Addressed.{AreInOrder}
use Rattle.pl_law_epochs.specs.Edges.{IsGoodEdge, IsGoodOrder, Registry, is_later, is_unheard, registry_of, registry_with, tenure_at}
use Rattle.pl_law_epochs.specs.Situations.{IsIn}
use Rattle.pl_law_epochs.specs.Tenures.{knowledge, order_of, orders_on, use_of, words_on}
use Rattle.pl_law_epochs.specs.Tenures.Knowledge.{Knows, Nothing}
use Rattle.pl_law_epochs.specs.Tenures.Order.{Releases}
use Rattle.pl_law_epochs.specs.Tenures.Use.{Rests}
use Rattle.pl_law_epochs.proofs.Learnt.{Forgets, forgotten, led_nowhere}
use Rattle.pl_law_epochs.proofs.Noting.{orders_same}
use Rattle.pl_law_epochs.proofs.Orders.{asides, none_hello, ordered_all, ordered_here, unheard_more}
use Rattle.pl_law_epochs.proofs.Registries.{forgotten_good}
use Rattle.pl_law_epochs.proofs.Staying.{orders_behind, released_here, released_there, situation_kept}
use Rattle.pl_law_epochs.proofs.Treated.{IsForgotten, forgets}

-- ---- an address that rests is somebody's, and is not in use
rests_held : (v : SwitchView) (x : Pmac) (number : ℕ) → use_of (option_map (λ (g : Grant). g.held) (granted v x)) ≡ Rests number → IsHeld (λ y. granted v y) x
rests_held v x number = by (granted v x) refl
  where
    held : (h : AddressUse) → use_of (Some h) ≡ Rests number → (g : Grant) → g.held ≡ h → granted v x ≡ Some g → IsHeld (λ y. granted v y) x
    held (InUse idle) rests g is found = absurd (cc)
    held (Trapped trap age) rests g is found = absurd (cc)
    held (Resting n) rests g is found = (g.amac, record { grant = g; found = found; held = ap is_held is; to = refl })
    held Free rests g is found = absurd (cc)

    by : (o : Option Grant) → granted v x ≡ o → use_of (option_map (λ (g : Grant). g.held) o) ≡ Rests number → IsHeld (λ y. granted v y) x
    by None found rests = absurd (cc)
    by (Some g) found rests = held g.held rests g refl found

rests_unused : (h : AddressUse) (number : ℕ) → use_of (Some h) ≡ Rests number → is_in_use h ≡ true → ⊥
rests_unused (InUse idle) number rests used = absurd (cc)
rests_unused (Trapped trap age) number rests used = false≢true used
rests_unused (Resting n) number rests used = false≢true used
rests_unused Free number rests used = false≢true used

-- ---- lists without some items
apart_still : (q : LearntAddress → Bool) (p : Pmac) (addresses : List LearntAddress) → AllByRecursion (λ z. same_pmac p z ≡ false) (map (λ (a : LearntAddress). a.pmac) addresses) →
    AllByRecursion (λ z. same_pmac p z ≡ false) (map (λ (a : LearntAddress). a.pmac) (filter q addresses))
apart_still q p [] all = tt
apart_still q p (a ∷ addresses) all = by (apart_still q p addresses all.1) (q a)
  where
    by : AllByRecursion (λ z. same_pmac p z ≡ false) (map (λ (c : LearntAddress). c.pmac) (filter q addresses)) → (b : Bool) →
        AllByRecursion (λ z. same_pmac p z ≡ false) (map (λ (c : LearntAddress). c.pmac) (cond b (a ∷ filter q addresses) (filter q addresses)))
    by rest true = (all.0, rest)
    by rest false = rest

once_still : (q : LearntAddress → Bool) (addresses : List LearntAddress) → IsDistinct same_pmac (map (λ (a : LearntAddress). a.pmac) addresses) →
    IsDistinct same_pmac (map (λ (a : LearntAddress). a.pmac) (filter q addresses))
unfolding IsDistinct
once_still q [] once = tt
once_still q (a ∷ addresses) once = by (once_still q addresses once.1) (q a)
  where
    by : IsDistinct same_pmac (map (λ (c : LearntAddress). c.pmac) (filter q addresses)) → (b : Bool) →
        IsDistinct same_pmac (map (λ (c : LearntAddress). c.pmac) (cond b (a ∷ filter q addresses) (filter q addresses)))
    by rest true = (apart_still q a.pmac addresses once.0, rest)
    by rest false = rest

module _ (own : Mac → Option Ip4) (plan : Plan) (is_plan : IsPlan plan) (view : ℕ → SwitchView) (due : ℕ → List ToManager) where
  module _ (orders : ℕ → List ToSwitch) (manager : ManagerView) (a : AreInOrder own plan view due orders manager) where
    abbrev r : Registry
    r = registry_of manager

    abbrev learnt : Learnt
    learnt = manager.learnt

    -- ---- one is forgotten
    module _ (x : Pmac) (known : Reported) (is : known_at learnt x ≡ Some known) (aged : known.aged ≡ true) (nowhere : is_known_led_to learnt x ≡ false) where
      abbrev n : Registry
      n = registry_with (is_later manager) (forgets_known learnt x)

      abbrev acts : List ManagerAct
      acts = Say known.switch (say.Release x) ∷ []

      abbrev more : ℕ → List ToSwitch
      more t = ordered plan t acts

      k : Forgets r n x
      k = forgotten (is_later manager) learnt x a.alone

      knows : knowledge (is_some (r.at x)) (r.known_at x) ≡ Knows (is_some (r.at x)) known.recall true
      knows = ap (knowledge (is_some (r.at x))) is ∙ ap (λ b. Knows (is_some (r.at x)) known.recall b) aged

      abbrev edge_before : ℕ → SwitchId → Edge
      edge_before t i = edge_of (Some i) (view t) (due t) (orders t)

      abbrev edge_then : ℕ → SwitchId → Edge
      edge_then t i = edge_of (Some i) (view t) (due t) (orders t ++ more t)

      it_rests : (t : ℕ) (i : SwitchId) → slice_get plan.ids t ≡ Some i → is_local (view t) x ≡ true → IsForgotten r.later (tenure_at r (edge_before t i) x)
      it_rests t i at here = forgets r.later (tenure_at r (edge_before t i) x) ((a.edges t i at).situations x here) (is_some (r.at x)) known.recall knows

      silent : (t : ℕ) → is_unheard (more t) ≡ false
      silent t = none_hello (more t) (ordered_all plan t (λ q. is_hello q ≡ false) acts ((λ at. refl), tt))

      aside : (y : Pmac) → same_pmac y x ≡ false → (t : ℕ) → orders_on y (more t) ≡ []
      aside y other t = asides y (more t) (ordered_all plan t (λ q. order_of y q ≡ []) acts ((λ at. released_there x y (other_turned y x other)), tt))

      -- the order goes to the switch that has it
      fits : (t : ℕ) → slice_get plan.ids t ≡ Some known.switch → IsHeld (λ y. granted (view t) y) x
      fits t at =
          let home = a.homed x known is in
          let teller : home.id ≡ known.switch = same_Some home.id known.switch ((a.edges home.switch home.id home.named).tellers x known is home.at) in
          let place : home.switch ≡ t =
          same_Some home.switch t (sym (place_is plan.ids is_plan.ids_apart home.switch known.switch (home.named ∙ ap Some teller)) ∙ place_is plan.ids is_plan.ids_apart t known.switch at) in
          let rests = it_rests home.switch home.id home.named home.at in
          subst (λ m. IsHeld (λ y. granted (view m) y) x) place (rests_held (view home.switch) x rests.number rests.rested)

      waits : (t : ℕ) (i : SwitchId) → slice_get plan.ids t ≡ Some i → is_local (view t) x ≡ true → orders_on x (more t) ≡ Releases ∷ []
      waits t i at here =
          let teller = (a.edges t i at).tellers x known is here in
          ap (λ os. orders_on x (os ++ [])) (ordered_here plan t is_plan known.switch (say.Release x) (at ∙ teller)) ∙ ap (λ os. os ++ []) (released_here x)

      situations_then : (t : ℕ) (i : SwitchId) → slice_get plan.ids t ≡ Some i → (y : Pmac) → is_local (view t) y ≡ true → IsIn n.later (tenure_at n (edge_then t i) y)
      situations_then t i at y here = elim (is_or_other y x) [
        | inr other ↦
            situation_kept r n (edge_before t i) (edge_then t i) y k.later (k.alike y other) refl refl
            (orders_behind y (orders t) (more t) ∙ ap (λ os. orders_on y (orders t) ++ os) (aside y other t) ∙ append-nil (orders_on y (orders t)))
            (unheard_more (orders t) (more t) (silent t)) ((a.edges t i at).situations y here)
        | inl same ↦
            let there : is_local (view t) x ≡ true = ap (is_local (view t)) (sym same) ∙ here in
            let rests = it_rests t i at there in
            let then_orders : orders_on x (orders t) ++ Releases ∷ [] ≡ orders_on x (orders t ++ more t) =
            sym (orders_behind x (orders t) (more t) ∙ ap (λ os. orders_on x (orders t) ++ os) (waits t i at there)) in
            let path : record (tenure_at r (edge_before t i) x) { orders = orders_on x (orders t) ++ Releases ∷ []; known = Nothing } ≡ tenure_at n (edge_then t i) x =
            λ j. record {
              use_is = use_of (option_map (λ (g : Grant). g.held) (granted (view t) x));
              due = words_on x (due t);
              orders = then_orders j;
              known = knowledge (is_some (sym k.none j)) (sym k.unknown j);
              silent = sym (unheard_more (orders t) (more t) (silent t)) j;
            } in
            subst (λ z. IsIn n.later (tenure_at n (edge_then t i) z)) (sym same) (subst (IsIn r.later) path rests.then_in)
      ]

      edges_then : (t : ℕ) (i : SwitchId) → slice_get plan.ids t ≡ Some i → IsGoodEdge own n (edge_then t i)
      edges_then t i at =
          let good = a.edges t i at in
          let heard = unheard_more (orders t) (more t) (silent t) in
          record {
            placed = good.placed;
            grants = λ y g found. let it = good.grants y g found in record {
              own_ip = it.own_ip;
              told_ip = λ loud used ip has. elim (it.told_ip (sym heard ∙ loud) used ip has) [
                | inr waiting ↦ inr waiting
                | inl known_ip ↦ elim (is_or_other y x) [
                  | inr other ↦ inl (k.ip y other ∙ known_ip)
                  | inl same ↦
                      let rests = it_rests t i at (ap (is_local (view t)) (sym same) ∙ good.placed y g found) in
                      absurd (rests_unused g.held rests.number
                      (sym (ap (λ (o : Option Grant). use_of (option_map (λ (q : Grant). q.held) o)) (ap (granted (view t)) (sym same) ∙ found)) ∙ rests.rested) used)
                ]
              ];
              trap_ip = it.trap_ip;
            };
            situations = situations_then t i at;
            words = good.words;
            orders = all_append (IsGoodOrder own (λ y. granted (view t) y)) (orders t) (more t) good.orders
                (ordered_all plan t (IsGoodOrder own (λ y. granted (view t) y)) acts ((λ there. fits t there), tt));
            unheard = λ loud. good.unheard (sym heard ∙ loud);
            tellers = λ y q found here. elim (is_or_other y x) [
              | inl same ↦ absurd (none-some q (sym k.unknown ∙ ap n.known_at (sym same) ∙ found))
              | inr other ↦ good.tellers y q (sym (k.alike y other).known ∙ found) here
            ];
            here = λ y reg found here. elim (is_or_other y x) [
              | inl same ↦ absurd (none-some reg (sym k.none ∙ ap n.at (sym same) ∙ found))
              | inr other ↦
                  let h = good.here y reg (sym (k.alike y other).at ∙ found) here in
                  record {
                    too = record { known = h.too.known; found = (k.alike y other).known ∙ h.too.found; switch = h.too.switch };
                    granted_to = h.granted_to;
                  }
            ];
          }

      forgotten_in_order : AreInOrder own plan view due (λ t. orders t ++ more t) (record manager { learnt = forgets_known learnt x })
      forgotten_in_order = record {
        registry = forgotten_good own r n x k (led_nowhere (is_later manager) learnt x nowhere) a.registry;
        edges = edges_then;
        tables = a.tables;
        homed = λ y q found. elim (is_or_other y x) [
          | inl same ↦ absurd (none-some q (sym k.unknown ∙ ap n.known_at (sym same) ∙ found))
          | inr other ↦ a.homed y q (sym (k.alike y other).known ∙ found)
        ];
        once = once_still (λ q. not (same_pmac q.pmac x)) learnt.addresses a.once;
        alone = λ m. alone_filtered m (λ q. not (same_pmac q.pmac x)) learnt.addresses (a.alone m);
      }

    -- ---- where it may be
    nothing_in_order : AreInOrder own plan view due (λ t. orders t ++ []) manager
    nothing_in_order = orders_same own plan view due orders (λ t. orders t ++ []) manager (λ t. sym (append-nil (orders t))) a

    pub release_in_order : (x : Pmac) → AreInOrder own plan view due (λ t. orders t ++ ordered plan t (releases_known x learnt).acts) (record manager { learnt = (releases_known x learnt).learnt })
    release_in_order x = by (known_at learnt x) refl
      where
        not_true : (b : Bool) → not b ≡ true → b ≡ false
        not_true true h = absurd (false≢true h)
        not_true false h = refl

        may : (known : Reported) → known_at learnt x ≡ Some known → (b : Bool) → (known.aged && not (is_known_led_to learnt x)) ≡ b →
            let step = cond {A = LearntStep} b (record { learnt = forgets_known learnt x; acts = Say known.switch (say.Release x) ∷ [] }) (nothing_said learnt) in
            AreInOrder own plan view due (λ t. orders t ++ ordered plan t step.acts) (record manager { learnt = step.learnt })
        may known is false cannot = nothing_in_order
        may known is true can = let two = and_parts known.aged (not (is_known_led_to learnt x)) can in forgotten_in_order x known is two.0 (not_true (is_known_led_to learnt x) two.1)

        by : (o : Option Reported) → known_at learnt x ≡ o →
            AreInOrder own plan view due (λ t. orders t ++ ordered plan t (releases_as_known learnt x o).acts) (record manager { learnt = (releases_as_known learnt x o).learnt })
        by None is = nothing_in_order
        by (Some known) is = may known is (known.aged && not (is_known_led_to learnt x)) refl

  -- ---- one after the other
  pub releases_in_order : (xs : List Pmac) (orders : ℕ → List ToSwitch) (step : ManagerStep) → AreInOrder own plan view due (λ t. orders t ++ ordered plan t step.acts) step.view →
      AreInOrder own plan view due (λ t. orders t ++ ordered plan t (fold then_releases step xs).acts) (fold then_releases step xs).view
  releases_in_order [] orders step a = a
  releases_in_order (x ∷ xs) orders step a =
      let done = releases_known x step.view.learnt in
      releases_in_order xs orders (then_releases step x)
      (orders_same own plan view due (λ t. (orders t ++ ordered plan t step.acts) ++ ordered plan t done.acts) (λ t. orders t ++ ordered plan t (step.acts ++ done.acts))
      (then_releases step x).view
      (λ t. append_assoc (orders t) (ordered plan t step.acts) (ordered plan t done.acts) ∙ ap (λ os. orders t ++ os) (sym (flat_map-append (ordered_by plan t) step.acts done.acts)))
      (release_in_order (λ t. orders t ++ ordered plan t step.acts) step.view a x))
