-- The manager is told that an address has aged, or that a trap stands for it, and the addresses of the whole fabric stay in order.
use mathlib.Core.Path.{fun_ext}
use Rattle.std.proofs.Common.{◌≡◌, ℕ, ◌==◌, ◌||◌, not, Bool, true, false, cond, List, [], ◌∷◌, ◌++◌, map, Option, Some, None, is_some, slice_get, refl, sym, ap, subst, ◌∙◌, inl, inr, append-nil}
use Rattle.std.specs.List.{IsDistinct}
use Rattle.std.proofs.lemmas.Bool.{false≢true}
use Rattle.std.proofs.lemmas.Option.{none-some, same_Some}
use Rattle.pl_frame.specs.declared.address.Ip4.{Ip4}
use Rattle.pl_frame.specs.declared.address.Mac.{Mac}
use Rattle.pl_frame.specs.declared.address.SwitchId.{SwitchId}
use Rattle.pl_pmac.specs.declared.pmac.Pmac.{Pmac}
use Rattle.pl_layouts.specs.Equality.{same_pmac}
use Rattle.pl_wiring.specs.Plan.{Plan}
use Rattle.pl_node.specs.declared.messages.ToManager.{ToManager}
use Rattle.pl_node.specs.declared.messages.ToSwitch.{ToSwitch}
use Rattle.pl_node.specs.ManagerViews.{Learnt, LearntAddress, ManagerView, Recall, Registration, Reported, number_behind, registration}
use Rattle.pl_node.specs.SwitchViews.{SwitchView}
use Rattle.pl_manager_rule.specs.ManagerRule.{ages_now}
use Rattle.pl_manager_rule.specs.Repeats.{AreAlone}
use Rattle.pl_manager_rule.specs.Reports.{counts_as, known_at, with_aged_as, with_trap_as}
use Rattle.pl_manager_rule.specs.Treating.{Treating, at_rest, notes_aged, notes_trap}
use Rattle.pl_manager_rule.proofs.Exports.{alone_mapped}
use Rattle.pl_switch_rule.specs.Granting.{granted, is_local}
use Rattle.pl_law_addresses.specs.EdgeAddresses.{IsHeld, tells_ip}
use Rattle.pl_law_addresses.proofs.Exports.{is_or_other}
use Rattle.pl_law_epochs.specs.Addressed.{AreApart, AreInOrder}
use Rattle.pl_law_epochs.specs.Edges.{Registry, is_later, is_unheard, registry_of, registry_with}
use Rattle.pl_law_epochs.specs.Tenures.{Knowledge, Said, knowledge, said_of, treats}
use Rattle.pl_law_epochs.specs.Tenures.Knowledge.{Knows, Nothing}
use Rattle.pl_law_epochs.specs.Tenures.Said.{Ages, Traps}
use Rattle.pl_law_epochs.proofs.Learnt.{Notes, aged_notes, led_notes, pushed_notes, reported_at, unknown_unregistered, unregistered_reported}
use Rattle.pl_law_epochs.proofs.Registries.{IsFitting, notes_good}
use Rattle.pl_law_epochs.proofs.Treating.{at_sender, noted, void}

-- where the orders of each switch are the same
pub orders_same : (own : Mac → Option Ip4) (plan : Plan) (view : ℕ → SwitchView) (due : ℕ → List ToManager) (orders new : ℕ → List ToSwitch) (manager : ManagerView) →
    ((t : ℕ) → orders t ≡ new t) → AreInOrder own plan view due orders manager → AreInOrder own plan view due new manager
orders_same own plan view due orders new manager same a = subst (λ o. AreInOrder own plan view due o manager) (fun_ext same) a

pmacs_aged : (x : Pmac) (addresses : List LearntAddress) → map (λ (a : LearntAddress). a.pmac) (map (ages_now x) addresses) ≡ map (λ (a : LearntAddress). a.pmac) addresses
pmacs_aged x [] = refl
pmacs_aged x (a ∷ addresses) = ap (λ ps. a.pmac ∷ ps) (pmacs_aged x addresses)

module _ (own : Mac → Option Ip4) (plan : Plan) (view : ℕ → SwitchView) (apart : AreApart view) (due : ℕ → List ToManager) (orders : ℕ → List ToSwitch) (manager : ManagerView)
    (a : AreInOrder own plan view due orders manager) (s : ℕ) (id : SwitchId) (named : slice_get plan.ids s ≡ Some id) (told : ToManager)
    (left : ℕ → List ToManager) (head : due s ≡ told ∷ left s) (others : (t : ℕ) → (t ≡ s → ⊥) → left t ≡ due t) (loud : is_unheard (orders s) ≡ false)
    (x : Pmac) (word : Said) (is : said_of x told ≡ word ∷ []) (aside : (y : Pmac) → same_pmac y x ≡ false → said_of y told ≡ []) (quiet_ip : (y : Pmac) → tells_ip y told ≡ false)
    (held : IsHeld (λ y. granted (view s) y) x) where
  abbrev r : Registry
  r = registry_of manager

  abbrev learnt : Learnt
  learnt = manager.learnt

  abbrev knows : Knowledge
  knows = knowledge (is_some (registration learnt x)) (known_at learnt x)

  ended : (now : Learnt) → AreInOrder own plan view left (λ t. orders t ++ []) (record manager { learnt = now }) → AreInOrder own plan view left orders (record manager { learnt = now })
  ended now there = orders_same own plan view left (λ t. orders t ++ []) orders (record manager { learnt = now }) (λ t. append-nil (orders t)) there

  void_in_order : knows ≡ treats (is_later manager) knows word → AreInOrder own plan view left orders manager
  void_in_order same = ended learnt (record {
    registry = a.registry;
    edges = void own plan view apart due orders manager a s id named told left head others loud x word is aside quiet_ip held same;
    tables = a.tables;
    homed = a.homed;
    once = a.once;
    alone = a.alone;
  })

  -- who tells it is at its place
  told_by : (t : ℕ) (i : SwitchId) → slice_get plan.ids t ≡ Some i → is_local (view t) x ≡ true → i ≡ id
  told_by t i at here =
      let local = at_sender own plan view apart due orders manager a s id named told left head others loud x held in
      let place : s ≡ t = apart s t x local here in
      same_Some i id (sym at ∙ ap (slice_get plan.ids) (sym place) ∙ named)

  noted_in_order : (now : Learnt) (known : Reported) → Notes r (registry_with (is_later manager) now) x known → ((reg : Registration) → r.at x ≡ Some reg → IsFitting r x known) →
      ((t : ℕ) (i : SwitchId) → slice_get plan.ids t ≡ Some i → is_local (view t) x ≡ true → i ≡ known.switch) →
      knowledge (is_some (registration now x)) (known_at now x) ≡ treats (is_later manager) knows word →
      IsDistinct same_pmac (map (λ a. a.pmac) now.addresses) → ((m : Mac) → AreAlone m now.addresses) → AreInOrder own plan view left orders (record manager { learnt = now })
  noted_in_order now known k fits teller same once alone = ended now (record {
    registry = notes_good own r (registry_with (is_later manager) now) x known k fits a.registry;
    edges = noted own plan view apart due orders manager a s id named told left head others loud x word is aside quiet_ip held (registry_with (is_later manager) now) known k fits teller same;
    tables = a.tables;
    homed = λ y q at. elim (is_or_other y x) [
      | inr other ↦ a.homed y q (sym (k.others y other) ∙ at)
      | inl here ↦ record {
        switch = s;
        id = id;
        named = named;
        at = ap (is_local (view s)) here ∙ at_sender own plan view apart due orders manager a s id named told left head others loud x held;
      }
    ];
    once = once;
    alone = alone;
  })

  -- ---- it was not known
  pushed_in_order : known_at learnt x ≡ None → (to : Option Recall) (aged : Bool) →
      Knows false to aged ≡ treats (is_later manager) Nothing word →
      AreInOrder own plan view left orders (record manager { learnt = record learnt { reported = learnt.reported ++ record { switch = id; pmac = x; recall = to; aged = aged } ∷ [] } })
  pushed_in_order none to aged same =
      let new : Reported = record { switch = id; pmac = x; recall = to; aged = aged } in
      let now : Learnt = record learnt { reported = learnt.reported ++ new ∷ [] } in
      let k = pushed_notes (is_later manager) learnt new none in
      let unregistered = unknown_unregistered learnt x none in
      noted_in_order now new k (λ reg at. absurd (none-some reg (sym unregistered ∙ at))) told_by
      ((λ j. knowledge (is_some (unregistered j)) (k.here j)) ∙ same ∙ sym (λ j. treats (is_later manager) (knowledge (is_some (unregistered j)) (none j)) word)) a.once a.alone

  -- ---- it has aged
  module _ (number : ℕ) (ages : word ≡ Ages number) where
    known_ages : (known : Reported) → known_at learnt x ≡ Some known → (b : Bool) → (number == number_behind known.recall) ≡ b →
        AreInOrder own plan view left orders (cond {A = Treating} b (record { view = record manager { learnt = with_aged_as learnt id x (Some known) }; aged = x ∷ [] }) (at_rest manager)).view
    known_ages known at false void_number =
        void_in_order (
        ap (knowledge (is_some (registration learnt x))) at
        ∙ ap (λ c. Knows (is_some (registration learnt x)) known.recall (c || known.aged)) (sym void_number)
        ∙ sym ((λ j. treats (is_later manager) (knowledge (is_some (registration learnt x)) (at j)) (ages j)))
        )
    known_ages known at true counting =
        let now : Learnt = with_aged_as learnt id x (Some known) in
        let k = aged_notes (is_later manager) learnt id x known at in
        noted_in_order now (record known { aged = true }) k
        (λ reg there. record { known = known; found = at; recall = refl; switch = refl; aged = λ not. absurd (false≢true (sym not)) })
        (λ t i there here. same_Some i known.switch ((a.edges t i there).tellers x known at here))
        (
        (λ j. knowledge (is_some (k.at x j)) (k.here j))
        ∙ ap (λ c. Knows (is_some (registration learnt x)) known.recall (c || known.aged)) (sym counting)
        ∙ sym ((λ j. treats (is_later manager) (knowledge (is_some (registration learnt x)) (at j)) (ages j)))
        )
        (subst (IsDistinct same_pmac) (sym (pmacs_aged x learnt.addresses)) a.once)
        (λ m. alone_mapped m (ages_now x) (λ q h. h) learnt.addresses (a.alone m))

    unknown_ages : known_at learnt x ≡ None → (b : Bool) → is_later manager ≡ b →
        AreInOrder own plan view left orders (cond {A = Treating} b (record { view = record manager { learnt = with_aged_as learnt id x None }; aged = x ∷ [] }) (at_rest manager)).view
    unknown_ages none false first =
        let unregistered = unknown_unregistered learnt x none in
        void_in_order ((λ j. knowledge (is_some (unregistered j)) (none j)) ∙ sym (λ j. treats (first j) (knowledge (is_some (unregistered j)) (none j)) (ages j)))
    unknown_ages none true later = pushed_in_order none None true (sym (λ j. treats (later j) Nothing (ages j)))

    pub ages_in_order : AreInOrder own plan view left orders (notes_aged (at_rest manager) id x number).view
    ages_in_order = by (known_at learnt x) refl
      where
        by : (o : Option Reported) → known_at learnt x ≡ o →
            AreInOrder own plan view left orders
            (cond {A = Treating} (counts_as manager.epoch number o) (record { view = record manager { learnt = with_aged_as learnt id x o }; aged = x ∷ [] }) (at_rest manager)).view
        by None none = unknown_ages none (is_later manager) refl
        by (Some known) at = known_ages known at (number == number_behind known.recall) refl

  -- ---- a trap stands
  module _ (to : Recall) (traps : word ≡ Traps to) where
    first_keeps : (k : Knowledge) → k ≡ treats false k (Traps to)
    first_keeps Nothing = refl
    first_keeps (Knows true led aged) = refl
    first_keeps (Knows false led aged) = refl

    registered_keeps : (later : Bool) (k : Knowledge) (o : Option Registration) (q : Option Reported) (reg : Registration) → o ≡ Some reg → (known : Reported) → q ≡ Some known →
        knowledge (is_some o) q ≡ treats later (knowledge (is_some o) q) (Traps to)
    registered_keeps later k o q reg is known at =
        (λ j. knowledge (is_some (is j)) (at j)) ∙ sym (λ j. treats later (knowledge (is_some (is j)) (at j)) (Traps to))

    led_in_order : registration learnt x ≡ None → is_later manager ≡ true → (o : Option Reported) → reported_at learnt.reported x ≡ o →
        AreInOrder own plan view left orders (record manager { learnt = with_trap_as learnt id x to o })
    led_in_order unregistered later None none =
        pushed_in_order (unregistered_reported learnt x unregistered ∙ none) (Some to) false (sym (λ j. treats (later j) Nothing (traps j)))
    led_in_order unregistered later (Some known) at =
        let now : Learnt = with_trap_as learnt id x to (Some known) in
        let k = led_notes (is_later manager) learnt id x to unregistered known at in
        let knew : known_at learnt x ≡ Some known = unregistered_reported learnt x unregistered ∙ at in
        noted_in_order now (record known { recall = Some to; aged = false }) k (λ reg there. absurd (none-some reg (sym unregistered ∙ there)))
        (λ t i there here. same_Some i known.switch ((a.edges t i there).tellers x known knew here))
        ((λ j. knowledge (is_some (unregistered j)) (k.here j)) ∙ sym (λ j. treats (later j) (knowledge (is_some (unregistered j)) (knew j)) (traps j))) a.once a.alone

    pub traps_in_order : AreInOrder own plan view left orders (notes_trap (at_rest manager) id x to).view
    traps_in_order = by (manager.epoch == 0) refl (registration learnt x) refl
      where
        by : (b : Bool) → (manager.epoch == 0) ≡ b → (o : Option Registration) → registration learnt x ≡ o →
            AreInOrder own plan view left orders
            (record manager { learnt = cond {A = Learnt} (b || is_some o) learnt (with_trap_as learnt id x to (reported_at learnt.reported x)) })
        by true first o there = void_in_order (first_keeps knows ∙ sym (λ j. treats (not (first j)) knows (traps j)))
        by false later (Some reg) there =
            let too = a.registry.known_too x reg there in
            void_in_order (registered_keeps (is_later manager) knows (registration learnt x) (known_at learnt x) reg there too.known too.found ∙ sym (λ j. treats (is_later manager) knows (traps j)))
        by false later None there = led_in_order there (ap not later) (reported_at learnt.reported x) refl
