-- The manager treats a word of one switch, and the addresses of the whole fabric stay in order: what goes for each word.
use Rattle.std.proofs.Common.{◌≡◌, ℕ, true, false, List, [], ◌∷◌, ◌++◌, Option, Some, is_some, slice_get, refl, sym, ap, subst, ◌∙◌, inl, inr, append-nil}
use Rattle.std.specs.List.{AllByRecursion}
use Rattle.std.proofs.lemmas.Bool.{cases_eq}
use Rattle.std.proofs.lemmas.Option.{same_Some}
use Rattle.pl_lemmas.proofs.Exports.{all_append}
use Rattle.pl_frame.specs.declared.address.Ip4.{Ip4}
use Rattle.pl_frame.specs.declared.address.Mac.{Mac}
use Rattle.pl_frame.specs.declared.address.SwitchId.{SwitchId}
use Rattle.pl_pmac.specs.declared.pmac.Pmac.{Pmac}
use Rattle.pl_layouts.specs.Equality.{same_pmac}
use Rattle.pl_wiring.specs.Plan.{Plan}
use Rattle.pl_node.specs.declared.messages.ToManager.{ToManager}
use Rattle.pl_node.specs.declared.messages.ToSwitch.{ToSwitch}
use Rattle.pl_node.specs.ManagerViews.{ManagerView, Registration, Reported}
use Rattle.pl_node.specs.SwitchViews.{SwitchView}
use Rattle.pl_switch_rule.specs.Granting.{granted, is_local}
use Rattle.pl_switch_rule.proofs.Exports.{granted_parts}
use Rattle.pl_law_addresses.specs.EdgeAddresses.{Edge, IsHeld, edge_of, tells_ip}
use Rattle.pl_law_addresses.proofs.Exports.{is_or_other}
use Rattle.pl_law_epochs.specs.Addressed.{AreApart, AreInOrder}
use Rattle.pl_law_epochs.specs.Edges.{IsGoodEdge, IsGoodOrder, IsGoodRegistry, IsGoodWord, IsRegisteredHere, Registry, is_unheard, registry_of, tenure_at}
use Rattle.pl_law_epochs.specs.Situations.{IsIn}
use Rattle.pl_law_epochs.specs.Tenures.{Said, knowledge, orders_on, said_of, treats, words_on}
use Rattle.pl_law_epochs.proofs.Hearing.{IsTakenFrom, KeepsIps, heard_good, nothing_taken, quiet_taken}
use Rattle.pl_law_epochs.proofs.Learnt.{Notes}
use Rattle.pl_law_epochs.proofs.Orders.{unheard_more}
use Rattle.pl_law_epochs.proofs.Registries.{IsFitting, notes_good}
use Rattle.pl_law_epochs.proofs.Staying.{KnowsAlike, knows_same, orders_behind, situation_kept}
use Rattle.pl_law_epochs.proofs.Treated.{first_word}

module _ (own : Mac → Option Ip4) (plan : Plan) (view : ℕ → SwitchView) (apart : AreApart view) (due : ℕ → List ToManager) (orders : ℕ → List ToSwitch) (manager : ManagerView)
    (a : AreInOrder own plan view due orders manager) where
  abbrev r : Registry
  r = registry_of manager

  module _ (s : ℕ) (id : SwitchId) (named : slice_get plan.ids s ≡ Some id) (told : ToManager) (left : ℕ → List ToManager) (first : due s ≡ told ∷ left s)
      (others : (t : ℕ) → (t ≡ s → ⊥) → left t ≡ due t) (loud : is_unheard (orders s) ≡ false) where
    abbrev edge_before : ℕ → SwitchId → Edge
    edge_before t i = edge_of (Some i) (view t) (due t) (orders t)

    -- what is said is so
    pub said : IsGoodWord own (λ y. granted (view s) y) told
    said =
        let all : AllByRecursion (IsGoodWord own (λ y. granted (view s) y)) (told ∷ left s) = subst (AllByRecursion (IsGoodWord own (λ y. granted (view s) y))) first (a.edges s id named).words in
        all.0

    pub at_sender : (x : Pmac) → IsHeld (λ y. granted (view s) y) x → is_local (view s) x ≡ true
    at_sender x held = (granted_parts (view s) x held.1.grant held.1.found).0

    pub words_still : (y : Pmac) → said_of y told ≡ [] → (t : ℕ) → words_on y (left t) ≡ words_on y (due t)
    words_still y quiet t = elim (cases_eq t s) [
      | inr other ↦ ap (words_on y) (others t other)
      | inl same ↦
          ap (λ m. words_on y (left m)) same ∙ sym (ap (λ ws. ws ++ words_on y (left s)) quiet) ∙ sym (ap (words_on y) first) ∙ ap (λ m. words_on y (due m)) (sym same)
    ]

    module _ (n : Registry) (later : n.later ≡ r.later) (more : ℕ → List ToSwitch) (plain : (t : ℕ) → is_unheard (more t) ≡ false) where
      abbrev edge_then : ℕ → SwitchId → Edge
      edge_then t i = edge_of (Some i) (view t) (left t) (orders t ++ more t)

      -- an address that is not told about, of which the manager knows the same, and does not speak
      pub other_situation : (t : ℕ) (i : SwitchId) → slice_get plan.ids t ≡ Some i → (y : Pmac) → is_local (view t) y ≡ true → said_of y told ≡ [] → KnowsAlike r n y →
          orders_on y (more t) ≡ [] → IsIn n.later (tenure_at n (edge_then t i) y)
      other_situation t i there y at quiet alike none =
          situation_kept r n (edge_before t i) (edge_then t i) y later alike refl (words_still y quiet t)
          (orders_behind y (orders t) (more t) ∙ ap (λ os. orders_on y (orders t) ++ os) none ∙ append-nil (orders_on y (orders t)))
          (unheard_more (orders t) (more t) (plain t)) ((a.edges t i there).situations y at)

      -- the address that is told about: it is of the switch that tells
      pub told_situation : (x : Pmac) (word : Said) → said_of x told ≡ word ∷ [] → is_local (view s) x ≡ true →
          knowledge (is_some (n.at x)) (n.known_at x) ≡ treats r.later (knowledge (is_some (r.at x)) (r.known_at x)) word → orders_on x (more s) ≡ [] →
          (t : ℕ) (i : SwitchId) → is_local (view t) x ≡ true → IsIn n.later (tenure_at n (edge_then t i) x)
      told_situation x word is local known none t i at =
          let e = edge_before s id in
          let head : words_on x (due s) ≡ word ∷ words_on x (left s) = ap (words_on x) first ∙ ap (λ ws. ws ++ words_on x (left s)) is in
          let ordered : orders_on x (orders s ++ more s) ≡ orders_on x (orders s) =
          orders_behind x (orders s) (more s) ∙ ap (λ os. orders_on x (orders s) ++ os) none ∙ append-nil (orders_on x (orders s)) in
          let path : record (tenure_at r e x) { due = words_on x (left s); known = treats r.later (tenure_at r e x).known word } ≡ tenure_at n (edge_then s i) x =
          λ j. record {
            use_is = (tenure_at r e x).use_is;
            due = words_on x (left s);
            orders = sym ordered j;
            known = sym known j;
            silent = sym (unheard_more (orders s) (more s) (plain s)) j;
          } in
          let here = first_word r.later (tenure_at r e x) ((a.edges s id named).situations x local) loud word (words_on x (left s)) head in
          subst (λ b. IsIn b (tenure_at n (edge_then t i) x)) (sym later)
          (subst (λ m. IsIn r.later (tenure_at n (edge_of (Some i) (view m) (left m) (orders m ++ more m)) x)) (apart s t x local at) (subst (IsIn r.later) path here))

      -- all that has to be known
      pub record IsTreated : Type 0 where
        pub registry : IsGoodRegistry own n
        pub ip_stays : KeepsIps r n
        pub taken : IsTakenFrom own n (edge_before s id) (left s)
        pub orders_good : (t : ℕ) (i : SwitchId) → slice_get plan.ids t ≡ Some i → AllByRecursion (IsGoodOrder own (λ y. granted (view t) y)) (more t)
        pub tellers : (t : ℕ) (i : SwitchId) → slice_get plan.ids t ≡ Some i → (y : Pmac) (known : Reported) → n.known_at y ≡ Some known → is_local (view t) y ≡ true → Some i ≡ Some known.switch
        pub here : (t : ℕ) (i : SwitchId) → slice_get plan.ids t ≡ Some i → (y : Pmac) (reg : Registration) → n.at y ≡ Some reg → is_local (view t) y ≡ true →
            IsRegisteredHere n (λ z. granted (view t) z) y reg
        pub situations : (t : ℕ) (i : SwitchId) → slice_get plan.ids t ≡ Some i → (y : Pmac) → is_local (view t) y ≡ true → IsIn n.later (tenure_at n (edge_then t i) y)

      taken_at : IsTakenFrom own n (edge_before s id) (left s) → (t : ℕ) (i : SwitchId) → slice_get plan.ids t ≡ Some i → IsTakenFrom own n (edge_before t i) (left t)
      taken_at here t i there = elim (cases_eq t s) [
        | inr other ↦
            subst (IsTakenFrom own n (edge_before t i)) (sym (others t other)) (nothing_taken own r n (edge_before t i) (a.edges t i there))
        | inl same ↦ subst (λ m. IsTakenFrom own n (edge_of (Some i) (view m) (due m) (orders m)) (left m)) (sym same) (record { words = here.words; told_ip = here.told_ip })
      ]

      pub edges_then : IsTreated → (t : ℕ) (i : SwitchId) → slice_get plan.ids t ≡ Some i → IsGoodEdge own n (edge_then t i)
      edges_then h t i there =
          let good = a.edges t i there in
          heard_good own r n (edge_before t i) good (left t) (orders t ++ more t) (record {
            registry = h.registry;
            later = later;
            ip_stays = h.ip_stays;
            taken = taken_at h.taken t i there;
            orders = all_append (IsGoodOrder own (λ y. granted (view t) y)) (orders t) (more t) good.orders (h.orders_good t i there);
            heard = unheard_more (orders t) (more t) (plain t);
            tellers = h.tellers t i there;
            here = h.here t i there;
            situations = h.situations t i there;
          })

    -- ---- a word that is about no address, and orders that speak of none
    pub plain_treated : ((y : Pmac) → said_of y told ≡ []) → ((y : Pmac) → tells_ip y told ≡ false) → (more : ℕ → List ToSwitch) →
        ((t : ℕ) → is_unheard (more t) ≡ false) → ((t : ℕ) (y : Pmac) → orders_on y (more t) ≡ []) →
        ((t : ℕ) (i : SwitchId) → slice_get plan.ids t ≡ Some i → AllByRecursion (IsGoodOrder own (λ y. granted (view t) y)) (more t)) →
        (t : ℕ) (i : SwitchId) → slice_get plan.ids t ≡ Some i → IsGoodEdge own r (edge_of (Some i) (view t) (left t) (orders t ++ more t))
    plain_treated quiet quiet_ip more plain aside good = edges_then r refl more plain (record {
      registry = a.registry;
      ip_stays = λ y ip h. (ip, h);
      taken = quiet_taken own r r (edge_before s id) (a.edges s id named) told (left s) first quiet_ip;
      orders_good = good;
      tellers = λ t i there y known is at. (a.edges t i there).tellers y known is at;
      here = λ t i there y reg is at. (a.edges t i there).here y reg is at;
      situations = λ t i there y at. other_situation r refl more plain t i there y at (quiet y) (knows_same r y) (aside t y);
    })

    -- ---- a word that has something noted of an address, or changes nothing of it
    module _ (x : Pmac) (word : Said) (is : said_of x told ≡ word ∷ []) (aside : (y : Pmac) → same_pmac y x ≡ false → said_of y told ≡ []) (quiet_ip : (y : Pmac) → tells_ip y told ≡ false)
        (held : IsHeld (λ y. granted (view s) y) x) where
      abbrev none : ℕ → List ToSwitch
      none t = []

      pub void : knowledge (is_some (r.at x)) (r.known_at x) ≡ treats r.later (knowledge (is_some (r.at x)) (r.known_at x)) word → (t : ℕ) (i : SwitchId) → slice_get plan.ids t ≡ Some i →
          IsGoodEdge own r (edge_of (Some i) (view t) (left t) (orders t ++ []))
      void same = edges_then r refl none (λ t. refl) (record {
        registry = a.registry;
        ip_stays = λ y ip h. (ip, h);
        taken = quiet_taken own r r (edge_before s id) (a.edges s id named) told (left s) first quiet_ip;
        orders_good = λ t i there. tt;
        tellers = λ t i there y known is at. (a.edges t i there).tellers y known is at;
        here = λ t i there y reg is at. (a.edges t i there).here y reg is at;
        situations = λ t i there y at. elim (is_or_other y x) [
          | inr other ↦ other_situation r refl none (λ u. refl) t i there y at (aside y other) (knows_same r y) refl
          | inl here ↦
              subst (λ z. IsIn r.later (tenure_at r (edge_then r refl none (λ u. refl) t i) z)) (sym here)
              (told_situation r refl none (λ u. refl) x word is (at_sender x held) same refl t i (ap (is_local (view t)) (sym here) ∙ at))
        ];
      })

      pub noted : (n : Registry) (now : Reported) → Notes r n x now → ((reg : Registration) → r.at x ≡ Some reg → IsFitting r x now) →
          ((t : ℕ) (i : SwitchId) → slice_get plan.ids t ≡ Some i → is_local (view t) x ≡ true → i ≡ now.switch) →
          knowledge (is_some (n.at x)) (n.known_at x) ≡ treats r.later (knowledge (is_some (r.at x)) (r.known_at x)) word → (t : ℕ) (i : SwitchId) → slice_get plan.ids t ≡ Some i →
          IsGoodEdge own n (edge_of (Some i) (view t) (left t) (orders t ++ []))
      noted n now k fits teller same = edges_then n k.later none (λ t. refl) (record {
        registry = notes_good own r n x now k fits a.registry;
        ip_stays = λ y ip h. (ip, k.ip y ∙ h);
        taken = quiet_taken own r n (edge_before s id) (a.edges s id named) told (left s) first quiet_ip;
        orders_good = λ t i there. tt;
        tellers = λ t i there y known knows at. elim (is_or_other y x) [
          | inr other ↦ (a.edges t i there).tellers y known (sym (k.others y other) ∙ knows) at
          | inl here ↦
              let one : now ≡ known = same_Some now known (sym k.here ∙ ap n.known_at (sym here) ∙ knows) in
              ap Some (teller t i there (ap (is_local (view t)) (sym here) ∙ at) ∙ ap (λ (q : Reported). q.switch) one)
        ];
        here = λ t i there y reg knows at.
            let h = (a.edges t i there).here y reg (sym (k.at y) ∙ knows) at in
            record {
              too = (notes_good own r n x now k fits a.registry).known_too y reg knows;
              granted_to = h.granted_to;
            };
        situations = λ t i there y at. elim (is_or_other y x) [
          | inr other ↦ other_situation n k.later none (λ u. refl) t i there y at (aside y other) (record { at = k.at y; known = k.others y other }) refl
          | inl here ↦
              subst (λ z. IsIn n.later (tenure_at n (edge_then n k.later none (λ u. refl) t i) z)) (sym here)
              (told_situation n k.later none (λ u. refl) x word is (at_sender x held) same refl t i (ap (is_local (view t)) (sym here) ∙ at))
        ];
      })
