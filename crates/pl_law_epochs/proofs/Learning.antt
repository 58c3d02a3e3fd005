-- The manager is told an address, and the addresses of the whole fabric stay in order.
use Rattle.std.proofs.Common.{◌≡◌, ℕ, ◌+◌, Bool, true, false, List, [], ◌∷◌, ◌++◌, Option, Some, None, is_some, slice_get, refl, sym, ap, subst, ◌∙◌, inl, inr, arith}
use Rattle.std.specs.List.{AllByRecursion}
use Rattle.std.specs.Option.{option_or}
use Rattle.std.proofs.lemmas.Option.{none-some, same_Some}
use Rattle.pl_frame.specs.declared.address.Ip4.{Ip4}
use Rattle.pl_frame.specs.declared.address.Mac.{Mac}
use Rattle.pl_frame.specs.declared.address.SwitchId.{SwitchId}
use Rattle.pl_pmac.specs.declared.pmac.Pmac.{Pmac}
use Rattle.pl_layouts.specs.Equality.{same_pmac}
use Rattle.pl_wiring.specs.Plan.{IsPlan, Plan}
use Rattle.pl_node.specs.declared.acts.ManagerAct.{ManagerAct}
use Rattle.pl_node.specs.declared.acts.ManagerAct.TheVariants.{Number}
use Rattle.pl_node.specs.declared.messages.ToManager.{ToManager}
use Rattle.pl_node.specs.declared.messages.ToManager.TheVariants as tell
use Rattle.pl_node.specs.declared.messages.ToSwitch.{ToSwitch}
use Rattle.pl_node.specs.declared.messages.ToSwitch.TheVariants as say
use Rattle.pl_node.specs.declared.switch_records.Grant.{Grant}
use Rattle.pl_node.specs.ManagerViews.{Learnt, ManagerView, Recall, Registration, Reported, ip_of}
use Rattle.pl_node.specs.SwitchViews.{SwitchView}
use Rattle.pl_manager_rule.specs.ManagerRule.{invalidation, is_registered, with_learnt}
use Rattle.pl_switch_rule.specs.Granting.{granted, is_local}
use Rattle.pl_law_control_plane.specs.PlaneSteps.{ordered}
use Rattle.pl_law_due.specs.Due.{is_hello}
use Rattle.pl_law_addresses.specs.EdgeAddresses.{Edge, IsGoodRecall, IsHeldFor, edge_of}
use Rattle.pl_law_addresses.specs.OwnAddresses.{IsOwnIp}
use Rattle.pl_law_addresses.proofs.Exports.{is_or_other, other_turned, place_is}
use Rattle.pl_law_epochs.specs.Addressed.{AreApart, AreInOrder, HasHome}
use Rattle.pl_law_epochs.specs.Edges.{IsGoodEdge, IsGoodOrder, IsGoodRegistry, Registry, is_later, is_unheard, registry_of, registry_with, tenure_at}
use Rattle.pl_law_epochs.specs.Situations.{IsIn}
use Rattle.pl_law_epochs.specs.Tenures.{Knowledge, knowledge, order_of, orders_on, treats, words_on}
use Rattle.pl_law_epochs.specs.Tenures.Knowledge.{Knows}
use Rattle.pl_law_epochs.specs.Tenures.Order.{Recalls}
use Rattle.pl_law_epochs.specs.Tenures.Said.{Learns}
use Rattle.pl_law_epochs.proofs.Hearing.{word_taken}
use Rattle.pl_law_epochs.proofs.Orders.{ArePlain, asides, for_weaker, IsActFor, IsPlain, none_hello, ordered_all, ordered_here, plain_aside, plain_good, plain_known, unheard_more}
use Rattle.pl_law_epochs.proofs.Registering.{HearsAgain, HearsIp, HearsNew, again, first, hears_ip}
use Rattle.pl_law_epochs.proofs.Registries.{again_good, new_good, new_grows, new_or_old}
use Rattle.pl_law_epochs.proofs.Staying.{orders_behind, ordered_here as recall_here, ordered_there, told_here, told_there}
use Rattle.pl_law_epochs.proofs.Treated.{recalls}
use Rattle.pl_law_epochs.proofs.Treating.{edges_then, other_situation, said, told_situation, words_still}

-- ---- what a told address makes of what is known of it
registered_knows : (o : Option Registration) (q : Option Reported) (reg : Registration) (known : Reported) → o ≡ Some reg → q ≡ Some known →
    knowledge (is_some o) q ≡ Knows true known.recall known.aged
registered_knows o q reg known is knows = λ i. knowledge (is_some (is i)) (knows i)

treats_again : (later : Bool) (k : Knowledge) (to : Option Recall) (aged : Bool) → k ≡ Knows true to aged → k ≡ treats later k Learns
treats_again later k to aged is = is ∙ ap (λ q. treats later q Learns) (sym is)

treats_first : (later : Bool) (q : Option Reported) → treats later (knowledge false q) Learns ≡ Knows true None false
treats_first later None = refl
treats_first later (Some known) = refl

module _ (own : Mac → Option Ip4) (plan : Plan) (is_plan : IsPlan plan) (view : ℕ → SwitchView) (apart : AreApart view) (due : ℕ → List ToManager) (orders : ℕ → List ToSwitch)
    (manager : ManagerView) (a : AreInOrder own plan view due orders manager) (s : ℕ) (id : SwitchId) (named : slice_get plan.ids s ≡ Some id) (x : Pmac) (mac : Mac) (ip : Option Ip4)
    (left : ℕ → List ToManager) (head : due s ≡ tell.Learned x mac ip ∷ left s) (others : (t : ℕ) → (t ≡ s → ⊥) → left t ≡ due t) (loud : is_unheard (orders s) ≡ false) where
  abbrev word : ToManager
  word = tell.Learned x mac ip

  abbrev learnt : Learnt
  learnt = with_learnt manager.learnt (record { switch = id; pmac = x; amac = mac; ip = ip })

  abbrev r : Registry
  r = registry_of manager

  abbrev n : Registry
  n = registry_with (is_later manager) learnt

  is_said : IsHeldFor (λ y. granted (view s) y) x mac × IsOwnIp own mac ip
  is_said = said own plan view apart due orders manager a s id named word left head others loud

  local : is_local (view s) x ≡ true
  local = (a.edges s id named).placed x is_said.0.grant is_said.0.found

  ips : HearsIp r n x ip
  ips = hears_ip (is_later manager) manager.learnt id x mac ip

  -- a switch has one place
  one_place : (t u : ℕ) (i : SwitchId) → slice_get plan.ids t ≡ Some i → slice_get plan.ids u ≡ Some i → t ≡ u
  one_place t u i at_t at_u = same_Some t u (sym (place_is plan.ids is_plan.ids_apart t i at_t) ∙ place_is plan.ids is_plan.ids_apart u i at_u)

  -- ---- it was registered before
  mine : (h : HearsAgain r n x) → h.reg.amac ≡ mac
  mine h =
      let those = ((a.edges s id named).here x h.reg h.found local).granted_to in
      sym those.to ∙ ap (λ (g : Grant). g.amac) (same_Some those.grant is_said.0.grant (sym those.found ∙ is_said.0.found)) ∙ is_said.0.to

  pub again_registry : is_registered manager.learnt.addresses x ≡ true → IsGoodRegistry own n
  again_registry there =
      let h : HearsAgain r n x = again (is_later manager) manager.learnt id x mac ip there in again_good own r n a.registry x mac ip is_said.1 ips h (mine h)

  pub again_edges : is_registered manager.learnt.addresses x ≡ true → (acts : List ManagerAct) → ((t : ℕ) → ArePlain plan t acts) →
      (t : ℕ) (i : SwitchId) → slice_get plan.ids t ≡ Some i → IsGoodEdge own n (edge_of (Some i) (view t) (left t) (orders t ++ ordered plan t acts))
  again_edges there acts plain =
      let h : HearsAgain r n x = again (is_later manager) manager.learnt id x mac ip there in
      let registry = again_registry there in
      let more : ℕ → List ToSwitch = λ t. ordered plan t acts in
      let silent : (t : ℕ) → is_unheard (more t) ≡ false =
      λ t. none_hello (more t) (ordered_all plan t (λ q. is_hello q ≡ false) acts (for_weaker plan t IsPlain (λ q. is_hello q ≡ false) plain_known acts (plain t))) in
      let aside : (t : ℕ) (y : Pmac) → orders_on y (more t) ≡ [] =
      λ t y. asides y (more t) (ordered_all plan t (λ q. order_of y q ≡ []) acts (for_weaker plan t IsPlain (λ q. order_of y q ≡ []) (plain_aside y) acts (plain t))) in
      let too = a.registry.known_too x h.reg h.found in
      let before = registered_knows (r.at x) (r.known_at x) h.reg too.known h.found too.found in
      let known : knowledge (is_some (n.at x)) (n.known_at x) ≡ treats r.later (knowledge (is_some (r.at x)) (r.known_at x)) Learns =
      (λ j. knowledge (is_some ((h.alike x).at j)) ((h.alike x).known j)) ∙ treats_again r.later (knowledge (is_some (r.at x)) (r.known_at x)) too.known.recall too.known.aged before in
      edges_then own plan view apart due orders manager a s id named word left head others loud n refl more silent (record {
        registry = registry;
        ip_stays = ips.stays;
        taken = word_taken own r n (edge_of (Some id) (view s) (due s) (orders s)) (a.edges s id named) x mac ip (left s) head ips;
        orders_good = λ t i at. ordered_all plan t (IsGoodOrder own (λ y. granted (view t) y)) acts
            (for_weaker plan t IsPlain (IsGoodOrder own (λ y. granted (view t) y)) (plain_good own (λ y. granted (view t) y)) acts (plain t));
        tellers = λ t i at y q knows here. (a.edges t i at).tellers y q (sym (h.alike y).known ∙ knows) here;
        here = λ t i at y reg knows here. record {
          too = registry.known_too y reg knows;
          granted_to = ((a.edges t i at).here y reg (sym (h.alike y).at ∙ knows) here).granted_to;
        };
        situations = λ t i at y here. elim (is_or_other x y) [
          | inr other ↦
              other_situation own plan view apart due orders manager a s id named word left head others loud n refl more silent t i at y here (told_there x y mac ip other) (h.alike y) (aside t y)
          | inl same ↦
              subst (λ z. IsIn n.later (tenure_at n (edge_of (Some i) (view t) (left t) (orders t ++ more t)) z)) same
              (told_situation own plan view apart due orders manager a s id named word left head others loud n refl more silent x Learns (told_here x mac ip) local known (aside s x) t i
              (ap (is_local (view t)) same ∙ here))
        ];
      })

  -- ---- it is registered now
  module _ (fresh : is_registered manager.learnt.addresses x ≡ false) where
    h : HearsNew r n x mac id
    h = first (is_later manager) manager.learnt id x mac ip fresh a.once

    abbrev number : ℕ
    number = manager.learnt.count + 1

    abbrev to : Recall
    to = record { new = x; number = number }

    abbrev new_reg : Registration
    new_reg = record { pmac = x; amac = mac; number = number; switch = id }

    pub registry : IsGoodRegistry own n
    registry = new_good own r n a.registry x mac ip is_said.1 ips id h

    -- the newest one until now is another one
    not_old : (old : Registration) → r.newest_of mac ≡ Some old → same_pmac x old.pmac ≡ false
    not_old old newest = elim (is_or_other x old.pmac) [
      | inl same ↦ absurd (none-some old (sym h.none ∙ ap r.at same ∙ (a.registry.newest_is mac old newest).1))
      | inr other ↦ other
    ]

    -- what is known of an address was known before, or is of the switch that tells
    record WasKnown (y : Pmac) (known : Reported) : Type 0 where
      before : Reported
      found : r.known_at y ≡ Some before
      switch : known.switch ≡ before.switch

    was_known : (y : Pmac) (known : Reported) → same_pmac x y ≡ false → n.known_at y ≡ Some known → (o : Option Registration) → r.newest_of mac ≡ o → WasKnown y known
    was_known y known other knows None newest =
        record { before = known; found = sym (h.alike y other (λ old is. absurd (none-some old (sym newest ∙ is)))).known ∙ knows; switch = refl }
    was_known y known other knows (Some old) newest = elim (is_or_other old.pmac y) [
      | inr apart_from ↦
          let alike = h.alike y other (λ first_old is. ap (λ (q : Registration). same_pmac q.pmac y) (same_Some first_old old (sym is ∙ newest)) ∙ apart_from) in
          record { before = known; found = sym alike.known ∙ knows; switch = refl }
      | inl same ↦
          let too = a.registry.known_too old.pmac old (a.registry.newest_is mac old newest).1 in
          let led : Reported = record too.known { recall = Some to; aged = false } in
          let one : led ≡ known = same_Some led known (sym (h.led old newest too.known too.found) ∙ ap n.known_at same ∙ knows) in
          record { before = too.known; found = ap r.known_at (sym same) ∙ too.found; switch = sym (ap (λ (q : Reported). q.switch) one) }
    ]

    -- ---- what tells of the newer address is good where it goes
    abbrev recall : Registration → ToSwitch
    recall old = say.Invalidate old.pmac x number (option_or (ip_of learnt x) (ip_of learnt old.pmac))

    own_said : (old : Registration) → n.at old.pmac ≡ Some old → old.amac ≡ mac → (p q : Option Ip4) → n.ip_at x ≡ p → n.ip_at old.pmac ≡ q → IsOwnIp own mac (option_or p q)
    own_said old knows mine (Some i) q is_p is_q = λ j is.
        let it = registry.ips x i is_p in
        let reg : new_reg ≡ it.reg = same_Some new_reg it.reg (sym h.here ∙ it.found) in
        ap (λ (p : Registration). own p.amac) reg ∙ it.own_ip ∙ is
    own_said old knows mine None (Some i) is_p is_q = λ j is.
        let it = registry.ips old.pmac i is_q in
        let reg : old ≡ it.reg = same_Some old it.reg (sym knows ∙ it.found) in
        ap own (sym mine) ∙ ap (λ (p : Registration). own p.amac) reg ∙ it.own_ip ∙ is
    own_said old knows mine None None is_p is_q = λ j is. absurd (none-some j is)

    recall_fits : (old : Registration) → r.newest_of mac ≡ Some old → (t : ℕ) → slice_get plan.ids t ≡ Some old.switch → IsGoodRecall own (λ y. granted (view t) y) old.pmac (option_or (ip_of learnt x) (ip_of learnt old.pmac))
    recall_fits old newest t at =
        let it = a.registry.newest_is mac old newest in
        let too = a.registry.known_too old.pmac old it.1 in
        let home = a.homed old.pmac too.known too.found in
        let edge = a.edges home.switch home.id home.named in
        let teller : home.id ≡ old.switch = same_Some home.id old.switch (edge.tellers old.pmac too.known too.found home.at ∙ ap Some too.switch) in
        let place : home.switch ≡ t = one_place home.switch t old.switch (home.named ∙ ap Some teller) at in
        record {
          mac = mac;
          granted_to = subst (λ m. IsHeldFor (λ y. granted (view m) y) old.pmac mac) place
              (subst (λ (m : Mac). IsHeldFor (λ y. granted (view home.switch) y) old.pmac m) it.0 (edge.here old.pmac old it.1 home.at).granted_to);
          own_ip = own_said old (new_grows own r n a.registry x mac ip is_said.1 ips id h old.pmac old it.1) it.0 (n.ip_at x) (n.ip_at old.pmac) refl refl;
        }

    module _ (rest : List ManagerAct) (plain : (t : ℕ) → ArePlain plan t rest) where
      abbrev acts : Option Registration → List ManagerAct
      acts o = (Number x number ∷ invalidation learnt x number o) ++ rest

      -- what holds of the recall and of plain messages holds of all
      all_acts : (P : ToSwitch → Type 0) (t : ℕ) → ((says : ToSwitch) → IsPlain says → P says) → (o : Option Registration) → ((old : Registration) → o ≡ Some old → slice_get plan.ids t ≡ Some old.switch → P (recall old)) →
          AllByRecursion (IsActFor plan t P) (acts o)
      all_acts P t each None good = (tt, for_weaker plan t IsPlain P each rest (plain t))
      all_acts P t each (Some old) good = (tt, (λ at. good old refl at, for_weaker plan t IsPlain P each rest (plain t)))

      silent : (o : Option Registration) (t : ℕ) → is_unheard (ordered plan t (acts o)) ≡ false
      silent o t = none_hello (ordered plan t (acts o)) (ordered_all plan t (λ q. is_hello q ≡ false) (acts o) (all_acts (λ q. is_hello q ≡ false) t plain_known o (λ old is at. refl)))

      aside : (y : Pmac) (o : Option Registration) → ((old : Registration) → o ≡ Some old → same_pmac old.pmac y ≡ false) → (t : ℕ) → orders_on y (ordered plan t (acts o)) ≡ []
      aside y o other t =
          asides y (ordered plan t (acts o)) (ordered_all plan t (λ q. order_of y q ≡ []) (acts o) (all_acts (λ q. order_of y q ≡ []) t (plain_aside y) o
          (λ old is at. ordered_there old.pmac y x number (option_or (ip_of learnt x) (ip_of learnt old.pmac)) (other old is))))

      -- the recall waits for the switch that has the older address
      waits : (old : Registration) (t : ℕ) → slice_get plan.ids t ≡ Some old.switch → orders_on old.pmac (ordered plan t (acts (Some old))) ≡ Recalls to ∷ []
      waits old t at =
          ap (λ os. orders_on old.pmac (os ++ ordered plan t rest)) (ordered_here plan t is_plan old.switch (recall old) at)
          ∙ ap (λ os. os ++ orders_on old.pmac (ordered plan t rest)) (recall_here old.pmac x number (option_or (ip_of learnt x) (ip_of learnt old.pmac)))
          ∙ ap (λ os. Recalls to ∷ os)
          (asides old.pmac (ordered plan t rest) (ordered_all plan t (λ q. order_of old.pmac q ≡ []) rest
          (for_weaker plan t IsPlain (λ q. order_of old.pmac q ≡ []) (plain_aside old.pmac) rest (plain t))))

      abbrev edge_then : Option Registration → ℕ → SwitchId → Edge
      edge_then o t i = edge_of (Some i) (view t) (left t) (orders t ++ ordered plan t (acts o))

      -- the one that was the newest is recalled
      recalled_there : (old : Registration) → r.newest_of mac ≡ Some old → (t : ℕ) (i : SwitchId) → slice_get plan.ids t ≡ Some i → is_local (view t) old.pmac ≡ true →
          IsIn n.later (tenure_at n (edge_then (Some old) t i) old.pmac)
      recalled_there old newest t i at here =
          let it = a.registry.newest_is mac old newest in
          let too = a.registry.known_too old.pmac old it.1 in
          let edge = a.edges t i at in
          let e = edge_of (Some i) (view t) (due t) (orders t) in
          let teller : i ≡ old.switch = same_Some i old.switch (edge.tellers old.pmac too.known too.found here ∙ ap Some too.switch) in
          let led_nowhere : too.known.recall ≡ None = sym (ap (λ (o : Option Reported). recall_in o) too.found) ∙ a.registry.newest_leads mac old newest in
          let before : (tenure_at r e old.pmac).known ≡ Knows true None too.known.aged =
          registered_knows (r.at old.pmac) (r.known_at old.pmac) old too.known it.1 too.found ∙ ap (λ c. Knows true c too.known.aged) led_nowhere in
          let then_known : Knows true (Some to) false ≡ knowledge (is_some (n.at old.pmac)) (n.known_at old.pmac) =
          sym (registered_knows (n.at old.pmac) (n.known_at old.pmac) old (record too.known { recall = Some to; aged = false }) (h.at old.pmac (not_old old newest) ∙ it.1) (h.led old newest too.known too.found)) in
          let ordered_then : orders_on old.pmac (orders t) ++ Recalls to ∷ [] ≡ orders_on old.pmac (orders t ++ ordered plan t (acts (Some old))) =
          sym (orders_behind old.pmac (orders t) (ordered plan t (acts (Some old))) ∙ ap (λ os. orders_on old.pmac (orders t) ++ os) (waits old t (at ∙ ap Some teller))) in
          let due_then : words_on old.pmac (due t) ≡ words_on old.pmac (left t) =
          sym (words_still own plan view apart due orders manager a s id named word left head others loud old.pmac (told_there x old.pmac mac ip (not_old old newest)) t) in
          let path : record (tenure_at r e old.pmac) { orders = orders_on old.pmac (orders t) ++ Recalls to ∷ []; known = Knows true (Some to) false } ≡ tenure_at n (edge_then (Some old) t i) old.pmac =
          λ j. record {
            use_is = (tenure_at r e old.pmac).use_is;
            due = due_then j;
            orders = ordered_then j;
            known = then_known j;
            silent = sym (unheard_more (orders t) (ordered plan t (acts (Some old))) (silent (Some old) t)) j;
          } in
          subst (IsIn r.later) path (recalls r.later (tenure_at r e old.pmac) (edge.situations old.pmac here) to too.known.aged (omega arith) before)
        where
          recall_in : Option Reported → Option Recall
          recall_in None = None
          recall_in (Some known) = known.recall

      situations_then : (o : Option Registration) → r.newest_of mac ≡ o → (t : ℕ) (i : SwitchId) → slice_get plan.ids t ≡ Some i → (y : Pmac) → is_local (view t) y ≡ true →
          IsIn n.later (tenure_at n (edge_then o t i) y)
      situations_then o newest t i at y here = elim (is_or_other x y) [
        | inl same ↦
            let known : knowledge (is_some (n.at x)) (n.known_at x) ≡ treats r.later (knowledge (is_some (r.at x)) (r.known_at x)) Learns =
            registered_knows (n.at x) (n.known_at x) new_reg (record { switch = id; pmac = x; recall = None; aged = false }) h.here h.known_here
            ∙ sym (ap (λ (q : Option Registration). treats r.later (knowledge (is_some q) (r.known_at x)) Learns) h.none ∙ treats_first r.later (r.known_at x)) in
            subst (λ z. IsIn n.later (tenure_at n (edge_then o t i) z)) same
            (told_situation own plan view apart due orders manager a s id named word left head others loud n refl (λ u. ordered plan u (acts o)) (silent o) x Learns (told_here x mac ip) local known
            (aside x o (λ old is. other_turned x old.pmac (not_old old (newest ∙ is))) s) t i (ap (is_local (view t)) same ∙ here))
        | inr other ↦ left_or_led o newest other
      ]
        where
          left_so : (o : Option Registration) → r.newest_of mac ≡ o → same_pmac x y ≡ false → ((old : Registration) → o ≡ Some old → same_pmac old.pmac y ≡ false) →
              IsIn n.later (tenure_at n (edge_then o t i) y)
          left_so o newest other none =
              other_situation own plan view apart due orders manager a s id named word left head others loud n refl (λ u. ordered plan u (acts o)) (silent o) t i at y here (told_there x y mac ip other)
              (h.alike y other (λ old first_one. none old (sym newest ∙ first_one))) (aside y o none t)

          left_or_led : (o : Option Registration) → r.newest_of mac ≡ o → same_pmac x y ≡ false → IsIn n.later (tenure_at n (edge_then o t i) y)
          left_or_led None newest other = left_so None newest other (λ old is. absurd (none-some old is))
          left_or_led (Some old) newest other = elim (is_or_other old.pmac y) [
            | inr apart_from ↦ left_so (Some old) newest other (λ first_old is. ap (λ (q : Registration). same_pmac q.pmac y) (same_Some first_old old (sym is)) ∙ apart_from)
            | inl same ↦
                subst (λ z. IsIn n.later (tenure_at n (edge_then (Some old) t i) z)) same (recalled_there old newest t i at (ap (is_local (view t)) same ∙ here))
          ]

      pub new_edges : (t : ℕ) (i : SwitchId) → slice_get plan.ids t ≡ Some i → IsGoodEdge own n (edge_then (r.newest_of mac) t i)
      new_edges =
          let o = r.newest_of mac in
          edges_then own plan view apart due orders manager a s id named word left head others loud n refl (λ u. ordered plan u (acts o)) (silent o) (record {
            registry = registry;
            ip_stays = ips.stays;
            taken = word_taken own r n (edge_of (Some id) (view s) (due s) (orders s)) (a.edges s id named) x mac ip (left s) head ips;
            orders_good = λ t i at. ordered_all plan t (IsGoodOrder own (λ y. granted (view t) y)) (acts o)
                (all_acts (IsGoodOrder own (λ y. granted (view t) y)) t (plain_good own (λ y. granted (view t) y)) o (λ old is there. recall_fits old is t there));
            tellers = λ t i at y q knows here. elim (is_or_other x y) [
              | inr other ↦
                  let was = was_known y q other knows o refl in
                  (a.edges t i at).tellers y was.before was.found here ∙ ap Some (sym was.switch)
              | inl same ↦
                  let new : Reported = record { switch = id; pmac = x; recall = None; aged = false } in
                  let one : new ≡ q = same_Some new q (sym h.known_here ∙ ap n.known_at same ∙ knows) in
                  let place : s ≡ t = apart s t x local (ap (is_local (view t)) same ∙ here) in
                  sym at ∙ ap (slice_get plan.ids) (sym place) ∙ named ∙ ap (λ (k : Reported). Some k.switch) one
            ];
            here = λ t i at y reg knows here. record {
              too = registry.known_too y reg knows;
              granted_to = elim (new_or_old own r n a.registry x mac ip is_said.1 ips id h y reg knows) [
                | inr before ↦ ((a.edges t i at).here y reg before here).granted_to
                | inl now ↦
                    let place : s ≡ t = apart s t x local (ap (is_local (view t)) now.0 ∙ here) in
                    subst (λ (p : Pmac). IsHeldFor (λ z. granted (view t) z) p reg.amac) now.0
                    (subst (λ (m : Mac). IsHeldFor (λ z. granted (view t) z) x m) (ap (λ (p : Registration). p.amac) now.1)
                    (subst (λ m. IsHeldFor (λ z. granted (view m) z) x mac) place is_said.0))
              ];
            };
            situations = situations_then o refl;
          })

      pub new_homed : (y : Pmac) (known : Reported) → n.known_at y ≡ Some known → HasHome plan view y
      new_homed y known knows = elim (is_or_other x y) [
        | inr other ↦ let was = was_known y known other knows (r.newest_of mac) refl in a.homed y was.before was.found
        | inl same ↦ record { switch = s; id = id; named = named; at = ap (is_local (view s)) (sym same) ∙ local }
      ]
