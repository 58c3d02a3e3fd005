-- The manager treats a word, whatever it is, and the addresses of the whole fabric stay in order.
use Rattle.std.proofs.Common.{◌≡◌, ℕ, ◌+◌, Bool, true, false, cond, List, [], ◌∷◌, ◌++◌, Option, Some, slice_get, unwrap_or, refl, sym, subst, ◌∙◌, append-nil, append_assoc}
use Rattle.pl_lemmas.proofs.Exports.{all_append}
use Rattle.pl_frame.specs.declared.address.Ip4.{Ip4}
use Rattle.pl_frame.specs.declared.address.Mac.{Mac}
use Rattle.pl_frame.specs.declared.address.SwitchId.{SwitchId}
use Rattle.pl_pmac.specs.declared.pmac.Pmac.{Pmac}
use Rattle.pl_wiring.specs.Plan.{IsPlan, Plan}
use Rattle.pl_node.specs.declared.acts.ManagerAct.{ManagerAct}
use Rattle.pl_node.specs.declared.acts.ManagerAct.TheVariants.{Number, Say}
use Rattle.pl_node.specs.declared.messages.ToManager.{ToManager}
use Rattle.pl_node.specs.declared.messages.ToManager.TheVariants as tell
use Rattle.pl_node.specs.declared.messages.ToSwitch.{ToSwitch}
use Rattle.pl_node.specs.declared.messages.ToSwitch.TheVariants as say
use Rattle.pl_node.specs.ManagerViews.{ManagerView, lookup, newest, pod_given}
use Rattle.pl_node.specs.SwitchViews.{SwitchView}
use Rattle.pl_manager_rule.specs.ManagerRule.{answer_to, avoid_acts, invalidation, is_registered, learning, manager_hears, tree_acts, view_after}
use Rattle.pl_manager_rule.specs.Treating.{at_rest, notes_aged, notes_trap, treats_word}
use Rattle.pl_switch_rule.specs.Granting.{granted}
use Rattle.pl_law_control_plane.specs.PlaneSteps.{ordered}
use Rattle.pl_law_due.specs.Due.{is_hello}
use Rattle.pl_law_addresses.specs.EdgeAddresses.{tells_ip}
use Rattle.pl_law_addresses.proofs.Exports.{other_turned}
use Rattle.pl_law_epochs.specs.Addressed.{AreApart, AreInOrder}
use Rattle.pl_law_epochs.specs.Edges.{IsGoodOrder, is_later, is_unheard}
use Rattle.pl_law_epochs.specs.Tenures.{order_of, said_of}
use Rattle.pl_law_epochs.specs.Tenures.Said.{Ages, Traps}
use Rattle.pl_law_epochs.proofs.Learning.{again_edges, new_edges, new_homed, again_registry, registry as new_registry}
use Rattle.pl_law_epochs.proofs.Noting.{ages_in_order, orders_same, traps_in_order}
use Rattle.pl_law_epochs.proofs.Orders.{all_plain, answer_is_plain, ArePlain, asides, avoids_plain, for_weaker, IsActFor, IsPlain, none_hello, ordered_all, plain_aside, plain_good, plain_known, trees_plain}
use Rattle.pl_law_epochs.proofs.Registering.{again, alone_then, once_then}
use Rattle.pl_law_epochs.proofs.Staying.{aged_here, aged_there, trap_here, trap_there}
use Rattle.pl_law_epochs.proofs.Treating.{plain_treated, said}

module _ (own : Mac → Option Ip4) (plan : Plan) (is_plan : IsPlan plan) (view : ℕ → SwitchView) (apart : AreApart view) (due : ℕ → List ToManager) (orders : ℕ → List ToSwitch)
    (manager : ManagerView) (a : AreInOrder own plan view due orders manager) (s : ℕ) (id : SwitchId) (named : slice_get plan.ids s ≡ Some id) (left : ℕ → List ToManager)
    (others : (t : ℕ) → (t ≡ s → ⊥) → left t ≡ due t) (loud : is_unheard (orders s) ≡ false) where
  -- so much is ordered then, and this is known
  abbrev Stands : List ManagerAct → ManagerView → Type 0
  Stands acts then_knows = AreInOrder own plan view left (λ t. orders t ++ ordered plan t acts) then_knows

  -- ---- a word about no address: of addresses the same is known
  plain_word : (told : ToManager) → due s ≡ told ∷ left s → ((y : Pmac) → said_of y told ≡ []) → ((y : Pmac) → tells_ip y told ≡ false) → (acts : List ManagerAct) →
      ((t : ℕ) → ArePlain plan t acts) → (after : ManagerView) → after.learnt ≡ manager.learnt → after.epoch ≡ manager.epoch → Stands acts after
  plain_word told head quiet quiet_ip acts plain after learnt epoch =
      let there : Stands acts (record after { learnt = manager.learnt; epoch = manager.epoch }) = record {
        registry = a.registry;
        edges = plain_treated own plan view apart due orders manager a s id named told left head others loud quiet quiet_ip (λ t. ordered plan t acts)
            (λ t. none_hello (ordered plan t acts) (ordered_all plan t (λ q. is_hello q ≡ false) acts (for_weaker plan t IsPlain (λ q. is_hello q ≡ false) plain_known acts (plain t))))
            (λ t y. asides y (ordered plan t acts) (ordered_all plan t (λ q. order_of y q ≡ []) acts (for_weaker plan t IsPlain (λ q. order_of y q ≡ []) (plain_aside y) acts (plain t))))
            (λ t i at. ordered_all plan t (IsGoodOrder own (λ y. granted (view t) y)) acts
            (for_weaker plan t IsPlain (IsGoodOrder own (λ y. granted (view t) y)) (plain_good own (λ y. granted (view t) y)) acts (plain t)));
        tables = a.tables;
        homed = a.homed;
        once = a.once;
        alone = a.alone;
      } in
      subst (Stands acts) (λ i. record after { learnt = sym learnt i; epoch = sym epoch i }) there

  -- ---- an address is told
  module _ (x : Pmac) (mac : Mac) (ip : Option Ip4) (head : due s ≡ tell.Learned x mac ip ∷ left s) where
    abbrev after : ManagerView
    after = view_after manager id (tell.Learned x mac ip)

    abbrev tail : List ManagerAct
    tail = avoid_acts manager.told manager.told ++ tree_acts manager after

    tail_plain : (t : ℕ) → ArePlain plan t tail
    tail_plain t = all_append (IsActFor plan t IsPlain) (avoid_acts manager.told manager.told) (tree_acts manager after) (avoids_plain plan t manager.told manager.told) (trees_plain plan t manager after)

    again_stands : is_registered manager.learnt.addresses x ≡ true → Stands tail after
    again_stands there = record {
      registry = again_registry own plan is_plan view apart due orders manager a s id named x mac ip left head others loud there;
      edges = again_edges own plan is_plan view apart due orders manager a s id named x mac ip left head others loud there tail tail_plain;
      tables = a.tables;
      homed = λ y q knows. a.homed y q (sym ((again (is_later manager) manager.learnt id x mac ip there).alike y).known ∙ knows);
      once = once_then (is_later manager) manager.learnt id x mac ip a.once;
      alone = alone_then (is_later manager) manager.learnt id x mac ip a.alone;
    }

    new_stands : is_registered manager.learnt.addresses x ≡ false →
        Stands ((Number x (manager.learnt.count + 1) ∷ invalidation after.learnt x (manager.learnt.count + 1) (newest manager.learnt mac)) ++ tail) after
    new_stands fresh = record {
      registry = new_registry own plan is_plan view apart due orders manager a s id named x mac ip left head others loud fresh;
      edges = new_edges own plan is_plan view apart due orders manager a s id named x mac ip left head others loud fresh tail tail_plain;
      tables = a.tables;
      homed = new_homed own plan is_plan view apart due orders manager a s id named x mac ip left head others loud fresh tail tail_plain;
      once = once_then (is_later manager) manager.learnt id x mac ip a.once;
      alone = alone_then (is_later manager) manager.learnt id x mac ip a.alone;
    }

    learned_stands : Stands (learning manager.learnt after.learnt x mac ++ avoid_acts manager.told after.told ++ tree_acts manager after) after
    learned_stands = by (is_registered manager.learnt.addresses x) refl
      where
        by : (b : Bool) → is_registered manager.learnt.addresses x ≡ b →
            Stands (cond b [] (Number x (manager.learnt.count + 1) ∷ invalidation after.learnt x (manager.learnt.count + 1) (newest manager.learnt mac))
            ++ avoid_acts manager.told after.told ++ tree_acts manager after) after
        by true there = again_stands there
        by false fresh =
            subst (λ acts. Stands acts after)
            (sym (append_assoc (Number x (manager.learnt.count + 1) ∷ invalidation after.learnt x (manager.learnt.count + 1) (newest manager.learnt mac)) (avoid_acts manager.told after.told) (tree_acts manager after)))
            (new_stands fresh)

  -- ---- something is noted of one
  noted_stands : (then_knows : ManagerView) → AreInOrder own plan view left orders then_knows → Stands [] then_knows
  noted_stands then_knows there = orders_same own plan view left orders (λ t. orders t ++ []) then_knows (λ t. sym (append-nil (orders t))) there

  -- ---- any word
  pub word_in_order : (told : ToManager) → due s ≡ told ∷ left s → Stands (treats_word (at_rest manager) id told).acts (treats_word (at_rest manager) id told).known.view
  unfolding manager_hears
  word_in_order (tell.Learned x mac ip) head = learned_stands x mac ip head
  word_in_order (tell.Aged x number) head =
      noted_stands (notes_aged (at_rest manager) id x number).view
      (ages_in_order own plan view apart due orders manager a s id named (tell.Aged x number) left head others loud x (Ages number) (aged_here x number)
      (λ y other. aged_there x y number (other_turned y x other)) (λ y. refl) (said own plan view apart due orders manager a s id named (tell.Aged x number) left head others loud) number refl)
  word_in_order (tell.Trapped x new number) head =
      noted_stands (notes_trap (at_rest manager) id x (record { new = new; number = number })).view
      (traps_in_order own plan view apart due orders manager a s id named (tell.Trapped x new number) left head others loud x (Traps (record { new = new; number = number })) (trap_here x new number)
      (λ y other. trap_there x y new number (other_turned y x other)) (λ y. refl) (said own plan view apart due orders manager a s id named (tell.Trapped x new number) left head others loud)
      (record { new = new; number = number }) refl)
  word_in_order (tell.Place place) head =
      let after = view_after manager id (tell.Place place) in
      plain_word (tell.Place place) head (λ y. refl) (λ y. refl) ([] ++ avoid_acts manager.told after.told ++ tree_acts manager after) (λ t. all_plain plan t manager after [] tt) after refl refl
  word_in_order (tell.Link u usable) head =
      let after = view_after manager id (tell.Link u usable) in
      plain_word (tell.Link u usable) head (λ y. refl) (λ y. refl) ([] ++ avoid_acts manager.told after.told ++ tree_acts manager after) (λ t. all_plain plan t manager after [] tt) after refl refl
  word_in_order tell.PodWanted head =
      let after = view_after manager id tell.PodWanted in
      let reply = Say id (say.Pod (unwrap_or (pod_given after.pods id) 0)) ∷ [] in
      plain_word tell.PodWanted head (λ y. refl) (λ y. refl) (reply ++ avoid_acts manager.told after.told ++ tree_acts manager after) (λ t. all_plain plan t manager after reply ((λ at. tt), tt)) after refl refl
  word_in_order (tell.Begin epoch) head =
      plain_word (tell.Begin epoch) head (λ y. refl) (λ y. refl) ([] ++ avoid_acts manager.told manager.told ++ tree_acts manager manager) (λ t. all_plain plan t manager manager [] tt) manager refl refl
  word_in_order (tell.End epoch) head =
      plain_word (tell.End epoch) head (λ y. refl) (λ y. refl) ([] ++ avoid_acts manager.told manager.told ++ tree_acts manager manager) (λ t. all_plain plan t manager manager [] tt) manager refl refl
  word_in_order (tell.Query asker asker_ip ip) head =
      let reply = Say id (answer_to asker asker_ip ip (lookup manager.learnt ip)) ∷ [] in
      plain_word (tell.Query asker asker_ip ip) head (λ y. refl) (λ y. refl) (reply ++ avoid_acts manager.told manager.told ++ tree_acts manager manager)
      (λ t. all_plain plan t manager manager reply ((λ at. answer_is_plain plan t asker asker_ip ip (lookup manager.learnt ip)), tt)) manager refl refl
  word_in_order (tell.Members group any) head =
      let after = view_after manager id (tell.Members group any) in
      plain_word (tell.Members group any) head (λ y. refl) (λ y. refl) ([] ++ avoid_acts manager.told after.told ++ tree_acts manager after) (λ t. all_plain plan t manager after [] tt) after refl refl
