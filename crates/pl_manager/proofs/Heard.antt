-- Each thing that is done when a word is heard is the step of the manager's rule of one epoch.
use Rattle.std.proofs.Common.{◌≡◌, ℕ, Bool, List, [], ◌∷◌, ◌++◌, Option, refl, sym, ap, ◌∙◌, append-nil}
use Rattle.std.specs.Prelude.{unwrap_or}
use Rattle.std.specs.BTreeMap.{insert_entry}
use Rattle.pl_frame.specs.declared.address.Ip4.{Ip4}
use Rattle.pl_frame.specs.declared.address.Mac.{Mac}
use Rattle.pl_frame.specs.declared.address.SwitchId.{SwitchId}
use Rattle.pl_pmac.specs.declared.pmac.Pmac.{Pmac}
use Rattle.pl_layouts.specs.declared.place.Place.{Place}
use Rattle.pl_node.specs.declared.acts.ManagerAct.{ManagerAct}
use Rattle.pl_node.specs.declared.acts.ManagerAct.TheVariants.{Say}
use Rattle.pl_node.specs.declared.messages.ToManager.TheVariants as tell
use Rattle.pl_node.specs.declared.messages.ToSwitch.TheVariants as say
use Rattle.pl_node.specs.declared.pod_given.PodGiven.{PodGiven}
use Rattle.pl_node.specs.Gains.{Gains}
use Rattle.pl_node.specs.ManagerViews.{Learnt, ManagerView, lookup, members_cmp, pod_given}
use Rattle.pl_manager_rule.specs.ManagerRule.{answer_to, avoid_acts, learning, manager_hears, manager_rule, tree_acts, with_asker, with_learnt, with_link, with_place}
use Rattle.pl_manager_rule.proofs.Exports.{no_avoid_acts, no_tree_acts}
use Rattle.pl_manager.specs.Routing.{RoutingView, trees_told_anew}

-- where nothing changed of the tree, nothing is told of it
pub quiet : (view : ManagerView) (own : List ManagerAct) → own ++ avoid_acts view.told view.told ++ tree_acts view view ≡ own
quiet view own = (λ i. own ++ no_avoid_acts view.told i ++ no_tree_acts view i) ∙ append-nil (own ++ []) ∙ append-nil own

module _ (view : ManagerView) (s : SwitchId) (before after : List ManagerAct) where
  -- what the manager knows of the tree
  abbrev tree : RoutingView
  tree = record { told = view.told; members = view.members }

  abbrev with_tree : RoutingView → ManagerView
  with_tree r = record view { told = r.told; members = r.members }

  abbrev told_of : RoutingView → List ManagerAct
  told_of r = avoid_acts view.told r.told ++ trees_told_anew tree r

  pub place_heard : (place : Place) (r : RoutingView) → r ≡ record { told = with_place view.told s place; members = view.members } →
      after ≡ before ++ told_of r → Gains before after (manager_rule view s (tell.Place place) (with_tree r))
  unfolding manager_hears
  place_heard place r is acts = record { items = told_of r; gained = acts; holds = (ap with_tree is, ap told_of is) }

  pub link_heard : (u : SwitchId) (usable : Bool) (r : RoutingView) → r ≡ record { told = with_link view.told s u usable; members = view.members } →
      after ≡ before ++ told_of r → Gains before after (manager_rule view s (tell.Link u usable) (with_tree r))
  unfolding manager_hears
  link_heard u usable r is acts = record { items = told_of r; gained = acts; holds = (ap with_tree is, ap told_of is) }

  pub members_heard : (group : ℕ) (any : Bool) (r : RoutingView) →
      r ≡ record { told = view.told; members = insert_entry members_cmp view.members (s, group) any } →
      after ≡ before ++ trees_told_anew tree r → Gains before after (manager_rule view s (tell.Members group any) (with_tree r))
  unfolding manager_hears
  members_heard group any r is acts = record {
    items = trees_told_anew tree r;
    gained = acts;
    holds = (ap with_tree is, ap (trees_told_anew tree) is ∙ (λ i. sym (no_avoid_acts view.told) i ++ trees_told_anew tree (record { told = view.told; members = insert_entry members_cmp view.members (s, group) any })));
  }

  pub pod_heard : (pods : List PodGiven) → pods ≡ with_asker view.told view.pods s →
      after ≡ before ++ Say s (say.Pod (unwrap_or (pod_given pods s) 0)) ∷ [] →
      Gains before after (manager_rule view s tell.PodWanted (record view { pods = pods }))
  unfolding manager_hears
  pod_heard pods is acts = record {
    items = Say s (say.Pod (unwrap_or (pod_given pods s) 0)) ∷ [];
    gained = acts;
    holds = (
      ap (λ those. record view { pods = those }) is,
      ap (λ those. Say s (say.Pod (unwrap_or (pod_given those s) 0)) ∷ []) is
          ∙ sym (quiet view (Say s (say.Pod (unwrap_or (pod_given (with_asker view.told view.pods s) s) 0)) ∷ [])),
    );
  }

  pub address_heard : (pmac : Pmac) (amac : Mac) (ip : Option Ip4) (learnt : Learnt) →
      learnt ≡ with_learnt view.learnt (record { switch = s; pmac = pmac; amac = amac; ip = ip }) →
      after ≡ before ++ learning view.learnt learnt pmac amac →
      Gains before after (manager_rule view s (tell.Learned pmac amac ip) (record view { learnt = learnt }))
  unfolding manager_hears
  address_heard pmac amac ip learnt is acts = record {
    items = learning view.learnt learnt pmac amac;
    gained = acts;
    holds = (
      ap (λ those. record view { learnt = those }) is,
      ap (λ those. learning view.learnt those pmac amac) is
          ∙ sym (quiet view (learning view.learnt (with_learnt view.learnt (record { switch = s; pmac = pmac; amac = amac; ip = ip })) pmac amac)),
    );
  }

  pub question_heard : (asker : Pmac) (asker_ip ip : Ip4) →
      after ≡ before ++ Say s (answer_to asker asker_ip ip (lookup view.learnt ip)) ∷ [] →
      Gains before after (manager_rule view s (tell.Query asker asker_ip ip) view)
  unfolding manager_hears
  question_heard asker asker_ip ip acts = record {
    items = Say s (answer_to asker asker_ip ip (lookup view.learnt ip)) ∷ [];
    gained = acts;
    holds = (refl, sym (quiet view (Say s (answer_to asker asker_ip ip (lookup view.learnt ip)) ∷ [])));
  }
