-- A manager that gives each who asks for the number of its pod the number 0.
use Rattle.std.proofs.Common.{◌≡◌, IsTrue, true, List, [], ◌∷◌, refl, sym, ap, subst, ◌∙◌}
use Rattle.std.proofs.lemmas.Bool.{and_from, or_left}
use Rattle.std.proofs.lemmas.Bool.Decides.{Decides-eqb}
use Rattle.std.specs.List.{filter_map, list_all}
use Rattle.pl_frame.specs.declared.address.SwitchId.{SwitchId}
use Rattle.pl_node.specs.declared.acts.ManagerAct.{ManagerAct}
use Rattle.pl_node.specs.declared.acts.ManagerAct.TheVariants.{Say}
use Rattle.pl_node.specs.declared.messages.ToManager.{ToManager}
use Rattle.pl_node.specs.declared.messages.ToManager.TheVariants.{PodWanted}
use Rattle.pl_node.specs.declared.messages.ToSwitch.TheVariants.{Pod}
use Rattle.pl_node.specs.ManagerDuties.{AnswersDuly, AreNumbered, IsGrown, ManagerRule, is_for_heard, numbered_by}
use Rattle.pl_node.specs.ManagerViews.{ManagerView, is_heard}
use Rattle.pl_layouts.specs.Equality.{same_switch}
use Rattle.pl_node.proofs.Exports.{nothing_numbered, nothing_registered}
use Rattle.pl_test_sample.specs.Duties.{grown}

abbrev pub given : SwitchId → ToManager → List ManagerAct
given s PodWanted = Say s (Pod 0) ∷ []
given s says = []

-- nothing changes
abbrev pub GivesPods : ManagerRule
GivesPods before s says after acts = (after ≡ before) × (acts ≡ given s says)

given_to_asker : (before : ManagerView) (s : SwitchId) (says : ToManager) → list_all (is_for_heard before s) (given s says) ≡ true
given_to_asker before s PodWanted =
    and_from (is_for_heard before s (Say s (Pod 0))) true (or_left (same_switch s s) (is_heard before s) ((Decides-eqb s.0 s.0).1 refl)) refl
given_to_asker before s says = refl

numbers_nothing : (s : SwitchId) (says : ToManager) → filter_map numbered_by (given s says) ≡ []
numbers_nothing s PodWanted = refl
numbers_nothing s says = refl

pub gives_pods_duly : AnswersDuly GivesPods
gives_pods_duly = record {
  heard = λ before s says after acts ruled.
      subst (λ acts. IsTrue (list_all (is_for_heard before s) acts)) (sym ruled.1) (given_to_asker before s says);
  numbered = λ before s says after acts ruled.
      subst (AreNumbered before after) (sym (ap (filter_map numbered_by) ruled.1 ∙ numbers_nothing s says))
      (subst (λ view. AreNumbered before view []) (sym ruled.0) (nothing_numbered before));
  registers = λ before s says after acts ruled. nothing_registered after acts (ap (filter_map numbered_by) ruled.1 ∙ numbers_nothing s says);
  grows = λ before s says after acts ruled. subst (λ view. IsGrown before s view) (sym ruled.0) (grown before s);
}
