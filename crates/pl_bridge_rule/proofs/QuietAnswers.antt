-- Who says nothing answers duly.
use Rattle.std.proofs.Common.{[], refl, sym, subst, arith, IsTrue}
use Rattle.std.specs.List.{filter_map, list_all}
use Rattle.std.proofs.lemmas.Bool.{or_right}
use Rattle.pl_layouts.specs.Equality.{same_switch}
use Rattle.pl_node.specs.ManagerDuties.{AnswersDuly, AreNumbered, AreRegistered, IsGrown, is_for_heard, numbered_by}
use Rattle.pl_node.specs.ManagerViews.{ManagerView, is_heard}
use Rattle.pl_node.proofs.Exports.{nothing_numbered, nothing_registered}
use Rattle.pl_bridge_rule.specs.QuietManager.{IsQuiet}

pub answers : AnswersDuly IsQuiet
answers = record {
  heard = λ before s says after acts quiet. subst (λ a. IsTrue (list_all (is_for_heard before s) a)) (sym quiet.none) refl;
  numbered = λ before s says after acts quiet. subst (λ a. AreNumbered before after (filter_map numbered_by a)) (sym quiet.none)
      (subst (λ (v : ManagerView). AreNumbered before v []) (sym quiet.same) (nothing_numbered before));
  registers = λ before s says after acts quiet. subst (AreRegistered after) (sym quiet.none) (nothing_registered after [] refl);
  grows = λ before s says after acts quiet. subst (λ v. IsGrown before s v) (sym quiet.same) (record {
    k = refl;
    epoch = refl;
    heard = λ t h. or_right (same_switch s t) (is_heard before t) h;
    addresses = omega arith;
  });
}
