-- Where no number is given and nothing is forgotten, addresses are numbered as before.
use Rattle.std.proofs.Common.{◌≡◌, Contains, List, [], Some, ap, filter_map, inl, refl, subst, arith}
use Rattle.pl_node.specs.declared.acts.ManagerAct.{ManagerAct}
use Rattle.pl_node.specs.ManagerDuties.{AreNumbered, AreRegistered, numbered_by}
use Rattle.pl_node.specs.ManagerViews.{Learnt, ManagerView, registration}
use Rattle.pl_node.proofs.Among.{among_of_Contains}

pub nothing_learnt : (before after : ManagerView) → after.learnt ≡ before.learnt → AreNumbered before after []
nothing_learnt before after same = record {
  count = let same_count = ap (λ (l : Learnt). l.count) same in omega (arith, same_count);
  numbers = refl;
  fresh = λ x n h. absurd (among_of_Contains (x, n) [] h);
  given_as = λ x n r h is. absurd (among_of_Contains (x, n) [] h);
  registered = λ x r is. inl (subst (λ (l : Learnt). registration l x ≡ Some r) same is);
  stands = λ none x n h. absurd (among_of_Contains (x, n) [] h);
}

pub nothing_numbered : (view : ManagerView) → AreNumbered view view []
nothing_numbered view = nothing_learnt view view refl

pub nothing_registered : (after : ManagerView) (acts : List ManagerAct) → filter_map numbered_by acts ≡ [] → AreRegistered after acts
nothing_registered after acts none x n h = absurd (among_of_Contains (x, n) [] (subst (λ given. Contains given (x, n)) none h))
