-- The switches that asked for a pod: the newest stands last in their list, and first where it is read from its end.
use Rattle.std.proofs.Common.{◌≡◌, ◌≤◌, Bool, true, false, cond, List, [], ◌∷◌, ◌++◌, length, map, reverse, Some, None, refl, sym, ◌∙◌, arith}
use Rattle.std.specs.List.{AllByRecursion, IsDistinct, find}
use Rattle.std.specs.Option.{option_map}
use Rattle.std.specs.Cmp.{IsEquivalence}
use Rattle.std.proofs.lemmas.Cmp.{nat_eq_equiv}
use Rattle.std.proofs.lemmas.List.{length-map, reverse-append}
use Rattle.std.proofs.lemmas.Option.{none-some}
use Rattle.pl_frame.specs.declared.address.SwitchId.{SwitchId}
use Rattle.pl_layouts.specs.Equality.{same_switch}
use Rattle.pl_node.specs.declared.pod_given.PodGiven.{PodGiven}
use Rattle.pl_node.specs.ManagerViews.{id_cmp, pod_given}
use Rattle.pl_node.proofs.Exports.{few_in_order, id_exact, id_total}
use Rattle.pl_registry.specs.Askers.{AreOnce, pod_holders}

pub newest_first : {X : Type 0} (xs : List X) (x : X) → reverse (xs ++ x ∷ []) ≡ x ∷ reverse xs
newest_first xs x = reverse-append xs (x ∷ [])

switch_laws : IsEquivalence same_switch
switch_laws = record {
  refl = λ a. nat_eq_equiv.refl a.0;
  symm = λ a b. nat_eq_equiv.symm a.0 b.0;
  congr = λ a b c. nat_eq_equiv.congr a.0 b.0 c.0;
}

pub few_holders : (pods : List PodGiven) → AreOnce pods → length pods ≤ length (pod_holders pods)
few_holders pods once =
    let holders : List SwitchId = map (λ (g : PodGiven). g.switch) pods in
    let few = few_in_order id_cmp id_total id_exact same_switch switch_laws holders holders once (λ s h. h) in
    let many = length-map pods (λ (g : PodGiven). g.switch) in
    omega (arith, few, many)

-- one that has none is none of those that have one
apart : (pods : List PodGiven) (s : SwitchId) → pod_given pods s ≡ None → AllByRecursion (λ t. same_switch s t ≡ false) (map (λ g. g.switch) pods)
apart [] s none = tt
apart (g ∷ pods) s none = by (same_switch g.switch s) refl (λ n. apart pods s n) none
  where
    by : (b : Bool) → same_switch g.switch s ≡ b → (pod_given pods s ≡ None → AllByRecursion (λ t. same_switch s t ≡ false) (map (λ h. h.switch) pods)) →
        option_map (λ h. h.pod) (cond b (Some g) (find (λ h. same_switch h.switch s) pods)) ≡ None →
        AllByRecursion (λ t. same_switch s t ≡ false) (map (λ h. h.switch) (g ∷ pods))
    by true is rest n = absurd (none-some g.pod (sym n))
    by false is rest n = (switch_laws.symm s g.switch ∙ is, rest n)

pub none_once : AreOnce []
unfolding IsDistinct
none_once = tt

pub once_more : (pods : List PodGiven) (new : PodGiven) → pod_given pods new.switch ≡ None → AreOnce pods → AreOnce (new ∷ pods)
unfolding IsDistinct
once_more pods new none once = (apart pods new.switch none, once)
