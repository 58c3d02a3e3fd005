-- What the acts of the manager put into the orders of a switch.
use Rattle.std.proofs.Common.{◌≡◌, ℕ, ◌==◌, ◌||◌, Bool, true, false, if◌then◌else◌, get_or, List, [], ◌∷◌, ◌++◌, map, Option, Some, None, slice_get, refl, sym, ap, ◌∙◌, eq-eqb, eqb-true}
use Rattle.std.specs.List.{AllByRecursion, flat_map, position}
use Rattle.std.proofs.lemmas.Bool.{cond-true, false≢true}
use Rattle.std.proofs.lemmas.List.Quantifiers.{position-Some}
use Rattle.std.proofs.lemmas.Option.{slice_get-get_or}
use Rattle.pl_lemmas.proofs.Exports.{all_append}
use Rattle.pl_frame.specs.declared.address.Ip4.{Ip4}
use Rattle.pl_frame.specs.declared.address.Mac.{Mac}
use Rattle.pl_frame.specs.declared.address.SwitchId.{SwitchId}
use Rattle.pl_pmac.specs.declared.pmac.Pmac.{Pmac}
use Rattle.pl_layouts.specs.Equality.{same_switch}
use Rattle.pl_wiring.specs.Plan.{IsPlan, Plan}
use Rattle.pl_node.specs.declared.acts.ManagerAct.{ManagerAct}
use Rattle.pl_node.specs.declared.acts.ManagerAct.TheVariants.{Number, Say}
use Rattle.pl_node.specs.declared.messages.ToSwitch.{ToSwitch}
use Rattle.pl_node.specs.declared.messages.ToSwitch.TheVariants as say
use Rattle.pl_node.specs.AvoidLists.{avoid_list}
use Rattle.pl_node.specs.ManagerFacts.{groups}
use Rattle.pl_node.specs.ManagerViews.{ManagerView, Told}
use Rattle.pl_node.specs.declared.switch_records.Grant.{Grant}
use Rattle.pl_manager_rule.specs.ManagerRule.{answer_to, avoid_acts, changed, changed_of_group, part_in, tree_acts, tree_acts_of}
use Rattle.pl_manager_rule.proofs.Exports.{same_is}
use Rattle.pl_law_control_plane.specs.PlaneSteps.{is_to, ordered, ordered_by}
use Rattle.pl_law_control_plane.proofs.Exports.{any_append}
use Rattle.pl_law_due.specs.Due.{is_hello}
use Rattle.pl_law_addresses.proofs.Exports.{place_is}
use Rattle.pl_law_epochs.specs.Edges.{IsGoodOrder, is_unheard}
use Rattle.pl_law_epochs.specs.Tenures.{order_of, orders_on}

-- ---- orders that speak of no address, nor of a new epoch
abbrev pub IsPlain : ToSwitch → Type 0
IsPlain (say.Invalidate old new number ip) = ⊥
IsPlain (say.Release x) = ⊥
IsPlain (say.Hello epoch) = ⊥
IsPlain says = Unit {0}

pub plain_aside : (y : Pmac) (says : ToSwitch) → IsPlain says → order_of y says ≡ []
plain_aside y (say.Invalidate old new number ip) is = absurd is
plain_aside y (say.Release x) is = absurd is
plain_aside y (say.Hello epoch) is = absurd is
plain_aside y says is = refl

pub plain_known : (says : ToSwitch) → IsPlain says → is_hello says ≡ false
plain_known (say.Invalidate old new number ip) is = absurd is
plain_known (say.Release x) is = absurd is
plain_known (say.Hello epoch) is = absurd is
plain_known says is = refl

pub plain_good : (own : Mac → Option Ip4) (f : Pmac → Option Grant) (says : ToSwitch) → IsPlain says → IsGoodOrder own f says
plain_good own f (say.Invalidate old new number ip) is = absurd is
plain_good own f (say.Release x) is = absurd is
plain_good own f (say.Hello epoch) is = absurd is
plain_good own f says is = tt

pub asides : (y : Pmac) (says : List ToSwitch) → AllByRecursion (λ q. order_of y q ≡ []) says → orders_on y says ≡ []
asides y [] all = refl
asides y (q ∷ says) all = ap (λ os. os ++ orders_on y says) all.0 ∙ asides y says all.1

pub none_hello : (says : List ToSwitch) → AllByRecursion (λ q. is_hello q ≡ false) says → is_unheard says ≡ false
none_hello [] all = refl
none_hello (q ∷ says) all = ap (λ b. b || is_unheard says) all.0 ∙ none_hello says all.1

-- more orders, among which nobody is told of a new epoch
pub unheard_more : (before more : List ToSwitch) → is_unheard more ≡ false → is_unheard (before ++ more) ≡ is_unheard before
unheard_more before more none = any_append is_hello before more ∙ ap (λ b. is_unheard before || b) none ∙ by (is_unheard before)
  where
    by : (b : Bool) → (b || false) ≡ b
    by true = refl
    by false = refl

-- ---- which acts reach a switch
module _ (plan : Plan) (t : ℕ) where
  -- a switch of this id stands at the place that is found
  to_named : (to : SwitchId) (o : Option ℕ) → position (same_switch to) plan.ids ≡ o → is_to o t ≡ true → slice_get plan.ids t ≡ Some to
  to_named to None is found = absurd (false≢true found)
  to_named to (Some n) is found =
      let nobody : SwitchId = record { 0 = 0 } in
      let all = position-Some (same_switch to) plan.ids n nobody is in
      ap (slice_get plan.ids) (sym (eqb-true n t found)) ∙ slice_get-get_or plan.ids n nobody all.0 ∙ ap Some (sym (same_is to (get_or plan.ids n nobody) all.1))

  -- what holds of each message to the switch of this place holds of its orders
  abbrev pub IsActFor : (ToSwitch → Type 0) → ManagerAct → Type 0
  IsActFor P (Say to says) = slice_get plan.ids t ≡ Some to → P says
  IsActFor P (Number x n) = Unit {0}

  one_for : (P : ToSwitch → Type 0) (to : SwitchId) (says : ToSwitch) → IsActFor P (Say to says) → AllByRecursion P (ordered_by plan t (Say to says))
  one_for P to says good = by (is_to (position (same_switch to) plan.ids) t) refl
    where
      by : (b : Bool) → is_to (position (same_switch to) plan.ids) t ≡ b → AllByRecursion P (if b then says ∷ [] else [])
      by true found = (good (to_named to (position (same_switch to) plan.ids) refl found), tt)
      by false other = tt

  pub ordered_all : (P : ToSwitch → Type 0) (acts : List ManagerAct) → AllByRecursion (IsActFor P) acts → AllByRecursion P (ordered plan t acts)
  ordered_all P [] all = tt
  ordered_all P (Say to says ∷ acts) all = all_append P (ordered_by plan t (Say to says)) (ordered plan t acts) (one_for P to says all.0) (ordered_all P acts all.1)
  ordered_all P (Number x n ∷ acts) all = ordered_all P acts all.1

  pub for_weaker : (P Q : ToSwitch → Type 0) → ((says : ToSwitch) → P says → Q says) → (acts : List ManagerAct) → AllByRecursion (IsActFor P) acts → AllByRecursion (IsActFor Q) acts
  for_weaker P Q each [] all = tt
  for_weaker P Q each (Say to says ∷ acts) all = (λ named. each says (all.0 named), for_weaker P Q each acts all.1)
  for_weaker P Q each (Number x n ∷ acts) all = (tt, for_weaker P Q each acts all.1)

  -- one that is said to the switch of this place
  pub ordered_here : IsPlan plan → (to : SwitchId) (says : ToSwitch) → slice_get plan.ids t ≡ Some to → ordered_by plan t (Say to says) ≡ says ∷ []
  ordered_here is to says named =
      ap (λ (o : Option ℕ). if is_to o t then says ∷ [] else []) (place_is plan.ids is.ids_apart t to named)
      ∙ cond-true (t == t) (says ∷ []) [] (eq-eqb t t refl)

  -- ---- acts that speak of no address
  abbrev pub ArePlain : List ManagerAct → Type 0
  ArePlain acts = AllByRecursion (IsActFor IsPlain) acts

  plain_map : {X : Type 0} (f : X → ManagerAct) (xs : List X) → ((x : X) → IsActFor IsPlain (f x)) → ArePlain (map f xs)
  plain_map f [] each = tt
  plain_map f (x ∷ xs) each = (each x, plain_map f xs each)

  plain_flat_map : {X : Type 0} (f : X → List ManagerAct) (xs : List X) → ((x : X) → ArePlain (f x)) → ArePlain (flat_map f xs)
  plain_flat_map f [] each = tt
  plain_flat_map f (x ∷ xs) each = all_append (IsActFor IsPlain) (f x) (flat_map f xs) (each x) (plain_flat_map f xs each)

  pub avoids_plain : (before after : Told) → ArePlain (avoid_acts before after)
  avoids_plain before after = plain_map (λ s. Say s (say.Avoid (avoid_list after s))) (changed before after) (λ s named. tt)

  pub trees_plain : (before after : ManagerView) → ArePlain (tree_acts before after)
  trees_plain before after = plain_flat_map (tree_acts_of before after) (groups after.members)
      (λ group. plain_map (λ s. Say s (say.Tree group (part_in after group s))) (changed_of_group before after group) (λ s named. tt))

  pub answer_is_plain : (asker : Pmac) (asker_ip ip : Ip4) (o : Option Pmac) → IsPlain (answer_to asker asker_ip ip o)
  answer_is_plain asker asker_ip ip None = tt
  answer_is_plain asker asker_ip ip (Some pmac) = tt

  -- what follows a reply
  pub all_plain : (before after : ManagerView) (acts : List ManagerAct) → ArePlain acts → ArePlain (acts ++ avoid_acts before.told after.told ++ tree_acts before after)
  all_plain before after acts all =
      all_append (IsActFor IsPlain) (acts ++ avoid_acts before.told after.told) (tree_acts before after)
      (all_append (IsActFor IsPlain) acts (avoid_acts before.told after.told) all (avoids_plain before.told after.told)) (trees_plain before after)
