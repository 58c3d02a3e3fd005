-- Each step of the control plane keeps it that the last lists and parts that were sent are those of the records.
use Rattle.std.proofs.Common.{◌≡◌, ℕ, ◌==◌, Bool, true, false, cond, if◌then◌else◌, List, [], ◌∷◌, ◌++◌, Option, Some, None, unwrap_or, slice_get, Less, Equal, nat_cmp, refl, sym, ap, ◌∙◌, subst, inl, inr, eqb-true, eq-eqb, true≢false}
use Rattle.std.specs.List.{AllByRecursion}
use Rattle.std.specs.List.Sorted.{IsStrictlySortedBy}
use Rattle.std.specs.Map.{keys_of, lookup, remove_entry}
use Rattle.std.specs.Option.{option_or}
use Rattle.std.specs.Cmp.{Equal-is}
use Rattle.std.specs.Ordering.{is_eq}
use Rattle.std.proofs.lemmas.Bool.{cases_eq}
use Rattle.std.proofs.lemmas.Cmp.{nat_cmp_total, tied_itself}
use Rattle.std.proofs.lemmas.Map.Lookups.{exact_unsigned}
use Rattle.pl_frame.specs.declared.address.SwitchId.{SwitchId}
use Rattle.pl_wiring.specs.Plan.{IsPlan}
use Rattle.pl_node.specs.declared.messages.ToManager.{ToManager}
use Rattle.pl_node.specs.declared.messages.ToSwitch.{ToSwitch}
use Rattle.pl_node.specs.declared.messages.ToSwitch.TheVariants as say
use Rattle.pl_node.specs.declared.messages.TreePart.{TreePart}
use Rattle.pl_node.specs.AvoidLists.{avoid_list}
use Rattle.pl_node.specs.ManagerDuties.{ManagerRule}
use Rattle.pl_node.specs.ManagerViews.{ManagerView, value_at}
use Rattle.pl_node.specs.SwitchFacts.{part_of}
use Rattle.pl_node.specs.SwitchInputs.{SwitchInput}
use Rattle.pl_node.specs.SwitchInputs.SwitchInput.{Comes, Says, Tick}
use Rattle.pl_node.specs.Trees.{tree_part}
use Rattle.pl_manager_rule.specs.ManagerRule.{avoid_acts, manager_hears, manager_rule, part_in, reply, tree_acts, view_after}
use Rattle.pl_manager_rule.proofs.Exports.{rising_put, word_after}
use Rattle.pl_switch_rule.specs.Messages.{with_part}
use Rattle.pl_switch_rule.specs.SwitchRule.{Loose}
use Rattle.pl_law_control_plane.specs.ControlPlanes.{ControlPlane}
use Rattle.pl_law_control_plane.specs.PlaneSteps.{IsOrderTaken, IsReportTaken, LosesNoWord, ManagerTurns, PlaneStep, SwitchTurns, ordered}
use Rattle.pl_law_control_plane.specs.PlaneSteps.PlaneStep.{Carried, Entered, Heard, Left, Managed, Ordered, Ticked}
use Rattle.pl_law_records.specs.Records.{HasOrders, HaveOrders}
use Rattle.pl_law_records.specs.Words.{avoid_said, last_said, part_said}
use Rattle.pl_law_records.proofs.ListsOfRecords.{avoids_of_trees, avoids_sent, groups_stay, parts_of_avoids, tellers_stay, trees_sent}
use Rattle.pl_law_records.proofs.Intaking.{parts_after}
use Rattle.pl_law_records.proofs.Last.{last_append, no_avoid, no_part}
use Rattle.pl_law_records.proofs.SaidToOneSwitch.{all_said_to, ordered_is, reply_silent, then_more, then_said}
use Rattle.pl_law_records.proofs.ToldInTurns.{avoid_after, parts_then, tells_right}

-- The parts that a switch holds, once its part of a group was replaced.

module _ (group : ℕ) where
  abbrev at_group : List (ℕ × TreePart) → Option TreePart
  at_group parts = lookup (λ g. g == group) parts

  test_is : (k : ℕ) → (k == group) ≡ is_eq (nat_cmp group k)
  test_is k = by (k == group) refl
    where
      other : (k == group) ≡ false → (b : Bool) → is_eq (nat_cmp group k) ≡ b → false ≡ b
      other e false is = refl
      other e true is = absurd (true≢false (sym (eq-eqb k group (sym (exact_unsigned group k ((Equal-is (nat_cmp group k)).0 is)))) ∙ e))

      by : (b : Bool) → (k == group) ≡ b → b ≡ is_eq (nat_cmp group k)
      by true e = sym (ap (λ x. is_eq (nat_cmp group x)) (eqb-true k group e) ∙ ap is_eq (tied_itself nat_cmp_total group))
      by false e = other e (is_eq (nat_cmp group k)) refl

  lookup_is : (parts : List (ℕ × TreePart)) → at_group parts ≡ value_at nat_cmp parts group
  lookup_is [] = refl
  lookup_is (e ∷ es) = ap (λ b. cond b (Some e.1) (at_group es)) (test_is e.0) ∙ ap (λ o. cond (is_eq (nat_cmp group e.0)) (Some e.1) o) (lookup_is es)

  none_above : (es : List (ℕ × TreePart)) (k : ℕ) → k ≡ group → AllByRecursion (λ b. nat_cmp k b ≡ Less) (keys_of es) → at_group es ≡ None
  none_above [] k is all = refl
  none_above (e ∷ es) k is all = by (none_above es k is all.1) (e.0 == group) refl
    where
      by : at_group es ≡ None → (b : Bool) → (e.0 == group) ≡ b → cond b (Some e.1) (at_group es) ≡ None
      by rest true h =
          let same : nat_cmp k e.0 ≡ Equal = ap (nat_cmp k) (eqb-true e.0 group h ∙ sym is) ∙ tied_itself nat_cmp_total k in
          let less = all.0 in absurd (cc)
      by rest false h = rest

  removed_own : (g : ℕ) → g ≡ group → (es : List (ℕ × TreePart)) → IsStrictlySortedBy nat_cmp (keys_of es) → at_group (remove_entry (λ h. h == g) es) ≡ None
  unfolding IsStrictlySortedBy
  removed_own g is [] rising = refl
  removed_own g is (e ∷ es) rising = by (removed_own g is es rising.1) (e.0 == g) refl
    where
      by : at_group (remove_entry (λ h. h == g) es) ≡ None → (b : Bool) → (e.0 == g) ≡ b → at_group (cond b es (e ∷ remove_entry (λ h. h == g) es)) ≡ None
      by rest true h = none_above es e.0 (eqb-true e.0 g h ∙ is) rising.0
      by rest false h = ap (λ b. cond b (Some e.1) (at_group (remove_entry (λ h. h == g) es))) (ap (λ x. e.0 == x) (sym is) ∙ h) ∙ rest

  removed_other : (g : ℕ) → (g == group) ≡ false → (es : List (ℕ × TreePart)) → at_group (remove_entry (λ h. h == g) es) ≡ at_group es
  removed_other g other [] = refl
  removed_other g other (e ∷ es) = by (removed_other g other es) (e.0 == g) refl
    where
      by : at_group (remove_entry (λ h. h == g) es) ≡ at_group es → (b : Bool) → (e.0 == g) ≡ b →
          at_group (cond b es (e ∷ remove_entry (λ h. h == g) es)) ≡ cond (e.0 == group) (Some e.1) (at_group es)
      by rest true h = sym (ap (λ b. cond b (Some e.1) (at_group es)) (ap (λ x. x == group) (eqb-true e.0 g h) ∙ other))
      by rest false h = ap (λ o. cond (e.0 == group) (Some e.1) o) rest

  either : (b : Bool) (part : TreePart) (rest : Option TreePart) → option_or (cond b (Some part) None) rest ≡ unwrap_or (if b then Some (Some part) else None) rest
  either true part rest = refl
  either false part rest = refl

  replaced : (g : ℕ) (part : Option TreePart) (parts : List (ℕ × TreePart)) → IsStrictlySortedBy nat_cmp (keys_of parts) →
      at_group (with_part g part parts) ≡ unwrap_or (part_said group (say.Tree g part)) (at_group parts)
  replaced g (Some part) parts rising =
      lookup_is (with_part g (Some part) parts)
      ∙ word_after nat_cmp nat_cmp_total exact_unsigned parts g group part (g == group) (λ h. sym (eqb-true g group h)) (λ e. eq-eqb g group (sym e))
      ∙ ap (option_or (cond (g == group) (Some part) None)) (sym (lookup_is parts)) ∙ either (g == group) part (at_group parts)
  replaced g None parts rising = by (g == group) refl
    where
      by : (b : Bool) → (g == group) ≡ b → at_group (with_part g None parts) ≡ unwrap_or (if b then Some None else None) (at_group parts)
      by true e = removed_own g (eqb-true g group e) parts rising
      by false e = removed_other g e parts

  pub part_after : (says : ToSwitch) (parts : List (ℕ × TreePart)) → IsStrictlySortedBy nat_cmp (keys_of parts) →
      at_group (parts_after says parts) ≡ unwrap_or (part_said group says) (at_group parts)
  part_after (say.Tree g part) parts rising = replaced g part parts rising
  part_after (say.Pod n) parts rising = refl
  part_after (say.Avoid list) parts rising = refl
  part_after (say.Answer a b c d) parts rising = refl
  part_after (say.Flood a b c) parts rising = refl
  part_after (say.Invalidate a b c d) parts rising = refl
  part_after (say.Release a) parts rising = refl
  part_after (say.Hello epoch) parts rising = refl

keys_removed : (P : ℕ → Type 0) (g : ℕ) (es : List (ℕ × TreePart)) → AllByRecursion P (keys_of es) → AllByRecursion P (keys_of (remove_entry (λ h. h == g) es))
keys_removed P g [] all = tt
keys_removed P g (e ∷ es) all = by (e.0 == g) (keys_removed P g es all.1)
  where
    by : (b : Bool) → AllByRecursion P (keys_of (remove_entry (λ h. h == g) es)) → AllByRecursion P (keys_of (cond b es (e ∷ remove_entry (λ h. h == g) es)))
    by true rest = all.1
    by false rest = (all.0, rest)

rising_removed : (g : ℕ) (es : List (ℕ × TreePart)) → IsStrictlySortedBy nat_cmp (keys_of es) → IsStrictlySortedBy nat_cmp (keys_of (remove_entry (λ h. h == g) es))
unfolding IsStrictlySortedBy
rising_removed g [] rising = tt
rising_removed g (e ∷ es) rising = by (e.0 == g) (rising_removed g es rising.1)
  where
    by : (b : Bool) → IsStrictlySortedBy nat_cmp (keys_of (remove_entry (λ h. h == g) es)) → IsStrictlySortedBy nat_cmp (keys_of (cond b es (e ∷ remove_entry (λ h. h == g) es)))
    by true rest = rising.1
    by false rest = (keys_removed (λ b. nat_cmp e.0 b ≡ Less) g es rising.0, rest)

rising_after : (says : ToSwitch) (parts : List (ℕ × TreePart)) → IsStrictlySortedBy nat_cmp (keys_of parts) → IsStrictlySortedBy nat_cmp (keys_of (parts_after says parts))
unfolding IsStrictlySortedBy
rising_after (say.Tree g (Some part)) parts rising = rising_put nat_cmp nat_cmp_total parts g part rising
rising_after (say.Tree g None) parts rising = rising_removed g parts rising
rising_after (say.Pod n) parts rising = rising
rising_after (say.Avoid list) parts rising = rising
rising_after (say.Answer a b c d) parts rising = rising
rising_after (say.Flood a b c) parts rising = rising
rising_after (say.Invalidate a b c d) parts rising = rising
rising_after (say.Release a) parts rising = rising
rising_after (say.Hello epoch) parts rising = tt

-- What one switch owes stays where what it holds, what waits for it and the manager stay.

pub record IsLikeTo (f g : ControlPlane) (s : ℕ) : Type 0 where
  pub avoid : (g.view s).avoid ≡ (f.view s).avoid
  pub parts : (g.view s).parts ≡ (f.view s).parts
  pub orders : g.orders s ≡ f.orders s
  pub manager : g.manager ≡ f.manager

pub one_like : (f g : ControlPlane) (s : ℕ) (id : SwitchId) → IsLikeTo f g s → HasOrders f s id → HasOrders g s id
one_like f g s id like has = record {
  avoid = rw (like.manager, like.orders, like.avoid) has.avoid;
  parts = λ group. rw (like.manager, like.orders, like.parts) (has.parts group);
  rising = rw like.parts has.rising;
}

pub like_everywhere : (f g : ControlPlane) → g.plan ≡ f.plan → ((s : ℕ) → IsLikeTo f g s) → HaveOrders f → HaveOrders g
like_everywhere f g plan like has s id named = one_like f g s id (like s) (has s id (ap (λ p. slice_get p.ids s) (sym plan) ∙ named))

-- a switch acts on what is no order
ordered_turn : (f g : ControlPlane) (s : ℕ) (input : SwitchInput) → ((list : List (SwitchId × ℕ × ℕ)) → avoid_after input list ≡ list) →
    ((parts : List (ℕ × TreePart)) → parts_then input parts ≡ parts) → SwitchTurns Loose f s input g → HaveOrders f → HaveOrders g
ordered_turn f g s input same_list same_parts turns =
    like_everywhere f g turns.acted.plan (λ t. elim (cases_eq t s) [
      | inl here ↦ subst (IsLikeTo f g) (sym here) at_home
      | inr other ↦
          let same = turns.acted.others t other in
          record { avoid = ap (λ v. v.avoid) same; parts = ap (λ v. v.parts) same; orders = turns.acted.orders t; manager = turns.acted.manager }
    ])
  where
    at_home : IsLikeTo f g s
    at_home =
        let right = tells_right turns.ruled.choose (f.view s) input in
        let view = turns.acted.here ∙ turns.ruled.steps.view in
        record {
          avoid = ap (λ v. v.avoid) view ∙ right.avoid ∙ same_list (f.view s).avoid;
          parts = ap (λ v. v.parts) view ∙ right.parts ∙ same_parts (f.view s).parts;
          orders = turns.acted.orders s;
          manager = turns.acted.manager;
        }

-- a switch hears the manager
ordered_hears : (f m g : ControlPlane) (s : ℕ) (says : ToSwitch) → IsOrderTaken f s says m → SwitchTurns Loose m s (Says says) g → HaveOrders f → HaveOrders g
ordered_hears f m g s says taken turns has t id named =
    let before = has t id (ap (λ p. slice_get p.ids t) (sym (turns.acted.plan ∙ taken.left.plan)) ∙ named) in
    let manager = turns.acted.manager ∙ taken.left.manager in
    elim (cases_eq t s) [
      | inl here ↦ at_home here manager before
      | inr other ↦
          let same = turns.acted.others t other ∙ taken.left.view t in
          one_like f g t id (record {
            avoid = ap (λ v. v.avoid) same;
            parts = ap (λ v. v.parts) same;
            orders = turns.acted.orders t ∙ taken.others t other;
            manager = manager;
          }) before
    ]
  where
    at_home : t ≡ s → g.manager ≡ f.manager → HasOrders f t id → HasOrders g t id
    at_home here manager before =
        let right = tells_right turns.ruled.choose (m.view s) (Says says) in
        let view = ap g.view here ∙ turns.acted.here ∙ turns.ruled.steps.view in
        let was : m.view s ≡ f.view t = taken.left.view s ∙ ap f.view (sym here) in
        let first : f.orders t ≡ says ∷ g.orders t = ap f.orders here ∙ taken.first ∙ ap (λ x. says ∷ m.orders x) (sym here) ∙ ap (λ xs. says ∷ xs) (sym (turns.acted.orders t)) in
        let avoid = ap (λ v. v.avoid) view ∙ right.avoid ∙ ap (λ v. unwrap_or (avoid_said says) v.avoid) was in
        let parts = ap (λ v. v.parts) view ∙ right.parts ∙ ap (λ v. parts_after says v.parts) was in
        record {
          avoid =
              ap (λ x. last_said avoid_said x (g.orders t)) avoid ∙ ap (last_said avoid_said (f.view t).avoid) (sym first) ∙ before.avoid
              ∙ ap (λ v. avoid_list v.told id) (sym manager);
          parts = λ group.
              ap (λ ps. last_said (part_said group) (lookup (λ h. h == group) ps) (g.orders t)) parts
              ∙ ap (λ x. last_said (part_said group) x (g.orders t)) (part_after group says (f.view t).parts before.rising)
              ∙ ap (last_said (part_said group) (part_of (f.view t) group)) (sym first) ∙ before.parts group
              ∙ ap (λ v. tree_part v.told v.members group id) (sym manager);
          rising = subst (λ ps. IsStrictlySortedBy nat_cmp (keys_of ps)) (sym parts) (rising_after says (f.view t).parts before.rising);
        }

-- the manager hears a switch
module _ (before : ManagerView) (s : SwitchId) (told : ToManager) (id : SwitchId) where
  hears_avoid : then_said avoid_said id (avoid_list before.told id) (manager_hears before s told).acts ≡ avoid_list (view_after before s told).told id
  unfolding manager_hears
  hears_avoid =
      let new = view_after before s told in
      let first = reply before new s told in
      let avoids = avoid_acts before.told new.told in
      let x = avoid_list before.told id in
      then_more avoid_said id x (first ++ avoids) (tree_acts before new) ∙ avoids_of_trees before new id (then_said avoid_said id x (first ++ avoids))
      ∙ then_more avoid_said id x first avoids
      ∙ ap (λ y. then_said avoid_said id y avoids) (reply_silent avoid_said id no_avoid before new s told x)
      ∙ avoids_sent before.told new.told id (tellers_stay before s id told)

  hears_part : (group : ℕ) → then_said (part_said group) id (part_in before group id) (manager_hears before s told).acts ≡ part_in (view_after before s told) group id
  unfolding manager_hears
  hears_part group =
      let new = view_after before s told in
      let first = reply before new s told in
      let avoids = avoid_acts before.told new.told in
      let x = part_in before group id in
      let stay = tellers_stay before s id told in
      let group_stays = groups_stay before s group told in
      then_more (part_said group) id x (first ++ avoids) (tree_acts before new)
      ∙ ap (λ y. then_said (part_said group) id y (tree_acts before new))
      (then_more (part_said group) id x first avoids
      ∙ ap (λ y. then_said (part_said group) id y avoids) (reply_silent (part_said group) id (no_part group) before new s told x)
      ∙ parts_of_avoids before new id stay group group_stays x)
      ∙ trees_sent before new id stay group group_stays

pub ordered_manager : (f m g : ControlPlane) (s : ℕ) (id : SwitchId) (told : ToManager) → IsPlan f.plan → IsReportTaken f s told m → ManagerTurns manager_rule m id told g →
    HaveOrders f → HaveOrders g
unfolding manager_hears
ordered_manager f m g s id told is taken turns has t id_t named_t =
    let same_plan = taken.left.plan in
    let named_f : slice_get f.plan.ids t ≡ Some id_t = ap (λ p. slice_get p.ids t) (sym (turns.plan ∙ same_plan)) ∙ named_t in
    let was = has t id_t named_f in
    let manager : m.manager ≡ f.manager = taken.left.manager in
    let new : g.manager ≡ view_after f.manager id told = turns.manager ∙ turns.ruled.0 ∙ ap (λ v. view_after v id told) manager in
    let acts : turns.acts ≡ (manager_hears f.manager id told).acts = turns.ruled.1 ∙ ap (λ v. (manager_hears v id told).acts) manager in
    let view : g.view t ≡ f.view t = turns.view t ∙ taken.left.view t in
    let words : g.orders t ≡ f.orders t ++ all_said_to id_t (manager_hears f.manager id told).acts =
    turns.orders t ∙ ap (λ xs. xs ++ ordered m.plan t turns.acts) (taken.orders t) ∙ ap (λ p. f.orders t ++ ordered p t turns.acts) same_plan
    ∙ ap (λ xs. f.orders t ++ xs) (ordered_is f.plan is t id_t named_f turns.acts ∙ ap (all_said_to id_t) acts) in
    let said = all_said_to id_t (manager_hears f.manager id told).acts in
    record {
      avoid =
          rw (new, words, view)
          (last_append avoid_said (f.view t).avoid (f.orders t) said ∙ ap (λ x. last_said avoid_said x said) was.avoid ∙ hears_avoid f.manager id told id_t);
      parts = λ group.
          rw (new, words, view)
          (last_append (part_said group) (part_of (f.view t) group) (f.orders t) said ∙ ap (λ x. last_said (part_said group) x said) (was.parts group)
          ∙ hears_part f.manager id told id_t group);
      rising = subst (λ v. IsStrictlySortedBy nat_cmp (keys_of v.parts)) (sym view) was.rising;
    }

-- a step of the control plane, whatever rule the manager has, where its turns keep it
pub plane_ordered_by : (rule : ManagerRule) (f g : ControlPlane) → HaveOrders f →
    ((mid : ControlPlane) (s : ℕ) (id : SwitchId) (word : ToManager) → IsReportTaken f s word mid → ManagerTurns rule mid id word g → HaveOrders g) →
    (step : PlaneStep Loose rule f g) → LosesNoWord Loose rule f g step → HaveOrders g
plane_ordered_by rule f g has managed (Left left) kept =
    like_everywhere f g left.plan (λ s. record { avoid = ap (λ v. v.avoid) (left.view s); parts = ap (λ v. v.parts) (left.view s); orders = kept.orders s; manager = left.manager }) has
plane_ordered_by rule f g has managed (Ticked s turns) kept = ordered_turn f g s Tick (λ list. refl) (λ parts. refl) turns has
plane_ordered_by rule f g has managed (Heard t q s port frame mid adjacent control taken turns) kept =
    ordered_turn mid g s (Comes port frame) (λ list. refl) (λ parts. refl) turns
    (like_everywhere f mid taken.left.plan (λ x. record {
      avoid = ap (λ v. v.avoid) (taken.left.view x);
      parts = ap (λ v. v.parts) (taken.left.view x);
      orders = taken.orders x;
      manager = taken.left.manager;
    }) has)
plane_ordered_by rule f g has managed (Carried t q s port frame mid adjacent control carries taken turns) kept =
    ordered_turn mid g s (Comes port frame) (λ list. refl) (λ parts. refl) turns
    (like_everywhere f mid taken.left.plan (λ x. record {
      avoid = ap (λ v. v.avoid) (taken.left.view x);
      parts = ap (λ v. v.parts) (taken.left.view x);
      orders = taken.orders x;
      manager = taken.left.manager;
    }) has)
plane_ordered_by rule f g has managed (Entered s port frame edge within free control turns) kept = ordered_turn f g s (Comes port frame) (λ list. refl) (λ parts. refl) turns has
plane_ordered_by rule f g has managed (Ordered s says mid taken turns) kept = ordered_hears f mid g s says taken turns has
plane_ordered_by rule f g has managed (Managed s id word mid there named taken turns) kept = managed mid s id word taken turns
