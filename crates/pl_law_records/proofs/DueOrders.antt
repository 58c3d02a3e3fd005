-- Each step to what is due, and a restart, keeps it that the last orders are those of the records.
use Rattle.std.proofs.Common.{◌≡◌, ℕ, [], ◌+◌, Some, None, slice_get, refl, sym, ap, subst, ◌∙◌, inl, inr, arith}
use Rattle.std.specs.List.Sorted.{IsStrictlySortedBy}
use Rattle.std.specs.Map.{keys_of}
use Rattle.std.specs.Ordering.{nat_cmp}
use Rattle.std.proofs.lemmas.Option.{slice_get_within}
use Rattle.pl_lemmas.proofs.Exports.{all_weaker}
use Rattle.pl_frame.specs.declared.address.SwitchId.{SwitchId}
use Rattle.pl_wiring.specs.Plan.{IsPlan, Plan}
use Rattle.pl_node.specs.AvoidLists.{avoid_list}
use Rattle.pl_node.specs.Trees.{tree_part}
use Rattle.pl_node.specs.SwitchFacts.{part_of}
use Rattle.pl_node.specs.SwitchViews.{SwitchView}
use Rattle.pl_node.specs.declared.messages.ToManager.{ToManager}
use Rattle.pl_node.specs.declared.messages.ToSwitch.{ToSwitch}
use Rattle.pl_node.specs.declared.messages.ToSwitch.TheVariants as say
use Rattle.pl_node.specs.ManagerViews.{ManagerView, restarted_manager}
use Rattle.pl_switch_rule.specs.SwitchRule.{Loose}
use Rattle.pl_law_control_plane.specs.ControlPlanes.{ControlPlane}
use Rattle.pl_law_control_plane.specs.PlaneSteps.{IsReportTaken, ManagerTurns}
use Rattle.pl_law_control_plane.specs.Restarts.{Restarts}
use Rattle.pl_law_due.specs.DueSteps.{DueStep, IsSifted, ManagerPart, treats_one}
use Rattle.pl_law_due.specs.DueSteps.DueStep.{Managed as ManagedBy, Stepped}
use Rattle.pl_law_due.specs.DueSteps.ManagerPart.{Released, Treated, Turned}
use Rattle.pl_law_due.proofs.Exports.{heard_or_noted, IsRelease, Learns, part_alike, releases_learn, through_parts}
use Rattle.pl_law_records.specs.Records.{HaveOrders}
use Rattle.pl_law_records.specs.Words.{avoid_said, last_said, part_said}
use Rattle.pl_law_records.proofs.Last.{last_append, last_silent}
use Rattle.pl_law_records.proofs.ListsOfRecords.{no_list, no_part}
use Rattle.pl_law_records.proofs.Ordering.{like_everywhere, ordered_manager, plane_ordered_by}

-- a release says nothing of lists and trees
release_no_list : (says : ToSwitch) → IsRelease says → avoid_said says ≡ None
release_no_list (say.Release x) is = refl
release_no_list (say.Pod n) is = absurd is
release_no_list (say.Answer a b c d) is = absurd is
release_no_list (say.Flood a b c) is = absurd is
release_no_list (say.Avoid list) is = absurd is
release_no_list (say.Invalidate a b c d) is = absurd is
release_no_list (say.Hello epoch) is = absurd is
release_no_list (say.Tree g part) is = absurd is

release_no_part : (group : ℕ) (says : ToSwitch) → IsRelease says → part_said group says ≡ None
release_no_part group (say.Release x) is = refl
release_no_part group (say.Pod n) is = absurd is
release_no_part group (say.Answer a b c d) is = absurd is
release_no_part group (say.Flood a b c) is = absurd is
release_no_part group (say.Avoid list) is = absurd is
release_no_part group (say.Invalidate a b c d) is = absurd is
release_no_part group (say.Hello epoch) is = absurd is
release_no_part group (say.Tree g part) is = absurd is

-- the manager learns of addresses, and releases some
learns_ordered : (f g : ControlPlane) → Learns f g → HaveOrders f → HaveOrders g
learns_ordered f g learns has s id named =
    let was = has s id (ap (λ (p : Plan). slice_get p.ids s) (sym learns.alike.plan) ∙ named) in
    let more = learns.more s in
    let view = learns.alike.view s in
    record {
      avoid =
          (λ i. last_said avoid_said (view i).avoid (learns.orders s i))
          ∙ last_append avoid_said (f.view s).avoid (f.orders s) more
          ∙ last_silent avoid_said _ more (all_weaker IsRelease (λ w. avoid_said w ≡ None) release_no_list more (learns.releases s))
          ∙ was.avoid ∙ sym (ap (λ (v : ManagerView). avoid_list v.told id) learns.manager);
      parts = λ group.
          (λ i. last_said (part_said group) (part_of (view i) group) (learns.orders s i))
          ∙ last_append (part_said group) (part_of (f.view s) group) (f.orders s) more
          ∙ last_silent (part_said group) _ more (all_weaker IsRelease (λ w. part_said group w ≡ None) (release_no_part group) more (learns.releases s))
          ∙ was.parts group ∙ sym (ap (λ (v : ManagerView). tree_part v.told v.members group id) learns.manager);
      rising = subst (λ (v : SwitchView). IsStrictlySortedBy nat_cmp (keys_of v.parts)) (sym view) was.rising;
    }

treated_ordered : (f m g : ControlPlane) (s : ℕ) (id : SwitchId) (told : ToManager) → IsPlan f.plan → IsReportTaken f s told m → ManagerTurns treats_one m id told g → HaveOrders f → HaveOrders g
treated_ordered f m g s id told is taken turns has = elim (heard_or_noted m g id told turns) [
  | inl ruled ↦ ordered_manager f m g s id told is taken ruled has
  | inr noted ↦ learns_ordered m g noted.1 (like_everywhere f m taken.left.plan (λ x. record {
    avoid = ap (λ (v : SwitchView). v.avoid) (taken.left.view x);
    parts = ap (λ (v : SwitchView). v.parts) (taken.left.view x);
    orders = taken.orders x;
    manager = taken.left.manager;
  }) has)
]

part_ordered : (f g : ControlPlane) → ManagerPart f g → IsPlan f.plan × HaveOrders f → IsPlan g.plan × HaveOrders g
part_ordered f g part both = (subst IsPlan (sym (part_alike f g part).plan) both.0, by part)
  where
    by : ManagerPart f g → HaveOrders g
    by (Treated s id told mid there named taken turns) = treated_ordered f mid g s id told both.0 taken turns both.1
    by (Turned turns) = like_everywhere f g turns.alike.plan (λ x. record {
      avoid = ap (λ (v : SwitchView). v.avoid) (turns.alike.view x);
      parts = ap (λ (v : SwitchView). v.parts) (turns.alike.view x);
      orders = turns.orders x;
      manager = turns.manager;
    }) both.1
    by (Released aged releases) = learns_ordered f g (releases_learn f aged g releases) both.1

sifted_ordered : (f g : ControlPlane) → IsSifted f g → HaveOrders f → HaveOrders g
sifted_ordered f g sifted has = like_everywhere f g sifted.alike.plan (λ x. record {
  avoid = ap (λ (v : SwitchView). v.avoid) (sifted.alike.view x);
  parts = ap (λ (v : SwitchView). v.parts) (sifted.alike.view x);
  orders = sifted.orders x;
  manager = sifted.manager;
}) has

pub due_ordered : (f g : ControlPlane) → IsPlan f.plan → HaveOrders f → DueStep Loose f g → HaveOrders g
due_ordered f g is has (Stepped between step sifted) =
    sifted_ordered between g sifted
    (plane_ordered_by treats_one f between has (λ mid s id word taken turns. treated_ordered f mid between s id word is taken turns has) step.0 step.1)
due_ordered f g is has (ManagedBy mids parts) =
    (through_parts (λ x. IsPlan x.plan × HaveOrders x) part_ordered mids f g parts (is, has)).1

-- a manager that begins anew orders nothing, and a switch that hears of it forgets its list and its parts
pub restart_ordered : (f g : ControlPlane) → IsPlan f.plan → HaveOrders f → Restarts f g → HaveOrders g
restart_ordered f g is has restarts s id named =
    let named_f : slice_get f.plan.ids s ≡ Some id = ap (λ (p : Plan). slice_get p.ids s) (sym restarts.alike.plan) ∙ named in
    let less = slice_get_within f.plan.ids s id named_f in
    let many = is.ids_many in
    let orders = restarts.orders s (omega (arith, less, many)) in
    let told = (restarted_manager f.plan.k (f.manager.epoch + 1)).told in
    let was = has s id named_f in
    record {
      avoid = ap (last_said avoid_said (g.view s).avoid) orders ∙ sym (no_list told id (λ h. h)) ∙ sym (ap (λ (v : ManagerView). avoid_list v.told id) restarts.manager);
      parts = λ group.
          ap (last_said (part_said group) (part_of (g.view s) group)) orders ∙ sym (no_part told id (λ h. h) [] group)
          ∙ sym (ap (λ (v : ManagerView). tree_part v.told v.members group id) restarts.manager);
      rising = subst (λ (v : SwitchView). IsStrictlySortedBy nat_cmp (keys_of v.parts)) (sym (restarts.alike.view s)) was.rising;
    }
