-- What the manager does part by part leaves what the switches know, and makes nobody silent that was heard; and of a silent switch nothing is due.
use Rattle.std.proofs.Common.{◌≡◌, ℕ, false, List, [], ◌∷◌, ◌++◌, sym, ap, ◌∙◌, inl, inr}
use Rattle.std.specs.List.{list_any}
use Rattle.std.proofs.lemmas.Bool.{false≢true, or_parts}
use Rattle.pl_wiring.specs.Plan.{IsPlan}
use Rattle.pl_node.specs.declared.messages.ToSwitch.{ToSwitch}
use Rattle.pl_manager_rule.specs.WholeRule.{gathered}
use Rattle.pl_law_control_plane.specs.ControlPlanes.{ControlPlane}
use Rattle.pl_law_control_plane.specs.PlaneSteps.{ordered}
use Rattle.pl_law_control_plane.proofs.Exports.{any_append}
use Rattle.pl_law_due.specs.Due.{due_of, due_plane, is_hello, is_silent, read}
use Rattle.pl_law_control_plane.specs.Restarts.{IsAlike}
use Rattle.pl_law_due.specs.DueSteps.{ManagerPart, Parts, released}
use Rattle.pl_law_due.specs.DueSteps.ManagerPart.{Released, Treated, Turned}
use Rattle.pl_law_due.specs.Gathering.{AreUnheard, GathersWell}
use Rattle.pl_law_due.proofs.Sifting.{silent_part}
use Rattle.pl_law_due.proofs.Words.{due_unbegun, none_behind}

pub alike_then : (f g h : ControlPlane) → IsAlike f g → IsAlike g h → IsAlike f h
alike_then f g h a b = record {
  plan = b.plan ∙ a.plan;
  view = λ s. b.view s ∙ a.view s;
  says = λ s port. b.says s port ∙ a.says s port;
  carries = λ s port carries. a.carries s port (b.carries s port carries);
}

pub part_alike : (f g : ControlPlane) → ManagerPart f g → IsAlike f g
part_alike f g (Treated s id told mid there named taken turns) = record {
  plan = turns.plan ∙ taken.left.plan;
  view = λ t. turns.view t ∙ taken.left.view t;
  says = λ t port. turns.says t port ∙ taken.messages t port;
  carries = λ t port carries. taken.left.carries t port (sym (turns.carries t port) ∙ carries);
}
part_alike f g (Turned turns) = turns.alike
part_alike f g (Released aged releases) = releases.alike

pub parts_alike : (mids : List ControlPlane) (f g : ControlPlane) → Parts mids f g → IsAlike f g
parts_alike [] f g part = part_alike f g part
parts_alike (mid ∷ mids) f g parts = alike_then f mid g (part_alike f mid parts.0) (parts_alike mids mid g parts.1)

-- orders are put behind those that wait
loud_before : (before after more : List ToSwitch) → after ≡ before ++ more → list_any is_hello after ≡ false → list_any is_hello before ≡ false
loud_before before after more is loud =
    (or_parts (list_any is_hello before) (list_any is_hello more) (sym (ap (list_any is_hello) is ∙ any_append is_hello before more) ∙ loud)).0

pub part_loud : (f g : ControlPlane) → ManagerPart f g → (s : ℕ) → is_silent g.orders s ≡ false → is_silent f.orders s ≡ false
part_loud f g (Treated u id told mid there named taken turns) s loud =
    loud_before (f.orders s) (g.orders s) (ordered mid.plan s turns.acts) (turns.orders s ∙ ap (λ os. os ++ ordered mid.plan s turns.acts) (taken.orders s)) loud
part_loud f g (Turned turns) s loud = ap (list_any is_hello) (sym (turns.orders s)) ∙ loud
part_loud f g (Released aged releases) s loud =
    loud_before (f.orders s) (g.orders s) (ordered f.plan s (released f.manager aged).acts) (releases.orders s) loud

pub parts_loud : (mids : List ControlPlane) (f g : ControlPlane) → Parts mids f g → (s : ℕ) → is_silent g.orders s ≡ false → is_silent f.orders s ≡ false
parts_loud [] f g part s loud = part_loud f g part s loud
parts_loud (mid ∷ mids) f g parts s loud = part_loud f mid parts.0 s (parts_loud mids mid g parts.1 s loud)

-- what is kept through each part is kept through all of them
pub through_parts : (P : ControlPlane → Type 0) → ((f g : ControlPlane) → ManagerPart f g → P f → P g) → (mids : List ControlPlane) (f g : ControlPlane) → Parts mids f g → P f → P g
through_parts P each [] f g part holds = each f g part holds
through_parts P each (mid ∷ mids) f g parts holds = through_parts P each mids mid g parts.1 (each f mid parts.0 holds)

-- ---- silent switches
pub due_unheard : (f : ControlPlane) → IsPlan f.plan → GathersWell f → AreUnheard (due_plane f)
due_unheard f is well s id named silent =
    let part = silent_part f is well s id named silent in
    let old = well.old s id named silent in
    let anew = well.anew part in
    record {
      nothing = ap (λ o. due_of f.manager o (f.reports s)) named
          ∙ (due_unbegun (gathered f.manager) id (read (f.reports s)) part old.not_begun ∙ none_behind f.manager.epoch (read (f.reports s)) old.begins_none);
      alone = elim (anew.orders_alone s id named) [
        | inl none ↦ absurd (false≢true (sym (ap (list_any is_hello) none) ∙ silent))
        | inr alone ↦ alone
      ];
      anew = anew.knows_nothing;
    }
