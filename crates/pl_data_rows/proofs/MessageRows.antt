-- A frame that the switch makes goes to all hosts.
use Rattle.std.proofs.Common.{◌≡◌, ℕ, List, [], ◌∷◌, ◌++◌, Some, refl, ap, ◌∙◌, subst}
use Rattle.pl_node.specs.declared.acts.Act.{Act}
use Rattle.pl_node.specs.declared.acts.Act.TheVariants.{Make}
use Rattle.pl_node.specs.SwitchViews.{SwitchView}
use Rattle.pl_steps.proofs.Exports.{taken_then}
use Rattle.pl_steps.specs.Steps.{does}
use Rattle.pl_steps.specs.Taken.{IsTaken}
use Rattle.pl_switch_rule.specs.declared.came.Came.TheVariants.{FromHost}
use Rattle.pl_switch_rule.specs.GroupForwarding.{forwards_group}
use Rattle.pl_switch_rule.specs.Messages.{floods}

pub sent_to_all : (v : SwitchView) (made sent frame : List ℕ) (o q p : List Act) → made ≡ frame → sent ≡ frame → q ≡ o ++ Make made ∷ [] →
    IsTaken (forwards_group v (Some FromHost) sent) v q p → IsTaken (floods v frame) v o p
sent_to_all v made sent frame o q p same at told taken =
    taken_then (does v (Make frame ∷ [])) (λ w. forwards_group w (Some FromHost) frame) v v o q p
    (record { view = refl; acts = told ∙ ap (λ (f : List ℕ). o ++ Make f ∷ []) same })
    (subst (λ (f : List ℕ). IsTaken (forwards_group v (Some FromHost) f) v q p) at taken)
