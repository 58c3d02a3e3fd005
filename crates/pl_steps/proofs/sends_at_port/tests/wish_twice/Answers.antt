use Rattle.std.proofs.Common.{[], ◌∷◌}
use Rattle.pl_node.specs.declared.acts.Act.TheVariants.{Tell}
use Rattle.pl_node.specs.declared.messages.ToManager.TheVariants.{PodWanted}
use Rattle.pl_steps.specs.Steps.{does}
use Rattle.pl_steps.proofs.Parts.{taken_then}
use Rattle.pl_steps.proofs.sends_at_port.tests.wish_twice.Goals as goal

pub returns : goal.returns
returns c = λ v. taken_then (does v (Tell PodWanted ∷ [])) (λ w. does w (Tell PodWanted ∷ [])) v v _ _ _ (c.in_ok-wish.ensures v) (c.in_ok-wish-2.ensures v)
