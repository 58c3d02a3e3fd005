use Rattle.std.proofs.Common.{◌≡◌}
use Rattle.pl_steps.proofs.Parts.{taken_gains}
use Rattle.pl_steps.proofs.taken_laws.what_a_whole_step_gives.Goals as goal

pub returns : goal.returns
returns c = λ s w o p. taken_gains (λ acts. (w ≡ s.view) × (acts ≡ s.acts)) s w o p (λ acts view done. (view, done))
