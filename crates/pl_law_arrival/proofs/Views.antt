-- What a switch knows after its turn.
use Rattle.std.proofs.Common.{◌≡◌, ℕ, Some, set, slice_get, ap, ◌∙◌}
use Rattle.pl_lemmas.proofs.Exports.{set_there}
use Rattle.pl_node.specs.SwitchInputs.{SwitchInput, SwitchRule}
use Rattle.pl_world.specs.declared.spoken_frame.SpokenFrame.{SpokenFrame as Speech}
use Rattle.pl_world.specs.SwitchActs.{begins}
use Rattle.pl_world.specs.WorldRule.{SwitchTurn}
use Rattle.pl_world.specs.Worlds.{WorldView}
use Rattle.pl_world.proofs.Exports.{acts_switches}

pub view_after : (rule : SwitchRule) (w : WorldView) (s : ℕ) (input : SwitchInput) (speech : Speech) (new : WorldView) (turn : SwitchTurn rule w s input speech new) →
    slice_get new.switches s ≡ Some turn.after
view_after rule w s input speech new turn =
    let start : WorldView = record w { switches = set w.switches s turn.after } in
    ap (λ (x : WorldView). slice_get x.switches s) turn.changed
    ∙ ap (λ xs. slice_get xs s) (acts_switches s (begins start speech) turn.acts) ∙ set_there w.switches s turn.before turn.after turn.found
