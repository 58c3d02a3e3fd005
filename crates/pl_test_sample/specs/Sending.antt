-- A host that sends one frame when it starts.
use Rattle.std.specs.Prelude.{◌≡◌, []}
use Rattle.pl_journal.specs.declared.cause.Skip.TheVariants.{HoldFull}
use Rattle.pl_node.specs.declared.reception.Reception.TheVariants.{Kept}
use Rattle.pl_host_rule.specs.HostRule.{HostStep, skipping, starting, step_to}
use Rattle.pl_node.specs.HostInputs.{HostInput, HostRule}
use Rattle.pl_node.specs.HostInputs.HostAnswer.{Nothing, Received}
use Rattle.pl_node.specs.HostInputs.HostInput.{Plays, PlaysRaw, Receives, Starts}
use Rattle.pl_node.specs.HostViews.{HostView}

-- At start it asks for its own address. It has no room for a recorded frame, and keeps what arrives.
abbrev pub one_frame_step : HostView → HostInput → HostStep
one_frame_step view Starts = starting view
one_frame_step view (Plays frame original) = skipping view HoldFull
one_frame_step view (PlaysRaw frame original) = skipping view HoldFull
one_frame_step view (Receives frame) = step_to view [] (Received Kept)
one_frame_step view input = step_to view [] Nothing

abbrev pub SendsOneFrame : HostRule
SendsOneFrame view input after acts answer = one_frame_step view input ≡ record { view = after; acts = acts; answer = answer }
