use Rattle.std.proofs.Common.{rules, ◌<◌, ◌^◌, length, subst}
use Rattle.std.proofs.lemmas.List.{take_all}
use Rattle.pl_shelf.specs.MemoryShelf.{held_in}
use Rattle.pl_generator.specs.Generated.{AreHeld}
use Rattle.pl_generator.proofs.Held.{none_held, held_more}
use Rattle.pl_generator.proofs.shelf.hold_captures.Goals as goal

pub loop-host-init : goal.loop-host-init
loop-host-init c = record { held = none_held (held_in c.args.shelf.now.places); untouched = λ before. before }

pub loop-host-preserved : goal.loop-host-preserved
loop-host-preserved c =
    let small : c.loop-host.host < 2 ^ 64 = search rules in
    let within : c.loop-host.host < length c.args.captures.now = c.loop-host-test.true in
    record {
      held = held_more _ _ _ c.args.captures.now c.loop-host.host c.index-captures-host.result within small
          c.index-captures-host.is c.loop-host.invariant.held
          c.in_ok-hold_capture.ensures.held;
      untouched = λ before. c.in_ok-hold_capture.ensures.untouched (c.loop-host.invariant.untouched before);
    }

pub returns-clause-held : goal.returns-clause-held
returns-clause-held c =
    subst (AreHeld (held_in c.args.shelf.now.places) (held_in c.loop-host.shelf.places))
    (take_all c.loop-host.host c.args.captures.now c.loop-host-test.false)
    c.loop-host.invariant.held

pub returns-clause-untouched : goal.returns-clause-untouched
returns-clause-untouched c = c.loop-host.invariant.untouched
