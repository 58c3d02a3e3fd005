use Rattle.std.proofs.Common.{◌≡◌, ◌<◌, List, None, length, subst, sym, arith}
use Rattle.std.specs.List.{position}
use Rattle.std.proofs.lemmas.Grind.{common_steps}
use Rattle.std.proofs.lemmas.Option.{gets}
use Rattle.pl_world.specs.declared.attachment.AttachmentPoint.{AttachmentPoint}
use Rattle.pl_world_parts.proofs.Standing.{at_port, moved}
use Rattle.pl_world_parts.proofs.attachments.Attachments.move_to.Goals as goal

pub invariant_of-self-2 : goal.invariant_of-self-2
invariant_of-self-2 c =
    moved c.self.inside.attachments.items c.self.inside.by_port.entries c.place.new.by_port.entries c.leave.new.by_port.entries c.args.h c.index-from.result.now c.args.to
    (subst (λ (xs : List AttachmentPoint). c.args.h.0 < length xs) (sym c.self.view_is) c.requires.host)
    (grind (arith, common_steps, gets, c.index-from.ensures))
    (subst (λ (xs : List AttachmentPoint). position (at_port c.args.to) xs ≡ None) (sym c.self.view_is) c.requires.free)
    c.self.invariant (λ at. c.in_ok-place.ensures.ok at) (λ at. c.leave.ensures at)
