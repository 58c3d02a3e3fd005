use Rattle.std.proofs.Common.{refl, ◌∙◌, ap}
use Rattle.pl_world.specs.Booting.{first_attachment}
use Rattle.pl_world.specs.Changes.{host_no}
use Rattle.pl_world_parts.proofs.Standing.{first_more}
use Rattle.pl_world_parts.proofs.attachments.Attachments.first.Goals as goal

pub loop-n-preserved : goal.loop-n-preserved
loop-n-preserved c =
    let next = first_more c.args.hosts.now c.loop-n.attachments.items c.push.new.self.items c.loop-n.by_port.entries c.place.new.by_port.entries c.loop-n.n
    c.index-hosts-n.result (host_no c.loop-n.n) c.first_attachment-attachment.result c.loop-n-test.true c.requires.apart refl
    (c.first_attachment-attachment.ensures ∙ ap first_attachment c.index-hosts-n.is)
    c.loop-n.invariant.so_far c.loop-n.invariant.tells (λ at. c.in_ok-place.ensures.ok at) c.in_ok-push.ensures.items in
    record { so_far = next.0; tells = next.1 }
