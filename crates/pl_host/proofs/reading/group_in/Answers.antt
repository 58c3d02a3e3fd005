use Rattle.std.proofs.Common.{◌∙◌, ap, List, ℕ}
use Rattle.pl_layouts.specs.Memberships.{group_of}
use Rattle.pl_host.proofs.Stepping.{group_of-six_bytes}
use Rattle.pl_host.proofs.reading.group_in.Goals as goal

pub returns : goal.returns
returns c =
    c.group_of.ensures.number ∙ ap (λ (bytes : List ℕ). group_of (record { 0 = bytes })) c.destination_in.ensures
    ∙ group_of-six_bytes c.args.frame.now
