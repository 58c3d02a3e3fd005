use Rattle.std.proofs.Common.{subst, sym}
use Rattle.pl_shelf.specs.MemoryShelf.{capacity_in, held_in, unless_failing}
use Rattle.pl_run.specs.Prepared.{IsPrepared}
use Rattle.pl_run.proofs.in_memory.portland_in_memory.Goals as goal

pub returns : goal.returns
returns c t is none prepared =
    c.portland.ensures.prepared t is
    (subst (λ calls. IsPrepared (unless_failing calls (capacity_in c.args.shelf.now.places)) (held_in c.args.shelf.now.places) t) (sym none) prepared)
