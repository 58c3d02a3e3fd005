use Rattle.pl_inputs.specs.Met.{asked}
use Rattle.pl_shelf.specs.MemoryShelf.{held_in}
use Rattle.pl_run.proofs.Ending.{ungenerated}
use Rattle.pl_run.proofs.generating.generated_inputs.Goals as goal

pub returns : goal.returns
returns c = record {
  ok = tt;
  err = ungenerated c.args.generation (held_in c.in_ok-files.files.places) c.in_ok-files.ensures.generated (asked c.generated_files.result)
      c.generated_files.ensures c.in-Err.status _ c.in-Err.ensures.err c.without_read_fault.ensures;
}
