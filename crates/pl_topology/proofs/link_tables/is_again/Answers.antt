use Rattle.std.proofs.Common.{ap, ◌∙◌, is_some}
use Rattle.pl_topology.specs.Entries.{is_between}
use Rattle.pl_topology.proofs.FoundLemmas.{is_some_found}
use Rattle.pl_topology.proofs.link_tables.is_again.Goals as goal

pub returns-in-Some : goal.returns-in-Some
returns-in-Some c = λ before finds.
    rw c.in-Some.is (c.is_some.ensures ∙ ap is_some (c.entry_between.ensures.found before finds) ∙ is_some_found (is_between c.args.a c.in-Some.b) before)
