use Rattle.std.proofs.Common.{◌≡◌, List, ◌++◌, length, drop}
use Rattle.std.specs.String.{string_bytes}
use Rattle.pl_journal.specs.declared.entry.Entry.{Entry}
use Rattle.pl_output.specs.Summary.{host_lines}
use Rattle.pl_output.specs.Tallied.{IsTallyOf}
use Rattle.pl_output.proofs.summary.add_host_lines.Given as goal

abbrev pub invariant-loop-n : goal.invariant-loop-n
invariant-loop-n l = (journal : List Entry) → IsTallyOf l.tally (length l.hosts) journal →
    string_bytes l.text ++ host_lines journal l.n (drop l.n l.hosts) (drop l.n l.rests)
    ≡ string_bytes l.fn.text ++ host_lines journal 0 l.hosts l.rests
