use Rattle.std.proofs.Common.{◌≡◌, replicate}
use Rattle.pl_capture.specs.Spelling.{saved_header}
use Rattle.pl_generator.proofs.captures.empty_captures.Given as goal

abbrev pub invariant-loop : goal.invariant-loop
invariant-loop l = l.captures.items ≡ replicate l.counter saved_header
