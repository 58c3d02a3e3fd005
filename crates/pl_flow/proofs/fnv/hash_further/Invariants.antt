use Rattle.std.proofs.Common.{◌≡◌, take}
use Rattle.std.specs.List.{fold}
use Rattle.pl_layouts.specs.Flow.{fnv_step}
use Rattle.pl_flow.proofs.fnv.hash_further.Given as goal

abbrev pub invariant-loop-byte : goal.invariant-loop-byte
invariant-loop-byte l = l.hash ≡ fold fnv_step l.before (take l.byte-index l.bytes)
