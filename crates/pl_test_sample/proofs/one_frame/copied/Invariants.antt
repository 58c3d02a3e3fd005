use Rattle.std.proofs.Common.{◌≡◌, take}
use Rattle.pl_test_sample.proofs.one_frame.copied.Given as goal

abbrev pub invariant-loop-me : goal.invariant-loop-me
invariant-loop-me l = l.copy ≡ take l.me-index l.me-items
