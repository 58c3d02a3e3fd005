use Rattle.std.proofs.Common.{◌≡◌, ◌%◌, length}
use Rattle.std.specs.Prelude.{fold}
use Rattle.pl_layouts.specs.Checksum.{ones_plus, words}
use Rattle.pl_multicast.proofs.checksum.checksum.Given as goal

-- the sum so far and the words that are left have the sum of all
abbrev pub invariant-loop-left : goal.invariant-loop-left
invariant-loop-left l = (fold ones_plus l.sum (words l.left) ≡ fold ones_plus 0 (words l.bytes)) × (length l.left % 2 ≡ 0)

abbrev pub decreases-loop-left : goal.decreases-loop-left
decreases-loop-left l = length l.left
