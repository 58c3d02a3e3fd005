use Rattle.std.proofs.Common.{◌≡◌, None}
use Rattle.pl_multicast.specs.Changes.{changes_left}
use Rattle.pl_multicast.proofs.reading.ChangesIterator.next.Given as goal

-- only records that say nothing were passed over
abbrev pub invariant-loop-self : goal.invariant-loop-self
invariant-loop-self l = (l.self.only ≡ None) × (changes_left l.self ≡ changes_left l.fn.self)

abbrev pub decreases-loop-self : goal.decreases-loop-self
decreases-loop-self l = l.self.count
