-- Each verb, cause and reason is in its list.
use Rattle.std.proofs.Common.{refl, arith}
use Rattle.std.specs.List.{Contains}
use Rattle.pl_journal.specs.declared.cause.Cause.{Cause}
use Rattle.pl_journal.specs.declared.cause.Cause.TheVariants as causes
use Rattle.pl_journal.specs.declared.cause.Skip.{Skip}
use Rattle.pl_journal.specs.declared.cause.Skip.TheVariants as skips
use Rattle.pl_journal_text.specs.declared.verb.Verb.{Verb}
use Rattle.pl_journal_text.specs.declared.verb.Verb.TheVariants as verbs
use Rattle.pl_journal_text.specs.Verbs.{all_causes, all_skips, all_verbs}

pub each_cause : (x : Cause) → Contains all_causes x
each_cause causes.NotPlaced = (0, omega arith, refl)
each_cause causes.NoNextHop = (1, omega arith, refl)
each_cause causes.NoAddress = (2, omega arith, refl)
each_cause causes.HostGone = (3, omega arith, refl)
each_cause causes.LinkDown = (4, omega arith, refl)
each_cause causes.Lost = (5, omega arith, refl)
each_cause causes.Spent = (6, omega arith, refl)
each_cause causes.BadArp = (7, omega arith, refl)
each_cause causes.NoMember = (8, omega arith, refl)

pub each_skip : (x : Skip) → Contains all_skips x
each_skip skips.CutRecord = (0, omega arith, refl)
each_skip skips.Short = (1, omega arith, refl)
each_skip skips.Long = (2, omega arith, refl)
each_skip skips.ForeignSource = (3, omega arith, refl)
each_skip skips.ControlType = (4, omega arith, refl)
each_skip skips.RecordedArp = (5, omega arith, refl)
each_skip skips.NoOwner = (6, omega arith, refl)
each_skip skips.HoldFull = (7, omega arith, refl)

pub each_verb : (x : Verb) → Contains all_verbs x
each_verb verbs.Line = (0, omega arith, refl)
each_verb verbs.Sent = (1, omega arith, refl)
each_verb verbs.Skipped = (2, omega arith, refl)
each_verb verbs.Made = (3, omega arith, refl)
each_verb verbs.Crossed = (4, omega arith, refl)
each_verb verbs.Redirected = (5, omega arith, refl)
each_verb verbs.Copied = (6, omega arith, refl)
each_verb verbs.Arrived = (7, omega arith, refl)
each_verb verbs.Taken = (8, omega arith, refl)
each_verb verbs.Dropped = (9, omega arith, refl)
each_verb verbs.Granted = (10, omega arith, refl)
each_verb verbs.Registered = (11, omega arith, refl)
each_verb verbs.Freed = (12, omega arith, refl)
each_verb verbs.Placed = (13, omega arith, refl)
each_verb verbs.LinkDown = (14, omega arith, refl)
each_verb verbs.LinkUp = (15, omega arith, refl)
each_verb verbs.Moved = (16, omega arith, refl)
each_verb verbs.Restarted = (17, omega arith, refl)
each_verb verbs.Settled = (18, omega arith, refl)
each_verb verbs.Unsettled = (19, omega arith, refl)
