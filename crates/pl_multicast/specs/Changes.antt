-- The changes that are still to be given.
use Rattle.std.specs.Prelude.{List, ◌++◌}
use Rattle.std.specs.Option.{option_to_list}
use Rattle.pl_layouts.specs.declared.membership.Change.{Change}
use Rattle.pl_layouts.specs.Memberships.{records_changes}
use Rattle.pl_multicast.specs.declared.reading.Changes.{Changes}

-- the one of a version 2 message, or those of the records that are left of a version 3 report
unfoldable pub changes_left : Changes → List Change
changes_left changes = option_to_list changes.only ++ records_changes changes.count changes.records.now
