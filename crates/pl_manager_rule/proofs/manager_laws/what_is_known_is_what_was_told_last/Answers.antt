use Rattle.pl_manager_rule.proofs.History.{ips_said, links_said, members_are_said, owners_said, places_said, pods_are_asked, registrations_are_told}
use Rattle.pl_manager_rule.proofs.Newest.{newest_is_last}
use Rattle.pl_manager_rule.proofs.manager_laws.what_is_known_is_what_was_told_last.Goals as goal

pub returns-clause-places : goal.returns-clause-places
returns-clause-places c = places_said

pub returns-clause-links : goal.returns-clause-links
returns-clause-links c = links_said

pub returns-clause-members : goal.returns-clause-members
returns-clause-members c = members_are_said

pub returns-clause-pods : goal.returns-clause-pods
returns-clause-pods c = pods_are_asked

pub returns-clause-registrations : goal.returns-clause-registrations
returns-clause-registrations c = registrations_are_told

pub returns-clause-newest : goal.returns-clause-newest
returns-clause-newest c = newest_is_last

pub returns-clause-ips : goal.returns-clause-ips
returns-clause-ips c = ips_said

pub returns-clause-owners : goal.returns-clause-owners
returns-clause-owners c = owners_said
