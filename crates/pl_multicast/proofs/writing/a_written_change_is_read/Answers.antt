use Rattle.pl_layouts.specs.Reports.{receiver_of}
use Rattle.pl_multicast.proofs.Sums.{ones_sum-header_of, ones_sum-message_of_change}
use Rattle.pl_multicast.proofs.ReadBack.{changes_in-membership_frame}
use Rattle.pl_multicast.proofs.writing.a_written_change_is_read.Goals as goal

pub returns-clause-read : goal.returns-clause-read
returns-clause-read c = changes_in-membership_frame

pub returns-clause-header_sum : goal.returns-clause-header_sum
returns-clause-header_sum c me change = ones_sum-header_of me.ip.0 (receiver_of change)

pub returns-clause-message_sum : goal.returns-clause-message_sum
returns-clause-message_sum c = ones_sum-message_of_change
