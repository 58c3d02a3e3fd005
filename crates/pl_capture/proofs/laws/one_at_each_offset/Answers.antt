use Rattle.pl_capture.proofs.Standing.{record_in-IsRecord, record_in-IsTail, record_in-too_long, IsRecord-got, IsTail-nothing, IsTooLong-refused}
use Rattle.pl_capture.proofs.laws.one_at_each_offset.Goals as goal

pub returns-clause-record : goal.returns-clause-record
returns-clause-record c =
    λ file order at found. (IsRecord-got file order at found, record_in-IsRecord file order at found)

pub returns-clause-tail : goal.returns-clause-tail
returns-clause-tail c =
    λ file order at. (IsTail-nothing file order at, record_in-IsTail file order at)

pub returns-clause-too_long : goal.returns-clause-too_long
returns-clause-too_long c =
    λ file order at e. (IsTooLong-refused file order at e, record_in-too_long file order at e)
