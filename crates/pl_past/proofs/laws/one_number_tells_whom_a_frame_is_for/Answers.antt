use Rattle.std.proofs.Common.{length, arith}
use Rattle.pl_past.proofs.HoldersByNumbers.{held_by_numbers, held_now}
use Rattle.pl_past.proofs.laws.one_number_tells_whom_a_frame_is_for.Goals as goal

pub returns : goal.returns
returns c = record { now = λ past x. held_now past x (length past) (omega arith); crossing = held_by_numbers }
