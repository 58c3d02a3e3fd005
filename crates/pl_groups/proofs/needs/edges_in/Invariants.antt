use Rattle.std.proofs.Common.{◌≡◌, [], filter, map, take, Bool}
use Rattle.pl_frame.specs.declared.address.SwitchId.{SwitchId}
use Rattle.pl_reports.proofs.Exports.{put_all}
use Rattle.pl_groups.proofs.needs.edges_in.Given as goal

abbrev pub invariant-loop-i : goal.invariant-loop-i
invariant-loop-i l =
    (f : SwitchId → Bool) → l.row ≡ map f l.needed → l.edges ≡ put_all [] (filter f (take l.i l.needed))
