use Rattle.std.proofs.Common.{arith}
use Rattle.pl_capture.proofs.Cursors.{cursor_within}
use Rattle.pl_capture.proofs.records.Records.room.Goals as goal

pub overflow_sub-result : goal.overflow_sub-result
overflow_sub-result c = cursor_within c.args.file.now c.args.self.now c.requires

pub returns : goal.returns
returns c = omega (arith, cursor_within c.args.file.now c.args.self.now c.requires)
