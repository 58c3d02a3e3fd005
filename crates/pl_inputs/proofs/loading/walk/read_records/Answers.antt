use Rattle.pl_inputs.proofs.Reading.{one_more, all_read}
use Rattle.pl_inputs.proofs.loading.walk.read_records.Goals as goal

-- src/loading/walk.rt:69:5
pub loop-reader-preserved : goal.loop-reader-preserved
loop-reader-preserved c =
    one_more c.args.file.now c.loop-reader.records.items c.in_ok-record.field-0 c.in-Some.record c.next.new.self c.push.new.self.items c.in-Some.is
    (c.in_ok-record.ensures.found c.loop-reader.records.items c.loop-reader.invariant) c.in_ok-push.ensures.items

-- src/loading/walk.rt:63:1
pub returns-clause-ok : goal.returns-clause-ok
returns-clause-ok c =
    all_read c.args.file.now c.loop-reader.records.items c.in_ok-record.field-0 c.next.new.self c.tail-tail.result c.in_default.is
    (c.in_ok-record.ensures.ended c.loop-reader.records.items c.loop-reader.invariant) c.tail-tail.ensures
