use Rattle.std.proofs.Common.{[], ◌∙◌, arith}
use Rattle.std.proofs.lemmas.Result.{err_from_is_err_and}
use Rattle.pl_output.specs.declared.saving.receipt.Receipt.{Receipt}
use Rattle.pl_output.specs.Mail.{record_of}
use Rattle.pl_output.proofs.PrintedLaws.{printed_more, broken_more}
use Rattle.pl_output.proofs.saving.captures.print_packets.Goals as goal

pub returns-in_err-print_packet-clause-err : goal.returns-in_err-print_packet-clause-err
returns-in_err-print_packet-clause-err g c =
    let p = err_from_is_err_and c.from_residual.result c.from_residual.ensures.1 in
    let d : Receipt = record { seconds = 0; micros = 0; entry = 0 } in
    let cut = rw c.frame_at.ensures.frame at c.in_err-print_packet.ensures.err in
    rw p.1
    (broken_more (record_of c.args.journal.now) [] c.args.receipts.now c.loop-receipt.receipt-index d (omega arith) _ _ _ _ _ _
    c.loop-receipt.invariant.printed cut)

pub loop-receipt-preserved : goal.loop-receipt-preserved
loop-receipt-preserved g c =
    let d : Receipt = record { seconds = 0; micros = 0; entry = 0 } in
    let next = rw c.frame_at.ensures.frame at c.in_ok-print_packet.ensures.ok in
    record {
      printed = printed_more (record_of c.args.journal.now) [] c.args.receipts.now c.loop-receipt.receipt-index d (omega arith) _ _ _ _ _ _
          c.loop-receipt.invariant.printed _ next;
      write_faults = c.in_ok-print_packet.ensures.faults.ok ∙ c.loop-receipt.invariant.write_faults;
      read_faults = c.in_ok-print_packet.ensures.faults.other ∙ c.loop-receipt.invariant.read_faults;
      capacity = c.in_ok-print_packet.ensures.capacity ∙ c.loop-receipt.invariant.capacity;
    }
