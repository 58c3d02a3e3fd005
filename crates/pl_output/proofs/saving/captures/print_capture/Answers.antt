use Rattle.std.proofs.Common.{◌≡◌, map, subst, sym}
use Rattle.std.proofs.lemmas.List.Folds.{flat_map-map}
use Rattle.std.proofs.lemmas.Result.{err_from_is_err_and, on_err_weaker, on_ok_weaker}
use Rattle.std.specs.List.{flat_map}
use Rattle.pl_capture.specs.declared.endianness.Endianness.TheVariants.{Little}
use Rattle.pl_capture.specs.Spelling.{packet_bytes, saved_header}
use Rattle.pl_output.specs.Mail.{packet_at, packets_at, record_of}
use Rattle.pl_output.specs.Printed.{BreaksOff, IsPrinted}
use Rattle.pl_output.proofs.PrintedLaws.{broken_first, broken_then, printed_then}
use Rattle.pl_output.proofs.saving.captures.print_capture.Goals as goal

pub returns-in_err-print-clause-err : goal.returns-in_err-print-clause-err
returns-in_err-print-clause-err g c =
    let p = err_from_is_err_and c.from_residual.result c.from_residual.ensures.1 in
    let cut = rw c.write_header.ensures at c.in_err-print.ensures.err in
    rw p.1 (broken_first _ _ c.args.name.now _ saved_header (flat_map (packet_bytes Little) (packets_at c.args.journal.now c.args.receipts.now)) cut)

pub returns-clause-ok : goal.returns-clause-ok
returns-clause-ok g c =
    let journal = c.args.journal.now in
    let receipts = c.args.receipts.now in
    let same : flat_map (packet_bytes Little) (packets_at journal receipts) ≡ flat_map (record_of journal) receipts = flat_map-map (packet_bytes Little) (packet_at journal) receipts in
    let head = rw c.write_header.ensures at c.in_ok-print.ensures.ok in
    let all = rw (sym same) at c.print_packets.ensures.ok in
    on_ok_weaker c.print_packets.result (printed_then _ _ _ c.args.name.now _ _ _ saved_header (flat_map (packet_bytes Little) (packets_at journal receipts)) head) all

pub returns-clause-err : goal.returns-clause-err
returns-clause-err g c =
    let journal = c.args.journal.now in
    let receipts = c.args.receipts.now in
    let same : flat_map (packet_bytes Little) (packets_at journal receipts) ≡ flat_map (record_of journal) receipts = flat_map-map (packet_bytes Little) (packet_at journal) receipts in
    let head = rw c.write_header.ensures at c.in_ok-print.ensures.ok in
    let cut = rw (sym same) at c.print_packets.ensures.err in
    on_err_weaker c.print_packets.result (broken_then _ _ _ c.args.name.now _ _ saved_header (flat_map (packet_bytes Little) (packets_at journal receipts)) head) cut
