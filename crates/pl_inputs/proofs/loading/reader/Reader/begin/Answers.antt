use Rattle.std.proofs.Common.{rules, Err, sym, ◌∙◌}
use Rattle.pl_inputs.proofs.Reading.{read_by_records}
use Rattle.pl_inputs.proofs.loading.reader.Reader.begin.Goals as goal

-- src/loading/reader.rt:29:23
pub returns-in_err-records-clause-err : goal.returns-in_err-records-clause-err
returns-in_err-records-clause-err c =
    let kind = sym c.is_pcapng.ensures ∙ c.if-is_pcapng.false in
    let is = read_by_records c.args.file.now (Err c.in_err-records.field-0.0) kind c.in_err-records.ensures.err in
    search rules
