use Rattle.std.proofs.Common.{◌∙◌, ap, arith, length, subst}
use Rattle.std.proofs.lemmas.Result.{err_from_is_err_and}
use Rattle.pl_journal.specs.Text.{text_after_blank}
use Rattle.pl_journal.proofs.Exports.{all_printed, flat_map-field_texts}
use Rattle.pl_output.specs.Printed.{IsPrinted}
use Rattle.pl_output.proofs.PrintedLaws.{printed_more, broken_more}
use Rattle.pl_output.proofs.printing.piece.Piece.print_words.Goals as goal

pub returns-in_err-print_after_blank-clause-err : goal.returns-in_err-print_after_blank-clause-err
returns-in_err-print_after_blank-clause-err g c =
    let p = err_from_is_err_and c.from_residual-in_err-print_after_blank.result c.from_residual-in_err-print_after_blank.ensures.1 in
    let fields = c.args.words.now.fields in
    let within = rw c.as_slice-field-items.ensures at c.loop-field-test.true in
    let cut = rw c.as_slice-field-items.ensures at c.in_err-print_after_blank.ensures.err in
    rw (p.1, flat_map-field_texts fields)
    (broken_more text_after_blank c.args.words.now.word.now fields c.loop-field.field-index _ within _ _ _ _ _ _
    c.loop-field.invariant.printed cut)

pub loop-field-preserved : goal.loop-field-preserved
loop-field-preserved g c =
    let fields = c.args.words.now.fields in
    let within = rw c.as_slice-field-items.ensures at c.loop-field-test.true in
    let next = rw c.as_slice-field-items.ensures at c.in_ok-print_after_blank.ensures.ok in
    record {
      printed = printed_more text_after_blank c.args.words.now.word.now fields c.loop-field.field-index _ within _ _ _ _ _ _
          c.loop-field.invariant.printed _ next;
      write_faults = c.in_ok-print_after_blank.ensures.faults.ok ∙ c.loop-field.invariant.write_faults;
      read_faults = c.in_ok-print_after_blank.ensures.faults.other ∙ c.loop-field.invariant.read_faults;
      capacity = c.in_ok-print_after_blank.ensures.capacity ∙ c.loop-field.invariant.capacity;
    }

pub returns-clause-ok : goal.returns-clause-ok
returns-clause-ok g c =
    subst (IsPrinted (g.S.Shelf.moment c.args.shelf.now).held (g.S.Shelf.moment c.loop-field.shelf).held c.args.name.now c.args.self.now c.loop-field.self)
    (all_printed c.args.words.now.word.now c.args.words.now.fields c.loop-field.field-index (omega (arith, ap length c.as_slice-field-items.ensures)))
    c.loop-field.invariant.printed
