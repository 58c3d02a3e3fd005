use Rattle.std.proofs.Common.{[], ◌++◌, codes, ◌∙◌, ap, subst}
use Rattle.std.proofs.lemmas.List.Elements.{All-more}
use Rattle.std.proofs.lemmas.Result.{err_from_is_err_and}
use Rattle.pl_journal.specs.Ranges.{Fits}
use Rattle.pl_journal.specs.Text.{line_of, parted}
use Rattle.pl_output.specs.Printed.{IsPrinted, BreaksOff}
use Rattle.pl_output.proofs.PrintedLaws.{printed_more, broken_more}
use Rattle.pl_output.proofs.printing.print_entries.Goals as goal

pub returns-in_err-print_line-clause-err : goal.returns-in_err-print_line-clause-err
returns-in_err-print_line-clause-err g c =
    let p = err_from_is_err_and c.from_residual.result c.from_residual.ensures.1 in
    let plan = c.args.wiring.now in
    let line = ap (λ ws. parted ws ++ codes "\n") c.words.ensures.words ∙ ap (line_of plan) c.entry-item.is in
    let cut = subst (BreaksOff (g.S.Shelf.moment c.loop-entry.shelf).held (g.S.Shelf.moment c.print_line.new.shelf).held c.args.name.now c.loop-entry.piece)
    line c.in_err-print_line.ensures.err in
    rw p.1
    (broken_more (line_of plan) [] c.args.entries.now c.loop-entry.entry-index c.entry-item.result c.loop-entry-test.true _ _ _ _ _ _
    c.loop-entry.invariant.printed cut)

pub loop-entry-preserved : goal.loop-entry-preserved
loop-entry-preserved g c =
    let plan = c.args.wiring.now in
    let line = ap (λ ws. parted ws ++ codes "\n") c.words.ensures.words ∙ ap (line_of plan) c.entry-item.is in
    let next = subst
    (IsPrinted (g.S.Shelf.moment c.loop-entry.shelf).held (g.S.Shelf.moment c.print_line.new.shelf).held c.args.name.now c.loop-entry.piece c.print_line.new.piece)
    line c.in_ok-print_line.ensures.ok in
    record {
      printed = printed_more (line_of plan) [] c.args.entries.now c.loop-entry.entry-index c.entry-item.result c.loop-entry-test.true _ _ _ _ _ _
          c.loop-entry.invariant.printed _ next;
      fits = All-more Fits c.args.entries.now c.loop-entry.entry-index c.entry-item.result c.loop-entry-test.true c.loop-entry.invariant.fits
          (subst Fits c.entry-item.is c.words.ensures.fits);
      write_faults = c.in_ok-print_line.ensures.faults.ok ∙ c.loop-entry.invariant.write_faults;
      read_faults = c.in_ok-print_line.ensures.faults.other ∙ c.loop-entry.invariant.read_faults;
      capacity = c.in_ok-print_line.ensures.capacity ∙ c.loop-entry.invariant.capacity;
    }
