use Rattle.std.proofs.Common.{◌∙◌, arith, subst, sym}
use Rattle.pl_shelf.specs.Held.{standard_output}
use Rattle.pl_output.specs.Room.{HasRoom}
use Rattle.pl_output.specs.Saved.{Saving}
use Rattle.pl_run.specs.Verified.{legal_line}
use Rattle.pl_run.proofs.verify.print_legal.Goals as goal

pub returns-clause-prepared : goal.returns-clause-prepared
returns-clause-prepared g c room =
    let S = g.S.Shelf in
    let capacity = S.capacity c.args.shelf.now in
    let held = (S.moment c.args.shelf.now).held in
    let told : Saving = record { name = standard_output; text = legal_line c.args.entries } in
    c.in-Err.ensures.unfit
    (subst (λ name. HasRoom capacity held (record { name = name; text = c.deref.result.now })) (sym c.in_ok-output.ensures)
    (subst (λ text. HasRoom capacity held (record { name = standard_output; text = text })) (sym (c.deref.ensures ∙ c.in_ok-line.ensures))
    (room 0 told (omega arith))))
