use Rattle.std.proofs.Common.{◌<◌, length, arith, subst, sym, ◌∙◌}
use Rattle.std.proofs.lemmas.Grind.{common_steps}
use Rattle.std.proofs.lemmas.Result.{err_from_is_err_and}
use Rattle.pl_shelf.proofs.Written.{Written, written_more, cut_off}
use Rattle.pl_shelf.proofs.writing.append.Goals as goal

pub returns-in_err-n-clause-err : goal.returns-in_err-n-clause-err
returns-in_err-n-clause-err g c =
    let p = err_from_is_err_and c.from_residual.result c.from_residual.ensures.1 in
    let some : 0 < length c.loop-rest.rest.now = grind (arith, common_steps, c.loop-rest-test.true) in
    rw p.1 (cut_off _ _ _ _ _ _ c.loop-rest.invariant.written some c.in_err-n.ensures.err)

pub loop-rest-preserved : goal.loop-rest-preserved
loop-rest-preserved g c =
    let changes = c.in_ok-n.ensures.ok in
    record {
      written = subst (Written (g.S.Shelf.moment c.args.shelf.now).held (g.S.Shelf.moment c.write.new.self).held c.args.name.now c.args.bytes.now) (sym c.split_at.ensures.back)
          (written_more _ _ _ _ _ _ _ c.loop-rest.invariant.written changes);
      write_faults = c.in_ok-n.ensures.faults.ok ∙ c.loop-rest.invariant.write_faults;
      read_faults = c.in_ok-n.ensures.faults.other ∙ c.loop-rest.invariant.read_faults;
      capacity = c.in_ok-n.ensures.capacity ∙ c.loop-rest.invariant.capacity;
    }
