use Rattle.std.proofs.lemmas.Result.{on_ok_weaker}
use Rattle.pl_output.proofs.Turns.{if_err_both, one_broken_off, one_saved}
use Rattle.pl_output.proofs.saving.print.Goals as goal

pub returns-clause-ok : goal.returns-clause-ok
returns-clause-ok g c = on_ok_weaker c.save_summary.result (λ saved. one_saved _ _ _ saved) c.save_summary.ensures.ok

pub returns-clause-err : goal.returns-clause-err
returns-clause-err g c =
    if_err_both c.save_summary.result (λ e named broken. one_broken_off _ _ _ _ named broken) c.save_summary.ensures.named c.save_summary.ensures.err
