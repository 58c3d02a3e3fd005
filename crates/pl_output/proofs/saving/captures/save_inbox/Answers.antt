use Rattle.pl_output.proofs.saving.captures.save_inbox.Goals as goal

pub returns-in-Ok-clause-ok : goal.returns-in-Ok-clause-ok
returns-in-Ok-clause-ok g c = rw (c.name.ensures, c.receipts.ensures) at c.in-Ok.ensures.ok

pub returns-in-Err-clause-err : goal.returns-in-Err-clause-err
returns-in-Err-clause-err g c = rw (c.name.ensures, c.receipts.ensures) at c.in-Err.ensures.err

pub returns-in-Err-clause-unfit : goal.returns-in-Err-clause-unfit
returns-in-Err-clause-unfit g c = rw (c.name.ensures, c.receipts.ensures) at c.in-Err.ensures.unfit
