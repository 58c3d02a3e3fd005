use Rattle.std.proofs.Common.{subst}
use Rattle.pl_journal.specs.declared.entry.Entry.{Entry}
use Rattle.pl_journal_text.specs.Writable.{IsWritable}
use Rattle.pl_verify.proofs.Reading.{at_made, at_sent}
use Rattle.pl_verify.proofs.judge.digits_at.Goals as goal

pub returns-in-Sent : goal.returns-in-Sent
returns-in-Sent c = λ text at order within line.
    at_sent c.args.wiring.now text at c.args.end c.before_newline.result c.args.entry.now _ _ _ c.in-Sent.is order within line c.before_newline.ensures

pub returns-in-Made : goal.returns-in-Made
returns-in-Made c = λ text at order within line.
    at_made c.args.wiring.now text at c.args.end c.before_newline-in-Made.result c.args.entry.now _ _ _ c.in-Made.is order within line
    c.before_newline-in-Made.ensures

pub before_newline-requires : goal.before_newline-requires
before_newline-requires c = (subst (λ (e : Entry). IsWritable c.args.wiring.now e) c.in-Sent.is c.requires).1.1.1

pub before_newline-requires-in-Made : goal.before_newline-requires-in-Made
before_newline-requires-in-Made c = (subst (λ (e : Entry). IsWritable c.args.wiring.now e) c.in-Made.is c.requires).1.1.1
