use Rattle.std.proofs.Common.{◌-◌, Option, take, drop, refl, subst, arith}
use Rattle.pl_journal.specs.Text.{line_of}
use Rattle.pl_journal.specs.declared.entry.Entry.{Entry}
use Rattle.pl_journal_text.specs.Reading.{Reads}
use Rattle.pl_journal_text.specs.Writable.{IsWritable}
use Rattle.pl_verify.proofs.Reading.{bad_line, read_on}
use Rattle.pl_verify.proofs.verifying.hear_line.Goals as goal

pub returns-in_default : goal.returns-in_default
returns-in_default c =
    let w = c.args.wiring.now in
    bad_line w c.args.journal.now c.args.at c.line_end-end.result _ c.args.judge.now c.k-k.ensures.plan c.requires.so_far c.requires.more
    c.line_end-end.ensures.line
    (subst (λ (read : Option Entry). Reads (line_of w) (IsWritable w) (take (c.line_end-end.result - c.args.at) (drop c.args.at c.args.journal.now)) read)
    c.in_default.is c.in_ok-entry.ensures.exact) refl

pub returns : goal.returns
returns c =
    let w = c.args.wiring.now in
    let line = take (c.line_end-end.result - c.args.at) (drop c.args.at c.args.journal.now) in
    let read = subst (λ (read : Option Entry). Reads (line_of w) (IsWritable w) line read) c.in-Some.is c.in_ok-entry.ensures.exact in (
      c.line_end-end.ensures.further,
      read_on w c.args.journal.now c.args.at c.line_end-end.result c.args.judge.now c.hear.new.self c.in-Some.entry c.requires.so_far
          read.0 c.line_end-end.ensures.further c.line_end-end.ensures.within read.1 c.in_ok-hear.ensures.count
          (λ journal judged. c.in_ok-hear.ensures.judged journal (omega (arith, c.line_end-end.ensures.further)) c.line_end-end.ensures.within read.1 judged),
    )

pub hear-requires : goal.hear-requires
hear-requires c =
    let w = c.args.wiring.now in
    let line = take (c.line_end-end.result - c.args.at) (drop c.args.at c.args.journal.now) in
    let read = subst (λ (read : Option Entry). Reads (line_of w) (IsWritable w) line read) c.in-Some.is c.in_ok-entry.ensures.exact in
    record { writable = read.0; few = let few = c.requires.so_far.few in omega (arith, few, c.line_end-end.ensures.further) }
