use Rattle.std.proofs.Common.{sym, ◌∙◌}
use Rattle.pl_journal_text.proofs.Lines.{fields_read, no_blank_in, no_end, no_verb, not_utf8}
use Rattle.pl_journal_text.proofs.line.entry_of.Goals as goal

pub returns-in_default : goal.returns-in_default
returns-in_default c = not_utf8 c.args.wiring.now c.args.line.now c.k-k.ensures.plan c.in_default.ensures.none

pub returns-in_default-before_newline : goal.returns-in_default-before_newline
returns-in_default-before_newline c =
    no_end c.args.wiring.now c.args.line.now (λ front same. c.in_default-before_newline.ensures.none front (c.in-Some.ensures.found ∙ same))

pub returns-in_default-cut : goal.returns-in_default-cut
returns-in_default-cut c =
    no_blank_in c.args.wiring.now c.args.line.now c.in-Some-before_newline.front.now (sym c.in-Some.ensures.found ∙ c.in-Some-before_newline.ensures.found)
    c.in_default-cut.ensures.none

pub returns-in_default-named : goal.returns-in_default-named
returns-in_default-named c =
    no_verb c.args.wiring.now c.args.line.now c.in-Some-before_newline.front.now c.in-Some-cut.word.now c.in-Some-cut.fields.now c.named.result
    (sym c.in-Some.ensures.found ∙ c.in-Some-before_newline.ensures.found) c.in-Some-cut.ensures.found c.named.ensures c.in_default-named.is

pub returns : goal.returns
returns c =
    fields_read c.args.wiring.now c.args.line.now c.in-Some-before_newline.front.now c.in-Some-cut.word.now c.in-Some-cut.fields.now c.named.result
    c.in-Some-named.verb c.read_fields.result
    (sym c.in-Some.ensures.found ∙ c.in-Some-before_newline.ensures.found) c.in-Some-cut.ensures.found c.named.ensures c.in-Some-named.is c.read_fields.ensures
