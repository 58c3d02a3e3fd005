use Rattle.std.proofs.Common.{sym, ◌∙◌}
use Rattle.pl_journal_text.proofs.OneSpelling.{is_frame, no_bytes, not_frame}
use Rattle.pl_journal_text.proofs.hexadecimals.FrameFromText.from_text.Goals as goal

pub returns-in_default : goal.returns-in_default
returns-in_default c = no_bytes c.args.text.now c.in_ok-frame.field-0 c.in_ok-frame.ensures c.in_default.is

pub returns-then-has_length_of_frame : goal.returns-then-has_length_of_frame
returns-then-has_length_of_frame c =
    is_frame c.args.text.now c.in_ok-frame.field-0 c.in-Some.frame c.in_ok-frame.ensures c.in-Some.is (sym c.has_length_of_frame.ensures ∙ c.if-has_length_of_frame.true)

pub returns-else-has_length_of_frame : goal.returns-else-has_length_of_frame
returns-else-has_length_of_frame c =
    not_frame c.args.text.now c.in_ok-frame.field-0 c.in-Some.frame c.in_ok-frame.ensures c.in-Some.is (sym c.has_length_of_frame.ensures ∙ c.if-has_length_of_frame.false)
