use Rattle.std.proofs.Common.{sym, ◌∙◌}
use Rattle.pl_journal_text.proofs.Lines.{one_journal, one_line}
use Rattle.pl_journal_text.proofs.laws.a_text_is_of_one_journal.Goals as goal

pub returns : goal.returns
returns c = record {
  line = one_line;
  text = λ plan text a b is first second. one_journal plan a b is first.writable second.writable (sym first.written ∙ second.written);
}
