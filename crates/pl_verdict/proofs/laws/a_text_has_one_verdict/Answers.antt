use Rattle.pl_verdict.proofs.OneVerdict.{illegal_not_bad, legal_not_bad, legal_not_illegal, one_bad_line, one_count, one_entry}
use Rattle.pl_verdict.proofs.laws.a_text_has_one_verdict.Goals as goal

pub returns : goal.returns
returns c = record {
  legal = one_count;
  illegal = one_entry;
  bad_line = one_bad_line;
  legal_or_illegal = legal_not_illegal;
  legal_or_bad_line = legal_not_bad;
  illegal_or_bad_line = illegal_not_bad;
}
