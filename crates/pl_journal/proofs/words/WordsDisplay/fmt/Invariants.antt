use Rattle.std.proofs.Common.{◌++◌, take}
use Rattle.std.specs.Fmt.{HasWritten, IsPlainFormatter}
use Rattle.std.specs.List.{flat_map}
use Rattle.pl_journal.specs.Text.{text_after_blank}
use Rattle.pl_journal.proofs.words.WordsDisplay.fmt.Given as goal

abbrev pub invariant-loop-field : goal.invariant-loop-field
invariant-loop-field g l =
    IsPlainFormatter l.fn.f
    → HasWritten g.W.Write.write_str_gives l.fn.f (l.self.word.now ++ flat_map text_after_blank (take l.field-index l.self.fields)) l.f
