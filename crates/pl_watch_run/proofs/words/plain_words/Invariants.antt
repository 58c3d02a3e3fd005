use Rattle.std.proofs.Common.{◌≡◌, filter, take}
use Rattle.pl_inputs.specs.Met.{texts}
use Rattle.pl_watch_run.proofs.Asking.{plain}
use Rattle.pl_watch_run.proofs.words.plain_words.Given as goal

abbrev pub invariant-loop-word : goal.invariant-loop-word
invariant-loop-word l = texts l.plain.items ≡ filter plain (texts (take l.word-index l.words))
