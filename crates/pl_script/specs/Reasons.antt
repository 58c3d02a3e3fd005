-- How the reasons of a refusal are printed.
use Rattle.std.specs.Prelude.{ℕ, List, codes}
use Rattle.pl_script.specs.declared.error.ScriptReason.{ScriptReason}
use Rattle.pl_script.specs.declared.error.ScriptReason.TheVariants.{NotUtf8, Word, Count, Name, Number, TooManyLines}

abbrev pub reason_text : ScriptReason → List ℕ
reason_text NotUtf8 = codes "NotUtf8"
reason_text Word = codes "Word"
reason_text Count = codes "Count"
reason_text Name = codes "Name"
reason_text Number = codes "Number"
reason_text TooManyLines = codes "TooManyLines"
