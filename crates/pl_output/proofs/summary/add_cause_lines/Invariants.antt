use Rattle.std.proofs.Common.{◌≡◌, ℕ, List, ◌++◌, take}
use Rattle.std.specs.List.{flat_map}
use Rattle.std.specs.String.{string_bytes}
use Rattle.pl_journal.specs.declared.entry.Entry.{Entry}
use Rattle.pl_output.specs.Summary.{all_causes, cause_line, count_of, ending_of, index_of}
use Rattle.pl_output.specs.Tallied.{IsTallyOf}
use Rattle.pl_output.proofs.summary.add_cause_lines.Given as goal

abbrev pub invariant-loop-cause : goal.invariant-loop-cause
invariant-loop-cause l = (hosts : ℕ) (journal : List Entry) → IsTallyOf l.tally hosts journal →
    string_bytes l.text ≡ string_bytes l.fn.text
    ++ flat_map (λ cause. cause_line cause (count_of ending_of (index_of cause) journal)) (take l.cause-index all_causes)
