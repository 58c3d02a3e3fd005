use Rattle.std.proofs.Common.{ℕ, List, ◌++◌, ◌∙◌, ap}
use Rattle.std.specs.List.{flat_map}
use Rattle.std.specs.String.{string_bytes}
use Rattle.std.proofs.lemmas.List.{take_all}
use Rattle.pl_journal.specs.declared.cause.Cause.{Cause}
use Rattle.pl_output.specs.Summary.{all_causes, cause_line, count_of, ending_of, index_of}
use Rattle.pl_output.proofs.PrintedLaws.{text_more}
use Rattle.pl_output.proofs.summary.add_cause_lines.Goals as goal

pub loop-cause-preserved : goal.loop-cause-preserved
loop-cause-preserved c = λ hosts journal tallied.
    let line : Cause → List ℕ = λ cause. cause_line cause (count_of ending_of (index_of cause) journal) in
    let within = rw c.as_slice-cause-items.ensures at c.loop-cause-test.true in
    let counted = rw c.as_slice-cause-items.ensures at c.ended_for.ensures hosts journal tallied in
    let added = rw c.as_slice-cause-items.ensures at c.in_ok-add_cause_line.ensures in
    text_more line (string_bytes c.args.text.now) all_causes c.loop-cause.cause-index _ within _ _
    (c.loop-cause.invariant hosts journal tallied)
    (rw counted at added)

pub returns : goal.returns
returns c = λ hosts journal tallied.
    c.loop-cause.invariant hosts journal tallied
    ∙ ap (λ cs. string_bytes c.args.text.now ++ flat_map (λ cause. cause_line cause (count_of ending_of (index_of cause) journal)) cs)
    (take_all c.loop-cause.cause-index all_causes (rw c.as_slice-cause-items.ensures at c.loop-cause-test.false))
