-- The lines of a summary, one behind the other.
use Rattle.std.proofs.Common.{◌≡◌, ℕ, Bool, List, ◌++◌, length, ◌∙◌, ap}
use Rattle.std.specs.List.{flat_map}
use Rattle.pl_wiring.specs.declared.host.Host.{Host}
use Rattle.pl_wiring.specs.Plan.{Plan}
use Rattle.pl_journal.specs.declared.entry.Entry.{Entry}
use Rattle.pl_output.specs.declared.summary.Rest.{Rest}
use Rattle.pl_output.specs.declared.summary.totals.Totals.{Totals}
use Rattle.pl_output.specs.Summary.{all_causes, cause_line, count_of, crossings_line, ending_of, fabric_line, frames_line, host_lines, index_of, settled_line, steps_line, summary_text, totals_of}

module _ (plan : Plan) (journal : List Entry) (steps : ℕ) (rests : List Rest) (settled : Bool) where
  pub summary_is : (totals : Totals) (hosts : List Host) (first second third last : List ℕ) →
      totals ≡ totals_of journal → hosts ≡ plan.hosts →
      first ≡ fabric_line plan ++ steps_line totals.lines steps (length journal) ++ frames_line totals →
      second ≡ first ++ flat_map (λ cause. cause_line cause (count_of ending_of (index_of cause) journal)) all_causes →
      third ≡ second ++ host_lines journal 0 hosts rests →
      last ≡ third ++ crossings_line totals.crossed ++ settled_line settled →
      last ≡ summary_text plan journal steps rests settled
  unfolding summary_text
  summary_is totals hosts first second third last is_totals is_hosts is_first is_second is_third is_last =
      let causes = flat_map (λ cause. cause_line cause (count_of ending_of (index_of cause) journal)) all_causes in
      let opening = is_first ∙ ap (λ t. fabric_line plan ++ steps_line t.lines steps (length journal) ++ frames_line t) is_totals in
      let hosts_told = is_third ∙ ap (λ hs. second ++ host_lines journal 0 hs rests) is_hosts
      ∙ ap (λ text. text ++ host_lines journal 0 plan.hosts rests) (is_second ∙ ap (λ text. text ++ causes) opening) in
      is_last
      ∙ ap (λ t. third ++ crossings_line t.crossed ++ settled_line settled) is_totals
      ∙ ap (λ text. text ++ crossings_line (totals_of journal).crossed ++ settled_line settled) hosts_told
