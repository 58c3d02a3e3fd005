use Rattle.std.proofs.Common.{◌∙◌, not, sym, ap, subst}
use Rattle.std.specs.Prelude.{is_some}
use Rattle.std.proofs.lemmas.Bool.{and_parts, not-true}
use Rattle.pl_node.specs.ManagerViews.{edge_at, place_of}
use Rattle.pl_faults.specs.Kept.{IsListRenewed}
use Rattle.pl_faults.specs.Missed.{is_some_edge}
use Rattle.pl_faults.proofs.Touched.{unplaced_kept}
use Rattle.pl_faults.proofs.tables.Tables.renew_placed.Goals as goal

pub returns-then-is_none_placed : goal.returns-then-is_none_placed
returns-then-is_none_placed c told word kept =
    let s = c.args.switch in let old = c.args.self.now in
    let some = is_some_edge c.as_slice.result.now in let own = is_some (edge_at s (place_of old.reports s)) in
    let two = and_parts (not some) (not own) (sym c.is_none_placed.ensures ∙ c.if-is_none_placed.true) in
    unplaced_kept s told old c.renew.new.self word
    kept (ap is_some_edge (sym c.as_slice.ensures.value) ∙ not-true some two.0) (not-true own two.1)
    (subst (λ list. IsListRenewed s list old c.renew.new.self) c.new.ensures c.in_ok-renew.ensures)
