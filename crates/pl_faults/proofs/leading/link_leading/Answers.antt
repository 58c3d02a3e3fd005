use Rattle.std.proofs.Common.{◌∙◌, sym, subst}
use Rattle.pl_node.specs.ManagerViews.{alive_neighbours}
use Rattle.pl_faults.specs.Kept.{IsWordWithin}
use Rattle.pl_faults.specs.Missed.{AreMissed, AreMissedAnew}
use Rattle.pl_faults.specs.Rows.{IsReach}
use Rattle.pl_faults.proofs.Within.{link_rows}
use Rattle.pl_faults.proofs.Words.{heard_linked}
use Rattle.pl_faults.proofs.leading.link_leading.Goals as goal

pub returns : goal.returns
returns c told word was =
    let after = c.args.reports.now in let old = c.args.leading.now in
    let new = c.renew_beside.new.reach in let fresh = c.renew_beside.new.misses.entries in let turned = c.in_ok-turned.turned in
    let anew : AreMissedAnew after old.edges.items new old.misses.entries fresh turned =
    subst (λ es. IsReach told es old.reach → AreMissed told es old.misses.entries → AreMissedAnew after es new old.misses.entries fresh turned)
    c.as_slice.ensures.value
    (c.in_ok-turned.ensures told
    (subst (λ ends. IsWordWithin ends alive_neighbours told after) (sym c.in_ok-ends.ensures) (link_rows c.args.switch c.args.neighbour told after word))
    (λ t out. word.place t))
    was.reach was.missed_are in
    record {
      leading = record {
        placed = was.placed ∙ sym word.edges;
        reach = anew.reach;
        missed_are = anew.missed_are;
        heard = heard_linked told after c.args.switch c.args.neighbour word old.hearers.entries c.hear.new.hearers.entries was.heard c.in_ok-hear.ensures;
      };
      same = anew.same;
    }
