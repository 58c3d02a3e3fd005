use Rattle.std.proofs.Common.{◌∙◌, [], ◌∷◌, sym, subst}
use Rattle.pl_node.specs.ManagerViews.{alive_neighbours}
use Rattle.pl_faults.specs.Kept.{IsWordWithin}
use Rattle.pl_faults.specs.Missed.{AreMissed, AreMissedAnew}
use Rattle.pl_faults.specs.Rows.{IsReach}
use Rattle.pl_faults.proofs.Touched.{still_all_heard}
use Rattle.pl_faults.proofs.Within.{alone, apart, place_rows}
use Rattle.pl_faults.proofs.leading.move_leading.Goals as goal

pub returns : goal.returns
returns c told word placed was =
    let after = c.args.reports.now in let old = c.args.leading.now in let s = c.args.switch in
    let new = c.renew_beside.new.reach in let fresh = c.renew_beside.new.misses.entries in let turned = c.in_ok-turned.turned in
    let anew : AreMissedAnew after old.edges.items new old.misses.entries fresh turned =
    subst (λ es. IsReach told es old.reach → AreMissed told es old.misses.entries → AreMissedAnew after es new old.misses.entries fresh turned)
    c.as_slice.ensures.value
    (c.in_ok-turned.ensures told
    (subst (λ ends. IsWordWithin ends alive_neighbours told after) (sym c.in_ok-ends.ensures) (place_rows s told after word))
    (λ t out. word.word.place t (apart (s ∷ []) s t (alone s) out)))
    was.reach was.missed_are in
    record {
      leading = record {
        placed = was.placed ∙ sym placed;
        reach = anew.reach;
        missed_are = anew.missed_are;
        heard = still_all_heard told after word old.hearers.entries was.heard;
      };
      same = anew.same;
    }
