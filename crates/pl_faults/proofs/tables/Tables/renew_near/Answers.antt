use Rattle.std.proofs.Common.{◌≡◌, ◌∙◌, ◌∷◌, [], ap}
use Rattle.std.specs.Prelude.{fold}
use Rattle.std.specs.BTreeSet.{insert_key}
use Rattle.pl_node.specs.ManagerViews.{id_cmp}
use Rattle.pl_faults.specs.Listed.{with_below}
use Rattle.pl_faults.proofs.Touched.{near_kept}
use Rattle.pl_faults.proofs.Within.{alone, alone_told, link_lists}
use Rattle.pl_faults.proofs.tables.Tables.renew_near.Goals as goal

pub returns : goal.returns
returns c told word kept =
    let old = c.args.self.now in let after = old.reports in let s = c.args.switch in
    let t = c.in_ok-turned.ensures told word kept.leading in let known = c.link_leading.new.leading in
    let first : c.insert.new.self ≡ s ∷ [] = c.in_ok-insert.ensures.ok ∙ ap (λ xs. insert_key id_cmp xs s) c.new-touched.ensures in
    near_kept s told old c.renew_around.new.self word.word known c.in_ok-turned.turned (s ∷ []) t
    (link_lists s c.args.neighbour told after word) (alone s) (alone_told s told after word.word)
    (fold (with_below after known.hearers.entries) c.insert.new.self c.as_slice.result.now) kept
    (λ i. fold (with_below after known.hearers.entries) (first i) (c.as_slice.ensures.items i))
    (c.in_ok-renew_around.ensures t.leading)
