use Rattle.std.proofs.Common.{◌∙◌, ap, cond, sym}
use Rattle.std.specs.BTreeMap.{is_at}
use Rattle.std.specs.Prelude.{[]}
use Rattle.pl_node.specs.ManagerViews.{id_cmp, value_at}
use Rattle.pl_faults.specs.Missed.{missed_in}
use Rattle.pl_faults.proofs.Reaching.{look_put, look_taken}
use Rattle.pl_faults.proofs.missed.set_missed.Goals as goal

pub returns-then-is_empty : goal.returns-then-is_empty
returns-then-is_empty c t =
    let own = is_at (id_cmp c.args.switch) t in let old = c.args.misses.now.entries in
    look_taken (value_at id_cmp old t) (value_at id_cmp c.remove-gone.new.self.entries t) [] own (c.remove-gone.ensures.updates.0 t)
    ∙ ap (λ none. cond own none (missed_in old t)) (sym (c.is_empty.ensures c.if-is_empty.true))

pub returns : goal.returns
returns c t =
    look_put (value_at id_cmp c.args.misses.now.entries t) (value_at id_cmp c.insert.new.self.entries t) [] c.args.missed
    (is_at (id_cmp c.args.switch) t) (c.in_ok-insert.ensures.updates.0 t)
