use Rattle.std.proofs.Common.{◌≡◌, ◌∙◌, true, ap, subst, sym}
use Rattle.pl_faults.specs.Listed.{is_in}
use Rattle.pl_faults.proofs.Gathered.{in_more}
use Rattle.pl_faults.proofs.Reaching.{put_apart}
use Rattle.pl_faults.proofs.reach.put_row.Goals as goal

pub returns-clause-stays : goal.returns-clause-stays
returns-clause-stays c t h =
    subst (λ xs. is_in xs t ≡ true) (sym c.in_ok-insert-2.ensures.ok) (in_more c.args.switch t c.args.changed.now h)

pub returns-clause-same : goal.returns-clause-same
returns-clause-same c t out =
    put_apart c.args.switch t c.args.changed.now c.args.rows.now.entries c.insert.new.self.entries c.args.row
    (ap (λ xs. is_in xs t) (sym c.in_ok-insert-2.ensures.ok) ∙ out) (c.in_ok-insert.ensures.updates.0 t)
