use Rattle.std.proofs.Common.{◌≡◌, ◌∙◌, true, ap, subst, sym}
use Rattle.pl_faults.specs.Listed.{is_in}
use Rattle.pl_faults.proofs.Gathered.{in_more}
use Rattle.pl_faults.proofs.Missing.{missed_apart, missed_just}
use Rattle.pl_faults.proofs.missed.put_missed.Goals as goal

pub returns-then-misses_just-clause-now : goal.returns-then-misses_just-clause-now
returns-then-misses_just-clause-now c t =
    missed_just c.args.switch t c.args.misses.now.entries c.args.missed (c.misses_just.ensures c.if-misses_just.true)

pub returns-clause-stays : goal.returns-clause-stays
returns-clause-stays c t h =
    subst (λ xs. is_in xs t ≡ true) (sym c.in_ok-insert.ensures.ok) (in_more c.args.switch t c.args.changed.now h)

pub returns-clause-same : goal.returns-clause-same
returns-clause-same c t out =
    missed_apart c.args.switch t c.args.changed.now c.args.misses.now.entries c.set_missed.new.misses.entries c.args.missed
    (ap (λ xs. is_in xs t) (sym c.in_ok-insert.ensures.ok) ∙ out) (c.in_ok-set_missed.ensures t)
