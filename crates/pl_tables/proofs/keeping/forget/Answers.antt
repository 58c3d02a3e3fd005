use Rattle.std.proofs.Common.{◌≤◌, sym, subst}
use Rattle.pl_tables.proofs.Nothing.{nothing_follows}
use Rattle.pl_tables.proofs.keeping.forget.Goals as goal

pub returns-clause-follows : goal.returns-clause-follows
returns-clause-follows c =
    nothing_follows c.forget_place.new.self c.no_leads.result c.empty.result c.no_leads.ensures c.forget_place.ensures.place
    (subst (λ k. k ≤ 24) (sym c.forget_place.ensures.k) c.requires) c.empty.ensures.up c.empty.ensures.avoided c.empty.ensures.down
