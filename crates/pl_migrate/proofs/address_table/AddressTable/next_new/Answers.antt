use Rattle.std.proofs.Common.{◌∙◌, Some, ap}
use Rattle.pl_pmac.specs.declared.pmac.Pmac.{Pmac}
use Rattle.pl_migrate.proofs.NextOf.{next_below, none_above}
use Rattle.pl_migrate.proofs.address_table.AddressTable.next_new.Goals as goal

pub returns-then-given-lt65535 : goal.returns-then-given-lt65535
returns-then-given-lt65535 c =
    ap (λ (p : Pmac). Some p) c.address.ensures
    ∙ next_below c.args.self.now c.args.port c.given-given.result c.given-given.ensures.many c.if-given-lt65535.true

pub returns-else-given-lt65535 : goal.returns-else-given-lt65535
returns-else-given-lt65535 c = none_above c.args.self.now c.args.port c.given-given.result c.given-given.ensures.many c.if-given-lt65535.false
