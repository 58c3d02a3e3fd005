use Rattle.std.proofs.Common.{◌∙◌, ap, Bool, Option, is_some}
use Rattle.pl_past_tables.proofs.groups.Groups.has_arrived.Goals as goal

pub returns : goal.returns
returns c = λ plan past keeps.
    c.is_some.ensures ∙ ap (λ (o : Option Bool). is_some o) c.get.ensures ∙ keeps.arrivals (record { root = c.args.root; point = c.args.point })
