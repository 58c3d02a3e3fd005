use Rattle.std.proofs.Common.{◌∙◌, ap, sym}
use Rattle.std.specs.Option.{option_map}
use Rattle.pl_journal.specs.Causes.{came_in_at_spent_port}
use Rattle.pl_past_tables.specs.Keys.{edge_port_at}
use Rattle.pl_checker.proofs.Ended.{shows_by}
use Rattle.pl_checker.proofs.past.Past.came_in_at_spent_port.Goals as goal

pub returns-in-None : goal.returns-in-None
returns-in-None c = λ text past id keeps is.
    shows_by _ _ (ap (came_in_at_spent_port past) (ap (option_map edge_port_at) (sym c.in-None.is) ∙ is.came_in))

pub returns-in-Some : goal.returns-in-Some
returns-in-Some c = λ text past id keeps is.
    shows_by _ _ (c.is_spent.ensures past keeps.addresses keeps.holders
    ∙ ap (came_in_at_spent_port past) (ap (option_map edge_port_at) (sym c.in-Some.is) ∙ is.came_in))
