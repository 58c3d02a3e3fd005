use Rattle.std.proofs.Common.{◌∙◌, ◌&&◌, ap, sym}
use Rattle.pl_journal.specs.Places.{are_live_there, is_live}
use Rattle.pl_past_tables.specs.Keys.{edge_port_at}
use Rattle.pl_checker.proofs.past.Past.is_spent.Goals as goal

pub returns-then-not-is_spent : goal.returns-then-not-is_spent
returns-then-not-is_spent c = λ past addresses holders.
    ap (λ b. b && are_live_there (is_live past) past (edge_port_at c.args.point)) (sym c.if-not-is_spent.true ∙ c.is_spent.ensures past addresses)

pub returns : goal.returns
returns c = λ past addresses holders.
    c.are_live_there.ensures past holders
    ∙ ap (λ b. b && are_live_there (is_live past) past (edge_port_at c.args.point)) (sym c.if-not-is_spent.false ∙ c.is_spent.ensures past addresses)
