use Rattle.std.proofs.Common.{◌≡◌, ◌∙◌, sym, arith}
use Rattle.pl_pool.specs.Pool.{list_at}
use Rattle.pl_migrate.proofs.Moving.{first_item, no_first}
use Rattle.pl_migrate.proofs.orders.first_of.Goals as goal

pub returns-in_err-key : goal.returns-in_err-key
returns-in_err-key c = c.from_residual.ensures ∙ sym (no_first (list_at c.args.orders.now c.args.list) (sym c.first.ensures ∙ c.in_err-key.was))

pub returns : goal.returns
returns c =
    c.copied.ensures ∙ c.get.ensures ∙ first_item (list_at c.args.orders.now c.args.list) c.in_ok-key.key (sym c.first.ensures ∙ c.in_ok-key.was)
