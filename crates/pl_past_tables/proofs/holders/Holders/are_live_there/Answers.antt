use Rattle.std.proofs.Common.{◌==◌, ap, sym, ◌∙◌}
use Rattle.pl_journal.specs.Places.{is_live}
use Rattle.pl_past_tables.specs.Keys.{edge_port_at}
use Rattle.pl_past_tables.proofs.Holding.{all_are_live}
use Rattle.pl_past_tables.proofs.holders.Holders.are_live_there.Goals as goal

pub returns : goal.returns
returns c = λ past keeps. ap (λ m. m == 0) (c.free_in.ensures ∙ keeps.free c.args.point) ∙ sym (all_are_live (is_live past) past (edge_port_at c.args.point))
