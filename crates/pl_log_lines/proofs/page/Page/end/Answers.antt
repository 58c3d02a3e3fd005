use Rattle.std.proofs.Common.{ap, subst, ◌∙◌}
use Rattle.pl_log_lines.specs.Pages.{Prints, line_end}
use Rattle.pl_log_lines.proofs.page.Page.end.Goals as goal

pub returns : goal.returns
returns g c =
    subst (Prints c.args.self.now c.put.new.self) (c.end_of-end.ensures ∙ ap line_end c.is_json.ensures) c.put.ensures
