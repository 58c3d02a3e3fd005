use Rattle.std.proofs.Common.{◌∙◌, sym, ap, is_none, ℕ, Option}
use Rattle.pl_past_tables.proofs.Failing.{failed_by_table}
use Rattle.pl_past_tables.proofs.Said.{none_by}
use Rattle.pl_past_tables.proofs.links.Links.is_failed.Goals as goal

pub returns : goal.returns
returns c = λ past keeps.
    none_by c.live_since.result c.is_none.result c.is_none.ensures ∙ ap (λ (o : Option ℕ). is_none o) (c.live_since.ensures past keeps)
    ∙ sym (failed_by_table past c.args.a.0 c.args.b.0)
