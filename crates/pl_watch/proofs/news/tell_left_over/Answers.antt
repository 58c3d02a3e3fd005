use Rattle.std.proofs.Common.{◌∙◌, ℕ, List, map, subst}
use Rattle.pl_frame.specs.declared.address.SwitchId.{SwitchId}
use Rattle.pl_watch.specs.News.{avoid_line}
use Rattle.pl_log_lines.specs.Telling.{Tells, node_in}
use Rattle.pl_watch.proofs.LeftOver.{rest_is}
use Rattle.pl_watch.proofs.news.tell_left_over.Goals as goal

pub returns : goal.returns
returns g c =
    subst (λ (xs : List (SwitchId × ℕ × ℕ)). Tells c.args.page.now c.tell_entries.new.page c.args.told.now c.tell_entries.new.told
    (map (avoid_line c.args.index.now (node_in c.args.told.now) c.args.sign.now) xs))
    (c.as_slice.ensures.items ∙ rest_is c.args.list.now c.args.other.now c.in_ok-rest.rest c.as_slice.ensures.rising c.in_ok-rest.ensures) c.tell_entries.ensures
