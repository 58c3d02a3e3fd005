use Rattle.std.proofs.Common.{◌∙◌, ℕ, List, codes, ◌++◌, sym, subst}
use Rattle.pl_frame.specs.declared.address.SwitchId.{SwitchId}
use Rattle.pl_watch.specs.News.{left_over}
use Rattle.pl_log_lines.specs.Telling.{Tells, node_in}
use Rattle.pl_watch.proofs.Learning.{tells_more}
use Rattle.pl_watch.proofs.LeftOver.{same_avoid}
use Rattle.pl_watch.proofs.news.Change.tell_avoid.Goals as goal

pub returns-then-is : goal.returns-then-is
returns-then-is g c =
    same_avoid c.args.page.now c.args.told.now c.args.index.now (node_in c.args.told.now) (g.S.SwitchFacts.view c.args.self.now.after.now).avoid (g.S.SwitchFacts.view c.args.self.now.before.now).avoid
    (sym c.avoid_list-after.ensures ∙ c.is.ensures.0 c.if-is.true ∙ c.avoid_list-before.ensures)

pub returns : goal.returns
returns g c =
    subst (λ (a : List (SwitchId × ℕ × ℕ)). Tells c.args.page.now c.tell_left_over-2.new.page c.args.told.now c.tell_left_over-2.new.told
    (left_over c.args.index.now (node_in c.args.told.now) (codes "+") a (g.S.SwitchFacts.view c.args.self.now.before.now).avoid ++ left_over c.args.index.now (node_in c.args.told.now) (codes "-") (g.S.SwitchFacts.view c.args.self.now.before.now).avoid a)) c.avoid_list-after.ensures
    (subst (λ (b : List (SwitchId × ℕ × ℕ)). Tells c.args.page.now c.tell_left_over-2.new.page c.args.told.now c.tell_left_over-2.new.told
    (left_over c.args.index.now (node_in c.args.told.now) (codes "+") c.avoid_list-after.result.now b ++ left_over c.args.index.now (node_in c.args.told.now) (codes "-") b c.avoid_list-after.result.now)) c.avoid_list-before.ensures
    (tells_more c.args.page.now c.tell_left_over.new.page c.tell_left_over-2.new.page c.args.told.now c.tell_left_over.new.told c.tell_left_over-2.new.told
    (left_over c.args.index.now (node_in c.args.told.now) (codes "+") c.avoid_list-after.result.now c.avoid_list-before.result.now)
    (λ n. left_over c.args.index.now n (codes "-") c.avoid_list-before.result.now c.avoid_list-after.result.now) c.in_ok-tell_left_over.ensures c.in_ok-tell_left_over-2.ensures))
