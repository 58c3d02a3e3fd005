use Rattle.std.proofs.Common.{◌∙◌, ◌++◌, map, sym, ap}
use Rattle.std.proofs.lemmas.List.{append-nil}
use Rattle.pl_node.specs.declared.acts.HostAct.TheVariants.{Send}
use Rattle.pl_host_rule.specs.HostRule.{report_frame}
use Rattle.pl_host.proofs.Stepping.{reports}
use Rattle.pl_host.proofs.groups.Groups.report.Goals as goal

pub returns : goal.returns
returns c =
    sym (append-nil c.loop-group.out)
    ∙ ap (λ groups. c.loop-group.out ++ map (λ group. Send (report_frame c.args.me group)) groups) (sym c.in-None.ensures.steps.0)
    ∙ c.loop-group.invariant
    ∙ ap (λ groups. c.args.out.now ++ map (λ group. Send (report_frame c.args.me group)) groups)
    (c.into_iter-group-iterator.ensures.into_iter_gives ∙ c.iter-group-items.ensures.rest ∙ c.self.view_is)
    ∙ ap (λ acts. c.args.out.now ++ acts) (reports c.args.me c.args.self.now)
