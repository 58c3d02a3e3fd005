use Rattle.std.proofs.Common.{◌∙◌, ◌++◌, map, sym, ap}
use Rattle.std.specs.Map.{keys_of}
use Rattle.std.proofs.lemmas.List.{append-nil}
use Rattle.pl_node.specs.declared.acts.HostAct.TheVariants.{Send}
use Rattle.pl_node.specs.HostViews.{HeldFrames}
use Rattle.pl_host_rule.specs.HostRule.{request_frame}
use Rattle.pl_host.proofs.Stepping.{asks}
use Rattle.pl_host.proofs.waiting.Waiting.ask.Goals as goal

pub returns : goal.returns
returns c =
    sym (append-nil c.loop-ip.out)
    ∙ ap (λ ips. c.loop-ip.out ++ map (λ ip. Send (request_frame c.args.me ip)) ips) (sym c.in-None.ensures.steps.0)
    ∙ c.loop-ip.invariant
    ∙ ap (λ ips. c.args.out.now ++ map (λ ip. Send (request_frame c.args.me ip)) ips)
    (c.into_iter-ip-iterator.ensures.into_iter_gives ∙ c.keys-ip-items.ensures.rest ∙ ap (λ (held : HeldFrames). keys_of held) c.self.view_is)
    ∙ ap (λ acts. c.args.out.now ++ acts) (asks c.args.me c.args.self.now)
