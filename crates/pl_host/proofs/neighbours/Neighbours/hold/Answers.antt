use Rattle.std.proofs.Common.{◌∙◌, ap}
use Rattle.std.proofs.lemmas.Result.{on_err_weaker, on_ok_weaker}
use Rattle.pl_node.specs.HostViews.{HeldFrames}
use Rattle.pl_host.specs.Waiting.{are_unknown}
use Rattle.pl_host.proofs.Holding.{on_either, unknown-with_held}
use Rattle.pl_host.proofs.neighbours.Neighbours.hold.Goals as goal

pub invariant_of-self : goal.invariant_of-self
invariant_of-self c = record {
  unknown =
      let cache = c.args.self.now.cache in
      on_either c.hold.result
      (on_ok_weaker c.hold.result
      (λ more. ap (λ (held : HeldFrames). are_unknown cache held) more
      ∙ unknown-with_held cache c.args.self.now.waiting c.args.ip c.args.frame c.requires c.args.self.now.unknown) c.hold.ensures.ok)
      (on_err_weaker c.hold.result (λ same. ap (λ (held : HeldFrames). are_unknown cache held) same ∙ c.args.self.now.unknown) c.hold.ensures.err);
}
