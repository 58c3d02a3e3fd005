use Rattle.std.proofs.Common.{◌∙◌, ap}
use Rattle.pl_gathering.specs.Gathering.{is_among}
use Rattle.pl_gatherer.specs.Gatherers.{Gathering}
use Rattle.pl_gatherer.proofs.Sets.{has_key}
use Rattle.pl_gatherer.proofs.gatherer.Gatherer.has_begun.Goals as goal

pub returns : goal.returns
returns c =
    c.contains.ensures ∙ has_key c.args.switch c.self.inside.begun.keys
    ∙ ap (λ (g : Gathering). is_among c.args.switch g.begun) c.self.view_is
