use Rattle.std.proofs.Common.{rules, ◌∙◌, ap, ◌==◌, not}
use Rattle.std.proofs.lemmas.Fn.{filter_same}
use Rattle.pl_node.specs.HostViews.{without_group}
use Rattle.pl_layouts.specs.Memberships.{group_number}
use Rattle.pl_host.proofs.groups.Groups.remove.Goals as goal

pub returns : goal.returns
returns c =
    filter_same _ (λ group. not (group_number group == c.args.number)) _ (λ group b f called. search rules) _ _ c.retain.ensures.filtered
    ∙ ap (λ joined. without_group c.args.number joined) c.self.view_is
