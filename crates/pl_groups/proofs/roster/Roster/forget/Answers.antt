use Rattle.std.proofs.Common.{rules, ◌∙◌, ◌==◌, ap, filter, sym}
use Rattle.std.proofs.lemmas.Fn.{filter_same}
use Rattle.pl_layouts.specs.Memberships.{flood}
use Rattle.pl_node.specs.ManagerFacts.{groups as groups_told}
use Rattle.pl_node.specs.ManagerViews.{Members}
use Rattle.pl_groups.proofs.Forgotten.{only_floods}
use Rattle.pl_groups.proofs.roster.Roster.forget.Goals as goal

pub invariant_of-self : goal.invariant_of-self
invariant_of-self c =
    filter_same _ (λ group. group == flood) _ (λ group b f called. search rules) _ _ c.retain.ensures.filtered
    ∙ ap (λ groups. filter (λ group. group == flood) groups) c.self.invariant ∙ only_floods c.self.inside.told.entries
    ∙ ap (λ (ms : Members). groups_told ms) (sym c.new.ensures.empty)
