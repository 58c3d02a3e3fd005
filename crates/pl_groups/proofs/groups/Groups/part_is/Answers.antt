use Rattle.std.proofs.Common.{◌≡◌, ◌∙◌, ◌↔◌, Bool, IsTrue, ap, subst, sym}
use Rattle.std.specs.Option.{option_copied}
use Rattle.pl_manager_rule.specs.ManagerRule.{same_part}
use Rattle.pl_manager_rule.proofs.Exports.{parts_alike}
use Rattle.pl_groups.specs.Kept.{part_kept}
use Rattle.pl_groups.proofs.groups.Groups.part_is.Goals as goal

pub returns : goal.returns
returns c =
    let kept = part_kept c.args.self.now c.args.group c.args.switch in
    subst (λ (b : Bool). IsTrue b ↔ (option_copied c.args.part ≡ kept))
    (sym (c.same_part.ensures ∙ ap (same_part (option_copied c.args.part)) c.part_of.ensures))
    (parts_alike (option_copied c.args.part) kept)
