use Rattle.std.proofs.Common.{rules, ◌∙◌, ap, not, List}
use Rattle.std.proofs.lemmas.Fn.{filter_same}
use Rattle.pl_pmac.specs.declared.pmac.Pmac.{Pmac}
use Rattle.pl_layouts.specs.Equality.{same_pmac}
use Rattle.pl_player.specs.Newest.{is_one_of}
use Rattle.pl_player.proofs.HostNumbers.{left_out}
use Rattle.pl_player.proofs.expecting.leave_out.Goals as goal

pub returns : goal.returns
returns c = λ x.
    ap (λ (pmacs : List Pmac). is_one_of pmacs x)
    (filter_same _ (λ one. not (same_pmac one c.args.pmac)) _ (λ one b f called. search rules) _ _ c.retain.ensures.filtered)
    ∙ left_out c.args.pmac x c.args.own.now.items
