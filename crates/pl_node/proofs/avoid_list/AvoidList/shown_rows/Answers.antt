use Rattle.std.proofs.Common.{◌∙◌, [], ap, sym, unwrap_or}
use Rattle.std.specs.Option.{option_map}
use Rattle.pl_node.specs.Hidden.{shown}
use Rattle.pl_node.proofs.Shown.{all_shown}
use Rattle.pl_node.proofs.avoid_list.AvoidList.shown_rows.Goals as goal

pub returns-in_ok-rows-in-None : goal.returns-in_ok-rows-in-None
returns-in_ok-rows-in-None c =
    let xs = unwrap_or (option_map (λ rc. rc.value) c.self.inside.rows) [] in
    c.in_ok-rows-in-None.ensures ∙ sym (all_shown xs) ∙ ap (λ h. shown h xs) (sym c.in-None.is) ∙ c.self.view_is
