use Rattle.std.proofs.Common.{◌≡◌, ◌∙◌, [], ap, sym, unwrap_or}
use Rattle.std.specs.Option.{option_map}
use Rattle.pl_node.specs.Hidden.{shown}
use Rattle.pl_node.proofs.avoid_list.AvoidList.is.Goals as goal

pub returns-then-are_alike : goal.returns-then-are_alike
returns-then-are_alike c =
    let ys = unwrap_or (option_map (λ rc. rc.value) c.other.inside.rows) [] in
    let hidden = c.self.inside.hidden in
    let same : hidden ≡ c.other.inside.hidden = c.are_alike.ensures.0 c.if-are_alike.true in
    let l = ap (shown hidden) c.rows_or-own.ensures ∙ c.self.view_is in
    let r = ap (shown hidden) c.rows_or-others.ensures ∙ ap (λ h. shown h ys) same ∙ c.other.view_is in
    (λ u. sym l ∙ c.is_but.ensures.0 u ∙ r, λ e. c.is_but.ensures.1 (l ∙ e ∙ sym r))

pub returns : goal.returns
returns c =
    let l = ap (shown c.self.inside.hidden) c.rows_or-own.ensures ∙ c.self.view_is in
    let r = ap (shown c.other.inside.hidden) c.rows_or-others.ensures ∙ c.other.view_is in
    (λ u. sym l ∙ c.is_shown_as.ensures.0 u ∙ r, λ e. c.is_shown_as.ensures.1 (l ∙ e ∙ sym r))
