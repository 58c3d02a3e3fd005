use Rattle.std.proofs.Common.{◌≡◌, ◌&&◌, ◌∙◌, [], ap, ap₂, not, unwrap_or}
use Rattle.std.specs.Option.{option_map}
use Rattle.pl_node.specs.AvoidRows.{is_listed}
use Rattle.pl_node.specs.Hidden.{hidden_at, shown}
use Rattle.pl_node.proofs.Shown.{left_of_shown}
use Rattle.pl_node.proofs.avoid_list.AvoidList.without.Goals as goal

pub returns-then-are_alike : goal.returns-then-are_alike
returns-then-are_alike c = λ x.
    let xs = unwrap_or (option_map (λ rc. rc.value) c.self.inside.rows) [] in
    let ys = unwrap_or (option_map (λ rc. rc.value) c.other.inside.rows) [] in
    let hidden = c.self.inside.hidden in
    let same : hidden ≡ c.other.inside.hidden = c.are_alike.ensures.0 c.if-are_alike.true in
    c.in_ok-left.ensures.each x ∙ ap (λ b. b && not (hidden_at hidden x.1 x.2)) (c.in_ok-list.ensures x) ∙ left_of_shown hidden x xs ys
    ∙ ap₂ (λ l m. is_listed x l && not (is_listed x m)) c.self.view_is (ap (λ h. shown h ys) same ∙ c.other.view_is)

pub returns : goal.returns
returns c = λ x.
    c.in_ok-rest.ensures x ∙ ap₂ (λ l m. is_listed x l && not (is_listed x m)) c.in_ok-own.ensures c.in_ok-others.ensures
