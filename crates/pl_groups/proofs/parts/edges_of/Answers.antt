use Rattle.std.proofs.Common.{◌≡◌, ◌∙◌, List, Bool, None, Some, ap, cond, filter, map}
use Rattle.std.proofs.lemmas.Result.{IfOk-weaker}
use Rattle.pl_frame.specs.declared.address.SwitchId.{SwitchId}
use Rattle.pl_node.specs.ManagerViews.{is_alive}
use Rattle.pl_groups.proofs.parts.edges_of.Goals as goal

pub returns-in-Some : goal.returns-in-Some
returns-in-Some c =
    let needed = c.args.needed.now in let serves : SwitchId → Bool = is_alive c.args.reports.now c.args.switch in
    let same : Some c.in-Some.row.now ≡ Some (map serves needed) = c.in-Some.ensures ∙ ap (λ b. cond b (Some (map serves needed)) None) c.requires.level in
    let row : c.in-Some.row.now ≡ map serves needed = cc in
    IfOk-weaker c.edges_in.result (λ (edges : List SwitchId). (f : SwitchId → Bool) → c.in-Some.row.now ≡ map f needed → edges ≡ filter f needed)
    (λ edges. edges ≡ filter serves needed) (λ edges h. h serves row) c.edges_in.ensures

pub returns-in-None : goal.returns-in-None
returns-in-None c =
    let needed = c.args.needed.now in let serves : SwitchId → Bool = is_alive c.args.reports.now c.args.switch in
    let none : None ≡ Some (map serves needed) = c.in-None.ensures ∙ ap (λ b. cond b (Some (map serves needed)) None) c.requires.level in
    absurd (cc)
