use Rattle.std.proofs.Common.{◌≡◌, ◌∙◌, ◌==◌, List, true, false, ap, filter, length, map, sym}
use Rattle.std.proofs.lemmas.Bool.{false≢true}
use Rattle.pl_frame.specs.declared.address.SwitchId.{SwitchId}
use Rattle.pl_node.specs.Trees.{largest, turn}
use Rattle.pl_groups.specs.declared.cores.CoreReach.{CoreReach}
use Rattle.pl_groups.proofs.Reached.{best_is, turn_is}
use Rattle.pl_groups.proofs.cores.core_for.Goals as goal

pub returns : goal.returns
returns c =
    let told = c.args.reports.now in
    let needed = c.args.needed.now in
    let some : (length needed == 0) ≡ false = sym c.is_empty.ensures ∙ c.if-is_empty.false in
    c.turn.ensures
    ∙ ap (turn c.args.group)
    (c.deref-2.ensures.value ∙ c.in_ok-best.ensures
    ∙ ap (λ (rs : List CoreReach). map (λ (r : CoreReach). r.core) (filter (λ (r : CoreReach). r.edges == largest (map (λ (q : CoreReach). q.edges) rs)) rs))
    (c.deref.ensures.value ∙ c.in_ok-reaches.ensures) ∙ best_is told needed)
    ∙ sym (turn_is told c.args.group needed (λ e. let none : (length needed == 0) ≡ true = ap (λ (xs : List SwitchId). length xs == 0) e in false≢true (sym some ∙ none)))
