use Rattle.std.proofs.Common.{◌∙◌, ap, sym}
use Rattle.pl_node.specs.Hidden.{shown}
use Rattle.pl_node.proofs.Exports.{all_shown}
use Rattle.pl_faults.specs.Sharing.{hidden_of}
use Rattle.pl_faults.proofs.sharing.list_in.Goals as goal

pub returns-in_ok-list-in-Some : goal.returns-in_ok-list-in-Some
returns-in_ok-list-in-Some c =
    c.in_ok-list-in-Some.ensures
    ∙ ap (λ h. shown h c.args.shared.now.list) (c.in-Some.ensures ∙ ap hidden_of c.place_of.ensures)

pub returns-in_ok-list-in-None : goal.returns-in_ok-list-in-None
returns-in_ok-list-in-None c =
    c.in_ok-list-in-None.ensures ∙ sym (all_shown c.args.shared.now.list)
    ∙ ap (λ h. shown h c.args.shared.now.list) (c.in-None.ensures ∙ ap hidden_of c.place_of.ensures)
