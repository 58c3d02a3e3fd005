-- The list that is lent is that of the switch.
use Rattle.std.proofs.Common.{◌≡◌, List, [], Option, Some, None, sym, ap, ◌∙◌}
use Rattle.std.specs.Prelude.{unwrap_or}
use Rattle.pl_frame.specs.declared.address.SwitchId.{SwitchId}
use Rattle.pl_node.specs.AvoidLists.{avoid_list}
use Rattle.pl_node.specs.ManagerViews.{Told}
use Rattle.pl_faults.specs.Kept.{list_of}
use Rattle.pl_faults.specs.Making.{Avoided}
use Rattle.pl_faults.proofs.Exports.{avoid_of}

pub list_found : (told : Told) (s : SwitchId) (list : List Avoided) → Some list ≡ list_of told s → list ≡ avoid_list told s
list_found told s list e = ap (λ (o : Option (List Avoided)). unwrap_or o []) e ∙ avoid_of told s

pub list_missing : (told : Told) (s : SwitchId) → None ≡ list_of told s → avoid_list told s ≡ []
list_missing told s e = sym (avoid_of told s) ∙ ap (λ (o : Option (List Avoided)). unwrap_or o []) (sym e)
