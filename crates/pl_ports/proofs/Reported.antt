-- What is told of a switch and its ports is its report of them.
use Rattle.std.proofs.Common.{◌≡◌, ℕ, Bool, List, [], ◌∷◌, ◌++◌, map, Option, Some, None, refl, sym, ap, ◌∙◌, append_assoc}
use Rattle.std.specs.List.{flat_map}
use Rattle.std.proofs.lemmas.List.{map-append}
use Rattle.pl_frame.specs.declared.address.SwitchId.{SwitchId}
use Rattle.pl_node.specs.declared.acts.Act.{Act}
use Rattle.pl_node.specs.declared.acts.Act.TheVariants.{Tell}
use Rattle.pl_node.specs.declared.messages.ToManager.{ToManager}
use Rattle.pl_node.specs.declared.messages.ToManager.TheVariants as tell
use Rattle.pl_node.specs.PortRecords.{id_at, is_usable, ports_of_switch}
use Rattle.pl_node.specs.SwitchViews.{SwitchView}
use Rattle.pl_steps.specs.PortsTold.{at_each_port}
use Rattle.pl_switch_rule.specs.Reporting.{each_told, link_reported, links_reported, own_reported, wish_reported}
use Rattle.pl_switch_rule.specs.Telling.{link_to}
use Rattle.pl_ports.specs.Standings.{link_known}

link_is : (o : Option SwitchId) (usable : Bool) → link_to o usable ≡ each_told (link_reported o usable)
link_is None usable = refl
link_is (Some neighbour) usable = refl

links_are : (v : SwitchView) (ports : List ℕ) → flat_map (link_known v) ports ≡ each_told (flat_map (λ port. link_reported (id_at v port) (is_usable v port)) ports)
links_are v [] = refl
links_are v (p ∷ ports) =
    let rest = flat_map (λ port. link_reported (id_at v port) (is_usable v port)) ports in
    ap (λ acts. link_known v p ++ acts) (links_are v ports)
    ∙ ap (λ acts. acts ++ each_told rest) (link_is (id_at v p) (is_usable v p))
    ∙ sym (map-append (λ (word : ToManager). Tell word) (link_reported (id_at v p) (is_usable v p)) rest)

pub all_reported : (v : SwitchView) (out : List Act) →
    ((out ++ Tell (tell.Place v.place) ∷ []) ++ at_each_port (link_known v) v.k) ++ each_told (wish_reported v.place) ≡ out ++ each_told (own_reported v)
all_reported v out =
    let first : List Act = Tell (tell.Place v.place) ∷ [] in
    let wish = each_told (wish_reported v.place) in
    ap (λ links. ((out ++ first) ++ links) ++ wish) (links_are v (ports_of_switch v.k))
    ∙ append_assoc (out ++ first) (each_told (links_reported v)) wish
    ∙ append_assoc out first (each_told (links_reported v) ++ wish)
    ∙ ap (λ acts. out ++ (first ++ acts)) (sym (map-append (λ (word : ToManager). Tell word) (links_reported v) (wish_reported v.place)))
