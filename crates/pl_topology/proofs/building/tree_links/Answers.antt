use Rattle.std.proofs.Common.{◌<◌, ◌++◌, ◌∷◌, [], length, map, take, sym, ap, ◌∙◌, arith}
use Rattle.std.proofs.lemmas.List.{map_more, take_all}
use Rattle.pl_wiring.specs.declared.link.Link.{Link}
use Rattle.pl_topology.specs.Meaning.{link_of}
use Rattle.pl_topology.proofs.building.tree_links.Goals as goal

abbrev no_link : Link
no_link = record { lower = record { 0 = 0 }; lower_port = 0; upper = record { 0 = 0 }; upper_port = 0 }

pub loop-link-preserved : goal.loop-link-preserved
loop-link-preserved c = λ given finds.
    let links = c.deref-link-items.result.now in
    let i = c.loop-link.link-index in
    let within : i < length links = omega arith in
    c.in_ok-push.ensures.items ∙ ap (λ xs. xs ++ c.tree_link.result ∷ []) (c.loop-link.invariant given finds)
    ∙ ap (λ x. map (link_of given) (take i links) ++ x ∷ []) (c.tree_link.ensures given finds) ∙ sym (map_more (link_of given) links i no_link within)

pub returns : goal.returns
returns c = λ given finds.
    let links = c.deref-link-items.result.now in
    c.loop-link.invariant given finds ∙ ap (map (link_of given)) (take_all c.loop-link.link-index links c.loop-link-test.false
    ∙ c.deref-link-items.ensures.value ∙ c.in_ok-canonical.ensures)
