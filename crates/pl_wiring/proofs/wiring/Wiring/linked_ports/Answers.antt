use Rattle.std.proofs.Common.{◌≡◌, ◌∙◌, ap, map, is_some}
use Rattle.pl_lemmas.proofs.Exports.{if_ok}
use Rattle.pl_wiring.specs.Wired.{plan_of}
use Rattle.pl_wiring.proofs.Live.{made_for_links, all_live}
use Rattle.pl_wiring.proofs.wiring.Wiring.linked_ports.Goals as goal

pub returns-clause-made_for : goal.returns-clause-made_for
returns-clause-made_for c =
    rw (← c.self.view_is) (if_ok c.present.result
    (λ flags is. let e : flags.items ≡ map is_some c.self.inside.link_at.items = is ∙ ap (λ t. map is_some t) c.deref.ensures.value in rw e (made_for_links (plan_of c.self.inside) c.self.inside.link_at.items c.self.invariant.links_by_port c.self.invariant.link_room))
    c.present.ensures)

pub returns-clause-live : goal.returns-clause-live
returns-clause-live c =
    rw (← c.self.view_is) (if_ok c.present.result
    (λ flags is. let e : flags.items ≡ map is_some c.self.inside.link_at.items = is ∙ ap (λ t. map is_some t) c.deref.ensures.value in rw e (all_live c.self.inside.k c.self.inside.link_at.items c.self.inside.links.items c.self.invariant.links_by_port))
    c.present.ensures)
