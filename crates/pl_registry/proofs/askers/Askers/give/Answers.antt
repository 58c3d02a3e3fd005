use Rattle.std.proofs.Common.{◌≡◌, ◌∙◌, ◌∷◌, None, ap, List, reverse, sym, subst}
use Rattle.pl_node.specs.declared.pod_given.PodGiven.{PodGiven}
use Rattle.pl_node.specs.ManagerViews.{pod_given}
use Rattle.pl_registry.specs.Askers.{AreOnce}
use Rattle.pl_registry.proofs.Asking.{newest_first, once_more}
use Rattle.pl_registry.proofs.askers.Askers.give.Goals as goal

pub invariant_of-self : goal.invariant_of-self
invariant_of-self c = subst (λ (gs : List PodGiven). AreOnce (reverse gs)) (sym c.in_err-push.ensures.items) c.self.invariant

pub invariant_of-self-2 : goal.invariant_of-self-2
invariant_of-self-2 c =
    let new : PodGiven = record { switch = c.args.switch; pod = c.args.pod } in
    subst AreOnce (sym (ap (λ (gs : List PodGiven). reverse gs) c.in_ok-push.ensures.items ∙ newest_first c.self.inside.given.items new))
    (once_more (reverse c.self.inside.given.items) new (subst (λ (gs : List PodGiven). pod_given gs c.args.switch ≡ None) (sym c.self.view_is) c.requires)
    c.self.invariant)

pub returns-clause-ok : goal.returns-clause-ok
returns-clause-ok c =
    let new : PodGiven = record { switch = c.args.switch; pod = c.args.pod } in
    ap (λ (gs : List PodGiven). reverse gs) c.in_ok-push.ensures.items ∙ newest_first c.self.inside.given.items new
    ∙ ap (λ (gs : List PodGiven). new ∷ gs) c.self.view_is
