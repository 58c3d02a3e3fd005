use Rattle.std.proofs.Common.{◌≤◌, ◌∙◌, List, ap, length, reverse, sym, subst}
use Rattle.std.proofs.lemmas.List.{length-reverse}
use Rattle.pl_node.specs.declared.pod_given.PodGiven.{PodGiven}
use Rattle.pl_registry.specs.Askers.{pod_holders}
use Rattle.pl_registry.proofs.Asking.{few_holders}
use Rattle.pl_registry.proofs.askers.Askers.len.Goals as goal

pub returns-clause-many : goal.returns-clause-many
returns-clause-many c = c.len.ensures ∙ c.self.inside.given.ok.0 ∙ sym (length-reverse c.self.inside.given.items) ∙ ap (λ (gs : List PodGiven). length gs) c.self.view_is

pub returns-clause-few : goal.returns-clause-few
returns-clause-few c =
    subst (λ (gs : List PodGiven). c.len.result ≤ length (pod_holders gs)) c.self.view_is
    (subst (λ n. n ≤ length (pod_holders (reverse c.self.inside.given.items))) (sym (c.len.ensures ∙ c.self.inside.given.ok.0 ∙ sym (length-reverse c.self.inside.given.items)))
    (few_holders (reverse c.self.inside.given.items) c.self.invariant))
