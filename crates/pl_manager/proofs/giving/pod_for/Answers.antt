use Rattle.std.proofs.Common.{◌≡◌, ◌∙◌, ◌∷◌, ℕ, ap, sym, List, Option, Some, unwrap_or}
use Rattle.pl_node.specs.declared.pod_given.PodGiven.{PodGiven}
use Rattle.pl_node.specs.ManagerViews.{pod_given}
use Rattle.pl_manager_rule.specs.ManagerRule.{with_asker}
use Rattle.pl_manager_rule.proofs.Exports.{asks_again, asks_first, own_number}
use Rattle.pl_manager.proofs.giving.pod_for.Goals as goal

pub returns-in-Some-clause-asked : goal.returns-in-Some-clause-asked
returns-in-Some-clause-asked c =
    sym (asks_again c.args.reports.now c.args.askers.now c.args.switch c.in-Some.pod (sym c.pod_of.ensures ∙ c.in-Some.is))

-- a switch that asks for the first time stands behind the others with the free number
abbrev becomes : (c : goal.In_ok-give-in-None) → c.give.new.self ≡ with_asker c.args.reports.now c.args.askers.now c.args.switch
becomes c =
    c.in_ok-give-in-None.ensures.ok
    ∙ ap (λ (n : ℕ). (let new : PodGiven = record { switch = c.args.switch; pod = n } in new) ∷ c.args.askers.now) c.free_pod-pod.ensures
    ∙ sym (asks_first c.args.reports.now c.args.askers.now c.args.switch (sym c.pod_of.ensures ∙ c.in-None.is))

pub returns-in_ok-give-in-None-clause-asked : goal.returns-in_ok-give-in-None-clause-asked
returns-in_ok-give-in-None-clause-asked c = becomes c

pub returns-in_ok-give-in-None-clause-pod : goal.returns-in_ok-give-in-None-clause-pod
returns-in_ok-give-in-None-clause-pod c =
    c.free_pod-pod.ensures
    ∙ sym (ap (λ (gs : List PodGiven). unwrap_or (pod_given gs c.args.switch) 0) (becomes c)
    ∙ ap (λ (o : Option ℕ). unwrap_or o 0) (own_number c.args.reports.now c.args.askers.now c.args.switch (sym c.pod_of.ensures ∙ c.in-None.is)))
