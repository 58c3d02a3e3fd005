use Rattle.std.proofs.Common.{◌≡◌, ◌∙◌, ◌∷◌, [], ap, sym, List, Option, Some}
use Rattle.std.specs.Option.{option_map, option_or}
use Rattle.pl_node.specs.declared.acts.ManagerAct.{ManagerAct}
use Rattle.pl_node.specs.declared.acts.ManagerAct.TheVariants.{Say}
use Rattle.pl_node.specs.declared.messages.ToSwitch.TheVariants as say
use Rattle.pl_node.specs.ManagerViews.{Learnt}
use Rattle.pl_manager_rule.specs.ManagerRule.{invalidation}
use Rattle.pl_registry.specs.declared.addresses.Registered.{Registered}
use Rattle.pl_registry.specs.Addresses.{registration_of}
use Rattle.pl_registry.proofs.registry.Registry.replaced.Goals as goal

pub returns : goal.returns
returns c = λ number.
    let ip = c.or-ip.ensures ∙ (λ i. option_or (c.ip_of.ensures i) (c.ip_of-2.ensures i)) in
    let told : Option Registered → List ManagerAct = λ o. invalidation c.args.self.now c.args.pmac number (option_map registration_of o) in
    let says : (Say c.in_ok-old.old.switch (say.Invalidate c.in_ok-old.old.pmac c.args.pmac number c.or-ip.result) ∷ []) ≡ told (Some c.in_ok-old.old) =
    (λ i. Say c.in_ok-old.old.switch (say.Invalidate c.in_ok-old.old.pmac c.args.pmac number (ip i)) ∷ [])
    ∙ ap (λ (l : Learnt). invalidation l c.args.pmac number (Some (registration_of c.in_ok-old.old))) c.self.view_is in
    says ∙ ap told (sym c.in_ok-old.was)
