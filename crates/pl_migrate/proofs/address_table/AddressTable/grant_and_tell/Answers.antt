use Rattle.std.proofs.Common.{[], ◌∷◌, ◌++◌, ◌∙◌, List, ap, append_assoc}
use Rattle.pl_node.specs.declared.acts.Act.{Act}
use Rattle.pl_node.specs.declared.acts.Act.TheVariants.{Grant, Tell}
use Rattle.pl_node.specs.declared.messages.ToManager.TheVariants.{Learned}
use Rattle.pl_migrate.proofs.Uses.{on_ok}
use Rattle.pl_migrate.proofs.address_table.AddressTable.grant_and_tell.Goals as goal

pub returns-clause-taken : goal.returns-clause-taken
returns-clause-taken c =
    let granted : Act = Grant c.args.pmac c.args.amac in
    let told : Act = Tell (Learned c.args.pmac c.args.amac c.args.ip) in
    let acts = c.in_ok-push-2.ensures.ok ∙ ap (λ (out : List Act). out ++ told ∷ []) c.in_ok-push.ensures.ok
    ∙ append_assoc c.args.out.now (granted ∷ []) (told ∷ []) in
    on_ok c.grant_next.result (λ step v. record { view = step v; acts = acts }) c.grant_next.ensures.step
