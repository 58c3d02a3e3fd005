use Rattle.std.proofs.Common.{◌∙◌, ap, sym}
use Rattle.std.specs.List.{find}
use Rattle.pl_arp.specs.declared.cache.Me.{Me}
use Rattle.pl_layouts.specs.Equality.{same_mac}
use Rattle.pl_host.proofs.owners.Owners.owner.Goals as goal

pub returns-in-Some-clause-found : goal.returns-in-Some-clause-found
returns-in-Some-clause-found c =
    c.self.invariant c.args.mac c.in-Some.answer (sym c.get.ensures.value ∙ sym c.copied.ensures ∙ c.in-Some.is)
    ∙ ap (find (λ (host : Me). same_mac host.mac c.args.mac)) c.self.view_is
