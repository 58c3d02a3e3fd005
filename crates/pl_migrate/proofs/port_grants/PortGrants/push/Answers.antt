use Rattle.std.proofs.Common.{◌≡◌, ◌<◌, ◌∙◌, ◌++◌, ◌∷◌, [], List, None, arith, length, refl, subst, sym, ap}
use Rattle.pl_migrate.specs.declared.tenancy.Standing.TheVariants.{Fresh}
use Rattle.pl_migrate.specs.declared.tenancy.Tenancy.{Tenancy}
use Rattle.pl_migrate.specs.PortGrants.{ArePortGrants, used_vmid}
use Rattle.pl_migrate.proofs.PortUses.{one_each_push}
use Rattle.pl_migrate.proofs.Moving.{entered}
use Rattle.pl_migrate.proofs.port_grants.PortGrants.push.Goals as goal

pub push_back-requires : goal.push_back-requires
push_back-requires c = let many = c.requires.lists in omega arith

pub invariant_of-self-2 : goal.invariant_of-self-2
invariant_of-self-2 c =
    let entry : Tenancy = record { amac = c.args.amac; ip = c.args.ip; standing = Fresh; since = c.args.now; key = c.in-Ok.key } in
    let room = subst (λ (ts : List Tenancy). length ts < 65535) (sym c.self.view_is) c.requires.room in
    let unused = subst (λ (ts : List Tenancy). used_vmid ts c.args.amac ≡ None) (sym c.self.view_is) c.requires.unused in
    subst ArePortGrants (sym (c.push_reserved.ensures.items ∙ ap (λ (ts : List Tenancy). ts ++ entry ∷ []) c.in_ok-reserve.ensures.items))
    (one_each_push c.self.inside.tenancies.items c.args.amac c.args.ip c.args.now c.in-Ok.key unused room c.self.invariant)

pub returns-clause-ok : goal.returns-clause-ok
returns-clause-ok c =
    let entry : Tenancy = record { amac = c.args.amac; ip = c.args.ip; standing = Fresh; since = c.args.now; key = c.in-Ok.key } in
    entered c.args.self.now c.push_reserved.new.self.items c.args.orders.now c.push_back.new.self c.args.pmac c.args.amac c.args.ip c.args.now c.in-Ok.key
    (c.push_reserved.ensures.items ∙ ap (λ (ts : List Tenancy). ts ++ entry ∷ []) (c.in_ok-reserve.ensures.items ∙ c.self.view_is))
    c.in-Ok.ensures.ok c.in-Ok.ensures.free
