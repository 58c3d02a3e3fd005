use Rattle.std.proofs.Common.{◌≡◌, ℕ, Option, refl, subst, sym}
use Rattle.std.specs.Option.{MatchOption}
use Rattle.pl_pmac.specs.declared.pmac.Pmac.{Pmac}
use Rattle.pl_migrate.specs.Keeping.{IsAged, IsNextDue, KeepsGrants, NothingIsDue}
use Rattle.pl_migrate.proofs.AllLearnt.{keeps_itself}
use Rattle.pl_migrate.proofs.Uses.{can_rest, is_aged}
use Rattle.pl_migrate.proofs.address_table.AddressTable.next_aged.Goals as goal

pub returns-in_err-pmac-clause-aged : goal.returns-in_err-pmac-clause-aged
returns-in_err-pmac-clause-aged c =
    subst (λ (o : Option (Pmac × ℕ)). MatchOption o (NothingIsDue c.args.self.now × (c.args.self.now
    ≡ c.args.self.now)) (λ aged. IsAged c.args.self.now c.args.self.now aged.0 aged.1))
    (sym c.from_residual.ensures) (
      subst (λ (o : Option (Pmac × ℕ)). MatchOption o (NothingIsDue c.args.self.now)
          (λ due. IsNextDue c.args.self.now due.0 due.1)) c.in_err-pmac.was c.next_due.ensures,
      refl,
    )

pub returns-in_err-pmac-clause-kept : goal.returns-in_err-pmac-clause-kept
returns-in_err-pmac-clause-kept c = keeps_itself c.args.self.now

pub stand-requires : goal.stand-requires
stand-requires c = can_rest c.args.self.now c.in_ok-pmac.pmac c.in_ok-pmac.number (subst (λ (o : Option (Pmac × ℕ)). MatchOption o
    (NothingIsDue c.args.self.now) (λ due. IsNextDue c.args.self.now due.0 due.1)) c.in_ok-pmac.was c.next_due.ensures)

aged : (c : goal.After-stand) → IsAged c.args.self.now c.stand.new.self c.in_ok-pmac.pmac c.in_ok-pmac.number × KeepsGrants c.args.self.now c.stand.new.self
aged c =
    is_aged c.args.self.now c.stand.new.self c.in_ok-pmac.pmac c.in_ok-pmac.number (subst (λ (o : Option (Pmac × ℕ)). MatchOption o
    (NothingIsDue c.args.self.now) (λ due. IsNextDue c.args.self.now due.0 due.1)) c.in_ok-pmac.was c.next_due.ensures) c.stand.ensures.step
    c.stand.ensures.asked c.stand.ensures.others

pub returns-clause-aged : goal.returns-clause-aged
returns-clause-aged c = (aged c).0

pub returns-clause-kept : goal.returns-clause-kept
returns-clause-kept c = (aged c).1
