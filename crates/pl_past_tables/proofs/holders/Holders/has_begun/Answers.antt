use Rattle.std.proofs.Common.{ap, ◌∙◌}
use Rattle.std.specs.Option.{option_map}
use Rattle.pl_past.specs.Addressees.{tenures}
use Rattle.pl_past_tables.specs.Holders.{tenure_of}
use Rattle.pl_past_tables.proofs.Holding.{none_at, some_at}
use Rattle.pl_past_tables.proofs.holders.Holders.has_begun.Goals as goal

pub returns-in-None : goal.returns-in-None
returns-in-None c = λ past keeps.
    none_at c.args.n c.args.place (tenures past c.args.address) _
    (ap (option_map tenure_of) c.in-None.ensures ∙ keeps.tenures.each (record { address = c.args.address; place = c.args.place }))

pub returns-in-Some : goal.returns-in-Some
returns-in-Some c = λ past keeps.
    some_at c.args.n c.args.place (tenures past c.args.address) c.in-Some.held
    (ap (option_map tenure_of) c.in-Some.ensures ∙ keeps.tenures.each (record { address = c.args.address; place = c.args.place }))
