use Rattle.std.proofs.Common.{◌-◌, Some, ap, ◌∙◌}
use Rattle.std.specs.Option.{option_map}
use Rattle.pl_past.specs.Addressees.{tenures}
use Rattle.pl_past_tables.specs.Holders.{tenure_of}
use Rattle.pl_past_tables.proofs.Holding.{held_by_last, held_by_none, no_held}
use Rattle.pl_past_tables.proofs.holders.Holders.held_as_of.Goals as goal

pub returns-then-begun-eq0 : goal.returns-then-begun-eq0
returns-then-begun-eq0 c = λ past keeps.
    let found = c.begun_by-begun.ensures past keeps in
    held_by_none c.args.n c.begun_by-begun.result (tenures past c.args.address) found.0 found.1 c.if-begun-eq0.true

pub returns-in-None : goal.returns-in-None
returns-in-None c = λ past keeps.
    let found = c.begun_by-begun.ensures past keeps in
    held_by_last c.args.n c.begun_by-begun.result (tenures past c.args.address) no_held found.0 found.1 c.if-begun-eq0.false
    (ap (option_map tenure_of) c.in-None.ensures ∙ keeps.tenures.each (record { address = c.args.address; place = c.begun_by-begun.result - 1 }))

pub returns-in-Some : goal.returns-in-Some
returns-in-Some c = λ past keeps.
    let found = c.begun_by-begun.ensures past keeps in
    held_by_last c.args.n c.begun_by-begun.result (tenures past c.args.address) (Some c.in-Some.held) found.0 found.1 c.if-begun-eq0.false
    (ap (option_map tenure_of) c.in-Some.ensures ∙ keeps.tenures.each (record { address = c.args.address; place = c.begun_by-begun.result - 1 }))
