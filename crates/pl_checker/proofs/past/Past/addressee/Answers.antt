use Rattle.std.proofs.Common.{◌∙◌, sym, ap₂}
use Rattle.pl_journal.specs.Flights.{address}
use Rattle.pl_past.specs.Addressees.{held_as_of, tenures}
use Rattle.pl_past.proofs.Exports.{held_by_numbers}
use Rattle.pl_checker.proofs.past.Past.addressee.Goals as goal

pub returns : goal.returns
returns c = λ text past id keeps is.
    c.held_as_of.ensures past keeps.holders ∙ ap₂ (λ n x. held_as_of n (tenures past x)) is.asked is.address ∙ sym (held_by_numbers past id (address past id))
