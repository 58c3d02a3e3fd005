use Rattle.std.proofs.Common.{sym, ◌∙◌}
use Rattle.pl_journal_text.proofs.AddressLemmas.{is_read, not_lower, not_read}
use Rattle.pl_journal_text.proofs.addresses.address.Goals as goal

pub returns-then-not-are_lower_digits : goal.returns-then-not-are_lower_digits
returns-then-not-are_lower_digits c =
    not_lower c.args.text.now c.digits-plain.result c.digits-plain.ensures.long c.digits-plain.ensures.spread
    (sym c.are_lower_digits.ensures ∙ c.if-not-are_lower_digits.true)

pub returns-in-Some : goal.returns-in-Some
returns-in-Some c =
    is_read c.args.text.now c.digits-plain.result c.decoded.result c.in-Some.bytes c.unpack.result c.digits-plain.ensures.long c.digits-plain.ensures.spread
    (sym c.are_lower_digits.ensures ∙ c.if-not-are_lower_digits.false) c.decoded.ensures c.in-Some.is c.unpack.ensures

pub returns-in-None : goal.returns-in-None
returns-in-None c =
    not_read c.args.text.now c.digits-plain.result c.decoded.result c.digits-plain.ensures.long c.digits-plain.ensures.spread c.decoded.ensures c.in-None.is
