use Rattle.std.proofs.Common.{◌∙◌, sym}
use Rattle.std.proofs.lemmas.Bool.{both_ways, false≢true}
use Rattle.pl_past_tables.proofs.Granted.{newer_than}
use Rattle.pl_past_tables.proofs.addresses.Addresses.is_newer.Goals as goal

pub returns-then-not-same_host : goal.returns-then-not-same_host
returns-then-not-same_host c = λ past keeps. (
  λ t. absurd (false≢true t),
  λ both. absurd (both_ways c.same_host.result c.if-not-same_host.true
      (c.same_host.ensures.1 (c.holder.ensures past keeps ∙ both.0 ∙ sym (c.holder-2.ensures past keeps)))),
)

pub returns : goal.returns
returns c = λ past keeps.
    newer_than past c.args.from c.args.to c.is_newer.result c.number.result c.number-2.result
    (sym (c.holder.ensures past keeps) ∙ c.same_host.ensures.0 c.if-not-same_host.false ∙ c.holder-2.ensures past keeps)
    (c.number.ensures past keeps) (c.number-2.ensures past keeps) c.is_newer.ensures
