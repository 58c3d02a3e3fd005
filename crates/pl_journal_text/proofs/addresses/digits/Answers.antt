use Rattle.pl_journal_text.proofs.AddressLemmas.{spread_digits}
use Rattle.pl_journal_text.proofs.addresses.digits.Goals as goal

pub returns-clause-spread : goal.returns-clause-spread
returns-clause-spread c = spread_digits c.args.text.now c.requires
