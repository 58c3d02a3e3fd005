use Rattle.pl_journal_text.proofs.NameLemmas.{switch_read}
use Rattle.pl_journal_text.proofs.names.SwitchNoFromText.from_text.Goals as goal

pub returns : goal.returns
returns c = switch_read c.args.wiring.now c.args.text.now c.switch_named.result c.k-k.ensures.plan c.switch_named.ensures.found c.switch_named.ensures.none
