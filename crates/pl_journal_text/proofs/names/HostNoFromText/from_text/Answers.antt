use Rattle.pl_journal_text.proofs.NameLemmas.{host_read}
use Rattle.pl_journal_text.proofs.names.HostNoFromText.from_text.Goals as goal

pub returns : goal.returns
returns c = host_read c.args.wiring.now c.args.text.now c.host_named.result c.host_named.ensures.found c.host_named.ensures.none
