use Rattle.hex.proofs.HexLemmas.{decode_of-ok}
use Rattle.pl_journal_text.proofs.hexadecimals.read_bytes.Goals as goal

pub returns-in-Ok-clause-bytes : goal.returns-in-Ok-clause-bytes
returns-in-Ok-clause-bytes c = (decode_of-ok c.args.word.now c.in-Ok.bytes.items c.in-Ok.ensures.ok).3
