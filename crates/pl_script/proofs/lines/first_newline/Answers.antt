use Rattle.pl_script.proofs.LineLemmas.{newline_found}
use Rattle.pl_script.proofs.lines.first_newline.Goals as goal

pub returns : goal.returns
returns c = newline_found c.args.file.now c.memchr.result c.memchr.ensures
