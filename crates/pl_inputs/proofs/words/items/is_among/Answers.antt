use Rattle.std.proofs.Common.{◌∙◌}
use Rattle.pl_inputs.proofs.ItemLemmas.{any_text}
use Rattle.pl_inputs.proofs.words.items.is_among.Goals as goal

pub returns : goal.returns
returns c = c.contains.ensures.value ∙ any_text c.args.names.now c.args.name.now
