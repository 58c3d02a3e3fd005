use Rattle.pl_manager.proofs.Changes.{forgotten}
use Rattle.pl_manager.proofs.renewing.forget.Goals as goal

pub returns : goal.returns
returns c = forgotten c.new.result c.forget.new.self c.new.ensures c.forget.ensures.members c.forget.ensures.parts
