use Rattle.pl_manager.proofs.Changes.{lists_said}
use Rattle.pl_manager.proofs.renewing.tell_new_lists.Goals as goal

pub returns-clause-told : goal.returns-clause-told
returns-clause-told c = c.changed.ensures.told

pub returns-clause-handed : goal.returns-clause-handed
returns-clause-handed c = c.in_ok-changed.ensures.handed

pub returns-clause-acts : goal.returns-clause-acts
returns-clause-acts c = λ told was.
    lists_said told c.args.matrix.now c.changed.new.self c.args.out.now c.tell_lists.new.out c.in_ok-changed.changed
    c.changed.ensures.told c.in_ok-changed.ensures.changed c.in_ok-tell_lists.ensures was
