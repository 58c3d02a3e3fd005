use Rattle.std.proofs.Common.{[]}
use Rattle.pl_law_epochs.proofs.Lives.{again, ends, frees, grants, obeys, rests}
use Rattle.pl_law_epochs.proofs.situation_laws.what_a_switch_does_leaves_an_address_in_a_situation.Goals as goal

pub returns-clause-grants : goal.returns-clause-grants
returns-clause-grants c = grants

pub returns-clause-again : goal.returns-clause-again
returns-clause-again c = again

pub returns-clause-rests : goal.returns-clause-rests
returns-clause-rests c = rests

pub returns-clause-ends : goal.returns-clause-ends
returns-clause-ends c = λ later t to at is. ends later t at to is

pub returns-clause-obeys : goal.returns-clause-obeys
returns-clause-obeys c = λ later t to at is. (obeys later t at to [] is).then_in

pub returns-clause-frees : goal.returns-clause-frees
returns-clause-frees c = λ later t at is. (frees later t at [] is).then_in
