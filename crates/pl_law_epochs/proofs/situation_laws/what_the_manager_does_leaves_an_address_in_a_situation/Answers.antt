use Rattle.pl_law_epochs.proofs.Treated.{first_word, forgets, recalls}
use Rattle.pl_law_epochs.proofs.situation_laws.what_the_manager_does_leaves_an_address_in_a_situation.Goals as goal

pub returns-clause-treats : goal.returns-clause-treats
returns-clause-treats c = λ later t word due at loud is. first_word later t at loud word due is

pub returns-clause-recalls : goal.returns-clause-recalls
returns-clause-recalls c = λ later t to aged at some is. recalls later t at to aged some is

pub returns-clause-forgets : goal.returns-clause-forgets
returns-clause-forgets c = λ later t known to at is. (forgets later t at known to is).then_in
