use Rattle.pl_law_ledger.proofs.ledger_laws.an_address_in_use_is_the_last_granted.Goals as goal

pub returns : goal.returns
returns c = λ w l s v x g h found is used of. l.last s v x g h found is used of
