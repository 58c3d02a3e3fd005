use Rattle.pl_law_epochs.proofs.Leading.{order_leads_on}
use Rattle.pl_law_epochs.proofs.trap_laws.an_order_sets_a_trap_to_a_live_address.Goals as goal

pub returns : goal.returns
returns c = λ own f a s id named x new number ip i waits mac held.
    order_leads_on own f.plan f.view f.reports f.orders f.manager a s id named x new number ip i waits mac held
