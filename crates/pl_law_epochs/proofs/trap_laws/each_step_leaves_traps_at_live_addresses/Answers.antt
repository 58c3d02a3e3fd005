use Rattle.pl_law_epochs.proofs.LeadingSteps.{step_leads}
use Rattle.pl_law_epochs.proofs.trap_laws.each_step_leaves_traps_at_live_addresses.Goals as goal

pub returns : goal.returns
returns c = step_leads
