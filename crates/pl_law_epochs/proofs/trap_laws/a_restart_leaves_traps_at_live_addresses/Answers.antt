use Rattle.pl_law_epochs.proofs.LeadingSteps.{restart_leads}
use Rattle.pl_law_epochs.proofs.trap_laws.a_restart_leaves_traps_at_live_addresses.Goals as goal

pub returns : goal.returns
returns c = restart_leads
