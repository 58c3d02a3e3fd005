use Rattle.pl_law_members.proofs.MembersInRuns.{hosts_keep_their_groups, lawful_hosts_keep}
use Rattle.pl_law_members.proofs.joined_laws.hosts_keep_frames_of_their_groups_alone.Goals as goal

pub returns : goal.returns
returns g c = record { rule = hosts_keep_their_groups; core = lawful_hosts_keep g.H.HostLogic.rule g.met.H.LawfulHost.lawful }
