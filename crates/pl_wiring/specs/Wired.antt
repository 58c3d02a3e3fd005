-- What a wiring keeps: its plan, and tables that find a link or a host by its port and a host by its name.
use Rattle.std.specs.Prelude.{◌≡◌, ◌*◌, length}
use Rattle.pl_wiring.specs.declared.wiring.Wiring.TheInside.{Inside}
use Rattle.pl_wiring.specs.Labels.{switch_count}
use Rattle.pl_wiring.specs.Plan.{Plan, IsPlan}
use Rattle.pl_wiring.specs.Tables.{FindsLinks, FindsHosts, FindsNames}

abbrev pub plan_of : Inside → Plan
plan_of w = record { k = w.k; ids = w.ids.items; links = w.links.items; hosts = w.hosts.items }

pub record IsWired (w : Inside) : Type 0 where
  pub plan : IsPlan (plan_of w)
  pub links_by_port : FindsLinks w.k w.link_at.items w.links.items
  pub hosts_by_port : FindsHosts w.k w.host_at.items w.hosts.items
  pub hosts_by_name : FindsNames w.names w.hosts.items
  pub link_room : length w.link_at.items ≡ switch_count w.k * w.k
  pub host_room : length w.host_at.items ≡ switch_count w.k * w.k
