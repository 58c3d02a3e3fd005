-- What neighbours are told and asked.
use Rattle.std.specs.Prelude.{List, map}
use Rattle.pl_node.specs.declared.acts.Act.{Act}
use Rattle.pl_node.specs.declared.acts.Act.TheVariants.{Control}
use Rattle.pl_node.specs.Announcements.{announcement}
use Rattle.pl_node.specs.PortRecords.{ports_where}
use Rattle.pl_node.specs.SwitchViews.{SwitchView}
use Rattle.pl_switch_rule.specs.Announcing.{announces_at, proposal, proposes_at}

-- a message out of each port that is no host port
abbrev pub announced : SwitchView → List Act
announced v = map (λ port. Control port (announcement v port)) (ports_where v (announces_at v))

-- a proposal out of each port that is to be asked
abbrev pub proposed : SwitchView → List Act
proposed v = map (λ port. Control port (proposal v)) (ports_where v (proposes_at v))
