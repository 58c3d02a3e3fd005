-- What a switch knows.
use Rattle.std.specs.Prelude.{ℕ, List, Option}
use Rattle.pl_frame.specs.declared.address.SwitchId.{SwitchId}
use Rattle.pl_pmac.specs.declared.pmac.Pmac.{Pmac}
use Rattle.pl_node.specs.declared.messages.TreePart.{TreePart}
use Rattle.pl_node.specs.declared.neighbour.PortRecord.{PortRecord}
use Rattle.pl_layouts.specs.declared.place.Place.{Place}
use Rattle.pl_node.specs.declared.switch_records.Grant.{Grant}
use Rattle.pl_node.specs.declared.switch_records.Hold.{Hold}
use Rattle.pl_node.specs.declared.switch_records.Member.{Member}
use Rattle.pl_node.specs.declared.switch_records.Source.{Source}

pub record SwitchView : Type 0 where
  pub id : SwitchId
  pub k : ℕ
  pub place : Place
  -- one for each port
  pub ports : List PortRecord
  -- the present attempt to get a position, the position that it proposes, and the ports from which it was granted, rising
  pub attempt : ℕ
  pub proposed : ℕ
  pub granted : List ℕ
  -- one for each position
  pub holds : List (Option Hold)
  -- for each port the addresses that were granted there, in the order of their vmids, which begin at 1
  pub grants : List (List Grant)
  -- the addresses in use, and those for which a trap stands: the one that was used last, or whose trap was set last, behind all others
  pub used : List Pmac
  pub trapped : List Pmac
  -- for each port the vmids of its free addresses, the one that was freed last behind all others
  pub freed : List (List ℕ)
  -- one for each port
  pub remembered : List (Option Source)
  -- rising by group, port and address
  pub members : List Member
  -- rising
  pub avoid : List (SwitchId × ℕ × ℕ)
  -- by group, rising
  pub parts : List (ℕ × TreePart)
  -- how often the fabric manager began anew, as far as this switch heard
  pub epoch : ℕ
