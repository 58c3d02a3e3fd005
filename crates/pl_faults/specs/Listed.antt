-- Rising lists of switches, and who told of a link to a switch.
use Rattle.std.specs.Prelude.{◌≡◌, Bool, true, List, if◌then◌else◌, fold}
use Rattle.std.specs.List.{list_any}
use Rattle.std.specs.BTreeMap.{is_at}
use Rattle.std.specs.BTreeSet.{insert_key}
use Rattle.pl_frame.specs.declared.address.SwitchId.{SwitchId}
use Rattle.pl_node.specs.ManagerViews.{Told, alive_neighbours, id_cmp, neighbours}
use Rattle.pl_node.specs.AvoidLists.{is_above}
use Rattle.pl_reports.specs.Kept.{has_told, near_of}

-- whether a switch is in a list of them
abbrev pub is_in : List SwitchId → SwitchId → Bool
is_in list s = list_any (is_at (id_cmp s)) list

-- a list with all of another one
abbrev pub with_all : List SwitchId → List SwitchId → List SwitchId
with_all list more = fold (insert_key id_cmp) list more

-- a list with all to which a switch has a link that is alive
abbrev pub with_beside : Told → List SwitchId → SwitchId → List SwitchId
with_beside told list x = with_all list (alive_neighbours told x)

-- a list with one more switch, if that one told something
abbrev pub with_told : Told → List SwitchId → SwitchId → List SwitchId
with_told told list t = if has_told told t then insert_key id_cmp list t else list

-- for each switch those that told of a link to it
abbrev pub Hearers : Type 0
Hearers = List (SwitchId × List SwitchId)

-- no link is left out
abbrev pub AreHeard : Told → Hearers → Type 0
AreHeard told hearers = (t u : SwitchId) → is_in (neighbours told t) u ≡ true → is_in (near_of hearers u) t ≡ true

-- a list with one more switch, if it is below u
abbrev pub with_lower : Told → SwitchId → List SwitchId → SwitchId → List SwitchId
with_lower told u list t = if is_above told t u then insert_key id_cmp list t else list

-- a list with all that are below u and told of a link to it
abbrev pub with_below : Told → Hearers → List SwitchId → SwitchId → List SwitchId
with_below told hearers list u = fold (with_lower told u) list (near_of hearers u)
