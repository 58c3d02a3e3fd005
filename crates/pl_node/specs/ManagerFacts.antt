-- What is asked of the fabric manager from outside, by what it knows.
use Rattle.std.specs.Prelude.{ℕ, ◌+◌, ◌*◌, ◌/◌, ◌<◌, ◌≤◌, List, ◌∷◌, length, map, Option, slice_get}
use Rattle.std.specs.BTreeSet.{insert_key}
use Rattle.std.specs.Option.{option_map}
use Rattle.std.specs.Ordering.{nat_cmp}
use Rattle.pl_frame.specs.declared.address.Mac.{Mac}
use Rattle.pl_frame.specs.declared.address.SwitchId.{SwitchId}
use Rattle.pl_pmac.specs.declared.pmac.Pmac.{Pmac}
use Rattle.pl_layouts.specs.Memberships.{flood}
use Rattle.pl_node.specs.ManagerDuties.{load, with_number}
use Rattle.pl_node.specs.ManagerViews.{Learnt, ManagerView, Members, id_cmp, in_order, newest, numbers_before, speakers}

-- the switches that were heard, by rising id
abbrev pub heard : ManagerView → List SwitchId
heard view = in_order id_cmp (speakers view)

-- the edge, aggregation and core switches of a tree
abbrev pub switch_count : ℕ → ℕ
switch_count k = 5 * k * k / 4

-- With this switch no more were heard than a tree has, and its epoch has a number for one more address than those that are learnt and kept.
pub record CanHear (view : ManagerView) (s : SwitchId) : Type 0 where
  pub switches : length (insert_key id_cmp (heard view) s) ≤ switch_count view.k
  pub addresses : load view + 1 < numbers_before (view.epoch + 1)

-- the newest address of an actual address, and its registration number
abbrev pub newest_and_number : Learnt → Mac → Option (Pmac × ℕ)
newest_and_number learnt amac = option_map with_number (newest learnt amac)

-- floods, and the groups of which a switch told whether it has members, rising
abbrev pub groups : Members → List ℕ
groups members = in_order nat_cmp (flood ∷ map (λ m. m.0.1) members)

-- group number n, rising, of floods and the groups of which members were told
abbrev pub group_at : ManagerView → ℕ → Option ℕ
group_at view n = slice_get (groups view.members) n
