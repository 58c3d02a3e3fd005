-- What becomes of a switch when what one of its addresses is used for changes.
use Rattle.std.specs.Prelude.{◌≡◌, ℕ, ◌⊎◌, true, false, Bool, Option, Some, None, is_some}
use Rattle.pl_pmac.specs.declared.pmac.Pmac.{Pmac}
use Rattle.pl_node.specs.AddressUses.{is_held, is_in_use, standing_trap}
use Rattle.pl_node.specs.declared.address_use.AddressUse.{AddressUse}
use Rattle.pl_node.specs.declared.address_use.AddressUse.TheVariants as as_used
use Rattle.pl_node.specs.declared.switch_records.Grant.{Grant}
use Rattle.pl_node.specs.SwitchViews.{SwitchView}
use Rattle.pl_switch_rule.specs.Aging.{comes_to_rest}
use Rattle.pl_switch_rule.specs.Granting.{uses}
use Rattle.pl_switch_rule.specs.Messages.{becomes_free, with_trap}
use Rattle.pl_migrate.specs.declared.tenancy.Standing.{Standing}
use Rattle.pl_migrate.specs.declared.tenancy.Standing.TheVariants.{Fresh, Asked, Trapped, Resting, Free}

abbrev pub is_resting : AddressUse → Bool
is_resting (as_used.InUse idle) = false
is_resting (as_used.Trapped trap age) = false
is_resting (as_used.Resting number) = true
is_resting as_used.Free = false

-- the number of the trap behind which an address ages
abbrev pub number_behind : Standing → ℕ
number_behind Fresh = 0
number_behind Asked = 0
number_behind (Trapped trap) = trap.number
number_behind (Resting number) = 0
number_behind Free = 0

-- what may follow what: a host uses again what it has in use, a trap is set for what is somebody's, what is in use or has a trap comes to rest, and what
-- rests becomes free
abbrev pub CanStandAs : Standing → Grant → Type 0
CanStandAs Fresh grant = is_in_use grant.held ≡ true
CanStandAs Asked grant = ⊥
CanStandAs (Trapped trap) grant = is_held grant.held ≡ true
CanStandAs (Resting number) grant = (is_in_use grant.held ≡ true) ⊎ (is_some (standing_trap grant.held) ≡ true)
CanStandAs Free grant = is_resting grant.held ≡ true

abbrev pub CanStandSo : Standing → Option Grant → Type 0
CanStandSo standing None = ⊥
CanStandSo standing (Some grant) = CanStandAs standing grant

abbrev pub stands_as : Standing → SwitchView → Pmac → Grant → SwitchView
stands_as Fresh v address grant = uses v address grant
stands_as Asked v address grant = v
stands_as (Trapped trap) v address grant = with_trap v address grant trap
stands_as (Resting number) v address grant = (comes_to_rest v address grant number).view
stands_as Free v address grant = becomes_free v address grant

abbrev pub stands_so : Standing → SwitchView → Pmac → Option Grant → SwitchView
stands_so standing v address None = v
stands_so standing v address (Some grant) = stands_as standing v address grant
