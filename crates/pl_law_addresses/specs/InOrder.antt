-- What edge switches granted is in order in a world.
use Rattle.std.specs.Prelude.{◌≡◌, ℕ, Some, slice_get}
use Rattle.pl_node.specs.SwitchViews.{SwitchView}
use Rattle.pl_world.specs.Worlds.{WorldView}
use Rattle.pl_law_addresses.specs.EdgeAddresses.{IsGoodAddressTable}
use Rattle.pl_law_addresses.specs.GrantedOnce.{AreGrantedOnce}
use Rattle.pl_law_addresses.specs.OwnAddresses.{own_ip}
use Rattle.pl_law_addresses.specs.OwnFrames.{HostsAreOwn}

-- So are the lists of each switch, hosts hold and send frames of their own, and no address was granted again before it was freed.
pub record GrantsAreInOrder (w : WorldView) : Type 0 where
  pub tables : (s : ℕ) (v : SwitchView) → slice_get w.switches s ≡ Some v → IsGoodAddressTable (λ mac. own_ip w.plan mac) v
  pub own : HostsAreOwn w
  pub once : AreGrantedOnce w.switches w.journal
