-- What the switches of a whole fabric granted, and what is needed of other parts of it.
use Rattle.std.specs.Prelude.{◌≡◌, ℕ, true, false, Contains, List, Some, slice_get}
use Rattle.pl_frame.specs.declared.address.Mac.{Mac}
use Rattle.pl_pmac.specs.declared.pmac.Pmac.{Pmac}
use Rattle.pl_wiring.specs.declared.label.SwitchNo.{SwitchNo}
use Rattle.pl_wiring.specs.declared.link.Peer.TheVariants.{Switch}
use Rattle.pl_wiring.specs.Peers.{peer_of}
use Rattle.pl_wiring.specs.Plan.{Plan}
use Rattle.pl_node.specs.HostInputs.{HostRule}
use Rattle.pl_node.specs.PortRecords.{is_open_to_hosts, port_of}
use Rattle.pl_node.specs.SwitchViews.{SwitchView}
use Rattle.pl_manager_rule.specs.WholeRule.{whole_rule}
use Rattle.pl_switch_rule.specs.Granting.{granted, is_local}
use Rattle.pl_switch_rule.specs.SwitchRule.{Loose}
use Rattle.pl_world.specs.declared.item.Item.TheVariants.{Data}
use Rattle.pl_world.specs.declared.limits.Limits.{Limits}
use Rattle.pl_world.specs.Booting.{booted}
use Rattle.pl_world.specs.Changes.{out_of}
use Rattle.pl_world.specs.Runs.{Moment, WorldRun}
use Rattle.pl_world.specs.Worlds.{WorldView}
use Rattle.pl_law_addresses.specs.EdgeAddresses.{IsHeldFor, is_live, is_settled}

-- some switch has granted it to this host, and it is not free
pub record IsGrantedBySome (switches : List SwitchView) (x : Pmac) (mac : Mac) : Type 0 where
  pub switch : ℕ
  pub view : SwitchView
  pub found : slice_get switches switch ≡ Some view
  pub granted_to : IsHeldFor (λ y. granted view y) x mac

-- it is nobody's at any switch
abbrev pub IsLiveNowhere : List SwitchView → Pmac → Type 0
IsLiveNowhere switches x = (s : ℕ) (v : SwitchView) → slice_get switches s ≡ Some v → is_live v x ≡ false

-- Of two moments, one later: what was a host's at a switch is so still, unless it was freed since, and a placed edge switch has its place still.
pub record IsStill (switches : List SwitchView) (is_kept : Pmac → Type 0) (s : ℕ) (v : SwitchView) : Type 0 where
  pub view : SwitchView
  pub found : slice_get switches s ≡ Some view
  pub keeps : (x : Pmac) (mac : Mac) → is_kept x → IsHeldFor (λ y. granted v y) x mac → IsHeldFor (λ y. granted view y) x mac
  pub place : is_settled v.place ≡ true → view.place ≡ v.place

abbrev pub StayGranted : List SwitchView → List SwitchView → (Pmac → Type 0) → Type 0
StayGranted before after is_kept = (s : ℕ) (v : SwitchView) → slice_get before s ≡ Some v → IsStill after is_kept s v

-- What other parts of the network have to give.

-- no two placed edge switches have one pod and one position
abbrev pub AreApart : List SwitchView → Type 0
AreApart switches = (s t : ℕ) (v u : SwitchView) (x : Pmac) → slice_get switches s ≡ Some v → slice_get switches t ≡ Some u →
    is_local v x ≡ true → is_local u x ≡ true → s ≡ t

-- where a data frame comes over a link, the switch has heard its neighbour there: it takes nobody's frame for a host's
abbrev pub KnowNeighbours : WorldView → Type 0
KnowNeighbours w = (s port : ℕ) (t : SwitchNo) (q id : ℕ) (frame : List ℕ) (v : SwitchView) → peer_of w.plan s port ≡ Switch t q →
    Contains (out_of w s port) (Data id frame) → slice_get w.switches t.0 ≡ Some v → is_open_to_hosts (port_of v q) ≡ false

-- both at once: votes and pods give the first, evidence gives the second
pub record IsGrounded (w : WorldView) : Type 0 where
  pub apart : AreApart w.switches
  pub neighbours : KnowNeighbours w

-- and so in every run from the beginning
abbrev pub AreGrounded : HostRule → Plan → Limits → Type 0
AreGrounded host plan limits = (moments : List Moment) (w : WorldView) → WorldRun Loose whole_rule host (booted plan limits) moments w → IsGrounded w
