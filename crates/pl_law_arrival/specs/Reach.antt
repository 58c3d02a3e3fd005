-- When a host reaches another one, and which of its frames are meant.
use Rattle.std.specs.Prelude.{◌≡◌, ℕ, false, List}
use Rattle.pl_frame.specs.Ethernet.{destination_of}
use Rattle.pl_pmac.specs.declared.pmac.Pmac.{Pmac}
use Rattle.pl_pmac.specs.Pmac.{pmac_of}
use Rattle.pl_layouts.specs.Frames.{is_takeable}
use Rattle.pl_layouts.specs.Memberships.{is_group}
use Rattle.pl_wiring.specs.declared.label.SwitchNo.{SwitchNo}
use Rattle.pl_wiring.specs.Paths.{IsLivePath}
use Rattle.pl_world.specs.Worlds.{WorldView}
use Rattle.pl_law_addresses.specs.Registered.{IsRegistered, IsRegisteredBy}
use Rattle.pl_journal.specs.Causes.{is_bad_arp}

-- both hosts are registered, the second one by this address, and a live up-down path joins the edge switches where they stand
pub record Reaches (w : WorldView) (h g : ℕ) (x : Pmac) : Type 0 where
  pub from : IsRegistered w h
  pub to : IsRegisteredBy w g x
  pub path : List SwitchNo
  pub adjacent : IsLivePath w.plan w.links from.1.attachment.edge to.attachment.edge path

-- a frame to one host, by this address, which no edge switch takes for itself or drops as an ARP frame that cannot be read
pub record IsUnicastTo (frame : List ℕ) (x : Pmac) : Type 0 where
  pub unicast : is_group (destination_of frame) ≡ false
  pub to : pmac_of (destination_of frame) ≡ x
  pub not_taken : is_takeable frame ≡ false
  pub readable : is_bad_arp frame ≡ false
