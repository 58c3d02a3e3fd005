-- Where traps lead, by what the journal says of addresses: whether or not the fabric manager knows them.
use Rattle.std.specs.Prelude.{◌≡◌, ◌≤◌, ◌<◌, ℕ, true, List, reverse, Some, slice_get}
use Rattle.pl_pmac.specs.declared.pmac.Pmac.{Pmac}
use Rattle.pl_pmac.specs.Pmac.{PmacFits, pmac_number}
use Rattle.pl_journal.specs.declared.entry.Entry.{Entry}
use Rattle.pl_journal.specs.Places.{holder, is_live, number}
use Rattle.pl_node.specs.SwitchViews.{SwitchView}
use Rattle.pl_queues.specs.Queues.{items_at}
use Rattle.pl_world.specs.Hearing.{IsWithinHearing}
use Rattle.pl_world.specs.Worlds.{WorldView}
use Rattle.pl_law_addresses.specs.Standing.{HasTrap, IsStanding}
use Rattle.pl_law_ledger.specs.Ledgers.{IsLedger}

-- Both addresses have a number. The trap's is above the old address's, and not above the newer one's, which may have been numbered anew since.
pub record Rises (past : List Entry) (old new : Pmac) (trap : ℕ) : Type 0 where
  pub from : ℕ
  pub to : ℕ
  pub old_has : number past (pmac_number old) ≡ Some from
  pub new_has : number past (pmac_number new) ≡ Some to
  pub rises : from < trap
  pub within : trap ≤ to

-- from an address to a newer one of its host; both are live
pub record Leads (past : List Entry) (old new : Pmac) (trap : ℕ) : Type 0 where
  pub numbers : Rises past old new trap
  pub live : (is_live past (pmac_number old) ≡ true) × (is_live past (pmac_number new) ≡ true)
  pub host : holder past (pmac_number new) ≡ holder past (pmac_number old)
  pub fits : PmacFits new

-- each trap leads so that stands at its edge switch, or waits for it
abbrev pub AreLed : WorldView → Type 0
AreLed w = (s : ℕ) (v : SwitchView) (old new : Pmac) (trap : ℕ) → slice_get w.switches s ≡ Some v →
    IsStanding v (items_at w.from_manager s) old new trap → Leads (reverse w.journal) old new trap

-- That each trap which is set leads to a larger number is kept with the ledger: the fabric manager may know neither address.
pub record HoldsLedger (w : WorldView) : Type 0 where
  -- the numbers of the present epoch suffice
  pub within : IsWithinHearing w
  pub entered : IsLedger w
  pub traps : (s : ℕ) (v : SwitchView) (old new : Pmac) (trap : ℕ) → slice_get w.switches s ≡ Some v → HasTrap v old new trap →
      Rises (reverse w.journal) old new trap
