-- What an edge switch does in a tick for its addresses that age.
use Rattle.std.specs.Prelude.{◌≡◌, ◌≤◌, ℕ, List, [], ◌∷◌, ◌++◌, map, Result, IsOk, OnOk}
use Rattle.std.specs.List.{AllByRecursion, flat_map}
use Rattle.pl_pmac.specs.declared.pmac.Pmac.{Pmac}
use Rattle.pl_node.specs.declared.acts.Act.{Act}
use Rattle.pl_node.specs.declared.acts.Act.TheVariants.{Tell}
use Rattle.pl_node.specs.declared.messages.ToManager.TheVariants.{Aged}
use Rattle.pl_node.specs.SwitchViews.{SwitchView}
use Rattle.pl_switch_rule.specs.Aging.{probe_of, ticks_to_probe}
use Rattle.pl_migrate.specs.AddressTables.{AddressTableView, granted_in}
use Rattle.pl_migrate.specs.Keeping.{IsAged, IsYoung, KeepsGrants, NothingIsDue, ticks_in}

-- the acts by which the hosts of these addresses are probed
abbrev pub probes_of : AddressTableView → List Pmac → List Act
probes_of address_table addresses = flat_map (λ x. probe_of x (granted_in address_table x)) addresses

-- The hosts of the addresses at the front whose time has come are probed, and count as asked from then on.
pub record Probes {T E : Type 0} (old new : AddressTableView) (before after : List Act) (done : Result T E) : Type 0 where
  pub due : List Pmac
  pub front : old.fresh ≡ due ++ new.fresh
  pub ripe : AllByRecursion (λ x. ticks_to_probe ≤ ticks_in old x) due
  pub young : IsYoung old ticks_to_probe new.fresh
  pub becomes : new ≡ record old { asked = old.asked ++ due; fresh = new.fresh }
  pub acts : OnOk done (after ≡ before ++ probes_of old due)

-- addresses come to rest, one after the other, until nothing is due
abbrev pub ComeToRest : AddressTableView → List (Pmac × ℕ) → AddressTableView → Type 0
ComeToRest old [] new = NothingIsDue old × (new ≡ old)
ComeToRest old (aged ∷ more) new = (between : AddressTableView) × IsAged old between aged.0 aged.1 × ComeToRest between more new

abbrev pub told_aged : Pmac × ℕ → Act
told_aged aged = Tell (Aged aged.0 aged.1)

-- and the manager is told of each, if what was to be done before was done
pub record TellsAged {T E : Type 0} (old new : AddressTableView) (before after : List Act) (first done : Result T E) : Type 0 where
  pub aged : List (Pmac × ℕ)
  pub rest : ComeToRest old aged new
  pub kept : KeepsGrants old new
  pub acts : OnOk done (IsOk first × (after ≡ before ++ map told_aged aged))
