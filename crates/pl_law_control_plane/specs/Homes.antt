-- Where a switch knows hosts: at host ports alone.
use Rattle.std.specs.Prelude.{◌≡◌, ℕ, true, false, [], None}
use Rattle.std.specs.List.{AllByRecursion}
use Rattle.pl_node.specs.PortRecords.{port_of}
use Rattle.pl_node.specs.SwitchViews.{SwitchView}
use Rattle.pl_switch_rule.specs.Granting.{grants_at, remembered_at}

-- addresses are granted, sources remembered and members known there alone
pub record HasHomes (v : SwitchView) : Type 0 where
  pub grants : (p : ℕ) → (port_of v p).host ≡ false → grants_at v p ≡ []
  pub remembered : (p : ℕ) → (port_of v p).host ≡ false → remembered_at v p ≡ None
  pub members : AllByRecursion (λ m. (port_of v m.port).host ≡ true) v.members
