-- Which addresses are in use while a step grants some: each is the last that was granted to its host at its port.
use Rattle.std.proofs.Common.{◌≡◌, ◌⊎◌, true, List, Option, Some, ◌∙◌}
use Rattle.std.specs.List.{AllByRecursion}
use Rattle.pl_frame.specs.declared.address.Mac.{Mac}
use Rattle.pl_pmac.specs.declared.pmac.Pmac.{Pmac}
use Rattle.pl_node.specs.AddressUses.{is_in_use}
use Rattle.pl_node.specs.declared.switch_records.Grant.{Grant}
use Rattle.pl_node.specs.SwitchViews.{SwitchView}
use Rattle.pl_switch_rule.specs.Granting.{granted}
use Rattle.pl_law_ledger.proofs.Giving.{Giving, IsOneOf, gives}

-- a host has an address in use
pub record IsUsedBy (granted : Pmac → Option Grant) (x : Pmac) (mac : Mac) : Type 0 where
  pub grant : Grant
  pub found : granted x ≡ Some grant
  pub used : is_in_use grant.held ≡ true
  pub to : grant.amac ≡ mac

abbrev pub IsUsedAt : SwitchView → Pmac → Mac → Type 0
IsUsedAt v x mac = IsUsedBy (λ y. granted v y) x mac

-- what is granted to this host at this port is this address
abbrev pub AreOnly : Pmac → Mac → List Giving → Type 0
AreOnly x mac gs = AllByRecursion (λ f. f.mac ≡ mac → f.pmac.port ≡ x.port → f.pmac ≡ x) gs

-- it was in use before, or is granted, and no other one is
pub record IsTheLast (v : SwitchView) (gs : List Giving) (x : Pmac) (mac : Mac) : Type 0 where
  pub only : AreOnly x mac gs
  pub from : IsUsedAt v x mac ⊎ IsOneOf gs (gives x mac)

-- an address is granted to a host that has none in use at its port, and is in use then
abbrev pub IsFirstThere : SwitchView → Giving → Type 0
IsFirstThere v f = (y : Pmac) → IsUsedAt v y f.mac → y.port ≡ f.pmac.port → ⊥

abbrev pub IsUsedThen : SwitchView → Giving → Type 0
IsUsedThen w f = IsUsedAt w f.pmac f.mac

pub same_used : (v w : SwitchView) → w.place ≡ v.place → w.grants ≡ v.grants → (x : Pmac) (mac : Mac) → IsUsedAt v x mac → IsUsedAt w x mac
same_used v w place grants x mac is = record {
  grant = is.grant;
  found = (λ i. granted (record v { place = place i; grants = grants i }) x) ∙ is.found;
  used = is.used;
  to = is.to;
}
