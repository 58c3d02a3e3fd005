-- A report tells the IPv4 address of each address in use that has one.
use Rattle.std.proofs.Common.{◌≡◌, ◌≤◌, ◌<◌, ℕ, zero, suc, ◌+◌, ◌&&◌, ◌||◌, Bool, true, false, List, [], ◌∷◌, ◌++◌, length, Option, Some, is_some, slice_get, refl, sym, ap, subst, ◌∙◌, inl, inr, arith}
use Rattle.std.specs.List.{flat_map, list_any, range_with_len}
use Rattle.std.proofs.lemmas.Bool.{cases_eq, false≢true}
use Rattle.std.proofs.lemmas.Option.{none-some, same_Some}
use Rattle.pl_frame.specs.declared.address.Ip4.{Ip4}
use Rattle.pl_pmac.specs.declared.pmac.Pmac.{Pmac}
use Rattle.pl_layouts.specs.Equality.{same_pmac}
use Rattle.pl_layouts.proofs.Exports.{pmac_itself}
use Rattle.pl_node.specs.AddressUses.{is_in_use}
use Rattle.pl_node.specs.declared.address_use.AddressUse.{AddressUse}
use Rattle.pl_node.specs.declared.address_use.AddressUse.TheVariants.{Free, InUse, Resting, Trapped}
use Rattle.pl_node.specs.declared.messages.ToManager.{ToManager}
use Rattle.pl_node.specs.declared.messages.ToManager.TheVariants as tell
use Rattle.pl_node.specs.declared.switch_records.Grant.{Grant}
use Rattle.pl_node.specs.SwitchViews.{SwitchView}
use Rattle.pl_switch_rule.specs.Granting.{address_at_port, grant_number, granted, grants_at, is_local}
use Rattle.pl_switch_rule.specs.Reporting.{addresses_reported, each_from, each_grant, members_reported, own_reported, report, report_for, rest_reported, trap_reported, use_reported}
use Rattle.pl_switch_rule.proofs.Exports.{granted_parts}
use Rattle.pl_law_addresses.specs.EdgeAddresses.{tells_ip}
use Rattle.pl_law_addresses.proofs.Exports.{any_before, any_behind, granted_within, number_one_more}
use Rattle.pl_law_epochs.proofs.Reported.{local_address}

module _ (p : ToManager → Bool) (v : SwitchView) (says : Pmac → Grant → List ToManager) where
  abbrev of_port : ℕ → List ToManager
  of_port port = each_from (λ vmid g. says (address_at_port v port vmid) g) 1 (grants_at v port)

  -- what is said of one of the grants is said
  said_from : (port n i : ℕ) (grants : List Grant) (g : Grant) → slice_get grants i ≡ Some g → list_any p (says (address_at_port v port (n + i)) g) ≡ true →
      list_any p (each_from (λ vmid h. says (address_at_port v port vmid) h) n grants) ≡ true
  said_from port n zero [] g is said = absurd (none-some g is)
  said_from port n (suc i) [] g is said = absurd (none-some g is)
  said_from port n zero (h ∷ grants) g is said =
      let at : n + 0 ≡ n = omega arith in
      any_before p (says (address_at_port v port n) h) (each_from (λ vmid k. says (address_at_port v port vmid) k) (n + 1) grants)
      (subst (λ (k : Grant). list_any p (says (address_at_port v port n) k) ≡ true) (sym (same_Some h g is)) (subst (λ m. list_any p (says (address_at_port v port m) g) ≡ true) at said))
  said_from port n (suc i) (h ∷ grants) g is said =
      let at : n + suc i ≡ n + 1 + i = omega arith in
      any_behind p (says (address_at_port v port n) h) (each_from (λ vmid k. says (address_at_port v port vmid) k) (n + 1) grants)
      (said_from port (n + 1) i grants g is (subst (λ m. list_any p (says (address_at_port v port m) g) ≡ true) at said))

  said_in : (n a port : ℕ) → a ≤ port → port < a + n → list_any p (of_port port) ≡ true → list_any p (flat_map of_port (range_with_len a n)) ≡ true
  said_in zero a port low high said = absurd (omega (arith, low, high))
  said_in (suc n) a port low high said = elim (cases_eq a port) [
    | inl here ↦ any_before p (of_port a) (flat_map of_port (range_with_len (a + 1) n)) (subst (λ q. list_any p (of_port q) ≡ true) (sym here) said)
    | inr other ↦ any_behind p (of_port a) (flat_map of_port (range_with_len (a + 1) n)) (said_in n (a + 1) port (omega (arith, low, other)) (omega (arith, high)) said)
  ]

  pub said_of : length v.grants ≡ v.k → (x : Pmac) (g : Grant) → granted v x ≡ Some g → list_any p (says x g) ≡ true → list_any p (each_grant says v) ≡ true
  said_of many x g is said =
      let parts = granted_parts v x g is in
      by x.vmid refl parts.0 parts.1
    where
      by : (n : ℕ) → x.vmid ≡ n → is_local v x ≡ true → grant_number (grants_at v x.port) x.vmid ≡ Some g → list_any p (each_grant says v) ≡ true
      by zero at local found = absurd (none-some g (sym (ap (grant_number (grants_at v x.port)) at) ∙ found))
      by (suc i) at local found =
          let there : slice_get (grants_at v x.port) i ≡ Some g = sym (number_one_more (grants_at v x.port) i) ∙ sym (ap (grant_number (grants_at v x.port)) at) ∙ found in
          let next : 1 + i ≡ x.vmid = omega (arith, at) in
          let name : address_at_port v x.port (1 + i) ≡ x = ap (address_at_port v x.port) next ∙ local_address v x local in
          said_in v.k 0 x.port (omega arith) (let within = granted_within v x g is many in omega (arith, within))
          (said_from x.port 1 i (grants_at v x.port) g there (subst (λ (y : Pmac). list_any p (says y g) ≡ true) (sym name) said))

module _ (v : SwitchView) (many : length v.grants ≡ v.k) (x : Pmac) (g : Grant) (is : granted v x ≡ Some g) where
  use_tells : (held : AddressUse) → is_in_use held ≡ true → (ip : Ip4) → g.ip ≡ Some ip → list_any (tells_ip x) (use_reported x g held) ≡ true
  use_tells (InUse idle) used ip has = ap (λ (o : Option Ip4). (is_some o && same_pmac x x) || false) has ∙ ap (λ b. b || false) (pmac_itself x)
  use_tells (Trapped trap age) used ip has = absurd (false≢true used)
  use_tells (Resting number) used ip has = absurd (false≢true used)
  use_tells Free used ip has = absurd (false≢true used)

  pub ip_reported : is_in_use g.held ≡ true → (ip : Ip4) → g.ip ≡ Some ip → (epoch : ℕ) → list_any (tells_ip x) (report_for epoch v) ≡ true
  ip_reported used ip has epoch =
      let p = tells_ip x in
      let uses = each_grant (λ y h. use_reported y h h.held) v in
      let traps = each_grant (λ y h. trap_reported y h.held) v in
      let rests = each_grant (λ y h. rest_reported y h.held) v in
      any_before p (report v) (tell.End epoch ∷ [])
      (any_behind p (own_reported v) (addresses_reported v ++ members_reported v)
      (any_before p (addresses_reported v) (members_reported v)
      (any_before p uses (traps ++ rests) (said_of p v (λ y h. use_reported y h h.held) many x g is (use_tells g.held used ip has)))))
