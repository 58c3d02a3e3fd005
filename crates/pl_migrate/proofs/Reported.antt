-- What is told of an address table is a report of its addresses.
use Rattle.std.proofs.Common.{◌≡◌, ◌≤◌, ℕ, zero, suc, ◌+◌, ◌-◌, ◌==◌, ◌&&◌, Bool, true, cond, List, [], ◌∷◌, ◌++◌, map, length, drop, Option, Some, None, Result, Ok, Err, OnOk, slice_get, refl, sym, ap, ◌∙◌, append_assoc, if◌then◌else◌, arith}
use Rattle.std.specs.List.{flat_map}
use Rattle.std.proofs.Math.ListN.{drop_of_length-le}
use Rattle.std.proofs.lemmas.Bool.{eq-eqb, ne_eqb}
use Rattle.std.proofs.lemmas.List.{append-nil, map-append}
use Rattle.pl_node.specs.declared.acts.Act.{Act}
use Rattle.pl_node.specs.declared.acts.Act.TheVariants.{Tell}
use Rattle.pl_node.specs.declared.messages.ToManager.{ToManager}
use Rattle.pl_node.specs.declared.switch_records.Grant.{Grant}
use Rattle.pl_node.specs.PortRecords.{ports_of_switch}
use Rattle.pl_node.specs.SwitchViews.{SwitchView}
use Rattle.pl_steps.specs.PortsTold.{at_each_port}
use Rattle.pl_switch_rule.specs.Reporting.{addresses_reported, each_from, each_grant, each_told}
use Rattle.pl_migrate.specs.declared.reporting.Reported.{Reported}
use Rattle.pl_migrate.specs.declared.reporting.Reported.TheVariants.{InUse, Trapped, Resting}
use Rattle.pl_migrate.specs.AddressTables.{AddressTableView, address_in, address_table_in, granted_in, grants_of}
use Rattle.pl_migrate.specs.Reports.{port_reported, reported, reported_if}

told_both : (before behind : List ToManager) → each_told (before ++ behind) ≡ each_told before ++ each_told behind
told_both before behind = map-append (λ (word : ToManager). Tell word) before behind

-- ---- one port after the other
ports_told : (f : ℕ → List ToManager) (ports : List ℕ) → flat_map (λ port. each_told (f port)) ports ≡ each_told (flat_map f ports)
ports_told f [] = refl
ports_told f (port ∷ ports) = ap (λ acts. each_told (f port) ++ acts) (ports_told f ports) ∙ sym (told_both (f port) (flat_map f ports))

pub each_port_told : {T E : Type 0} (which : Reported) (table : AddressTableView) (k : ℕ) (result : Result T E) (out told : List Act) →
    OnOk result (told ≡ out ++ at_each_port (λ port. each_told (port_reported which table port)) k) →
    OnOk result ((v : SwitchView) → v.k ≡ k → told ≡ out ++ each_told (each_grant (reported which) (address_table_in table v)))
each_port_told which table k (Err e) out told is = is
each_port_told which table k (Ok done) out told is = λ v same.
    is
    ∙ ap (λ n. out ++ at_each_port (λ port. each_told (port_reported which table port)) n) (sym same)
    ∙ ap (λ acts. out ++ acts) (ports_told (port_reported which table) (ports_of_switch v.k))

-- ---- one kind after the other
pub all_told : (table : AddressTableView) (v : SwitchView) (out used traps rests : List Act) →
    used ≡ out ++ each_told (each_grant (reported InUse) (address_table_in table v)) →
    traps ≡ used ++ each_told (each_grant (reported Trapped) (address_table_in table v)) →
    rests ≡ traps ++ each_told (each_grant (reported Resting) (address_table_in table v)) →
    rests ≡ out ++ each_told (addresses_reported (address_table_in table v))
all_told table v out used traps rests one two three =
    let a = each_grant (reported InUse) (address_table_in table v) in
    let b = each_grant (reported Trapped) (address_table_in table v) in
    let d = each_grant (reported Resting) (address_table_in table v) in
    three ∙ ap (λ acts. acts ++ each_told d) (two ∙ ap (λ acts. acts ++ each_told b) one)
    ∙ append_assoc (out ++ each_told a) (each_told b) (each_told d)
    ∙ append_assoc out (each_told a) (each_told b ++ each_told d)
    ∙ ap (λ acts. out ++ (each_told a ++ acts)) (sym (told_both b d))
    ∙ ap (λ acts. out ++ acts) (sym (told_both a (b ++ d)))

-- ---- one address of a port after the other
grant_there : (table : AddressTableView) (port n : ℕ) → granted_in table (address_in table port (n + 1)) ≡ slice_get (grants_of table port) n
grant_there table port n =
    ap (λ b. if b && (table.position == table.position) then own else None) (eq-eqb table.pod table.pod refl)
    ∙ ap (λ b. if b then own else None) (eq-eqb table.position table.position refl)
    ∙ ap (λ b. if◌then◌else◌ {A = Option Grant} b None (slice_get (grants_of table port) ((n + 1) - 1))) (ne_eqb (n + 1) 0 (λ e. absurd (omega (arith, e))))
    ∙ ap (λ m. slice_get (grants_of table port) m) back
  where
    own : Option Grant
    own = if◌then◌else◌ {A = Option Grant} ((n + 1) == 0) None (slice_get (grants_of table port) ((n + 1) - 1))

    back : (n + 1) - 1 ≡ n
    back = omega arith

abbrev told_at : (ℕ → Grant → List ToManager) → ℕ → Option Grant → List ToManager
told_at f vmid None = []
told_at f vmid (Some g) = f vmid g

next_told : (f : ℕ → Grant → List ToManager) (grants : List Grant) (n vmid : ℕ) →
    each_from f vmid (drop n grants) ≡ told_at f vmid (slice_get grants n) ++ each_from f (vmid + 1) (drop (suc n) grants)
next_told f [] zero vmid = refl
next_told f [] (suc n) vmid = refl
next_told f (g ∷ grants) zero vmid = refl
next_told f (g ∷ grants) (suc n) vmid = next_told f grants n vmid

module _ (which : Reported) (table : AddressTableView) (port : ℕ) where
  abbrev words : ℕ → Grant → List ToManager
  words vmid g = reported which (address_in table port vmid) g

  -- what is left to tell of the addresses of a port, behind so many of them
  abbrev pub left_to_tell : ℕ → List ToManager
  left_to_tell n = each_from words (n + 1) (drop n (grants_of table port))

  as_told : (o : Option Grant) (vmid : ℕ) → reported_if which (address_in table port vmid) o ≡ told_at words vmid o
  as_told None vmid = refl
  as_told (Some g) vmid = refl

  pub one_told : (out told first : List Act) (n : ℕ) →
      told ≡ out ++ each_told (reported_if which (address_in table port (n + 1)) (granted_in table (address_in table port (n + 1)))) →
      out ++ each_told (left_to_tell n) ≡ first ++ each_told (left_to_tell 0) → told ++ each_told (left_to_tell (n + 1)) ≡ first ++ each_told (left_to_tell 0)
  one_told out told first n is before =
      let here = told_at words (n + 1) (slice_get (grants_of table port) n) in
      let behind = left_to_tell (n + 1) in
      let further : n + 1 ≡ suc n = omega arith in
      let word : told ≡ out ++ each_told here =
      is ∙ ap (λ o. out ++ each_told (reported_if which (address_in table port (n + 1)) o)) (grant_there table port n)
      ∙ ap (λ ws. out ++ each_told ws) (as_told (slice_get (grants_of table port) n) (n + 1)) in
      ap (λ acts. acts ++ each_told behind) word
      ∙ append_assoc out (each_told here) (each_told behind)
      ∙ ap (λ acts. out ++ acts) (sym (told_both here behind))
      ∙ ap (λ m. out ++ each_told (here ++ each_from words (n + 1 + 1) (drop m (grants_of table port)))) further
      ∙ ap (λ ws. out ++ each_told ws) (sym (next_told words (grants_of table port) n (n + 1)))
      ∙ before

  pub port_told : (out first : List Act) (n : ℕ) → length (grants_of table port) ≤ n →
      out ++ each_told (left_to_tell n) ≡ first ++ each_told (left_to_tell 0) → out ≡ first ++ each_told (port_reported which table port)
  port_told out first n past before =
      sym (append-nil out)
      ∙ ap (λ gs. out ++ each_told (each_from words (n + 1) gs)) (sym (drop_of_length-le (grants_of table port) past))
      ∙ before
