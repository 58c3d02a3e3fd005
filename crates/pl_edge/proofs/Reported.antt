-- An edge switch that is not placed has granted no address, so it tells of none.
use Rattle.std.proofs.Common.{◌≡◌, ℕ, List, [], ◌∷◌, ◌++◌, replicate, Some, None, Result, Ok, Err, OnOk, refl, ap, sym, subst, ◌∙◌}
use Rattle.std.specs.List.{flat_map}
use Rattle.std.proofs.lemmas.List.{append-nil}
use Rattle.pl_lemmas.proofs.Exports.{replicated_empty}
use Rattle.pl_pmac.specs.declared.pmac.Pmac.{Pmac}
use Rattle.pl_node.specs.declared.acts.Act.{Act}
use Rattle.pl_node.specs.declared.messages.ToManager.{ToManager}
use Rattle.pl_node.specs.declared.switch_records.Grant.{Grant}
use Rattle.pl_node.specs.PortRecords.{ports_of_switch}
use Rattle.pl_node.specs.SwitchViews.{SwitchView}
use Rattle.pl_switch_rule.specs.Granting.{address_at_port, grants_at}
use Rattle.pl_switch_rule.specs.Reporting.{addresses_reported, each_from, each_grant, each_told, rest_reported, trap_reported, use_reported}
use Rattle.pl_migrate.specs.AddressTables.{AddressTableView, address_table_in}
use Rattle.pl_edge.specs.EdgeViews.{EdgeView, edge_in, grants_by}

nothing_each : (f : ℕ → List ToManager) → ((port : ℕ) → f port ≡ []) → (ports : List ℕ) → flat_map f ports ≡ []
nothing_each f none [] = refl
nothing_each f none (port ∷ ports) = ap (λ words. words ++ flat_map f ports) (none port) ∙ nothing_each f none ports

none_granted : (reported : Pmac → Grant → List ToManager) (v : SwitchView) (k : ℕ) → v.grants ≡ replicate k [] → each_grant reported v ≡ []
none_granted reported v k none =
    nothing_each (λ port. each_from (λ vmid g. reported (address_at_port v port vmid) g) 1 (grants_at v port))
    (λ port. ap (λ gs. each_from (λ vmid g. reported (address_at_port v port vmid) g) 1 gs)
    (ap (λ (all : List (List Grant)). grants_at (record v { grants = all }) port) none ∙ replicated_empty k port))
    (ports_of_switch v.k)

nothing_reported : (v : SwitchView) (k : ℕ) (out : List Act) → v.grants ≡ replicate k [] → out ≡ out ++ each_told (addresses_reported v)
nothing_reported v k out none =
    sym (ap (λ words. out ++ each_told words)
    (ap (λ words. words ++ (each_grant (λ x g. trap_reported x g.held) v ++ each_grant (λ x g. rest_reported x g.held) v))
    (none_granted (λ x g. use_reported x g g.held) v k none)
    ∙ ap (λ words. words ++ each_grant (λ x g. rest_reported x g.held) v) (none_granted (λ x g. trap_reported x g.held) v k none)
    ∙ none_granted (λ x g. rest_reported x g.held) v k none)
    ∙ append-nil out)

pub none_reported : (inside edge : EdgeView) (out : List Act) → inside ≡ edge → inside.address_table ≡ None → (v : SwitchView) →
    out ≡ out ++ each_told (addresses_reported (edge_in edge v))
none_reported inside edge out is at v =
    subst (λ e. out ≡ out ++ each_told (addresses_reported (edge_in e v))) is
    (nothing_reported (edge_in inside v) inside.k out (ap (λ t. grants_by t inside.k) at))

-- one that is tells of what its address table has
pub table_reported : {T E : Type 0} (result : Result T E) (inside edge : EdgeView) (table : AddressTableView) (out told : List Act) → inside ≡ edge → inside.address_table ≡ Some table →
    OnOk result ((v : SwitchView) → v.k ≡ inside.k → told ≡ out ++ each_told (addresses_reported (address_table_in table v))) →
    OnOk result ((v : SwitchView) → v.k ≡ edge.k → told ≡ out ++ each_told (addresses_reported (edge_in edge v)))
table_reported (Err e) inside edge table out told is at tells = tells
table_reported (Ok done) inside edge table out told is at tells =
    subst (λ e. (v : SwitchView) → v.k ≡ e.k → told ≡ out ++ each_told (addresses_reported (edge_in e v))) is
    (λ v same. tells v same ∙ ap (λ t. out ++ each_told (addresses_reported (edge_in (record inside { address_table = t }) v))) (sym at))
