-- What the address table does at a tick, and for a release, is done by the edge switch.
use Rattle.std.proofs.Common.{◌≡◌, ℕ, zero, suc, List, [], ◌∷◌, ◌++◌, length, map, replicate, Option, Some, None, Result, Ok, Err, OnOk, refl, sym, ap, ◌∙◌, subst}
use Rattle.std.proofs.lemmas.List.{append-nil}
use Rattle.pl_pmac.specs.declared.pmac.Pmac.{Pmac}
use Rattle.pl_node.specs.declared.acts.Act.{Act}
use Rattle.pl_node.specs.declared.switch_records.Member.{Member}
use Rattle.pl_node.specs.declared.switch_records.Source.{Source}
use Rattle.pl_node.specs.SwitchViews.{SwitchView}
use Rattle.pl_steps.specs.Steps.{SwitchStep, rests}
use Rattle.pl_steps.specs.Taken.{IsTaken, IsTakenByPart}
use Rattle.pl_switch_rule.specs.Aging.{ages, all_age_out, older_grant}
use Rattle.pl_switch_rule.specs.Granting.{granted}
use Rattle.pl_switch_rule.specs.Messages.{frees}
use Rattle.pl_migrate.specs.AddressTables.{AddressTableView, address_table_in}
use Rattle.pl_migrate.specs.Keeping.{IsCaughtUp}
use Rattle.pl_edge.specs.EdgeViews.{EdgeView, HasGrantsOfPorts, IsOfPorts, edge_in}
use Rattle.pl_lemmas.proofs.Exports.{replicated_empty}
use Rattle.pl_switch_rule.proofs.Exports.{none_granted}
use Rattle.pl_edge.proofs.Placing.{edge_of}

module _ (edge : EdgeView) (k : ℕ) (address_table after : AddressTableView) (remembered : List (Option Source)) (members : List Member)
    (is : edge_of k (Some address_table) remembered members ≡ edge) where
  -- a part that the address table takes is a part that the switch takes
  pub taken_by_table : {E : Type 0} {T : Type 0} (row : SwitchView → SwitchStep) (out told : List Act) (result : Result T E) →
      OnOk result (IsTakenByPart address_table_in row address_table after out told) →
      OnOk result ((v : SwitchView) → IsTaken (row (edge_in edge v)) (edge_in (edge_of k (Some after) remembered members) v) out told)
  taken_by_table row out told (Err e) h = h
  taken_by_table row out told (Ok x) h = λ v.
      subst (λ (e : EdgeView). IsTaken (row (edge_in e v)) (edge_in (edge_of k (Some after) remembered members) v) out told) is
      (h (record v { remembered = remembered; members = members }))

-- What is taken on the way into a join is taken.
pub taken_so : {T E : Type 0} (row : SwitchView → SwitchStep) (edge after new : EdgeView) (out told said : List Act) (result joined : Result T E) →
    new ≡ after → said ≡ told → joined ≡ result →
    OnOk result ((v : SwitchView) → IsTaken (row (edge_in edge v)) (edge_in after v) out told) →
    OnOk joined ((v : SwitchView) → IsTaken (row (edge_in edge v)) (edge_in new v) out said)
taken_so {T} {E} row edge after new out told said result joined same_edge same_acts same_result taken =
    subst (λ (r : Result T E). OnOk r ((v : SwitchView) → IsTaken (row (edge_in edge v)) (edge_in new v) out said)) (sym same_result)
    (subst (λ (acts : List Act). OnOk result ((v : SwitchView) → IsTaken (row (edge_in edge v)) (edge_in new v) out acts)) (sym same_acts)
    (subst (λ (e : EdgeView). OnOk result ((v : SwitchView) → IsTaken (row (edge_in edge v)) (edge_in e v) out told)) (sym same_edge) taken))

-- Where nothing was granted, nothing ages.

none_older : (k : ℕ) → map (map older_grant) (replicate k []) ≡ replicate k []
none_older zero = refl
none_older (suc k) = ap (λ gs. [] ∷ gs) (none_older k)

nothing_ages : (k : ℕ) (v : SwitchView) → ages (record v { grants = replicate k []; used = []; trapped = [] })
    ≡ rests (record v { grants = replicate k []; used = []; trapped = [] })
unfolding all_age_out
nothing_ages k v = ap (λ gs. rests (record v { grants = gs; used = []; trapped = [] })) (none_older k)

pub unplaced_ages : (edge : EdgeView) (out : List Act) → edge.address_table ≡ None → (v : SwitchView) → IsTaken (ages (edge_in edge v)) (edge_in edge v) out out
unplaced_ages edge out none v =
    let bare : EdgeView = record edge { address_table = None } in
    let w : SwitchView = edge_in bare v in
    let same : bare ≡ edge = ap (λ o. record edge { address_table = o }) (sym none) in
    subst (λ (e : EdgeView). IsTaken (ages (edge_in e v)) (edge_in e v) out out) same
    (record {
      view = sym (ap (λ (s : SwitchStep). s.view) (nothing_ages edge.k w));
      acts = sym (append-nil out) ∙ sym (ap (λ (s : SwitchStep). out ++ s.acts) (nothing_ages edge.k w));
    })

pub unplaced_frees : (edge : EdgeView) (pmac : Pmac) (out : List Act) → edge.address_table ≡ None → (v : SwitchView) →
    IsTaken (frees (edge_in edge v) pmac (granted (edge_in edge v) pmac)) (edge_in edge v) out out
unplaced_frees edge pmac out none v =
    let bare : EdgeView = record edge { address_table = None } in
    let w : SwitchView = edge_in bare v in
    let same : bare ≡ edge = ap (λ o. record edge { address_table = o }) (sym none) in
    subst (λ (e : EdgeView). IsTaken (frees (edge_in e v) pmac (granted (edge_in e v) pmac)) (edge_in e v) out out) same
    (subst (λ o. IsTaken (frees w pmac o) w out out) (sym (none_granted w pmac (replicated_empty edge.k pmac.port)))
    (record { view = refl; acts = sym (append-nil out) }))

-- An address table that changes still has the grants of each port, and nothing in it is due.
pub still_of_ports : (k : ℕ) (o : Option AddressTableView) (old new : AddressTableView) → HasGrantsOfPorts o k → o ≡ Some old →
    length new.grants ≡ length old.grants →
    (IsCaughtUp old → IsCaughtUp new) → HasGrantsOfPorts (Some new) k
still_of_ports k o old new has is same up =
    let now = subst (λ (p : Option AddressTableView). HasGrantsOfPorts p k) is has in (same ∙ now.0, up now.1)

pub nothing_due : (k : ℕ) (o : Option AddressTableView) (old : AddressTableView) → HasGrantsOfPorts o k → o ≡ Some old → IsCaughtUp old
nothing_due k o old has is = (subst (λ (p : Option AddressTableView). HasGrantsOfPorts p k) is has).1

-- the same where a join says what it is by now
pub same_of_ports : (k l : ℕ) (o p : Option AddressTableView) (sources kept : List (Option Source)) → l ≡ k → p ≡ o → kept ≡ sources →
    IsOfPorts k o sources → IsOfPorts l p kept
same_of_ports k l o p sources kept same_k same_table same_sources is =
    subst (λ n. IsOfPorts n p kept) (sym same_k)
    (subst (λ (q : Option AddressTableView). IsOfPorts k q kept) (sym same_table)
    (subst (λ (rs : List (Option Source)). IsOfPorts k o rs) (sym same_sources) is))
