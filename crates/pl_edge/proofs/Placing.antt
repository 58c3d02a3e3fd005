-- What the address table does is done by the edge switch.
use Rattle.std.proofs.Common.{◌≡◌, ℕ, List, Option, Some, None, ◌++◌, refl, sym, ap, ◌∙◌, subst}
use Rattle.pl_frame.specs.declared.address.Ip4.{Ip4}
use Rattle.pl_frame.specs.declared.address.Mac.{Mac}
use Rattle.pl_frame.specs.Ethernet.{source_of}
use Rattle.pl_node.specs.declared.acts.Act.{Act}
use Rattle.pl_node.specs.declared.switch_records.Member.{Member}
use Rattle.pl_node.specs.declared.switch_records.Source.{Source}
use Rattle.pl_node.specs.PortRecords.{ports_of_switch}
use Rattle.pl_node.specs.SwitchViews.{SwitchView}
use Rattle.pl_steps.specs.Taken.{IsTaken, IsTakenByPart}
use Rattle.pl_switch_rule.specs.Granting.{grants_at, grants_or_learns, grants_remembered, in_use, learns_source, sender_ip}
use Rattle.pl_switch_rule.specs.Intake.{groups_told, members_become}
use Rattle.pl_migrate.specs.AddressTables.{AddressTableView, address_table_in, edge_at, empty_address_table, sources_in}
use Rattle.pl_edge.specs.EdgeViews.{EdgeView, KeepsAddressTable, KeepsEdge, edge_in, freed_by, grants_by, trapped_by, used_by}

abbrev pub edge_of : ℕ → Option AddressTableView → List (Option Source) → List Member → EdgeView
edge_of k address_table remembered members = record { k = k; address_table = address_table; remembered = remembered; members = members }

pub learnt : (edge : EdgeView) (k : ℕ) (address_table after : AddressTableView) (remembered : List (Option Source)) (members : List Member) (port : ℕ)
    (amac : Mac) (ip : Option Ip4) (frame : List ℕ) (out told : List Act) →
    edge_of k (Some address_table) remembered members ≡ edge → amac ≡ source_of frame → ip ≡ sender_ip frame →
    IsTakenByPart address_table_in (λ v. grants_or_learns v port amac ip (in_use (grants_at v port) amac)) address_table after out told → (v : SwitchView) →
    IsTaken (learns_source (edge_in edge v) port frame) (edge_in (edge_of k (Some after) remembered members) v) out told
learnt edge k address_table after remembered members port amac ip frame out told is is_amac is_ip taken v =
    let w : SwitchView = record v { remembered = remembered; members = members } in
    subst (λ (e : EdgeView). IsTaken (learns_source (edge_in e v) port frame) (edge_in (edge_of k (Some after) remembered members) v) out told) is
    (subst (λ (a : Mac). IsTaken (grants_or_learns (address_table_in address_table w) port a (sender_ip frame) (in_use (grants_at (address_table_in address_table w) port) a)) (address_table_in after w) out told) is_amac
    (subst (λ (i : Option Ip4). IsTaken (grants_or_learns (address_table_in address_table w) port amac i (in_use (grants_at (address_table_in address_table w) port) amac)) (address_table_in after w) out told) is_ip (taken w)))

pub settled : (edge : EdgeView) (pod position : ℕ) (address_table after : AddressTableView) (sources : List (Option Source)) (out told : List Act) →
    edge.address_table ≡ None → address_table ≡ empty_address_table edge.k pod position →
    ((v : SwitchView) → IsTaken (grants_remembered (ports_of_switch edge.k) (sources_in address_table edge.remembered v)) (sources_in after sources v) out told) →
    (v : SwitchView) → IsTaken (grants_remembered (ports_of_switch edge.k) (record (edge_in edge v) { place = edge_at pod position }))
    (edge_in (edge_of edge.k (Some after) sources edge.members) v) out told
settled edge pod position address_table after sources out told none is taken v =
    let w : SwitchView = record v { members = edge.members } in
    subst (λ (o : Option AddressTableView). IsTaken (grants_remembered (ports_of_switch edge.k)
    (record w {
      place = edge_at pod position;
      grants = grants_by o edge.k;
      used = used_by o;
      trapped = trapped_by o;
      freed = freed_by o edge.k;
      remembered = edge.remembered;
    })) (sources_in after sources w) out told) (sym none)
    (subst (λ (b : AddressTableView). IsTaken (grants_remembered (ports_of_switch edge.k) (sources_in b edge.remembered w)) (sources_in after sources w) out told) is (taken w))

-- The memberships become others, and what is told of them is done.
pub became : (edge : EdgeView) (k : ℕ) (address_table : Option AddressTableView) (remembered : List (Option Source)) (members after : List Member) (change : List Member → List Member)
    (out told : List Act) → edge_of k address_table remembered members ≡ edge → after ≡ change members → told ≡ out ++ groups_told members after → (v : SwitchView) →
    IsTaken (members_become (edge_in edge v) (change edge.members)) (edge_in (edge_of k address_table remembered after) v) out told
became edge k address_table remembered members after change out told is changed acts v =
    subst (λ (e : EdgeView). IsTaken (members_become (edge_in e v) (change e.members)) (edge_in (edge_of k address_table remembered after) v) out told) is
    (record {
      view = ap (λ ms. edge_in (edge_of k address_table remembered ms) v) changed;
      acts = acts ∙ ap (λ ms. out ++ groups_told members ms) changed;
    })

kept_address_table : (o : Option AddressTableView) → KeepsAddressTable o o
kept_address_table None = tt
kept_address_table (Some address_table) = (record { pod = refl; position = refl; ports = refl; grantees = λ address grantee found. found }, λ address. refl)

pub kept : (edge : EdgeView) (k : ℕ) (address_table : Option AddressTableView) (remembered sources : List (Option Source)) (members after : List Member) →
    edge_of k address_table remembered members ≡ edge → KeepsEdge edge (edge_of k address_table sources after)
kept edge k address_table remembered sources members after is =
    subst (λ (e : EdgeView). KeepsEdge e (edge_of k address_table sources after)) is (record { k = refl; address_table = kept_address_table address_table })

pub kept_same : (edge : EdgeView) → KeepsEdge edge edge
kept_same edge = record { k = refl; address_table = kept_address_table edge.address_table }
