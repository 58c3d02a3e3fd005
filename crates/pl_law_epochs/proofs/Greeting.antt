-- A switch hears that the manager began anew, and tells all that the manager has to know of its addresses.
use Rattle.std.proofs.Common.{◌≡◌, ℕ, false, List, [], ◌∷◌, ◌++◌, Option, refl, sym, ap, subst, inr}
use Rattle.std.proofs.lemmas.Bool.{false≢true}
use Rattle.pl_frame.specs.declared.address.Ip4.{Ip4}
use Rattle.pl_frame.specs.declared.address.Mac.{Mac}
use Rattle.pl_frame.specs.declared.address.SwitchId.{SwitchId}
use Rattle.pl_node.specs.declared.messages.ToManager.{ToManager}
use Rattle.pl_node.specs.declared.messages.ToSwitch.TheVariants as say
use Rattle.pl_node.specs.SwitchViews.{SwitchView}
use Rattle.pl_switch_rule.specs.Reporting.{each_told, hears_hello, report_for}
use Rattle.pl_law_addresses.specs.EdgeAddresses.{Edge, edge_of}
use Rattle.pl_law_addresses.proofs.Exports.{table_alike, told_by}
use Rattle.pl_law_epochs.specs.Edges.{Registry, tenure_at}
use Rattle.pl_law_epochs.specs.Situations.{IsIn}
use Rattle.pl_law_epochs.proofs.Lives.{greeted}
use Rattle.pl_law_epochs.proofs.Reported.{report_good, report_said}
use Rattle.pl_law_epochs.proofs.ReportedIps.{ip_reported}
use Rattle.pl_law_epochs.proofs.Rows.{Good}

each_told_by : (words : List ToManager) → told_by (each_told words) ≡ words
each_told_by [] = refl
each_told_by (w ∷ words) = ap (λ ws. w ∷ ws) (each_told_by words)

pub hello_good : (own : Mac → Option Ip4) (r : Registry) (id : Option SwitchId) (v : SwitchView) (said epoch : ℕ) → Good own r id (say.Hello said ∷ []) v [] →
    Good own r id [] (hears_hello v epoch).view ([] ++ told_by (hears_hello v epoch).acts)
hello_good own r id v said epoch good =
    let after : SwitchView = (hears_hello v epoch).view in
    let words = report_for epoch v in
    let table = good.address_table in
    let e : Edge = edge_of id v [] (say.Hello said ∷ []) in
    subst (λ (ws : List ToManager). Good own r id [] after ws) (sym (each_told_by words)) (record {
      edge = record {
        placed = good.edge.placed;
        grants = λ x g is. let it = good.edge.grants x g is in record {
          own_ip = it.own_ip;
          told_ip = λ loud used ip has. inr (ip_reported v table.many x g is used ip has epoch);
          trap_ip = it.trap_ip;
        };
        situations = λ x at.
            let here = greeted r.later (tenure_at r e x) (good.edge.situations x at) refl in
            subst (λ d. IsIn r.later (record (tenure_at r e x) { due = d; orders = []; silent = false })) (sym (report_said v table.many x at epoch)) here;
        words = report_good own v table (λ x g is. (good.edge.grants x g is).own_ip) epoch;
        orders = tt;
        unheard = λ is. absurd (false≢true is);
        tellers = good.edge.tellers;
        here = good.edge.here;
      };
      address_table = table_alike own v after refl refl refl refl refl table;
    })
