use Rattle.std.proofs.Common.{◌∙◌, Ok, Some, ap, sym}
use Rattle.pl_switch_rule.specs.Aging.{ages}
use Rattle.pl_edge.specs.EdgeViews.{EdgeView}
use Rattle.pl_edge.proofs.AgedHere.{nothing_due, same_of_ports, still_of_ports, taken_by_table, taken_so, unplaced_ages}
use Rattle.pl_edge.proofs.Placing.{edge_of}
use Rattle.pl_edge.proofs.edge_table.EdgeTable.tick.Goals.{in-Some, in-None}
use Rattle.pl_edge.proofs.edge_table.EdgeTable.tick.Goals as goal

pub age-requires : goal.age-requires
age-requires c = nothing_due c.self.inside.k c.self.inside.address_table c.in-Some.address_table c.self.invariant.grants c.in-Some.is

pub invariant_of-self : goal.invariant_of-self
invariant_of-self c =
    let s = c.self.inside in
    let j = c.match-self.self-inside in
    elim c.match-self.branch [
      | in-Some w ↦
          same_of_ports s.k j.k (Some w.age.new.address_table) j.address_table s.remembered.items j.remembered.items
          (ap (λ t. t.k) w.self-inside-is) (ap (λ t. t.address_table) w.self-inside-is) (ap (λ t. t.remembered.items) w.self-inside-is)
          (record {
            few = c.self.invariant.few;
            sources = c.self.invariant.sources;
            grants = still_of_ports s.k s.address_table w.in-Some.address_table w.age.new.address_table c.self.invariant.grants w.in-Some.is
                w.age.ensures.kept.ports (λ caught. w.age.ensures.caught_up);
          })
      | in-None w ↦
          same_of_ports s.k j.k s.address_table j.address_table s.remembered.items j.remembered.items
          (ap (λ t. t.k) w.self-inside-is) (ap (λ t. t.address_table) w.self-inside-is) (ap (λ t. t.remembered.items) w.self-inside-is) c.self.invariant
    ]

pub returns-clause-taken : goal.returns-clause-taken
returns-clause-taken c =
    let s = c.self.inside in
    let j = c.match-self.self-inside in
    let edge = c.args.self.now in
    let out = c.args.out.now in
    elim c.match-self.branch [
      | in-Some w ↦
          taken_so ages edge (edge_of s.k (Some w.age.new.address_table) s.remembered.items s.members)
          (edge_of j.k j.address_table j.remembered.items j.members) out w.age.new.out c.match-self.out w.age.result c.match-self.result
          (ap (λ t. edge_of t.k t.address_table t.remembered.items t.members) w.self-inside-is) w.out-is w.result-is
          (taken_by_table edge s.k w.in-Some.address_table w.age.new.address_table s.remembered.items s.members
          (ap (λ o. edge_of s.k o s.remembered.items s.members) (sym w.in-Some.is) ∙ c.self.view_is)
          ages out w.age.new.out w.age.result w.age.ensures.taken)
      | in-None w ↦
          taken_so ages edge edge (edge_of j.k j.address_table j.remembered.items j.members) out out c.match-self.out (Ok tt) c.match-self.result
          (ap (λ t. edge_of t.k t.address_table t.remembered.items t.members) w.self-inside-is ∙ c.self.view_is) w.out-is w.result-is
          (unplaced_ages edge out (sym (ap (λ (e : EdgeView). e.address_table) c.self.view_is) ∙ w.in-None.is))
    ]
