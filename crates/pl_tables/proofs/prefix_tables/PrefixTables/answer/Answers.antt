use Rattle.std.proofs.Common.{◌&&◌, not, sym, ap, subst, ◌∙◌}
use Rattle.pl_lists.specs.Ports.{has_port}
use Rattle.pl_tables.specs.declared.asked.Asked.{Asked}
use Rattle.pl_tables.specs.Rows.{ports_at}
use Rattle.pl_tables.specs.Ways.{LeavesBy}
use Rattle.pl_tables.proofs.PortSets.{same_ports}
use Rattle.pl_tables.proofs.prefix_tables.PrefixTables.answer.Goals as goal

pub returns-in-Up : goal.returns-in-Up
returns-in-Up c =
    let row = c.ports.ensures ∙ ap (ports_at c.args.self.now.avoided) c.address_key.ensures.key in
    subst (λ (question : Asked). LeavesBy c.args.self.now question c.args.to c.without.result) (sym c.in-Up.is) (
      c.address_key.ensures.low,
      λ avoided is port low.
          c.without.ensures port low ∙ ap (λ b. has_port c.args.self.now.up port && not b) (same_ports c.ports.result avoided (row ∙ sym is) port low),
    )
