use Rattle.std.proofs.Common.{◌≡◌, List, get_or, sym, ap, subst, ◌∙◌}
use Rattle.std.proofs.lemmas.List.{get_or_default}
use Rattle.pl_lists.specs.Ports.{ports_of}
use Rattle.pl_tables.specs.declared.port_rows.PortRow.{PortRow}
use Rattle.pl_tables.specs.Rows.{no_row, ports_at, RowIsAt}
use Rattle.pl_tables.proofs.Indices.{ports_found, ports_in_gap}
use Rattle.pl_tables.proofs.port_rows.PortRows.ports.Goals as goal

pub returns-in-Ok : goal.returns-in-Ok
returns-in-Ok c =
    let at : RowIsAt c.self.inside.rows.items c.args.key c.in-Ok.at = rw c.self.view_is c.in-Ok.ensures.found in
    let read = get_or_default c.self.inside.rows.items c.in-Ok.at c.index.result.now no_row at.within in
    ap (λ (row : PortRow). ports_of row.ports) (c.index.ensures ∙ read)
    ∙ sym (subst (λ (rows : List PortRow). ports_at rows c.args.key ≡ ports_of (get_or c.self.inside.rows.items c.in-Ok.at no_row).ports) c.self.view_is (ports_found c.self.inside.rows.items c.self.invariant c.args.key c.in-Ok.at at))

pub returns-in-Err : goal.returns-in-Err
returns-in-Err c = c.empty.ensures ∙ sym (ports_in_gap _ _ _ c.in-Err.ensures.absent)
