use Rattle.std.proofs.Common.{◌<◌, length, Err, sym, ap, ◌∙◌, arith}
use Rattle.std.proofs.lemmas.Result.{err_from_is_err_and}
use Rattle.pl_topology.proofs.FoundLemmas.{FindsLinkEntries-push, link_entry-fresh}
use Rattle.pl_topology.proofs.RefusalLemmas.{ReadingGives-refused, all_beside-next, all_beside-refused}
use Rattle.pl_topology.specs.Entries.{link_entry}
use Rattle.pl_topology.proofs.link_tables.read_links.Goals as goal

pub returns-in_err-entry-clause-exact : goal.returns-in_err-entry-clause-exact
returns-in_err-entry-clause-exact c =
    let p = err_from_is_err_and c.from_residual.result c.from_residual.ensures.1 in
    let read = sym (c.read_link.ensures c.loop-table.entries.items c.loop-table.invariant.found) ∙ c.in_err-entry.was in
    let within : c.loop-table.table-index < length c.args.tables.now = omega arith in
    ReadingGives-refused (λ l. l.entries.items) c.from_residual.result p.0 _ p.1 (sym c.loop-table.invariant.read
    ∙ all_beside-refused (link_entry c.args.k) c.loop-table.entries.items c.args.tables.now c.loop-table.table-index c.table-item.result p.0 within c.table-item.is
    (read ∙ ap (λ e. Err e) (sym p.2)))

pub loop-table-preserved : goal.loop-table-preserved
loop-table-preserved c =
    let read = sym (c.read_link.ensures c.loop-table.entries.items c.loop-table.invariant.found) ∙ c.in_ok-entry.was in
    let fresh = link_entry-fresh c.args.k c.loop-table.entries.items _ c.in_ok-entry.entry read in
    let within : c.loop-table.table-index < length c.args.tables.now = omega arith in
    record {
      read = rw c.in_ok-push.ensures.items (all_beside-next (link_entry c.args.k) c.loop-table.entries.items c.args.tables.now c.loop-table.table-index c.table-item.result
          c.in_ok-entry.entry within c.table-item.is read ∙ c.loop-table.invariant.read);
      found = rw c.in_ok-push.ensures.items (FindsLinkEntries-push c.loop-table.by_ends c.insert.new.self c.loop-table.entries.items c.in_ok-entry.entry c.ends.result c.ends.ensures c.loop-table.invariant.found fresh c.in_ok-insert.ensures.updates);
    }
