use Rattle.std.proofs.Common.{ap, ◌∙◌, subst, unwrap_or}
use Rattle.pl_watch.specs.Logs.{line_in, log_text, shown_entry}
use Rattle.pl_log_lines.specs.Pages.{Prints}
use Rattle.pl_watch.specs.Seen.{Kept}
use Rattle.pl_watch.proofs.chronicle.Chronicle.tell_entry.Goals as goal

pub write_entry-requires : goal.write_entry-requires
write_entry-requires g c = c.requires.named

pub returns : goal.returns
returns g c = record {
  line = c.line_after-self-inside.ensures ∙ ap (λ (k : Kept). unwrap_or (line_in c.args.entry.now) k.line) c.self.view_is;
  page = subst (λ (k : Kept). Prints k.page c.write_entry.new.page
      (log_text k.page.json c.args.wiring.now (shown_entry k.look c.line_after-self-inside.result c.args.entry.now))) c.self.view_is c.write_entry.ensures;
  kept = ap (λ (k : Kept). record k { page = c.write_entry.new.page; entries = c.args.entries; line = c.line_after-self-inside.result }) c.self.view_is
      ∙ ap (λ n. record c.args.self.now { page = c.write_entry.new.page; entries = n; line = c.line_after-self-inside.result }) c.requires.next;
}
