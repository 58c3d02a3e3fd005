use Rattle.std.proofs.Common.{refl, sym, ap, ◌∙◌}
use Rattle.pl_journal.specs.Text.{field_text}
use Rattle.pl_log_lines.specs.Pages.{PageView}
use Rattle.pl_log_lines.proofs.Printing.{failed_prints, piece_prints, write_failed}
use Rattle.pl_log_lines.proofs.page.Page.field.Goals as goal

pub returns-then-self : goal.returns-then-self
returns-then-self g c =
    failed_prints c.args.self.now c.args.self.now (field_text c.args.field) refl (sym (ap (λ (v : PageView). v.failed) c.self.view_is) ∙ c.if-self.true)

pub returns : goal.returns
returns g c =
    piece_prints c.args.self.now _ c.print_field-done.result (g.D.Shelf.moment c.self.inside.shelf).held (g.D.Shelf.moment c.print_field-done.new.shelf).held
    c.self.inside.piece c.print_field-done.new.self (field_text c.args.field) (sym (ap (λ (v : PageView). v.text) c.self.view_is))
    (sym (ap (λ (v : PageView). v.failed) c.self.view_is) ∙ c.if-self.false) (ap (λ (v : PageView). v.json) c.self.view_is) refl c.is_err-self-inside.ensures.value
    c.print_field-done.ensures.ok

pub invariant_of-self : goal.invariant_of-self
invariant_of-self g c = λ failed.
    write_failed c.print_field-done.result (g.D.Shelf.moment c.self.inside.shelf) (g.D.Shelf.moment c.print_field-done.new.shelf) c.print_field-done.ensures.faults
    (sym c.is_err-self-inside.ensures.value ∙ failed)
