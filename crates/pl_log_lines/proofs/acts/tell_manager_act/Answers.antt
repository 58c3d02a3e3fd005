use Rattle.std.proofs.Common.{◌∙◌, ◌∷◌, [], ap, option_map, position, sym, subst}
use Rattle.pl_journal.specs.Text.{address_text}
use Rattle.pl_layouts.specs.Equality.{same_switch}
use Rattle.pl_wiring.specs.declared.label.SwitchNo.{SwitchNo}
use Rattle.pl_log_lines.specs.declared.kind.Kind.TheVariants as kind
use Rattle.pl_log_lines.specs.declared.row.Verb.TheVariants as verb
use Rattle.pl_log_lines.specs.Acts.{does_line, manager_act_line}
use Rattle.pl_log_lines.specs.Messages.{says_line}
use Rattle.pl_log_lines.specs.Rows.{word_text}
use Rattle.pl_log_lines.specs.Telling.{Tells, node_in}
use Rattle.pl_log_lines.proofs.acts.tell_manager_act.Goals as goal

pub returns-in-Say : goal.returns-in-Say
returns-in-Say g c =
    subst (λ b. Tells c.args.page.now c.tell_of.new.self c.args.told.now c.tell_of.new.told (b ∷ []))
    (c.says_row-row.ensures (option_map (λ (s : SwitchNo). s.0) c.switch_with.result)
    ∙ ap (λ n. says_line c.args.index.now n verb.Says (word_text c.switch.result ∷ []) c.in-Say.says) c.switch_with.ensures
    ∙ ap (λ word. says_line c.args.index.now (position (same_switch c.in-Say.to) c.args.index.now.ids) verb.Says (word ∷ []) c.in-Say.says) c.switch.ensures
    ∙ sym (ap (manager_act_line c.args.index.now (node_in c.args.told.now)) c.in-Say.is))
    c.tell_of.ensures

pub returns-in-Number : goal.returns-in-Number
returns-in-Number g c =
    subst (λ b. Tells c.args.page.now c.tell.new.self c.args.told.now c.tell.new.told (b ∷ []))
    (c.does.ensures (node_in c.args.told.now)
    ∙ ap (does_line (node_in c.args.told.now) kind.Number) (c.two-words.ensures ∙ ap (λ word. word ∷ word_text c.number.result ∷ []) c.pmac.ensures
    ∙ ap (λ word. address_text c.in-Number.granted ∷ word ∷ []) c.number.ensures)
    ∙ sym (ap (manager_act_line c.args.index.now (node_in c.args.told.now)) c.in-Number.is))
    c.tell.ensures
