use Rattle.std.proofs.Common.{rules, ◌∙◌, ◌∷◌, [], ap, decimal}
use Rattle.pl_log_lines.specs.declared.kind.Kind.TheVariants as kind
use Rattle.pl_log_lines.specs.Rows.{below_of}
use Rattle.pl_log_lines.specs.Telling.{node_in}
use Rattle.pl_watch.proofs.Learning.{tells_line}
use Rattle.pl_log_lines.specs.Rows.{word_text}
use Rattle.pl_watch.specs.News.{knowing, same_silence}
use Rattle.pl_watch.proofs.news.tell_silent.Goals as goal

pub returns : goal.returns
returns g c =
    tells_line c.args.page.now c.tell.new.self c.args.told.now c.tell.new.told (same_silence c.args.before c.args.after)
    (below_of (node_in c.args.told.now) c.knows.result) (knowing (node_in c.args.told.now) kind.Silent (decimal c.args.at ∷ decimal c.args.after ∷ []))
    (search rules) (c.knows.ensures (node_in c.args.told.now) ∙ ap (knowing (node_in c.args.told.now) kind.Silent) (c.two.ensures ∙ ap (λ word. word ∷ word_text c.port-2.result ∷ []) c.port.ensures ∙ ap (λ word. decimal c.args.at ∷ word ∷ []) c.port-2.ensures)) c.tell.ensures
