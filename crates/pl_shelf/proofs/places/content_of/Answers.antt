use Rattle.std.proofs.Common.{sym, ◌∙◌, Some, None}
use Rattle.pl_shelf.proofs.Naming.{content_found}
use Rattle.pl_shelf.proofs.places.content_of.Goals as goal

pub returns-in-Some : goal.returns-in-Some
returns-in-Some c = c.content.ensures ∙ sym (content_found c.args.files.now c.args.name.now (Some c.in-Some.kept.now) c.in-Some.ensures.value)

pub returns-in-None : goal.returns-in-None
returns-in-None c = sym (content_found c.args.files.now c.args.name.now None c.in-None.ensures.value)
