use Rattle.std.proofs.Common.{◌∙◌}
use Rattle.pl_watch_run.proofs.Asking.{any_json}
use Rattle.pl_watch_run.proofs.words.has_json.Goals as goal

pub returns : goal.returns
returns c = c.contains.ensures.value ∙ any_json c.args.words.now
