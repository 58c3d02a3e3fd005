use Rattle.std.proofs.Common.{◌∙◌}
use Rattle.std.proofs.lemmas.Result.{on_ok_weaker}
use Rattle.pl_generator.specs.Generated.{capture_name}
use Rattle.pl_generator.proofs.Held.{placed_as}
use Rattle.pl_generator.proofs.shelf.hold_capture.Goals as goal

pub returns-clause-held : goal.returns-clause-held
unfolding capture_name
returns-clause-held c =
    on_ok_weaker c.hold.result
    (λ is. placed_as c.args.shelf.now c.hold.new.self (capture_name c.args.host) c.args.capture.now _ _ (c.deref.ensures ∙ c.in_ok-name.ensures.ok)
    c.bytes.ensures is)
    c.hold.ensures.ok
