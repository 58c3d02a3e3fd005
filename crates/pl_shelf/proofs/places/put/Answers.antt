use Rattle.std.proofs.Common.{ap, ◌∙◌}
use Rattle.std.specs.String.{string_bytes}
use Rattle.std.specs.FinMap.{insert}
use Rattle.pl_shelf.specs.MemoryShelf.{places_of}
use Rattle.pl_shelf.proofs.Naming.{places_of-updates}
use Rattle.pl_shelf.proofs.places.put.Goals as goal

pub returns-clause-ok : goal.returns-clause-ok
returns-clause-ok c =
    places_of-updates c.args.files.now c.insert.new.self (string_bytes c.in_ok-from_str.field-0) c.args.kept c.in_ok-insert.ensures.updates
    ∙ ap (λ name. insert (places_of c.args.files.now) name c.args.kept) c.in_ok-from_str.ensures.ok
