use Rattle.std.proofs.Common.{◌≡◌, ◌<◌, ◌∙◌, length, refl, subst, sym}
use Rattle.pl_migrate.proofs.Moving.{moved, none_there, still_there}
use Rattle.pl_migrate.proofs.orders.move_to.Goals as goal

pub put_back-requires-clause-list : goal.put_back-requires-clause-list
put_back-requires-clause-list c =
    still_there c.args.orders.now c.unlink.new.self c.args.from c.args.to c.args.key c.in-Some.pmac (c.in-Some.ensures.left) c.requires.to

pub unreachable-requires : goal.unreachable-requires
unreachable-requires c = none_there c.args.orders.now c.args.from c.args.key c.requires.there (sym c.unlink.ensures.item ∙ c.in-None.is)

pub returns : goal.returns
returns c = λ pmac there.
    moved c.args.orders.now c.unlink.new.self c.put_back.new.orders c.args.from c.args.key c.args.to c.put_back.result pmac c.in-Some.pmac
    there (sym c.unlink.ensures.item ∙ c.in-Some.is) c.in-Some.ensures.left c.put_back.ensures.put c.put_back.ensures.free
