use Rattle.std.proofs.Common.{◌∙◌, sym}
use Rattle.pl_queue_array.proofs.Left.{first_left, none_left, one_less}
use Rattle.pl_queue_array.proofs.iter.IterIterator.next.Goals as goal

pub returns-in-Some : goal.returns-in-Some
returns-in-Some g c =
    let first = sym c.self.view_is ∙ first_left c.self.inside.queue.now c.self.inside.next c.in-Some.item.now c.in-Some.ensures in
    record {
      steps = first;
      goes = record {
        on = λ finite. (tt, tt, one_less c.args.self.now _ c.in-Some.item.now first);
        keeps = tt;
        rests = λ finite. tt;
      };
    }

pub returns-in-None-clause-steps : goal.returns-in-None-clause-steps
returns-in-None-clause-steps g c =
    let none = sym c.self.view_is ∙ none_left c.self.inside.queue.now c.self.inside.next c.in-None.ensures in (none, none)
