use Rattle.std.proofs.Common.{◌∙◌, subst, sym, ap, length, arith}
use Rattle.pl_bits.specs.Bits.{has_bit}
use Rattle.pl_bits.proofs.Exports.{length-bits_of}
use Rattle.pl_queue_array.specs.Bits.{next_marked, IsNextIndex}
use Rattle.pl_queue_array.proofs.Marks.{next_bit_is_next_mark, no_next_mark}
use Rattle.pl_queue_array.proofs.words.WordSet.next.Goals as goal

pub next_of_two_levels-requires-clause-within : goal.next_of_two_levels-requires-clause-within
next_of_two_levels-requires-clause-within c at set =
    let below = c.self.invariant.within at (ap (λ words. has_bit words at) (sym c.as_slice.ensures.value) ∙ set) in
    omega arith

pub returns-then-from-self : goal.returns-then-from-self
returns-then-from-self c =
    let many = sym (length-bits_of c.self.inside.words.items c.self.inside.len) ∙ ap length c.self.view_is in
    no_next_mark c.args.self.now c.args.from (omega arith)

pub returns : goal.returns
returns c =
    next_bit_is_next_mark c.self.inside.words.items c.self.inside.len c.args.from c.next_of_two_levels.result c.self.invariant.within
    (subst (λ words. IsNextIndex (has_bit words) c.args.from c.next_of_two_levels.result) c.as_slice.ensures.value c.next_of_two_levels.ensures)
    ∙ ap (λ marks. next_marked marks c.args.from) c.self.view_is
