use Rattle.std.proofs.Common.{◌≡◌, None, drop, length, ◌-◌}
use Rattle.std.specs.Option.{option_copied}
use Rattle.pl_inputs.specs.Met.{texts}
use Rattle.pl_inputs.specs.Words.{items_of}
use Rattle.pl_inputs.proofs.ItemLemmas.{value_with}
use Rattle.pl_inputs.proofs.words.items.Items.value_if_given.Given as goal

abbrev pub invariant-loop-at : goal.invariant-loop-at
invariant-loop-at l =
    value_with (option_copied l.found) l.name (items_of (texts l.self.names.now) (drop l.at (texts l.self.words.now)))
    ≡ value_with None l.name (items_of (texts l.self.names.now) (texts l.self.words.now))

abbrev pub decreases-loop-at : goal.decreases-loop-at
decreases-loop-at l = length l.self.words.now - l.at
