-- What a manager that began anew has heard of reports, and what it keeps: a gathering, but for what the manager knows.
use Rattle.std.specs.Prelude.{ℕ, ◌==◌, ◌&&◌, not, Bool, List, [], map, reverse}
use Rattle.pl_frame.specs.declared.address.SwitchId.{SwitchId}
use Rattle.pl_node.specs.declared.messages.ToManager.{ToManager}
use Rattle.pl_gathering.specs.Gathering.{Gathered, Heard, is_among, is_whole}
use Rattle.pl_gatherer.specs.declared.kept.Kept.{Kept}

abbrev pub Gathering : Type 0
Gathering = Gathered (Unit {0}) ToManager

abbrev pub heard_of : Kept → Heard ToManager
heard_of kept = record { switch = kept.switch; word = kept.word }

-- the switches stand in the order in which they were heard
abbrev pub gathering : ℕ → ℕ → List SwitchId → List SwitchId → List Kept → Gathering
gathering many epoch begun ended kept =
    record { many = many; epoch = epoch; begun = reverse begun; ended = reverse ended; kept = map heard_of kept; known = tt }

-- of a manager that never began anew
abbrev pub at_first : ℕ → Gathering
at_first many = record { many = many; epoch = 0; begun = []; ended = []; kept = []; known = tt }

-- a report of this epoch ends that began, has not ended and was missing
abbrev pub ends_now : Gathering → SwitchId → ℕ → Bool
ends_now g s epoch = not (is_whole g) && (epoch == g.epoch) && is_among s g.begun && not (is_among s g.ended)
