-- What the grants of a journal say of where hosts stand. The newest entry stands first.
use Rattle.std.specs.Prelude.{◌≡◌, true, List, [], ◌∷◌}
use Rattle.pl_wiring.specs.Plan.{Plan}
use Rattle.pl_journal.specs.declared.entry.Entry.{Entry}
use Rattle.pl_journal.specs.declared.entry.Entry.TheVariants.{Granted}
use Rattle.pl_journal.specs.Places.{at_port, has_stood}

-- each address was granted at its own port, to a host that stood there then, or had stood there
abbrev pub AreStoodFor : Plan → List Entry → Type 0
AreStoodFor plan [] = Unit {0}
AreStoodFor plan (Granted x h e p ∷ past) = ((x.port ≡ p) × (has_stood plan past h.0 (at_port e.0 p) ≡ true)) × AreStoodFor plan past
AreStoodFor plan (entry ∷ past) = AreStoodFor plan past
