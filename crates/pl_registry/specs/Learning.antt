-- What the manager does when it learns an address, and when one has aged.
use Rattle.std.specs.Prelude.{ℕ, if◌then◌else◌, map, List, [], ◌∷◌, Option, Some, None}
use Rattle.pl_frame.specs.declared.address.SwitchId.{SwitchId}
use Rattle.pl_pmac.specs.declared.pmac.Pmac.{Pmac}
use Rattle.pl_node.specs.ManagerViews.{Learnt, Reported}
use Rattle.pl_manager_rule.specs.ManagerRule.{with_aged}
use Rattle.pl_manager_rule.specs.Reports.{counts_as, reported_ages, with_aged_as}
use Rattle.pl_node.specs.declared.acts.ManagerAct.{ManagerAct}
use Rattle.pl_node.specs.declared.acts.ManagerAct.TheVariants.{Say, Number}
use Rattle.pl_node.specs.declared.messages.ToSwitch.TheVariants as say
use Rattle.pl_registry.specs.declared.registry.Learning.{Learning}
use Rattle.pl_registry.specs.declared.registry.Release.{Release}
use Rattle.pl_registry.specs.declared.registry.Replaced.{Replaced}

-- the switch that told the replaced address is sent the newer one
abbrev pub acts_of_replaced : Pmac → ℕ → Option Replaced → List ManagerAct
acts_of_replaced new number None = []
acts_of_replaced new number (Some old) = Say old.switch (say.Invalidate old.pmac new number old.ip) ∷ []

-- an address that is learnt for the first time is numbered
abbrev pub acts_of_learning : Pmac → Option Learning → List ManagerAct
acts_of_learning pmac None = []
acts_of_learning pmac (Some new) = Number pmac new.number ∷ acts_of_replaced pmac new.number new.replaced

-- the switch that told a released address is told so
abbrev pub acts_of_release : Option Release → List ManagerAct
acts_of_release None = []
acts_of_release (Some release) = Say release.switch (say.Release release.pmac) ∷ []

-- that a known address has aged is noted
abbrev pub with_known_aged : Learnt → Pmac → Learnt
with_known_aged learnt x = record (with_aged learnt x) { reported = map (reported_ages x) learnt.reported }

-- that an address has aged is noted where it counts
abbrev pub noted_aged : ℕ → Learnt → SwitchId → Pmac → ℕ → Option Reported → Learnt
noted_aged epoch learnt s x number known = if counts_as epoch number known then with_aged_as learnt s x known else learnt
