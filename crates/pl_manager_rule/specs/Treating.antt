-- What the manager does with a word that is treated, where others are treated with it: what they bring about together comes behind all of them.
use Rattle.std.specs.Prelude.{ℕ, Bool, true, false, if◌then◌else◌, List, [], ◌∷◌, ◌++◌, fold}
use Rattle.std.specs.List.{filter_map}
use Rattle.pl_frame.specs.declared.address.SwitchId.{SwitchId}
use Rattle.pl_pmac.specs.declared.pmac.Pmac.{Pmac}
use Rattle.pl_gathering.specs.Acting.{Done}
use Rattle.pl_gathering.specs.Gathering.{Heard, Report}
use Rattle.pl_gathering.specs.Gathering.Report.{Begin, End, Tells}
use Rattle.pl_node.specs.declared.acts.ManagerAct.{ManagerAct}
use Rattle.pl_node.specs.declared.messages.ToManager.{ToManager}
use Rattle.pl_node.specs.declared.messages.ToManager.TheVariants as tell
use Rattle.pl_node.specs.ManagerViews.{ManagerView, Recall}
use Rattle.pl_manager_rule.specs.ManagerRule.{ManagerStep, manager_hears}
use Rattle.pl_manager_rule.specs.Reports.{counts_as, known_at, leads_known, releases_known, with_aged_as, with_trap}

-- what is known, and the addresses that were told to have aged, where that counts, in order: they are not released yet
pub record Treating : Type 0 where
  pub view : ManagerView
  pub aged : List Pmac

-- nothing is left to follow
abbrev pub at_rest : ManagerView → Treating
at_rest view = record { view = view; aged = [] }

abbrev pub notes_aged : Treating → SwitchId → Pmac → ℕ → Treating
notes_aged t s x number =
    let known = known_at t.view.learnt x in
    if counts_as t.view.epoch number known then record { view = record t.view { learnt = with_aged_as t.view.learnt s x known }; aged = t.aged ++ x ∷ [] } else t

abbrev pub notes_trap : Treating → SwitchId → Pmac → Recall → Treating
notes_trap t s x to = record t { view = record t.view { learnt = with_trap t.view.epoch t.view.learnt s x to } }

abbrev pub treats_now : Treating → ManagerStep → Done Treating ManagerAct
treats_now t step = record { known = record t { view = step.view }; acts = step.acts }

-- that an address has aged is noted, and that a trap stands; each other word is treated as if it were heard now
abbrev pub treats_word : Treating → SwitchId → ToManager → Done Treating ManagerAct
treats_word t s (tell.Aged x number) = record { known = notes_aged t s x number; acts = [] }
treats_word t s (tell.Trapped old new number) = record { known = notes_trap t s old (record { new = new; number = number }); acts = [] }
treats_word t s says = treats_now t (manager_hears t.view s says)

abbrev pub treats : Treating → Heard ToManager → Done Treating ManagerAct
treats t h = treats_word t h.switch h.word

-- an address that has aged is released where no trap leads to it that stands
abbrev pub then_releases : ManagerStep → Pmac → ManagerStep
then_releases step x = let released = releases_known x step.view.learnt in record {
  view = record step.view { learnt = released.learnt };
  acts = step.acts ++ released.acts;
}

-- those that were told to have aged, in that order, and then those to which their traps led
abbrev pub to_release : Treating → List Pmac
to_release t = t.aged ++ filter_map (leads_known t.view.learnt) t.aged

-- what follows once all were treated: the releases, in the order in which the addresses were told to have aged
abbrev pub follows : Treating → Done Treating ManagerAct
follows t = let step = fold then_releases (record { view = t.view; acts = [] }) (to_release t) in record { known = at_rest step.view; acts = step.acts }

-- a wish for a pod waits for the places of all switches
abbrev pub waits_for_places : ToManager → Bool
waits_for_places tell.PodWanted = true
waits_for_places says = false

-- `Begin` and `End` are no words
abbrev pub as_report : ToManager → Report ToManager
as_report (tell.Begin epoch) = Begin epoch
as_report (tell.End epoch) = End epoch
as_report says = Tells says
