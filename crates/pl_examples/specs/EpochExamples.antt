-- A fabric manager that begins anew, computed: of five switches, as a tree with k = 2 has.
use Rattle.std.specs.Prelude.{◌≡◌, ℕ, true, List, [], ◌∷◌, ◌++◌, fold, map, Some, None, refl}
use Rattle.pl_frame.specs.declared.address.Mac.{Mac}
use Rattle.pl_frame.specs.declared.address.SwitchId.{SwitchId}
use Rattle.pl_pmac.specs.declared.pmac.Pmac.{Pmac}
use Rattle.pl_layouts.specs.declared.place.Place.{Place}
use Rattle.pl_node.specs.declared.acts.ManagerAct.TheVariants.{Say, Number}
use Rattle.pl_node.specs.declared.messages.ToManager.{ToManager}
use Rattle.pl_node.specs.declared.messages.ToManager.TheVariants as tell
use Rattle.pl_node.specs.declared.messages.ToSwitch.TheVariants as say
use Rattle.pl_node.specs.AvoidLists.{avoid_list}
use Rattle.pl_node.specs.Trees.{core_of, tree_part}
use Rattle.pl_node.specs.ManagerDuties.{load}
use Rattle.pl_node.specs.ManagerViews.{ManagerView, booted_manager, is_heard, restarted_manager}
use Rattle.pl_manager_rule.specs.Histories.{Word}
use Rattle.pl_manager_rule.specs.ManagerRule.{ManagerStep, manager_hears}
use Rattle.pl_manager_rule.specs.WholeRule.{manager_steps}

abbrev the_switch : ℕ → SwitchId
the_switch n = record { 0 = n }

abbrev host : ℕ → Mac
host n = record { 0 = 2 ∷ 0 ∷ 0 ∷ 0 ∷ 0 ∷ n ∷ [] }

abbrev at : ℕ → ℕ → Pmac
at pod vmid = record { pod = pod; position = 0; port = 0; vmid = vmid }

abbrev told_by : ℕ → ToManager → Word
told_by n says = record { switch = the_switch n; says = says }

-- one word more is heard, the oldest first
abbrev then_hears : ManagerStep → Word → ManagerStep
then_hears step w = record {
  view = (manager_steps step.view w.switch w.says).view;
  acts = step.acts ++ (manager_steps step.view w.switch w.says).acts;
}

abbrev heard : ManagerView → List Word → ManagerStep
heard view words = fold then_hears (record { view = view; acts = [] }) words

-- a switch that has nothing to tell
abbrev empty_report : ℕ → List Word
empty_report n = told_by n (tell.Begin 1) ∷ told_by n (tell.End 1) ∷ []

abbrev anew : ManagerView
anew = restarted_manager 2 1

-- ---- the first manager
abbrev first : ManagerView
first = booted_manager 2

-- it treats each word at once, and passes over reports
no_report_of_the_first : (heard first (told_by 1 (tell.Begin 0) ∷ told_by 1 (tell.End 0) ∷ told_by 1 (tell.Trapped (at 0 1) (at 1 1) 3) ∷ told_by 1 (tell.Aged (at 0 1) 3) ∷ [])
    ≡ record { view = first; acts = [] })
unfolding manager_steps manager_hears avoid_list tree_part core_of
no_report_of_the_first = refl

abbrev learns : ℕ → ℕ → Word
learns n vmid = told_by n (tell.Learned (at n vmid) (host n) None)

its_first_number : (heard first (learns 1 1 ∷ [])).acts ≡ Number (at 1 1) 1 ∷ []
unfolding manager_steps manager_hears avoid_list tree_part core_of
its_first_number = refl

-- ---- while a report is missing
-- a switch is not heard in front of its `Begin`, nor by that of another epoch
not_heard_yet : (heard anew (learns 1 1 ∷ told_by 1 (tell.Begin 2) ∷ learns 1 1 ∷ told_by 1 (tell.End 1) ∷ []) ≡ record { view = anew; acts = [] })
unfolding manager_steps manager_hears
not_heard_yet = refl

-- from then on it is, and what it tells is kept: nothing is said, and no number is given
abbrev keeping : ManagerStep
keeping = heard anew (told_by 1 (tell.Begin 1) ∷ learns 1 1 ∷ told_by 1 (tell.End 1) ∷ learns 1 2 ∷ [])

it_keeps : (keeping.acts ≡ []) × (map (λ h. h.word) keeping.view.kept ≡ tell.Learned (at 1 1) (host 1) None ∷ tell.Learned (at 1 2) (host 1) None ∷ [])
    × (keeping.view.learnt ≡ anew.learnt) × (load keeping.view ≡ 4294967298) × (is_heard keeping.view (the_switch 1) ≡ true)
unfolding manager_steps manager_hears
it_keeps = (refl, refl, refl, refl, refl)

-- ---- when the last report ends
abbrev others : List Word
others = empty_report 2 ++ (empty_report 3 ++ (empty_report 4 ++ empty_report 5))

-- all that was kept is treated in its turn: numbers go on from 2^32, and the second address of the host replaces the first one
all_is_treated : (heard keeping.view others).acts
    ≡ Number (at 1 1) 4294967297 ∷ Number (at 1 2) 4294967298 ∷ Say (the_switch 1) (say.Invalidate (at 1 1) (at 1 2) 4294967298 None) ∷ []
unfolding manager_steps manager_hears avoid_list tree_part core_of
all_is_treated = refl

nothing_is_kept_then : (heard keeping.view others).view.kept ≡ []
unfolding manager_steps manager_hears
nothing_is_kept_then = refl

-- and from then on each word is treated at once
at_once_then : (heard (heard keeping.view others).view (learns 2 1 ∷ [])).acts ≡ Number (at 2 1) 4294967299 ∷ []
unfolding manager_steps manager_hears avoid_list tree_part core_of
at_once_then = refl

-- a wish for a pod waits until the places of all switches were told: pod 0 is another one's
abbrev place_of_pod : ℕ → Place
place_of_pod pod = record { level = Some 0; position = Some 0; pod = Some pod }

a_wish_waits : (heard anew (told_by 1 (tell.Begin 1) ∷ told_by 1 tell.PodWanted ∷ told_by 1 (tell.End 1) ∷ told_by 2 (tell.Begin 1) ∷ told_by 2 (tell.Place (place_of_pod 0)) ∷ told_by 2 (tell.End 1)
    ∷ (empty_report 3 ++ (empty_report 4 ++ empty_report 5)))).view.pods ≡ record { switch = the_switch 1; pod = 1 } ∷ []
unfolding manager_steps manager_hears
a_wish_waits = refl

-- ---- what only reports say
-- One address leads to another, which rests; both are known by reports alone. The trap stands, so nothing is released.
abbrev traps : List Word
traps = told_by 1 (tell.Begin 1) ∷ told_by 1 (tell.Trapped (at 1 1) (at 2 1) 7) ∷ told_by 1 (tell.End 1)
    ∷ told_by 2 (tell.Begin 1) ∷ told_by 2 (tell.Aged (at 2 1) 0) ∷ told_by 2 (tell.End 1) ∷ (empty_report 3 ++ (empty_report 4 ++ empty_report 5))

no_release_while_it_stands : (heard anew traps).acts ≡ []
unfolding manager_steps manager_hears avoid_list tree_part core_of
no_release_while_it_stands = refl

-- that the trap has ended counts by its number alone, and then both are released
a_trap_ends : ((heard (heard anew traps).view (told_by 1 (tell.Aged (at 1 1) 6) ∷ [])).acts ≡ [])
    × ((heard (heard anew traps).view (told_by 1 (tell.Aged (at 1 1) 7) ∷ [])).acts
    ≡ Say (the_switch 1) (say.Release (at 1 1)) ∷ Say (the_switch 2) (say.Release (at 2 1)) ∷ [])
unfolding manager_steps manager_hears avoid_list tree_part core_of
a_trap_ends = (refl, refl)

-- releases come behind all that is treated with them: that one address rests is told before a trap to it is
the_trap_is_told_later : (heard anew (told_by 2 (tell.Begin 1) ∷ told_by 2 (tell.Aged (at 2 1) 0) ∷ told_by 2 (tell.End 1)
    ∷ told_by 1 (tell.Begin 1) ∷ told_by 1 (tell.Trapped (at 1 1) (at 2 1) 7) ∷ told_by 1 (tell.End 1) ∷ (empty_report 3 ++ (empty_report 4 ++ empty_report 5)))).acts ≡ []
unfolding manager_steps manager_hears avoid_list tree_part core_of
the_trap_is_told_later = refl

-- where none is told it is released, behind the pods and the numbers
releases_come_last : (heard anew (told_by 2 (tell.Begin 1) ∷ told_by 2 (tell.Aged (at 2 1) 5) ∷ told_by 2 tell.PodWanted ∷ told_by 2 (tell.End 1)
    ∷ told_by 1 (tell.Begin 1) ∷ learns 1 1 ∷ told_by 1 (tell.End 1) ∷ (empty_report 3 ++ (empty_report 4 ++ empty_report 5)))).acts
    ≡ Number (at 1 1) 4294967297 ∷ Say (the_switch 2) (say.Pod 0) ∷ Say (the_switch 2) (say.Release (at 2 1)) ∷ []
unfolding manager_steps manager_hears avoid_list tree_part core_of
releases_come_last = refl

-- they are in the order in which the addresses were told to have aged, also where the trap of one led to a later one
releases_in_turn : (heard anew (told_by 1 (tell.Begin 1) ∷ told_by 1 (tell.Trapped (at 1 1) (at 2 1) 7) ∷ told_by 1 (tell.Aged (at 1 1) 7) ∷ told_by 1 (tell.Aged (at 1 2) 0)
    ∷ told_by 1 (tell.End 1) ∷ told_by 2 (tell.Begin 1) ∷ told_by 2 (tell.Aged (at 2 1) 0) ∷ told_by 2 (tell.End 1) ∷ (empty_report 3 ++ (empty_report 4 ++ empty_report 5)))).acts
    ≡ Say (the_switch 1) (say.Release (at 1 1)) ∷ Say (the_switch 1) (say.Release (at 1 2)) ∷ Say (the_switch 2) (say.Release (at 2 1)) ∷ []
unfolding manager_steps manager_hears avoid_list tree_part core_of
releases_in_turn = refl
