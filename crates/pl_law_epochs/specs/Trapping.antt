-- That a trap stands is told in reports alone.
use Rattle.std.specs.Prelude.{◌≡◌, ℕ, ◌==◌, ◌&&◌, ◌||◌, not, Bool, true, false, if◌then◌else◌, List, [], ◌∷◌, Some, slice_get}
use Rattle.pl_frame.specs.declared.address.SwitchId.{SwitchId}
use Rattle.pl_gathering.specs.Gathering.{Gathered, Report, is_among, is_whole}
use Rattle.pl_gathering.specs.Gathering.Report.{Begin, End, Tells}
use Rattle.pl_node.specs.declared.messages.ToManager.{ToManager}
use Rattle.pl_node.specs.declared.messages.ToManager.TheVariants as tell
use Rattle.pl_manager_rule.specs.Treating.{Treating}
use Rattle.pl_manager_rule.specs.WholeRule.{gathered}
use Rattle.pl_law_control_plane.specs.ControlPlanes.{ControlPlane}
use Rattle.pl_law_due.specs.Due.{is_silent, read}

abbrev pub is_trap : ToManager → Bool
is_trap (tell.Trapped old new number) = true
is_trap says = false

-- none is told in a queue
abbrev pub no_traps : List (Report ToManager) → Bool
no_traps [] = true
no_traps (Begin n ∷ queue) = no_traps queue
no_traps (End n ∷ queue) = no_traps queue
no_traps (Tells word ∷ queue) = not (is_trap word) && no_traps queue

-- none behind the end of the report of this epoch, which stands behind its `Begin` where that was not heard
abbrev pub traps_end : ℕ → Bool → List (Report ToManager) → Bool
traps_end epoch begun [] = true
traps_end epoch true (End n ∷ queue) = if n == epoch then no_traps queue else traps_end epoch true queue
traps_end epoch false (End n ∷ queue) = traps_end epoch false queue
traps_end epoch true (Begin n ∷ queue) = traps_end epoch true queue
traps_end epoch false (Begin n ∷ queue) = if n == epoch then traps_end epoch true queue else traps_end epoch false queue
traps_end epoch begun (Tells word ∷ queue) = traps_end epoch begun queue

-- of a switch that has heard of the epoch: none where its report has ended, or there are no reports, else none behind its report
abbrev pub traps_in_report : Gathered Treating ToManager → SwitchId → List (Report ToManager) → Bool
traps_in_report g id queue = if is_whole g || is_among id g.ended then no_traps queue else traps_end g.epoch (is_among id g.begun) queue

abbrev pub TrapsAreReported : ControlPlane → Type 0
TrapsAreReported f = (s : ℕ) (id : SwitchId) → slice_get f.plan.ids s ≡ Some id → is_silent f.orders s ≡ false →
    traps_in_report (gathered f.manager) id (read (f.reports s)) ≡ true
