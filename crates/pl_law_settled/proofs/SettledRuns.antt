-- What holds of each moment of a run of lawful logic from the beginning, and what it comes to where the fabric is settled.
use Rattle.std.proofs.Common.{◌≡◌, ◌↔◌, ℕ, false, List, [], ◌∷◌, ◌++◌, Some, None, slice_get, subst}
use Rattle.pl_wiring.specs.declared.label.Label.TheVariants.{Edge}
use Rattle.pl_wiring.specs.Labels.{IsLabel}
use Rattle.pl_wiring.specs.Plan.{Plan}
use Rattle.pl_node.specs.Accounting.{AllowsNoMore}
use Rattle.pl_node.specs.HostDuties.{HostsSendData, HostsSendOwn}
use Rattle.pl_node.specs.HostInputs.{HostRule}
use Rattle.pl_node.specs.ManagerDuties.{ManagerRule}
use Rattle.pl_node.specs.SwitchInputs.{SwitchRule}
use Rattle.pl_manager_rule.specs.Lawful.{IsManagerRule}
use Rattle.pl_manager_rule.specs.WholeRule.{whole_rule}
use Rattle.pl_switch_rule.specs.SwitchRule.{Loose}
use Rattle.pl_world.specs.declared.limits.Limits.{Limits}
use Rattle.pl_world.specs.Booting.{CanBegin, booted}
use Rattle.pl_world.specs.Runs.{Moment, WorldRun}
use Rattle.pl_world.specs.SettledQueues.{HasSettledQueues}
use Rattle.pl_world.specs.Worlds.{WorldView}
use Rattle.pl_fabric.specs.declared.settling.Settling.{Settling}
use Rattle.pl_node.specs.SwitchViews.{SwitchView}
use Rattle.pl_fabric.specs.Settled.{IsSettled, would_change}
use Rattle.pl_fabric.specs.Settlings.{Settles}
use Rattle.pl_fabric.proofs.Exports.{rounds_are_run}
use Rattle.pl_law_control_plane.specs.ControlPlanes.{control_plane}
use Rattle.pl_law_votes.specs.Voting.{edge_no}
use Rattle.pl_law_invariant.proofs.Exports.{run_keeps_all, run_lawful}
use Rattle.pl_law_records.specs.Records.{AreCurrent, LinksAreCurrent}
use Rattle.pl_law_records.proofs.Exports.{run_links, run_ordered, run_reported}
use Rattle.pl_law_placing.specs.Resting.{HasFirst, HavePositions}
use Rattle.pl_law_placing.proofs.Exports.{run_places}
use Rattle.pl_law_settled.specs.Agreed.{IsAgreed}
use Rattle.pl_law_settled.specs.AtPlace.{ReceiversArePlaced}
use Rattle.pl_law_settled.specs.Whole.{IsWholePod}
use Rattle.pl_law_settled.proofs.Pods.{settled_first, settled_positions}
use Rattle.pl_law_settled.proofs.Placed.{receivers_placed}
use Rattle.pl_law_settled.proofs.Proposals.{table_is_rows_here}
use Rattle.pl_law_settled.proofs.Records.{are_current, links_current}

module _ (switch : SwitchRule) (manager : ManagerRule) (host : HostRule) (within : AllowsNoMore switch Loose) (lawful : IsManagerRule manager)
    (sends : HostsSendData host) (owns : HostsSendOwn host) (plan : Plan) (limits : Limits) (moments : List Moment) (new : WorldView) (can : CanBegin plan)
    (run : WorldRun switch manager host (booted plan limits) moments new) where
  loose : WorldRun Loose whole_rule host (booted plan limits) moments new
  loose = run_lawful switch manager host within lawful (booted plan limits) moments new run

  pub run_current : HasSettledQueues new → AreCurrent (control_plane new)
  run_current queues =
      let all = run_keeps_all host sends owns plan limits moments new can loose in
      are_current new all.counted.formed.plan all.gathered (run_reported host sends owns plan limits moments new can loose)
      (run_ordered host sends owns plan limits moments new can loose) queues

  pub run_links_current : HasSettledQueues new → LinksAreCurrent (control_plane new)
  run_links_current queues =
      let all = run_keeps_all host sends owns plan limits moments new can loose in
      links_current new all.counted.formed.plan all.gathered (run_links host sends owns plan limits moments new can loose) queues

  pub run_positions : IsSettled new → (pod : ℕ) → IsWholePod new pod → HavePositions (control_plane new) pod
  run_positions settled pod whole =
      settled_positions new (run_keeps_all host sends owns plan limits moments new can loose) settled (run_places host sends owns plan limits moments new can loose) pod whole

  pub run_first : IsSettled new → (pod : ℕ) → IsWholePod new pod → (i : ℕ) → IsLabel new.plan.k (Edge pod i) →
      ((control_plane new).view (edge_no new.plan.k pod i)).place.level ≡ Some 0 → HasFirst (control_plane new) pod
  run_first settled pod whole i edge level =
      settled_first new (run_keeps_all host sends owns plan limits moments new can loose) settled (run_places host sends owns plan limits moments new can loose) pod whole i edge level

  pub run_placed : IsSettled new → (pod : ℕ) → IsWholePod new pod → ReceiversArePlaced new pod
  run_placed settled pod whole =
      receivers_placed new (run_keeps_all host sends owns plan limits moments new can loose) (run_places host sends owns plan limits moments new can loose) settled pod whole

  -- the table of proposals says what the rows say
  pub run_agrees : (s t : ℕ) (v u : SwitchView) (port q : ℕ) → slice_get new.switches s ≡ Some v → slice_get new.switches t ≡ Some u →
      (would_change v port u q ≡ false) ↔ IsAgreed v port u q
  run_agrees s t v u port q at_s at_t =
      table_is_rows_here new (run_keeps_all host sends owns plan limits moments new can loose) (run_places host sends owns plan limits moments new can loose) s t v u at_s at_t port q

-- one run behind another
runs_on : (switch : SwitchRule) (manager : ManagerRule) (host : HostRule) (old mid new : WorldView) (moments more : List Moment) → WorldRun switch manager host old moments mid →
    WorldRun switch manager host mid more new → WorldRun switch manager host old (moments ++ more) new
runs_on switch manager host old mid new [] more same run = subst (λ (w : WorldView). WorldRun switch manager host w more new) same run
runs_on switch manager host old mid new (moment ∷ moments) more first run = (first.0, first.1, runs_on switch manager host first.0 mid new moments more first.2 run)

-- a settling is one
pub settled_by_run : (switch : SwitchRule) (manager : ManagerRule) (host : HostRule) (begun old new : WorldView) (moments : List Moment) (asked : ℕ) (answer : Settling) →
    WorldRun switch manager host begun moments old → Settles switch manager host asked old answer new → (all : List Moment) × WorldRun switch manager host begun all new
settled_by_run switch manager host begun old new moments asked answer run settles =
    let rounds = rounds_are_run switch manager host settles.used old new None settles.rounds in
    (moments ++ rounds.0, runs_on switch manager host begun old new moments rounds.0 run rounds.1)
