-- Each step keeps all of it, and so does each run from the beginning.
use Rattle.std.proofs.Common.{◌≡◌, List, [], ◌∷◌, None, refl, sym, subst}
use Rattle.pl_wiring.specs.Plan.{Plan}
use Rattle.pl_journal.specs.declared.entry.Entry.{Entry}
use Rattle.pl_node.specs.HostDuties.{HostsSendData, HostsSendOwn}
use Rattle.pl_node.specs.HostInputs.{HostRule}
use Rattle.pl_node.specs.Accounting.{AllowsNoMore}
use Rattle.pl_node.specs.ManagerDuties.{ManagerRule}
use Rattle.pl_node.specs.SwitchInputs.{SwitchRule}
use Rattle.pl_manager_rule.specs.Lawful.{IsManagerRule}
use Rattle.pl_manager_rule.specs.WholeRule.{whole_rule}
use Rattle.pl_switch_rule.specs.SwitchRule.{Loose}
use Rattle.pl_switch_rule.proofs.Exports.{loose_steps_are_accounted}
use Rattle.pl_world.specs.declared.event.Event.{Event}
use Rattle.pl_world.specs.declared.limits.Limits.{Limits}
use Rattle.pl_world.specs.Booting.{CanBegin, booted}
use Rattle.pl_world.specs.Changes.{noted}
use Rattle.pl_world.specs.Flying.{IsCounted}
use Rattle.pl_world.specs.Refusals.{refusal}
use Rattle.pl_world.specs.Runs.{IsMark, Moment, WorldRun}
use Rattle.pl_world.specs.Runs.Moment.{Mark, Step}
use Rattle.pl_world.specs.WorldRule.{WorldStep}
use Rattle.pl_world.specs.Worlds.{WorldView}
use Rattle.pl_world.proofs.Exports.{booted_is_counted, marked_counted, step_is_counted}
use Rattle.pl_law_control_plane.specs.ControlPlanes.{control_plane}
use Rattle.pl_law_control_plane.specs.HostsAtEdges.{HostsAtEdges}
use Rattle.pl_law_control_plane.proofs.Exports.{hosts_at_first, plan_same, step_keeps_hosts, step_on_plane}
use Rattle.pl_law_due.specs.Gathering.{EpochsAgree, GathersWell, IsSized}
use Rattle.pl_law_due.proofs.Exports.{agree_at_first, gathers_at_first, on_agrees, on_gathers, on_sized}
use Rattle.pl_law_places.specs.Places.{ArePlaced}
use Rattle.pl_law_places.proofs.Exports.{placed_at_first, places_on}
use Rattle.pl_law_votes.specs.Voting.{AreVoting, IsVoting}
use Rattle.pl_law_votes.proofs.Exports.{fixed_are_apart, votes_at_first, votes_on}
use Rattle.pl_law_pods.specs.Numbering.{AreNumbered}
use Rattle.pl_law_pods.proofs.Exports.{numbered_at_first, numbered_on, numbers_told}
use Rattle.pl_law_addresses.specs.Addressed.{AreGrounded, IsGrounded}
use Rattle.pl_law_addresses.specs.InOrder.{GrantsAreInOrder}
use Rattle.pl_law_addresses.proofs.Exports.{first_ordered, mark_ordered, one_step}
use Rattle.pl_law_epochs.proofs.Exports.{world_first_in_order, world_in_order, world_tables}
use Rattle.pl_law_invariant.specs.ControlInvariant.{ControlInvariant}
use Rattle.pl_law_invariant.proofs.Grounding.{grounded}
use Rattle.pl_law_invariant.proofs.LawfulRuns.{run_lawful}
use Rattle.pl_law_invariant.proofs.TellingPlaces.{can_tell}

-- what is kept of discovery, and of the reports to the manager
record Holds (w : WorldView) : Type 0 where
  hosts : HostsAtEdges w
  placed : ArePlaced w.plan (control_plane w)
  voting : AreVoting (control_plane w)
  numbered : AreNumbered (control_plane w)
  size : IsSized (control_plane w)
  gathered : GathersWell (control_plane w)
  epochs : EpochsAgree (control_plane w)

held : (w : WorldView) → ControlInvariant w → Holds w
held w all = record {
  hosts = all.hosts;
  placed = all.placed;
  voting = all.voting;
  numbered = all.numbered;
  size = all.size;
  gathered = all.gathered;
  epochs = all.epochs;
}

-- ---- the beginning
pub kept_at_first : (plan : Plan) (limits : Limits) → CanBegin plan → ControlInvariant (booted plan limits)
kept_at_first plan limits can = let grants = first_ordered plan limits can.is_plan in record {
  counted = booted_is_counted plan limits can;
  hosts = hosts_at_first plan can.is_plan;
  placed = placed_at_first plan limits can.is_plan;
  voting = votes_at_first plan limits;
  numbered = numbered_at_first plan limits;
  addresses = world_first_in_order plan limits;
  own = grants.own;
  once = grants.once;
  size = refl;
  gathered = gathers_at_first plan limits can.is_plan;
  epochs = agree_at_first plan limits;
}

-- what switches granted is in order
pub grants : (w : WorldView) → ControlInvariant w → GrantsAreInOrder w
grants w all = record { tables = world_tables w all.counted all.addresses; own = all.own; once = all.once }

-- ---- a mark changes nothing of it
pub mark_keeps : (w : WorldView) (e : Entry) → IsMark e → ControlInvariant w → ControlInvariant (noted w e)
mark_keeps w e is before = record {
  counted = marked_counted w (noted w e) e is refl before.counted;
  hosts = before.hosts;
  placed = before.placed;
  voting = before.voting;
  numbered = before.numbered;
  addresses = record { addressed = before.addresses.addressed; reported = before.addresses.reported; lead = before.addresses.lead };
  own = before.own;
  once = (mark_ordered w e is (grants w before)).once;
  size = before.size;
  gathered = before.gathered;
  epochs = before.epochs;
}

-- placed edge switches stand apart, and no switch takes another for a host
grounds : (w : WorldView) → IsCounted w → Holds w → IsGrounded w
grounds w counted holds = grounded w counted holds.placed holds.voting holds.numbered

module _ (host : HostRule) (sends : HostsSendData host) where
  step_holds : (old : WorldView) (event : Event) (new : WorldView) → IsCounted old → Holds old → refusal old event ≡ None →
      WorldStep Loose whole_rule host old event new → Holds new
  step_holds old event new counted holds none step =
      let f = control_plane old in let g = control_plane new in
      let is = counted.formed.plan in
      let taken = step_on_plane Loose whole_rule host loose_steps_are_accounted old event new counted holds.hosts none step in
      let same = plan_same Loose whole_rule f g taken in
      let votes = votes_on whole_rule f g (can_tell old counted holds.placed) holds.voting taken in
      let apart = fixed_are_apart f.plan f.view f.says is holds.voting in
      record {
        hosts = step_keeps_hosts Loose whole_rule host loose_steps_are_accounted sends old event new counted holds.hosts none step;
        placed = subst (λ (p : Plan). ArePlaced p g) (sym same) (places_on whole_rule f g is holds.placed apart (numbers_told f is holds.gathered holds.numbered) taken);
        voting = subst (λ (p : Plan). IsVoting p g.view g.says) (sym same) votes;
        numbered = numbered_on f g is holds.size holds.gathered holds.placed apart (fixed_are_apart f.plan g.view g.says is votes) holds.numbered taken;
        size = on_sized f g is holds.size taken;
        gathered = on_gathers f g is holds.size holds.gathered taken;
        epochs = on_agrees f g is holds.size holds.gathered holds.epochs taken;
      }

  module _ (owns : HostsSendOwn host) where
    pub step_keeps_all : (old : WorldView) (event : Event) (new : WorldView) → ControlInvariant old → refusal old event ≡ None →
        WorldStep Loose whole_rule host old event new → ControlInvariant new
    step_keeps_all old event new before none step =
        let counted = step_is_counted Loose whole_rule host loose_steps_are_accounted sends old event new before.counted none step in
        let holds = step_holds old event new before.counted (held old before) none step in
        let grounded_then = grounds new counted holds in
        let grounded_before = grounds old before.counted (held old before) in
        let granted =
        one_step host sends owns whole_rule old event new before.counted grounded_before.neighbours grounded_then.apart step (grants old before) in
        record {
          counted = counted;
          hosts = holds.hosts;
          placed = holds.placed;
          voting = holds.voting;
          numbered = holds.numbered;
          addresses = world_in_order host old event new before.counted before.hosts before.own grounded_before grounded_then.apart none before.size
              before.gathered before.addresses step;
          own = granted.own;
          once = granted.once;
          size = holds.size;
          gathered = holds.gathered;
          epochs = holds.epochs;
        }

    -- what each step keeps between worlds where all of it is kept, and each mark too, holds along a run
    pub holds_in_run : (Also : WorldView → Type 0) →
        ((old : WorldView) (event : Event) (new : WorldView) → ControlInvariant old → ControlInvariant new → Also old → refusal old event ≡ None →
        WorldStep Loose whole_rule host old event new → Also new) → ((w : WorldView) (entry : Entry) → IsMark entry → Also w → Also (noted w entry)) →
        (old : WorldView) (moments : List Moment) (new : WorldView) → ControlInvariant old → Also old → WorldRun Loose whole_rule host old moments new → Also new
    holds_in_run Also steps marks old [] new before also same = subst Also (sym same) also
    holds_in_run Also steps marks old (Step event ∷ moments) new before also run =
        let after = step_keeps_all old event run.0 before run.1.0 run.1.1 in
        holds_in_run Also steps marks run.0 moments new after (steps old event run.0 before after also run.1.0 run.1.1) run.2
    holds_in_run Also steps marks old (Mark entry ∷ moments) new before also run =
        holds_in_run Also steps marks run.0 moments new (subst ControlInvariant (sym run.1.1) (mark_keeps old entry run.1.0 before))
        (subst Also (sym run.1.1) (marks old entry run.1.0 also)) run.2

    pub run_keeps : (old : WorldView) (moments : List Moment) (new : WorldView) → ControlInvariant old → WorldRun Loose whole_rule host old moments new → ControlInvariant new
    run_keeps old moments new before run = holds_in_run ControlInvariant (λ a event b kept after also is step. after) mark_keeps old moments new before before run

    pub run_keeps_all : (plan : Plan) (limits : Limits) (moments : List Moment) (new : WorldView) → CanBegin plan →
        WorldRun Loose whole_rule host (booted plan limits) moments new → ControlInvariant new
    run_keeps_all plan limits moments new can run = run_keeps (booted plan limits) moments new (kept_at_first plan limits can) run

    pub lawful_run_keeps : (switch : SwitchRule) (manager : ManagerRule) → AllowsNoMore switch Loose → IsManagerRule manager →
        (old : WorldView) (moments : List Moment) (new : WorldView) → ControlInvariant old → WorldRun switch manager host old moments new → ControlInvariant new
    lawful_run_keeps switch manager within lawful old moments new before run =
        run_keeps old moments new before (run_lawful switch manager host within lawful old moments new run)

    -- so placed edge switches stand apart in each of them, and no switch takes another for a host
    pub runs_are_grounded : (plan : Plan) (limits : Limits) → CanBegin plan → AreGrounded host plan limits
    runs_are_grounded plan limits can moments w run =
        let all = run_keeps_all plan limits moments w can run in grounds w all.counted (held w all)
