-- In every run each host has joined what its own frames said, and keeps frames of its groups alone.
use Rattle.std.proofs.Common.{◌≡◌, ℕ, zero, suc, ◌+◌, ◌==◌, ◌&&◌, not, Bool, true, false, if◌then◌else◌, List, [], ◌∷◌, map, Option, None, Some, reverse, slice_get, refl, sym, ap, ◌∙◌, subst, inl, inr}
use Rattle.std.proofs.lemmas.Bool.{cases_Bool, cond-false, cond-true, or_left, or_right}
use Rattle.std.proofs.lemmas.Option.{same_Some}
use Rattle.pl_frame.specs.Ethernet.{destination_of}
use Rattle.pl_wiring.specs.declared.host.Host.{Host}
use Rattle.pl_wiring.specs.Plan.{Plan}
use Rattle.pl_layouts.specs.Frames.{packet_in}
use Rattle.pl_layouts.specs.Memberships.{flood, group_of, is_group}
use Rattle.pl_journal.specs.declared.entry.Entry.{Entry}
use Rattle.pl_journal.specs.declared.entry.Entry.TheVariants.{Arrived, Copied, Crossed, Dropped, Freed, Granted, Line, LinkDown, LinkUp, Made, Moved, Placed, Redirected, Registered, Restarted, Sent, Settled, Skipped, Taken, Unsettled}
use Rattle.pl_journal.specs.Lossy.{has_joined, is_member}
use Rattle.pl_node.specs.declared.reception.Reception.TheVariants.{Kept, NotMember}
use Rattle.pl_node.specs.Accounting.{AccountsForFrames}
use Rattle.pl_node.specs.HostDuties.{HostsJoinBySending, HostsSendData}
use Rattle.pl_node.specs.HostInputs.{HostRule}
use Rattle.pl_node.specs.HostInputs.HostAnswer.{Received}
use Rattle.pl_node.specs.HostInputs.HostInput.{Receives}
use Rattle.pl_node.specs.HostViews.{HostView, boot_host, has_group}
use Rattle.pl_node.specs.ManagerDuties.{ManagerRule}
use Rattle.pl_node.specs.SwitchInputs.{SwitchRule}
use Rattle.pl_arp.specs.declared.cache.Me.{Me}
use Rattle.pl_host_rule.specs.HostRule.{HostStep, IsHostRule, hearing, host_rule, is_not_joined, receiving, step_to}
use Rattle.pl_world.specs.declared.event.Event.{Event}
use Rattle.pl_world.specs.declared.limits.Limits.{Limits}
use Rattle.pl_world.specs.Booting.{booted, host_table, me_of}
use Rattle.pl_world.specs.Changes.{noted}
use Rattle.pl_world.specs.Flying.{IsCounted}
use Rattle.pl_world.specs.Runs.{IsMark, Moment, WorldRun}
use Rattle.pl_world.specs.Runs.Moment.{Mark, Step}
use Rattle.pl_world.specs.WorldRule.{WorldStep}
use Rattle.pl_world.specs.Worlds.{WorldView}
use Rattle.pl_world.proofs.Exports.{marked_counted, step_is_counted}
use Rattle.pl_law_members.specs.Joined.{AreMembers, HaveJoined, HostsKeepTheirGroups}
use Rattle.pl_law_members.proofs.HostsLeftAlone.{AreUnsent, grows_by}
use Rattle.pl_law_members.proofs.Joining.{happens_joined, left_joined}

-- The rule of the hosts.

received_is : (view : HostView) (frame : List ℕ) (n : ℕ) → group_of (destination_of frame) ≡ Some n → (n == flood) ≡ false → has_group view.joined n ≡ false →
    (receiving view frame).answer ≡ Received NotMember
received_is view frame n group routed not_joined =
    ap (λ (step : HostStep). step.answer) (cond-true (is_not_joined view (group_of (destination_of frame))) (step_to view [] (Received NotMember)) (hearing view (packet_in frame))
    (ap (is_not_joined view) group ∙ both (n == flood) (has_group view.joined n) routed not_joined))
  where
    both : (a b : Bool) → a ≡ false → b ≡ false → (not a && not b) ≡ true
    both a b first next = rw (first, next) refl

pub hosts_keep_their_groups : HostsKeepTheirGroups host_rule
hosts_keep_their_groups view frame after acts n group routed rule = elim (cases_Bool (has_group view.joined n)) [
  | inl joined ↦ joined
  | inr not_joined ↦
      let answers : (receiving view frame).answer ≡ Received Kept = ap (λ (step : HostStep). step.answer) rule in
      let same : Received NotMember ≡ Received Kept = sym (received_is view frame n group routed not_joined) ∙ answers in
      absurd (cc)
]

pub lawful_hosts_keep : (rule : HostRule) → IsHostRule rule → HostsKeepTheirGroups rule
lawful_hosts_keep rule lawful view frame after acts n group routed step =
    hosts_keep_their_groups view frame after acts n group routed ((lawful view (Receives frame) after acts (Received Kept)).0 step)

-- a host that has joined by the journal is a member
pub members_are : (rule : HostRule) → HostsKeepTheirGroups rule → (w : WorldView) → HaveJoined w → AreMembers rule w
members_are rule keeps w told h before after acts frame found kept group = by_group (group_of (destination_of frame)) refl
  where
    number_there : (b : Bool) (x y : ℕ) → ◌≡◌ {A = Option ℕ} (if b then Some x else Some y) None → ⊥
    number_there true x y e = absurd (cc)
    number_there false x y e = absurd (cc)

    some_group : is_group (destination_of frame) ≡ true → group_of (destination_of frame) ≡ None → ⊥
    some_group is none = number_there _ _ _ (sym (cond-false (not (is_group (destination_of frame))) None _ (ap not is)) ∙ none)

    by_group : (o : Option ℕ) → group_of (destination_of frame) ≡ o → is_member (reverse w.journal) h o ≡ true
    by_group None is = absurd (some_group group is)
    by_group (Some n) is = elim (cases_Bool (n == flood)) [
      | inl flooded ↦ or_left (n == flood) (has_joined (reverse w.journal) h n) flooded
      | inr routed ↦ or_right (n == flood) (has_joined (reverse w.journal) h n) (sym (told h before found n) ∙ keeps before frame after acts n is routed kept)
    ]

-- Runs.

nothing_joined : (hosts : List Host) (table : List Me) (h : ℕ) (view : HostView) → slice_get (map (λ host. boot_host (me_of host) table) hosts) h ≡ Some view →
    (n : ℕ) → has_group view.joined n ≡ false
nothing_joined [] table h view found n = absurd (cc)
nothing_joined (x ∷ hosts) table zero view found n = ap (λ (v : HostView). has_group v.joined n) (sym (same_Some (boot_host (me_of x) table) view found))
nothing_joined (x ∷ hosts) table (suc h) view found n = nothing_joined hosts table h view found n

pub joined_at_first : (plan : Plan) (limits : Limits) → HaveJoined (booted plan limits)
joined_at_first plan limits h view found n = nothing_joined plan.hosts (host_table plan) h view found n

mark_unsent : (e : Entry) → IsMark e → AreUnsent (e ∷ [])
mark_unsent (Line n) is = (tt, tt)
mark_unsent (Settled rounds) is = (tt, tt)
mark_unsent (Unsettled pending) is = (tt, tt)
mark_unsent (Sent id host frame) is = absurd is
mark_unsent (Skipped host skip) is = absurd is
mark_unsent (Made id switch frame) is = absurd is
mark_unsent (Crossed id switch) is = absurd is
mark_unsent (Redirected id old new) is = absurd is
mark_unsent (Copied id new) is = absurd is
mark_unsent (Arrived id host frame) is = absurd is
mark_unsent (Taken id switch) is = absurd is
mark_unsent (Dropped id cause) is = absurd is
mark_unsent (Granted pmac host switch port) is = absurd is
mark_unsent (Registered pmac number) is = absurd is
mark_unsent (Placed switch place) is = absurd is
mark_unsent (Freed pmac) is = absurd is
mark_unsent (LinkDown x y) is = absurd is
mark_unsent (LinkUp x y) is = absurd is
mark_unsent (Moved host edge port) is = absurd is
mark_unsent (Restarted number) is = absurd is

module _ (switch : SwitchRule) (manager : ManagerRule) (host : HostRule) (joins : HostsJoinBySending host) where
  pub step_joined : (old : WorldView) (event : Event) (new : WorldView) → IsCounted old → WorldStep switch manager host old event new → HaveJoined old → HaveJoined new
  step_joined old event new counted step told =
      happens_joined host joins switch manager (record old { steps = old.steps + 1 }) counted.holding told new event step

  pub run_joined : AccountsForFrames switch → HostsSendData host → (old : WorldView) (moments : List Moment) (new : WorldView) → IsCounted old → HaveJoined old →
      WorldRun switch manager host old moments new → HaveJoined new
  run_joined accounts sends old [] new counted told same = subst HaveJoined (sym same) told
  run_joined accounts sends old (Step event ∷ moments) new counted told run =
      run_joined accounts sends run.0 moments new (step_is_counted switch manager host accounts sends old event run.0 counted run.1.0 run.1.1)
      (step_joined old event run.0 counted run.1.1 told) run.2
  run_joined accounts sends old (Mark entry ∷ moments) new counted told run =
      run_joined accounts sends run.0 moments new (marked_counted old run.0 entry run.1.0 run.1.1 counted)
      (subst HaveJoined (sym run.1.1) (left_joined old (noted old entry) (record { grows = grows_by old.journal (entry ∷ []) (mark_unsent entry run.1.0); hosts = refl }) told)) run.2
