-- Grants are in order at boot, and so in every run.
use Rattle.std.proofs.Common.{◌≡◌, ◌+◌, ◌-◌, ◌==◌, ℕ, Bool, true, false, if◌then◌else◌, List, [], ◌∷◌, ◌++◌, replicate, Option, Some, None, slice_get, refl, sym, subst, ◌∙◌, inl, inr, ◌≤◌, arith, le_refl}
use Rattle.std.proofs.lemmas.List.{length-replicate}
use Rattle.std.proofs.lemmas.Option.{none-some}
use Rattle.pl_lemmas.proofs.Exports.{from_map, replicated_none}
use Rattle.pl_frame.specs.declared.address.Ip4.{Ip4}
use Rattle.pl_frame.specs.declared.address.Mac.{Mac}
use Rattle.pl_frame.specs.declared.address.SwitchId.{SwitchId}
use Rattle.pl_pmac.specs.declared.pmac.Pmac.{Pmac}
use Rattle.pl_wiring.specs.Plan.{IsPlan, Plan}
use Rattle.pl_journal.specs.declared.entry.Entry.{Entry}
use Rattle.pl_journal.specs.declared.entry.Entry.TheVariants.{Freed, Granted}
use Rattle.pl_node.specs.declared.switch_records.Grant.{Grant}
use Rattle.pl_node.specs.HostDuties.{HostsSendData, HostsSendOwn}
use Rattle.pl_node.specs.HostInputs.{HostRule}
use Rattle.pl_node.specs.ManagerDuties.{ManagerRule}
use Rattle.pl_node.specs.SwitchFacts.{switch_at_boot}
use Rattle.pl_node.specs.SwitchViews.{SwitchView}
use Rattle.pl_manager_rule.specs.WholeRule.{whole_rule}
use Rattle.pl_queues.specs.Queues.{items_at}
use Rattle.pl_switch_rule.specs.SwitchRule.{Loose}
use Rattle.pl_switch_rule.proofs.Exports.{granted_parts, loose_steps_are_accounted}
use Rattle.pl_world.specs.declared.event.Event.{Event}
use Rattle.pl_world.specs.declared.limits.Limits.{Limits}
use Rattle.pl_world.specs.Booting.{CanBegin, booted}
use Rattle.pl_world.specs.Changes.{noted}
use Rattle.pl_world.specs.Flying.{IsCounted}
use Rattle.pl_world.specs.Runs.{Befalls, IsMark, Moment, WorldRun}
use Rattle.pl_world.specs.Runs.Moment.{Mark, Step}
use Rattle.pl_world.specs.WorldRule.{WorldStep}
use Rattle.pl_world.specs.Worlds.{WorldView}
use Rattle.pl_world.proofs.Exports.{booted_is_counted, run_is_counted}
use Rattle.pl_law_addresses.specs.OwnAddresses.{own_ip}
use Rattle.pl_law_addresses.specs.FreeVmids.{AreFreeVmids, is_free}
use Rattle.pl_law_addresses.specs.EdgeAddresses.{IsGoodAddressTable, is_live}
use Rattle.pl_law_addresses.specs.Addressed.{AreApart, AreGrounded, KnowNeighbours}
use Rattle.pl_law_addresses.specs.GrantedOnce.{AreGrantedOnce, StayUnlessFreed, times_freed, times_granted}
use Rattle.pl_law_addresses.specs.InOrder.{GrantsAreInOrder}
use Rattle.pl_law_addresses.proofs.Entries.{IsNoAddressEntry}
use Rattle.pl_law_addresses.proofs.EventsKeepAddresses.{facts_of, happens_in_order}
use Rattle.pl_law_addresses.proofs.OwnHosts.{hosts_own_first, nothing_at}
use Rattle.pl_law_addresses.proofs.RowsLeaveAddresses.{live_held}
use Rattle.pl_law_addresses.proofs.TurnQueues.{Parts, one_quiet, parts_of}
use Rattle.pl_law_addresses.proofs.TurnsKeepAddresses.{Earlier, InOrder, moment_of, no_moment}

-- ---- a step, and a run
pub mark_quiet : (e : Entry) → IsMark e → IsNoAddressEntry e
mark_quiet (Granted pmac host switch port) is = absurd is
mark_quiet (Freed pmac) is = absurd is
mark_quiet e is = λ x. refl

mark_in_order : (first : Earlier) (old new : WorldView) (entry : Entry) → IsMark entry → new ≡ noted old entry → InOrder first (parts_of old) →
    InOrder first (parts_of new)
mark_in_order first old new entry is same o =
    subst (λ (w : WorldView). InOrder first (parts_of w)) (sym same)
    (subst (λ (p : Parts). InOrder first p) (sym (one_quiet old entry (mark_quiet entry is))) o)

module _ (first : Earlier) (rule : HostRule) (sends : HostsSendData rule) (owns : HostsSendOwn rule) where
  pub step_in_order : (manager : ManagerRule) (old : WorldView) (e : Event) (new : WorldView) → IsCounted old → KnowNeighbours old → AreApart new.switches →
      WorldStep Loose manager rule old e new → InOrder first (parts_of old) → InOrder first (parts_of new)
  step_in_order manager old e new counted know apart step o =
      happens_in_order first (record old { steps = old.steps + 1 }) (facts_of old counted)
      (record { tables = o.tables; own = o.own; since = o.since; rises = o.rises; given = o.given; once = o.once }) rule sends owns manager e new know apart step

  run_more : (a b c : WorldView) (moments : List Moment) (m : Moment) → WorldRun Loose whole_rule rule a moments b → Befalls Loose whole_rule rule b m c →
      WorldRun Loose whole_rule rule a (moments ++ m ∷ []) c
  run_more a b c [] m run more = (c, subst (λ (w : WorldView). Befalls Loose whole_rule rule w m c) run more, refl)
  run_more a b c (x ∷ moments) m run more = (run.0, run.1, run_more run.0 b c moments m run.2 more)

  module _ (plan : Plan) (limits : Limits) (can : CanBegin plan) (grounded : AreGrounded rule plan limits) where
    from_there : (before : List Moment) (old : WorldView) → WorldRun Loose whole_rule rule (booted plan limits) before old → InOrder first (parts_of old) →
        (moments : List Moment) (new : WorldView) → WorldRun Loose whole_rule rule old moments new → InOrder first (parts_of new)
    from_there before old run o [] new same = subst (λ (w : WorldView). InOrder first (parts_of w)) (sym same) o
    from_there before old run o (Step e ∷ moments) new rest =
        let longer = run_more (booted plan limits) old rest.0 before (Step e) run rest.1 in
        let counted = run_is_counted Loose whole_rule rule loose_steps_are_accounted sends (booted plan limits) before old
        (booted_is_counted plan limits can) run in
        from_there (before ++ Step e ∷ []) rest.0 longer
        (step_in_order whole_rule old e rest.0 counted (grounded before old run).neighbours (grounded (before ++ Step e ∷ []) rest.0 longer).apart rest.1.1 o)
        moments new rest.2
    from_there before old run o (Mark entry ∷ moments) new rest =
        let longer = run_more (booted plan limits) old rest.0 before (Mark entry) run rest.1 in
        from_there (before ++ Mark entry ∷ []) rest.0 longer (mark_in_order first old rest.0 entry rest.1.0 rest.1.1 o) moments new rest.2

-- ---- the beginning
none_free : AreFreeVmids [] []
none_free = record { listed = λ vmid. sym (no_grant (vmid == 0) vmid); once = tt }
  where
    no_grant : (b : Bool) (vmid : ℕ) → is_free (if b then None else slice_get [] (vmid - 1)) ≡ false
    no_grant true vmid = refl
    no_grant false vmid = refl

first_table : (own : Mac → Option Ip4) (k : ℕ) (id : SwitchId) → IsGoodAddressTable own (switch_at_boot id k)
first_table own k id = record {
  many = length-replicate k [];
  many_freed = length-replicate k [];
  empty = λ unsettled port. nothing_at k port;
  free = λ port.
      subst (λ (fs : List ℕ). AreFreeVmids (items_at {T = Grant} (replicate k []) port) fs) (sym (nothing_at k port))
      (subst (λ (gs : List Grant). AreFreeVmids gs []) (sym (nothing_at k port)) none_free);
  sources = λ port source is. absurd (none-some source (sym (replicated_none k port) ∙ is));
}

pub boots_in_order : (plan : Plan) (limits : Limits) → IsPlan plan → InOrder no_moment (parts_of (booted plan limits))
boots_in_order plan limits is_plan = record {
  tables = λ s v is. let it = from_map (λ id. switch_at_boot id plan.k) plan.ids s v is in
      subst (λ (u : SwitchView). IsGoodAddressTable (λ mac. own_ip plan mac) u) it.2 (first_table (λ mac. own_ip plan mac) plan.k it.0);
  own = hosts_own_first plan limits is_plan;
  since = λ s v is. absurd (none-some v is);
  rises = λ x. omega arith;
  given = λ x more kept s v is. absurd (none-some v is);
  once = λ x. inl (omega arith);
}

pub run_in_order : (rule : HostRule) → HostsSendData rule → HostsSendOwn rule → (plan : Plan) (limits : Limits) → CanBegin plan → AreGrounded rule plan limits →
    (moments : List Moment) (new : WorldView) → WorldRun Loose whole_rule rule (booted plan limits) moments new → InOrder no_moment (parts_of new)
run_in_order rule sends owns plan limits can grounded moments new run =
    from_there no_moment rule sends owns plan limits can grounded [] (booted plan limits) refl (boots_in_order plan limits can.is_plan) moments new run

-- seen from the beginning, and from itself
pub as_ordered : (w : WorldView) → GrantsAreInOrder w → InOrder no_moment (parts_of w)
as_ordered w o = record {
  tables = o.tables;
  own = o.own;
  since = λ s v is. absurd (none-some v is);
  rises = λ x. omega arith;
  given = λ x more kept s v is. absurd (none-some v is);
  once = o.once;
}

pub from_itself : (w : WorldView) → GrantsAreInOrder w → InOrder (moment_of w) (parts_of w)
from_itself w o = record {
  tables = o.tables;
  own = o.own;
  since = λ s v is. record { view = v; found = is; keeps = λ x mac kept h. h; place = λ settled. refl };
  rises = λ x. le_refl (times_freed x w.journal);
  given = λ x more kept. absurd (omega (arith, more));
  once = o.once;
}

pub ordered : (first : Earlier) (w : WorldView) → InOrder first (parts_of w) → GrantsAreInOrder w
ordered first w o = record { tables = o.tables; own = o.own; once = o.once }

-- from one moment of a run to a later one
pub since_then : (rule : HostRule) → HostsSendData rule → HostsSendOwn rule → (plan : Plan) (limits : Limits) → CanBegin plan → AreGrounded rule plan limits →
    (moments more : List Moment) (old new : WorldView) → WorldRun Loose whole_rule rule (booted plan limits) moments old →
    WorldRun Loose whole_rule rule old more new →
    InOrder (moment_of old) (parts_of new)
since_then rule sends owns plan limits can grounded moments more old new run rest =
    from_there (moment_of old) rule sends owns plan limits can grounded moments old run
    (from_itself old (ordered no_moment old (run_in_order rule sends owns plan limits can grounded moments old run))) more new rest

-- no address is granted again before it was freed
pub granted_at_most_once : (w : WorldView) → AreGrantedOnce w.switches w.journal → (x : Pmac) → times_granted x w.journal ≤ times_freed x w.journal + 1
granted_at_most_once w once x = elim (once x) [ inl few ↦ omega (arith, few) | inr one ↦ (let is = one.0 in omega (arith, is)) ]

-- one step
pub one_step : (rule : HostRule) → HostsSendData rule → HostsSendOwn rule → (manager : ManagerRule) (old : WorldView) (e : Event) (new : WorldView) →
    IsCounted old → KnowNeighbours old → AreApart new.switches → WorldStep Loose manager rule old e new → GrantsAreInOrder old → GrantsAreInOrder new
one_step rule sends owns manager old e new counted know apart step o =
    ordered no_moment new (step_in_order no_moment rule sends owns manager old e new counted know apart step (as_ordered old o))

-- a mark is neither a grant nor a freeing
pub mark_ordered : (w : WorldView) (entry : Entry) → IsMark entry → GrantsAreInOrder w → GrantsAreInOrder (noted w entry)
mark_ordered w entry is o = ordered no_moment (noted w entry) (mark_in_order no_moment w (noted w entry) entry is refl (as_ordered w o))

pub first_ordered : (plan : Plan) (limits : Limits) → IsPlan plan → GrantsAreInOrder (booted plan limits)
first_ordered plan limits is_plan = ordered no_moment (booted plan limits) (boots_in_order plan limits is_plan)

-- what was a host's before a step is so behind it, unless it was freed
pub one_step_keeps : (rule : HostRule) → HostsSendData rule → HostsSendOwn rule → (manager : ManagerRule) (old : WorldView) (e : Event) (new : WorldView) →
    IsCounted old → KnowNeighbours old → AreApart new.switches → WorldStep Loose manager rule old e new → GrantsAreInOrder old →
    StayUnlessFreed old.switches old.journal new.switches new.journal
one_step_keeps rule sends owns manager old e new counted know apart step o =
    (step_in_order (moment_of old) rule sends owns manager old e new counted know apart step (from_itself old o)).since

-- no two edge switches have one address for a host
pub granted_once : (switches : List SwitchView) → AreApart switches → (s t : ℕ) (v u : SwitchView) (x : Pmac) → slice_get switches s ≡ Some v →
    slice_get switches t ≡ Some u →
    is_live v x ≡ true → is_live u x ≡ true → s ≡ t
granted_once switches apart s t v u x is also here there =
    let h = live_held v x here in
    let o = live_held u x there in
    apart s t v u x is also (granted_parts v x h.1.grant h.1.found).0 (granted_parts u x o.1.grant o.1.found).0
