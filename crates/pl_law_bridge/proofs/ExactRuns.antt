-- In a run a frame whose way stays clear, and that has ended, went the way and arrived.
use Rattle.std.proofs.Common.{◌≡◌, ℕ, ◌+◌, ◌≤◌, false, List, [], ◌∷◌, None, Some, reverse, refl, sym, ap, ◌∙◌, subst, arith, append-nil, inl, inr}
use Rattle.std.specs.List.{AllByRecursion}
use Rattle.std.proofs.lemmas.List.{reverse-reverse}
use Rattle.std.proofs.lemmas.Option.{none-some}
use Rattle.pl_frame.specs.declared.address.Mac.{Mac}
use Rattle.pl_frame.specs.Ethernet.{destination_of}
use Rattle.pl_layouts.specs.Memberships.{is_group}
use Rattle.pl_wiring.specs.declared.label.SwitchNo.{SwitchNo}
use Rattle.pl_wiring.specs.Plan.{Plan}
use Rattle.pl_journal.specs.declared.entry.Entry.{Entry}
use Rattle.pl_journal.specs.declared.entry.Entry.TheVariants.{Arrived}
use Rattle.pl_journal.specs.Flights.{ends, first_of}
use Rattle.pl_journal.specs.Lossy.{mac_of_host}
use Rattle.pl_node.specs.HostDuties.{HostsKeepFrames, HostsSendData}
use Rattle.pl_node.specs.HostInputs.{HostRule}
use Rattle.pl_node.specs.ManagerDuties.{ManagerRule}
use Rattle.pl_node.proofs.Exports.{among_of_Contains, Contains-of_among, IsAmong}
use Rattle.pl_queues.specs.Queues.{items_at}
use Rattle.pl_world.specs.declared.attachment.AttachmentPoint.{AttachmentPoint}
use Rattle.pl_world.specs.declared.item.Item.{Item}
use Rattle.pl_world.specs.declared.item.Item.TheVariants.{Data}
use Rattle.pl_world.specs.declared.limits.Limits.{Limits}
use Rattle.pl_world.specs.Booting.{CanBegin}
use Rattle.pl_world.specs.Changes.{host_no}
use Rattle.pl_world.specs.Flying.{IsCounted, times_in_all}
use Rattle.pl_world.specs.Runs.{Moment, WorldRun}
use Rattle.pl_world.specs.Runs.Moment.{Mark, Step}
use Rattle.pl_world.specs.Worlds.{WorldView}
use Rattle.pl_world.proofs.Exports.{born_once, marked_counted, step_is_counted, step_plan}
use Rattle.pl_bridge_rule.specs.BridgeRule.{Bridges}
use Rattle.pl_bridge_rule.proofs.Exports.{accounts}
use Rattle.pl_law_bridge.specs.ExactWay.{IsClear, IsSure, StaysClear, WentBy}
use Rattle.pl_law_bridge.specs.TreeWorld.{KeepsToTree, RepairsNothing, tree_world}
use Rattle.pl_law_bridge.specs.Travelling.{IsUnderWay, WaitsAtHost}
use Rattle.pl_law_bridge.proofs.Beginning.{begins_on_tree}
use Rattle.pl_law_bridge.proofs.ExactWays.{end_stays, event_keeps, is_begun, line, mark_is_aside, mark_keeps, OnWay, Says}
use Rattle.pl_law_bridge.proofs.ExactWays.OnWay.{Came, Under, Waits}
use Rattle.pl_law_bridge.proofs.Hops.{numbers, onto, onto_numbers}
use Rattle.pl_law_bridge.proofs.Keeping.{run_keeps}
use Rattle.pl_law_bridge.proofs.Sparing.{IsThere, spares_noted}
use Rattle.pl_law_bridge.proofs.Sparing.Whereabouts.{AtEnd}
use Rattle.pl_law_bridge.proofs.StandingApart.{run_stands, stand_at_first, StandApart, step_stands}
use Rattle.pl_law_bridge.proofs.Waiting.{waits_in_all}

-- what waits at a host has crossed nothing, and was not copied
found_waiting : (past : List Entry) (many id : ℕ) (frame : List ℕ) (items : List Item) → AllByRecursion (WaitsAtHost past many) items → IsAmong (Data id frame) items →
    IsUnderWay past many None id frame
found_waiting past many id frame [] all among = absurd among
found_waiting past many id frame (item ∷ items) all (inl is) = subst (WaitsAtHost past many) is all.0
found_waiting past many id frame (item ∷ items) all (inr rest) = found_waiting past many id frame items all.1 rest

none_crossed : (switches : List ℕ) → first_of switches ≡ None → switches ≡ []
none_crossed [] none = refl
none_crossed (s ∷ switches) none = absurd (none-some s (sym none))

module _ (w : WorldView) (counted : IsCounted w) (id : ℕ) (over : 1 ≤ ends w.journal id) where
  not_flying : 1 ≤ times_in_all id w.from_hosts + times_in_all id w.out → ⊥
  not_flying some = (let count = counted.flights id in let few = born_once id w.begun in omega (arith, count, few, some, over))

-- a frame has come to host g, having crossed these switches
record HasCome (g id : ℕ) (frame : List ℕ) (switches : List ℕ) (w : WorldView) : Type 0 where
  there : IsThere (AtEnd g) id frame w
  says : Says w id switches

went : (w : WorldView) (g id : ℕ) (frame : List ℕ) (way back : List SwitchNo) → onto back [] ≡ way → HasCome g id frame (numbers back) w → WentBy w id g frame way
went w g id frame way back whole come =
    let all : numbers way ≡ reverse (numbers back) = ap numbers (sym whole) ∙ onto_numbers back [] ∙ append-nil (reverse (numbers back)) in
    record {
      crossed = come.says.crossed ∙ sym (reverse-reverse (numbers back)) ∙ ap reverse (sym all);
      single = come.says.single;
      arrived = Contains-of_among (Arrived id (host_no g) frame) w.journal come.there;
    }

module _ (manager : ManagerRule) (host : HostRule) (sends : HostsSendData host) where
  -- what has come has come, in each run
  stays_come : (g id : ℕ) (frame : List ℕ) (switches : List ℕ) (old : WorldView) (moments : List Moment) (new : WorldView) → IsCounted old → WorldRun Bridges manager host old moments new →
      HasCome g id frame switches old → HasCome g id frame switches new
  stays_come g id frame switches old [] new counted run come = subst (HasCome g id frame switches) (sym run) come
  stays_come g id frame switches old (Step e ∷ moments) new counted run come =
      let next = run.0 in
      let spares = end_stays manager host g id frame old next e counted run.1.1 come.there in
      let begun = is_begun (AtEnd g) id frame old counted come.there in
      stays_come g id frame switches next moments new (step_is_counted Bridges manager host accounts sends old e next counted run.1.0 run.1.1) run.2 (record {
        there = spares.there come.there;
        says = record { crossed = spares.line begun ∙ come.says.crossed; single = spares.single begun ∙ come.says.single };
      })
  stays_come g id frame switches old (Mark e ∷ moments) new counted run come =
      let next = run.0 in
      let spares = spares_noted (AtEnd g) id frame old e (mark_is_aside (AtEnd g) id frame e run.1.0) in
      let begun = is_begun (AtEnd g) id frame old counted come.there in
      stays_come g id frame switches next moments new (marked_counted old next e run.1.0 run.1.1 counted) run.2
      (subst (HasCome g id frame switches) (sym run.1.1) (record {
        there = spares.there come.there;
        says = record { crossed = spares.line begun ∙ come.says.crossed; single = spares.single begun ∙ come.says.single };
      }))

  module _ (keeps : HostsKeepFrames host) (h g id : ℕ) (frame : List ℕ) (other : h ≡ g → ⊥) (unicast : is_group (destination_of frame) ≡ false)
      (from to : AttachmentPoint) (way : List SwitchNo) where
    abbrev mac : Mac
    mac = destination_of frame

    abbrev On : WorldView → Type 0
    On = OnWay h g to way id frame

    abbrev Clear : WorldView → List Moment → WorldView → Type 0
    Clear = StaysClear manager host id h g mac from to way

    clear_at_first : (old : WorldView) (moments : List Moment) (new : WorldView) → Clear old moments new → IsClear old h g mac from to way
    clear_at_first old [] new stays = stays.0
    clear_at_first old (moment ∷ moments) new stays = stays.0

    record At (w : WorldView) : Type 0 where
      counted : IsCounted w
      stand : StandApart w
      addressed : mac_of_host w.plan g ≡ Some mac
      on : On w

    stays_on : (old : WorldView) (moments : List Moment) (new : WorldView) → At old → Clear old moments new → At new
    stays_on old [] new at stays = subst At (sym stays.1) at
    stays_on old (Step e ∷ moments) new at stays =
        let next = stays.2.0 in
        let befalls = stays.2.1 in
        let then_clear = clear_at_first next moments new stays.2.2 in
        let plan = step_plan Bridges manager host old e next befalls.1 in
        stays_on next moments new (record {
          counted = step_is_counted Bridges manager host accounts sends old e next at.counted befalls.0 befalls.1;
          stand = step_stands Bridges manager host old e next befalls.0 befalls.1 at.stand;
          addressed = ap (λ (p : Plan). mac_of_host p g) plan ∙ at.addressed;
          on = event_keeps manager host sends keeps h g id frame other unicast from to way old next e at.counted at.stand befalls.0 befalls.1 at.addressed stays.0 then_clear stays.1 at.on;
        }) stays.2.2
    stays_on old (Mark e ∷ moments) new at stays =
        let next = stays.2.0 in
        let befalls = stays.2.1 in
        stays_on next moments new (record {
          counted = marked_counted old next e befalls.0 befalls.1 at.counted;
          stand = subst StandApart (sym befalls.1) (record { at_ports = at.stand.at_ports; apart = at.stand.apart });
          addressed = ap (λ (x : WorldView). mac_of_host x.plan g) befalls.1 ∙ at.addressed;
          on = subst On (sym befalls.1) (mark_keeps manager host sends keeps h g id frame other unicast from to way old e at.counted befalls.0 at.on);
        }) stays.2.2

    -- once it has ended, it has come
    goes : (old : WorldView) (moments : List Moment) (new : WorldView) (more : List Moment) (last : WorldView) → At old → Clear old moments new → 1 ≤ ends new.journal id →
        WorldRun Bridges manager host new more last → WentBy last id g frame way
    goes old moments new more last at stays over run = by final.on
      where
        final : At new
        final = stays_on old moments new at stays

        by : On new → WentBy last id g frame way
        by (Waits there says) = absurd (not_flying new final.counted id over (let some = waits_in_all id frame new.from_hosts h there in omega (arith, some)))
        by (Under s back ahead port whole is_hop there says) = absurd (not_flying new final.counted id over (let some = waits_in_all id frame new.out _ there in omega (arith, some)))
        by (Came back whole there says) =
            went last g id frame way back whole (stays_come g id frame (numbers back) new more last final.counted run (record { there = there; says = says }))

  pub goes_exactly : HostsKeepFrames host → (plan : Plan) (limits : Limits) (before moments more : List Moment) (old new last : WorldView) (id h g : ℕ) (frame : List ℕ) (way : List SwitchNo) →
      CanBegin plan → AllByRecursion RepairsNothing before → WorldRun Bridges manager host (tree_world plan limits) before old →
      IsSure manager host old moments new id h g frame way → 1 ≤ ends new.journal id → WorldRun Bridges manager host new more last → WentBy last id g frame way
  goes_exactly keeps plan limits before moments more old new last id h g frame way can none run sure over rest =
      let kept : KeepsToTree old = run_keeps manager host sends (tree_world plan limits) before old none run (begins_on_tree plan limits can) in
      let among = among_of_Contains (Data id frame) (items_at old.from_hosts h) sure.waits in
      let waiting = found_waiting (reverse old.journal) old.begun id frame (items_at old.from_hosts h) (kept.travels.at_hosts h) among in
      goes keeps h g id frame sure.other sure.unicast sure.from sure.to way old moments new more last (record {
        counted = kept.counted;
        stand = run_stands Bridges manager host (tree_world plan limits) before old run (stand_at_first plan limits can);
        addressed = sure.addressed;
        on = Waits among (record { crossed = none_crossed (line old id) waiting.crossed; single = waiting.single refl });
      }) sure.stays over rest
