-- Each step and each mark keeps to the tree, where no link is repaired; and so does each run.
use Rattle.std.proofs.Common.{◌≡◌, ℕ, ◌+◌, ◌≤◌, List, [], ◌∷◌, None, ◌∙◌, subst, sym, refl, arith, reverse}
use Rattle.std.specs.List.{AllByRecursion}
use Rattle.pl_journal.specs.declared.entry.Entry.{Entry}
use Rattle.pl_journal.specs.declared.entry.Entry.TheVariants.{Arrived, Copied, Crossed, Dropped, Freed, Granted, Line, LinkDown, LinkUp, Made, Moved, Placed, Redirected, Registered, Restarted, Sent, Settled, Skipped, Taken, Unsettled}
use Rattle.pl_node.specs.HostDuties.{HostsSendData}
use Rattle.pl_node.specs.HostInputs.{HostRule}
use Rattle.pl_node.specs.ManagerDuties.{ManagerRule}
use Rattle.pl_world.specs.declared.event.Event.{Event}
use Rattle.pl_world.specs.Flying.{IsCounted}
use Rattle.pl_world.specs.LinksAndMoves.{host_moved}
use Rattle.pl_world.specs.Refusals.{refusal}
use Rattle.pl_world.specs.Runs.{Befalls, IsMark, Moment, WorldRun}
use Rattle.pl_world.specs.Runs.Moment.{Mark, Step}
use Rattle.pl_world.specs.WorldRule.{WorldStep}
use Rattle.pl_world.specs.Worlds.{WorldView}
use Rattle.pl_world.proofs.Exports.{born_once, by_event_but, ByTurns, counted as to_counted, event_is_not_refused, Left, marked_counted, same_refusal, sound, step_is_counted}
use Rattle.pl_world.proofs.Exports.Left.{LinkFails, Moves, Repairs, Restarts, Stays}
use Rattle.pl_bridge_rule.specs.BridgeRule.{Bridges}
use Rattle.pl_bridge_rule.proofs.Exports.{accounts}
use Rattle.pl_journal.specs.Places.{EdgePort}
use Rattle.pl_law_counts.specs.Counting.{still_to_come}
use Rattle.pl_law_bridge.specs.GoingOut.{goes_out_at, times_gone_out, waiting_at}
use Rattle.pl_law_bridge.specs.Reaching.{Target, nothing_unsaid, to_targets}
use Rattle.pl_law_bridge.specs.Reaching.Target.{Departure}
use Rattle.pl_law_bridge.specs.TreeWorld.{IsNoRepair, KeepsToTree, LiveIsTree, RepairsNothing}
use Rattle.pl_law_bridge.proofs.Acting.{IsKeptIn, noted_kept}
use Rattle.pl_law_bridge.proofs.Changing.{IsIdle}
use Rattle.pl_law_bridge.proofs.GoingOut.{gone_by, gone_stepped, waiting_may_go}
use Rattle.pl_law_bridge.proofs.Happening.{fewer, happens_kept}
use Rattle.pl_law_bridge.proofs.LiveLinks.{fails_keep}

-- ---- which links are live
stays_live : (a b : WorldView) → ByTurns a b → LiveIsTree a.plan a.links → LiveIsTree b.plan b.links
stays_live a b r live = subst (λ (x : WorldView). LiveIsTree x.plan x.links) (sym r) live

event_live : (w : WorldView) (e : Event) (new : WorldView) → IsNoRepair e → Left ByTurns w e new → LiveIsTree w.plan w.links → LiveIsTree new.plan new.links
event_live w e new none (Stays r) live = stays_live w new r live
event_live w e new none (Moves h s port from is found r) live = stays_live (host_moved w h.0 from (record { edge = s; port = port })) new r live
event_live w e new none (LinkFails a b link is found fails) live =
    subst (λ (x : WorldView). LiveIsTree x.plan x.links) (sym fails) (fails_keep w.plan w.links link live)
event_live w e new none (Repairs a b link is found repaired) live = absurd (subst IsNoRepair is none)
event_live w e new none (Restarts is anew) live = subst (λ (x : WorldView). LiveIsTree x.plan x.links) (sym anew) live

mark_is_idle : (e : Entry) → IsMark e → IsIdle e
mark_is_idle (Line n) is = tt
mark_is_idle (Settled n) is = tt
mark_is_idle (Unsettled n) is = tt
mark_is_idle (Copied g c) is = absurd is
mark_is_idle (Crossed g s) is = absurd is
mark_is_idle (Sent g h f) is = absurd is
mark_is_idle (Skipped h skip) is = absurd is
mark_is_idle (Made g s f) is = absurd is
mark_is_idle (Redirected g old new) is = absurd is
mark_is_idle (Arrived g h f) is = absurd is
mark_is_idle (Taken g s) is = absurd is
mark_is_idle (Dropped g why) is = absurd is
mark_is_idle (Granted p h e q) is = absurd is
mark_is_idle (Registered p n) is = absurd is
mark_is_idle (Freed p) is = absurd is
mark_is_idle (Placed s place) is = absurd is
mark_is_idle (LinkDown a b) is = absurd is
mark_is_idle (LinkUp a b) is = absurd is
mark_is_idle (Moved h e p) is = absurd is
mark_is_idle (Restarted number) is = absurd is

abbrev at_moment : WorldView → Moment → ℕ → Target → ℕ
at_moment old (Step e) r there = gone_by old e r there
at_moment old (Mark e) r there = 0

module _ (unsaid : ℕ → Target → ℕ) (manager : ManagerRule) (host : HostRule) (sends : HostsSendData host) where
  -- a moment, with what goes out then
  moment_counts : (old : WorldView) (moment : Moment) (new : WorldView) → Befalls Bridges manager host old moment new → IsCounted old → LiveIsTree old.plan old.links →
      IsKeptIn unsaid old → IsKeptIn (λ r there. at_moment old moment r there + unsaid r there) new
  moment_counts old (Step e) new befalls counted live kept =
      let now : WorldView = record old { steps = old.steps + 1 } in
      let so = sound old counted in
      fewer (λ r there. gone_by now e r there + unsaid r there) new (λ r there. gone_by old e r there + unsaid r there)
      (λ r there. let same = gone_stepped old (old.steps + 1) e r there in omega arith)
      (happens_kept unsaid accounts now (to_counted now (record { balance = so.balance; rest = so.rest })) (record { once = kept.once; travels = kept.travels }) live new
      manager host e (same_refusal old e ∙ event_is_not_refused old e befalls.0) befalls.1)
  moment_counts old (Mark e) new befalls counted live kept =
      fewer unsaid new (λ r there. 0 + unsaid r there) (λ r there. omega arith)
      (subst (IsKeptIn unsaid) (sym befalls.1) (noted_kept unsaid old e (mark_is_idle e befalls.0) (record { once = kept.once; travels = kept.travels })))

module _ (manager : ManagerRule) (host : HostRule) (sends : HostsSendData host) where
  moment_keeps : (old : WorldView) (moment : Moment) (new : WorldView) → RepairsNothing moment → Befalls Bridges manager host old moment new → KeepsToTree old → KeepsToTree new
  moment_keeps old moment new none befalls is =
      let kept : IsKeptIn nothing_unsaid new = fewer (λ r there. at_moment old moment r there + 0) new nothing_unsaid (λ r there. omega arith)
      (moment_counts nothing_unsaid manager host sends old moment new befalls is.counted is.live (record { once = is.once; travels = is.travels })) in
      record { counted = counts moment befalls; once = kept.once; travels = kept.travels; live = lives moment none befalls }
    where
      counts : (moment : Moment) → Befalls Bridges manager host old moment new → IsCounted new
      counts (Step e) befalls = step_is_counted Bridges manager host accounts sends old e new is.counted befalls.0 befalls.1
      counts (Mark e) befalls = marked_counted old new e befalls.0 befalls.1 is.counted

      lives : (moment : Moment) → RepairsNothing moment → Befalls Bridges manager host old moment new → LiveIsTree new.plan new.links
      lives (Step e) none befalls =
          let now : WorldView = record old { steps = old.steps + 1 } in event_live now e new none (by_event_but Bridges manager host now e new befalls.1) is.live
      lives (Mark e) none befalls = subst (λ (x : WorldView). LiveIsTree x.plan x.links) (sym befalls.1) is.live

  pub step_keeps : (old : WorldView) (e : Event) (new : WorldView) → refusal old e ≡ None → IsNoRepair e → WorldStep Bridges manager host old e new → KeepsToTree old → KeepsToTree new
  step_keeps old e new fine none step is = moment_keeps old (Step e) new none (fine, step) is

  pub run_keeps : (old : WorldView) (moments : List Moment) (new : WorldView) → AllByRecursion RepairsNothing moments → WorldRun Bridges manager host old moments new →
      KeepsToTree old → KeepsToTree new
  run_keeps old [] new none run is = subst KeepsToTree (sym run) is
  run_keeps old (moment ∷ moments) new none run is = run_keeps run.0 moments new none.1 run.2 (moment_keeps old moment run.0 none.0 run.1 is)

  -- ---- what goes out in a run
  moment_gone : (old : WorldView) (moment : Moment) (r : ℕ) (there : EdgePort) → at_moment old moment r (Departure there) ≡ goes_out_at old moment r there
  moment_gone old (Step e) r there = refl
  moment_gone old (Mark e) r there = refl

  run_counts : (unsaid : ℕ → Target → ℕ) (old : WorldView) (moments : List Moment) (new : WorldView) → AllByRecursion RepairsNothing moments →
      (run : WorldRun Bridges manager host old moments new) → KeepsToTree old → IsKeptIn unsaid old → (r : ℕ) (there : EdgePort) →
      times_gone_out Bridges manager host old moments new run r there + waiting_at new r there + unsaid r (Departure there) ≤ 1
  run_counts unsaid old [] new none run is kept r there =
      let all = kept.once.once r (Departure there) in
      let most = born_once r old.begun in
      let waits : waiting_at new r there ≤ still_to_come (to_targets nothing_unsaid) old.plan (reverse old.journal) old.from_hosts old.out r (Departure there) =
      subst (λ (w : WorldView). waiting_at w r there ≤ still_to_come (to_targets nothing_unsaid) old.plan (reverse old.journal) old.from_hosts old.out r (Departure there)) (sym run) (waiting_may_go old r there) in
      omega (arith, all, most, waits)
  run_counts unsaid old (moment ∷ moments) new none run is kept r there =
      let rest = run_counts (λ r there. at_moment old moment r there + unsaid r there) run.0 moments new none.1 run.2
      (moment_keeps old moment run.0 none.0 run.1 is)
      (moment_counts unsaid manager host sends old moment run.0 run.1 is.counted is.live kept) r there in
      let this = moment_gone old moment r there in
      omega arith

  pub goes_out_once : (old : WorldView) (moments : List Moment) (new : WorldView) → AllByRecursion RepairsNothing moments →
      (run : WorldRun Bridges manager host old moments new) → KeepsToTree old → (r : ℕ) (there : EdgePort) →
      times_gone_out Bridges manager host old moments new run r there + waiting_at new r there ≤ 1
  goes_out_once old moments new none run is r there =
      let all = run_counts nothing_unsaid old moments new none run is (record { once = is.once; travels = is.travels }) r there in omega arith
