-- A switch settles: it grants addresses to the sources that it remembers, with no frame in hand.
use Rattle.std.proofs.Common.{◌≡◌, ℕ, ◌<◌, true, List, [], ◌∷◌, length, reverse, Option, None, Some, set, refl, sym, ◌∙◌, subst, arith}
use Rattle.std.specs.List.{AllByRecursion, fold}
use Rattle.std.proofs.lemmas.Bool.{false≢true}
use Rattle.std.proofs.lemmas.Option.{slice_get_within}
use Rattle.pl_pmac.specs.declared.pmac.Pmac.{Pmac}
use Rattle.pl_wiring.specs.Plan.{Plan}
use Rattle.pl_layouts.specs.declared.place.Place.{Place}
use Rattle.pl_journal.specs.declared.entry.Entry.{Entry}
use Rattle.pl_journal.specs.declared.entry.Entry.TheVariants.{Granted}
use Rattle.pl_journal.specs.Flights.{came_in, has_just_come_in}
use Rattle.pl_journal.specs.Places.{EdgePort, at_port}
use Rattle.pl_node.specs.declared.acts.Act.{Act}
use Rattle.pl_node.specs.declared.acts.Act.TheVariants as act
use Rattle.pl_node.specs.Accounting.{AccountsForFrames, CanCome, IsFit, IsShaped, first_frame_state, is_said, frame_state_after}
use Rattle.pl_node.specs.Accounting.FrameState.{Silent as SaidNone}
use Rattle.pl_node.specs.SwitchInputs.{SwitchInput, SwitchRule}
use Rattle.pl_node.specs.SwitchViews.{SwitchView}
use Rattle.pl_world.specs.declared.spoken_frame.SpokenFrame.TheVariants.{Silent}
use Rattle.pl_world.specs.Changes.{host_no, host_of, switch_no}
use Rattle.pl_world.specs.SwitchActs.{DuringActs, act_done, acts_done, granted}
use Rattle.pl_world.specs.WorldRule.{SwitchTurn}
use Rattle.pl_world.specs.Worlds.{WorldView}
use Rattle.pl_world.proofs.Exports.{act_steady, all_found, amid, Sound, Steady, switches_rest}
use Rattle.pl_law_flights.specs.OnTheWay.{IsJournaled, place_in}
use Rattle.pl_law_flights.specs.Standing.{IsMore}
use Rattle.pl_law_flights.proofs.ActsKeepFlights.{IsDone, control_amid, done_journaled}
use Rattle.pl_law_flights.proofs.Counting.{counts, nobody}
use Rattle.pl_law_flights.proofs.Granting.{note_grant, IsGivable}
use Rattle.pl_law_flights.proofs.RoutesStay.{tells_grown}
use Rattle.pl_law_flights.proofs.Hands.{IsAmid}
use Rattle.pl_law_flights.proofs.Hands.Hand.{Empty}
use Rattle.pl_law_flights.proofs.EntriesOfFlights.{reverse_noted}

abbrev pub GrantsFor : (List Entry → Type 0) → Plan → ℕ → List Entry → Pmac → Option ℕ → Type 0
GrantsFor next plan s past pmac None = next past
GrantsFor next plan s past pmac (Some h) =
    IsGivable plan past pmac h (at_port s pmac.port) × next (Granted pmac (host_no h) (switch_no s) pmac.port ∷ past)

-- what the part on addresses gives: each address that is granted may be granted then
abbrev pub GrantsWell : Plan → ℕ → List Act → List Entry → Type 0
GrantsWell plan s [] past = Unit {0}
GrantsWell plan s (act.Control port frame ∷ acts) past = GrantsWell plan s acts past
GrantsWell plan s (act.Tell told ∷ acts) past = GrantsWell plan s acts past
GrantsWell plan s (act.Grant pmac amac ∷ acts) past = GrantsFor (GrantsWell plan s acts) plan s past pmac (host_of plan amac)
GrantsWell plan s (a ∷ acts) past = ⊥

-- no frame has just come in at this switch
abbrev pub HasNoneJustIn : Plan → List Entry → ℕ → Type 0
HasNoneJustIn plan past s = (g : ℕ) → has_just_come_in past g ≡ true → (at : EdgePort) → came_in plan past g ≡ Some at → at.edge ≡ s → ⊥

settles : (place : ℕ → Place) (s k : ℕ) (w : WorldView) (past : List Entry) (acts : List Act) → AllByRecursion (IsFit k) acts →
    is_said (fold frame_state_after SaidNone acts) ≡ true → Steady s k w Silent [] → IsAmid place s Empty past w Silent [] → GrantsWell w.plan s acts past →
    HasNoneJustIn w.plan past s → IsDone place s k (acts_done s (amid w Silent []) acts)
settles place s k w past [] fits said st a well away = record { hand = Empty; past = past; amid = a; steady = st; said = refl }
settles place s k w past (act.Control port frame ∷ acts) fits said st a well away =
    let d : DuringActs = act_done s (amid w Silent []) (act.Control port frame) in
    settles place s k d.world past acts fits.1 said (act_steady s k w Silent [] (act.Control port frame) fits.0 tt st)
    (control_amid place s k w Silent [] past Empty port frame fits.0 st a) well away
settles place s k w past (act.Tell told ∷ acts) fits said st a well away =
    let d : DuringActs = act_done s (amid w Silent []) (act.Tell told) in
    settles place s k d.world past acts fits.1 said (act_steady s k w Silent [] (act.Tell told) fits.0 tt st)
    a well away
settles place s k w past (act.Grant pmac amac ∷ acts) fits said st a well away =
    by_host (host_of w.plan amac) (act_steady s k w Silent [] (act.Grant pmac amac) fits.0 tt st) well
    (λ u later st2 a2 well2 away2. settles place s k u later acts fits.1 said st2 a2 well2 away2)
  where
    by_host : (o : Option ℕ) → Steady s k (granted w s pmac o) Silent [] → GrantsFor (GrantsWell w.plan s acts) w.plan s past pmac o →
        ((u : WorldView) (later : List Entry) → Steady s k u Silent [] → IsAmid place s Empty later u Silent [] → GrantsWell u.plan s acts later →
        HasNoneJustIn u.plan later s → IsDone place s k (acts_done s (amid u Silent []) acts)) →
        IsDone place s k (acts_done s (amid (granted w s pmac o) Silent []) acts)
    by_host None st2 well2 further = further w past st2 a well2 away
    by_host (Some h) st2 well2 further =
        let e : Entry = Granted pmac (host_no h) (switch_no s) pmac.port in
        let c = counts w past _ a.is st.balance in
        further (granted w s pmac (Some h)) (e ∷ past) st2
        (record {
          is = reverse_noted w.journal past e a.is;
          tells = note_grant w.plan place past w.links w.attachments w.from_hosts w.out 0 pmac (host_no h) (switch_no s) pmac.port
              (nobody past w.from_hosts w.out _ c) well2.0 (λ g other. away g) a.tells;
          holds = tt;
          puts_off = tt;
        }) well2.1 (λ g just. absurd (false≢true just))
settles place s k w past (a ∷ acts) fits said st b well away = absurd well

-- a turn of a switch with no frame in hand, by what is told amid its acts
pub done_turn : (rule : SwitchRule) → AccountsForFrames rule → (w : WorldView) (s : ℕ) (input : SwitchInput) (new : WorldView) → SaidNone ≡ first_frame_state input →
    ((v : SwitchView) → v.k ≡ w.plan.k → CanCome v input) → Sound w → IsJournaled w → (turn : SwitchTurn rule w s input Silent new) →
    IsMore (place_in w.switches) (place_in new.switches) →
    ((w1 : WorldView) → w1.plan ≡ w.plan → AllByRecursion (IsFit turn.before.k) turn.acts → is_said (fold frame_state_after SaidNone turn.acts) ≡ true →
    Steady s turn.before.k w1 Silent [] → IsAmid (place_in new.switches) s Empty (reverse w.journal) w1 Silent [] →
    IsDone (place_in new.switches) s turn.before.k (acts_done s (amid w1 Silent []) turn.acts)) → IsJournaled new
done_turn rule accounts w s input new same can so told turn more done =
    let r = so.rest in
    let size : turn.before.k ≡ w.plan.k = all_found (λ (u : SwitchView). u.k ≡ w.plan.k) w.switches s turn.before turn.found r.ports in
    let shaped : IsShaped turn.before = all_found IsShaped w.switches s turn.before turn.found r.shaped in
    let within : s < length w.switches = slice_get_within w.switches s turn.before turn.found in
    let kept = accounts turn.before input turn.after turn.acts shaped (can turn.before size) turn.ruled in
    let k : ℕ = turn.before.k in
    let w1 : WorldView = record w { switches = set w.switches s turn.after } in
    let start : Steady s k w1 Silent [] = record {
      size = sym size;
      switch = rw size (let many = r.switches_many in omega arith);
      none = refl;
      balance = so.balance;
      rest = switches_rest w s turn.after (kept.k ∙ size) kept.shaped r;
    } in
    let said : is_said (fold frame_state_after SaidNone turn.acts) ≡ true = rw same kept.said in
    let a : IsAmid (place_in new.switches) s Empty (reverse w.journal) w1 Silent [] = record {
      is = refl;
      tells = tells_grown (place_in w.switches) (place_in new.switches) more w.plan (reverse w.journal) w.links w.attachments w.from_hosts w.out told;
      holds = tt;
      puts_off = tt;
    } in
    done_journaled (place_in new.switches) s k (acts_done s (amid w1 Silent []) turn.acts) turn.before.place turn.after.place (done w1 refl kept.fit said start a) new turn.changed

-- one in which addresses are granted
pub settling_turn : (rule : SwitchRule) → AccountsForFrames rule → (w : WorldView) (s : ℕ) (input : SwitchInput) (new : WorldView) → SaidNone ≡ first_frame_state input →
    ((v : SwitchView) → v.k ≡ w.plan.k → CanCome v input) → Sound w → IsJournaled w → (turn : SwitchTurn rule w s input Silent new) →
    IsMore (place_in w.switches) (place_in new.switches) → GrantsWell w.plan s turn.acts (reverse w.journal) → HasNoneJustIn w.plan (reverse w.journal) s → IsJournaled new
settling_turn rule accounts w s input new same can so told turn more well away =
    done_turn rule accounts w s input new same can so told turn more (λ w1 plan fit said start a.
    settles (place_in new.switches) s turn.before.k w1 (reverse w.journal) turn.acts fit said start a
    (subst (λ (p : Plan). GrantsWell p s turn.acts (reverse w.journal)) (sym plan) well) (subst (λ (p : Plan). HasNoneJustIn p (reverse w.journal) s) (sym plan) away))
