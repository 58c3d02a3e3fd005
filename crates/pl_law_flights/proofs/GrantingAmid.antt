-- Amid the step in which a host's frame comes, its host is granted an address, directly behind the frame's first crossing.
use Rattle.std.proofs.Common.{arith, ◌<◌, length, set, ◌≡◌, ℕ, ◌+◌, ◌==◌, true, false, List, [], ◌∷◌, ◌++◌, Option, None, Some, refl, sym, ◌∙◌, ap, subst}
use Rattle.std.specs.List.{AllByRecursion, fold}
use Rattle.std.proofs.lemmas.Bool.{cond-true, eq-eqb, false≢true, and_parts}
use Rattle.pl_pmac.specs.declared.pmac.Pmac.{Pmac}
use Rattle.pl_frame.specs.declared.address.Mac.{Mac}
use Rattle.pl_layouts.specs.declared.place.Place.{Place}
use Rattle.pl_journal.specs.declared.entry.Entry.{Entry}
use Rattle.pl_journal.specs.declared.entry.Entry.TheVariants.{Granted, Crossed}
use Rattle.pl_journal.specs.Flights.{Flight, address_at, ends, has_just_come_in, address, has_just_crossed, held_at_crossing}
use Rattle.pl_journal.specs.Places.{at_port, live_holder}
use Rattle.pl_node.specs.declared.acts.Act.{Act}
use Rattle.pl_node.specs.declared.acts.Act.TheVariants as act
use Rattle.std.proofs.lemmas.Option.{slice_get_within}
use Rattle.pl_node.specs.Accounting.{AccountsForFrames, CanCome, IsFit, IsShaped, first_frame_state, is_said, frame_state_after}
use Rattle.pl_node.specs.SwitchInputs.{SwitchInput, SwitchRule}
use Rattle.pl_node.specs.SwitchViews.{SwitchView}
use Rattle.pl_world.specs.WorldRule.{SwitchTurn}
use Rattle.pl_world.proofs.Exports.{act_steady, all_found, amid, HasRest, one, owed_by, Owes, Steady, switches_rest}
use Rattle.pl_node.specs.Accounting.FrameState.{Waiting as SaidWaiting}
use Rattle.pl_world.specs.declared.spoken_frame.SpokenFrame.TheVariants.{Waiting}
use Rattle.pl_world.specs.Changes.{host_no, host_of, switch_no}
use Rattle.pl_world.specs.SwitchActs.{DuringActs, act_done, acts_done, granted}
use Rattle.pl_world.specs.Worlds.{WorldView}
use Rattle.pl_law_flights.specs.OnTheWay.{IsJournaled, history_of, place_in}
use Rattle.pl_law_flights.proofs.ActsKeepFlights.{IsDone, acts_journaled, control_amid, done_journaled}
use Rattle.pl_law_flights.proofs.Counting.{counts, owed}
use Rattle.pl_law_flights.proofs.Granting.{granted_source, note_grant, IsGivable}
use Rattle.pl_law_flights.proofs.Hands.{GoodActs, IsAmid, IsHeld}
use Rattle.pl_law_flights.proofs.Hands.Hand.{Waits}
use Rattle.pl_law_flights.proofs.EntriesOfFlights.{reverse_noted}
use Rattle.pl_law_flights.proofs.SilentSteps.{AreSilent}

-- the frame in hand once its sender was granted an address, by the journal then
abbrev pub sourced : List Entry → Flight → Flight
sourced past f = record f { source = address_at past f.sender f.came_in }

come_crossed : (past : List Entry) (id : ℕ) → has_just_come_in past id ≡ true → has_just_crossed past id ≡ true
come_crossed [] id just = absurd (cc)
come_crossed (Crossed g s ∷ past) id just = (and_parts (g == id) _ just).0
come_crossed (entry ∷ past) id just = absurd (cc)

module _ (place : ℕ → Place) (s k : ℕ) (id : ℕ) (f : Flight) (pmac : Pmac) (amac : Mac) (rest : List Act) where
  -- what the acts behind the grant may be, with the larger history
  abbrev pub GoodBehind : WorldView → List Entry → Option ℕ → Type 0
  GoodBehind w past None = GoodActs w.plan place (history_of past) s rest (Waits f false)
  GoodBehind w past (Some h) = IsGivable w.plan past pmac h (at_port s pmac.port)
      × GoodActs w.plan place (history_of (Granted pmac (host_no h) (switch_no s) pmac.port ∷ past)) s rest
      (Waits (sourced (Granted pmac (host_no h) (switch_no s) pmac.port ∷ past) f) false)

  by_host : (w : WorldView) (past : List Entry) (o : Option ℕ) → Steady s k w (Waiting id false) [] → Steady s k (granted w s pmac o) (Waiting id false) [] →
      AllByRecursion (IsFit k) rest → is_said (fold frame_state_after SaidWaiting rest) ≡ true →
      IsAmid place s (Waits f false) past w (Waiting id false) [] → has_just_come_in past id ≡ true →
      ((g : ℕ) → (id == g) ≡ false → has_just_come_in past g ≡ false) → GoodBehind w past o →
      IsDone place s k (acts_done s (amid (granted w s pmac o) (Waiting id false) []) rest)
  by_host w past None st st2 fits said a just away good = acts_journaled place s k w (Waiting id false) [] past (Waits f false) rest fits said st a good
  by_host w past (Some h) st st2 fits said a just away good =
      let e : Entry = Granted pmac (host_no h) (switch_no s) pmac.port in
      let held : IsHeld w.plan s f past id false = a.holds.1 in
      let here : one id id + 0 ≡ 1 + 0 = ap (λ n. n + 0) (cond-true (id == id) 1 0 (eq-eqb id id refl)) in
      let o = owed w.plan past w.from_hosts w.out (λ i. one id i + ends [] i) id 0 a.tells.run (counts w past _ a.is st.balance) here in
      acts_journaled place s k (granted w s pmac (Some h)) (Waiting id false) [] (e ∷ past) (Waits (sourced (e ∷ past) f) false) rest fits said st2
      (record {
        is = reverse_noted w.journal past e a.is;
        tells = note_grant w.plan place past w.links w.attachments w.from_hosts w.out id pmac (host_no h) (switch_no s) pmac.port
            (record { not_at_hosts = o.not_at_hosts; not_out = o.not_out }) good.0
            (λ g other came. absurd (false≢true (sym (away g other) ∙ came))) a.tells;
        holds = (
          refl,
          record {
            in_hand = record {
              flight = granted_source w.plan past pmac (host_no h) (switch_no s) pmac.port id f held.in_hand.flight just;
              live = held.in_hand.live;
              last = held.in_hand.last;
              to = cond-true (has_just_crossed past id) (live_holder (e ∷ past) (address past id)) (held_at_crossing past id (address past id)) (come_crossed past id just);
            };
            turned = tt;
          },
        );
        puts_off = tt;
      }) good.1

  -- silent acts, then the grant, then the rest
  pub grants_amid : (silent : List Act) (w : WorldView) (past : List Entry) → AreSilent silent → AllByRecursion (IsFit k) (silent ++ act.Grant pmac amac ∷ rest) →
      is_said (fold frame_state_after SaidWaiting (silent ++ act.Grant pmac amac ∷ rest)) ≡ true → Steady s k w (Waiting id false) [] →
      IsAmid place s (Waits f false) past w (Waiting id false) [] → has_just_come_in past id ≡ true →
      ((g : ℕ) → (id == g) ≡ false → has_just_come_in past g ≡ false) → GoodBehind w past (host_of w.plan amac) →
      IsDone place s k (acts_done s (amid w (Waiting id false) []) (silent ++ act.Grant pmac amac ∷ rest))
  grants_amid [] w past are fits said st a just away good =
      by_host w past (host_of w.plan amac) st (act_steady s k w (Waiting id false) [] (act.Grant pmac amac) fits.0 tt st) fits.1 said a just away good
  grants_amid (act.Control port frame ∷ silent) w past are fits said st a just away good =
      let d : DuringActs = act_done s (amid w (Waiting id false) []) (act.Control port frame) in
      grants_amid silent d.world past are.1 fits.1 said (act_steady s k w (Waiting id false) [] (act.Control port frame) fits.0 tt st)
      (control_amid place s k w (Waiting id false) [] past (Waits f false) port frame fits.0 st a) just away good
  grants_amid (act.Tell told ∷ silent) w past are fits said st a just away good =
      let d : DuringActs = act_done s (amid w (Waiting id false) []) (act.Tell told) in
      grants_amid silent d.world past are.1 fits.1 said (act_steady s k w (Waiting id false) [] (act.Tell told) fits.0 tt st) a just away good
  grants_amid (x ∷ silent) w past are fits said st a just away good = absurd are.0

-- a turn of a switch with a host's frame in hand, in which its host is granted an address
pub entering_turn : (rule : SwitchRule) → AccountsForFrames rule → (w : WorldView) (s : ℕ) (input : SwitchInput) (new : WorldView) → SaidWaiting ≡ first_frame_state input →
    ((v : SwitchView) → v.k ≡ w.plan.k → CanCome v input) → (id : ℕ) (f : Flight) (past : List Entry) → Owes w (λ i. owed_by (Waiting id false) i + 0) → HasRest w →
    (turn : SwitchTurn rule w s input (Waiting id false) new) → (silent : List Act) (pmac : Pmac) (amac : Mac) (rest : List Act) →
    turn.acts ≡ silent ++ act.Grant pmac amac ∷ rest → AreSilent silent → IsAmid (place_in new.switches) s (Waits f false) past w (Waiting id false) [] →
    has_just_come_in past id ≡ true → ((g : ℕ) → (id == g) ≡ false → has_just_come_in past g ≡ false) →
    GoodBehind (place_in new.switches) s turn.before.k id f pmac amac rest w past (host_of w.plan amac) → IsJournaled new
entering_turn rule accounts w s input new same can id f past owes r turn silent pmac amac rest is are a just away good =
    let size : turn.before.k ≡ w.plan.k = all_found (λ (u : SwitchView). u.k ≡ w.plan.k) w.switches s turn.before turn.found r.ports in
    let shaped : IsShaped turn.before = all_found IsShaped w.switches s turn.before turn.found r.shaped in
    let within : s < length w.switches = slice_get_within w.switches s turn.before turn.found in
    let kept = accounts turn.before input turn.after turn.acts shaped (can turn.before size) turn.ruled in
    let k : ℕ = turn.before.k in
    let w1 : WorldView = record w { switches = set w.switches s turn.after } in
    let start : Steady s k w1 (Waiting id false) [] = record {
      size = sym size;
      switch = rw size (let many = r.switches_many in omega arith);
      none = refl;
      balance = owes;
      rest = switches_rest w s turn.after (kept.k ∙ size) kept.shaped r;
    } in
    let said : is_said (fold frame_state_after SaidWaiting turn.acts) ≡ true = rw same kept.said in
    let fits_all : AllByRecursion (IsFit k) (silent ++ act.Grant pmac amac ∷ rest) = subst (λ acts. AllByRecursion (IsFit k) acts) is kept.fit in
    let said_all : is_said (fold frame_state_after SaidWaiting (silent ++ act.Grant pmac amac ∷ rest)) ≡ true =
    subst (λ acts. is_said (fold frame_state_after SaidWaiting acts) ≡ true) is said in
    let done = grants_amid (place_in new.switches) s k id f pmac amac rest silent w1 past are fits_all said_all start a just away good in
    done_journaled (place_in new.switches) s k (acts_done s (amid w1 (Waiting id false) []) turn.acts) turn.before.place turn.after.place
    (subst (λ acts. IsDone (place_in new.switches) s k (acts_done s (amid w1 (Waiting id false) []) acts)) (sym is) done) new turn.changed
