-- One act of a switch, all its acts, and its whole step.
use Rattle.std.proofs.Common.{◌≡◌, ℕ, ◌+◌, ◌<◌, ◌==◌, Bool, true, false, if◌then◌else◌, List, [], ◌∷◌, ◌++◌, reverse, refl, sym, ◌∙◌, ap, subst, arith, append-nil}
use Rattle.std.specs.List.{AllByRecursion, fold}
use Rattle.std.proofs.lemmas.Bool.{cond-true, eq-eqb, false≢true}
use Rattle.pl_pmac.specs.declared.pmac.Pmac.{Pmac}
use Rattle.pl_wiring.specs.Peers.{peer_of}
use Rattle.pl_wiring.specs.Plan.{Plan}
use Rattle.pl_layouts.specs.declared.place.Place.{Place}
use Rattle.pl_layouts.specs.Placement.{same_place}
use Rattle.pl_journal.specs.declared.cause.Cause.{Cause}
use Rattle.pl_journal.specs.declared.entry.Entry.{Entry}
use Rattle.pl_journal.specs.declared.entry.Entry.TheVariants.{Crossed, Dropped, Made, Copied, Placed, Redirected, Taken}
use Rattle.pl_journal.specs.Flights.{begun, ends}
use Rattle.pl_node.specs.declared.acts.Act.{Act}
use Rattle.pl_node.specs.declared.acts.Act.TheVariants as act
use Rattle.pl_node.specs.Accounting.{IsFit, is_said, frame_state_after}
use Rattle.pl_world.specs.declared.item.Item.{Item}
use Rattle.pl_world.specs.declared.spoken_frame.SpokenFrame.{SpokenFrame}
use Rattle.pl_world.specs.declared.spoken_frame.SpokenFrame.TheVariants.{Over, Passed, Silent, Waiting}
use Rattle.pl_world.specs.Changes.{is_failed_at, switch_no}
use Rattle.pl_world.specs.Flying.{born}
use Rattle.pl_world.specs.SwitchActs.{DuringActs, act_done, acts_done, place_noted, with_late}
use Rattle.pl_world.specs.Worlds.{WorldView}
use Rattle.pl_world.proofs.Exports.{act_said, act_steady, amid, ends-cons, IsLegal, IsSteady, one, owed_by, owes_nothing, said_by, said_is_legal, Steady}
use Rattle.pl_law_flights.specs.OnTheWay.{JournalSays, history_of}
use Rattle.pl_law_flights.proofs.Counting.{Counts, begun_is, counts, nobody, owed}
use Rattle.pl_law_flights.proofs.Hands.{GoodActs, Hand, IsAmid, IsHeld, IsPutOff, MayEnd, MayLeave, Next, again_past, made_here, turned}
use Rattle.pl_law_flights.proofs.Hands.Hand.{Empty, Spreads, Waits}
use Rattle.pl_law_flights.proofs.HandSteps.{again_history, begun_grown, copy_journaled, cross_again, drop_journaled, make_journaled, pass_journaled, take_journaled, turn_journaled}
use Rattle.pl_law_flights.proofs.KeepingFlights.{kept, same_history}
use Rattle.pl_law_flights.proofs.FlightsLeaveByPorts.{sent_control}
use Rattle.pl_law_flights.proofs.EntriesOfFlights.{grown, late_written, note, reverse_grown, reverse_noted}

-- once the ends are written nothing is owed
late_counts : (late past : List Entry) (from_hosts out : List (List Item)) → begun late ≡ 0 → Counts past from_hosts out (λ i. ends late i) →
    Counts (grown late past) from_hosts out (λ i. 0)
late_counts late past from_hosts out none c = record {
  flights = λ i.
      let same : born i (begun (grown late past)) ≡ born i (begun past) = ap (born i) (let g = begun_grown late past in omega arith) in
      omega (arith, c.flights i, ends_grown late past i, same);
}
  where
    ends_grown : (late past : List Entry) (i : ℕ) → ends (grown late past) i ≡ ends late i + ends past i
    ends_grown [] past i = omega arith
    ends_grown (e ∷ late) past i = omega (arith, ends_grown late (e ∷ past) i, ends-cons e late i, ends-cons e past i)

-- what is put off grants nothing
late_history : (plan : Plan) (q : List Entry) (s : ℕ) (late past : List Entry) → AllByRecursion (IsPutOff plan q s) late →
    history_of (grown late past) ≡ history_of past
late_history plan q s [] past all = refl
late_history plan q s (Dropped g why ∷ late) past all = late_history plan q s late (Dropped g why ∷ past) all.1
late_history plan q s (entry ∷ late) past all = absurd all.0

module _ (place : ℕ → Place) (s k : ℕ) (w : WorldView) (late past : List Entry) (acts : List Act) where
  makes : (speech : SpokenFrame) (hand : Hand) (frame : List ℕ) → ((i : ℕ) → owed_by speech i ≡ 0) → Steady s k w speech late →
      IsAmid place s hand past w speech late → GoodActs w.plan place (history_of past) s (act.Make frame ∷ acts) hand →
      Next place s acts (act_done s (amid w speech late) (act.Make frame))
  makes speech hand frame none st a good =
      let c = counts w past _ a.is st.balance in
      record {
        hand = Waits (made_here (w.begun + 1) s frame) false;
        past = Crossed (w.begun + 1) (switch_no s) ∷ Made (w.begun + 1) (switch_no s) frame ∷ grown late past;
        amid = make_journaled place s w hand speech frame past late (begun_is w past _ a.is st.balance) st.none
            (record { flights = λ i. omega (arith, c.flights i, none i) }) a;
        good = subst (λ b. GoodActs w.plan place b s acts (Waits (made_here (w.begun + 1) s frame) false))
            (sym (late_history w.plan past s late past a.puts_off)) (good (w.begun + 1));
      }

  no_end : (id : ℕ) (again : Bool) → Steady s k w (Waiting id again) late → reverse w.journal ≡ past →
      JournalSays w.plan place past w.links w.attachments w.from_hosts w.out → ends late id ≡ 0
  no_end id again st is t =
      let here : one id id + ends late id ≡ 1 + ends late id = ap (λ n. n + ends late id) (cond-true (id == id) 1 0 (eq-eqb id id refl)) in
      let o = owed w.plan past w.from_hosts w.out (λ i. one id i + ends late i) id (ends late id) t.run (counts w past _ is st.balance) here in
      o.no_more

  turns : (hand : Hand) (speech : SpokenFrame) (old new : Pmac) → Steady s k w speech late → IsAmid place s hand past w speech late →
      GoodActs w.plan place (history_of past) s (act.Redirect old new ∷ acts) hand →
      Next place s acts (act_done s (amid w speech late) (act.Redirect old new))
  turns Empty speech old new st a good = absurd good
  turns (Spreads f) speech old new st a good = absurd good
  turns (Waits f again) Silent old new st a good = absurd a.holds
  turns (Waits f again) (Passed id) old new st a good = absurd a.holds
  turns (Waits f again) Over old new st a good = absurd a.holds
  turns (Waits f true) (Waiting id false) old new st a good = absurd (false≢true (sym (a.holds.0)))
  turns (Waits f false) (Waiting id true) old new st a good = absurd (false≢true (a.holds.0))
  turns (Waits f true) (Waiting id true) old new st a good = record {
    hand = Waits (turned s f true new) true;
    past = Redirected id old new ∷ past;
    amid = turn_journaled place s w true id f past late old new (counts w past _ a.is st.balance) a good.0;
    good = good.1;
  }
  turns (Waits f false) (Waiting id false) old new st a good = record {
    hand = Waits (turned s f false new) true;
    past = Redirected id old new ∷ past;
    amid = turn_journaled place s w false id f past late old new (counts w past _ a.is st.balance) a good.0;
    good = good.1;
  }

  passes : (hand : Hand) (speech : SpokenFrame) (port : ℕ) (frame : List ℕ) → port < w.plan.k → Steady s k w speech late →
      IsAmid place s hand past w speech late → GoodActs w.plan place (history_of past) s (act.Pass port frame ∷ acts) hand →
      Next place s acts (act_done s (amid w speech late) (act.Pass port frame))
  passes Empty speech port frame within st a good = absurd good
  passes (Waits f again) Silent port frame within st a good = absurd a.holds
  passes (Waits f again) (Passed id) port frame within st a good = absurd a.holds
  passes (Waits f again) Over port frame within st a good = absurd a.holds
  passes (Waits f again) (Waiting id redirected) port frame within st a good =
      let held : IsHeld w.plan s f past id redirected = a.holds.1 in
      let next = cross_again place s w redirected id f past late (counts w past _ a.is st.balance) a.is a.tells held a.puts_off in
      let now = subst (λ b. MayLeave w.plan place b s port (peer_of w.plan s port) f frame × GoodActs w.plan place b s acts (Spreads f))
      (sym (again_history s id redirected past)) good in
      record {
        hand = Spreads f;
        past = again_past s id redirected past;
        amid = pass_journaled place s w redirected id port f frame past late st.rest.is_plan within next held (now.0);
        good = now.1;
      }
  passes (Spreads f) Silent port frame within st a good = absurd a.holds
  passes (Spreads f) (Waiting id again) port frame within st a good = absurd a.holds
  passes (Spreads f) Over port frame within st a good = absurd a.holds
  passes (Spreads f) (Passed id) port frame within st a good = record {
    hand = Spreads f;
    past = Copied id (w.begun + 1) ∷ past;
    amid = copy_journaled place s w id port f frame past late st.rest.is_plan within (begun_is w past _ a.is st.balance) (counts w past _ a.is st.balance) a
        (good.0) (good.1);
    good = good.2;
  }

  takes : (hand : Hand) (speech : SpokenFrame) → Steady s k w speech late → IsAmid place s hand past w speech late →
      GoodActs w.plan place (history_of past) s (act.Take ∷ acts) hand → Next place s acts (act_done s (amid w speech late) act.Take)
  takes Empty speech st a good = absurd good
  takes (Spreads f) speech st a good = absurd good
  takes (Waits f again) Silent st a good = absurd a.holds
  takes (Waits f again) (Passed id) st a good = absurd a.holds
  takes (Waits f again) Over st a good = absurd a.holds
  takes (Waits f again) (Waiting id redirected) st a good =
      let held : IsHeld w.plan s f past id redirected = a.holds.1 in
      let next = cross_again place s w redirected id f past late (counts w past _ a.is st.balance) a.is a.tells held a.puts_off in
      record {
        hand = Empty;
        past = Taken id (switch_no s) ∷ again_past s id redirected past;
        amid = take_journaled place s w redirected id f past late next (no_end id redirected st a.is a.tells) held good.0;
        good = subst (λ b. GoodActs w.plan place b s acts Empty) (sym (again_history s id redirected past)) good.1;
      }

  drops : (hand : Hand) (speech : SpokenFrame) (why : Cause) → Steady s k w speech late → IsAmid place s hand past w speech late →
      GoodActs w.plan place (history_of past) s (act.Drop why ∷ acts) hand → Next place s acts (act_done s (amid w speech late) (act.Drop why))
  drops Empty speech why st a good = absurd good
  drops (Spreads f) speech why st a good = absurd good
  drops (Waits f again) Silent why st a good = absurd a.holds
  drops (Waits f again) (Passed id) why st a good = absurd a.holds
  drops (Waits f again) Over why st a good = absurd a.holds
  drops (Waits f again) (Waiting id redirected) why st a good =
      let held : IsHeld w.plan s f past id redirected = a.holds.1 in
      let next = cross_again place s w redirected id f past late (counts w past _ a.is st.balance) a.is a.tells held a.puts_off in
      let now = subst (λ b. MayEnd b f why × GoodActs w.plan place b s acts Empty) (sym (again_history s id redirected past)) good in
      record {
        hand = Empty;
        past = Dropped id why ∷ again_past s id redirected past;
        amid = drop_journaled place s w redirected id f past late why next (no_end id redirected st a.is a.tells) held (now.0);
        good = now.1;
      }

-- a control frame is sent
pub control_amid : (place : ℕ → Place) (s k : ℕ) (w : WorldView) (speech : SpokenFrame) (late past : List Entry) (hand : Hand) (port : ℕ) (frame : List ℕ) →
    IsFit k (act.Control port frame) → Steady s k w speech late → IsAmid place s hand past w speech late →
    IsAmid place s hand past (act_done s (amid w speech late) (act.Control port frame)).world speech late
control_amid place s k w speech late past hand port frame fit st a = record {
  is = a.is;
  tells = record {
    run = a.tells.run;
    trail = a.tells.trail;
    links_agree = a.tells.links_agree;
    attachments_agree = a.tells.attachments_agree;
    flying = sent_control place s w past (is_failed_at w s port) port frame (subst (λ n. port < n) (sym st.size) fit.within) a.tells.flying;
  };
  holds = a.holds;
  puts_off = a.puts_off;
}

-- one act
act_journaled : (place : ℕ → Place) (s k : ℕ) (w : WorldView) (speech : SpokenFrame) (late past : List Entry) (hand : Hand) (a : Act) (acts : List Act) →
    IsFit k a → IsLegal (frame_state_after (said_by speech) a) → Steady s k w speech late → IsAmid place s hand past w speech late →
    GoodActs w.plan place (history_of past) s (a ∷ acts) hand → Next place s acts (act_done s (amid w speech late) a)
act_journaled place s k w speech late past hand (act.Control port frame) acts fit legal st a good =
    record { hand = hand; past = past; amid = control_amid place s k w speech late past hand port frame fit st a; good = good }
act_journaled place s k w speech late past hand (act.Tell told) acts fit legal st a good = record { hand = hand; past = past; amid = a; good = good }
act_journaled place s k w speech late past hand (act.Grant pmac amac) acts fit legal st a good = absurd good
act_journaled place s k w speech late past hand (act.Free pmac) acts fit legal st a good = absurd good
act_journaled place s k w Silent late past hand (act.Make frame) acts fit legal st a good = makes place s k w late past acts Silent hand frame (λ i. refl) st a good
act_journaled place s k w (Waiting id false) late past hand (act.Make frame) acts fit legal st a good = absurd legal
act_journaled place s k w (Waiting id true) late past hand (act.Make frame) acts fit legal st a good = absurd legal
act_journaled place s k w (Passed id) late past hand (act.Make frame) acts fit legal st a good =
    makes place s k w late past acts (Passed id) hand frame (λ i. refl) st a good
act_journaled place s k w Over late past hand (act.Make frame) acts fit legal st a good = makes place s k w late past acts Over hand frame (λ i. refl) st a good
act_journaled place s k w speech late past hand (act.Redirect old new) acts fit legal st a good = turns place s k w late past acts hand speech old new st a good
act_journaled place s k w speech late past hand (act.Pass port frame) acts fit legal st a good =
    passes place s k w late past acts hand speech port frame (subst (λ n. port < n) (sym st.size) fit.within) st a good
act_journaled place s k w speech late past hand act.Take acts fit legal st a good = takes place s k w late past acts hand speech st a good
act_journaled place s k w speech late past hand (act.Drop why) acts fit legal st a good = drops place s k w late past acts hand speech why st a good

-- what is told once all acts are done
pub record IsDone (place : ℕ → Place) (s k : ℕ) (d : DuringActs) : Type 0 where
  pub hand : Hand
  pub past : List Entry
  pub amid : IsAmid place s hand past d.world d.speech d.late
  pub steady : IsSteady s k d
  pub said : is_said (said_by d.speech) ≡ true

pub acts_journaled : (place : ℕ → Place) (s k : ℕ) (w : WorldView) (speech : SpokenFrame) (late past : List Entry) (hand : Hand) (acts : List Act) →
    AllByRecursion (IsFit k) acts → is_said (fold frame_state_after (said_by speech) acts) ≡ true → Steady s k w speech late →
    IsAmid place s hand past w speech late → GoodActs w.plan place (history_of past) s acts hand →
    IsDone place s k (acts_done s (amid w speech late) acts)
acts_journaled place s k w speech late past hand [] fits said st a good = record { hand = hand; past = past; amid = a; steady = st; said = said }
acts_journaled place s k w speech late past hand (x ∷ acts) fits said st a good =
    let legal : IsLegal (frame_state_after (said_by speech) x) = said_is_legal (frame_state_after (said_by speech) x) acts said in
    let d : DuringActs = act_done s (amid w speech late) x in
    let same : said_by d.speech ≡ frame_state_after (said_by speech) x = act_said s w speech late x legal in
    let next = act_journaled place s k w speech late past hand x acts fits.0 legal st a good in
    acts_journaled place s k d.world d.speech d.late next.past next.hand acts fits.1 (rw same said) (act_steady s k w speech late x fits.0 legal st)
    next.amid next.good

-- a place that changed is written
placed_journaled : (place : ℕ → Place) (b : Bool) (s : ℕ) (new : Place) (w : WorldView) (past : List Entry) (f : ℕ → ℕ) → Counts past w.from_hosts w.out f →
    reverse w.journal ≡ past → JournalSays w.plan place past w.links w.attachments w.from_hosts w.out →
    JournalSays w.plan place (reverse (w.journal ++ (if b then [] else Placed (switch_no s) new ∷ []))) w.links w.attachments w.from_hosts w.out
placed_journaled place true s new w past f c is t =
    subst (λ p. JournalSays w.plan place p w.links w.attachments w.from_hosts w.out) (sym (ap reverse (append-nil w.journal) ∙ is)) t
placed_journaled place false s new w past f c is t =
    subst (λ p. JournalSays w.plan place p w.links w.attachments w.from_hosts w.out) (sym (reverse_noted w.journal past (Placed (switch_no s) new) is))
    (note w.plan place past w.links w.attachments w.from_hosts w.out (Placed (switch_no s) new) 0 (nobody past w.from_hosts w.out f c)
    (λ g other. kept w.plan past (Placed (switch_no s) new) g tt) (same_history (history_of past)) tt tt t.links_agree t.attachments_agree t)

-- the ends that were put off are written, and then the place
pub done_journaled : (place : ℕ → Place) (s k : ℕ) (d : DuringActs) (old new : Place) → IsDone place s k d → (after : WorldView) → after ≡ place_noted s old new (with_late d) →
    JournalSays after.plan place (reverse after.journal) after.links after.attachments after.from_hosts after.out
done_journaled place s k d old new done after is =
    let c = counts d.world done.past _ done.amid.is done.steady.balance in
    let none = owes_nothing d.speech done.said in
    let late : Counts done.past d.world.from_hosts d.world.out (λ i. ends d.late i) = record { flights = λ i. omega (arith, c.flights i, none i) } in
    let t = late_written d.world.plan place s d.late done.past d.world.links d.world.attachments d.world.from_hosts d.world.out done.amid.puts_off late done.amid.tells in
    let rest = late_counts d.late done.past d.world.from_hosts d.world.out done.steady.none late in
    subst (λ (x : WorldView). JournalSays x.plan place (reverse x.journal) x.links x.attachments x.from_hosts x.out) (sym is)
    (placed_journaled place (same_place old new) s new (with_late d) (grown d.late done.past) (λ i. 0) rest (reverse_grown d.late d.world.journal done.past done.amid.is) t)

-- a whole step of a switch: what is told amid its acts is told once they are done
pub step_journaled : (place : ℕ → Place) (s k : ℕ) (w : WorldView) (speech : SpokenFrame) (old new : Place) (past : List Entry) (hand : Hand) (acts : List Act) →
    AllByRecursion (IsFit k) acts → is_said (fold frame_state_after (said_by speech) acts) ≡ true → Steady s k w speech [] →
    IsAmid place s hand past w speech [] → GoodActs w.plan place (history_of past) s acts hand → (after : WorldView) →
    after ≡ place_noted s old new (with_late (acts_done s (amid w speech []) acts)) →
    JournalSays after.plan place (reverse after.journal) after.links after.attachments after.from_hosts after.out
step_journaled place s k w speech old new past hand acts fits said st a good after is =
    done_journaled place s k (acts_done s (amid w speech []) acts) old new (acts_journaled place s k w speech [] past hand acts fits said st a good) after is
