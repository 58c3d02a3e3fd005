-- The acts of a switch that accounts for its frames keep the balance of the world.
use Rattle.std.proofs.Common.{◌≡◌, ℕ, ◌+◌, ◌*◌, ◌<◌, Bool, true, false, if◌then◌else◌, List, [], ◌∷◌, ◌++◌, length, Option, Some, None, get_or, set, refl, ◌∙◌, arith}
use Rattle.std.specs.List.{AllByRecursion, fold}
use Rattle.std.proofs.Math.ListN.{length-set}
use Rattle.pl_pmac.specs.declared.pmac.Pmac.{Pmac}
use Rattle.pl_wiring.specs.Index.{port_index}
use Rattle.pl_wiring.specs.Labels.{switch_count}
use Rattle.pl_wiring.specs.LiveLinks.{IsFor, LivePorts}
use Rattle.pl_wiring.specs.Plan.{IsPlan, Plan}
use Rattle.pl_wiring.proofs.Exports.{port_index-below}
use Rattle.pl_node.specs.declared.acts.Act.{Act}
use Rattle.pl_node.specs.declared.acts.Act.TheVariants as act
use Rattle.pl_journal.specs.declared.cause.Cause.TheVariants as cause
use Rattle.pl_journal.specs.declared.entry.Entry.{Entry}
use Rattle.pl_journal.specs.declared.entry.Entry.TheVariants.{Copied, Crossed, Dropped, Freed, Granted, Made, Placed, Redirected, Taken}
use Rattle.pl_node.specs.declared.messages.ToManager.{ToManager}
use Rattle.pl_node.specs.declared.messages.ToSwitch.{ToSwitch}
use Rattle.pl_layouts.specs.declared.place.Place.{Place}
use Rattle.pl_node.specs.Accounting.{IsFit, IsSentDuly, IsShaped, FrameState as Said, is_said, frame_state_after}
use Rattle.pl_node.specs.Accounting.FrameState.{Ended as SaidEnded, Passed as SaidPassed, Redirected as SaidRedirected, Silent as SaidNone, Waiting as SaidWaiting, Wrong}
use Rattle.pl_journal.specs.Flights.{begun, ends}
use Rattle.pl_node.specs.HostDuties.{HoldsData}
use Rattle.pl_node.specs.HostViews.{HostView}
use Rattle.pl_node.specs.SwitchViews.{SwitchView}
use Rattle.pl_layouts.specs.Placement.{same_place}
use Rattle.pl_world.specs.declared.item.Item.TheVariants.{Control, Data}
use Rattle.pl_world.specs.declared.spoken_frame.SpokenFrame.{SpokenFrame as Speech}
use Rattle.pl_world.specs.declared.spoken_frame.SpokenFrame.TheVariants.{Over, Passed, Silent, Waiting}
use Rattle.pl_world.specs.declared.attachment.AttachmentPoint.{AttachmentPoint}
use Rattle.pl_world.specs.Changes.{all_noted, begun_by, host_no, host_of, is_failed_at, noted, sent_if_live, switch_no, told_manager}
use Rattle.pl_world.specs.Flying.{IsTreePort, IsFrame}
use Rattle.pl_world.specs.SwitchActs.{DuringActs, act_done, acts_done, crossed_again, goes_out, granted, made, passed, place_noted, with_late}
use Rattle.pl_world.specs.Worlds.{WorldView}
use Rattle.pl_world.proofs.Balances.{Balanced, Owes, begun_balance, noted_balance, put_out_balance, same_balance}
use Rattle.pl_world.proofs.Counts.{begun-append, ends-append, one}

-- what the queues and the journal do not change
pub record Rest (plan : Plan) (links : LivePorts) (attachments : List AttachmentPoint) (heard : List (Option ℕ)) (switches : List SwitchView) (hosts : List HostView)
    (to_manager : List (List ToManager)) (from_manager : List (List ToSwitch)) : Type 0 where
  pub is_plan : IsPlan plan
  pub made_for : IsFor plan links
  pub attachments_many : length attachments ≡ length plan.hosts
  pub at_ports : AllByRecursion (IsTreePort plan.k) attachments
  pub heard_many : length heard ≡ length plan.hosts
  pub switches_many : length switches ≡ switch_count plan.k
  pub ports : AllByRecursion (λ v. v.k ≡ plan.k) switches
  pub hosts_many : length hosts ≡ length plan.hosts
  pub to_many : length to_manager ≡ switch_count plan.k
  pub from_many : length from_manager ≡ switch_count plan.k
  pub shaped : AllByRecursion IsShaped switches
  pub holding : AllByRecursion HoldsData hosts

abbrev pub HasRest : WorldView → Type 0
HasRest w = Rest w.plan w.links w.attachments w.heard w.switches w.hosts w.to_manager w.from_manager

-- another queue to the manager
pub told_rest : {plan : Plan} {links : LivePorts} {attachments : List AttachmentPoint} {heard : List (Option ℕ)} {switches : List SwitchView} {hosts : List HostView}
    {from_manager : List (List ToSwitch)} (to_manager new : List (List ToManager)) → length new ≡ length to_manager →
    Rest plan links attachments heard switches hosts to_manager from_manager → Rest plan links attachments heard switches hosts new from_manager
told_rest to_manager new same r = record {
  is_plan = r.is_plan;
  made_for = r.made_for;
  attachments_many = r.attachments_many;
  at_ports = r.at_ports;
  heard_many = r.heard_many;
  switches_many = r.switches_many;
  ports = r.ports;
  hosts_many = r.hosts_many;
  to_many = same ∙ r.to_many;
  from_many = r.from_many;
  shaped = r.shaped;
  holding = r.holding;
}

-- and another queue from it
pub says_rest : {plan : Plan} {links : LivePorts} {attachments : List AttachmentPoint} {heard : List (Option ℕ)} {switches : List SwitchView} {hosts : List HostView}
    {to_manager : List (List ToManager)} (from_manager new : List (List ToSwitch)) → length new ≡ length from_manager →
    Rest plan links attachments heard switches hosts to_manager from_manager → Rest plan links attachments heard switches hosts to_manager new
says_rest from_manager new same r = record {
  is_plan = r.is_plan;
  made_for = r.made_for;
  attachments_many = r.attachments_many;
  at_ports = r.at_ports;
  heard_many = r.heard_many;
  switches_many = r.switches_many;
  ports = r.ports;
  hosts_many = r.hosts_many;
  to_many = r.to_many;
  from_many = same ∙ r.from_many;
  shaped = r.shaped;
  holding = r.holding;
}

-- the frame that waits for its end is owed
abbrev pub owed_by : Speech → ℕ → ℕ
owed_by Silent id = 0
owed_by (Waiting number again) id = one number id
owed_by (Passed number) id = 0
owed_by Over id = 0

abbrev pub said_by : Speech → Said
said_by Silent = SaidNone
said_by (Waiting number false) = SaidWaiting
said_by (Waiting number true) = SaidRedirected
said_by (Passed number) = SaidPassed
said_by Over = SaidEnded

abbrev pub amid : WorldView → Speech → List Entry → DuringActs
amid w speech late = record { world = w; speech = speech; late = late }

-- amid the acts of switch s: the frame spoken of, and those whose ends were put off, are owed
pub record Steady (s k : ℕ) (w : WorldView) (speech : Speech) (late : List Entry) : Type 0 where
  pub size : w.plan.k ≡ k
  pub switch : s < switch_count k
  pub none : begun late ≡ 0
  pub balance : Owes w (λ id. owed_by speech id + ends late id)
  pub rest : HasRest w

abbrev pub IsSteady : ℕ → ℕ → DuringActs → Type 0
IsSteady s k d = Steady s k d.world d.speech d.late

module _ (s k : ℕ) (w : WorldView) where
  index_below : (port : ℕ) → w.plan.k ≡ k → s < switch_count k → port < k → length w.out ≡ switch_count w.plan.k * w.plan.k →
      port_index w.plan.k s port < length w.out
  index_below port size switch within long =
      rw (long, size) (port_index-below k s port (switch_count k) switch within)

  -- an item is sent out unless the link is failed
  control_out : (b : Bool) (f : ℕ → ℕ) (at : ℕ) (frame : List ℕ) → at < length w.out → IsFrame true frame → Owes w f →
      Balanced w.plan w.from_hosts (if b then w.out else set w.out at (get_or w.out at [] ++ Control frame ∷ [])) w.journal w.begun f
  control_out true f at frame within is b = b
  control_out false f at frame within is b =
      put_out_balance w.plan w.from_hosts w.out w.journal w.begun f f at (Control frame) within is (λ id. omega arith) b

  data_out : (b : Bool) (late : List Entry) (f : ℕ → ℕ) (id at : ℕ) (frame : List ℕ) → at < length w.out → IsFrame false frame →
      ((i : ℕ) → f i ≡ one id i + ends late i) → Owes w f →
      Balanced w.plan w.from_hosts (if b then w.out else set w.out at (get_or w.out at [] ++ Data id frame ∷ [])) w.journal w.begun
      (λ i. 0 + ends (if b then late ++ Dropped id cause.LinkDown ∷ [] else late) i)
  data_out true late f id at frame within is owes b = same_balance w.plan w.from_hosts w.out w.journal w.begun f _
      (λ i. omega (arith, owes i, ends-append late (Dropped id cause.LinkDown ∷ []) i)) b
  data_out false late f id at frame within is owes b =
      put_out_balance w.plan w.from_hosts w.out w.journal w.begun f _ at (Data id frame) within is (λ i. omega (arith, owes i)) b

  late_begins_none : (b : Bool) (late : List Entry) (id : ℕ) → begun late ≡ 0 → begun (if b then late ++ Dropped id cause.LinkDown ∷ [] else late) ≡ 0
  late_begins_none true late id none = omega (arith, begun-append late (Dropped id cause.LinkDown ∷ []), none)
  late_begins_none false late id none = none

  control_steady : (speech : Speech) (late : List Entry) (port : ℕ) (frame : List ℕ) → IsSentDuly k port true frame → Steady s k w speech late →
      Steady s k (sent_if_live w s port (Control frame)) speech late
  control_steady speech late port frame fit st = record {
    size = st.size;
    switch = st.switch;
    none = st.none;
    balance = control_out (is_failed_at w s port) _ (port_index w.plan.k s port) frame
        (index_below port st.size st.switch fit.within st.balance.ports) (record { kind = fit.kind; whole = fit.whole }) st.balance;
    rest = st.rest;
  }

  tell_steady : (speech : Speech) (late : List Entry) (told : ToManager) → Steady s k w speech late → Steady s k (told_manager w s told) speech late
  tell_steady speech late told st = record {
    size = st.size;
    switch = st.switch;
    none = st.none;
    balance = st.balance;
    rest = told_rest w.to_manager _ (length-set w.to_manager s _) st.rest;
  }

  -- entries that neither begin nor end a frame
  note_steady : (speech : Speech) (late entries : List Entry) → begun entries ≡ 0 → ((id : ℕ) → ends entries id ≡ 0) → Steady s k w speech late →
      Steady s k (all_noted w entries) speech late
  note_steady speech late entries begins ends st = record {
    size = st.size;
    switch = st.switch;
    none = st.none;
    balance = noted_balance w.plan w.from_hosts w.out w.journal w.begun _ _ entries begins (λ id. omega (arith, ends id)) st.balance;
    rest = st.rest;
  }

  grant_steady : (speech : Speech) (late : List Entry) (pmac : Pmac) (host : Option ℕ) → Steady s k w speech late → Steady s k (granted w s pmac host) speech late
  grant_steady speech late pmac None st = st
  grant_steady speech late pmac (Some h) st = note_steady speech late (Granted pmac (host_no h) (switch_no s) pmac.port ∷ []) refl (λ id. refl) st

  again_begins_none : (again : Bool) (id : ℕ) → begun (if again then Crossed id (switch_no s) ∷ [] else []) ≡ 0
  again_begins_none true id = refl
  again_begins_none false id = refl

  again_ends_none : (again : Bool) (number id : ℕ) → ends (if again then Crossed number (switch_no s) ∷ [] else []) id ≡ 0
  again_ends_none true number id = refl
  again_ends_none false number id = refl

  again_steady : (speech : Speech) (late : List Entry) (id : ℕ) (again : Bool) → Steady s k w speech late → Steady s k (crossed_again w s id again) speech late
  again_steady speech late id again st = note_steady speech late _ (again_begins_none again id) (again_ends_none again id) st

  -- a frame goes out that is owed
  out_steady : (late : List Entry) (id port : ℕ) (frame : List ℕ) (again : Bool) → IsSentDuly k port false frame → Steady s k w (Waiting id again) late →
      IsSteady s k (goes_out s (amid w (Waiting id again) late) id port frame)
  out_steady late id port frame again fit st = record {
    size = st.size;
    switch = st.switch;
    none = late_begins_none (is_failed_at w s port) late id st.none;
    balance = data_out (is_failed_at w s port) late _ id (port_index w.plan.k s port) frame
        (index_below port st.size st.switch fit.within st.balance.ports) (record { kind = fit.kind; whole = fit.whole }) (λ i. refl) st.balance;
    rest = st.rest;
  }

  -- an entry ends the frame that is owed
  end_steady : (late : List Entry) (id : ℕ) (again : Bool) (entry : Entry) → begun (entry ∷ []) ≡ 0 → ((i : ℕ) → ends (entry ∷ []) i ≡ one id i) →
      Steady s k w (Waiting id again) late → Steady s k (noted w entry) Over late
  end_steady late id again entry begins ends st = record {
    size = st.size;
    switch = st.switch;
    none = st.none;
    balance = noted_balance w.plan w.from_hosts w.out w.journal w.begun _ _ (entry ∷ []) begins (λ i. omega (arith, ends i)) st.balance;
    rest = st.rest;
  }

  -- the ends that were put off are written, once no frame waits
  late_steady : (speech : Speech) (late : List Entry) → ((id : ℕ) → owed_by speech id ≡ 0) → Steady s k w speech late → Steady s k (all_noted w late) Silent []
  late_steady speech late said st = record {
    size = st.size;
    switch = st.switch;
    none = refl;
    balance = noted_balance w.plan w.from_hosts w.out w.journal w.begun _ _ late st.none (λ id. omega (arith, said id)) st.balance;
    rest = st.rest;
  }

  -- a frame begins, and is owed
  begin_steady : (speech : Speech) (late : List Entry) (again : Bool) (entry : Entry) → ((id : ℕ) → owed_by speech id ≡ 0) →
      begun (entry ∷ []) ≡ 1 → ((id : ℕ) → ends (entry ∷ []) id ≡ 0) →
      Steady s k w speech late → Steady s k (begun_by w entry) (Waiting (w.begun + 1) again) late
  begin_steady speech late again entry said begins ends st = record {
    size = st.size;
    switch = st.switch;
    none = st.none;
    balance = begun_balance w.plan w.from_hosts w.out w.journal w.begun _ _ entry begins ends (λ id. omega (arith, said id)) st.balance;
    rest = st.rest;
  }

module _ (s k : ℕ) (w : WorldView) where
  -- a frame is made, and crosses the switch
  make_steady : (speech : Speech) (late : List Entry) (frame : List ℕ) → ((id : ℕ) → owed_by speech id ≡ 0) → Steady s k w speech late →
      IsSteady s k (made s (amid w speech late) frame)
  make_steady speech late frame said st =
      let written = all_noted w late in
      note_steady s k (begun_by written (Made (w.begun + 1) (switch_no s) frame)) (Waiting (w.begun + 1) false) []
      (Crossed (w.begun + 1) (switch_no s) ∷ []) refl (λ id. refl)
      (begin_steady s k written Silent [] false (Made (w.begun + 1) (switch_no s) frame) (λ id. refl) refl (λ id. refl) (late_steady s k w speech late said st))

  redirect_steady : (late : List Entry) (id : ℕ) (again : Bool) (old new : Pmac) → Steady s k w (Waiting id again) late →
      Steady s k (noted w (Redirected id old new)) (Waiting id true) late
  redirect_steady late id again old new st =
      let st2 : Steady s k (noted w (Redirected id old new)) (Waiting id again) late = note_steady s k w (Waiting id again) late (Redirected id old new ∷ []) refl (λ i. refl) st in
      record { size = st2.size; switch = st2.switch; none = st2.none; balance = st2.balance; rest = st2.rest }

  -- a copy begins, and goes out
  copy_steady : (late : List Entry) (id port : ℕ) (frame : List ℕ) → IsSentDuly k port false frame → Steady s k w (Passed id) late →
      IsSteady s k (passed s (amid w (Passed id) late) port frame (Passed id))
  copy_steady late id port frame fit st =
      let entry : Entry = Copied id (w.begun + 1) in
      let begins = begin_steady s k w (Passed id) late false entry (λ i. refl) refl (λ i. refl) st in
      let out = out_steady s k (begun_by w entry) late (w.begun + 1) port frame false fit begins in
      record { size = out.size; switch = out.switch; none = out.none; balance = out.balance; rest = out.rest }

-- what can be said
abbrev pub IsLegal : Said → Type 0
IsLegal Wrong = ⊥
IsLegal _ = Unit {0}

wrong_stays : (a : Act) → frame_state_after Wrong a ≡ Wrong
wrong_stays (act.Control port frame) = refl
wrong_stays (act.Tell told) = refl
wrong_stays (act.Grant pmac amac) = refl
wrong_stays (act.Free pmac) = refl
wrong_stays (act.Make frame) = refl
wrong_stays (act.Redirect old new) = refl
wrong_stays (act.Pass port frame) = refl
wrong_stays act.Take = refl
wrong_stays (act.Drop cause) = refl

wrong_is_not_said : (acts : List Act) → is_said (fold frame_state_after Wrong acts) ≡ false
wrong_is_not_said [] = refl
wrong_is_not_said (a ∷ acts) = rw (wrong_stays a) (wrong_is_not_said acts)

pub said_is_legal : (said : Said) (acts : List Act) → is_said (fold frame_state_after said acts) ≡ true → IsLegal said
said_is_legal SaidNone acts h = tt
said_is_legal SaidWaiting acts h = tt
said_is_legal SaidRedirected acts h = tt
said_is_legal SaidPassed acts h = tt
said_is_legal SaidEnded acts h = tt
said_is_legal Wrong acts h = let never = wrong_is_not_said acts in absurd (cc)

-- one act
pub act_steady : (s k : ℕ) (w : WorldView) (speech : Speech) (late : List Entry) (a : Act) → IsFit k a → IsLegal (frame_state_after (said_by speech) a) →
    Steady s k w speech late → IsSteady s k (act_done s (amid w speech late) a)
act_steady s k w Silent late (act.Control port frame) fit legal st = control_steady s k w Silent late port frame fit st
act_steady s k w Silent late (act.Tell told) fit legal st = tell_steady s k w Silent late told st
act_steady s k w Silent late (act.Grant pmac amac) fit legal st = grant_steady s k w Silent late pmac (host_of w.plan amac) st
act_steady s k w Silent late (act.Free pmac) fit legal st = note_steady s k w Silent late (Freed pmac ∷ []) refl (λ id. refl) st
act_steady s k w Silent late (act.Make frame) fit legal st = make_steady s k w Silent late frame (λ id. refl) st
act_steady s k w Silent late (act.Redirect old new) fit legal st = absurd legal
act_steady s k w Silent late (act.Pass port frame) fit legal st = absurd legal
act_steady s k w Silent late act.Take fit legal st = absurd legal
act_steady s k w Silent late (act.Drop cause) fit legal st = absurd legal
act_steady s k w (Waiting id again) late (act.Control port frame) fit legal st = control_steady s k w (Waiting id again) late port frame fit st
act_steady s k w (Waiting id again) late (act.Tell told) fit legal st = tell_steady s k w (Waiting id again) late told st
act_steady s k w (Waiting id false) late (act.Grant pmac amac) fit legal st =
    grant_steady s k w (Waiting id false) late pmac (host_of w.plan amac) st
act_steady s k w (Waiting id true) late (act.Grant pmac amac) fit legal st = absurd legal
act_steady s k w (Waiting id false) late (act.Free pmac) fit legal st = absurd legal
act_steady s k w (Waiting id true) late (act.Free pmac) fit legal st = absurd legal
act_steady s k w (Waiting id false) late (act.Make frame) fit legal st = absurd legal
act_steady s k w (Waiting id true) late (act.Make frame) fit legal st = absurd legal
act_steady s k w (Waiting id again) late (act.Redirect old new) fit legal st = redirect_steady s k w late id again old new st
act_steady s k w (Waiting id again) late (act.Pass port frame) fit legal st =
    out_steady s k (crossed_again w s id again) late id port frame again fit (again_steady s k w (Waiting id again) late id again st)
act_steady s k w (Waiting id again) late act.Take fit legal st =
    end_steady s k (crossed_again w s id again) late id again (Taken id (switch_no s)) refl (λ i. refl) (again_steady s k w (Waiting id again) late id again st)
act_steady s k w (Waiting id again) late (act.Drop cause) fit legal st =
    end_steady s k (crossed_again w s id again) late id again (Dropped id cause) refl (λ i. refl) (again_steady s k w (Waiting id again) late id again st)
act_steady s k w (Passed id) late (act.Control port frame) fit legal st = control_steady s k w (Passed id) late port frame fit st
act_steady s k w (Passed id) late (act.Tell told) fit legal st = tell_steady s k w (Passed id) late told st
act_steady s k w (Passed id) late (act.Grant pmac amac) fit legal st = absurd legal
act_steady s k w (Passed id) late (act.Free pmac) fit legal st = absurd legal
act_steady s k w (Passed id) late (act.Make frame) fit legal st = make_steady s k w (Passed id) late frame (λ i. refl) st
act_steady s k w (Passed id) late (act.Redirect old new) fit legal st = absurd legal
act_steady s k w (Passed id) late (act.Pass port frame) fit legal st = copy_steady s k w late id port frame fit st
act_steady s k w (Passed id) late act.Take fit legal st = absurd legal
act_steady s k w (Passed id) late (act.Drop cause) fit legal st = absurd legal
act_steady s k w Over late (act.Control port frame) fit legal st = control_steady s k w Over late port frame fit st
act_steady s k w Over late (act.Tell told) fit legal st = tell_steady s k w Over late told st
act_steady s k w Over late (act.Grant pmac amac) fit legal st = absurd legal
act_steady s k w Over late (act.Free pmac) fit legal st = absurd legal
act_steady s k w Over late (act.Make frame) fit legal st = make_steady s k w Over late frame (λ i. refl) st
act_steady s k w Over late (act.Redirect old new) fit legal st = absurd legal
act_steady s k w Over late (act.Pass port frame) fit legal st = absurd legal
act_steady s k w Over late act.Take fit legal st = absurd legal
act_steady s k w Over late (act.Drop cause) fit legal st = absurd legal

-- and what is said by then
pub act_said : (s : ℕ) (w : WorldView) (speech : Speech) (late : List Entry) (a : Act) → IsLegal (frame_state_after (said_by speech) a) →
    said_by (act_done s (amid w speech late) a).speech ≡ frame_state_after (said_by speech) a
act_said s w Silent late (act.Control port frame) legal = refl
act_said s w Silent late (act.Tell told) legal = refl
act_said s w Silent late (act.Grant pmac amac) legal = refl
act_said s w Silent late (act.Free pmac) legal = refl
act_said s w Silent late (act.Make frame) legal = refl
act_said s w Silent late (act.Redirect old new) legal = absurd legal
act_said s w Silent late (act.Pass port frame) legal = absurd legal
act_said s w Silent late act.Take legal = absurd legal
act_said s w Silent late (act.Drop cause) legal = absurd legal
act_said s w (Waiting id false) late (act.Control port frame) legal = refl
act_said s w (Waiting id false) late (act.Tell told) legal = refl
act_said s w (Waiting id false) late (act.Grant pmac amac) legal = refl
act_said s w (Waiting id false) late (act.Free pmac) legal = absurd legal
act_said s w (Waiting id false) late (act.Make frame) legal = absurd legal
act_said s w (Waiting id false) late (act.Redirect old new) legal = refl
act_said s w (Waiting id false) late (act.Pass port frame) legal = refl
act_said s w (Waiting id false) late act.Take legal = refl
act_said s w (Waiting id false) late (act.Drop cause) legal = refl
act_said s w (Waiting id true) late (act.Control port frame) legal = refl
act_said s w (Waiting id true) late (act.Tell told) legal = refl
act_said s w (Waiting id true) late (act.Grant pmac amac) legal = absurd legal
act_said s w (Waiting id true) late (act.Free pmac) legal = absurd legal
act_said s w (Waiting id true) late (act.Make frame) legal = absurd legal
act_said s w (Waiting id true) late (act.Redirect old new) legal = refl
act_said s w (Waiting id true) late (act.Pass port frame) legal = refl
act_said s w (Waiting id true) late act.Take legal = refl
act_said s w (Waiting id true) late (act.Drop cause) legal = refl
act_said s w (Passed id) late (act.Control port frame) legal = refl
act_said s w (Passed id) late (act.Tell told) legal = refl
act_said s w (Passed id) late (act.Grant pmac amac) legal = absurd legal
act_said s w (Passed id) late (act.Free pmac) legal = absurd legal
act_said s w (Passed id) late (act.Make frame) legal = refl
act_said s w (Passed id) late (act.Redirect old new) legal = absurd legal
act_said s w (Passed id) late (act.Pass port frame) legal = refl
act_said s w (Passed id) late act.Take legal = absurd legal
act_said s w (Passed id) late (act.Drop cause) legal = absurd legal
act_said s w Over late (act.Control port frame) legal = refl
act_said s w Over late (act.Tell told) legal = refl
act_said s w Over late (act.Grant pmac amac) legal = absurd legal
act_said s w Over late (act.Free pmac) legal = absurd legal
act_said s w Over late (act.Make frame) legal = refl
act_said s w Over late (act.Redirect old new) legal = absurd legal
act_said s w Over late (act.Pass port frame) legal = absurd legal
act_said s w Over late act.Take legal = absurd legal
act_said s w Over late (act.Drop cause) legal = absurd legal

-- all acts
acts_steady : (s k : ℕ) (w : WorldView) (speech : Speech) (late : List Entry) (acts : List Act) → AllByRecursion (IsFit k) acts →
    is_said (fold frame_state_after (said_by speech) acts) ≡ true → Steady s k w speech late →
    IsSteady s k (acts_done s (amid w speech late) acts) × (is_said (said_by (acts_done s (amid w speech late) acts).speech) ≡ true)
acts_steady s k w speech late [] fits said st = (st, said)
acts_steady s k w speech late (a ∷ acts) fits said st =
    let legal : IsLegal (frame_state_after (said_by speech) a) = said_is_legal (frame_state_after (said_by speech) a) acts said in
    let next : DuringActs = act_done s (amid w speech late) a in
    let same : said_by next.speech ≡ frame_state_after (said_by speech) a = act_said s w speech late a legal in
    acts_steady s k next.world next.speech next.late acts fits.1 (rw same said) (act_steady s k w speech late a fits.0 legal st)

pub owes_nothing : (speech : Speech) → is_said (said_by speech) ≡ true → (id : ℕ) → owed_by speech id ≡ 0
owes_nothing Silent said id = refl
owes_nothing (Waiting number false) said id = absurd (cc)
owes_nothing (Waiting number true) said id = absurd (cc)
owes_nothing (Passed number) said id = refl
owes_nothing Over said id = refl

place_begins_none : (b : Bool) (s : ℕ) (new : Place) → begun (if b then [] else Placed (switch_no s) new ∷ []) ≡ 0
place_begins_none true s new = refl
place_begins_none false s new = refl

place_ends_none : (b : Bool) (s : ℕ) (new : Place) (id : ℕ) → ends (if b then [] else Placed (switch_no s) new ∷ []) id ≡ 0
place_ends_none true s new id = refl
place_ends_none false s new id = refl

-- a whole step of a switch leaves nothing owed
pub all_acts_steady : (s k : ℕ) (w : WorldView) (speech : Speech) (old new : Place) (acts : List Act) → AllByRecursion (IsFit k) acts →
    is_said (fold frame_state_after (said_by speech) acts) ≡ true → Steady s k w speech [] →
    Steady s k (place_noted s old new (with_late (acts_done s (amid w speech []) acts))) Silent []
all_acts_steady s k w speech old new acts fits said st =
    let done : DuringActs = acts_done s (amid w speech []) acts in
    let all = acts_steady s k w speech [] acts fits said st in
    note_steady s k (with_late done) Silent [] (if same_place old new then [] else Placed (switch_no s) new ∷ [])
    (place_begins_none (same_place old new) s new) (place_ends_none (same_place old new) s new)
    (late_steady s k done.world done.speech done.late (owes_nothing done.speech all.1) all.0)
