-- What each act of a switch keeps, all acts keep, and so does a whole turn.
use Rattle.std.proofs.Common.{◌≡◌, ℕ, ◌+◌, ◌<◌, Bool, true, false, if◌then◌else◌, List, [], ◌∷◌, ◌++◌, length, None, Option, set, Some, refl, sym, ap, ◌∙◌, subst, arith, append-nil}
use Rattle.std.specs.List.{AllByRecursion, fold}
use Rattle.std.proofs.lemmas.Bool.Decides.{nat_tests}
use Rattle.std.proofs.lemmas.List.{append_assoc}
use Rattle.std.proofs.lemmas.Option.{slice_get_within}
use Rattle.pl_lemmas.proofs.Exports.{all_append}
use Rattle.pl_pmac.specs.declared.pmac.Pmac.{Pmac}
use Rattle.pl_wiring.specs.declared.host.HostNo.{HostNo}
use Rattle.pl_wiring.specs.Index.{port_index}
use Rattle.pl_layouts.specs.declared.place.Place.{Place}
use Rattle.pl_layouts.specs.Placement.{same_place}
use Rattle.pl_journal.specs.declared.cause.Cause.{Cause}
use Rattle.pl_journal.specs.declared.cause.Cause.TheVariants as cause
use Rattle.pl_journal.specs.declared.entry.Entry.{Entry}
use Rattle.pl_journal.specs.declared.entry.Entry.TheVariants.{Copied, Crossed, Dropped, Freed, Granted, Made, Placed, Redirected, Taken}
use Rattle.pl_node.specs.declared.acts.Act.{Act}
use Rattle.pl_node.specs.declared.acts.Act.TheVariants as act
use Rattle.pl_node.specs.declared.messages.ToManager.{ToManager}
use Rattle.pl_node.specs.Accounting.{AccountsForFrames, CanCome, IsFit, IsShaped, first_frame_state, frame_state_after, is_said}
use Rattle.pl_node.specs.SwitchInputs.{SwitchInput, SwitchRule}
use Rattle.pl_node.specs.SwitchViews.{SwitchView}
use Rattle.pl_queues.specs.Queues.{put_at}
use Rattle.pl_world.specs.declared.item.Item.TheVariants.{Control, Data}
use Rattle.pl_world.specs.declared.spoken_frame.SpokenFrame.{SpokenFrame}
use Rattle.pl_world.specs.declared.spoken_frame.SpokenFrame.TheVariants.{Over, Passed, Silent, Waiting}
use Rattle.pl_world.specs.Changes.{all_noted, begun_by, host_no, host_of, is_failed_at, noted, sent_out, switch_no, told_manager}
use Rattle.pl_world.specs.Flying.{born, times_in_all}
use Rattle.pl_world.specs.SwitchActs.{DuringActs, act_done, acts_done, crossed_again, ended, granted, with_late}
use Rattle.pl_world.specs.WorldRule.{SwitchTurn}
use Rattle.pl_world.specs.Worlds.{WorldView}
use Rattle.pl_world.proofs.Exports.{act_said, act_steady, all_found, amid, born_more, HasRest, IsLegal, owed_by, Owes, said_by, said_is_legal, Steady, switches_rest}

-- no frame of the next number is in a queue
pub record IsNew (w : WorldView) : Type 0 where
  pub at_hosts : times_in_all (w.begun + 1) w.from_hosts ≡ 0
  pub at_ports : times_in_all (w.begun + 1) w.out ≡ 0

is_new : (s k : ℕ) (w : WorldView) (speech : SpokenFrame) (late : List Entry) → Steady s k w speech late → IsNew w
is_new s k w speech late st =
    let all = st.balance.flights (w.begun + 1) in
    let more = born_more (w.begun + 1) w.begun in
    let unborn : born (w.begun + 1) w.begun ≡ 0 = none w.begun in
    record { at_hosts = omega arith; at_ports = omega arith }
  where
    none : (many : ℕ) → born (many + 1) many ≡ 0
    none many = grind (arith, nat_tests)

-- ---- entries that keep a property of a world
module _ (In : WorldView → Type 0) (Quiet : Entry → Type 0) (entry : (w : WorldView) (e : Entry) → Quiet e → In w → In (noted w e)) where
  pub all_written : (w : WorldView) (entries : List Entry) → AllByRecursion Quiet entries → In w → In (all_noted w entries)
  all_written w [] quiet c = subst In (ap (λ (j : List Entry). record w { journal = j }) (sym (append-nil w.journal))) c
  all_written w (e ∷ entries) quiet c =
      subst In (ap (λ (j : List Entry). record w { journal = j }) (append_assoc w.journal (e ∷ []) entries))
      (all_written (noted w e) entries quiet.1 (entry w e quiet.0 c))

-- an act that makes no frame
abbrev pub IsNoMake : Act → Type 0
IsNoMake (act.Make frame) = ⊥
IsNoMake a = Unit {0}

-- What is kept amid the acts of switch number s, by the acts that are left, the frame that they speak of and the world by then.
pub record KeptByActs (s : ℕ) (Quiet : Entry → Type 0) (Kept : List Act → SpokenFrame → WorldView → Type 0) : Type 0 where
  -- entries that say nothing of it
  pub entry : (acts : List Act) (speech : SpokenFrame) (w : WorldView) (e : Entry) → Quiet e → Kept acts speech w → Kept acts speech (noted w e)
  pub dropped : (id : ℕ) (why : Cause) → Quiet (Dropped id why)
  pub taken : (id : ℕ) → Quiet (Taken id (switch_no s))
  pub placed : (place : Place) → Quiet (Placed (switch_no s) place)
  pub granted : (pmac : Pmac) (h : HostNo) → Quiet (Granted pmac h (switch_no s) pmac.port)
  pub freed : (pmac : Pmac) → Quiet (Freed pmac)
  -- an act that is left out; the frame in hand is no more spoken of
  pub by : (a : Act) (acts : List Act) (speech : SpokenFrame) (w : WorldView) → IsNoMake a → Kept (a ∷ acts) speech w → Kept acts speech w
  pub over : (acts : List Act) (speech : SpokenFrame) (w : WorldView) → Kept acts speech w → Kept acts Over w
  -- acts that speak of no frame
  pub control : (port : ℕ) (frame : List ℕ) (acts : List Act) (speech : SpokenFrame) (w : WorldView) → Kept (act.Control port frame ∷ acts) speech w →
      Kept acts speech (sent_out w s port (Control frame))
  pub tell : (told : ToManager) (acts : List Act) (speech : SpokenFrame) (w : WorldView) → Kept (act.Tell told ∷ acts) speech w → Kept acts speech (told_manager w s told)
  -- a frame of the switch's own begins, or the one in hand is redirected, and crosses the switch once more before it goes on
  pub made : (frame : List ℕ) (acts : List Act) (speech : SpokenFrame) (w : WorldView) → Kept (act.Make frame ∷ acts) speech w →
      Kept acts (Waiting (w.begun + 1) false) (noted (begun_by w (Made (w.begun + 1) (switch_no s) frame)) (Crossed (w.begun + 1) (switch_no s)))
  pub redirected : (old new : Pmac) (acts : List Act) (id : ℕ) (again : Bool) (w : WorldView) → Kept (act.Redirect old new ∷ acts) (Waiting id again) w →
      Kept acts (Waiting id true) (noted w (Redirected id old new))
  pub crossed : (acts : List Act) (id : ℕ) (w : WorldView) → Kept acts (Waiting id true) w → Kept acts (Waiting id false) (noted w (Crossed id (switch_no s)))
  -- it leaves by a port, or meets a failed link there; the next time a copy does
  pub passed : (port : ℕ) (frame : List ℕ) (acts : List Act) (id : ℕ) (w : WorldView) → port < w.plan.k → is_failed_at w s port ≡ false →
      Kept (act.Pass port frame ∷ acts) (Waiting id false) w → Kept acts (Passed id) (sent_out w s port (Data id frame))
  pub unsent : (acts : List Act) (id : ℕ) (w : WorldView) → Kept acts (Waiting id false) w → Kept acts (Passed id) w
  pub copied : (port : ℕ) (frame : List ℕ) (acts : List Act) (id : ℕ) (w : WorldView) → port < w.plan.k → IsNew w → is_failed_at w s port ≡ false →
      Kept (act.Pass port frame ∷ acts) (Passed id) w → Kept acts (Passed id) (sent_out (begun_by w (Copied id (w.begun + 1))) s port (Data (w.begun + 1) frame))
  pub copy_unsent : (port : ℕ) (frame : List ℕ) (acts : List Act) (id : ℕ) (w : WorldView) → IsNew w →
      Kept (act.Pass port frame ∷ acts) (Passed id) w → Kept acts (Passed id) (begun_by w (Copied id (w.begun + 1)))

module _ (s : ℕ) (Quiet : Entry → Type 0) (Kept : List Act → SpokenFrame → WorldView → Type 0) (keeps : KeptByActs s Quiet Kept) where
  -- so it is amid the acts, with the ends of frames that are to be written yet
  abbrev Amid : List Act → DuringActs → Type 0
  Amid acts d = Kept acts d.speech d.world × AllByRecursion Quiet d.late

  entries : (acts : List Act) (speech : SpokenFrame) (w : WorldView) (written : List Entry) → AllByRecursion Quiet written → Kept acts speech w → Kept acts speech (all_noted w written)
  entries acts speech = all_written (Kept acts speech) Quiet (keeps.entry acts speech)

  again : (acts : List Act) (w : WorldView) (id : ℕ) (b : Bool) → Kept acts (Waiting id b) w → Kept acts (Waiting id false) (crossed_again w s id b)
  again acts w id true c = keeps.crossed acts id w c
  again acts w id false c = entries acts (Waiting id false) w [] tt c

  -- a frame goes out under a number, or ends
  goes_out : (acts : List Act) (w : WorldView) (id n port : ℕ) (frame : List ℕ) (late : List Entry) (b : Bool) → AllByRecursion Quiet late →
      (b ≡ true → Kept acts (Passed id) w) → (b ≡ false → Kept acts (Passed id) (sent_out w s port (Data n frame))) →
      Kept acts (Passed id) (record w { out = if b then w.out else put_at w.out (port_index w.plan.k s port) (Data n frame) })
      × AllByRecursion Quiet (if b then late ++ Dropped n cause.LinkDown ∷ [] else late)
  goes_out acts w id n port frame late true quiet stays goes =
      (stays refl, all_append Quiet late (Dropped n cause.LinkDown ∷ []) quiet (keeps.dropped n cause.LinkDown, tt))
  goes_out acts w id n port frame late false quiet stays goes = (goes refl, quiet)

  module _ (acts : List Act) (w : WorldView) (late : List Entry) (quiet : AllByRecursion Quiet late) where
    controls : (port : ℕ) (frame : List ℕ) (speech : SpokenFrame) (b : Bool) → Kept (act.Control port frame ∷ acts) speech w →
        Kept acts speech (record w { out = if b then w.out else put_at w.out (port_index w.plan.k s port) (Control frame) })
    controls port frame speech true c = keeps.by (act.Control port frame) acts speech w tt c
    controls port frame speech false c = keeps.control port frame acts speech w c

    grants : (pmac : Pmac) (o : Option ℕ) (speech : SpokenFrame) → Kept acts speech w → Kept acts speech (granted w s pmac o)
    grants pmac None speech c = c
    grants pmac (Some h) speech c = keeps.entry acts speech w (Granted pmac (host_no h) (switch_no s) pmac.port) (keeps.granted pmac (host_no h)) c

    makes : (frame : List ℕ) (speech : SpokenFrame) → Kept (act.Make frame ∷ acts) speech w → Amid acts (act_done s (amid w speech late) (act.Make frame))
    makes frame speech c = (keeps.made frame acts speech (all_noted w late) (entries (act.Make frame ∷ acts) speech w late quiet c), tt)

    redirects : (old new : Pmac) (speech : SpokenFrame) → Kept (act.Redirect old new ∷ acts) speech w → Amid acts (act_done s (amid w speech late) (act.Redirect old new))
    redirects old new Silent c = (keeps.by (act.Redirect old new) acts Silent w tt c, quiet)
    redirects old new (Waiting id b) c = (keeps.redirected old new acts id b w c, quiet)
    redirects old new (Passed id) c = (keeps.by (act.Redirect old new) acts (Passed id) w tt c, quiet)
    redirects old new Over c = (keeps.by (act.Redirect old new) acts Over w tt c, quiet)

    passes : (port : ℕ) (frame : List ℕ) (speech : SpokenFrame) → port < w.plan.k → IsNew w → Kept (act.Pass port frame ∷ acts) speech w →
        Amid acts (act_done s (amid w speech late) (act.Pass port frame))
    passes port frame Silent within new c = (keeps.by (act.Pass port frame) acts Silent w tt c, quiet)
    passes port frame (Waiting id b) within new c =
        let mid : WorldView = crossed_again w s id b in
        let held : Kept (act.Pass port frame ∷ acts) (Waiting id false) mid = again (act.Pass port frame ∷ acts) w id b c in
        goes_out acts mid id id port frame late (is_failed_at w s port) quiet
        (λ failed. keeps.unsent acts id mid (keeps.by (act.Pass port frame) acts (Waiting id false) mid tt held))
        (λ live. keeps.passed port frame acts id mid within live held)
    passes port frame (Passed id) within new c =
        goes_out acts (begun_by w (Copied id (w.begun + 1))) id (w.begun + 1) port frame late (is_failed_at w s port) quiet
        (λ failed. keeps.copy_unsent port frame acts id w new c) (λ live. keeps.copied port frame acts id w within new live c)
    passes port frame Over within new c = (keeps.by (act.Pass port frame) acts Over w tt c, quiet)

    -- the frame in hand ends
    ends : (a : Act) (end : ℕ → Entry) (speech : SpokenFrame) → IsNoMake a → ((id : ℕ) → Quiet (end id)) → Kept (a ∷ acts) speech w →
        Amid acts (ended s (amid w speech late) end speech)
    ends a end Silent none ends_quiet c = (keeps.by a acts Silent w none c, quiet)
    ends a end (Waiting id b) none ends_quiet c =
        let mid : WorldView = crossed_again w s id b in
        let rests : Kept acts Over mid = keeps.over acts (Waiting id false) mid (again acts w id b (keeps.by a acts (Waiting id b) w none c)) in
        (keeps.entry acts Over mid (end id) (ends_quiet id) rests, quiet)
    ends a end (Passed id) none ends_quiet c = (keeps.by a acts (Passed id) w none c, quiet)
    ends a end Over none ends_quiet c = (keeps.by a acts Over w none c, quiet)

    act_keeps : (k : ℕ) (speech : SpokenFrame) (a : Act) → IsFit k a → Steady s k w speech late → Kept (a ∷ acts) speech w → Amid acts (act_done s (amid w speech late) a)
    act_keeps k speech (act.Control port frame) fit st c = (controls port frame speech (is_failed_at w s port) c, quiet)
    act_keeps k speech (act.Tell told) fit st c = (keeps.tell told acts speech w c, quiet)
    act_keeps k speech (act.Grant pmac amac) fit st c = (grants pmac (host_of w.plan amac) speech (keeps.by (act.Grant pmac amac) acts speech w tt c), quiet)
    act_keeps k speech (act.Free pmac) fit st c = (keeps.entry acts speech w (Freed pmac) (keeps.freed pmac) (keeps.by (act.Free pmac) acts speech w tt c), quiet)
    act_keeps k speech (act.Make frame) fit st c = makes frame speech c
    act_keeps k speech (act.Redirect old new) fit st c = redirects old new speech c
    act_keeps k speech (act.Pass port frame) fit st c = passes port frame speech (subst (λ n. port < n) (sym st.size) fit.within) (is_new s k w speech late st) c
    act_keeps k speech act.Take fit st c = ends act.Take (λ id. Taken id (switch_no s)) speech tt keeps.taken c
    act_keeps k speech (act.Drop why) fit st c = ends (act.Drop why) (λ id. Dropped id why) speech tt (λ id. keeps.dropped id why) c

  acts_keep : (k : ℕ) (w : WorldView) (speech : SpokenFrame) (late : List Entry) (acts : List Act) → AllByRecursion (IsFit k) acts →
      is_said (fold frame_state_after (said_by speech) acts) ≡ true → Steady s k w speech late → Kept acts speech w → AllByRecursion Quiet late →
      Amid [] (acts_done s (amid w speech late) acts)
  acts_keep k w speech late [] fits said st c quiet = (c, quiet)
  acts_keep k w speech late (a ∷ acts) fits said st c quiet =
      let legal : IsLegal (frame_state_after (said_by speech) a) = said_is_legal (frame_state_after (said_by speech) a) acts said in
      let d : DuringActs = act_done s (amid w speech late) a in
      let same : said_by d.speech ≡ frame_state_after (said_by speech) a = act_said s w speech late a legal in
      let on = act_keeps acts w late quiet k speech a fits.0 st c in
      acts_keep k d.world d.speech d.late acts fits.1 (rw same said) (act_steady s k w speech late a fits.0 legal st) on.0 on.1

  -- all that a switch does: its acts, the ends that were put off, and its place
  pub turn_keeps : (rule : SwitchRule) → AccountsForFrames rule → (w : WorldView) (input : SwitchInput) (speech : SpokenFrame) (new : WorldView) →
      said_by speech ≡ first_frame_state input → ((v : SwitchView) → v.k ≡ w.plan.k → CanCome v input) → Owes w (λ id. owed_by speech id + 0) → HasRest w →
      (turn : SwitchTurn rule w s input speech new) → Kept turn.acts speech (record w { switches = set w.switches s turn.after }) → Kept [] Over new
  turn_keeps rule accounts w input speech new same can owes r turn c =
      let size : turn.before.k ≡ w.plan.k = all_found (λ (u : SwitchView). u.k ≡ w.plan.k) w.switches s turn.before turn.found r.ports in
      let shaped : IsShaped turn.before = all_found IsShaped w.switches s turn.before turn.found r.shaped in
      let within : s < length w.switches = slice_get_within w.switches s turn.before turn.found in
      let duties = accounts turn.before input turn.after turn.acts shaped (can turn.before size) turn.ruled in
      let start : WorldView = record w { switches = set w.switches s turn.after } in
      let steady : Steady s turn.before.k start speech [] = record {
        size = sym size;
        switch = rw size (let many = r.switches_many in omega arith);
        none = refl;
        balance = owes;
        rest = switches_rest w s turn.after (duties.k ∙ size) duties.shaped r;
      } in
      let said : is_said (fold frame_state_after (said_by speech) turn.acts) ≡ true = rw same duties.said in
      let d : DuringActs = acts_done s (amid start speech []) turn.acts in
      let done = acts_keep turn.before.k start speech [] turn.acts duties.fit said steady c tt in
      let rests : Kept [] Over (with_late d) = entries [] Over d.world d.late done.1 (keeps.over [] d.speech d.world done.0) in
      subst (Kept [] Over) (sym turn.changed) (at_last (with_late d) turn.after.place (same_place turn.before.place turn.after.place) rests)
    where
      at_last : (u : WorldView) (now : Place) (b : Bool) → Kept [] Over u → Kept [] Over (all_noted u (if b then [] else Placed (switch_no s) now ∷ []))
      at_last u now true c = entries [] Over u [] tt c
      at_last u now false c = entries [] Over u (Placed (switch_no s) now ∷ []) (keeps.placed now, tt) c
