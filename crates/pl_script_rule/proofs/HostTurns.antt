-- What a host does that is told something, and what each step asks of a host.
use Rattle.std.proofs.Common.{◌≡◌, ℕ, ◌+◌, ◌==◌, Bool, true, false, if◌then◌else◌, List, [], ◌∷◌, ◌++◌, map, Option, Some, None, set, slice_get, refl, sym, ◌∙◌, ap, subst}
use Rattle.std.specs.List.{cons_option, filter, fold}
use Rattle.std.proofs.lemmas.Bool.{eqb-false, eqb-true}
use Rattle.std.proofs.lemmas.Option.{none-some}
use Rattle.std.proofs.lemmas.List.{append-nil, append_assoc}
use Rattle.pl_lemmas.proofs.Exports.{found_once, set_get_other, set_there}
use Rattle.pl_wiring.specs.Index.{port_index}
use Rattle.pl_journal.specs.declared.cause.Cause.TheVariants as cause
use Rattle.pl_journal.specs.declared.cause.Skip.{Skip}
use Rattle.pl_journal.specs.declared.entry.Entry.{Entry}
use Rattle.pl_journal.specs.declared.entry.Entry.TheVariants.{Arrived, Dropped, Sent, Skipped}
use Rattle.pl_node.specs.declared.acts.HostAct.{HostAct}
use Rattle.pl_node.specs.declared.acts.HostAct.TheVariants.{Send}
use Rattle.pl_node.specs.declared.reception.Reception.{Reception}
use Rattle.pl_node.specs.declared.reception.Reception.TheVariants.{Kept, NotMember}
use Rattle.pl_node.specs.HostInputs.{HostAnswer, HostInput, HostRule}
use Rattle.pl_node.specs.HostInputs.HostAnswer.{Nothing, Played, Received}
use Rattle.pl_node.specs.HostInputs.HostInput.{HasMoved, Joins, Leaves, Plays, PlaysRaw, Receives, Retries, Starts}
use Rattle.pl_node.specs.HostViews.{HostView}
use Rattle.pl_node.specs.ManagerDuties.{ManagerRule}
use Rattle.pl_node.specs.SwitchInputs.{SwitchRule}
use Rattle.pl_world.specs.declared.event.Event.{Event}
use Rattle.pl_world.specs.declared.event.Event.TheVariants as event
use Rattle.pl_world.specs.declared.item.Item.{Item}
use Rattle.pl_world.specs.declared.item.Item.TheVariants.{Control, Data}
use Rattle.pl_world.specs.declared.attachment.AttachmentPoint.{AttachmentPoint}
use Rattle.pl_world.specs.Changes.{host_no, noted, receiver}
use Rattle.pl_world.specs.LinksAndMoves.{host_moved}
use Rattle.pl_world.specs.OtherActs.{heard_after_tick, host_act_done, reception_noted, skip_noted}
use Rattle.pl_world.specs.WorldRule.{ComesAtHost, ComesOut, Happens, HostReceives, HostTurn, WorldStep, heard_item, played_as}
use Rattle.pl_world.specs.Worlds.{WorldView}
use Rattle.pl_world.proofs.Exports.{asked_by, Happened, happened}
use Rattle.pl_world.proofs.Exports.Happened.{Asked, BeganAnew, Departed, Failed, FromHost, Lost, Ordered, OutOfPort, OverLink, PlayedFrame, Repaired, Reported, Ticked}
use Rattle.pl_script_rule.specs.Asked.{Behaviour, behaviour_by, behaviour_in, given, is_asked, seen}
use Rattle.pl_script_rule.specs.Asked.Behaviour.{Gets, Gives, PassesOver}
use Rattle.pl_script_rule.proofs.HostSteps.{Asks, Shows, at_switch, either, failed, heard, lost, manager_shows, more_shown, moved, none_shown, notes, repaired, restarted, shown_if, switch_shows}

-- what an event asks of a host
abbrev pub asked_in : ℕ → Event → List HostInput
asked_in n (event.Start h) = if h.0 == n then Starts ∷ [] else []
asked_in n (event.Play h frame original raw) = if h.0 == n then played_as raw frame original ∷ [] else []
asked_in n (event.Retry h) = if h.0 == n then Retries ∷ [] else []
asked_in n (event.Join h group) = if h.0 == n then Joins group ∷ [] else []
asked_in n (event.Leave h group) = if h.0 == n then Leaves group ∷ [] else []
asked_in n (event.Move h s port) = if h.0 == n then HasMoved ∷ [] else []
asked_in n _ = []

module _ (n : ℕ) where
  -- ---- the frames that a host sends
  own_acts : (h : ℕ) (w : WorldView) (acts : List HostAct) → (h == n) ≡ true →
      behaviour_in n (fold (host_act_done h) w acts).journal ≡ behaviour_in n w.journal ++ map given acts
  own_acts h w [] own = sym (append-nil (behaviour_in n w.journal))
  own_acts h w (Send frame ∷ acts) own =
      let shown : behaviour_in n (Sent (w.begun + 1) (host_no h) frame ∷ []) ≡ Gives frame ∷ [] =
      ap (λ (b : Bool). cons_option (if b then Some (Gives frame) else None) []) own in
      own_acts h (host_act_done h w (Send frame)) acts own
      ∙ ap (λ (ds : List Behaviour). ds ++ map given acts)
      (more_shown n w.plan None w.journal (Sent (w.begun + 1) (host_no h) frame ∷ []) (behaviour_in n w.journal) (Gives frame ∷ []) refl shown)
      ∙ append_assoc (behaviour_in n w.journal) (Gives frame ∷ []) (map given acts)

  others_acts : (h : ℕ) (w : WorldView) (acts : List HostAct) → (h == n) ≡ false → behaviour_in n (fold (host_act_done h) w acts).journal ≡ behaviour_in n w.journal
  others_acts h w [] other = refl
  others_acts h w (Send frame ∷ acts) other =
      let shown : behaviour_in n (Sent (w.begun + 1) (host_no h) frame ∷ []) ≡ [] =
      ap (λ (b : Bool). cons_option (if b then Some (Gives frame) else None) []) other in
      others_acts h (host_act_done h w (Send frame)) acts other
      ∙ none_shown n w.plan None w.journal (Sent (w.begun + 1) (host_no h) frame ∷ []) (behaviour_in n w.journal) refl shown

  acts_hosts : (h : ℕ) (w : WorldView) (acts : List HostAct) → (fold (host_act_done h) w acts).hosts ≡ w.hosts
  acts_hosts h w [] = refl
  acts_hosts h w (Send frame ∷ acts) = acts_hosts h (host_act_done h w (Send frame)) acts

  acts_plan : (h : ℕ) (w : WorldView) (acts : List HostAct) → (fold (host_act_done h) w acts).plan ≡ w.plan
  acts_plan h w [] = refl
  acts_plan h w (Send frame ∷ acts) = acts_plan h (host_act_done h w (Send frame)) acts

  module _ (rule : HostRule) (old : WorldView) where
    abbrev Has : List Behaviour → WorldView → Type 0
    Has behaviour w = Shows n old.plan (slice_get old.hosts n) behaviour w.plan w.hosts w.journal

    abbrev So : List HostInput → WorldView → Type 0
    So asks new = Asks rule n old asks new

    pub unseen : (new : WorldView) → Has (behaviour_in n old.journal) new → So [] new
    unseen new has = record {
      same = has.same;
      lives = λ view found. record {
        inputs = [];
        behaviour = [];
        last = view;
        lives = (refl, refl);
        asked = refl;
        now = has.there ∙ found;
        shown = has.shown ∙ sym (append-nil (behaviour_in n old.journal));
      };
    }

    own_turn : (w : WorldView) (h : ℕ) (input : HostInput) (answer : HostAnswer) (pre : List Behaviour) (new : WorldView) → (h == n) ≡ true →
        ((acts : List HostAct) → seen input answer acts ≡ pre ++ map given acts) → Has (behaviour_in n old.journal ++ pre) w → HostTurn rule w h input answer new →
        So (filter is_asked (input ∷ [])) new
    own_turn w h input answer pre new own all has turn =
        let same : h ≡ n = eqb-true h n own in
        subst (λ (x : WorldView). So (filter is_asked (input ∷ [])) x) (sym turn.changed) (record {
          same = acts_plan h (record w { hosts = set w.hosts h turn.after }) turn.acts ∙ has.same;
          lives = λ view found.
              let found_here : slice_get w.hosts h ≡ Some view = ap (λ (i : ℕ). slice_get w.hosts i) same ∙ has.there ∙ found in
              let is : turn.before ≡ view = found_once w.hosts h turn.before view turn.found found_here in
              record {
                inputs = input ∷ [];
                behaviour = seen input answer turn.acts ++ [];
                last = turn.after;
                lives = (turn.after, turn.acts, answer, [], subst (λ (v : HostView). rule v input turn.after turn.acts answer) is turn.ruled, (refl, refl), refl);
                asked = refl;
                now = ap (λ (hosts : List HostView). slice_get hosts n) (acts_hosts h (record w { hosts = set w.hosts h turn.after }) turn.acts)
                    ∙ ap (λ (i : ℕ). slice_get (set w.hosts h turn.after) i) (sym same) ∙ set_there w.hosts h turn.before turn.after turn.found;
                shown = own_acts h (record w { hosts = set w.hosts h turn.after }) turn.acts own
                    ∙ ap (λ (ds : List Behaviour). ds ++ map given turn.acts) has.shown
                    ∙ append_assoc (behaviour_in n old.journal) pre (map given turn.acts)
                    ∙ ap (λ (ds : List Behaviour). behaviour_in n old.journal ++ ds) (sym (all turn.acts) ∙ sym (append-nil (seen input answer turn.acts)));
              };
        })

    others_turn : (w : WorldView) (h : ℕ) (input : HostInput) (answer : HostAnswer) (new : WorldView) → (h == n) ≡ false → Has (behaviour_in n old.journal) w →
        HostTurn rule w h input answer new → So [] new
    others_turn w h input answer new other has turn =
        subst (λ (x : WorldView). So [] x) (sym turn.changed) (unseen (fold (host_act_done h) (record w { hosts = set w.hosts h turn.after }) turn.acts) (record {
          same = acts_plan h (record w { hosts = set w.hosts h turn.after }) turn.acts ∙ has.same;
          there = ap (λ (hosts : List HostView). slice_get hosts n) (acts_hosts h (record w { hosts = set w.hosts h turn.after }) turn.acts)
              ∙ set_get_other w.hosts h n turn.after (eqb-false h n other) ∙ has.there;
          shown = others_acts h (record w { hosts = set w.hosts h turn.after }) turn.acts other ∙ has.shown;
        }))

    -- what was written before its turn is of this host
    abbrev before_turn : Bool → List Behaviour → List Behaviour
    before_turn own pre = behaviour_in n old.journal ++ (if own then pre else [])

    by_test : (own : Bool) (w : WorldView) (h : ℕ) (input : HostInput) (answer : HostAnswer) (pre : List Behaviour) (new : WorldView) → (h == n) ≡ own →
        ((acts : List HostAct) → seen input answer acts ≡ pre ++ map given acts) → Has (before_turn own pre) w → HostTurn rule w h input answer new →
        So (if own then filter is_asked (input ∷ []) else []) new
    by_test true w h input answer pre new own all has turn = own_turn w h input answer pre new own all has turn
    by_test false w h input answer pre new other all has turn =
        others_turn w h input answer new other
        (record { same = has.same; there = has.there; shown = has.shown ∙ append-nil (behaviour_in n old.journal) }) turn

    turned : (w : WorldView) (h : ℕ) (input : HostInput) (answer : HostAnswer) (pre : List Behaviour) (new : WorldView) →
        ((acts : List HostAct) → seen input answer acts ≡ pre ++ map given acts) → Has (before_turn (h == n) pre) w → HostTurn rule w h input answer new →
        So (if h == n then filter is_asked (input ∷ []) else []) new
    turned w h input answer pre new all has turn = by_test (h == n) w h input answer pre new refl all has turn

    -- nothing was written, and it answers nothing
    before_with_nothing : (w : WorldView) (h : ℕ) → Has (behaviour_in n old.journal) w → Has (before_turn (h == n) []) w
    before_with_nothing w h has = record {
      same = has.same;
      there = has.there;
      shown = has.shown ∙ sym (append-nil (behaviour_in n old.journal)) ∙ ap (λ (ds : List Behaviour). behaviour_in n old.journal ++ ds) (sym (either (h == n) []));
    }

    -- one thing that the host did was written
    one_before : (w : WorldView) (h : ℕ) (e : Entry) (deed : Behaviour) → behaviour_by n e ≡ (if h == n then Some deed else None) → Has (behaviour_in n old.journal) w →
        Has (before_turn (h == n) (deed ∷ [])) (noted w e)
    one_before w h e deed is has = record {
      same = has.same;
      there = has.there;
      shown = more_shown n old.plan None w.journal (e ∷ []) (behaviour_in n old.journal) (if h == n then deed ∷ [] else []) has.shown
          (ap (λ (o : Option Behaviour). cons_option o []) is ∙ shown_if (h == n) deed);
    }

    plays_by : (w : WorldView) (h : ℕ) (frame : List ℕ) (original : ℕ) (raw : Bool) (skip : Option Skip) (new : WorldView) → Has (behaviour_in n old.journal) w →
        HostTurn rule (skip_noted w h skip) h (played_as raw frame original) (Played skip) new → So (if h == n then played_as raw frame original ∷ [] else []) new
    plays_by w h frame original true None new has turn = turned w h (PlaysRaw frame original) (Played None) [] new (λ acts. refl) (before_with_nothing w h has) turn
    plays_by w h frame original false None new has turn = turned w h (Plays frame original) (Played None) [] new (λ acts. refl) (before_with_nothing w h has) turn
    plays_by w h frame original true (Some skip) new has turn =
        turned (noted w (Skipped (host_no h) skip)) h (PlaysRaw frame original) (Played (Some skip)) (PassesOver skip ∷ []) new (λ acts. refl)
        (one_before w h (Skipped (host_no h) skip) (PassesOver skip) refl has) turn
    plays_by w h frame original false (Some skip) new has turn =
        turned (noted w (Skipped (host_no h) skip)) h (Plays frame original) (Played (Some skip)) (PassesOver skip ∷ []) new (λ acts. refl)
        (one_before w h (Skipped (host_no h) skip) (PassesOver skip) refl has) turn

    receives_by : (w : WorldView) (h id : ℕ) (frame : List ℕ) (reception : Reception) (new : WorldView) → Has (behaviour_in n old.journal) w →
        HostTurn rule (reception_noted w h id frame reception) h (Receives frame) (Received reception) new → So (if h == n then [] else []) new
    receives_by w h id frame Kept new has turn =
        turned (noted w (Arrived id (host_no h) frame)) h (Receives frame) (Received Kept) (Gets frame ∷ []) new (λ acts. refl)
        (one_before w h (Arrived id (host_no h) frame) (Gets frame) refl has) turn
    receives_by w h id frame NotMember new has turn =
        turned (noted w (Dropped id cause.NoMember)) h (Receives frame) (Received NotMember) [] new (λ acts. refl)
        (before_with_nothing (noted w (Dropped id cause.NoMember)) h
        (notes n old.plan (slice_get old.hosts n) w (Dropped id cause.NoMember) (behaviour_in n old.journal) refl has)) turn

    receives : (w : WorldView) (h id : ℕ) (frame : List ℕ) (new : WorldView) → Has (behaviour_in n old.journal) w → HostReceives rule w h id frame new → So [] new
    receives w h id frame new has received =
        subst (λ (asks : List HostInput). So asks new) (either (h == n) []) (receives_by w h id frame received.reception new has received.turn)

    told : (w : WorldView) (h : ℕ) (input : HostInput) (new : WorldView) → ((acts : List HostAct) → seen input Nothing acts ≡ map given acts) →
        filter is_asked (input ∷ []) ≡ input ∷ [] → Has (behaviour_in n old.journal) w → HostTurn rule w h input Nothing new → So (if h == n then input ∷ [] else []) new
    told w h input new all asked has turn =
        subst (λ (asks : List HostInput). So (if h == n then asks else []) new) asked (turned w h input Nothing [] new all (before_with_nothing w h has) turn)

    -- ---- what comes out of a port
    at_host : (w : WorldView) (id : ℕ) (frame : List ℕ) (to : Option ℕ) (new : WorldView) → Has (behaviour_in n old.journal) w → ComesAtHost rule w id frame to new → So [] new
    at_host w id frame None new has is =
        unseen new (subst (λ (x : WorldView). Has (behaviour_in n old.journal) x) (sym is)
        (notes n old.plan (slice_get old.hosts n) w (Dropped id cause.HostGone) (behaviour_in n old.journal) refl has))
    at_host w id frame (Some h) new has received = receives w h id frame new has received

    comes_out : (w : WorldView) (s port : ℕ) (item : Item) (new : WorldView) → Has (behaviour_in n old.journal) w → ComesOut rule w s port item new → So [] new
    comes_out w s port (Control frame) new has is = unseen new (subst (λ (x : WorldView). Has (behaviour_in n old.journal) x) (sym is) has)
    comes_out w s port (Data id frame) new has comes = at_host w id frame (receiver w s port frame) new has comes

    module _ (switch : SwitchRule) (manager : ManagerRule) (w : WorldView) (e : Event) (new : WorldView) (has : Has (behaviour_in n old.journal) w) where
      -- where this asks nothing of the host
      quiet : (x : Event) → e ≡ x → asked_in n x ≡ [] → Has (behaviour_in n old.journal) new → So (asked_in n e) new
      quiet x is none more = subst (λ (asks : List HostInput). So asks new) (sym (ap (asked_in n) is ∙ none)) (unseen new more)

      -- what is no request to a host
      by_case : asked_by e ≡ None → Happened switch manager rule w e new → So (asked_in n e) new
      by_case none (FromHost h item items attachment is head at comes) =
          let mid : WorldView = record w { from_hosts = set w.from_hosts h.0 items } in
          quiet _ is refl
          (at_switch n old.plan (slice_get old.hosts n) (behaviour_in n old.journal) switch (heard_item mid h.0 item) attachment.edge.0 attachment.port item new comes
          (heard n old.plan (slice_get old.hosts n) (behaviour_in n old.journal) mid h.0 item has))
      by_case none (OverLink s port item items t q is head joined comes) =
          quiet _ is refl
          (at_switch n old.plan (slice_get old.hosts n) (behaviour_in n old.journal) switch
          (record w { out = set w.out (port_index w.plan.k s.0 port) items }) t.0 q item new comes has)
      by_case none (OutOfPort s port item items is head joined comes) =
          subst (λ (x : Event). So (asked_in n x) new) (sym is)
          (comes_out (record w { out = set w.out (port_index w.plan.k s.0 port) items }) s.0 port item new has comes)
      by_case none (Reported s told items is head turn) =
          quiet _ is refl
          (manager_shows n old.plan (slice_get old.hosts n) (behaviour_in n old.journal) manager
          (record w { to_manager = set w.to_manager s.0 items }) s.0 told new turn has)
      by_case none (Ordered s says items is head turn) =
          quiet _ is refl
          (switch_shows n old.plan (slice_get old.hosts n) (behaviour_in n old.journal) switch
          (record w { from_manager = set w.from_manager s.0 items }) s.0 _ _ new turn has)
      by_case none (Ticked s is turn) =
          quiet _ is refl
          (switch_shows n old.plan (slice_get old.hosts n) (behaviour_in n old.journal) switch
          (record w { heard = heard_after_tick s.0 w.attachments w.heard }) s.0 _ _ new turn has)
      by_case none (Failed a b link is found fails) =
          quiet _ is refl
          (subst (λ (x : WorldView). Has (behaviour_in n old.journal) x) (sym fails)
          (failed n old.plan (slice_get old.hosts n) (behaviour_in n old.journal) w link has))
      by_case none (Repaired a b link is found repairs) =
          quiet _ is refl
          (subst (λ (x : WorldView). Has (behaviour_in n old.journal) x) (sym repairs)
          (repaired n old.plan (slice_get old.hosts n) (behaviour_in n old.journal) w link has))
      by_case none (Lost s port item items is head loses) =
          let mid : WorldView = record w { out = set w.out (port_index w.plan.k s.0 port) items } in
          quiet _ is refl
          (subst (λ (x : WorldView). Has (behaviour_in n old.journal) x) (sym loses)
          (lost n old.plan (slice_get old.hosts n) (behaviour_in n old.journal) mid item has))
      by_case none (Departed h s port from is at turn) =
          let to : AttachmentPoint = record { edge = s; port = port } in
          subst (λ (x : Event). So (asked_in n x) new) (sym is)
          (told (host_moved w h.0 from to) h.0 HasMoved new (λ acts. refl) refl
          (moved n old.plan (slice_get old.hosts n) (behaviour_in n old.journal) w h.0 from to has) turn)
      by_case none (PlayedFrame h input skip is turn) = absurd (none-some (h.0, input) (sym none ∙ is))
      by_case none (Asked h input is turn) = absurd (none-some (h.0, input) (sym none ∙ is))
      by_case none (BeganAnew is anew) =
          quiet _ is refl
          (subst (λ (x : WorldView). Has (behaviour_in n old.journal) x) (sym anew) (restarted n old.plan (slice_get old.hosts n) (behaviour_in n old.journal) w has))

    happens : (switch : SwitchRule) (manager : ManagerRule) (w : WorldView) (e : Event) (new : WorldView) → Has (behaviour_in n old.journal) w →
        Happens switch manager rule w e new → So (asked_in n e) new
    happens switch manager w (event.Start h) new has turn = told w h.0 Starts new (λ acts. refl) refl has turn
    happens switch manager w (event.Play h frame original raw) new has played = plays_by w h.0 frame original raw played.skip new has played.turn
    happens switch manager w (event.Retry h) new has turn = told w h.0 Retries new (λ acts. refl) refl has turn
    happens switch manager w (event.Join h group) new has turn = told w h.0 (Joins group) new (λ acts. refl) refl has turn
    happens switch manager w (event.Leave h group) new has turn = told w h.0 (Leaves group) new (λ acts. refl) refl has turn
    happens switch manager w e new has does = by_case switch manager w e new has refl (happened switch manager rule w e new does)

  -- a step asks of the host what its event does
  pub step_asks : (switch : SwitchRule) (manager : ManagerRule) (rule : HostRule) (old : WorldView) (e : Event) (new : WorldView) →
      WorldStep switch manager rule old e new → Asks rule n old (asked_in n e) new
  step_asks switch manager rule old e new step =
      happens rule old switch manager (record old { steps = old.steps + 1 }) e new (record { same = refl; there = refl; shown = refl }) step
