-- Each row of a switch keeps the lists of its addresses in order: what is granted was nobody's, and what is somebody's stays so until it is freed.
use Rattle.std.proofs.Common.{◌≡◌, ◌<◌, ◌||◌, ℕ, true, false, List, [], ◌∷◌, Option, Some, Result, Ok, Err, refl, sym, ap, subst, arith}
use Rattle.std.specs.List.{AllByRecursion}
use Rattle.std.proofs.lemmas.Bool.{cond_both}
use Rattle.pl_frame.specs.declared.address.Ip4.{Ip4}
use Rattle.pl_frame.specs.declared.address.Mac.{Mac}
use Rattle.pl_frame.specs.Ethernet.{payload_of, source_of}
use Rattle.pl_pmac.specs.declared.pmac.Pmac.{Pmac}
use Rattle.pl_node.specs.declared.acts.Act.TheVariants as act
use Rattle.pl_node.specs.declared.messages.ToManager.{ToManager}
use Rattle.pl_node.specs.declared.messages.ToSwitch.{ToSwitch}
use Rattle.pl_node.specs.declared.messages.ToSwitch.TheVariants as say
use Rattle.pl_node.specs.PortRecords.{is_open_to_hosts, port_of, with_port}
use Rattle.pl_node.specs.SwitchInputs.SwitchInput.{Comes, Says, Tick}
use Rattle.pl_node.specs.SwitchViews.{SwitchView}
use Rattle.pl_journal.specs.declared.cause.Cause.TheVariants as cause
use Rattle.pl_layouts.specs.declared.control.Control.{Control}
use Rattle.pl_layouts.specs.declared.control.Control.TheVariants as control
use Rattle.pl_layouts.specs.declared.control.ControlError.{ControlError}
use Rattle.pl_layouts.specs.declared.place.Place.{Place}
use Rattle.pl_layouts.specs.Control.{control_in, is_control}
use Rattle.pl_layouts.specs.Placement.{is_known}
use Rattle.pl_steps.specs.Steps.{SwitchStep, does, rests, ◌▹◌}
use Rattle.pl_switch_rule.specs.Announcing.{ticks}
use Rattle.pl_switch_rule.specs.Forwarding.{Choice}
use Rattle.pl_switch_rule.specs.Granting.{is_granted, learns_source, sender_ip}
use Rattle.pl_switch_rule.specs.Intake.{comes_from_host, takes_in_or_spent}
use Rattle.pl_switch_rule.specs.Levels.{after_message, becomes_edge, changes_to, finds_host, with_pod}
use Rattle.pl_switch_rule.specs.Delivering.{makes}
use Rattle.pl_switch_rule.specs.Messages.{answer_frame, flood_frame, floods, hears_manager, takes_pod}
use Rattle.pl_switch_rule.specs.Positions.{after_vote}
use Rattle.pl_switch_rule.specs.Reporting.{each_told, hears_hello, report_for}
use Rattle.pl_switch_rule.specs.SwitchRule.{comes_from_switch, control_comes, data_comes, hears_control, switch_step}
use Rattle.pl_law_addresses.specs.OwnAddresses.{IsOwnIp}
use Rattle.pl_law_addresses.specs.EdgeAddresses.{IsGoodAddressTable, is_settled}
use Rattle.pl_law_addresses.proofs.Asides.{floods_aside, makes_aside, proposal_aside, switch_frame_aside, takes_in_aside}
use Rattle.pl_law_addresses.proofs.FreeLists.{table_alike}
use Rattle.pl_law_addresses.proofs.Granting.{keeps_learns_source}
use Rattle.pl_law_addresses.proofs.OlderAddresses.{keeps_tick}
use Rattle.pl_law_addresses.proofs.Placing.{Steps, aside_steps, edge_placing, keeps_changes, keeps_steps, message_placing, pod_placing, steps_changes, steps_either, steps_then, vote_placing}
use Rattle.pl_law_addresses.proofs.RowsLeaveAddresses.{Grows, Keeps, LeavesAddresses, SaysSo, Turns, aside_does, aside_keeps, free_acts, grant_acts, grows_turns, keeps_either, rests_keeps, same_holders}
use Rattle.pl_law_addresses.proofs.Releasing.{release_frees}
use Rattle.pl_law_addresses.proofs.Trapping.{keeps_invalidates}

-- what comes as of a host comes at a port that is there, and gives the host's own IPv4 address
pub record IsOfHost (own : Mac → Option Ip4) (v : SwitchView) (port : ℕ) (frame : List ℕ) : Type 0 where
  pub within : port < v.k
  pub own_ip : IsOwnIp own (source_of frame) (sender_ip frame)

-- ---- a switch tells, and grants and frees nothing
told_grants : (x : Pmac) (words : List ToManager) → grant_acts x (each_told words) ≡ 0
told_grants x [] = refl
told_grants x (word ∷ words) = told_grants x words

told_frees : (x : Pmac) (words : List ToManager) → free_acts x (each_told words) ≡ 0
told_frees x [] = refl
told_frees x (word ∷ words) = told_frees x words

told_says : (v w : SwitchView) (words : List ToManager) → AllByRecursion (SaysSo v w) (each_told words)
told_says v w [] = tt
told_says v w (word ∷ words) = (tt, told_says v w words)

told_grows : (v w : SwitchView) (words : List ToManager) → w.place ≡ v.place → w.grants ≡ v.grants → Grows v (record { view = w; acts = each_told words })
told_grows v w words place grants = record {
  once = λ x. let none = told_grants x words in omega (arith, none);
  stays = same_holders v w place grants;
  says = told_says v w words;
  frees_none = λ x. told_frees x words;
}

module _ (own : Mac → Option Ip4) (choose : Choice) where
  host_frame : (v : SwitchView) (port : ℕ) (frame : List ℕ) → IsOfHost own v port frame → Steps own v (comes_from_host choose v port frame)
  host_frame v port frame is =
      let w : SwitchView = becomes_edge (with_port v port (record (port_of v port) { host = true })) in
      let found = keeps_changes own v w in
      let learnt = (finds_host v port ▹ (λ u. learns_source u port frame)) in
      let after : SwitchView = (finds_host v port).view in
      steps_either own v (is_known v.place.level 1 || is_known v.place.level 2) (does v (act.Drop cause.NotPlaced ∷ []))
      (learnt ▹ takes_in_or_spent choose port frame)
      (λ h. aside_steps own v (does v (act.Drop cause.NotPlaced ∷ [])) (aside_does v (act.Drop cause.NotPlaced ∷ []) (tt, tt)))
      (λ h. steps_then own v learnt (takes_in_or_spent choose port frame)
      (steps_then own v (finds_host v port) (λ u. learns_source u port frame) (steps_changes own v w (edge_placing v port))
      (keeps_learns_source own after port frame (ap (λ (p : Place). p.level) found.place)
      (subst (λ n. port < n) (sym found.k) is.within) is.own_ip))
      (aside_keeps own learnt.view (takes_in_or_spent choose port frame learnt.view) (takes_in_aside choose port frame learnt.view)))

  control_row : (v : SwitchView) (port : ℕ) (m : Result Control ControlError) → Steps own v (hears_control v port m)
  control_row v port (Err e) = keeps_steps own v (rests v) (rests_keeps own v)
  control_row v port (Ok (control.Ldm from m)) = steps_changes own v (after_message v port from m) (message_placing v port from m)
  control_row v port (Ok (control.Proposal from p)) = aside_steps own v (hears_control v port (Ok (control.Proposal from p))) (proposal_aside v port from p)
  control_row v port (Ok (control.Vote from vote)) = steps_changes own v (after_vote v port vote) (vote_placing v port vote)

  comes_row : (v : SwitchView) (port : ℕ) (frame : List ℕ) → (is_control frame ≡ false → is_open_to_hosts (port_of v port) ≡ true → IsOfHost own v port frame) →
      Steps own v (switch_step choose v (Comes port frame))
  comes_row v port frame fair =
      steps_either own v (is_control frame) (control_comes v port frame) (data_comes choose v port frame)
      (λ control. steps_either own v (port_of v port).host (rests v) (hears_control v port (control_in (payload_of frame)))
      (λ h. keeps_steps own v (rests v) (rests_keeps own v)) (λ h. control_row v port (control_in (payload_of frame))))
      (λ other. steps_either own v (is_open_to_hosts (port_of v port)) (comes_from_host choose v port frame) (comes_from_switch choose v port frame)
      (λ host. host_frame v port frame (fair other host))
      (λ h. aside_steps own v (comes_from_switch choose v port frame) (switch_frame_aside choose v port frame)))

  -- what a step brings about
  pub record Brings (v : SwitchView) (s : SwitchStep) : Type 0 where
    pub table : IsGoodAddressTable own v → IsGoodAddressTable own s.view
    pub turns : IsGoodAddressTable own v → Turns v s
    pub place : is_settled v.place ≡ true → s.view.place ≡ v.place

  of_steps : (v : SwitchView) (s : SwitchStep) → Steps own v s → Brings v s
  of_steps v s a = record { table = a.table; turns = λ table. grows_turns v s (a.grows table); place = a.place }

  of_keeps : (v : SwitchView) (s : SwitchStep) → Keeps own v s → Brings v s
  of_keeps v s a = of_steps v s (keeps_steps own v s a)

  of_aside : (v : SwitchView) (s : SwitchStep) → LeavesAddresses v s → Brings v s
  of_aside v s a = of_keeps v s (aside_keeps own v s a)

  pub brings_frame : (v : SwitchView) (port : ℕ) (frame : List ℕ) →
      (is_control frame ≡ false → is_open_to_hosts (port_of v port) ≡ true → IsOfHost own v port frame) →
      Brings v (switch_step choose v (Comes port frame))
  brings_frame v port frame fair = of_steps v (switch_step choose v (Comes port frame)) (comes_row v port frame fair)

  pub brings_tick : (v : SwitchView) → Brings v (switch_step choose v Tick)
  brings_tick v = of_keeps v (ticks v) (keeps_tick own v)

  pub brings_order : (v : SwitchView) (says : ToSwitch) → Brings v (switch_step choose v (Says says))
  brings_order v (say.Hello epoch) = record {
    table = λ table. table_alike own v (hears_hello v epoch).view refl refl refl refl refl table;
    turns = λ table. grows_turns v (hears_hello v epoch) (told_grows v (hears_hello v epoch).view (report_for epoch v) refl refl);
    place = λ settled. refl;
  }
  brings_order v (say.Pod pod) =
      of_steps v (hears_manager choose v (say.Pod pod))
      (cond_both (takes_pod v pod) (changes_to v (with_pod v (Some pod))) (rests v) (Steps own v)
      (λ takes. steps_changes own v (with_pod v (Some pod)) (pod_placing v pod takes))
      (λ h. keeps_steps own v (rests v) (rests_keeps own v)))
  brings_order v (say.Avoid list) =
      of_aside v (hears_manager choose v (say.Avoid list)) (record { place = refl; k = refl; grants = refl; freed = refl; remembered = refl; silent = tt })
  brings_order v (say.Tree group part) =
      of_aside v (hears_manager choose v (say.Tree group part)) (record { place = refl; k = refl; grants = refl; freed = refl; remembered = refl; silent = tt })
  brings_order v (say.Answer asker asker_ip ip pmac) =
      of_keeps v (hears_manager choose v (say.Answer asker asker_ip ip pmac))
      (keeps_either own v (is_granted v asker) (makes choose (answer_frame asker asker_ip ip pmac) v) (rests v)
      (λ h. aside_keeps own v (makes choose (answer_frame asker asker_ip ip pmac) v) (makes_aside choose (answer_frame asker asker_ip ip pmac) v))
      (λ h. rests_keeps own v))
  brings_order v (say.Flood asker asker_ip ip) =
      of_keeps v (hears_manager choose v (say.Flood asker asker_ip ip))
      (keeps_either own v (is_granted v asker) (floods v (flood_frame asker asker_ip ip)) (rests v)
      (λ h. aside_keeps own v (floods v (flood_frame asker asker_ip ip)) (floods_aside v (flood_frame asker asker_ip ip)))
      (λ h. rests_keeps own v))
  brings_order v (say.Invalidate old new number ip) =
      of_keeps v (hears_manager choose v (say.Invalidate old new number ip)) (keeps_invalidates own v old (record { new = new; number = number; ip = ip }))
  brings_order v (say.Release x) = let a = release_frees own v x in record { table = a.table; turns = a.turns; place = λ settled. a.place }
