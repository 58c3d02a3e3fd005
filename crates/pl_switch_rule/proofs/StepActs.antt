-- What each act of a whole step has: a property of acts that is given of the kinds of acts that its rows do.
use Rattle.std.proofs.Common.{◌≡◌, ℕ, ◌==◌, ◌||◌, not, Bool, true, false, List, [], ◌∷◌, Option, Some, None, Result, Ok, Err, refl, sym, ap, subst}
use Rattle.std.specs.List.{filter, list_any}
use Rattle.std.proofs.lemmas.Bool.{cond_both, false≢true}
use Rattle.pl_lemmas.proofs.Exports.{all_append}
use Rattle.pl_frame.specs.Ethernet.{payload_of}
use Rattle.pl_pmac.specs.declared.pmac.Pmac.{Pmac}
use Rattle.pl_journal.specs.declared.cause.Cause.TheVariants.{NotPlaced}
use Rattle.pl_journal.specs.Places.{are_alike}
use Rattle.pl_layouts.specs.declared.control.Control.{Control}
use Rattle.pl_layouts.specs.declared.control.Control.TheVariants as control
use Rattle.pl_layouts.specs.declared.control.ControlError.{ControlError}
use Rattle.pl_layouts.specs.Control.{control_in, is_control}
use Rattle.pl_layouts.specs.Placement.{is_known}
use Rattle.pl_node.specs.declared.acts.Act.{Act}
use Rattle.pl_node.specs.declared.acts.Act.TheVariants as act
use Rattle.pl_node.specs.declared.messages.ToManager.TheVariants as tell
use Rattle.pl_node.specs.declared.messages.ToSwitch.{ToSwitch}
use Rattle.pl_node.specs.declared.messages.ToSwitch.TheVariants.{Answer, Avoid, Flood, Hello, Invalidate, Pod, Release, Tree}
use Rattle.pl_node.specs.AddressUses.{standing_trap}
use Rattle.pl_node.specs.declared.switch_records.Grant.{Grant}
use Rattle.pl_node.specs.declared.switch_records.Member.{Member}
use Rattle.pl_node.specs.declared.trap.Trap.{Trap}
use Rattle.pl_node.specs.PortRecords.{is_open_to_hosts, port_of}
use Rattle.pl_node.specs.SwitchInputs.{SwitchInput}
use Rattle.pl_node.specs.SwitchInputs.SwitchInput.{Comes, Says, Tick}
use Rattle.pl_node.specs.SwitchViews.{SwitchView}
use Rattle.pl_steps.specs.Steps.{SwitchStep, does, rests, ◌▹◌}
use Rattle.pl_switch_rule.specs.Aging.{ages, with_older}
use Rattle.pl_switch_rule.specs.Announcing.{announcements, tells_neighbours, ticks, with_aged_ports}
use Rattle.pl_switch_rule.specs.Delivering.{makes}
use Rattle.pl_switch_rule.specs.Forwarding.{Choice}
use Rattle.pl_switch_rule.specs.Granting.{granted, held_here, is_granted, learns_source}
use Rattle.pl_switch_rule.specs.Intake.{comes_from_host, has_member_of, is_member, takes_in_or_spent}
use Rattle.pl_switch_rule.specs.Levels.{after_message, changes_to, finds_host, with_pod}
use Rattle.pl_switch_rule.specs.Messages.{answer_frame, flood_frame, floods, forgets_members, hears_manager, invalidates, probes, sets_trap, takes_pod}
use Rattle.pl_switch_rule.specs.Positions.{after_vote}
use Rattle.pl_switch_rule.specs.SwitchRule.{comes_from_switch, control_comes, data_comes, hears_control, switch_step}
use Rattle.pl_switch_rule.specs.Telling.{changes_told}
use Rattle.pl_switch_rule.proofs.RowActs.{ChangeActs, Each, FrameActs, GrantActs, IsAnyPort, ReportActs, ages_acts, announced_acts, any_group, any_way, changes_acts, floods_acts, frees_acts, groups_acts, idle_acts, learns_source_acts, makes_acts, probes_acts, proposal_acts, switch_frame_acts, taken_in_acts, told_acts}
use Rattle.pl_switch_rule.proofs.ReportParts.{hello_acts}
use Rattle.pl_switch_rule.proofs.RowViews.{ages_learn, changes_learn, host_frame_learns, trap_keeps_members, with_host}

-- of data frames, and of messages that are about hosts
pub record HostActs (P : Act → Type 0) : Type 0 where
  pub frames : FrameActs IsAnyPort P
  pub grants : GrantActs P
  pub made : (frame : List ℕ) → P (act.Make frame)
  pub aged : (address : Pmac) (number : ℕ) → P (act.Tell (tell.Aged address number))
  pub freed : (address : Pmac) → P (act.Free address)
  pub reported : ReportActs P

-- a group whose members became some or none had one before, where members are taken away alone
had_member : (test keeps : Member → Bool) (members : List Member) → list_any test (filter keeps members) ≡ true → list_any test members ≡ true
had_member test keeps [] h = h
had_member test keeps (m ∷ members) h =
    cond_both (keeps m) (m ∷ filter keeps members) (filter keeps members) (λ left. list_any test left ≡ true → (test m || list_any test members) ≡ true)
    (λ kept. or_more (test m) (list_any test (filter keeps members)) (list_any test members) (λ rest. had_member test keeps members rest))
    (λ gone rest. or_later (test m) (list_any test members) (had_member test keeps members rest)) h
  where
    or_more : (first some all : Bool) → (some ≡ true → all ≡ true) → (first || some) ≡ true → (first || all) ≡ true
    or_more true some all rest h = refl
    or_more false some all rest h = rest h

    or_later : (first all : Bool) → all ≡ true → (first || all) ≡ true
    or_later true all h = refl
    or_later false all h = h

module _ (P : Act → Type 0) where
  -- a step that changes to a view with this place
  changed : (old new : SwitchView) → GrantActs P → ChangeActs (changes_to old new).view.place P → Each P (changes_to old new)
  changed old new grants later =
      changes_acts P grants old new (subst (λ place. ChangeActs place P) (ap (λ (w : SwitchView). w.place) (changes_learn old new)) later)

  pub neighbours_acts : (v : SwitchView) → ChangeActs v.place P → ((port : ℕ) (frame : List ℕ) → P (act.Control port frame)) → Each P (tells_neighbours v)
  neighbours_acts v later sent =
      let aged : SwitchView = with_aged_ports v in
      all_append P (changes_told v aged) (announcements aged) (told_acts P v aged later) (announced_acts P sent aged)

  pub ticks_acts : (v : SwitchView) → ChangeActs v.place P → ((port : ℕ) (frame : List ℕ) → P (act.Control port frame)) →
      ((port : ℕ) (frame : List ℕ) → P (act.Pass port frame)) → ((frame : List ℕ) → P (act.Make frame)) →
      ((address : Pmac) (number : ℕ) → P (act.Tell (tell.Aged address number))) → Each P (ticks v)
  ticks_acts v later sent passed made aged =
      let told : SwitchView = (tells_neighbours v).view in
      all_append P (tells_neighbours v).acts (ages told).acts (neighbours_acts v later sent)
      (ages_acts P aged told (idle_acts P IsAnyPort (λ port frame way. passed port frame) (with_older told) (λ x grant is. tt) (λ x i. made _)))

  pub control_acts : (v : SwitchView) (port : ℕ) (frame : List ℕ) → ChangeActs (control_comes v port frame).view.place P → GrantActs P →
      ((at : ℕ) (told : List ℕ) → P (act.Control at told)) → Each P (control_comes v port frame)
  control_acts v port frame later grants sent =
      cond_both (port_of v port).host (rests v) (hears_control v port (control_in (payload_of frame)))
      (λ (step : SwitchStep). ChangeActs step.view.place P → Each P step)
      (λ host so. tt) (λ other so. by (control_in (payload_of frame)) so) later
    where
      by : (read : Result Control ControlError) → ChangeActs (hears_control v port read).view.place P → Each P (hears_control v port read)
      by (Err e) so = tt
      by (Ok (control.Ldm id m)) so = changed v (after_message v port id m) grants so
      by (Ok (control.Proposal id p)) so = proposal_acts P sent v port id p
      by (Ok (control.Vote id vote)) so = changed v (after_vote v port vote) grants so

  -- a data frame
  module _ (choose : Choice) (frames : FrameActs IsAnyPort P) (grants : GrantActs P) (made : (frame : List ℕ) → P (act.Make frame))
      (joined : (group : ℕ) (any : Bool) → P (act.Tell (tell.Members group any))) where
    pub host_acts_by : (v : SwitchView) (port : ℕ) (frame : List ℕ) → ChangeActs (comes_from_host choose v port frame).view.place P →
        Each P (comes_from_host choose v port frame)
    host_acts_by v port frame later =
        let known : SwitchStep = finds_host v port ▹ (λ w. learns_source w port frame) in
        cond_both (is_known v.place.level 1 || is_known v.place.level 2) (does v (act.Drop NotPlaced ∷ [])) (known ▹ takes_in_or_spent choose port frame)
        (λ (step : SwitchStep). ChangeActs step.view.place P → Each P step) (λ no_hosts so. (frames.dropped NotPlaced, tt))
        (λ edge so. all_append P known.acts (takes_in_or_spent choose port frame known.view).acts
        (all_append P (finds_host v port).acts (learns_source (finds_host v port).view port frame).acts
        (changes_acts P grants v (with_host v port) (subst (λ place. ChangeActs place P)
        (ap (λ (w : SwitchView). w.place) (host_frame_learns choose v port frame)) so))
        (learns_source_acts P grants (finds_host v port).view port frame))
        (taken_in_acts P IsAnyPort frames choose known.view (any_way choose known.view) port frame
        (groups_acts P known.view.members _ (λ group other. joined group _)) (λ trap is ip. made _))) later

    pub data_acts_by : (v : SwitchView) (port : ℕ) (frame : List ℕ) → ChangeActs (data_comes choose v port frame).view.place P →
        Each P (data_comes choose v port frame)
    data_acts_by v port frame later =
        cond_both (is_open_to_hosts (port_of v port)) (comes_from_host choose v port frame) (comes_from_switch choose v port frame)
        (λ (step : SwitchStep). ChangeActs step.view.place P → Each P step) (λ host so. host_acts_by v port frame so)
        (λ switch so. switch_frame_acts P IsAnyPort frames choose v (any_way choose v) port frame (λ trap is ip. made _)) later

  module _ (choose : Choice) (may : HostActs P) where
    module _ (joined : (group : ℕ) (any : Bool) → P (act.Tell (tell.Members group any))) where
      pub host_frame_acts : (v : SwitchView) (port : ℕ) (frame : List ℕ) → ChangeActs (comes_from_host choose v port frame).view.place P →
          Each P (comes_from_host choose v port frame)
      host_frame_acts v port frame later = host_acts_by choose may.frames may.grants may.made joined v port frame later

      pub data_acts : (v : SwitchView) (port : ℕ) (frame : List ℕ) → ChangeActs (data_comes choose v port frame).view.place P →
          Each P (data_comes choose v port frame)
      data_acts v port frame later = data_acts_by choose may.frames may.grants may.made joined v port frame later

    -- a message of the manager; members are taken away alone
    module _ (v : SwitchView) (left : (group : ℕ) (any : Bool) → has_member_of v.members group ≡ true → P (act.Tell (tell.Members group any))) where
      invalidates_acts : (old : Pmac) (trap : Trap) (o : Option Grant) → Each P (invalidates v old trap o)
      invalidates_acts old trap None = tt
      invalidates_acts old trap (Some grant) =
          let set : SwitchView = sets_trap v old grant trap in
          let forgot : SwitchStep = does set [] ▹ forgets_members old.port grant.amac in
          all_append P forgot.acts (probes old grant forgot.view).acts
          (groups_acts P set.members (filter keeps set.members)
          (λ group other. left group _ (subst (λ ms. has_member_of ms group ≡ true) (trap_keeps_members v old grant trap (standing_trap grant.held))
          (had (has_member_of set.members group) (has_member_of (filter keeps set.members) group) other
          (had_member (λ m. m.group == group) keeps set.members)))))
          (probes_acts P IsAnyPort may.frames.passed old grant forgot.view tt (λ i. may.made _))
        where
          keeps : Member → Bool
          keeps m = not (is_member old.port grant.amac m)

          had : (before after : Bool) → are_alike before after ≡ false → (after ≡ true → before ≡ true) → before ≡ true
          had true after other back = refl
          had false true other back = back refl
          had false false other back = absurd (false≢true (sym other))

      pub manager_acts : (says : ToSwitch) → ChangeActs (hears_manager choose v says).view.place P → Each P (hears_manager choose v says)
      manager_acts (Pod pod) later =
          cond_both (takes_pod v pod) (changes_to v (with_pod v (Some pod))) (rests v) (λ (step : SwitchStep). ChangeActs step.view.place P → Each P step)
          (λ takes so. changed v (with_pod v (Some pod)) may.grants so) (λ stays so. tt) later
      manager_acts (Avoid list) later = tt
      manager_acts (Tree group part) later = tt
      manager_acts (Answer asker asker_ip ip pmac) later =
          cond_both (is_granted v asker) (makes choose (answer_frame asker asker_ip ip pmac) v) (rests v) (Each P)
          (λ known. makes_acts P IsAnyPort may.frames choose v (any_way choose v) (answer_frame asker asker_ip ip pmac) (may.made _)) (λ unknown. tt)
      manager_acts (Flood asker asker_ip ip) later =
          cond_both (is_granted v asker) (floods v (flood_frame asker asker_ip ip)) (rests v) (Each P)
          (λ known. floods_acts P IsAnyPort may.frames v (any_group v) (flood_frame asker asker_ip ip) (may.made _)) (λ unknown. tt)
      manager_acts (Invalidate old new number ip) later = invalidates_acts old (record { new = new; number = number; ip = ip }) (held_here v old)
      manager_acts (Release address) later = frees_acts P may.freed v address (granted v address)
      manager_acts (Hello epoch) later = hello_acts P v may.grants may.aged may.reported later (λ group had. left group true had) epoch

    -- the whole step
    pub step_acts : ((group : ℕ) (any : Bool) → P (act.Tell (tell.Members group any))) → ((port : ℕ) (frame : List ℕ) → P (act.Control port frame)) →
        (v : SwitchView) (input : SwitchInput) → ChangeActs (switch_step choose v input).view.place P → Each P (switch_step choose v input)
    step_acts joined sent v (Comes port frame) later =
        cond_both (is_control frame) (control_comes v port frame) (data_comes choose v port frame)
        (λ (step : SwitchStep). ChangeActs step.view.place P → Each P step)
        (λ control so. control_acts v port frame so may.grants sent) (λ data_frame so. data_acts joined v port frame so) later
    step_acts joined sent v Tick later =
        ticks_acts v (subst (λ place. ChangeActs place P) (ap (λ (w : SwitchView). w.place) (ages_learn (tells_neighbours v).view)) later) sent
        (λ port frame. may.frames.passed port frame tt) may.made may.aged
    step_acts joined sent v (Says says) later = manager_acts v (λ group any had. joined group any) says later
