-- Which hosts a switch grants addresses to: the sources of the frames that come, and those that it remembers.
use Rattle.std.proofs.Common.{◌≡◌, ◌||◌, ℕ, nat_lt, zero, suc, Bool, true, false, if◌then◌else◌, get_or, set, List, [], ◌∷◌, map, Option, Some, None, Result, Ok, Err, refl, sym, ap, subst}
use Rattle.std.specs.List.{AllByRecursion}
use Rattle.std.proofs.lemmas.Bool.{cond_both}
use Rattle.pl_lemmas.proofs.Exports.{all_append}
use Rattle.pl_frame.specs.declared.address.Ip4.{Ip4}
use Rattle.pl_frame.specs.declared.address.Mac.{Mac}
use Rattle.pl_frame.specs.Ethernet.{payload_of, source_of}
use Rattle.pl_pmac.specs.declared.pmac.Pmac.{Pmac}
use Rattle.pl_layouts.specs.declared.control.Control.{Control}
use Rattle.pl_layouts.specs.declared.control.Control.TheVariants as control
use Rattle.pl_layouts.specs.declared.control.ControlError.{ControlError}
use Rattle.pl_layouts.specs.declared.place.Place.{Place}
use Rattle.pl_layouts.specs.Control.{control_in, is_control}
use Rattle.pl_layouts.specs.Placement.{is_known, is_placed}
use Rattle.pl_node.specs.AddressUses.{standing_trap}
use Rattle.pl_node.specs.declared.acts.Act.{Act}
use Rattle.pl_node.specs.declared.acts.Act.TheVariants as act
use Rattle.pl_node.specs.declared.address_use.AddressUse.{AddressUse}
use Rattle.pl_node.specs.declared.address_use.AddressUse.TheVariants.{Free, InUse, Resting, Trapped}
use Rattle.pl_node.specs.declared.messages.ToManager.{ToManager}
use Rattle.pl_node.specs.declared.messages.ToManager.TheVariants as tell
use Rattle.pl_node.specs.declared.messages.ToSwitch.{ToSwitch}
use Rattle.pl_node.specs.declared.messages.ToSwitch.TheVariants as say
use Rattle.pl_node.specs.declared.switch_records.Grant.{Grant}
use Rattle.pl_node.specs.declared.switch_records.Source.{Source}
use Rattle.pl_node.specs.declared.trap.Trap.{Trap}
use Rattle.pl_node.specs.PortRecords.{is_open_to_hosts, port_of, ports_of_switch, with_port}
use Rattle.pl_node.specs.SwitchInputs.SwitchInput.{Comes, Says, Tick}
use Rattle.pl_node.specs.SwitchViews.{SwitchView}
use Rattle.pl_journal.specs.declared.cause.Cause.TheVariants as cause
use Rattle.pl_steps.specs.Steps.{SwitchStep, does, rests, ◌▹◌}
use Rattle.pl_switch_rule.specs.Aging.{ages, ages_out, ages_out_of, all_age_out, probes_idle, to_rest, with_older}
use Rattle.pl_switch_rule.specs.Announcing.{tells_neighbours}
use Rattle.pl_switch_rule.specs.Delivering.{makes}
use Rattle.pl_switch_rule.specs.Forwarding.{Choice}
use Rattle.pl_switch_rule.specs.Granting.{address_at_port, forgets, freed_at, grant_number, granted, grants_at, grants_next, grants_or_learns, grants_remembered, grants_source, held_here, in_use, is_granted, learns_ip, learns_source, next_vmid, or_else, remembered_at, remembered_ip, remembers, sender_ip, uses}
use Rattle.pl_switch_rule.specs.Intake.{comes_from_host, takes_in_or_spent}
use Rattle.pl_switch_rule.specs.Levels.{after_message, becomes_edge, changes_to, finds_host, has_become_placed, settles_in, with_pod}
use Rattle.pl_switch_rule.specs.Reporting.{report_for}
use Rattle.pl_switch_rule.specs.Messages.{answer_frame, flood_frame, floods, forgets_members, frees, frees_at, invalidates, probes, sets_trap, sets_trap_over, takes_pod, with_trap}
use Rattle.pl_switch_rule.specs.Positions.{after_vote}
use Rattle.pl_switch_rule.specs.SwitchRule.{comes_from_switch, control_comes, data_comes, hears_control, switch_step}
use Rattle.pl_switch_rule.specs.Telling.{changes_told}
use Rattle.pl_law_addresses.proofs.Exports.{AreSilent, aside_does, aside_then, changes_silent, edge_placing, floods_aside, forgets_members_aside, IsPlacing, LeavesAddresses, makes_aside, message_placing, pod_placing, probes_are_aside, probes_aside, proposal_aside, switch_frame_aside, takes_in_aside, tells_aside, vote_placing}
use Rattle.pl_layouts.specs.Equality.{is_ip}

-- what is found where something may have been put
found_source : (P : Option Source → Type 0) (xs : List (Option Source)) (n m : ℕ) (x : Option Source) → P (get_or xs m None) → (m ≡ n → P x) → P (get_or (set xs n x) m None)
found_source P [] n m x old new = old
found_source P (y ∷ xs) zero zero x old new = new refl
found_source P (y ∷ xs) zero (suc m) x old new = old
found_source P (y ∷ xs) (suc n) zero x old new = old
found_source P (y ∷ xs) (suc n) (suc m) x old new = found_source P xs n m x old (λ e. new (ap suc e))

-- P says of a port and an actual address that its host may be granted an address there
module _ (P : ℕ → Mac → Type 0) where
  abbrev pub IsFine : ℕ → Option Source → Type 0
  IsFine port None = Unit {0}
  IsFine port (Some source) = P port source.amac

  abbrev pub Remembers : SwitchView → Type 0
  Remembers v = (port : ℕ) → IsFine port (remembered_at v port)

  abbrev pub IsGrantFor : Act → Type 0
  IsGrantFor (act.Grant x mac) = P x.port mac
  IsGrantFor a = Unit {0}

  pub record Fits (v : SwitchView) (s : SwitchStep) : Type 0 where
    pub holds : Remembers v → Remembers s.view
    pub grants : Remembers v → AllByRecursion IsGrantFor s.acts

  fits_then : (v : SwitchView) (s : SwitchStep) (next : SwitchView → SwitchStep) → Fits v s → Fits s.view (next s.view) → Fits v (s ▹ next)
  fits_then v s next a b = record {
    holds = λ r. b.holds (a.holds r);
    grants = λ r. all_append IsGrantFor s.acts (next s.view).acts (a.grants r) (b.grants (a.holds r));
  }

  fits_either : (v : SwitchView) (test : Bool) (s t : SwitchStep) → (test ≡ true → Fits v s) → (test ≡ false → Fits v t) → Fits v (if test then s else t)
  fits_either v true s t a b = a refl
  fits_either v false s t a b = b refl

  fits_rests : (v : SwitchView) → Fits v (rests v)
  fits_rests v = record { holds = λ r. r; grants = λ r. tt }

  none_granted : (acts : List Act) → AreSilent acts → AllByRecursion IsGrantFor acts
  none_granted [] are = tt
  none_granted (act.Grant x mac ∷ acts) are = absurd are.0
  none_granted (a ∷ acts) are = (tt, none_granted acts are.1)

  same_remembered : (v w : SwitchView) → w.remembered ≡ v.remembered → Remembers v → Remembers w
  same_remembered v w same r = λ port. subst (λ (rs : List (Option Source)). IsFine port (get_or rs port None)) (sym same) (r port)

  fits_aside : (v : SwitchView) (s : SwitchStep) → LeavesAddresses v s → Fits v s
  fits_aside v s a = record { holds = same_remembered v s.view a.remembered; grants = λ r. none_granted s.acts a.silent }

  -- ---- a source
  fits_ip : (v : SwitchView) (x : Pmac) (o : Option Grant) (ip : Option Ip4) → Fits v (learns_ip v x o ip)
  fits_ip v x None ip = fits_rests v
  fits_ip v x (Some g) None = record { holds = λ r. r; grants = λ r. tt }
  fits_ip v x (Some g) (Some ip) =
      fits_either v (is_ip g.ip ip) (rests (uses v x g)) (record { view = uses v x (record g { ip = Some ip }); acts = act.Tell (tell.Learned x g.amac (Some ip)) ∷ [] })
      (λ h. record { holds = λ r. r; grants = λ r. tt }) (λ h. record { holds = λ r. r; grants = λ r. (tt, tt) })

  fits_next : (v : SwitchView) (port : ℕ) (mac : Mac) (ip : Option Ip4) (o : Option ℕ) → P port mac → Fits v (grants_next v port mac ip o)
  fits_next v port mac ip None is = fits_rests v
  fits_next v port mac ip (Some vmid) is = record { holds = λ r. r; grants = λ r. (is, (tt, tt)) }

  fits_mac : (v : SwitchView) (port : ℕ) (mac : Mac) (ip : Option Ip4) (o : Option ℕ) → P port mac → Fits v (grants_or_learns v port mac ip o)
  fits_mac v port mac ip (Some vmid) is = fits_ip v (address_at_port v port vmid) (grant_number (grants_at v port) vmid) ip
  fits_mac v port mac ip None is = fits_next v port mac ip (next_vmid (freed_at v port) (grants_at v port)) is

  put_source : (v : SwitchView) (port : ℕ) (s : Option Source) → IsFine port s → Remembers v → Remembers (record v { remembered = set v.remembered port s })
  put_source v port s is r = λ q. found_source (IsFine q) v.remembered port q s (r q) (λ same. subst (λ (n : ℕ). IsFine n s) (sym same) is)

  fits_remembers : (v : SwitchView) (port : ℕ) (mac : Mac) (ip : Option Ip4) → P port mac → Fits v (remembers v port mac ip)
  fits_remembers v port mac ip is = record {
    holds = λ r. put_source v port (Some (record { amac = mac; ip = or_else ip (remembered_ip (remembered_at v port) mac) })) is r;
    grants = λ r. tt;
  }

  fits_learns : (v : SwitchView) (port : ℕ) (frame : List ℕ) → P port (source_of frame) → Fits v (learns_source v port frame)
  fits_learns v port frame is =
      fits_either v (is_placed v.place) (grants_or_learns v port (source_of frame) (sender_ip frame) (in_use (grants_at v port) (source_of frame)))
      (remembers v port (source_of frame) (sender_ip frame))
      (λ h. fits_mac v port (source_of frame) (sender_ip frame) (in_use (grants_at v port) (source_of frame)) is)
      (λ h. fits_remembers v port (source_of frame) (sender_ip frame) is)

  -- what is remembered of a port is granted an address, and forgotten
  fits_source : (v : SwitchView) (port : ℕ) (o : Option Source) → IsFine port o → Fits v (grants_source v port o)
  fits_source v port None is = fits_rests v
  fits_source v port (Some s) is = fits_mac v port s.amac s.ip (in_use (grants_at v port) s.amac) is

  fits_one : (v : SwitchView) (port : ℕ) → Fits v (grants_source v port (remembered_at v port))
  fits_one v port = record {
    holds = λ r. (fits_source v port (remembered_at v port) (r port)).holds r;
    grants = λ r. (fits_source v port (remembered_at v port) (r port)).grants r;
  }

  fits_forgets : (v : SwitchView) (port : ℕ) → Fits v (forgets port v)
  fits_forgets v port = record { holds = λ r. put_source v port None tt r; grants = λ r. tt }

  fits_remembered : (ports : List ℕ) (v : SwitchView) → Fits v (grants_remembered ports v)
  unfolding grants_remembered
  fits_remembered [] v = fits_rests v
  fits_remembered (port ∷ ports) v =
      let one = (grants_source v port (remembered_at v port)) in
      fits_then v (one ▹ forgets port) (grants_remembered ports) (fits_then v one (forgets port) (fits_one v port) (fits_forgets one.view port))
      (fits_remembered ports (one ▹ forgets port).view)

  -- ---- changes of the place
  fits_settles : (old : Place) (w : SwitchView) → Fits w (settles_in old w)
  fits_settles old w =
      fits_either w (has_become_placed old w.place) (grants_remembered (ports_of_switch w.k) w) (rests w) (λ h. fits_remembered (ports_of_switch w.k) w) (λ h. fits_rests w)

  fits_changes : (v w : SwitchView) → IsPlacing v w → Fits v (changes_to v w)
  fits_changes v w p =
      let told = fits_aside w (does w (changes_told v w)) (aside_does w (changes_told v w) (changes_silent v w)) in
      let all = fits_then w (does w (changes_told v w)) (settles_in v.place) told (fits_settles v.place w) in
      record { holds = λ r. all.holds (same_remembered v w p.remembered r); grants = λ r. all.grants (same_remembered v w p.remembered r) }

  -- ---- all rows
  fits_host : (choose : Choice) (v : SwitchView) (port : ℕ) (frame : List ℕ) → P port (source_of frame) → Fits v (comes_from_host choose v port frame)
  fits_host choose v port frame is =
      let learnt = (finds_host v port ▹ (λ u. learns_source u port frame)) in
      fits_either v (is_known v.place.level 1 || is_known v.place.level 2) (does v (act.Drop cause.NotPlaced ∷ [])) (learnt ▹ takes_in_or_spent choose port frame)
      (λ h. fits_aside v (does v (act.Drop cause.NotPlaced ∷ [])) (aside_does v (act.Drop cause.NotPlaced ∷ []) (tt, tt)))
      (λ h. fits_then v learnt (takes_in_or_spent choose port frame)
      (fits_then v (finds_host v port) (λ u. learns_source u port frame)
      (fits_changes v (becomes_edge (with_port v port (record (port_of v port) { host = true }))) (edge_placing v port))
      (fits_learns (finds_host v port).view port frame is))
      (fits_aside learnt.view (takes_in_or_spent choose port frame learnt.view) (takes_in_aside choose port frame learnt.view)))

  fits_hears : (v : SwitchView) (port : ℕ) (m : Result Control ControlError) → Fits v (hears_control v port m)
  fits_hears v port (Err e) = fits_rests v
  fits_hears v port (Ok (control.Ldm id m)) = fits_changes v (after_message v port id m) (message_placing v port id m)
  fits_hears v port (Ok (control.Proposal id p)) = fits_aside v (hears_control v port (Ok (control.Proposal id p))) (proposal_aside v port id p)
  fits_hears v port (Ok (control.Vote id vote)) = fits_changes v (after_vote v port vote) (vote_placing v port vote)

  pub fits_frame : (choose : Choice) (v : SwitchView) (port : ℕ) (frame : List ℕ) → (is_control frame ≡ false → is_open_to_hosts (port_of v port) ≡ true → P port (source_of frame)) →
      Fits v (switch_step choose v (Comes port frame))
  fits_frame choose v port frame fair =
      fits_either v (is_control frame) (control_comes v port frame) (data_comes choose v port frame)
      (λ h. fits_either v (port_of v port).host (rests v) (hears_control v port (control_in (payload_of frame))) (λ h. fits_rests v) (λ h. fits_hears v port (control_in (payload_of frame))))
      (λ other. fits_either v (is_open_to_hosts (port_of v port)) (comes_from_host choose v port frame) (comes_from_switch choose v port frame)
      (λ host. fits_host choose v port frame (fair other host))
      (λ h. fits_aside v (comes_from_switch choose v port frame) (switch_frame_aside choose v port frame)))

  -- ---- a tick grants nothing
  fits_out_of : (v : SwitchView) (x : Pmac) (g : Grant) (h : AddressUse) → Fits v (ages_out_of v x g h)
  fits_out_of v x g (InUse idle) = record { holds = λ r. r; grants = λ r. (tt, tt) }
  fits_out_of v x g (Trapped trap age) = record { holds = λ r. r; grants = λ r. (tt, tt) }
  fits_out_of v x g (Resting number) = fits_rests v
  fits_out_of v x g Free = fits_rests v

  fits_out : (v : SwitchView) (x : Pmac) (o : Option Grant) → Fits v (ages_out x o v)
  fits_out v x None = fits_rests v
  fits_out v x (Some g) = fits_out_of v x g g.held

  fits_all_out : (xs : List Pmac) (v : SwitchView) → Fits v (all_age_out xs v)
  unfolding all_age_out
  fits_all_out [] v = fits_rests v
  fits_all_out (x ∷ xs) v =
      let first : SwitchStep = ages_out x (granted v x) v in
      fits_then v first (all_age_out xs) (fits_out v x (granted v x)) (fits_all_out xs first.view)

  fits_ages : (v : SwitchView) → Fits v (ages v)
  fits_ages v =
      let w : SwitchView = with_older v in
      let probed = fits_aside w (does w (probes_idle w)) (probes_are_aside w) in
      fits_then v (does w (probes_idle w)) (λ u. all_age_out (to_rest u) u) (record { holds = λ r. probed.holds r; grants = λ r. probed.grants r })
      (fits_all_out (to_rest w) w)

  pub fits_tick : (choose : Choice) (v : SwitchView) → Fits v (switch_step choose v Tick)
  fits_tick choose v = fits_then v (tells_neighbours v) ages (fits_aside v (tells_neighbours v) (tells_aside v)) (fits_ages (tells_neighbours v).view)

  -- ---- orders
  trap_remembered : (o : Option Trap) (v : SwitchView) (old : Pmac) (g : Grant) (trap : Trap) → (sets_trap_over o v old g trap).remembered ≡ v.remembered
  trap_remembered None v old g trap = refl
  trap_remembered (Some standing) v old g trap =
      cond_both (nat_lt trap.number standing.number) v (with_trap v old g trap) (λ (w : SwitchView). w.remembered ≡ v.remembered) (λ h. refl) (λ h. refl)

  fits_frees_at : (v : SwitchView) (x : Pmac) (g : Grant) (h : AddressUse) → Fits v (frees_at v x g h)
  fits_frees_at v x g (InUse idle) = fits_rests v
  fits_frees_at v x g (Trapped trap age) = fits_rests v
  fits_frees_at v x g (Resting number) = record { holds = λ r. r; grants = λ r. (tt, tt) }
  fits_frees_at v x g Free = fits_rests v

  fits_frees : (v : SwitchView) (x : Pmac) (o : Option Grant) → Fits v (frees v x o)
  fits_frees v x None = fits_rests v
  fits_frees v x (Some g) = fits_frees_at v x g g.held

  -- words grant nothing
  words_grant : (words : List ToManager) → AllByRecursion IsGrantFor (map (λ word. act.Tell word) words)
  words_grant [] = tt
  words_grant (word ∷ words) = (tt, words_grant words)

  pub fits_order : (choose : Choice) (v : SwitchView) (says : ToSwitch) → Fits v (switch_step choose v (Says says))
  fits_order choose v (say.Pod pod) =
      cond_both (takes_pod v pod) (changes_to v (with_pod v (Some pod))) (rests v) (Fits v)
      (λ takes. fits_changes v (with_pod v (Some pod)) (pod_placing v pod takes)) (λ h. fits_rests v)
  fits_order choose v (say.Avoid list) = record { holds = λ r. r; grants = λ r. tt }
  fits_order choose v (say.Hello epoch) = record { holds = λ r. r; grants = λ r. words_grant (report_for epoch v) }
  fits_order choose v (say.Tree group part) = record { holds = λ r. r; grants = λ r. tt }
  fits_order choose v (say.Answer asker asker_ip ip pmac) =
      fits_either v (is_granted v asker) (makes choose (answer_frame asker asker_ip ip pmac) v) (rests v)
      (λ h. fits_aside v (makes choose (answer_frame asker asker_ip ip pmac) v) (makes_aside choose (answer_frame asker asker_ip ip pmac) v)) (λ h. fits_rests v)
  fits_order choose v (say.Flood asker asker_ip ip) =
      fits_either v (is_granted v asker) (floods v (flood_frame asker asker_ip ip)) (rests v)
      (λ h. fits_aside v (floods v (flood_frame asker asker_ip ip)) (floods_aside v (flood_frame asker asker_ip ip))) (λ h. fits_rests v)
  fits_order choose v (say.Release x) = fits_frees v x (granted v x)
  fits_order choose v (say.Invalidate old new number ip) = by (held_here v old)
    where
      by : (o : Option Grant) → Fits v (invalidates v old (record { new = new; number = number; ip = ip }) o)
      by None = fits_rests v
      by (Some g) =
          let trap : Trap = record { new = new; number = number; ip = ip } in
          let w = sets_trap v old g trap in
          let a = aside_then w (does w [] ▹ forgets_members old.port g.amac) (probes old g)
          (aside_then w (does w []) (forgets_members old.port g.amac) (aside_does w [] tt)
          (λ u. forgets_members_aside old.port g.amac u)) (λ u. probes_aside old g u) in
          let all = fits_aside w (does w [] ▹ forgets_members old.port g.amac ▹ probes old g) a in
          let same = trap_remembered (standing_trap g.held) v old g trap in
          record { holds = λ r. all.holds (same_remembered v w same r); grants = λ r. all.grants (same_remembered v w same r) }
