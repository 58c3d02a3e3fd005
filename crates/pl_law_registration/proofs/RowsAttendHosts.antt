-- Each row of a switch keeps what it knows of the host at a port; where it takes an address from the host, it sends a probe.
use Rattle.std.proofs.Common.{arith, ◌≡◌, ◌≢◌, ◌⊎◌, ◌<◌, ◌+◌, ◌-◌, ◌||◌, ℕ, nat_lt, Bool, true, false, if◌then◌else◌, get_or, set, List, [], ◌∷◌, ◌++◌, filter, length, Option, Some, None, Result, Ok, Err, refl, sym, ap, subst, ◌∙◌, inl, inr, eqb-true, length-set}
use Rattle.std.specs.List.{AllByRecursion}
use Rattle.std.specs.Option.{option_map}
use Rattle.std.proofs.lemmas.List.{length-map}
use Rattle.pl_lemmas.proofs.Exports.{all_append}
use Rattle.std.proofs.lemmas.Bool.{cases_Bool, cases_eq, cond_both, false≢true}
use Rattle.std.proofs.lemmas.Option.{same_Some}
use Rattle.pl_frame.specs.declared.address.Ip4.{Ip4}
use Rattle.pl_frame.specs.Ethernet.{payload_of, source_of}
use Rattle.pl_arp.specs.declared.cache.Me.{Me}
use Rattle.pl_pmac.specs.declared.pmac.Pmac.{Pmac}
use Rattle.pl_layouts.specs.declared.control.Control.{Control}
use Rattle.pl_layouts.specs.declared.control.Control.TheVariants as control
use Rattle.pl_layouts.specs.declared.control.ControlError.{ControlError}
use Rattle.pl_layouts.specs.declared.place.Place.{Place}
use Rattle.pl_layouts.specs.Control.{control_in, is_control}
use Rattle.pl_layouts.specs.Frames.{arriving}
use Rattle.pl_layouts.specs.Placement.{is_known}
use Rattle.pl_node.specs.declared.acts.Act.{Act}
use Rattle.pl_node.specs.declared.acts.Act.TheVariants as act
use Rattle.pl_node.specs.declared.messages.ToSwitch.{ToSwitch}
use Rattle.pl_node.specs.declared.messages.ToSwitch.TheVariants as say
use Rattle.pl_node.specs.AddressUses.{is_in_use, standing_trap}
use Rattle.pl_node.specs.declared.address_use.AddressUse.{AddressUse}
use Rattle.pl_node.specs.declared.address_use.AddressUse.TheVariants.{Free, InUse, Resting, Trapped}
use Rattle.pl_node.specs.declared.switch_records.Grant.{Grant}
use Rattle.pl_node.specs.declared.switch_records.Source.{Source}
use Rattle.pl_node.specs.declared.trap.Trap.{Trap}
use Rattle.pl_node.specs.PortRecords.{is_open_to_hosts, port_of, with_port}
use Rattle.pl_node.specs.SwitchInputs.{SwitchInput}
use Rattle.pl_node.specs.SwitchInputs.SwitchInput.{Comes, Says, Tick}
use Rattle.pl_node.specs.SwitchViews.{SwitchView}
use Rattle.pl_journal.specs.declared.cause.Cause.TheVariants as cause
use Rattle.pl_steps.specs.Steps.{SwitchStep, does, rests, ◌▹◌}
use Rattle.pl_switch_rule.specs.Aging.{ages, ages_out, ages_out_of, all_age_out, is_held_so, is_idle_for, is_trapped_for, older, older_grant, ticks_to_rest, to_rest, with_older}
use Rattle.pl_switch_rule.specs.Announcing.{tells_neighbours, ticks}
use Rattle.pl_switch_rule.specs.Forwarding.{Choice}
use Rattle.pl_switch_rule.specs.Granting.{grant_number, granted, grants_at, held_here, in_use, is_granted, learns_source, sender_ip}
use Rattle.pl_switch_rule.specs.Intake.{comes_from_host, takes_in_or_spent}
use Rattle.pl_switch_rule.specs.Levels.{after_message, becomes_edge, changes_to, finds_host, with_pod}
use Rattle.pl_switch_rule.specs.Delivering.{makes}
use Rattle.pl_switch_rule.specs.Messages.{answer_frame, becomes_free, flood_frame, floods, forgets_members, frees, frees_at, hears_manager, invalidates, probe_frame, probes, probes_at, sets_trap, sets_trap_over, takes_pod, with_trap}
use Rattle.pl_switch_rule.specs.Positions.{after_vote}
use Rattle.pl_switch_rule.specs.SwitchRule.{comes_from_switch, control_comes, data_comes, hears_control, switch_step}
use Rattle.pl_switch_rule.proofs.Exports.{granted_parts, held_parts, older_at}
use Rattle.pl_law_addresses.specs.EdgeAddresses.{is_settled}
use Rattle.pl_law_addresses.proofs.Exports.{aside_does, aside_then, edge_placing, floods_aside, forgets_members_aside, IsPlacing, LeavesAddresses, local_settled, makes_aside, message_placing, number_set_other, number_within, older_number, pod_placing, probes_aside, proposal_aside, switch_frame_aside, takes_in_aside, tells_aside, vote_placing}
use Rattle.pl_law_registration.proofs.FirstUses.{use_older, use_other}
use Rattle.pl_law_registration.proofs.Settling.{alike_changes, changed_port, changes_know, placing_port, put_list}
use Rattle.pl_law_registration.proofs.Sources.{HasPort, IsLow, IsSaid, KnowsAt, Serves, aside_same, learns_elsewhere, same_knows, teaches}

-- a host port of an edge switch
pub record IsReady (v : SwitchView) (port : ℕ) : Type 0 where
  pub low : IsLow v.place
  pub has : HasPort v port
  pub within : port < v.k

-- where an address was recalled, nothing more changes of addresses
recalled_aside : (w : SwitchView) (old : Pmac) (g : Grant) → LeavesAddresses w (does w [] ▹ forgets_members old.port g.amac ▹ probes old g)
recalled_aside w old g =
    aside_then w (does w [] ▹ forgets_members old.port g.amac) (probes old g)
    (aside_then w (does w []) (forgets_members old.port g.amac) (aside_does w [] tt) (λ u. forgets_members_aside old.port g.amac u)) (λ u. probes_aside old g u)

trap_place : (o : Option Trap) (v : SwitchView) (old : Pmac) (g : Grant) (trap : Trap) → (sets_trap_over o v old g trap).place ≡ v.place
trap_place None v old g trap = refl
trap_place (Some standing) v old g trap =
    cond_both (nat_lt trap.number standing.number) v (with_trap v old g trap) (λ (w : SwitchView). w.place ≡ v.place) (λ h. refl) (λ h. refl)

recalled_place : (v : SwitchView) (old : Pmac) (trap : Trap) (g : Grant) → (invalidates v old trap (Some g)).view.place ≡ v.place
recalled_place v old trap g = (recalled_aside (sets_trap v old g trap) old g).place ∙ trap_place (standing_trap g.held) v old g trap

-- ---- addresses rest
out_place : (v : SwitchView) (x : Pmac) (g : Grant) (h : AddressUse) → (ages_out_of v x g h).view.place ≡ v.place
out_place v x g (InUse idle) = refl
out_place v x g (Trapped trap age) = refl
out_place v x g (Resting number) = refl
out_place v x g Free = refl

out_remembered : (v : SwitchView) (x : Pmac) (g : Grant) (h : AddressUse) → (ages_out_of v x g h).view.remembered ≡ v.remembered
out_remembered v x g (InUse idle) = refl
out_remembered v x g (Trapped trap age) = refl
out_remembered v x g (Resting number) = refl
out_remembered v x g Free = refl

pub record IsRested (port : ℕ) (v w : SwitchView) : Type 0 where
  pub place : w.place ≡ v.place
  pub remembered : w.remembered ≡ v.remembered
  pub many : length (grants_at w port) ≡ length (grants_at v port)

-- the number of addresses stays where one changes
many_at : (port q n : ℕ) (gs : List (List Grant)) (g : Grant) → length (get_or (set gs q (set (get_or gs q []) n g)) port []) ≡ length (get_or gs port [])
many_at port q n gs g =
    put_list (λ (xs : List Grant). length xs ≡ length (get_or gs port [])) gs q port (set (get_or gs q []) n g) refl
    (λ same. length-set (get_or gs q []) n g ∙ ap (λ m. length (get_or gs m [])) same)

out_many : (port : ℕ) (v : SwitchView) (x : Pmac) (g : Grant) (h : AddressUse) → length (grants_at (ages_out_of v x g h).view port) ≡ length (grants_at v port)
out_many port v x g (InUse idle) = many_at port x.port (x.vmid - 1) v.grants (record g { held = Resting 0 })
out_many port v x g (Trapped trap age) = many_at port x.port (x.vmid - 1) v.grants (record g { held = Resting trap.number })
out_many port v x g (Resting number) = refl
out_many port v x g Free = refl

one_rested : (port : ℕ) (v : SwitchView) (x : Pmac) (o : Option Grant) → IsRested port v (ages_out x o v).view
one_rested port v x None = record { place = refl; remembered = refl; many = refl }
one_rested port v x (Some g) = record { place = out_place v x g g.held; remembered = out_remembered v x g g.held; many = out_many port v x g g.held }

all_rested : (port : ℕ) (xs : List Pmac) (v : SwitchView) → IsRested port v (all_age_out xs v).view
unfolding all_age_out
all_rested port [] v = record { place = refl; remembered = refl; many = refl }
all_rested port (x ∷ xs) v =
    let first : SwitchView = (ages_out x (granted v x) v).view in
    let one = one_rested port v x (granted v x) in
    let rest = all_rested port xs first in
    record { place = rest.place ∙ one.place; remembered = rest.remembered ∙ one.remembered; many = rest.many ∙ one.many }

ages_place : (v : SwitchView) → (ages v).view.place ≡ v.place
ages_place v = (all_rested 0 (to_rest (with_older v)) (with_older v)).place

tick_place : (v : SwitchView) → (ticks v).view.place ≡ v.place
tick_place v = ages_place (tells_neighbours v).view ∙ (tells_aside v).place

-- The place of a placed edge switch stays.

changed_place : (v w : SwitchView) → IsPlacing v w → is_settled v.place ≡ true → (changes_to v w).view.place ≡ v.place
changed_place v w p settled = (alike_changes v w).place ∙ p.place settled

control_place : (v : SwitchView) (q : ℕ) (m : Result Control ControlError) → is_settled v.place ≡ true → (hears_control v q m).view.place ≡ v.place
control_place v q (Err e) settled = refl
control_place v q (Ok (control.Ldm id m)) settled = changed_place v (after_message v q id m) (message_placing v q id m) settled
control_place v q (Ok (control.Proposal id p)) settled = (proposal_aside v q id p).place
control_place v q (Ok (control.Vote id vote)) settled = changed_place v (after_vote v q vote) (vote_placing v q vote) settled

host_place : (choose : Choice) (v : SwitchView) (q : ℕ) (frame : List ℕ) → is_settled v.place ≡ true → (comes_from_host choose v q frame).view.place ≡ v.place
host_place choose v q frame settled =
    let u = (finds_host v q).view in
    let learnt = (learns_source u q frame).view in
    cond_both (is_known v.place.level 1 || is_known v.place.level 2) (does v (act.Drop cause.NotPlaced ∷ []))
    (finds_host v q ▹ (λ u. learns_source u q frame) ▹ takes_in_or_spent choose q frame) (λ (s : SwitchStep). s.view.place ≡ v.place)
    (λ h. refl)
    (λ h. (takes_in_aside choose q frame learnt).place ∙ (learns_elsewhere (q + 1) q (λ same. absurd (omega (arith, same))) u frame).place
    ∙ changed_place v (becomes_edge (with_port v q (record (port_of v q) { host = true }))) (edge_placing v q) settled)

order_place : (choose : Choice) (v : SwitchView) (says : ToSwitch) → is_settled v.place ≡ true → (hears_manager choose v says).view.place ≡ v.place
order_place choose v (say.Pod pod) settled =
    cond_both (takes_pod v pod) (changes_to v (with_pod v (Some pod))) (rests v) (λ (s : SwitchStep). s.view.place ≡ v.place)
    (λ takes. changed_place v (with_pod v (Some pod)) (pod_placing v pod takes) settled) (λ h. refl)
order_place choose v (say.Avoid list) settled = refl
order_place choose v (say.Hello epoch) settled = refl
order_place choose v (say.Tree group part) settled = refl
order_place choose v (say.Answer asker asker_ip ip pmac) settled =
    cond_both (is_granted v asker) (makes choose (answer_frame asker asker_ip ip pmac) v) (rests v) (λ (s : SwitchStep). s.view.place ≡ v.place)
    (λ h. (makes_aside choose (answer_frame asker asker_ip ip pmac) v).place) (λ h. refl)
order_place choose v (say.Flood asker asker_ip ip) settled =
    cond_both (is_granted v asker) (floods v (flood_frame asker asker_ip ip)) (rests v) (λ (s : SwitchStep). s.view.place ≡ v.place)
    (λ h. (floods_aside v (flood_frame asker asker_ip ip)).place) (λ h. refl)
order_place choose v (say.Release x) settled = freed_place (granted v x)
  where
    freed_held : (g : Grant) (h : AddressUse) → (frees_at v x g h).view.place ≡ v.place
    freed_held g (InUse idle) = refl
    freed_held g (Trapped trap age) = refl
    freed_held g (Resting number) = refl
    freed_held g Free = refl

    freed_place : (o : Option Grant) → (frees v x o).view.place ≡ v.place
    freed_place None = refl
    freed_place (Some g) = freed_held g g.held
order_place choose v (say.Invalidate old new number ip) settled = by (held_here v old)
  where
    by : (o : Option Grant) → (invalidates v old (record { new = new; number = number; ip = ip }) o).view.place ≡ v.place
    by None = refl
    by (Some g) = recalled_place v old (record { new = new; number = number; ip = ip }) g

pub place_stays : (choose : Choice) (v : SwitchView) (input : SwitchInput) → is_settled v.place ≡ true → (switch_step choose v input).view.place ≡ v.place
place_stays choose v Tick settled = tick_place v
place_stays choose v (Says says) settled = order_place choose v says settled
place_stays choose v (Comes q frame) settled =
    cond_both (is_control frame) (control_comes v q frame) (data_comes choose v q frame) (λ (s : SwitchStep). s.view.place ≡ v.place)
    (λ h. cond_both (port_of v q).host (rests v) (hears_control v q (control_in (payload_of frame))) (λ (s : SwitchStep). s.view.place ≡ v.place)
    (λ host. refl) (λ linked. control_place v q (control_in (payload_of frame)) settled))
    (λ of_data. cond_both (is_open_to_hosts (port_of v q)) (comes_from_host choose v q frame) (comes_from_switch choose v q frame) (λ (s : SwitchStep). s.view.place ≡ v.place)
    (λ host. host_place choose v q frame settled) (λ linked. (switch_frame_aside choose v q frame).place))

all_filtered : {X : Type 0} (p : X → Bool) (P : X → Type 0) → ((x : X) → p x ≡ true → P x) → (xs : List X) → AllByRecursion P (filter p xs)
all_filtered p P all [] = tt
all_filtered {X} p P all (x ∷ xs) = by (all_filtered p P all xs) (p x) refl
  where
    by : AllByRecursion P (filter p xs) → (b : Bool) → p x ≡ b → AllByRecursion P (if◌then◌else◌ {A = List X} b (x ∷ filter p xs) (filter p xs))
    by rest true is = (all x is, rest)
    by rest false is = rest

-- the address of this number
abbrev ServesAs : Me → ℕ → ℕ → List Grant → Type 0
ServesAs me ticks n gs = (s : Serves me ticks gs) × (s.vmid ≡ n)

-- another address changes, and nobody uses it then
other_serves : (me : Me) (ticks : ℕ) (v : SwitchView) (port : ℕ) (x : Pmac) (g h : Grant) → granted v x ≡ Some g → is_in_use h.held ≡ false → (s : Serves me ticks (grants_at v port)) →
    (x.port ≡ port → s.vmid ≡ x.vmid → ⊥) → ServesAs me ticks s.vmid (get_or (set v.grants x.port (set (grants_at v x.port) (x.vmid - 1) h)) port [])
other_serves me ticks v port x g h was unused s away =
    put_list (ServesAs me ticks s.vmid) v.grants x.port port (set (grants_at v x.port) (x.vmid - 1) h) (s, refl)
    (λ same.
    let found : grant_number (grants_at v x.port) x.vmid ≡ Some g = (granted_parts v x g was).1 in
    let some = (number_within (grants_at v x.port) x.vmid g found).0 in
    let other : s.vmid ≢ x.vmid = away same in (
      record {
        vmid = s.vmid;
        grant = s.grant;
        idle = s.idle;
        its = use_other me.mac (grants_at v x.port) s.vmid x.vmid g h (ap (λ n. in_use (grants_at v n) me.mac) same ∙ s.its) found other unused;
        found = number_set_other (grants_at v x.port) x.vmid s.vmid h some other ∙ ap (λ n. grant_number (grants_at v n) s.vmid) same ∙ s.found;
        used = s.used;
        young = s.young;
        mac = s.mac;
        ip = s.ip;
      },
      refl,
    ))

module _ (me : Me) (port : ℕ) where
  -- a step after which all is known that was known: the host used its address so many ticks ago at most
  abbrev pub Still : SwitchView → SwitchStep → Type 0
  Still v s = (ticks : ℕ) → KnowsAt me ticks v port → KnowsAt me ticks s.view port

  aside_still : (v : SwitchView) (s : SwitchStep) → LeavesAddresses v s → Still v s
  aside_still v s a = λ ticks knows. same_knows me ticks port v s.view (aside_same port v s a) knows

  rests_still : (v : SwitchView) → Still v (rests v)
  rests_still v = λ ticks knows. knows

  module _ (v : SwitchView) (ready : IsReady v port) where
    changing : (w : SwitchView) → IsPlacing v w → Still v (changes_to v w)
    changing w p = λ ticks knows. changes_know me port v w p ready.low ready.has ready.within ticks knows

    -- ---- control frames
    hears_still : (q : ℕ) (m : Result Control ControlError) → Still v (hears_control v q m)
    hears_still q (Err e) = rests_still v
    hears_still q (Ok (control.Ldm id m)) = changing (after_message v q id m) (message_placing v q id m)
    hears_still q (Ok (control.Proposal id p)) = aside_still v (hears_control v q (Ok (control.Proposal id p))) (proposal_aside v q id p)
    hears_still q (Ok (control.Vote id vote)) = changing (after_vote v q vote) (vote_placing v q vote)

    control_still : (q : ℕ) (frame : List ℕ) → Still v (control_comes v q frame)
    control_still q frame =
        cond_both (port_of v q).host (rests v) (hears_control v q (control_in (payload_of frame))) (λ (s : SwitchStep). Still v s)
        (λ h. rests_still v) (λ h. hears_still q (control_in (payload_of frame)))

    -- ---- a frame of a host
    module _ (q : ℕ) where
      w : SwitchView
      w = becomes_edge (with_port v q (record (port_of v q) { host = true }))

      level_now : IsLow (finds_host v q).view.place
      unfolding w
      level_now = subst (λ (p : Place). IsLow p) (sym (alike_changes v w).place) (record { middle = refl; top = refl })

      has_now : HasPort (finds_host v q).view port
      unfolding w
      has_now = changed_port me port w (changes_to v w).view (alike_changes v w) (placing_port me port v w (edge_placing v q) ready.has)

      found_still : Still v (finds_host v q)
      unfolding w
      found_still = changing w (edge_placing v q)

    module _ (choose : Choice) (q : ℕ) (frame : List ℕ) where
      taken_still : (u : SwitchView) → Still u (takes_in_or_spent choose q frame u)
      taken_still u = aside_still u (takes_in_or_spent choose q frame u) (takes_in_aside choose q frame u)

      -- of another host
      pub other_host_still : port ≢ q → Still v (comes_from_host choose v q frame)
      other_host_still other =
          let u = (finds_host v q).view in
          let learnt = (learns_source u q frame).view in
          cond_both (is_known v.place.level 1 || is_known v.place.level 2) (does v (act.Drop cause.NotPlaced ∷ []))
          (finds_host v q ▹ (λ u. learns_source u q frame) ▹ takes_in_or_spent choose q frame) (λ (s : SwitchStep). Still v s)
          (λ h. rests_still v)
          (λ h ticks knows. taken_still learnt ticks (same_knows me ticks port u learnt (learns_elsewhere port q other u frame) (found_still q ticks knows)))

    said_now : (q ticks : ℕ) (ip : Option Ip4) → IsSaid me ip (KnowsAt me ticks v port) → IsSaid me ip (KnowsAt me ticks (finds_host v q).view port)
    said_now q ticks ip (inl is) = inl is
    said_now q ticks ip (inr is) = inr (is.0, found_still q ticks is.1)

    -- of this one, which uses its address with it
    pub own_frame_known : (choose : Choice) (ticks : ℕ) (frame : List ℕ) → source_of frame ≡ me.mac → IsSaid me (sender_ip frame) (KnowsAt me ticks v port) →
        KnowsAt me 0 (comes_from_host choose v port frame).view port
    own_frame_known choose ticks frame source said =
        let u = (finds_host v port).view in
        let taught = teaches me ticks u port frame (level_now port) (has_now port) source (said_now port ticks (sender_ip frame) said) in
        cond_both (is_known v.place.level 1 || is_known v.place.level 2) (does v (act.Drop cause.NotPlaced ∷ []))
        (finds_host v port ▹ (λ u. learns_source u port frame) ▹ takes_in_or_spent choose port frame) (λ (s : SwitchStep). KnowsAt me 0 s.view port)
        (λ h. absurd (neither (is_known v.place.level 1) (is_known v.place.level 2) ready.low.middle ready.low.top h))
        (λ h. taken_still choose port frame (learns_source u port frame).view 0 taught.knows)
      where
        neither : (a b : Bool) → a ≡ false → b ≡ false → (a || b) ≡ true → ⊥
        neither a b x y h = false≢true (sym (ap (λ c. c || b) x ∙ y) ∙ h)

    -- ---- what comes
    -- of another port, or of a link
    abbrev pub ComesOfOther : ℕ → List ℕ → Type 0
    ComesOfOther q frame = is_control frame ≡ false → is_open_to_hosts (port_of v q) ≡ true → port ≢ q

    pub comes_still : (choose : Choice) (q : ℕ) (frame : List ℕ) → ComesOfOther q frame → Still v (switch_step choose v (Comes q frame))
    comes_still choose q frame comes =
        cond_both (is_control frame) (control_comes v q frame) (data_comes choose v q frame) (λ (s : SwitchStep). Still v s)
        (λ h. control_still q frame)
        (λ of_data. cond_both (is_open_to_hosts (port_of v q)) (comes_from_host choose v q frame) (comes_from_switch choose v q frame) (λ (s : SwitchStep). Still v s)
        (λ host. other_host_still choose q frame (comes of_data host))
        (λ h. aside_still v (comes_from_switch choose v q frame) (switch_frame_aside choose v q frame)))

    -- a frame of the host that says its IPv4 address makes it known, and each one of a host that is known keeps it known
    pub frame_known : (choose : Choice) (ticks q : ℕ) (frame : List ℕ) → port ≡ q → is_control frame ≡ false → is_open_to_hosts (port_of v q) ≡ true → source_of frame ≡ me.mac →
        IsSaid me (sender_ip frame) (KnowsAt me ticks v port) → KnowsAt me 0 (switch_step choose v (Comes q frame)).view port
    frame_known choose ticks q frame same no_control takes source said =
        cond_both (is_control frame) (control_comes v q frame) (data_comes choose v q frame) (λ (s : SwitchStep). KnowsAt me 0 s.view port)
        (λ control. absurd (false≢true (sym no_control ∙ control)))
        (λ h. cond_both (is_open_to_hosts (port_of v q)) (comes_from_host choose v q frame) (comes_from_switch choose v q frame) (λ (s : SwitchStep). KnowsAt me 0 s.view port)
        (λ host. subst (λ (n : ℕ). KnowsAt me 0 (comes_from_host choose v n frame).view port) same (own_frame_known choose ticks frame source said))
        (λ shut. absurd (false≢true (sym shut ∙ takes))))

  -- ---- one address of a switch changes, and nobody uses it then
  changed_known : (ticks : ℕ) (v w : SwitchView) (x : Pmac) (g h : Grant) → granted v x ≡ Some g → is_in_use h.held ≡ false → w.place ≡ v.place → w.remembered ≡ v.remembered →
      w.grants ≡ set v.grants x.port (set (grants_at v x.port) (x.vmid - 1) h) → (nat_lt (length (grants_at v port)) 65535 ≡ true → (s : Serves me ticks (grants_at v port)) → x.port ≡ port → s.vmid ≡ x.vmid → ⊥) →
      KnowsAt me ticks v port → KnowsAt me ticks w port
  changed_known ticks v w x g h was unused place remembered grants away knows = record {
    unplaced = λ un. ap (λ (rs : List (Option Source)). get_or rs port None) remembered ∙ knows.unplaced (ap (λ (p : Place). is_settled p) (sym place) ∙ un);
    placed = λ settled room.
        let now : grants_at w port ≡ get_or (set v.grants x.port (set (grants_at v x.port) (x.vmid - 1) h)) port [] = ap (λ (gs : List (List Grant)). get_or gs port []) grants in
        let many = many_at port x.port (x.vmid - 1) v.grants h in
        let before : nat_lt (length (grants_at v port)) 65535 ≡ true = sym (ap (λ (gs : List Grant). nat_lt (length gs) 65535) now ∙ ap (λ n. nat_lt n 65535) many) ∙ room in
        let s = knows.placed (ap (λ (p : Place). is_settled p) (sym place) ∙ settled) before in
        subst (λ (gs : List Grant). Serves me ticks gs) (sym now) (other_serves me ticks v port x g h was unused s (away before s)).0;
  }

  -- ---- a tick
  -- all are older
  older_serves : (ticks : ℕ) (v : SwitchView) → Serves me ticks (grants_at v port) → Serves me (ticks + 1) (grants_at (with_older v) port)
  older_serves ticks v s = subst (λ (gs : List Grant). Serves me (ticks + 1) gs) (sym (older_at v.grants port)) (record {
    vmid = s.vmid;
    grant = older_grant s.grant;
    idle = s.idle + 1;
    its = use_older me.mac (grants_at v port) ∙ s.its;
    found = older_number (grants_at v port) s.vmid ∙ ap (option_map older_grant) s.found;
    used = ap older s.used;
    young = let low = s.young in omega (arith, low);
    mac = s.mac;
    ip = s.ip;
  })

  -- those that are to rest are others
  module _ (ticks : ℕ) (few : ticks < 300) (v : SwitchView) (s : Serves me ticks (grants_at v port)) where
    abbrev IsAway : Pmac → Type 0
    IsAway x = x.port ≡ port → s.vmid ≡ x.vmid → ⊥

    one_found : (x : Pmac) (g : Grant) → granted v x ≡ Some g → x.port ≡ port → s.vmid ≡ x.vmid → g.held ≡ InUse s.idle
    one_found x g was same number =
        let one : s.grant ≡ g =
        same_Some s.grant g (sym s.found ∙ ap (λ n. grant_number (grants_at v port) n) number ∙ ap (λ n. grant_number (grants_at v n) x.vmid) (sym same) ∙ (granted_parts v x g was).1) in
        ap (λ (q : Grant). q.held) (sym one) ∙ s.used

    idle_away : (x : Pmac) → is_held_so (is_idle_for ticks_to_rest) (granted v x) ≡ true → IsAway x
    idle_away x is = by (granted v x) refl is
      where
        by : (o : Option Grant) → granted v x ≡ o → is_held_so (is_idle_for ticks_to_rest) o ≡ true → IsAway x
        by None was h = absurd (false≢true h)
        by (Some g) was h = λ same number.
            let idle : s.idle ≡ 300 = eqb-true s.idle 300 (ap (is_idle_for ticks_to_rest) (sym (one_found x g was same number)) ∙ h) in
            let low = s.young in absurd (omega (arith, idle, low, few))

    trapped_away : (x : Pmac) → is_held_so (is_trapped_for ticks_to_rest) (granted v x) ≡ true → IsAway x
    trapped_away x is = by (granted v x) refl is
      where
        by : (o : Option Grant) → granted v x ≡ o → is_held_so (is_trapped_for ticks_to_rest) o ≡ true → IsAway x
        by None was h = absurd (false≢true h)
        by (Some g) was h = λ same number. false≢true (sym (ap (is_trapped_for ticks_to_rest) (one_found x g was same number)) ∙ h)

    all_away : AllByRecursion IsAway (to_rest v)
    all_away =
        all_append IsAway (filter (λ x. is_held_so (is_idle_for ticks_to_rest) (granted v x)) v.used) (filter (λ x. is_held_so (is_trapped_for ticks_to_rest) (granted v x)) v.trapped)
        (all_filtered (λ x. is_held_so (is_idle_for ticks_to_rest) (granted v x)) IsAway idle_away v.used)
        (all_filtered (λ x. is_held_so (is_trapped_for ticks_to_rest) (granted v x)) IsAway trapped_away v.trapped)

  -- one rests
  out_serves : (ticks n : ℕ) (v : SwitchView) (x : Pmac) (g : Grant) (h : AddressUse) → granted v x ≡ Some g → (x.port ≡ port → n ≡ x.vmid → ⊥) → ServesAs me ticks n (grants_at v port) →
      ServesAs me ticks n (grants_at (ages_out_of v x g h).view port)
  out_serves ticks n v x g (InUse idle) was away s =
      let it = other_serves me ticks v port x g (record g { held = Resting 0 }) was refl s.0 (λ same number. away same (sym s.1 ∙ number)) in (it.0, it.1 ∙ s.1)
  out_serves ticks n v x g (Trapped trap age) was away s =
      let it = other_serves me ticks v port x g (record g { held = Resting trap.number }) was refl s.0 (λ same number. away same (sym s.1 ∙ number)) in (it.0, it.1 ∙ s.1)
  out_serves ticks n v x g (Resting number) was away s = s
  out_serves ticks n v x g Free was away s = s

  one_serves : (ticks n : ℕ) (v : SwitchView) (x : Pmac) (o : Option Grant) → granted v x ≡ o → (x.port ≡ port → n ≡ x.vmid → ⊥) → ServesAs me ticks n (grants_at v port) →
      ServesAs me ticks n (grants_at (ages_out x o v).view port)
  one_serves ticks n v x None was away s = s
  one_serves ticks n v x (Some g) was away s = out_serves ticks n v x g g.held was away s

  all_serve : (ticks n : ℕ) (xs : List Pmac) (v : SwitchView) → AllByRecursion (λ x. x.port ≡ port → n ≡ x.vmid → ⊥) xs → ServesAs me ticks n (grants_at v port) →
      ServesAs me ticks n (grants_at (all_age_out xs v).view port)
  unfolding all_age_out
  all_serve ticks n [] v away s = s
  all_serve ticks n (x ∷ xs) v away s =
      all_serve ticks n xs (ages_out x (granted v x) v).view away.1 (one_serves ticks n v x (granted v x) refl away.0 s)

  ages_known : (ticks : ℕ) → ticks + 1 < 300 → (v : SwitchView) → KnowsAt me ticks v port → KnowsAt me (ticks + 1) (ages v).view port
  ages_known ticks few v knows =
      let w : SwitchView = with_older v in
      let rested = all_rested port (to_rest w) w in
      record {
        unplaced = λ un. ap (λ (rs : List (Option Source)). get_or rs port None) rested.remembered ∙ knows.unplaced (ap (λ (p : Place). is_settled p) (sym rested.place) ∙ un);
        placed = λ settled room.
            let many : length (grants_at (ages v).view port) ≡ length (grants_at v port) =
            rested.many ∙ ap (λ (gs : List Grant). length gs) (older_at v.grants port) ∙ length-map (grants_at v port) older_grant in
            let s = older_serves ticks v (knows.placed (ap (λ (p : Place). is_settled p) (sym rested.place) ∙ settled) (sym (ap (λ n. nat_lt n 65535) many) ∙ room)) in
            (all_serve (ticks + 1) s.vmid (to_rest w) w (all_away (ticks + 1) few w s) (s, refl)).0;
      }

  pub tick_known : (choose : Choice) (ticks : ℕ) → ticks + 1 < 300 → (v : SwitchView) → KnowsAt me ticks v port → KnowsAt me (ticks + 1) (switch_step choose v Tick).view port
  tick_known choose ticks few v knows = ages_known ticks few (tells_neighbours v).view (aside_still v (tells_neighbours v) (tells_aside v) ticks knows)

  -- ---- the manager's messages
  -- the acts end with a probe of the host
  pub record IsProbed (acts : List Act) : Type 0 where
    pub old : Pmac
    pub first : List Act
    pub is : acts ≡ first ++ (act.Make (probe_frame old me.ip) ∷ act.Pass port (arriving (probe_frame old me.ip) None (Some me.mac)) ∷ [])

  -- the address is taken from the host, which used it
  record IsTaken (old : Pmac) (g : Grant) : Type 0 where
    used : is_in_use g.held ≡ true
    mac : g.amac ≡ me.mac
    ip : g.ip ≡ Some me.ip
    same : port ≡ old.port

  module _ (ticks : ℕ) (v : SwitchView) (old : Pmac) (trap : Trap) (g : Grant) (was : granted v old ≡ Some g) where
    set_known : KnowsAt me ticks v port → KnowsAt me ticks (with_trap v old g trap) port ⊎ IsTaken old g
    set_known knows = elim (cases_eq old.port port) [
      | inr other ↦ inl (changed_known ticks v (with_trap v old g trap) old g (record g { held = Trapped trap 0 }) was refl refl refl refl (λ room s same number. other same) knows)
      | inl same ↦ elim (cases_Bool (nat_lt (length (grants_at v port)) 65535)) [
        | inr spent ↦ inl (changed_known ticks v (with_trap v old g trap) old g (record g { held = Trapped trap 0 }) was refl refl refl refl
            (λ room s at number. false≢true (sym spent ∙ room)) knows)
        | inl room ↦
            let s = knows.placed (local_settled v old (granted_parts v old g was).0) room in
            elim (cases_eq s.vmid old.vmid) [
              | inl number ↦
                  let one : s.grant ≡ g =
                  same_Some s.grant g (sym s.found ∙ ap (λ n. grant_number (grants_at v port) n) number ∙ ap (λ n. grant_number (grants_at v n) old.vmid) (sym same) ∙ (granted_parts v old g was).1) in
                  inr (record {
                    used = ap (λ (q : Grant). is_in_use q.held) (sym one) ∙ ap is_in_use s.used;
                    mac = ap (λ (q : Grant). q.amac) (sym one) ∙ s.mac;
                    ip = ap (λ (q : Grant). q.ip) (sym one) ∙ s.ip;
                    same = sym same;
                  })
              | inr other ↦ inl (changed_known ticks v (with_trap v old g trap) old g (record g { held = Trapped trap 0 }) was refl refl refl refl
                  (λ has_room t at number. other (same_Some s.vmid t.vmid (sym s.its ∙ t.its) ∙ number)) knows)
            ]
      ]
    ]

    over_known : (o : Option Trap) → KnowsAt me ticks v port → KnowsAt me ticks (sets_trap_over o v old g trap) port ⊎ IsTaken old g
    over_known None knows = set_known knows
    over_known (Some standing) knows =
        cond_both (nat_lt trap.number standing.number) v (with_trap v old g trap) (λ (w : SwitchView). KnowsAt me ticks w port ⊎ IsTaken old g) (λ h. inl knows) (λ h. set_known knows)

    probed : IsTaken old g → IsProbed (invalidates v old trap (Some g)).acts
    probed taken =
        let first = (does (sets_trap v old g trap) [] ▹ forgets_members old.port g.amac) in
        record {
          old = old;
          first = first.acts;
          is = ap (λ b. first.acts ++ (if◌then◌else◌ {A = SwitchStep} b (probes_at old g.amac g.ip first.view) (rests first.view)).acts) taken.used
              ∙ ap (λ (o : Option Ip4). first.acts ++ (probes_at old g.amac o first.view).acts) taken.ip
              ∙ (λ i. first.acts ++ (act.Make (probe_frame old me.ip) ∷ act.Pass (sym taken.same i) (arriving (probe_frame old me.ip) None (Some (taken.mac i))) ∷ []));
        }

    invalidated : KnowsAt me ticks v port → (KnowsAt me ticks (invalidates v old trap (Some g)).view port) ⊎ IsProbed (invalidates v old trap (Some g)).acts
    invalidated knows = elim (over_known (standing_trap g.held) knows) [
      | inl known ↦ inl (aside_still (sets_trap v old g trap) (invalidates v old trap (Some g)) (recalled_aside (sets_trap v old g trap) old g) ticks known)
      | inr taken ↦ inr (probed taken)
    ]

  -- ---- an address is released: nobody uses it
  freed_known : (ticks : ℕ) (v : SwitchView) (x : Pmac) (g : Grant) (h : AddressUse) → granted v x ≡ Some g → g.held ≡ h → KnowsAt me ticks v port → KnowsAt me ticks (frees_at v x g h).view port
  freed_known ticks v x g (InUse idle) was is knows = knows
  freed_known ticks v x g (Trapped trap age) was is knows = knows
  freed_known ticks v x g (Resting number) was is knows =
      changed_known ticks v (becomes_free v x g) x g (record g { held = Free }) was refl refl refl refl
      (λ room s same n.
      let one : s.grant ≡ g =
      same_Some s.grant g (sym s.found ∙ ap (λ m. grant_number (grants_at v port) m) n ∙ ap (λ m. grant_number (grants_at v m) x.vmid) (sym same) ∙ (granted_parts v x g was).1) in
      false≢true (sym (ap is_in_use is) ∙ ap (λ (q : Grant). is_in_use q.held) (sym one) ∙ ap is_in_use s.used)) knows
  freed_known ticks v x g Free was is knows = knows

  -- what a step leaves known; or it is that of a placed edge switch, and ends with a probe
  abbrev pub KnowsOrProbes : ℕ → SwitchStep → Type 0
  KnowsOrProbes ticks s = KnowsAt me ticks s.view port ⊎ ((is_settled s.view.place ≡ true) × IsProbed s.acts)

  pub order_known : (choose : Choice) (ticks : ℕ) (v : SwitchView) → IsReady v port → (says : ToSwitch) → KnowsAt me ticks v port → KnowsOrProbes ticks (switch_step choose v (Says says))
  order_known choose ticks v ready (say.Pod pod) knows =
      inl (cond_both (takes_pod v pod) (changes_to v (with_pod v (Some pod))) (rests v) (λ (s : SwitchStep). KnowsAt me ticks s.view port)
      (λ takes. changing v ready (with_pod v (Some pod)) (pod_placing v pod takes) ticks knows) (λ h. knows))
  order_known choose ticks v ready (say.Hello epoch) knows = inl knows
  order_known choose ticks v ready (say.Avoid list) knows =
      inl (aside_still v (hears_manager choose v (say.Avoid list)) (record { place = refl; k = refl; grants = refl; freed = refl; remembered = refl; silent = tt }) ticks knows)
  order_known choose ticks v ready (say.Tree group part) knows =
      inl (aside_still v (hears_manager choose v (say.Tree group part)) (record { place = refl; k = refl; grants = refl; freed = refl; remembered = refl; silent = tt }) ticks knows)
  order_known choose ticks v ready (say.Answer asker asker_ip ip pmac) knows =
      inl (cond_both (is_granted v asker) (makes choose (answer_frame asker asker_ip ip pmac) v) (rests v) (λ (s : SwitchStep). KnowsAt me ticks s.view port)
      (λ h. aside_still v (makes choose (answer_frame asker asker_ip ip pmac) v) (makes_aside choose (answer_frame asker asker_ip ip pmac) v) ticks knows) (λ h. knows))
  order_known choose ticks v ready (say.Flood asker asker_ip ip) knows =
      inl (cond_both (is_granted v asker) (floods v (flood_frame asker asker_ip ip)) (rests v) (λ (s : SwitchStep). KnowsAt me ticks s.view port)
      (λ h. aside_still v (floods v (flood_frame asker asker_ip ip)) (floods_aside v (flood_frame asker asker_ip ip)) ticks knows) (λ h. knows))
  order_known choose ticks v ready (say.Release x) knows = inl (by (granted v x) refl)
    where
      by : (o : Option Grant) → granted v x ≡ o → KnowsAt me ticks (frees v x o).view port
      by None none = knows
      by (Some g) was = freed_known ticks v x g g.held was refl knows
  order_known choose ticks v ready (say.Invalidate old new number ip) knows = by (held_here v old) refl
    where
      by : (o : Option Grant) → held_here v old ≡ o → KnowsOrProbes ticks (invalidates v old (record { new = new; number = number; ip = ip }) o)
      by None none = inl knows
      by (Some g) held =
          let was = held_parts v old g held in
          elim (invalidated ticks v old (record { new = new; number = number; ip = ip }) g was knows) [
            | inl known ↦ inl known
            | inr probed ↦ inr (
              ap (λ (p : Place). is_settled p) (recalled_place v old (record { new = new; number = number; ip = ip }) g) ∙ local_settled v old (granted_parts v old g was).0,
              probed,
            )
          ]
