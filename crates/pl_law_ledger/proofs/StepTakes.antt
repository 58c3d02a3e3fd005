-- What each row of a switch grants and remembers.
use Rattle.std.proofs.Common.{◌≡◌, ◌⊎◌, ◌<◌, ◌≤◌, ◌||◌, ℕ, nat_lt, Bool, true, false, cond, List, [], ◌∷◌, length, Option, Some, None, Result, Ok, Err, get_or, refl, sym, ap, subst, ◌∙◌, inl, inr}
use Rattle.std.specs.Option.{option_map}
use Rattle.std.proofs.lemmas.Bool.{cases_Bool, cond_both, false≢true}
use Rattle.std.proofs.lemmas.Option.{none-some}
use Rattle.pl_frame.specs.declared.address.Ip4.{Ip4}
use Rattle.pl_frame.specs.declared.address.Mac.{Mac}
use Rattle.pl_frame.specs.Ethernet.{payload_of, source_of}
use Rattle.pl_pmac.specs.declared.pmac.Pmac.{Pmac}
use Rattle.pl_layouts.specs.declared.control.Control.{Control}
use Rattle.pl_layouts.specs.declared.control.Control.TheVariants as control
use Rattle.pl_layouts.specs.declared.control.ControlError.{ControlError}
use Rattle.pl_layouts.specs.declared.place.Place.{Place}
use Rattle.pl_layouts.specs.Control.{control_in, is_control}
use Rattle.pl_layouts.specs.Placement.{is_known}
use Rattle.pl_node.specs.declared.acts.Act.TheVariants as act
use Rattle.pl_node.specs.declared.messages.ToSwitch.{ToSwitch}
use Rattle.pl_node.specs.declared.messages.ToSwitch.TheVariants as say
use Rattle.pl_node.specs.AddressUses.{is_held, standing_trap}
use Rattle.pl_node.specs.declared.address_use.AddressUse.{AddressUse}
use Rattle.pl_node.specs.declared.address_use.AddressUse.TheVariants.{Free, InUse, Resting, Trapped}
use Rattle.pl_node.specs.declared.switch_records.Grant.{Grant}
use Rattle.pl_node.specs.declared.switch_records.Source.{Source}
use Rattle.pl_node.specs.declared.trap.Trap.{Trap}
use Rattle.pl_node.specs.PortRecords.{is_open_to_hosts, port_of, with_port}
use Rattle.pl_node.specs.SwitchInputs.{SwitchInput}
use Rattle.pl_node.specs.SwitchInputs.SwitchInput.{Comes, Says, Tick}
use Rattle.pl_node.specs.SwitchViews.{SwitchView}
use Rattle.pl_journal.specs.declared.cause.Cause.TheVariants as cause
use Rattle.pl_steps.specs.Steps.{SwitchStep, does, rests, ◌▹◌}
use Rattle.pl_switch_rule.specs.Delivering.{makes}
use Rattle.pl_switch_rule.specs.Forwarding.{Choice}
use Rattle.pl_switch_rule.specs.Granting.{freed_at, granted, grants_at, is_granted, learns_source, unless_free}
use Rattle.pl_switch_rule.specs.Intake.{comes_from_host, takes_in_or_spent}
use Rattle.pl_switch_rule.specs.Levels.{after_message, becomes_edge, changes_to, finds_host, with_pod}
use Rattle.pl_switch_rule.specs.Messages.{answer_frame, becomes_free, flood_frame, floods, forgets_members, frees, frees_at, hears_manager, invalidates, probes, sets_trap, sets_trap_over, takes_pod, with_trap}
use Rattle.pl_switch_rule.specs.Positions.{after_vote}
use Rattle.pl_switch_rule.specs.SwitchRule.{comes_from_switch, control_comes, data_comes, hears_control, switch_step}
use Rattle.pl_switch_rule.proofs.Exports.{granted_parts, none_granted}
use Rattle.pl_law_addresses.specs.EdgeAddresses.{is_held as is_held_there, is_live, is_settled}
use Rattle.pl_law_addresses.specs.FreeVmids.{AreFreeVmids}
use Rattle.pl_law_addresses.proofs.Exports.{aside_does, edge_placing, floods_aside, forgets_members_aside, granted_within, IsPlacing, keeps_changes, LeavesAddresses, local_settled, makes_aside, message_placing, pod_placing, probes_aside, proposal_aside, switch_frame_aside, takes_in_aside, vote_placing}
use Rattle.pl_law_ledger.proofs.AgingTakes.{tick_quiets}
use Rattle.pl_law_ledger.proofs.Giving.{IsFresh, all_weaker, givings}
use Rattle.pl_law_ledger.proofs.Greeting.{hello_enters}
use Rattle.pl_law_ledger.proofs.Sourcing.{changes_takes, learns_takes}
use Rattle.pl_law_ledger.proofs.Takes.{AreOf, Enters, IsListed, Quiets, Takes, WasGranted, aside_takes, enters_of, enters_of_quiets, quiets_aside, quiets_then, rests_takes, takes_either, takes_then, unused_quiets}
use Rattle.pl_law_ledger.proofs.Using.{IsFirstThere, IsUsedAt, same_used}

-- What is needed of what comes: a frame of a host comes at a port where its host has stood.
abbrev pub ComesWell : (ℕ → Mac → Type 0) → SwitchView → SwitchInput → Type 0
ComesWell P v (Comes port frame) = is_control frame ≡ false → is_open_to_hosts (port_of v port) ≡ true → (port < v.k) × P port (source_of frame)
ComesWell P v Tick = Unit {0}
ComesWell P v (Says says) = Unit {0}

-- an address that is somebody's is freed, and nothing else is done
pub record FreesOne (v : SwitchView) (s : SwitchStep) : Type 0 where
  pub pmac : Pmac
  pub grant : Grant
  pub was : granted v pmac ≡ Some grant
  pub held : is_held grant.held ≡ true
  pub is : s ≡ does (becomes_free v pmac grant) (act.Free pmac ∷ [])

-- what comes of a change of the place leaves it so
settling_place : (v w : SwitchView) → (changes_to v w).view.place ≡ w.place
settling_place v w = (keeps_changes (λ mac. None) v w).place

module _ (P : ℕ → Mac → Type 0) where
  -- a change of the place before a part
  placing_takes : (v w : SwitchView) (s : SwitchStep) → IsPlacing v w → IsListed v → Takes P w s → Takes P v s
  placing_takes v w s p listed b = record {
    given = λ l are. b.given listed_then (λ port source is. are port source (ap (λ (ss : List (Option Source)). get_or ss port None) (sym p.remembered) ∙ is));
    covers = λ l x g is. elim (b.covers listed_then x g is) [ inl before ↦ inl (before_that x g before) | inr now ↦ inr now ];
    there = λ l x g is. let now = after_that x g is in b.there listed_then x now.0 now.1;
    fresh = λ l. all_weaker (IsFresh w) (IsFresh v) (λ f dead. dead_before f.pmac dead) (givings s.acts) (b.fresh listed_then);
    frees_none = b.frees_none;
    listed = λ l. b.listed listed_then;
    few = λ l few. b.few listed_then (λ port. subst (λ (gs : List (List Grant)). length (get_or gs port []) ≤ 65535) (sym p.grants) (few port));
    sources = λ are. b.sources (λ port source is. are port source (ap (λ (ss : List (Option Source)). get_or ss port None) (sym p.remembered) ∙ is));
    last = λ l x mac is. let it = b.last listed_then x mac is in record {
      only = it.only;
      from = elim it.from [ inl was ↦ inl (used_before x mac was) | inr now ↦ inr now ];
    };
    first = λ l. all_weaker (IsFirstThere w) (IsFirstThere v) (λ f free y is port. free y (used_then y f.mac is) port) (givings s.acts) (b.first listed_then);
    used = λ l. b.used listed_then;
    stays = λ l x mac is. b.stays listed_then x mac (used_then x mac is);
    settled = λ is. b.settled (ap (λ (q : Place). is_settled q) (p.place is) ∙ is);
    k = b.k ∙ p.k;
  }
    where
      listed_then : IsListed w
      listed_then = record {
        many = ap (λ (gs : List (List Grant)). length gs) p.grants ∙ listed.many ∙ sym p.k;
        many_freed = ap (λ (fs : List (List ℕ)). length fs) p.freed ∙ listed.many_freed ∙ sym p.k;
        free = λ port.
            subst (λ (fs : List ℕ). AreFreeVmids (grants_at w port) fs) (ap (λ (fs : List (List ℕ)). get_or fs port []) (sym p.freed))
            (subst (λ (gs : List Grant). AreFreeVmids gs (freed_at v port)) (ap (λ (gs : List (List Grant)). get_or gs port []) (sym p.grants))
            (listed.free port));
        empty = λ unsettled port. elim (cases_Bool (is_settled v.place)) [
          | inl settled ↦ absurd (false≢true (sym unsettled ∙ ap (λ (q : Place). is_settled q) (p.place settled) ∙ settled))
          | inr never ↦ ap (λ (gs : List (List Grant)). get_or gs port []) p.grants ∙ listed.empty never port
        ];
      }

      before_that : (x : Pmac) (g : Grant) → WasGranted w x g → WasGranted v x g
      before_that x g is = elim (cases_Bool (is_settled v.place)) [
        | inl settled ↦ record {
          grant = is.grant;
          found = sym (λ i. granted (record v { place = p.place settled i; grants = p.grants i }) x) ∙ is.found;
          to = is.to;
          held = is.held;
        }
        | inr never ↦
            absurd (none-some is.grant (sym (none_granted w x (ap (λ (gs : List (List Grant)). get_or gs x.port []) p.grants ∙ listed.empty never x.port))
            ∙ is.found))
      ]

      after_that : (x : Pmac) (g : Grant) → granted v x ≡ Some g → (h : Grant) × (granted w x ≡ Some h)
      after_that x g is = elim (cases_Bool (is_settled v.place)) [
        | inl settled ↦ (g, (λ i. granted (record v { place = p.place settled i; grants = p.grants i }) x) ∙ is)
        | inr never ↦ absurd (none-some g (sym (none_granted v x (listed.empty never x.port)) ∙ is))
      ]

      dead_before : (x : Pmac) → is_live w x ≡ false → is_live v x ≡ false
      dead_before x dead = elim (cases_Bool (is_settled v.place)) [
        | inl settled ↦ sym (λ i. is_live (record v { place = p.place settled i; grants = p.grants i }) x) ∙ dead
        | inr never ↦ ap (λ (o : Option Grant). is_held_there (option_map (λ (g : Grant). g.held) o)) (none_granted v x (listed.empty never x.port))
      ]

      used_before : (x : Pmac) (mac : Mac) → IsUsedAt w x mac → IsUsedAt v x mac
      used_before x mac is = elim (cases_Bool (is_settled v.place)) [
        | inl settled ↦ same_used w v (sym (p.place settled)) (sym p.grants) x mac is
        | inr never ↦
            absurd (none-some is.grant (sym (none_granted w x (ap (λ (gs : List (List Grant)). get_or gs x.port []) p.grants ∙ listed.empty never x.port))
            ∙ is.found))
      ]

      used_then : (x : Pmac) (mac : Mac) → IsUsedAt v x mac → IsUsedAt w x mac
      used_then x mac is = elim (cases_Bool (is_settled v.place)) [
        | inl settled ↦ same_used v w (p.place settled) p.grants x mac is
        | inr never ↦ absurd (none-some is.grant (sym (none_granted v x (listed.empty never x.port)) ∙ is.found))
      ]

  changing_takes : (v w : SwitchView) → IsPlacing v w → IsListed v → AreOf P v → Takes P v (changes_to v w)
  changing_takes v w p listed are =
      placing_takes v w (changes_to v w) p listed
      (changes_takes P v w (λ port source is. are port source (ap (λ (ss : List (Option Source)). get_or ss port None) (sym p.remembered) ∙ is)))

  module _ (choose : Choice) (v : SwitchView) (listed : IsListed v) (are : AreOf P v) where
    host_frame : (port : ℕ) (frame : List ℕ) → port < v.k → P port (source_of frame) → Takes P v (comes_from_host choose v port frame)
    host_frame port frame within of_it =
        let w : SwitchView = becomes_edge (with_port v port (record (port_of v port) { host = true })) in
        let learnt = (finds_host v port ▹ (λ u. learns_source u port frame)) in
        let found = changing_takes v w (edge_placing v port) listed are in
        let after : SwitchView = (finds_host v port).view in
        takes_either P v (is_known v.place.level 1 || is_known v.place.level 2) (does v (act.Drop cause.NotPlaced ∷ []))
        (learnt ▹ takes_in_or_spent choose port frame)
        (λ h. aside_takes P v (does v (act.Drop cause.NotPlaced ∷ [])) (aside_does v (act.Drop cause.NotPlaced ∷ []) (tt, tt)))
        (λ h. takes_then P v learnt (takes_in_or_spent choose port frame)
        (takes_then P v (finds_host v port) (λ u. learns_source u port frame) found
        (learns_takes P after port frame (ap (λ (p : Place). p.level) (settling_place v w)) (subst (λ n. port < n) (sym found.k) within) of_it))
        (aside_takes P learnt.view (takes_in_or_spent choose port frame learnt.view) (takes_in_aside choose port frame learnt.view)))

    control_row : (port : ℕ) (m : Result Control ControlError) → Takes P v (hears_control v port m)
    control_row port (Err e) = rests_takes P v
    control_row port (Ok (control.Ldm from m)) = changing_takes v (after_message v port from m) (message_placing v port from m) listed are
    control_row port (Ok (control.Proposal from p)) = aside_takes P v (hears_control v port (Ok (control.Proposal from p))) (proposal_aside v port from p)
    control_row port (Ok (control.Vote from vote)) = changing_takes v (after_vote v port vote) (vote_placing v port vote) listed are

    comes_row : (port : ℕ) (frame : List ℕ) → (is_control frame ≡ false → is_open_to_hosts (port_of v port) ≡ true → (port < v.k) × P port (source_of frame)) →
        Takes P v (switch_step choose v (Comes port frame))
    comes_row port frame well =
        takes_either P v (is_control frame) (control_comes v port frame) (data_comes choose v port frame)
        (λ control. takes_either P v (port_of v port).host (rests v) (hears_control v port (control_in (payload_of frame)))
        (λ h. rests_takes P v) (λ h. control_row port (control_in (payload_of frame))))
        (λ other. takes_either P v (is_open_to_hosts (port_of v port)) (comes_from_host choose v port frame) (comes_from_switch choose v port frame)
        (λ host. host_frame port frame (well other host).0 (well other host).1)
        (λ h. aside_takes P v (comes_from_switch choose v port frame) (switch_frame_aside choose v port frame)))

    -- a trap is set for an address that is somebody's
    trapped_now : (old : Pmac) (trap : Trap) (g : Grant) → granted v old ≡ Some g → is_held g.held ≡ true → Quiets P v (does (with_trap v old g trap) [])
    trapped_now old trap g is held =
        let here = (granted_parts v old g is).0 in
        unused_quiets P v old g (record g { held = Trapped trap 0 }) here (local_settled v old here)
        (granted_within v old g is listed.many) is refl held refl refl listed
        (with_trap v old g trap) [] refl refl tt

    trapped : (old : Pmac) (trap : Trap) (g : Grant) → granted v old ≡ Some g → is_held g.held ≡ true → (o : Option Trap) →
        Quiets P v (does (sets_trap_over o v old g trap) [])
    trapped old trap g is held None = trapped_now old trap g is held
    trapped old trap g is held (Some standing) =
        cond_both (nat_lt trap.number standing.number) v (with_trap v old g trap) (λ (w : SwitchView). Quiets P v (does w []))
        (λ smaller. quiets_aside P v (does v []) listed (aside_does v [] tt)) (λ larger. trapped_now old trap g is held)

    recalled_one : (old : Pmac) (trap : Trap) (g : Grant) → granted v old ≡ Some g → is_held g.held ≡ true → Enters P v (invalidates v old trap (Some g))
    recalled_one old trap g is held =
        let w : SwitchView = sets_trap v old g trap in
        let set = trapped old trap g is held (standing_trap g.held) in
        let forgets = forgets_members old.port g.amac in
        let forgot = quiets_then P v (does w []) forgets set (quiets_aside P w (forgets w) set.listed (forgets_members_aside old.port g.amac w)) in
        let after : SwitchView = (does w [] ▹ forgets).view in
        enters_of_quiets P v (does w [] ▹ forgets ▹ probes old g)
        (quiets_then P v (does w [] ▹ forgets) (probes old g) forgot (quiets_aside P after (probes old g after) forgot.listed (probes_aside old g after)))

    recalled : (old : Pmac) (trap : Trap) (o : Option Grant) → granted v old ≡ o → Enters P v (invalidates v old trap (unless_free o))
    recalled old trap None is = enters_of P v (rests v) (rests_takes P v)
    recalled old trap (Some g) is = by (is_held g.held) refl
      where
        by : (b : Bool) → is_held g.held ≡ b → Enters P v (invalidates v old trap (cond b (Some g) None))
        by true held = recalled_one old trap g is held
        by false free = enters_of P v (rests v) (rests_takes P v)

    pod_row : (pod : ℕ) → Takes P v (hears_manager choose v (say.Pod pod))
    pod_row pod =
        cond_both (takes_pod v pod) (changes_to v (with_pod v (Some pod))) (rests v) (Takes P v)
        (λ takes. changing_takes v (with_pod v (Some pod)) (pod_placing v pod takes) listed are)
        (λ h. rests_takes P v)

    answer_row : (asker : Pmac) (asker_ip ip : Ip4) (pmac : Pmac) → Takes P v (hears_manager choose v (say.Answer asker asker_ip ip pmac))
    answer_row asker asker_ip ip pmac =
        takes_either P v (is_granted v asker) (makes choose (answer_frame asker asker_ip ip pmac) v) (rests v)
        (λ h. aside_takes P v (makes choose (answer_frame asker asker_ip ip pmac) v) (makes_aside choose (answer_frame asker asker_ip ip pmac) v))
        (λ h. rests_takes P v)

    flood_row : (asker : Pmac) (asker_ip ip : Ip4) → Takes P v (hears_manager choose v (say.Flood asker asker_ip ip))
    flood_row asker asker_ip ip =
        takes_either P v (is_granted v asker) (floods v (flood_frame asker asker_ip ip)) (rests v)
        (λ h. aside_takes P v (floods v (flood_frame asker asker_ip ip)) (floods_aside v (flood_frame asker asker_ip ip)))
        (λ h. rests_takes P v)

    quiet_row : (says : ToSwitch) → LeavesAddresses v (hears_manager choose v says) → Enters P v (hears_manager choose v says)
    quiet_row says a = enters_of P v (hears_manager choose v says) (aside_takes P v (hears_manager choose v says) a)

    -- an address that rested is freed
    freed_at_rest : (x : Pmac) (g : Grant) → granted v x ≡ Some g → (h : AddressUse) → g.held ≡ h →
        Enters P v (frees_at v x g h) ⊎ FreesOne v (frees_at v x g h)
    freed_at_rest x g was (Resting number) is = inr (record { pmac = x; grant = g; was = was; held = ap is_held is; is = refl })
    freed_at_rest x g was (InUse idle) is = inl (enters_of P v (rests v) (rests_takes P v))
    freed_at_rest x g was (Trapped trap age) is = inl (enters_of P v (rests v) (rests_takes P v))
    freed_at_rest x g was Free is = inl (enters_of P v (rests v) (rests_takes P v))

    released_row : (x : Pmac) (o : Option Grant) → granted v x ≡ o → Enters P v (frees v x o) ⊎ FreesOne v (frees v x o)
    released_row x None is = inl (enters_of P v (rests v) (rests_takes P v))
    released_row x (Some g) is = freed_at_rest x g is g.held refl

    says_row : (says : ToSwitch) → Enters P v (hears_manager choose v says) ⊎ FreesOne v (hears_manager choose v says)
    says_row (say.Pod pod) = inl (enters_of P v (hears_manager choose v (say.Pod pod)) (pod_row pod))
    says_row (say.Avoid list) = inl (quiet_row (say.Avoid list) (record { place = refl; k = refl; grants = refl; freed = refl; remembered = refl; silent = tt }))
    says_row (say.Tree group part) = inl (quiet_row (say.Tree group part)
        (record { place = refl; k = refl; grants = refl; freed = refl; remembered = refl; silent = tt }))
    says_row (say.Answer asker asker_ip ip pmac) = inl (enters_of P v (hears_manager choose v (say.Answer asker asker_ip ip pmac))
        (answer_row asker asker_ip ip pmac))
    says_row (say.Flood asker asker_ip ip) = inl (enters_of P v (hears_manager choose v (say.Flood asker asker_ip ip)) (flood_row asker asker_ip ip))
    says_row (say.Invalidate old new number ip) = inl (recalled old (record { new = new; number = number; ip = ip }) (granted v old) refl)
    says_row (say.Release x) = released_row x (granted v x) refl
    says_row (say.Hello epoch) = inl (hello_enters P v listed epoch)

    pub step_takes : (input : SwitchInput) → ComesWell P v input → Enters P v (switch_step choose v input) ⊎ FreesOne v (switch_step choose v input)
    step_takes (Comes port frame) well = inl (enters_of P v (switch_step choose v (Comes port frame)) (comes_row port frame well))
    step_takes Tick well = inl (enters_of_quiets P v (switch_step choose v Tick) (tick_quiets P v listed))
    step_takes (Says says) well = says_row says
