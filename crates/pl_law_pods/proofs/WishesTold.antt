-- A switch tells its wish for a pod once: in the step in which its position becomes 0.
use Rattle.std.proofs.Common.{◌≡◌, ℕ, ◌+◌, ◌&&◌, ◌||◌, not, Bool, true, false, if◌then◌else◌, cond, List, [], ◌∷◌, ◌++◌, Option, Some, None, length, Result, Ok, Err, refl, sym, ◌∙◌, ap, arith, flat_map}
use Rattle.std.specs.List.{AllByRecursion, filter}
use Rattle.std.proofs.lemmas.Bool.{cond_both, false≢true}
use Rattle.pl_lemmas.proofs.Exports.{all_append}
use Rattle.pl_frame.specs.declared.address.SwitchId.{SwitchId}
use Rattle.pl_frame.specs.Ethernet.{payload_of}
use Rattle.pl_pmac.specs.declared.pmac.Pmac.{Pmac}
use Rattle.pl_journal.specs.Places.{are_alike}
use Rattle.pl_journal.specs.declared.cause.Cause.TheVariants.{NotPlaced}
use Rattle.pl_layouts.specs.declared.control.Control.{Control}
use Rattle.pl_layouts.specs.declared.control.Control.TheVariants.{Ldm, Proposal, Vote}
use Rattle.pl_layouts.specs.declared.control.ControlError.{ControlError}
use Rattle.pl_layouts.specs.declared.place.Place.{Place}
use Rattle.pl_layouts.specs.Control.{control_in, is_control}
use Rattle.pl_layouts.specs.Placement.{is_known, same_place}
use Rattle.pl_layouts.proofs.Exports.{known_is}
use Rattle.pl_node.specs.declared.acts.Act.{Act}
use Rattle.pl_node.specs.declared.acts.Act.TheVariants as act
use Rattle.pl_node.specs.declared.messages.ToManager.{ToManager}
use Rattle.pl_node.specs.declared.messages.ToManager.TheVariants as tell
use Rattle.pl_node.specs.declared.messages.ToSwitch.{ToSwitch}
use Rattle.pl_node.specs.declared.messages.ToSwitch.TheVariants as say
use Rattle.pl_node.specs.declared.switch_records.Grant.{Grant}
use Rattle.pl_node.specs.declared.trap.Trap.{Trap}
use Rattle.pl_node.specs.PortRecords.{id_at, is_open_to_hosts, is_usable, port_of, ports_of_switch}
use Rattle.pl_node.specs.SwitchInputs.{SwitchInput}
use Rattle.pl_node.specs.SwitchInputs.SwitchInput.{Comes, Says, Tick}
use Rattle.pl_node.specs.SwitchViews.{SwitchView}
use Rattle.pl_steps.specs.Steps.{SwitchStep, does, rests, ◌▹◌}
use Rattle.pl_switch_rule.specs.Aging.{ages, with_older}
use Rattle.pl_switch_rule.specs.Announcing.{announcements, tells_neighbours, ticks, with_aged_ports}
use Rattle.pl_switch_rule.specs.Forwarding.{Choice}
use Rattle.pl_switch_rule.specs.Granting.{granted, held_here, is_granted, learns_source}
use Rattle.pl_switch_rule.specs.Intake.{comes_from_host, hears_members, takes_in_or_spent, with_pmac}
use Rattle.pl_switch_rule.specs.Levels.{after_message, changes_to, finds_host, settles_in, with_pod}
use Rattle.pl_switch_rule.specs.Messages.{answer_frame, flood_frame, floods, forgets_members, hears_manager, invalidates, probes, sets_trap, takes_pod}
use Rattle.pl_switch_rule.specs.Positions.{after_vote, hears_proposal}
use Rattle.pl_switch_rule.specs.SwitchRule.{comes_from_switch, control_comes, data_comes, hears_control, switch_step}
use Rattle.pl_switch_rule.specs.Telling.{changes_told, link_to, link_told, place_told, pod_wanted}
use Rattle.pl_switch_rule.specs.Delivering.{makes}
use Rattle.pl_switch_rule.proofs.Exports.{ages_acts, ages_learn, announced_acts, any_group, any_way, changes_learn, floods_acts, FrameActs, frees_acts, GrantActs, groups_acts, idle_acts, IsAnyPort, learns_source_acts, makes_acts, packet_taken_acts, probes_acts, proposal_acts, proposal_holds, sends_in_acts, settles_in_acts, switch_frame_acts, taken_in, with_host}
use Rattle.pl_law_control_plane.specs.ControlPlanes.{tells}
use Rattle.pl_law_control_plane.proofs.Exports.{flat_map_append, told_all}
use Rattle.pl_law_votes.proofs.Exports.{aside_data, changes, manager_leaves_votes, same_stance, Stance}
use Rattle.pl_law_pods.specs.Ways.{how_many, is_wish, one_if}
use Rattle.pl_law_pods.proofs.Managing.{all_flat}

-- ---- counting
pub how_many_append : {X : Type 0} (p : X → Bool) (xs ys : List X) → how_many p (xs ++ ys) ≡ how_many p xs + how_many p ys
how_many_append p [] ys = omega arith
how_many_append p (x ∷ xs) ys = by (p x) (how_many_append p xs ys)
  where
    by : (b : Bool) → how_many p (xs ++ ys) ≡ how_many p xs + how_many p ys →
        length (cond b (x ∷ filter p (xs ++ ys)) (filter p (xs ++ ys))) ≡ length (cond b (x ∷ filter p xs) (filter p xs)) + how_many p ys
    by true rest = omega (arith, rest)
    by false rest = rest

-- an act tells no wish
abbrev pub IsNoWish : Act → Type 0
IsNoWish (act.Tell tell.PodWanted) = ⊥
IsNoWish a = Unit {0}

pub none_among : (words : List ToManager) → AllByRecursion (λ told. IsNoWish (act.Tell told)) words → how_many is_wish words ≡ 0
none_among [] all = refl
none_among (tell.PodWanted ∷ words) all = absurd all.0
none_among (tell.Place place ∷ words) all = none_among words all.1
none_among (tell.Link u usable ∷ words) all = none_among words all.1
none_among (tell.Learned a b c ∷ words) all = none_among words all.1
none_among (tell.Aged a b ∷ words) all = none_among words all.1
none_among (tell.Begin n ∷ words) all = none_among words all.1
none_among (tell.End n ∷ words) all = none_among words all.1
none_among (tell.Trapped a b c ∷ words) all = none_among words all.1
none_among (tell.Query a b c ∷ words) all = none_among words all.1
none_among (tell.Members group any ∷ words) all = none_among words all.1

none_told : (acts : List Act) → AllByRecursion IsNoWish acts → how_many is_wish (tells acts) ≡ 0
none_told acts all = none_among (tells acts) (told_all IsNoWish acts all)

-- ---- rows that tell no wish
frames : FrameActs IsAnyPort IsNoWish
frames = record { passed = λ port frame way. tt; redirected = λ old new. tt; dropped = λ cause. tt; taken = tt; asked = λ asker asker_ip ip. tt }

grants : GrantActs IsNoWish
grants = record { granted = λ address amac. tt; learnt = λ address amac ip. tt }

place_told_none : (old new : Place) → AllByRecursion IsNoWish (place_told old new)
place_told_none old new = cond_both (same_place old new) [] (act.Tell (tell.Place new) ∷ []) (AllByRecursion IsNoWish) (λ same. tt) (λ other. (tt, tt))

links_told_none : (old new : SwitchView) → AllByRecursion IsNoWish (flat_map (link_told old new) (ports_of_switch new.k))
links_told_none old new = all_flat IsNoWish (link_told old new) (ports_of_switch new.k) (λ port.
    cond_both (are_alike (is_usable old port) (is_usable new port)) [] (link_to (id_at new port) (is_usable new port)) (AllByRecursion IsNoWish)
    (λ same. tt) (λ other. by (id_at new port) (is_usable new port)))
  where
    by : (o : Option SwitchId) (usable : Bool) → AllByRecursion IsNoWish (link_to o usable)
    by None usable = tt
    by (Some neighbour) usable = (tt, tt)

-- where the position stays, no pod is wanted
wanted_none : (old new : Place) → new.position ≡ old.position → AllByRecursion IsNoWish (pod_wanted old new)
wanted_none old new same = by (is_known new.level 0) (is_known new.position 0) (is_known old.position 0) (ap (λ (o : Option ℕ). is_known o 0) same)
  where
    by : (a b c : Bool) → b ≡ c → AllByRecursion IsNoWish (if a && b && not c then act.Tell tell.PodWanted ∷ [] else [])
    by false b c is = tt
    by true false c is = tt
    by true true true is = tt
    by true true false is = absurd (cc is)

changes_told_none : (old new : SwitchView) → new.place.position ≡ old.place.position → AllByRecursion IsNoWish (changes_told old new)
changes_told_none old new same =
    let links = flat_map (link_told old new) (ports_of_switch new.k) in
    all_append IsNoWish (place_told old.place new.place ++ links) (pod_wanted old.place new.place)
    (all_append IsNoWish (place_told old.place new.place) links (place_told_none old.place new.place) (links_told_none old new))
    (wanted_none old.place new.place same)

changes_none : (old new : SwitchView) → new.place.position ≡ old.place.position → AllByRecursion IsNoWish (changes_to old new).acts
changes_none old new same =
    all_append IsNoWish (changes_told old new) (settles_in old.place new).acts (changes_told_none old new same) (settles_in_acts IsNoWish grants old.place new)

ticks_none : (v : SwitchView) → AllByRecursion IsNoWish (ticks v).acts
ticks_none v =
    let aged = with_aged_ports v in
    let told = (tells_neighbours v).view in
    all_append IsNoWish (tells_neighbours v).acts (ages told).acts
    (all_append IsNoWish (changes_told v aged) (announcements aged) (changes_told_none v aged refl) (announced_acts IsNoWish (λ port frame. tt) aged))
    (ages_acts IsNoWish (λ x number. tt) told (idle_acts IsNoWish IsAnyPort (λ port frame way. tt) (with_older told) (λ x grant is. tt) (λ x i. tt)))

host_frame_none : (choose : Choice) (v : SwitchView) (port : ℕ) (frame : List ℕ) → AllByRecursion IsNoWish (comes_from_host choose v port frame).acts
host_frame_none choose v port frame =
    let known : SwitchStep = finds_host v port ▹ (λ w. learns_source w port frame) in
    let w = known.view in
    cond_both (is_known v.place.level 1 || is_known v.place.level 2) (does v (act.Drop NotPlaced ∷ [])) (known ▹ takes_in_or_spent choose port frame)
    (λ (step : SwitchStep). AllByRecursion IsNoWish step.acts) (λ no_hosts. (tt, tt))
    (λ edge. all_append IsNoWish known.acts (takes_in_or_spent choose port frame w).acts
    (all_append IsNoWish (finds_host v port).acts (learns_source (finds_host v port).view port frame).acts (changes_none v (with_host v port) refl)
    (learns_source_acts IsNoWish grants (finds_host v port).view port frame))
    (taken_in choose port frame w (λ (step : SwitchStep). AllByRecursion IsNoWish step.acts) (λ cause. (tt, tt))
    (packet_taken_acts IsNoWish IsAnyPort frames w port frame)
    (all_append IsNoWish (hears_members w port frame).acts (act.Take ∷ []) (groups_acts IsNoWish w.members _ (λ group other. tt)) (tt, tt))
    (sends_in_acts IsNoWish IsAnyPort frames choose w (any_way choose w) (with_pmac w port frame) (λ trap is ip. tt))))

data_none : (choose : Choice) (v : SwitchView) (port : ℕ) (frame : List ℕ) → AllByRecursion IsNoWish (data_comes choose v port frame).acts
data_none choose v port frame =
    cond_both (is_open_to_hosts (port_of v port)) (comes_from_host choose v port frame) (comes_from_switch choose v port frame)
    (λ (step : SwitchStep). AllByRecursion IsNoWish step.acts) (λ host. host_frame_none choose v port frame)
    (λ switch. switch_frame_acts IsNoWish IsAnyPort frames choose v (any_way choose v) port frame (λ trap is ip. tt))

invalidates_none : (v : SwitchView) (old : Pmac) (trap : Trap) (o : Option Grant) → AllByRecursion IsNoWish (invalidates v old trap o).acts
invalidates_none v old trap None = tt
invalidates_none v old trap (Some grant) =
    let forgot : SwitchStep = does (sets_trap v old grant trap) [] ▹ forgets_members old.port grant.amac in
    all_append IsNoWish forgot.acts (probes old grant forgot.view).acts (groups_acts IsNoWish (sets_trap v old grant trap).members _ (λ group other. tt))
    (probes_acts IsNoWish IsAnyPort (λ port frame way. tt) old grant forgot.view tt (λ i. tt))

orders_none : (choose : Choice) (v : SwitchView) (says : ToSwitch) → ((epoch : ℕ) → says ≡ say.Hello epoch → ⊥) →
    AllByRecursion IsNoWish (hears_manager choose v says).acts
orders_none choose v (say.Pod n) other =
    cond_both (takes_pod v n) (changes_to v (with_pod v (Some n))) (rests v) (λ (step : SwitchStep). AllByRecursion IsNoWish step.acts)
    (λ takes. changes_none v (with_pod v (Some n)) refl) (λ stays. tt)
orders_none choose v (say.Avoid list) other = tt
orders_none choose v (say.Tree group part) other = tt
orders_none choose v (say.Answer asker asker_ip ip pmac) other =
    cond_both (is_granted v asker) (makes choose (answer_frame asker asker_ip ip pmac) v) (rests v) (λ (step : SwitchStep). AllByRecursion IsNoWish step.acts)
    (λ known. makes_acts IsNoWish IsAnyPort frames choose v (any_way choose v) (answer_frame asker asker_ip ip pmac) tt) (λ unknown. tt)
orders_none choose v (say.Flood asker asker_ip ip) other =
    cond_both (is_granted v asker) (floods v (flood_frame asker asker_ip ip)) (rests v) (λ (step : SwitchStep). AllByRecursion IsNoWish step.acts)
    (λ known. floods_acts IsNoWish IsAnyPort frames v (any_group v) (flood_frame asker asker_ip ip) tt) (λ unknown. tt)
orders_none choose v (say.Invalidate old new number ip) other = invalidates_none v old (record { new = new; number = number; ip = ip }) (held_here v old)
orders_none choose v (say.Release address) other = frees_acts IsNoWish (λ x. tt) v address (granted v address)
orders_none choose v (say.Hello epoch) other = absurd (other epoch refl)

-- ---- each step that greets no manager
-- where its position becomes 0
abbrev pub AsksOnce : SwitchView → SwitchStep → Type 0
AsksOnce v st = how_many is_wish (tells st.acts) + one_if (is_known v.place.position 0) ≡ one_if (is_known st.view.place.position 0)

quiet : (v : SwitchView) (st : SwitchStep) → st.view.place.position ≡ v.place.position → AllByRecursion IsNoWish st.acts → AsksOnce v st
quiet v st same none =
    let told = none_told st.acts none in
    let positions = ap (λ (o : Option ℕ). one_if (is_known o 0)) same in
    omega (arith, told, positions)

-- a position that was 0 stays, and a switch with one has a level
voted : (v w : SwitchView) → (v.place.position ≡ Some 0 → w.place.position ≡ Some 0) → (w.place.position ≡ Some 0 → w.place.level ≡ Some 0) →
    AsksOnce v (changes_to v w)
voted v w later level =
    let links = flat_map (link_told v w) (ports_of_switch w.k) in
    let front = place_told v.place w.place ++ links in
    let wanted = pod_wanted v.place w.place in
    let rest = (settles_in v.place w).acts in
    let split : tells ((front ++ wanted) ++ rest) ≡ (tells front ++ tells wanted) ++ tells rest =
    flat_map_append _ (front ++ wanted) rest ∙ ap (λ ws. ws ++ tells rest) (flat_map_append _ front wanted) in
    let parts = ap (how_many is_wish) split ∙ how_many_append is_wish (tells front ++ tells wanted) (tells rest)
    ∙ ap (λ n. n + how_many is_wish (tells rest)) (how_many_append is_wish (tells front) (tells wanted)) in
    let first = none_told front (all_append IsNoWish (place_told v.place w.place) links (place_told_none v.place w.place) (links_told_none v w)) in
    let last = none_told rest (settles_in_acts IsNoWish grants v.place w) in
    let position = ap (λ (x : Stance). one_if (is_known x.position 0)) (changes v w).same in
    let own = by (is_known w.place.level 0) (is_known w.place.position 0) (is_known v.place.position 0) (λ is. known (level (is_some w.place.position is)))
    (λ is. known (later (is_some v.place.position is))) in
    omega (arith, parts, first, last, position, own)
  where
    is_some : (o : Option ℕ) → is_known o 0 ≡ true → o ≡ Some 0
    is_some o is = known_is o 0 is

    known : {o : Option ℕ} → o ≡ Some 0 → is_known o 0 ≡ true
    known same = ap (λ (o : Option ℕ). is_known o 0) same

    by : (a b c : Bool) → (b ≡ true → a ≡ true) → (c ≡ true → b ≡ true) →
        how_many is_wish (tells (if a && b && not c then act.Tell tell.PodWanted ∷ [] else [])) + one_if c ≡ one_if b
    by true true true ab cb = refl
    by true true false ab cb = refl
    by true false true ab cb = absurd (false≢true (cb refl))
    by true false false ab cb = refl
    by false true c ab cb = absurd (false≢true (ab refl))
    by false false true ab cb = absurd (false≢true (cb refl))
    by false false false ab cb = refl

module _ (choose : Choice) (v : SwitchView) where
  abbrev LaterAt : SwitchStep → Type 0
  LaterAt st = v.place.position ≡ Some 0 → st.view.place.position ≡ Some 0

  abbrev EdgeAt : SwitchStep → Type 0
  EdgeAt st = st.view.place.position ≡ Some 0 → st.view.place.level ≡ Some 0

  heard : (port : ℕ) (read : Result Control ControlError) → LaterAt (hears_control v port read) → EdgeAt (hears_control v port read) →
      AsksOnce v (hears_control v port read)
  heard port (Err e) later edge = quiet v (rests v) refl tt
  heard port (Ok (Ldm id m)) later edge =
      let w = after_message v port id m in
      let same = ap (λ (x : Stance). x.position) (same_stance v port id m) in
      quiet v (changes_to v w) (ap (λ (x : Stance). x.position) (changes v w).same ∙ same) (changes_none v w same)
  heard port (Ok (Proposal id p)) later edge =
      quiet v (hears_proposal v port id p) (ap (λ (w : SwitchView). w.place.position) (proposal_holds v port id p))
      (proposal_acts IsNoWish (λ at told. tt) v port id p)
  heard port (Ok (Vote id vote)) later edge =
      let w = after_vote v port vote in
      let place = ap (λ (x : SwitchView). x.place) (changes_learn v w) in
      voted v w (λ is. ap (λ (p : Place). p.position) (sym place) ∙ later is)
      (λ is. ap (λ (p : Place). p.level) (sym place) ∙ edge (ap (λ (p : Place). p.position) place ∙ is))

  pub step_asks_once : (input : SwitchInput) → ((epoch : ℕ) → input ≡ Says (say.Hello epoch) → ⊥) → LaterAt (switch_step choose v input) →
      EdgeAt (switch_step choose v input) →
      AsksOnce v (switch_step choose v input)
  step_asks_once Tick other later edge = quiet v (ticks v) (ap (λ (w : SwitchView). w.place.position) (ages_learn (with_aged_ports v))) (ticks_none v)
  step_asks_once (Says says) other later edge =
      quiet v (hears_manager choose v says) (ap (λ (x : Stance). x.position) (manager_leaves_votes choose v says).same)
      (orders_none choose v says (λ epoch is. other epoch (ap (λ (x : ToSwitch). Says x) is)))
  step_asks_once (Comes port frame) other later edge =
      cond_both (is_control frame) (control_comes v port frame) (data_comes choose v port frame) (λ (st : SwitchStep). LaterAt st → EdgeAt st → AsksOnce v st)
      (λ control. cond_both (port_of v port).host (rests v) (hears_control v port (control_in (payload_of frame)))
      (λ (st : SwitchStep). LaterAt st → EdgeAt st →
      AsksOnce v st) (λ host a b. quiet v (rests v) refl tt) (λ link. heard port (control_in (payload_of frame))))
      (λ data_frame a b. quiet v (data_comes choose v port frame)
      (ap (λ (x : Stance). x.position) (aside_data choose v port frame).same) (data_none choose v port frame))
      later edge
