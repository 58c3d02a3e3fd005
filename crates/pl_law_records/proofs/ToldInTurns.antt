-- What a switch tells the manager in a step, whatever comes.
use Rattle.std.proofs.Common.{◌≡◌, ℕ, zero, suc, get_or, ◌==◌, ◌&&◌, nat_lt, Bool, true, false, if◌then◌else◌, List, [], ◌∷◌, map, Option, Some, None, unwrap_or, Result, Ok, Err, refl, sym, ap, ◌∙◌}
use Rattle.pl_frame.specs.declared.address.SwitchId.{SwitchId}
use Rattle.pl_frame.specs.Ethernet.{payload_of}
use Rattle.pl_layouts.specs.declared.control.Control.{Control}
use Rattle.pl_layouts.specs.declared.control.Control.TheVariants.{Ldm, Proposal, Vote}
use Rattle.pl_layouts.specs.declared.control.ControlError.{ControlError}
use Rattle.pl_layouts.specs.declared.control.Ldm.{Ldm as Message}
use Rattle.pl_layouts.specs.declared.control.Proposal.{Proposal as Proposed}
use Rattle.pl_layouts.specs.declared.control.Vote.{Vote as Answer}
use Rattle.pl_layouts.specs.declared.place.Place.{Place}
use Rattle.pl_layouts.specs.Control.{control_in, is_control}
use Rattle.pl_layouts.specs.Placement.{is_known}
use Rattle.pl_layouts.specs.Votes.{counts, gives_way}
use Rattle.pl_node.specs.declared.messages.TreePart.{TreePart}
use Rattle.pl_node.specs.PortRecords.{aged, heard_id, id_at, is_usable, new_port, port_of}
use Rattle.pl_node.specs.SwitchInputs.{SwitchInput}
use Rattle.pl_node.specs.SwitchInputs.SwitchInput.{Comes, Says, Tick}
use Rattle.pl_node.specs.SwitchViews.{SwitchView}
use Rattle.pl_manager_rule.specs.Histories.{link_said, members_said, place_said}
use Rattle.pl_steps.specs.Steps.{SwitchStep, rests}
use Rattle.pl_switch_rule.specs.Aging.{ages}
use Rattle.pl_switch_rule.specs.Announcing.{announcements, tells_neighbours, ticks, with_aged_ports}
use Rattle.pl_switch_rule.specs.Forwarding.{Choice}
use Rattle.pl_switch_rule.specs.Intake.{has_member_of}
use Rattle.pl_switch_rule.specs.Levels.{after_message, changes_to, hears_message, learns_level, learns_pod, notes_edge, with_message}
use Rattle.pl_switch_rule.specs.Positions.{after_vote, counted, fixes_position, frees_others, half, hears_proposal, marks, notes_position, with_granted}
use Rattle.pl_switch_rule.specs.SwitchRule.{control_comes, data_comes, hears_control, switch_step}
use Rattle.pl_switch_rule.specs.Telling.{changes_told}
use Rattle.pl_law_control_plane.specs.ControlPlanes.{tells}
use Rattle.pl_law_records.specs.Words.{avoid_said, last_said}
use Rattle.pl_node.specs.declared.neighbour.PortRecord.{PortRecord}
use Rattle.pl_switch_rule.proofs.Exports.{announced_acts, proposal_acts, proposal_holds}
use Rattle.pl_law_records.proofs.TellingLinks.{AreUnsaid, IsStill, IsUnsaid, rests_still, said_more, step_still, told_no_members, told_place, unsaid_words}
use Rattle.pl_law_records.proofs.Linking.{IsOnlyAt, LinksAreTold, either_told, still_told, then_told, told_link, told_no_other, unheard}
use Rattle.pl_law_records.proofs.Last.{last_silent, silent_link, silent_members, silent_place}
use Rattle.pl_law_records.proofs.DataTellsNoPlace.{ages_still, changes_right}
use Rattle.pl_law_records.proofs.Intaking.{data_right, manager_obeyed, parts_after, silent_with}

-- the avoid list and the parts once this came
abbrev pub avoid_after : SwitchInput → List (SwitchId × ℕ × ℕ) → List (SwitchId × ℕ × ℕ)
avoid_after (Says says) list = unwrap_or (avoid_said says) list
avoid_after input list = list

abbrev pub parts_then : SwitchInput → List (ℕ × TreePart) → List (ℕ × TreePart)
parts_then (Says says) parts = parts_after says parts
parts_then input parts = parts

-- a whole step
pub record TellsRight (input : SwitchInput) (v : SwitchView) (s : SwitchStep) : Type 0 where
  pub place : last_said place_said v.place (tells s.acts) ≡ s.view.place
  pub members : (group : ℕ) → last_said (members_said group) (has_member_of v.members group) (tells s.acts) ≡ has_member_of s.view.members group
  pub links : (u : SwitchId) (p : ℕ) → IsOnlyAt s.view u p → last_said (link_said u) (is_usable v p) (tells s.acts) ≡ is_usable s.view p
  pub others : (u : SwitchId) → ((p : ℕ) → id_at s.view p ≡ Some u → ⊥) → (before : Bool) → last_said (link_said u) before (tells s.acts) ≡ before
  pub avoid : s.view.avoid ≡ avoid_after input v.avoid
  pub parts : s.view.parts ≡ parts_then input v.parts

-- what stays where discovery goes on
abbrev Kept : SwitchView → SwitchView → Type 0
Kept v w = ((w.members ≡ v.members) × (w.avoid ≡ v.avoid) × (w.parts ≡ v.parts)) × ((w.ports ≡ v.ports) × (w.id ≡ v.id) × (w.k ≡ v.k))

kept_if : (v : SwitchView) (b : Bool) (x y : SwitchView) → Kept v x → Kept v y → Kept v (if b then x else y)
kept_if v true x y a b = a
kept_if v false x y a b = b

noted : (v : SwitchView) (id : SwitchId) (told : Place) → Kept v (notes_edge v id told)
noted v id told = kept_if v (is_known v.place.level 1 && is_known told.level 0) (notes_position v id told.position) v (by told.position) ((refl, refl, refl), (refl, refl, refl))
  where
    by : (position : Option ℕ) → Kept v (notes_position v id position)
    by None = ((refl, refl, refl), (refl, refl, refl))
    by (Some p) = kept_if v (nat_lt p (half v.k)) (marks (frees_others v id p) id p) v ((refl, refl, refl), (refl, refl, refl)) ((refl, refl, refl), (refl, refl, refl))

message_told : (v : SwitchView) (port : ℕ) (id : SwitchId) (m : Message) → LinksAreTold v (hears_message v port id m)
message_told v port id m =
    let kept = noted (learns_pod (learns_level (with_message v port id m) m.place) m.place) id m.place in
    changes_right v (after_message v port id m) kept.0.0 kept.0.1 kept.0.2 (λ p none.
    silent_with v port _ (λ e. absurd (cc e)) p (ap (λ ps. heard_id (get_or ps p new_port).heard) (sym kept.1.0) ∙ none))

voted : (v : SwitchView) (port : ℕ) (vote : Answer) → Kept v (after_vote v port vote)
voted v port vote =
    kept_if v (counts v.place v.attempt v.proposed vote) (counted v port vote) v
    (kept_if v vote.granted (fixes_position (with_granted v port)) _ ((refl, refl, refl), (refl, refl, refl))
    (kept_if v (gives_way v.id vote) _ v (kept_if v (v.attempt == 4294967295) v _ ((refl, refl, refl), (refl, refl, refl)) ((refl, refl, refl), (refl, refl, refl))) ((refl, refl, refl), (refl, refl, refl))))
    ((refl, refl, refl), (refl, refl, refl))

vote_told : (v : SwitchView) (port : ℕ) (vote : Answer) → LinksAreTold v (changes_to v (after_vote v port vote))
vote_told v port vote = let kept = voted v port vote in changes_right v (after_vote v port vote) kept.0.0 kept.0.1 kept.0.2 (λ p none.
    unheard v p (ap (λ ps. heard_id (get_or ps p new_port).heard) (sym kept.1.0) ∙ none))

proposal_still : (v : SwitchView) (port : ℕ) (id : SwitchId) (p : Proposed) → IsStill v (hears_proposal v port id p)
proposal_still v port id p =
    let holds = proposal_holds v port id p in
    step_still v (hears_proposal v port id p).view (hears_proposal v port id p).acts (ap (λ (w : SwitchView). w.place) holds)
    (ap (λ (w : SwitchView). w.members) holds)
    (ap (λ (w : SwitchView). w.avoid) holds) (ap (λ (w : SwitchView). w.parts) holds) (ap (λ (w : SwitchView). w.id) holds) (ap (λ (w : SwitchView). w.k) holds)
    (ap (λ (w : SwitchView). w.ports) holds) (proposal_acts IsUnsaid (λ at told. tt) v port id p)

control_told : (v : SwitchView) (port : ℕ) (read : Result Control ControlError) → LinksAreTold v (hears_control v port read)
control_told v port (Err e) = still_told v _ (rests_still v)
control_told v port (Ok (Ldm id m)) = message_told v port id m
control_told v port (Ok (Proposal id p)) = still_told v _ (proposal_still v port id p)
control_told v port (Ok (Vote id vote)) = vote_told v port vote

comes_told : (choose : Choice) (v : SwitchView) (port : ℕ) (frame : List ℕ) → LinksAreTold v (switch_step choose v (Comes port frame))
comes_told choose v port frame =
    either_told v (is_control frame) (control_comes v port frame) (data_comes choose v port frame)
    (either_told v (port_of v port).host (rests v) (hears_control v port (control_in (payload_of frame))) (still_told v _ (rests_still v))
    (control_told v port (control_in (payload_of frame))))
    (data_right choose v port frame)

unsaid_announcements : (v : SwitchView) → AreUnsaid (announcements v)
unsaid_announcements = announced_acts IsUnsaid (λ port frame. tt)

aged_at : (ports : List PortRecord) (p : ℕ) → heard_id (get_or (map aged ports) p new_port).heard ≡ heard_id (get_or ports p new_port).heard
aged_at [] p = refl
aged_at (r ∷ rs) zero = refl
aged_at (r ∷ rs) (suc p) = aged_at rs p

neighbours_told : (v : SwitchView) → LinksAreTold v (tells_neighbours v)
neighbours_told v =
    let new = with_aged_ports v in
    let told = changes_told v new in
    let rest = announcements new in
    let words = unsaid_words rest (unsaid_announcements new) in
    record {
      telling = record {
        place = said_more place_said v.place told rest ∙ last_silent place_said _ (tells rest) (silent_place (tells rest) words) ∙ told_place v new;
        members = λ group.
            said_more (members_said group) (has_member_of v.members group) told rest
            ∙ last_silent (members_said group) _ (tells rest) (silent_members group (tells rest) words)
            ∙ told_no_members v new group (has_member_of v.members group);
        avoid = refl;
        parts = refl;
      };
      links = λ u p at.
          said_more (link_said u) (is_usable v p) told rest ∙ last_silent (link_said u) _ (tells rest) (silent_link u (tells rest) words)
          ∙ told_link v new u p at (λ none. unheard v p (sym (aged_at v.ports p) ∙ none));
      others = λ u nowhere before.
          said_more (link_said u) before told rest ∙ last_silent (link_said u) _ (tells rest) (silent_link u (tells rest) words) ∙ told_no_other v new u nowhere before;
    }

tick_told : (v : SwitchView) → LinksAreTold v (ticks v)
tick_told v = then_told v (tells_neighbours v) ages (neighbours_told v) ages_still

pub tells_right : (choose : Choice) (v : SwitchView) (input : SwitchInput) → TellsRight input v (switch_step choose v input)
tells_right choose v Tick = let a = tick_told v in record { place = a.telling.place; members = a.telling.members; links = a.links; others = a.others; avoid = a.telling.avoid; parts = a.telling.parts }
tells_right choose v (Comes port frame) =
    let a = comes_told choose v port frame in
    record { place = a.telling.place; members = a.telling.members; links = a.links; others = a.others; avoid = a.telling.avoid; parts = a.telling.parts }
tells_right choose v (Says says) =
    let a = manager_obeyed choose v says in record { place = a.place; members = a.members; links = a.links; others = a.others; avoid = a.avoid; parts = a.parts }
