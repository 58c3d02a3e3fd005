-- Granting addresses and passing frames on tells the manager nothing of the place or of members.
use Rattle.std.proofs.Common.{◌≡◌, ℕ, get_or, false, List, None, Option, refl, ◌∙◌, ap, sym, subst}
use Rattle.pl_pmac.specs.declared.pmac.Pmac.{Pmac}
use Rattle.pl_node.specs.declared.switch_records.Grant.{Grant}
use Rattle.pl_node.specs.SwitchViews.{SwitchView}
use Rattle.pl_steps.specs.Steps.{does, ◌▹◌}
use Rattle.pl_switch_rule.specs.Delivering.{makes}
use Rattle.pl_switch_rule.specs.Aging.{ages, with_older}
use Rattle.pl_switch_rule.specs.Forwarding.{Choice}
use Rattle.pl_switch_rule.specs.Intake.{has_member_of}
use Rattle.pl_switch_rule.specs.Levels.{changes_to, settles_in}
use Rattle.pl_switch_rule.specs.Telling.{changes_told}
use Rattle.pl_manager_rule.specs.Histories.{link_said, members_said, place_said}
use Rattle.pl_switch_rule.specs.Intake.{has_member_of}
use Rattle.pl_switch_rule.specs.Telling.{changes_told}
use Rattle.pl_law_control_plane.specs.ControlPlanes.{tells}
use Rattle.pl_law_records.specs.Words.{last_said}
use Rattle.pl_node.specs.PortRecords.{heard_id, id_at, is_usable, new_port}
use Rattle.pl_law_records.proofs.TellingLinks.{AreUnsaid, IsStill, IsUnsaid, said_more, step_still, told_no_members, told_place}
use Rattle.pl_law_records.proofs.Linking.{LinksAreTold, only_same, told_link, told_no_other, usable_same}
use Rattle.pl_layouts.specs.Frames.{packet_in}
use Rattle.pl_steps.specs.Steps.{SwitchStep}
use Rattle.pl_switch_rule.specs.Granting.{learns_source}
use Rattle.pl_switch_rule.specs.Intake.{packet_acts, sends_in, takes}
use Rattle.pl_switch_rule.specs.Messages.{floods, frees, probes}
use Rattle.pl_switch_rule.specs.SwitchRule.{comes_from_switch}
use Rattle.pl_switch_rule.proofs.Exports.{ages_acts, ages_alone, any_group, any_way, begins_stays, floods_acts, FrameActs, frees_acts, frees_learn, GrantActs, idle_acts, IsAnyPort, learns_source_acts, LearnsSources, makes_acts, packet_taken_acts, probes_acts, probes_stay, sends_in_acts, sends_in_stays, settles_in_acts, settles_in_learns, source_learns, switch_frame_acts, switch_frame_stays}

-- Granting addresses.

unsaid_grants : GrantActs IsUnsaid
unsaid_grants = record { granted = λ address amac. tt; learnt = λ address amac ip. tt }

sources_still : (v : SwitchView) (s : SwitchStep) → LearnsSources v s.view → AreUnsaid s.acts → IsStill v s
sources_still v s learns unsaid =
    step_still v s.view s.acts (ap (λ (w : SwitchView). w.place) learns) (ap (λ (w : SwitchView). w.members) learns) (ap (λ (w : SwitchView). w.avoid) learns)
    (ap (λ (w : SwitchView). w.parts) learns) (ap (λ (w : SwitchView). w.id) learns) (ap (λ (w : SwitchView). w.k) learns)
    (ap (λ (w : SwitchView). w.ports) learns)
    unsaid

-- Addresses age, and are freed.

pub ages_still : (v : SwitchView) → IsStill v (ages v)
ages_still v =
    let alone = ages_alone v in
    step_still v (ages v).view (ages v).acts (ap (λ (w : SwitchView). w.place) alone) (ap (λ (w : SwitchView). w.members) alone) (ap (λ (w : SwitchView). w.avoid) alone)
    (ap (λ (w : SwitchView). w.parts) alone) (ap (λ (w : SwitchView). w.id) alone) (ap (λ (w : SwitchView). w.k) alone) (ap (λ (w : SwitchView). w.ports) alone)
    (ages_acts IsUnsaid (λ x number. tt) v (idle_acts IsUnsaid IsAnyPort (λ port frame way. tt) (with_older v) (λ x grant is. tt) (λ x ip. tt)))

pub frees_still : (v : SwitchView) (address : Pmac) (grant : Option Grant) → IsStill v (frees v address grant)
frees_still v address grant = sources_still v (frees v address grant) (frees_learn v address grant) (frees_acts IsUnsaid (λ x. tt) v address grant)

pub learns_source_still : (v : SwitchView) (port : ℕ) (frame : List ℕ) → IsStill v (learns_source v port frame)
learns_source_still v port frame =
    sources_still v (learns_source v port frame) (source_learns v port frame) (learns_source_acts IsUnsaid unsaid_grants v port frame)

-- what changed is told: then an edge switch that has become placed grants addresses
pub changes_right : (old new : SwitchView) → new.members ≡ old.members → new.avoid ≡ old.avoid → new.parts ≡ old.parts →
    ((p : ℕ) → id_at new p ≡ None → is_usable old p ≡ false) → LinksAreTold old (changes_to old new)
changes_right old new members avoid parts silent =
    let settled = sources_still new (settles_in old.place new) (settles_in_learns old.place new) (settles_in_acts IsUnsaid unsaid_grants old.place new) in
    let told = changes_told old new in
    let rest = (settles_in old.place new).acts in
    let end = (settles_in old.place new).view in
    record {
      telling = record {
        place = said_more place_said old.place told rest ∙ ap (λ x. last_said place_said x (tells rest)) (told_place old new) ∙ settled.telling.place;
        members = λ group.
            said_more (members_said group) (has_member_of old.members group) told rest
            ∙ ap (λ x. last_said (members_said group) x (tells rest))
            (told_no_members old new group (has_member_of old.members group) ∙ ap (λ ms. has_member_of ms group) (sym members))
            ∙ settled.telling.members group;
        avoid = settled.telling.avoid ∙ avoid;
        parts = settled.telling.parts ∙ parts;
      };
      links = λ u p at.
          said_more (link_said u) (is_usable old p) told rest ∙ settled.links u (last_said (link_said u) (is_usable old p) (tells told))
          ∙ told_link old new u p (only_same new end u p settled.k settled.ports at) (silent p)
          ∙ sym (usable_same new end p settled.id settled.ports);
      others = λ u nowhere before.
          said_more (link_said u) before told rest ∙ settled.links u (last_said (link_said u) before (tells told))
          ∙ told_no_other old new u (λ p h. nowhere p (ap (λ ps. heard_id (get_or ps p new_port).heard) settled.ports ∙ h)) before;
    }

-- Passing frames on.

unsaid_frames : FrameActs IsAnyPort IsUnsaid
unsaid_frames = record { passed = λ port frame way. tt; redirected = λ old new. tt; dropped = λ cause. tt; taken = tt; asked = λ asker asker_ip ip. tt }

stays_still : (v : SwitchView) (s : SwitchStep) → s.view ≡ v → AreUnsaid s.acts → IsStill v s
stays_still v s stays unsaid = sources_still v s (subst (LearnsSources v) (sym stays) refl) unsaid

pub makes_still : (choose : Choice) (frame : List ℕ) (v : SwitchView) → IsStill v (makes choose frame v)
makes_still choose frame v =
    stays_still v (makes choose frame v) (begins_stays choose v frame) (makes_acts IsUnsaid IsAnyPort unsaid_frames choose v (any_way choose v) frame tt)

pub floods_still : (frame : List ℕ) (v : SwitchView) → IsStill v (floods v frame)
floods_still frame v = stays_still v (floods v frame) refl (floods_acts IsUnsaid IsAnyPort unsaid_frames v (any_group v) frame tt)

pub probes_still : (old : Pmac) (grant : Grant) (v : SwitchView) → IsStill v (probes old grant v)
probes_still old grant v =
    stays_still v (probes old grant v) (probes_stay old grant v) (probes_acts IsUnsaid IsAnyPort unsaid_frames.passed old grant v tt (λ ip. tt))

pub packet_still : (v : SwitchView) (port : ℕ) (frame : List ℕ) → IsStill v (does v (packet_acts v port frame (packet_in frame)) ▹ takes)
packet_still v port frame =
    stays_still v (does v (packet_acts v port frame (packet_in frame)) ▹ takes) refl (packet_taken_acts IsUnsaid IsAnyPort unsaid_frames v port frame)

pub sends_in_still : (choose : Choice) (frame : List ℕ) (v : SwitchView) → IsStill v (sends_in choose frame v)
sends_in_still choose frame v =
    stays_still v (sends_in choose frame v) (sends_in_stays choose frame v)
    (sends_in_acts IsUnsaid IsAnyPort unsaid_frames choose v (any_way choose v) frame (λ trap met ip. tt))

pub switch_frame_still : (choose : Choice) (v : SwitchView) (port : ℕ) (frame : List ℕ) → IsStill v (comes_from_switch choose v port frame)
switch_frame_still choose v port frame =
    stays_still v (comes_from_switch choose v port frame) (switch_frame_stays choose v port frame)
    (switch_frame_acts IsUnsaid IsAnyPort unsaid_frames choose v (any_way choose v) port frame (λ trap met ip. tt))
