-- Hosts stand at ports for hosts, each at one of its own, so that a frame that comes out of the port comes to the host.
use Rattle.std.proofs.Common.{◌≡◌, ℕ, suc, ◌+◌, ◌<◌, ◌==◌, ◌||◌, ◌&&◌, nat_lt, Bool, true, false, cond, if◌then◌else◌, All, Contains, List, [], ◌∷◌, length, map, get_or, set, Option, Some, None, slice_get, position, option_map, refl, sym, ap, ◌∙◌, subst, inl, inr, arith}
use Rattle.std.specs.List.{AllByRecursion, position_or_len}
use Rattle.std.proofs.lemmas.Bool.{and_parts, cases_eq, cases_lt, cond-true, eqb-true, lt-ltb, ltb-false, or_right, true≢false}
use Rattle.std.proofs.lemmas.List.Sums.{fails_before_first, position_or_len_is}
use Rattle.std.proofs.lemmas.Option.{get_or_from_slice_get, same_Some, slice_get-get_or, slice_get-map, slice_get_within}
use Rattle.std.proofs.lemmas.Slice.Eq.{bytes_eq-Decides}
use Rattle.pl_lemmas.proofs.Exports.{set_get_other, set_there}
use Rattle.pl_frame.specs.Ethernet.{destination_of}
use Rattle.pl_layouts.specs.Memberships.{is_group}
use Rattle.pl_wiring.specs.declared.host.Host.{Host}
use Rattle.pl_wiring.specs.declared.link.Link.{Link}
use Rattle.pl_wiring.specs.declared.link.Peer.TheVariants.{HostPort}
use Rattle.pl_wiring.specs.FatTree.{IsAt}
use Rattle.pl_wiring.specs.Peers.{peer_of}
use Rattle.pl_wiring.specs.Plan.{IsPlan, Plan}
use Rattle.pl_wiring.proofs.Exports.{peer_is_none}
use Rattle.pl_journal.specs.Lossy.{mac_of_host}
use Rattle.pl_journal.specs.Places.{is_host_port}
use Rattle.pl_journal.proofs.Exports.{host_port_is}
use Rattle.pl_node.specs.HostInputs.{HostRule}
use Rattle.pl_node.specs.ManagerDuties.{ManagerRule}
use Rattle.pl_node.specs.SwitchInputs.{SwitchRule}
use Rattle.pl_world.specs.declared.attachment.AttachmentPoint.{AttachmentPoint}
use Rattle.pl_world.specs.declared.error.StepError.TheVariants.{NoSuch}
use Rattle.pl_world.specs.declared.event.Event.{Event}
use Rattle.pl_world.specs.declared.limits.Limits.{Limits}
use Rattle.pl_world.specs.Booting.{CanBegin, booted, first_attachment}
use Rattle.pl_world.specs.Changes.{host_at, if_for, is_address_of, receiver, stands_at}
use Rattle.pl_world.specs.Refusals.{has_host, has_port, is_for_hosts, refusal, refusal_of_event, refusal_of_move, refusal_of_place}
use Rattle.pl_world.specs.Runs.{Moment, WorldRun}
use Rattle.pl_world.specs.WorldRule.{WorldStep}
use Rattle.pl_world.specs.Worlds.{WorldView}
use Rattle.pl_world.proofs.Exports.{all_set, event_is_not_refused, or_moved, OrMoved, place_is_free, run_along, stands_there}
use Rattle.pl_world.proofs.Exports.OrMoved.{HasMoved, NotMoved}
use Rattle.pl_law_bridge.specs.TreeWorld.{is_off_tree, tree_from, tree_world}
use Rattle.pl_law_bridge.proofs.Beginning.{failed_if}

abbrev pub AreApart : List AttachmentPoint → Type 0
AreApart attachments = (a b : ℕ) (attachment : AttachmentPoint) → slice_get attachments a ≡ Some attachment → slice_get attachments b ≡ Some attachment → a ≡ b

abbrev pub IsAtHostPort : Plan → AttachmentPoint → Type 0
IsAtHostPort plan attachment = peer_of plan attachment.edge.0 attachment.port ≡ HostPort

pub record StandApart (w : WorldView) : Type 0 where
  pub at_ports : AllByRecursion (IsAtHostPort w.plan) w.attachments
  pub apart : AreApart w.attachments

-- ---- who stands at a port
nobody : AttachmentPoint
nobody = record { edge = record { 0 = 0 }; port = 0 }

attachment_is : (s p : ℕ) (attachment : AttachmentPoint) → stands_at s p attachment ≡ true → attachment ≡ record { edge = record { 0 = s }; port = p }
attachment_is s p attachment h =
    let both = and_parts (attachment.edge.0 == s) (attachment.port == p) h in
    let edge = eqb-true attachment.edge.0 s both.0 in
    let port = eqb-true attachment.port p both.1 in
    λ i. record { edge = record { 0 = edge i }; port = port i }

found_at : (attachments : List AttachmentPoint) → AreApart attachments → (g : ℕ) (attachment : AttachmentPoint) → slice_get attachments g ≡ Some attachment →
    (s p : ℕ) → attachment.edge.0 ≡ s → attachment.port ≡ p → position (stands_at s p) attachments ≡ Some g
found_at attachments apart g attachment found s p edge port =
    let within = slice_get_within attachments g attachment found in
    let here = get_or_from_slice_get attachments g attachment nobody found in
    let passes = subst (λ x. stands_at s p x ≡ true) (sym here) (stands_there s p attachment edge port) in
    let at = position_or_len_is (stands_at s p) attachments g nobody (omega (arith, within)) (λ k less. others k less (stands_at s p (get_or attachments k nobody)) refl) (λ l. passes) in
    ap (λ n. cond (nat_lt n (length attachments)) (Some n) None) at ∙ cond-true (nat_lt g (length attachments)) (Some g) None (lt-ltb g (length attachments) within)
  where
    others : (k : ℕ) → k < g → (b : Bool) → stands_at s p (get_or attachments k nobody) ≡ b → b ≡ false
    others k less false e = refl
    others k less true e =
        let within = slice_get_within attachments g attachment found in
        let other = slice_get-get_or attachments k nobody (omega (arith, less, within)) in
        let same : get_or attachments k nobody ≡ attachment = attachment_is s p (get_or attachments k nobody) e ∙ sym (attachment_is s p attachment (stands_there s p attachment edge port)) in
        absurd (let is = apart k g attachment (other ∙ ap Some same) found in omega (arith, is, less))

somebody : (attachments : List AttachmentPoint) (k : ℕ) (attachment : AttachmentPoint) → slice_get attachments k ≡ Some attachment → (s p : ℕ) → attachment.edge.0 ≡ s →
    attachment.port ≡ p → position (stands_at s p) attachments ≡ None → ⊥
somebody attachments k attachment found s p edge port none =
    let within = slice_get_within attachments k attachment found in
    let here = get_or_from_slice_get attachments k attachment nobody found in
    let passes = subst (λ x. stands_at s p x ≡ true) (sym here) (stands_there s p attachment edge port) in
    by (nat_lt (position_or_len (stands_at s p) attachments) (length attachments)) refl none within passes
  where
    by : (b : Bool) → nat_lt (position_or_len (stands_at s p) attachments) (length attachments) ≡ b → cond b (Some (position_or_len (stands_at s p) attachments)) None ≡ None →
        k < length attachments → stands_at s p (get_or attachments k nobody) ≡ true → ⊥
    by true e h within passes = cc h
    by false e h within passes =
        let past = ltb-false (position_or_len (stands_at s p) attachments) (length attachments) e in
        true≢false (sym passes ∙ fails_before_first (stands_at s p) attachments k nobody (omega (arith, past, within)))

-- a frame for the host that stands at a port comes to it
pub comes_to : (w : WorldView) → AreApart w.attachments → (g : ℕ) (attachment : AttachmentPoint) → slice_get w.attachments g ≡ Some attachment → (frame : List ℕ) →
    mac_of_host w.plan g ≡ Some (destination_of frame) → (s p : ℕ) → attachment.edge.0 ≡ s → attachment.port ≡ p → receiver w s p frame ≡ Some g
comes_to w apart g attachment found frame mac s p edge port =
    let same = (bytes_eq-Decides (destination_of frame).0 (destination_of frame).0).1 refl in
    let address : is_address_of (mac_of_host w.plan g) (destination_of frame) ≡ true = ap (λ o. is_address_of o (destination_of frame)) mac ∙ same in
    ap (if_for w.plan frame) (found_at w.attachments apart g attachment found s p edge port)
    ∙ cond-true (is_group (destination_of frame) || is_address_of (mac_of_host w.plan g) (destination_of frame)) (Some g) None
    (or_right (is_group (destination_of frame)) (is_address_of (mac_of_host w.plan g) (destination_of frame)) address)

-- ---- one host moves to a port for hosts where nobody stands
moved_apart : (attachments : List AttachmentPoint) (h : ℕ) (from to : AttachmentPoint) → AreApart attachments → slice_get attachments h ≡ Some from →
    ((k : ℕ) → slice_get attachments k ≡ Some to → ⊥) → AreApart (set attachments h to)
moved_apart attachments h from to apart there free a b attachment at_a at_b = elim (cases_eq a h) [
  | inl is_a ↦ elim (cases_eq b h) [
    | inl is_b ↦ is_a ∙ sym is_b
    | inr not_b ↦
        let same = same_Some attachment to (sym at_a ∙ ap (slice_get (set attachments h to)) is_a ∙ set_there attachments h from to there) in
        absurd (free b (sym (kept b not_b) ∙ at_b ∙ ap Some same))
  ]
  | inr not_a ↦ elim (cases_eq b h) [
    | inl is_b ↦
        let same = same_Some attachment to (sym at_b ∙ ap (slice_get (set attachments h to)) is_b ∙ set_there attachments h from to there) in
        absurd (free a (sym (kept a not_a) ∙ at_a ∙ ap Some same))
    | inr not_b ↦ apart a b attachment (sym (kept a not_a) ∙ at_a) (sym (kept b not_b) ∙ at_b)
  ]
]
  where
    kept : (k : ℕ) → (k ≡ h → ⊥) → slice_get (set attachments h to) k ≡ slice_get attachments k
    kept k other = set_get_other attachments h k to (λ same. other (sym same))

goes_to_host_port : (w : WorldView) (h s port : ℕ) → refusal_of_move w h s port ≡ None → peer_of w.plan s port ≡ HostPort
goes_to_host_port w h s port none = by (has_host w.plan h && is_for_hosts w.plan s port) refl none
  where
    by : (b : Bool) → (has_host w.plan h && is_for_hosts w.plan s port) ≡ b → (if b then refusal_of_place h (host_at w s port) else Some NoSuch) ≡ None → peer_of w.plan s port ≡ HostPort
    by false e none = absurd (cc)
    by true e none =
        let here = (and_parts (has_host w.plan h) (is_for_hosts w.plan s port) e).1 in
        host_port_is (peer_of w.plan s port) (and_parts (has_port w.plan s port) (is_host_port (peer_of w.plan s port)) here).1

-- ---- at the beginning
first_at_ports : (plan : Plan) (hosts : List Host) → ((host : Host) → Contains hosts host → IsAtHostPort plan (first_attachment host)) →
    AllByRecursion (IsAtHostPort plan) (map first_attachment hosts)
first_at_ports plan [] all = tt
first_at_ports plan (host ∷ hosts) all =
    (all host (0, omega arith, refl), first_at_ports plan hosts (λ other there. all other (suc there.0, omega (arith, there.1), there.2)))

host_at_port : (plan : Plan) (host : Host) → IsPlan plan → Contains plan.hosts host → IsAtHostPort plan (first_attachment host)
host_at_port plan host is there =
    (peer_is_none plan host.edge.0 host.port is).1 (of_all (λ (h : Host). All (λ (l : Link). IsAt l h.edge.0 h.port → ⊥) plan.links) plan.hosts host is.at_free_ports there)
  where
    of_all : (P : Host → Type 0) (hosts : List Host) (x : Host) → All P hosts → Contains hosts x → P x
    of_all P hosts x all there = subst P there.2 (all there.0 x there.1)

first_apart : (plan : Plan) → IsPlan plan → AreApart (map first_attachment plan.hosts)
first_apart plan is a b attachment at_a at_b = elim (cases_lt a b) [
  | inl less ↦ absurd (never a b less at_a at_b)
  | inr more ↦ elim (cases_eq a b) [ inl same ↦ same | inr differ ↦ absurd (never b a (omega (arith, more, differ)) at_b at_a) ]
]
  where
    one : (o : Option Host) → option_map first_attachment o ≡ Some attachment → (host : Host) × (o ≡ Some host) × (first_attachment host ≡ attachment)
    one None e = absurd (cc e)
    one (Some host) e = (host, refl, same_Some (first_attachment host) attachment e)

    never : (i j : ℕ) → i < j → slice_get (map first_attachment plan.hosts) i ≡ Some attachment → slice_get (map first_attachment plan.hosts) j ≡ Some attachment → ⊥
    never i j less at_i at_j =
        let x = one (slice_get plan.hosts i) (sym (slice_get-map first_attachment plan.hosts i) ∙ at_i) in
        let y = one (slice_get plan.hosts j) (sym (slice_get-map first_attachment plan.hosts j) ∙ at_j) in
        let here = get_or_from_slice_get plan.hosts i x.0 x.0 x.1 in
        let there = get_or_from_slice_get plan.hosts j y.0 x.0 y.1 in
        let same = x.2 ∙ sym y.2 in
        is.ports_apart i j x.0 less (slice_get_within plan.hosts j y.0 y.1) (
          ap (λ (h : Host). h.edge.0) here ∙ ap (λ (s : AttachmentPoint). s.edge.0) same ∙ ap (λ (h : Host). h.edge.0) (sym there),
          ap (λ (h : Host). h.port) here ∙ ap (λ (s : AttachmentPoint). s.port) same ∙ ap (λ (h : Host). h.port) (sym there),
        )

-- links that fail move nobody
stays_with : (k : ℕ) (w : WorldView) (links : List Link) → StandApart w → StandApart (tree_from k w links)
stays_with k w [] is = is
stays_with k w (link ∷ links) is = stays_with k (failed_if (is_off_tree k link) w link) links (one (is_off_tree k link))
  where
    one : (b : Bool) → StandApart (failed_if b w link)
    one true = record { at_ports = is.at_ports; apart = is.apart }
    one false = is

pub stand_at_first : (plan : Plan) (limits : Limits) → CanBegin plan → StandApart (tree_world plan limits)
stand_at_first plan limits can = stays_with plan.k (booted plan limits) plan.links (record {
  at_ports = first_at_ports plan plan.hosts (λ host there. host_at_port plan host can.is_plan there);
  apart = first_apart plan can.is_plan;
})

-- ---- and from then on
moved_ports : (old : WorldView) (e : Event) (new : WorldView) → refusal_of_event old e ≡ None → OrMoved (record old { steps = old.steps + 1 }) e new → StandApart old → StandApart new
moved_ports old e new none (NotMoved same) is = record {
  at_ports = subst (λ (x : WorldView). AllByRecursion (IsAtHostPort x.plan) x.attachments) (sym same) is.at_ports;
  apart = subst (λ (x : WorldView). AreApart x.attachments) (sym same) is.apart;
}
moved_ports old e new none (HasMoved h s port from moves at turns) is =
    let to : AttachmentPoint = record { edge = s; port = port } in
    let fine = subst (λ (x : Event). refusal_of_event old x ≡ None) moves none in
    let free = place_is_free old h.0 s.0 port fine in
    record {
      at_ports = subst (λ (x : WorldView). AllByRecursion (IsAtHostPort x.plan) x.attachments) (sym turns)
          (all_set (IsAtHostPort old.plan) old.attachments h.0 to (goes_to_host_port old h.0 s.0 port fine) is.at_ports);
      apart = subst (λ (x : WorldView). AreApart x.attachments) (sym turns)
          (moved_apart old.attachments h.0 from to is.apart at (λ k there. somebody old.attachments k to there s.0 port refl refl free));
    }

module _ (switch : SwitchRule) (manager : ManagerRule) (host : HostRule) where
  pub step_stands : (old : WorldView) (e : Event) (new : WorldView) → refusal old e ≡ None → WorldStep switch manager host old e new → StandApart old → StandApart new
  step_stands old e new none step is =
      moved_ports old e new (event_is_not_refused old e none) (or_moved switch manager host (record old { steps = old.steps + 1 }) e new step) is

  pub run_stands : (old : WorldView) (moments : List Moment) (new : WorldView) → WorldRun switch manager host old moments new → StandApart old → StandApart new
  run_stands = run_along (λ a b. StandApart a → StandApart b) (λ w is. is) (λ a b c one next is. next (one is)) switch manager host step_stands
      (λ w e mark is. record { at_ports = is.at_ports; apart = is.apart })
