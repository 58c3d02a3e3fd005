-- Where hosts stand: no two at one place; and what their own frames say.
use Rattle.std.proofs.Common.{◌≡◌, ◌≢◌, ◌⊎◌, ◌<◌, ◌≤◌, ◌^◌, ◌==◌, ◌||◌, ℕ, zero, suc, Bool, true, false, if◌then◌else◌, set, List, [], ◌∷◌, length, map, get_or, Option, Some, None, is_some, option_map, slice_get, refl, sym, ap, subst, ◌∙◌, inl, inr, arith, eqb-true}
use Rattle.std.specs.List.{position}
use Rattle.std.proofs.lemmas.Bool.{and_parts, cases_eq, cases_lt, false≢true}
use Rattle.std.proofs.lemmas.Iterator.Adapters.{position_from-zero}
use Rattle.std.proofs.lemmas.Option.{get_or_from_slice_get, none-some, same_Some, slice_get_within}
use Rattle.pl_arp.specs.declared.cache.Me.{Me}
use Rattle.pl_arp.specs.declared.packet.Arp.{Arp}
use Rattle.pl_arp.specs.Reception.{same_ip}
use Rattle.pl_frame.specs.declared.address.Ip4.{Ip4}
use Rattle.pl_frame.specs.Address.{IsGroup}
use Rattle.pl_frame.specs.Ethernet.{destination_of, source_of}
use Rattle.pl_wiring.specs.declared.host.Host.{Host}
use Rattle.pl_wiring.specs.Index.{port_index}
use Rattle.pl_wiring.specs.Labels.{edge_count, switch_count}
use Rattle.pl_wiring.specs.Plan.{IsHostIp, IsHostMac, IsPlan, Plan}
use Rattle.pl_wiring.proofs.Exports.{port_index-below}
use Rattle.pl_layouts.specs.Equality.{same_mac}
use Rattle.pl_layouts.specs.Frames.{packet_in}
use Rattle.pl_layouts.specs.Memberships.{is_group}
use Rattle.pl_layouts.proofs.Exports.{mac_is, mac_itself}
use Rattle.pl_node.specs.HostDuties.{is_of, is_own}
use Rattle.pl_switch_rule.specs.Granting.{sender_ip}
use Rattle.pl_journal.specs.Lossy.{mac_of_host}
use Rattle.pl_world.specs.declared.attachment.AttachmentPoint.{AttachmentPoint}
use Rattle.pl_world.specs.Booting.{CanBegin, first_attachment, me_of}
use Rattle.pl_world.specs.Changes.{if_for, is_address_of, receiver, stands_at}
use Rattle.pl_world.specs.Worlds.{WorldView}
use Rattle.pl_world.proofs.Exports.{stands_there}
use Rattle.pl_law_addresses.proofs.Exports.{first_passes, get-set_other, none_passes}
use Rattle.pl_law_registration.specs.BeingRegistered.{AreAttachedApart}
use Rattle.pl_law_registration.specs.Probes.{is_readable}
use Rattle.pl_law_registration.proofs.Facts.{Facts}
use Rattle.pl_law_registration.proofs.TurnsOfAKnownHost.{IsPlace, NoticedIn, EdgePort}

-- ---- a host of the wiring at its place
abbrev pub edge_port_of : ℕ → Host → AttachmentPoint → EdgePort
edge_port_of h host attachment = record { h = h; me = me_of host; edge = attachment.edge.0; port = attachment.port }

-- of one host: it is noticed where it stands
pub record Attends (h : ℕ) (w : WorldView) : Type 0 where
  pub noticed : (host : Host) (attachment : AttachmentPoint) → slice_get w.plan.hosts h ≡ Some host → slice_get w.attachments h ≡ Some attachment → NoticedIn (edge_port_of h host attachment) w

-- ---- what the wiring says of a host
module _ (plan : Plan) (is : IsPlan plan) (h : ℕ) (host : Host) (at : slice_get plan.hosts h ≡ Some host) where
  of_host : (P : Host → Type 0) → P (get_or plan.hosts h host) → P host
  of_host P it = subst P (get_or_from_slice_get plan.hosts h host host at) it

  mac_of : IsHostMac host.mac
  mac_of = of_host (λ (q : Host). IsHostMac q.mac) (is.host_macs h host (slice_get_within plan.hosts h host at))

  pub six_of : length host.mac.0 ≡ 6
  six_of = mac_of.six_bytes

  pub single_of : IsGroup host.mac → ⊥
  single_of = mac_of.no_group

  pub small_of : host.ip.0 < 2 ^ 32
  small_of =
      let it : IsHostIp host.ip = of_host (λ (q : Host). IsHostIp q.ip) (is.host_ips h host (slice_get_within plan.hosts h host at)) in
      let few = it.no_group in omega (arith, few)

pub place_of : (w : WorldView) → Facts w → (h : ℕ) (host : Host) (attachment : AttachmentPoint) → slice_get w.plan.hosts h ≡ Some host → slice_get w.attachments h ≡ Some attachment →
    IsPlace (edge_port_of h host attachment) w
place_of w f h host attachment at_host at_attachment =
    let edge = f.at_edges h attachment at_attachment in
    let low = edge.edge in
    record {
      free = edge.free;
      within = subst (λ n. port_index w.plan.k attachment.edge.0 attachment.port < n) (sym f.many_out)
          (port_index-below w.plan.k attachment.edge.0 attachment.port (switch_count w.plan.k) (below (edge_count w.plan.k) low (fewer w.plan.k)) edge.port);
      six = six_of w.plan f.plan h host at_host;
      small = small_of w.plan f.plan h host at_host;
    }
  where
    below : {a c : ℕ} (b : ℕ) → a < b → b ≤ c → a < c
    below b less le = omega (arith, less, le)

    fewer : (k : ℕ) → edge_count k ≤ switch_count k
    fewer k = omega arith

-- ---- a host's own frames
pub record OwnFrame (me : Me) (frame : List ℕ) : Type 0 where
  pub source : source_of frame ≡ me.mac
  pub said : ((is_readable frame ≡ true) × (sender_ip frame ≡ Some me.ip)) ⊎ ((is_readable frame ≡ false) × (sender_ip frame ≡ None))

pub own_is : (me : Me) (frame : List ℕ) → is_own me frame ≡ true → OwnFrame me frame
own_is me frame is =
    let two = and_parts (same_mac (source_of frame) me.mac) (is_of me (packet_in frame)) is in
    record { source = mac_is (source_of frame) me.mac two.0; said = by (packet_in frame) two.1 }
  where
    by : (o : Option Arp) → is_of me o ≡ true →
        ((is_some o ≡ true) × (option_map {T = Arp} {U = Ip4} (λ arp. arp.spa) o ≡ Some me.ip)) ⊎ ((is_some o ≡ false) × (option_map {T = Arp} {U = Ip4} (λ arp. arp.spa) o ≡ None))
    by None h = inr (refl, refl)
    by (Some arp) h =
        let both = and_parts (same_mac arp.sha me.mac) (same_ip arp.spa me.ip) h in
        inl (refl, ap (λ n. Some (let a : Ip4 = record { 0 = n } in a)) (eqb-true arp.spa.0 me.ip.0 both.1))

-- ---- who stands at a place
stands_parts : (s port : ℕ) (attachment : AttachmentPoint) → stands_at s port attachment ≡ true → (attachment.edge.0 ≡ s) × (attachment.port ≡ port)
stands_parts s port attachment is =
    let two = and_parts (attachment.edge.0 == s) (attachment.port == port) is in (eqb-true attachment.edge.0 s two.0, eqb-true attachment.port port two.1)

-- where nobody stands, this host does not
pub nobody_there : (attachments : List AttachmentPoint) (s port : ℕ) → position (stands_at s port) attachments ≡ None → (g : ℕ) (attachment : AttachmentPoint) → slice_get attachments g ≡ Some attachment →
    attachment.edge.0 ≡ s → attachment.port ≡ port → ⊥
nobody_there attachments s port none g attachment found edge at =
    let fails = none_passes (stands_at s port) attachments 0 (sym (position_from-zero (stands_at s port) attachments) ∙ none) g attachment found in
    false≢true (sym fails ∙ stands_there s port attachment edge at)

pub who_is_there : (attachments : List AttachmentPoint) → AreAttachedApart attachments → (h : ℕ) (attachment : AttachmentPoint) → slice_get attachments h ≡ Some attachment →
    position (stands_at attachment.edge.0 attachment.port) attachments ≡ Some h
who_is_there attachments apart h attachment found = by (position (stands_at attachment.edge.0 attachment.port) attachments) refl
  where
    by : (o : Option ℕ) → position (stands_at attachment.edge.0 attachment.port) attachments ≡ o → position (stands_at attachment.edge.0 attachment.port) attachments ≡ Some h
    by None none = absurd (nobody_there attachments attachment.edge.0 attachment.port none h attachment found refl refl)
    by (Some n) is =
        let first = first_passes (stands_at attachment.edge.0 attachment.port) attachments 0 n (sym (position_from-zero (stands_at attachment.edge.0 attachment.port) attachments) ∙ is) in
        let two = stands_parts attachment.edge.0 attachment.port first.item first.passes in
        let same = apart first.at h first.item attachment first.found found two.0 two.1 in
        let it = first.is in
        is ∙ ap Some (let n_is : n ≡ first.at = omega (arith, it) in n_is ∙ same)

-- a frame that goes to the host's own address out of its port is for the host
pub it_receives : (w : WorldView) → AreAttachedApart w.attachments → (h : ℕ) (host : Host) (attachment : AttachmentPoint) → slice_get w.plan.hosts h ≡ Some host → slice_get w.attachments h ≡ Some attachment →
    (frame : List ℕ) → destination_of frame ≡ host.mac → receiver w attachment.edge.0 attachment.port frame ≡ Some h
it_receives w apart h host attachment at_host at_attachment frame to =
    ap (λ (o : Option ℕ). if_for w.plan frame o) (who_is_there w.attachments apart h attachment at_attachment)
    ∙ ap (λ b. if◌then◌else◌ {A = Option ℕ} b (Some h) None) (either (is_group (destination_of frame)) (is_address_of (mac_of_host w.plan h) (destination_of frame)) goes)
  where
    either : (a b : Bool) → b ≡ true → (a || b) ≡ true
    either true b is = refl
    either false b is = is

    goes : is_address_of (mac_of_host w.plan h) (destination_of frame) ≡ true
    goes = ap (λ (o : Option Host). is_address_of (option_map (λ x. x.mac) o) (destination_of frame)) at_host ∙ ap (λ m. same_mac host.mac m) to ∙ mac_itself host.mac

-- ---- somebody moves

pub moved_apart : (attachments : List AttachmentPoint) (g : ℕ) (to : AttachmentPoint) → AreAttachedApart attachments → position (stands_at to.edge.0 to.port) attachments ≡ None → AreAttachedApart (set attachments g to)
moved_apart attachments g to apart free = λ i j a b at_a at_b edge port. elim (cases_eq i g) [
  | inl i_is ↦ elim (cases_eq j g) [
    | inl j_is ↦ i_is ∙ sym j_is
    | inr j_other ↦
        let a_is : to ≡ a = moved i i_is a at_a in
        absurd (nobody_there attachments to.edge.0 to.port free j b (sym (get-set_other attachments g j to j_other) ∙ at_b)
        (sym edge ∙ ap (λ (x : AttachmentPoint). x.edge.0) (sym a_is)) (sym port ∙ ap (λ (x : AttachmentPoint). x.port) (sym a_is)))
  ]
  | inr i_other ↦ elim (cases_eq j g) [
    | inl j_is ↦
        let b_is : to ≡ b = moved j j_is b at_b in
        absurd (nobody_there attachments to.edge.0 to.port free i a (sym (get-set_other attachments g i to i_other) ∙ at_a)
        (edge ∙ ap (λ (x : AttachmentPoint). x.edge.0) (sym b_is)) (port ∙ ap (λ (x : AttachmentPoint). x.port) (sym b_is)))
    | inr j_other ↦ apart i j a b (sym (get-set_other attachments g i to i_other) ∙ at_a) (sym (get-set_other attachments g j to j_other) ∙ at_b) edge port
  ]
]
  where
    within : (n : ℕ) → (xs : List AttachmentPoint) → (x y : AttachmentPoint) → slice_get (set xs n x) n ≡ Some y → x ≡ y
    within n [] x y is = absurd (none-some y is)
    within zero (z ∷ xs) x y is = same_Some x y is
    within (suc n) (z ∷ xs) x y is = within n xs x y is

    moved : (i : ℕ) → i ≡ g → (a : AttachmentPoint) → slice_get (set attachments g to) i ≡ Some a → to ≡ a
    moved i i_is a at_a = within g attachments to a (ap (λ n. slice_get (set attachments g to) n) (sym i_is) ∙ at_a)

-- ---- the beginning
first_of : (hosts : List Host) (i : ℕ) (attachment : AttachmentPoint) → slice_get (map first_attachment hosts) i ≡ Some attachment → (host : Host) × (slice_get hosts i ≡ Some host) × (first_attachment host ≡ attachment)
first_of [] i attachment is = absurd (none-some attachment is)
first_of (host ∷ hosts) zero attachment is = (host, refl, same_Some (first_attachment host) attachment is)
first_of (host ∷ hosts) (suc i) attachment is = first_of hosts i attachment is

pub boots_apart : (plan : Plan) → CanBegin plan → AreAttachedApart (map first_attachment plan.hosts)
boots_apart plan can = λ g h x y at_x at_y edge port.
    let one = first_of plan.hosts g x at_x in
    let two = first_of plan.hosts h y at_y in
    let edges : one.0.edge.0 ≡ two.0.edge.0 = ap (λ (s : AttachmentPoint). s.edge.0) one.2 ∙ edge ∙ ap (λ (s : AttachmentPoint). s.edge.0) (sym two.2) in
    let ports : one.0.port ≡ two.0.port = ap (λ (s : AttachmentPoint). s.port) one.2 ∙ port ∙ ap (λ (s : AttachmentPoint). s.port) (sym two.2) in
    elim (cases_eq g h) [
      | inl same ↦ same
      | inr other ↦ elim (cases_lt g h) [
        | inl less ↦ absurd (never g h one.0 two.0 one.1 two.1 edges ports less)
        | inr no_less ↦ absurd (never h g two.0 one.0 two.1 one.1 (sym edges) (sym ports) (below h g no_less (λ e. other (sym e))))
      ]
    ]
  where
    below : (i j : ℕ) → i ≤ j → i ≢ j → i < j
    below i j le ne = elim (cases_lt i j) [ inl lt ↦ lt | inr ge ↦ absurd (ne (omega (arith, le, ge))) ]

    never : (i j : ℕ) (p q : Host) → slice_get plan.hosts i ≡ Some p → slice_get plan.hosts j ≡ Some q → p.edge.0 ≡ q.edge.0 → p.port ≡ q.port → i < j → ⊥
    never i j p q at_p at_q edges ports less =
        let apart = can.is_plan.ports_apart i j p less (slice_get_within plan.hosts j q at_q) in
        let first = get_or_from_slice_get plan.hosts i p p at_p in
        let second = get_or_from_slice_get plan.hosts j q p at_q in
        apart (
          ap (λ (x : Host). x.edge.0) first ∙ edges ∙ ap (λ (x : Host). x.edge.0) (sym second),
          ap (λ (x : Host). x.port) first ∙ ports ∙ ap (λ (x : Host). x.port) (sym second),
        )
