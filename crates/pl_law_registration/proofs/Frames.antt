-- The probe of an edge switch reads as one, and so does what a host answers.
use Rattle.std.proofs.Common.{◌≡◌, ◌≤◌, ◌<◌, ◌^◌, ◌==◌, ℕ, not, nat_lt, true, false, cond, List, [], length, take, Option, Some, None, is_some, option_map, Ok, Err, refl, sym, ap, ◌∙◌, arith, append-nil, eq-eqb}
use Rattle.std.specs.Result.{result_ok}
use Rattle.std.specs.Str.{bytes_eq}
use Rattle.std.proofs.lemmas.Bool.{and_from}
use Rattle.std.proofs.lemmas.Slice.Eq.{bytes_eq-Decides}
use Rattle.pl_frame.specs.declared.address.Mac.{Mac}
use Rattle.pl_frame.specs.Ethernet.{Fields, destination_of}
use Rattle.pl_frame.proofs.Exports.{fields_of-frame_of}
use Rattle.pl_arp.specs.declared.cache.Me.{Me}
use Rattle.pl_arp.specs.declared.packet.Arp.{Arp}
use Rattle.pl_arp.specs.declared.packet.ArpError.TheVariants.{Cut, OtherKind}
use Rattle.pl_arp.specs.Packet.{ArpFits, arp_in, ethernet_ipv4, fields_at_front, layout}
use Rattle.pl_arp.proofs.Exports.{arp_in-layout, length-layout}
use Rattle.pl_pmac.specs.declared.pmac.Pmac.{Pmac}
use Rattle.pl_pmac.specs.Pmac.{mac_of}
use Rattle.pl_pmac.proofs.Exports.{length-mac_of}
use Rattle.pl_layouts.specs.ArpFrames.{arp_frame, no_mac}
use Rattle.pl_layouts.specs.Equality.{same_mac}
use Rattle.pl_layouts.specs.Frames.{arriving, packet_in, with_addresses}
use Rattle.pl_layouts.proofs.Exports.{destination_of-arriving, long_frame, packet_in-arriving}
use Rattle.pl_switch_rule.specs.Messages.{probe_frame}
use Rattle.pl_world.specs.declared.item.Item.TheVariants.{Data}
use Rattle.pl_law_registration.specs.Probes.{asks_for, is_probe, is_readable}

-- a frame by its fields
abbrev packet_by : ℕ → List ℕ → Option Arp
packet_by kind payload = cond (kind == 0x0806) (result_ok (arp_in payload)) None

packet_of : (to : Mac) (arp : Arp) → length to.0 ≡ 6 → length arp.sha.0 ≡ 6 → packet_in (arp_frame to arp) ≡ result_ok (arp_in (layout arp))
unfolding arp_frame
packet_of to arp six sha =
    ap (λ (f : Fields). packet_by f.kind f.payload) (fields_of-frame_of (record { dst = to; src = arp.sha; kind = 0x0806; payload = layout arp }) six sha (omega arith))

-- an ARP frame of addresses of six bytes can be read
pub packet_is_readable : (to : Mac) (arp : Arp) → length to.0 ≡ 6 → length arp.sha.0 ≡ 6 → length arp.tha.0 ≡ 6 → is_readable (arp_frame to arp) ≡ true
packet_is_readable to arp six sha tha =
    let long : nat_lt (length (layout arp)) 28 ≡ false = ap (λ n. nat_lt n 28) (length-layout arp sha tha) in
    ap is_some (packet_of to arp six sha)
    ∙ ap (λ b. is_some (result_ok (cond b (Err Cut) (cond (not (bytes_eq (take 6 (layout arp)) ethernet_ipv4)) (Err OtherKind) (Ok (fields_at_front (layout arp))))))) long

-- the probe as it reaches the host
pub probe_is_one : (old : Pmac) (me : Me) (id : ℕ) → length me.mac.0 ≡ 6 → me.ip.0 < 2 ^ 32 →
    is_probe me (Data id (arriving (probe_frame old me.ip) None (Some me.mac))) ≡ true
probe_is_one old me id six small =
    let asked : Arp = record { op = 1; sha = mac_of (record old { vmid = 0 }); spa = record { 0 = 0 }; tha = no_mac; tpa = me.ip } in
    let frame : List ℕ = probe_frame old me.ip in
    let sha = length-mac_of (record old { vmid = 0 }) in
    let fits : ArpFits asked = record { op = omega arith; sha = sha; spa = omega arith; tha = refl; tpa = small } in
    let read : packet_in frame ≡ Some asked =
    packet_of (mac_of old) asked (length-mac_of old) sha ∙ ap (λ p. result_ok (arp_in p)) (sym (append-nil (layout asked))) ∙ ap result_ok (arp_in-layout asked [] fits) in
    let far = long_frame frame (ap is_some read) in
    let long : 14 ≤ length frame = omega (arith, far) in
    let to : destination_of (arriving frame None (Some me.mac)) ≡ me.mac = destination_of-arriving frame None (Some me.mac) long tt six in
    let asks : packet_in (arriving frame None (Some me.mac)) ≡ Some (with_addresses None (Some me.mac) asked) =
    packet_in-arriving frame None (Some me.mac) long tt six ∙ ap (option_map (with_addresses None (Some me.mac))) read in
    and_from (same_mac (destination_of (arriving frame None (Some me.mac))) me.mac) (asks_for me (packet_in (arriving frame None (Some me.mac))))
    (ap (λ (m : Mac). same_mac m me.mac) to ∙ (bytes_eq-Decides me.mac.0 me.mac.0).1 refl)
    (ap (asks_for me) asks ∙ same_number me.ip.0)
  where
    same_number : (n : ℕ) → (n == n) ≡ true
    same_number n = eq-eqb n n refl
