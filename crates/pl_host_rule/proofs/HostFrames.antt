-- Which frames are data frames of a length that is carried.
use Rattle.std.proofs.Common.{◌≡◌, ℕ, ◌+◌, ◌^◌, ◌<◌, ◌≤◌, ◌==◌, ◌&&◌, Bool, true, false, not, cond, nat_le, nat_lt, List, [], ◌∷◌, ◌++◌, length, take, drop, map, Some, None, Ok, Err, refl, ap, subst, ◌∙◌, arith, length-append, length-drop, length-take-le, le-leb, leb-true, ltb-false}
use Rattle.std.specs.Result.{result_ok}
use Rattle.std.specs.Str.{bytes_eq}
use Rattle.std.proofs.lemmas.Bool.{and_from, and_parts, not_from_false}
use Rattle.std.proofs.lemmas.List.Folds.{list_all-append}
use Rattle.pl_frame.specs.declared.address.Mac.{Mac}
use Rattle.pl_frame.specs.Ethernet.{Fields, frame_of, kind_of, payload_of, with_destination}
use Rattle.pl_frame.proofs.Exports.{fields_of-frame_of, fields_of-with_destination, length-frame_of}
use Rattle.pl_arp.specs.declared.packet.Arp.{Arp}
use Rattle.pl_arp.specs.declared.packet.ArpError.{ArpError}
use Rattle.pl_arp.specs.declared.packet.ArpError.TheVariants.{Cut, OtherKind}
use Rattle.pl_arp.specs.declared.cache.Me.{Me}
use Rattle.pl_arp.specs.Packet.{ethernet_ipv4, fields_at_front, layout}
use Rattle.pl_arp.proofs.Exports.{length-layout}
use Rattle.pl_layouts.specs.declared.membership.Change.{Change}
use Rattle.pl_layouts.specs.Checksum.{checksum_of}
use Rattle.pl_layouts.specs.Frames.{packet_in}
use Rattle.pl_layouts.specs.Reports.{group_mac, header_of, header_with, membership_frame, message_of_change, message_with, receiver_of}
use Rattle.pl_node.specs.HostDuties.{are_data, is_data}
use Rattle.pl_layouts.specs.ArpFrames.{arp_frame}

-- the three things that are asked of a frame
pub data_from : (frame : List ℕ) → 14 ≤ length frame → length frame ≤ 65553 → (kind_of frame == 0x88b5) ≡ false → is_data frame ≡ true
data_from frame long short other =
    and_from (nat_le 14 (length frame) && nat_le (length frame) 65553) (not (kind_of frame == 0x88b5))
    (and_from (nat_le 14 (length frame)) (nat_le (length frame) 65553) (le-leb 14 (length frame) long) (le-leb (length frame) 65553 short))
    (not_from_false (kind_of frame == 0x88b5) other)

pub record IsData (frame : List ℕ) : Type 0 where
  pub long : 14 ≤ length frame
  pub short : length frame ≤ 65553
  pub other : not (kind_of frame == 0x88b5) ≡ true

pub data_parts : (frame : List ℕ) → is_data frame ≡ true → IsData frame
data_parts frame is =
    let outer = and_parts (nat_le 14 (length frame) && nat_le (length frame) 65553) (not (kind_of frame == 0x88b5)) is in
    let inner = and_parts (nat_le 14 (length frame)) (nat_le (length frame) 65553) outer.0 in
    record { long = leb-true 14 (length frame) inner.0; short = leb-true (length frame) 65553 inner.1; other = outer.1 }

pub data_from_parts : (frame : List ℕ) → IsData frame → is_data frame ≡ true
data_from_parts frame is =
    and_from (nat_le 14 (length frame) && nat_le (length frame) 65553) (not (kind_of frame == 0x88b5))
    (and_from (nat_le 14 (length frame)) (nat_le (length frame) 65553) (le-leb 14 (length frame) is.long) (le-leb (length frame) 65553 is.short))
    is.other

pub data_frame_of : (f : Fields) → length f.dst.0 ≡ 6 → length f.src.0 ≡ 6 → f.kind < 2 ^ 16 → (f.kind == 0x88b5) ≡ false →
    length f.payload ≤ 65539 → is_data (frame_of f) ≡ true
data_frame_of f six six' small other short =
    let long = length-frame_of f six six' in
    let kind : kind_of (frame_of f) ≡ f.kind = ap (λ (g : Fields). g.kind) (fields_of-frame_of f six six' small) in
    data_from (frame_of f) (omega arith) (omega arith) (ap (λ n. n == 0x88b5) kind ∙ other)

-- an ARP frame of addresses of six bytes
pub data_arp_frame : (dst : Mac) (arp : Arp) → length dst.0 ≡ 6 → length arp.sha.0 ≡ 6 → length arp.tha.0 ≡ 6 → is_data (arp_frame dst arp) ≡ true
unfolding arp_frame
data_arp_frame dst arp six sha tha =
    data_frame_of (record { dst = dst; src = arp.sha; kind = 0x0806; payload = layout arp }) six sha (omega arith) refl (omega (arith, length-layout arp sha tha))

length-report : (src dst first group second : ℕ) (join : Bool) → length (header_with src dst first ++ message_with join group second) ≡ 32
length-report src dst first group second join = refl

-- a report, or a leave
pub data_membership_frame : (me : Me) (change : Change) → length me.mac.0 ≡ 6 → is_data (membership_frame me change) ≡ true
unfolding header_of message_of_change
data_membership_frame me change six =
    let group : ℕ = change.group.0 in
    let to : ℕ = receiver_of change in
    let first : ℕ = checksum_of (header_with me.ip.0 to 0) in
    let second : ℕ = checksum_of (message_with change.join group 0) in
    let payload : List ℕ = header_with me.ip.0 to first ++ message_with change.join group second in
    let long : length payload ≡ 32 = length-report me.ip.0 to first group second change.join in
    data_frame_of (record { dst = group_mac to; src = me.mac; kind = 0x0800; payload = payload }) refl six (omega arith) refl (omega arith)

-- a frame with another destination
pub data_with_destination : (frame : List ℕ) (mac : Mac) → length mac.0 ≡ 6 → is_data frame ≡ true → is_data (with_destination frame mac) ≡ true
data_with_destination frame mac six is =
    let was = data_parts frame is in
    let long : length (with_destination frame mac) ≡ length frame =
    omega (arith, was.long, length-append mac.0 (drop 6 frame), length-drop 6 frame) in
    let kind : kind_of (with_destination frame mac) ≡ kind_of frame =
    ap (λ (f : Fields). f.kind) (fields_of-with_destination frame mac (omega (arith, was.long)) six) in
    data_from_parts (with_destination frame mac) (record {
      long = omega (arith, was.long);
      short = omega (arith, was.short);
      other = ap (λ n. not (n == 0x88b5)) kind ∙ was.other;
    })

pub data_with_destinations : (frames : List (List ℕ)) (mac : Mac) → length mac.0 ≡ 6 → are_data frames ≡ true →
    are_data (map (λ frame. with_destination frame mac) frames) ≡ true
data_with_destinations [] mac six are = refl
data_with_destinations (frame ∷ frames) mac six are =
    let parts = and_parts (is_data frame) (are_data frames) are in
    and_from (is_data (with_destination frame mac)) (are_data (map (λ frame. with_destination frame mac) frames))
    (data_with_destination frame mac six parts.0) (data_with_destinations frames mac six parts.1)

pub data_append : (front rest : List (List ℕ)) → are_data front ≡ true → are_data rest ≡ true → are_data (front ++ rest) ≡ true
data_append front rest h k = list_all-append is_data front rest ∙ and_from (are_data front) (are_data rest) h k

pub data_one : (frame : List ℕ) → is_data frame ≡ true → are_data (frame ∷ []) ≡ true
data_one frame is = and_from (is_data frame) true is refl

-- the packet of a frame that can be read, and that its addresses have six bytes
pub record IsPacket (frame : List ℕ) (arp : Arp) : Type 0 where
  pub sha : length arp.sha.0 ≡ 6
  pub tha : length arp.tha.0 ≡ 6

read_as : (kind short strange : Bool) (a b : ArpError) (found arp : Arp) →
    cond kind (result_ok (cond short (Err a) (cond strange (Err b) (Ok found)))) None ≡ Some arp → (short ≡ false) × (found ≡ arp)
read_as true true strange a b found arp is = absurd (cc)
read_as true false true a b found arp is = absurd (cc)
read_as true false false a b found arp is = (refl, cc)
read_as false short strange a b found arp is = absurd (cc)

pub packet_in-addresses : (frame : List ℕ) (arp : Arp) → packet_in frame ≡ Some arp → IsPacket frame arp
packet_in-addresses frame arp is =
    let payload : List ℕ = payload_of frame in
    let found : Arp = fields_at_front payload in
    let read = read_as (kind_of frame == 0x0806) (nat_lt (length payload) 28) (not (bytes_eq (take 6 payload) ethernet_ipv4)) Cut OtherKind found arp is in
    let long : 28 ≤ length payload = ltb-false (length payload) 28 read.0 in
    let sha : length found.sha.0 ≡ 6 = length-take-le 6 (drop 8 payload) (omega (arith, length-drop 8 payload)) in
    let tha : length found.tha.0 ≡ 6 = length-take-le 6 (drop 18 payload) (omega (arith, length-drop 18 payload)) in
    record {
      sha = subst (λ (a : Arp). length a.sha.0 ≡ 6) read.1 sha;
      tha = subst (λ (a : Arp). length a.tha.0 ≡ 6) read.1 tha;
    }
