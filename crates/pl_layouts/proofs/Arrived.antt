-- A frame arrives with other addresses alone.
use Rattle.std.proofs.Common.{◌≡◌, ℕ, ◌+◌, ◌≤◌, Bool, true, false, not, cond, if◌then◌else◌, ◌==◌, List, ◌++◌, length, take, drop, Option, Some, None, is_some, unwrap_or, option_map, Result, Ok, Err, refl, sym, ap, ap₂, ◌∙◌, inl, inr, arith, append_assoc, length-append}
use Rattle.std.specs.Result.{result_ok}
use Rattle.std.specs.Str.{bytes_eq}
use Rattle.std.proofs.lemmas.Bool.{cases_Bool, le-ltb}
use Rattle.std.proofs.lemmas.List.{length-drop, length-take-le, take-append-le, drop-append-le}
use Rattle.byteorder.specs.Endian.{big_number}
use Rattle.pl_frame.specs.declared.address.Mac.{Mac}
use Rattle.pl_frame.specs.Ethernet.{destination_of, source_of}
use Rattle.pl_frame.proofs.Exports.{front_of, rest_of}
use Rattle.pl_arp.specs.declared.packet.Arp.{Arp}
use Rattle.pl_arp.specs.declared.packet.ArpError.{ArpError}
use Rattle.pl_arp.specs.declared.packet.ArpError.TheVariants.{Cut, OtherKind}
use Rattle.pl_arp.specs.Packet.{arp_in, ethernet_ipv4, fields_at_front}
use Rattle.pl_layouts.specs.Frames.{HasSixBytes, arriving, packet_in, with_addresses}
use Rattle.pl_layouts.proofs.Arrivals.{arriving_by, arriving_parts, bytes_or, dst_in, fields_of_parts, head_in, in_parts, in_two, length-bytes_or, lengths_in, long_frame, mac, number_in_front, packet, packet_behind, packet_in-behind, parts, sha_in, spa_in, src_in, tha_in, unreadable_parts}

-- whether its packet can be read
abbrev pub is_readable : List ℕ → Bool
is_readable frame = is_some (packet_in frame)

pub arriving_readable : (frame : List ℕ) (from to : Option Mac) → is_readable frame ≡ true → HasSixBytes from → HasSixBytes to →
    arriving frame from to ≡ parts (bytes_or to (dst_in frame)) (bytes_or from (src_in frame)) (head_in frame) (bytes_or from (sha_in frame)) (spa_in frame) (bytes_or to (tha_in frame)) (drop 38 frame)
arriving_readable frame from to readable six_from six_to =
    let enough = long_frame frame readable in
    let long = lengths_in frame (omega arith) in
    ap (λ b. arriving_by b frame from to) readable ∙ ap (λ f. arriving_by true f from to) (in_parts frame)
    ∙ arriving_parts (dst_in frame) (src_in frame) (head_in frame) (sha_in frame) (spa_in frame) (tha_in frame) (drop 38 frame) from to long six_from six_to

pub six_dst : (frame : List ℕ) → 14 ≤ length frame → length (dst_in frame) ≡ 6
six_dst frame long = length-take-le 6 frame (omega arith)

pub six_src : (frame : List ℕ) → 14 ≤ length frame → length (src_in frame) ≡ 6
six_src frame long = length-take-le 6 (drop 6 frame) (omega (arith, length-drop 6 frame))

pub arriving_unreadable : (frame : List ℕ) (from to : Option Mac) → 14 ≤ length frame → is_readable frame ≡ false → HasSixBytes from → HasSixBytes to →
    arriving frame from to ≡ bytes_or to (dst_in frame) ++ (bytes_or from (src_in frame) ++ drop 12 frame)
arriving_unreadable frame from to long unreadable six_from six_to =
    ap (λ b. arriving_by b frame from to) unreadable ∙ ap (λ f. arriving_by false f from to) (in_two frame)
    ∙ unreadable_parts (dst_in frame) (src_in frame) (drop 12 frame) from to (six_dst frame long) (six_src frame long) six_from six_to

-- in either case: two addresses, and what follows
pub record Arrives (frame arrived : List ℕ) (from to : Option Mac) : Type 0 where
  pub rest : List ℕ
  pub is : arrived ≡ bytes_or to (dst_in frame) ++ (bytes_or from (src_in frame) ++ rest)
  pub long : length rest + 12 ≡ length frame

arrives : (frame : List ℕ) (from to : Option Mac) → 14 ≤ length frame → HasSixBytes from → HasSixBytes to → Arrives frame (arriving frame from to) from to
arrives frame from to long six_from six_to = elim (cases_Bool (is_readable frame)) [
  | inl readable ↦
      let enough = long_frame frame readable in
      let sizes = lengths_in frame (omega arith) in
      let sha' : List ℕ = bytes_or from (sha_in frame) in
      let tha' : List ℕ = bytes_or to (tha_in frame) in
      let n_sha = length-bytes_or from (sha_in frame) six_from sizes.sha in
      let n_tha = length-bytes_or to (tha_in frame) six_to sizes.tha in
      record {
        rest = head_in frame ++ (sha' ++ (spa_in frame ++ (tha' ++ drop 38 frame)));
        is = arriving_readable frame from to readable six_from six_to;
        long = omega (
          arith,
          length-append (head_in frame) (sha' ++ (spa_in frame ++ (tha' ++ drop 38 frame))),
          length-append sha' (spa_in frame ++ (tha' ++ drop 38 frame)),
          length-append (spa_in frame) (tha' ++ drop 38 frame),
          length-append tha' (drop 38 frame),
          length-drop 38 frame,
          n_sha,
          n_tha,
          sizes.head,
          sizes.spa,
        );
      }
  | inr unreadable ↦ record {
    rest = drop 12 frame;
    is = arriving_unreadable frame from to long unreadable six_from six_to;
    long = omega (arith, length-drop 12 frame);
  }
]

pub length-arriving : (frame : List ℕ) (from to : Option Mac) → 14 ≤ length frame → HasSixBytes from → HasSixBytes to → length (arriving frame from to) ≡ length frame
length-arriving frame from to long six_from six_to =
    let w = arrives frame from to long six_from six_to in
    let dst' : List ℕ = bytes_or to (dst_in frame) in
    let src' : List ℕ = bytes_or from (src_in frame) in
    let n_dst = length-bytes_or to (dst_in frame) six_to (six_dst frame long) in
    let n_src = length-bytes_or from (src_in frame) six_from (six_src frame long) in
    let sums : length (dst' ++ (src' ++ w.rest)) ≡ length frame = omega (arith, length-append dst' (src' ++ w.rest), length-append src' w.rest, n_dst, n_src, w.long) in
    ap length w.is ∙ sums

mac_or : (o : Option Mac) (bytes : List ℕ) → mac (bytes_or o bytes) ≡ unwrap_or o (mac bytes)
mac_or None bytes = refl
mac_or (Some m) bytes = refl

pub destination_of-arriving : (frame : List ℕ) (from to : Option Mac) → 14 ≤ length frame → HasSixBytes from → HasSixBytes to →
    destination_of (arriving frame from to) ≡ unwrap_or to (destination_of frame)
destination_of-arriving frame from to long six_from six_to =
    let w = arrives frame from to long six_from six_to in
    let n_dst = length-bytes_or to (dst_in frame) six_to (six_dst frame long) in
    ap destination_of w.is ∙ ap mac (front_of 6 (bytes_or to (dst_in frame)) (bytes_or from (src_in frame) ++ w.rest) n_dst) ∙ mac_or to (dst_in frame)

pub source_of-arriving : (frame : List ℕ) (from to : Option Mac) → 14 ≤ length frame → HasSixBytes from → HasSixBytes to →
    source_of (arriving frame from to) ≡ unwrap_or from (source_of frame)
source_of-arriving frame from to long six_from six_to =
    let w = arrives frame from to long six_from six_to in
    let src' : List ℕ = bytes_or from (src_in frame) in
    let n_dst = length-bytes_or to (dst_in frame) six_to (six_dst frame long) in
    let n_src = length-bytes_or from (src_in frame) six_from (six_src frame long) in
    ap source_of w.is ∙ ap (λ r. mac (take 6 r)) (rest_of 6 (bytes_or to (dst_in frame)) (src' ++ w.rest) n_dst)
    ∙ ap mac (front_of 6 src' w.rest n_src) ∙ mac_or from (src_in frame)

-- what stands behind twelve bytes
pub behind_twelve : (dst src rest : List ℕ) → length dst ≡ 6 → length src ≡ 6 → drop 12 (dst ++ (src ++ rest)) ≡ rest
behind_twelve dst src rest n_dst n_src =
    ap (drop 12) (sym (append_assoc dst src rest)) ∙ rest_of 12 (dst ++ src) rest (omega (arith, length-append dst src))

-- the packet of a frame in its parts, if the head says that it is one
abbrev packet_if : Bool → Bool → Arp → Option Arp
packet_if kind other arp = if kind then (if other then None else Some arp) else None

read_if : (kind other : Bool) (arp : Arp) → cond kind (result_ok (cond {A = Result Arp ArpError} other (Err OtherKind) (Ok arp))) None ≡ packet_if kind other arp
read_if true true arp = refl
read_if true false arp = refl
read_if false other arp = refl

packet_of_parts : (head sha spa tha rest : List ℕ) → length head ≡ 10 → length sha ≡ 6 → length spa ≡ 4 → length tha ≡ 6 → 4 ≤ length rest →
    packet_behind (head ++ (sha ++ (spa ++ (tha ++ rest))))
    ≡ packet_if (big_number 2 head == 0x0806) (not (bytes_eq (take 6 (drop 2 head)) ethernet_ipv4))
    (packet (big_number 2 (drop 6 (drop 2 head))) sha (big_number 4 spa) tha (big_number 4 rest))
packet_of_parts head sha spa tha rest n_head n_sha n_spa n_tha long =
    let behind : List ℕ = sha ++ (spa ++ (tha ++ rest)) in
    let eight : List ℕ = drop 2 head in
    let n_eight : length eight ≡ 8 = omega (arith, length-drop 2 head) in
    let p : List ℕ = eight ++ behind in
    let arp : Arp = packet (big_number 2 (drop 6 eight)) sha (big_number 4 spa) tha (big_number 4 rest) in
    let kind : big_number 2 (head ++ behind) ≡ big_number 2 head = number_in_front 2 head behind (omega arith) in
    let split : drop 2 (head ++ behind) ≡ p = drop-append-le 2 head behind (omega arith) in
    let many : 28 ≤ length p = omega (arith, length-append eight behind, length-append sha (spa ++ (tha ++ rest)), length-append spa (tha ++ rest), length-append tha rest) in
    let first : take 6 p ≡ take 6 eight = take-append-le 6 eight behind (omega arith) in
    let fields : fields_at_front p ≡ arp = fields_of_parts eight sha spa tha rest n_eight n_sha n_spa n_tha in
    let read : arp_in p ≡ cond (not (bytes_eq (take 6 eight) ethernet_ipv4)) (Err OtherKind) (Ok arp) =
    ap (λ b. cond b (Err Cut) (cond (not (bytes_eq (take 6 p) ethernet_ipv4)) (Err OtherKind) (Ok (fields_at_front p)))) (le-ltb (length p) 28 many)
    ∙ ap (λ t. cond (not (bytes_eq t ethernet_ipv4)) (Err OtherKind) (Ok (fields_at_front p))) first
    ∙ ap (λ a. cond (not (bytes_eq (take 6 eight) ethernet_ipv4)) (Err OtherKind) (Ok a)) fields in
    ap₂ (λ n q. cond (n == 0x0806) (result_ok (arp_in q)) None) kind split
    ∙ ap (λ r. cond (big_number 2 head == 0x0806) (result_ok r) None) read
    ∙ read_if (big_number 2 head == 0x0806) (not (bytes_eq (take 6 eight) ethernet_ipv4)) arp

with_bytes_or : (kind other : Bool) (op : ℕ) (sha : List ℕ) (spa : ℕ) (tha : List ℕ) (tpa : ℕ) (from to : Option Mac) →
    packet_if kind other (packet op (bytes_or from sha) spa (bytes_or to tha) tpa) ≡ option_map (with_addresses from to) (packet_if kind other (packet op sha spa tha tpa))
with_bytes_or kind true op sha spa tha tpa from to = none_either_way kind
  where
    none_either_way : (b : Bool) → cond {A = Option Arp} b None None ≡ option_map (with_addresses from to) (cond b None None)
    none_either_way true = refl
    none_either_way false = refl
with_bytes_or false false op sha spa tha tpa from to = refl
with_bytes_or true false op sha spa tha tpa None None = refl
with_bytes_or true false op sha spa tha tpa None (Some t) = refl
with_bytes_or true false op sha spa tha tpa (Some f) None = refl
with_bytes_or true false op sha spa tha tpa (Some f) (Some t) = refl

unread : (o : Option Arp) → is_some o ≡ false → o ≡ None
unread None h = refl
unread (Some x) h = absurd (cc)

pub packet_in-arriving : (frame : List ℕ) (from to : Option Mac) → 14 ≤ length frame → HasSixBytes from → HasSixBytes to →
    packet_in (arriving frame from to) ≡ option_map (with_addresses from to) (packet_in frame)
packet_in-arriving frame from to long six_from six_to =
    let dst' : List ℕ = bytes_or to (dst_in frame) in
    let src' : List ℕ = bytes_or from (src_in frame) in
    let n_dst = length-bytes_or to (dst_in frame) six_to (six_dst frame long) in
    let n_src = length-bytes_or from (src_in frame) six_from (six_src frame long) in
    elim (cases_Bool (is_readable frame)) [
      | inl readable ↦
          let enough = long_frame frame readable in
          let sizes = lengths_in frame (omega arith) in
          let head : List ℕ = head_in frame in
          let sha : List ℕ = sha_in frame in
          let spa : List ℕ = spa_in frame in
          let tha : List ℕ = tha_in frame in
          let rest : List ℕ = drop 38 frame in
          let four : 4 ≤ length rest = omega (arith, length-drop 38 frame) in
          let old : packet_in frame ≡ packet_behind (head ++ (sha ++ (spa ++ (tha ++ rest)))) =
          packet_in-behind frame ∙ ap (λ f. packet_behind (drop 12 f)) (in_parts frame)
          ∙ ap packet_behind (behind_twelve (dst_in frame) (src_in frame) (head ++ (sha ++ (spa ++ (tha ++ rest)))) sizes.dst sizes.src) in
          let sha' : List ℕ = bytes_or from sha in
          let tha' : List ℕ = bytes_or to tha in
          let arrived : List ℕ = head ++ (sha' ++ (spa ++ (tha' ++ rest))) in
          let new : packet_in (arriving frame from to) ≡ packet_behind arrived =
          ap packet_in (arriving_readable frame from to readable six_from six_to) ∙ packet_in-behind (dst' ++ (src' ++ arrived))
          ∙ ap packet_behind (behind_twelve dst' src' arrived n_dst n_src) in
          new ∙ packet_of_parts head sha' spa tha' rest sizes.head (length-bytes_or from sha six_from sizes.sha) sizes.spa (length-bytes_or to tha six_to sizes.tha) four
          ∙ with_bytes_or (big_number 2 head == 0x0806) (not (bytes_eq (take 6 (drop 2 head)) ethernet_ipv4)) (big_number 2 (drop 6 (drop 2 head))) sha (big_number 4 spa) tha (big_number 4 rest) from to
          ∙ ap (option_map (with_addresses from to)) (sym (old ∙ packet_of_parts head sha spa tha rest sizes.head sizes.sha sizes.spa sizes.tha four))
      | inr unreadable ↦
          let none = unread (packet_in frame) unreadable in
          ap packet_in (arriving_unreadable frame from to long unreadable six_from six_to) ∙ packet_in-behind (dst' ++ (src' ++ drop 12 frame))
          ∙ ap packet_behind (behind_twelve dst' src' (drop 12 frame) n_dst n_src) ∙ sym (packet_in-behind frame) ∙ none
          ∙ ap (option_map (with_addresses from to)) (sym none)
    ]
