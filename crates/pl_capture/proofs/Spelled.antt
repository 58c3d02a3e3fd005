-- What is spelled is read.
use Rattle.std.proofs.Common.{◌≡◌, false, nat_lt, ℕ, ◌+◌, ◌^◌, ◌<◌, ◌≤◌, inl, inr, List, [], ◌∷◌, ◌++◌, length, take, drop, map, All, Some, Ok, refl, sym, ◌∙◌, ap, subst, arith, append_assoc, length-append}
use Rattle.std.proofs.Math.Seq.{drop-append-add, take-append_seam}
use Rattle.std.proofs.lemmas.Bool.{le-ltb}
use Rattle.std.proofs.lemmas.List.{append-nil}
use Rattle.std.proofs.lemmas.List.Elements.{recursion_from_All}
use Rattle.std.specs.List.{flat_map, AllByRecursion}
use Rattle.byteorder.specs.Numbers.{little_number-reads_back, big_number-reads_back}
use Rattle.pl_capture.specs.Field.{number, field}
use Rattle.pl_capture.specs.Header.{header_of}
use Rattle.pl_capture.specs.Record.{captured, IsRecord, IsTail, IsTooLong}
use Rattle.pl_capture.specs.Capture.{AreRecords, BeginsWithRecords, IsCapture, IsCaptureRefused, reading_of}
use Rattle.pl_capture.specs.Spelling.{number_bytes, Heading, IsHeading, heading_bytes, Packet, IsWritablePacket, packet_bytes, file_bytes, end_of, records_of, frame_of, saved_bytes}
use Rattle.pl_capture.specs.declared.endianness.Endianness.{Endianness}
use Rattle.pl_capture.specs.declared.endianness.Endianness.TheVariants.{Little, Big}
use Rattle.pl_capture.specs.declared.records.Captured.{Captured}
use Rattle.pl_capture.specs.declared.error.CaptureError.TheVariants.{BadRecord}
use Rattle.pl_capture.proofs.Reading.{gives, IsCapture-reading}

-- The header.

abbrev heading : Endianness → ℕ → ℕ → ℕ → ℕ → Heading
heading order magic zone accuracy snapshot =
    record { order = order; magic = magic; zone = zone; accuracy = accuracy; snapshot = snapshot }

heading-length : (h : Heading) → length (heading_bytes h) ≡ 24
heading-length h = length_by h.order h.magic h.zone h.accuracy h.snapshot
  where
    length_by : (order : Endianness) (magic zone accuracy snapshot : ℕ) →
        length (heading_bytes (heading order magic zone accuracy snapshot)) ≡ 24
    length_by Little magic zone accuracy snapshot = refl
    length_by Big magic zone accuracy snapshot = refl

room : (h : Heading) (more : List ℕ) → nat_lt (length (heading_bytes h ++ more)) 24 ≡ false
room h more =
    le-ltb _ 24 (omega (arith, heading-length h, length-append (heading_bytes h) more))

-- both byte orders, and both kinds of time stamps
header_of-micros : (order : Endianness) (zone accuracy snapshot : ℕ) (more : List ℕ) →
    header_of (heading_bytes (heading order 0xa1b2c3d4 zone accuracy snapshot) ++ more) ≡ Ok (Some order)
unfolding header_of
header_of-micros Little zone accuracy snapshot more =
    rw (room (heading Little 0xa1b2c3d4 zone accuracy snapshot) more) refl
header_of-micros Big zone accuracy snapshot more =
    rw (room (heading Big 0xa1b2c3d4 zone accuracy snapshot) more) refl

header_of-nanos : (order : Endianness) (zone accuracy snapshot : ℕ) (more : List ℕ) →
    header_of (heading_bytes (heading order 0xa1b23c4d zone accuracy snapshot) ++ more) ≡ Ok (Some order)
unfolding header_of
header_of-nanos Little zone accuracy snapshot more =
    rw (room (heading Little 0xa1b23c4d zone accuracy snapshot) more) refl
header_of-nanos Big zone accuracy snapshot more =
    rw (room (heading Big 0xa1b23c4d zone accuracy snapshot) more) refl

header_of-heading : (h : Heading) (more : List ℕ) → IsHeading h →
    header_of (heading_bytes h ++ more) ≡ Ok (Some h.order)
header_of-heading h more (inl micros) =
    subst (λ (magic : ℕ). header_of (heading_bytes (heading h.order magic h.zone h.accuracy h.snapshot) ++ more) ≡ Ok (Some h.order))
    (sym micros) (header_of-micros h.order h.zone h.accuracy h.snapshot more)
header_of-heading h more (inr nanos) =
    subst (λ (magic : ℕ). header_of (heading_bytes (heading h.order magic h.zone h.accuracy h.snapshot) ++ more) ≡ Ok (Some h.order))
    (sym nanos) (header_of-nanos h.order h.zone h.accuracy h.snapshot more)

-- A record, by its offset in the packet's bytes.

packet-length : (order : Endianness) (p : Packet) →
    length (packet_bytes order p) ≡ 16 + length p.frame
packet-length Little p = omega arith
packet-length Big p = omega arith

packet-frame : (order : Endianness) (p : Packet) (rest : List ℕ) →
    drop 16 (packet_bytes order p ++ rest) ≡ p.frame ++ rest
packet-frame Little p rest = refl
packet-frame Big p rest = refl

packet-len : (order : Endianness) (p : Packet) (rest : List ℕ) → length p.frame ≤ 262144 →
    number order 4 (drop 8 (packet_bytes order p ++ rest)) ≡ length p.frame
packet-len Little p rest limit =
    little_number-reads_back 4 (length p.frame)
    (number_bytes Little 4 p.original ++ (p.frame ++ rest)) (omega arith)
packet-len Big p rest limit =
    big_number-reads_back 4 (length p.frame) (number_bytes Big 4 p.original ++ (p.frame ++ rest))
    (omega arith)

packet-original : (order : Endianness) (p : Packet) (rest : List ℕ) → p.original < 2 ^ 32 →
    number order 4 (drop 12 (packet_bytes order p ++ rest)) ≡ p.original
packet-original Little p rest fits = little_number-reads_back 4 p.original (p.frame ++ rest) fits
packet-original Big p rest fits = big_number-reads_back 4 p.original (p.frame ++ rest) fits

drop_behind : {A : Type 0} (front xs : List A) (at n : ℕ) → length front ≡ at →
    drop (at + n) (front ++ xs) ≡ drop n xs
drop_behind front xs at n is =
    subst (λ (i : ℕ). drop (i + n) (front ++ xs) ≡ drop n xs) is (drop-append-add front xs n)

-- the record of a packet that stands behind other bytes
abbrev record_as : ℕ → ℕ → ℕ → Captured
record_as at len original = record { at = at; start = at + 16; len = len; original = original }

packet-IsRecord : (file : List ℕ) (order : Endianness) (front : List ℕ) (at : ℕ) (p : Packet)
    (rest : List ℕ) → IsWritablePacket p → file ≡ front ++ (packet_bytes order p ++ rest) →
    length front ≡ at → IsRecord file order at (record_as at (length p.frame) p.original)
packet-IsRecord file order front at p rest fits is here =
    let bytes = packet_bytes order p ++ rest in
    let len : field file order (at + 8) 4 ≡ length p.frame =
    ap (λ (f : List ℕ). field f order (at + 8) 4) is
    ∙ ap (number order 4) (drop_behind front bytes at 8 here)
    ∙ packet-len order p rest fits.limit in
    let original : field file order (at + 12) 4 ≡ p.original =
    ap (λ (f : List ℕ). field f order (at + 12) 4) is
    ∙ ap (number order 4) (drop_behind front bytes at 12 here)
    ∙ packet-original order p rest fits.original in
    record {
      head = ap (λ (n : ℕ). record_as at n p.original) (sym len)
          ∙ ap (λ (n : ℕ). record_as at (field file order (at + 8) 4) n) (sym original);
      limit = fits.limit;
      whole =
          omega (arith, here, ap length is, length-append front bytes, length-append (packet_bytes order p) rest, packet-length order p);
    }

-- packets that stand one behind the other are records that follow one another
packets-AreRecords : (file : List ℕ) (order : Endianness) (front : List ℕ) (at : ℕ)
    (packets : List Packet) (rest : List ℕ) → AllByRecursion IsWritablePacket packets →
    file ≡ front ++ (flat_map (packet_bytes order) packets ++ rest) → length front ≡ at →
    AreRecords file order at (records_of at packets)
    (at + length (flat_map (packet_bytes order) packets))
packets-AreRecords file order front at [] rest fit is here = omega arith
packets-AreRecords file order front at (p ∷ ps) rest fit is here =
    let bytes = packet_bytes order p in
    let more = flat_map (packet_bytes order) ps in
    let split : file ≡ front ++ (bytes ++ (more ++ rest)) = is
    ∙ ap (λ (xs : List ℕ). front ++ xs) (append_assoc bytes more rest) in
    let next : file ≡ (front ++ bytes) ++ (more ++ rest) = split
    ∙ sym (append_assoc front bytes (more ++ rest)) in
    let behind_it : length (front ++ bytes) ≡ at + 16 + length p.frame =
    omega (arith, here, length-append front bytes, packet-length order p) in
    let end : at + 16 + length p.frame + length more ≡ at + length (bytes ++ more) =
    omega (arith, length-append bytes more, packet-length order p) in
    let others =
    packets-AreRecords file order (front ++ bytes)
    (at + 16 + length p.frame) ps rest fit.1 next behind_it in (
      packet-IsRecord file order front at p (more ++ rest) fit.0 split here,
      subst (AreRecords file order (at + 16 + length p.frame)
          (records_of (at + 16 + length p.frame) ps)) end others,
    )

-- what stands at the start of a rest stands at its offset in the file
captured-len : (file : List ℕ) (order : Endianness) (front rest : List ℕ) (at : ℕ) →
    file ≡ front ++ rest → length front ≡ at →
    (captured file order at).len ≡ (captured rest order 0).len
captured-len file order front rest at is here =
    ap (λ (f : List ℕ). field f order (at + 8) 4) is
    ∙ ap (number order 4) (drop_behind front rest at 8 here)

IsTail-behind : (file : List ℕ) (order : Endianness) (front rest : List ℕ) (at : ℕ) →
    file ≡ front ++ rest → length front ≡ at → IsTail rest order 0 → IsTail file order at
IsTail-behind file order front rest at is here (inl short) =
    inl (omega (arith, ap length is, length-append front rest))
IsTail-behind file order front rest at is here (inr cut) =
    let len = captured-len file order front rest at is here in
    inr (omega (arith, len, cut.0), omega (arith, len, cut.1, ap length is, length-append front rest))

IsTooLong-behind : (file : List ℕ) (order : Endianness) (front rest : List ℕ) (at : ℕ) →
    file ≡ front ++ rest → length front ≡ at → IsTooLong rest order 0 → IsTooLong file order at
IsTooLong-behind file order front rest at is here long =
    let len = captured-len file order front rest at is here in
    (omega (arith, long.0, ap length is, length-append front rest), omega (arith, len, long.1))

file-BeginsWithRecords : (h : Heading) (packets : List Packet) (rest : List ℕ) → IsHeading h →
    All IsWritablePacket packets →
    BeginsWithRecords (file_bytes h packets rest) h.order (records_of 24 packets) (end_of h packets)
file-BeginsWithRecords h packets rest kind fit = record {
  header = header_of-heading h (flat_map (packet_bytes h.order) packets ++ rest) kind;
  follow = packets-AreRecords (file_bytes h packets rest) h.order (heading_bytes h) 24 packets rest
      (recursion_from_All IsWritablePacket packets fit) refl (heading-length h);
}

-- the offset behind the packets
front-length : (h : Heading) (packets : List Packet) →
    length (heading_bytes h ++ flat_map (packet_bytes h.order) packets) ≡ end_of h packets
front-length h packets =
    omega (
      arith,
      heading-length h,
      length-append (heading_bytes h)
          (flat_map (packet_bytes h.order) packets),
    )

file-split : (h : Heading) (packets : List Packet) (rest : List ℕ) →
    file_bytes h packets rest ≡ (heading_bytes h ++ flat_map (packet_bytes h.order) packets) ++ rest
file-split h packets rest =
    sym (append_assoc (heading_bytes h) (flat_map (packet_bytes h.order) packets) rest)

-- packets, and less than a whole record, are a capture of these packets
pub file-IsCapture : (h : Heading) (packets : List Packet) (rest : List ℕ) → IsHeading h →
    All IsWritablePacket packets → IsTail rest h.order 0 →
    IsCapture (file_bytes h packets rest) (records_of 24 packets) (length rest)
unfolding IsCapture
file-IsCapture h packets rest kind fit tail =
    let file = file_bytes h packets rest in
    let front = heading_bytes h ++ flat_map (packet_bytes h.order) packets in
    let split = file-split h packets rest in
    let here = front-length h packets in
    inr (
      h.order,
      end_of h packets,
      file-BeginsWithRecords h packets rest kind fit,
      IsTail-behind file h.order front rest (end_of h packets) split here tail,
      omega (arith, here, ap length split, length-append front rest),
    )

-- packets, and a head with too large a captured length, are refused there
pub file-IsCaptureRefused : (h : Heading) (packets : List Packet) (rest : List ℕ) → IsHeading h →
    All IsWritablePacket packets → IsTooLong rest h.order 0 →
    IsCaptureRefused (file_bytes h packets rest) (BadRecord (end_of h packets))
unfolding IsCaptureRefused
file-IsCaptureRefused h packets rest kind fit long =
    let file = file_bytes h packets rest in
    let front = heading_bytes h ++ flat_map (packet_bytes h.order) packets in
    inr (
      h.order,
      records_of 24 packets,
      end_of h packets,
      file-BeginsWithRecords h packets rest kind fit,
      IsTooLong-behind file h.order front rest (end_of h packets) (file-split h packets rest)
          (front-length h packets) long,
      refl,
    )

-- the frames of the packets, in their records
packets-frames : (file : List ℕ) (order : Endianness) (front : List ℕ) (at : ℕ)
    (packets : List Packet) (rest : List ℕ) →
    file ≡ front ++ (flat_map (packet_bytes order) packets ++ rest) → length front ≡ at →
    map (frame_of file) (records_of at packets) ≡ map (λ p. p.frame) packets
packets-frames file order front at [] rest is here = refl
packets-frames file order front at (p ∷ ps) rest is here =
    let bytes = packet_bytes order p in
    let more = flat_map (packet_bytes order) ps in
    let split : file ≡ front ++ (bytes ++ (more ++ rest)) = is
    ∙ ap (λ (xs : List ℕ). front ++ xs) (append_assoc bytes more rest) in
    let next : file ≡ (front ++ bytes) ++ (more ++ rest) = split
    ∙ sym (append_assoc front bytes (more ++ rest)) in
    let behind_it : length (front ++ bytes) ≡ at + 16 + length p.frame =
    omega (arith, here, length-append front bytes, packet-length order p) in
    let frame : take (length p.frame) (drop (at + 16) file) ≡ p.frame =
    ap (λ (f : List ℕ). take (length p.frame) (drop (at + 16) f)) split
    ∙ ap (take (length p.frame)) (drop_behind front (bytes ++ (more ++ rest)) at 16 here
    ∙ packet-frame order p (more ++ rest))
    ∙ take-append_seam p.frame (more ++ rest) in
    let others =
    packets-frames file order (front ++ bytes)
    (at + 16 + length p.frame) ps rest next behind_it in
    ap (λ (f : List ℕ). f ∷ map (frame_of file) (records_of (at + 16 + length p.frame) ps)) frame
    ∙ ap (λ (fs : List (List ℕ)). p.frame ∷ fs) others

pub file-frames : (h : Heading) (packets : List Packet) (rest : List ℕ) →
    map (frame_of (file_bytes h packets rest)) (records_of 24 packets) ≡ map (λ p. p.frame) packets
file-frames h packets rest =
    packets-frames (file_bytes h packets rest) h.order (heading_bytes h) 24 packets rest refl (heading-length h)

-- A saved capture.

abbrev saved_heading : Heading
saved_heading = heading Little 0xa1b2c3d4 0 0 262144

saved-file : (packets : List Packet) → file_bytes saved_heading packets [] ≡ saved_bytes packets
saved-file packets =
    ap (λ (bytes : List ℕ). heading_bytes saved_heading ++ bytes)
    (append-nil (flat_map (packet_bytes Little) packets))

pub saved-reading : (packets : List Packet) → All IsWritablePacket packets →
    reading_of (saved_bytes packets) ≡ gives (records_of 24 packets) 0
saved-reading packets fit =
    ap reading_of (sym (saved-file packets))
    ∙ IsCapture-reading (file_bytes saved_heading packets [])
    (records_of 24 packets) 0 (file-IsCapture saved_heading packets []
    (inl refl) fit (inl (omega arith)))

pub saved-frames : (packets : List Packet) →
    map (frame_of (saved_bytes packets)) (records_of 24 packets) ≡ map (λ p. p.frame) packets
saved-frames packets =
    ap (λ (file : List ℕ). map (frame_of file) (records_of 24 packets)) (sym (saved-file packets))
    ∙ file-frames saved_heading packets []
