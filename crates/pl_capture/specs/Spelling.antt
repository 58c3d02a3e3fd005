-- A capture as its writer spells it, in either byte order.
use Rattle.std.specs.Prelude.{◌≡◌, ℕ, ◌+◌, ◌^◌, ◌<◌, ◌≤◌, ◌⊎◌, List, [], ◌∷◌, ◌++◌, length, take, drop}
use Rattle.std.specs.List.{flat_map}
use Rattle.byteorder.specs.Endian.{little_bytes, big_bytes}
use Rattle.pl_capture.specs.declared.endianness.Endianness.{Endianness}
use Rattle.pl_capture.specs.declared.endianness.Endianness.TheVariants.{Little, Big}
use Rattle.pl_capture.specs.declared.records.Captured.{Captured}

-- the n bytes of a number
abbrev pub number_bytes : Endianness → ℕ → ℕ → List ℕ
number_bytes Little n x = little_bytes n x
number_bytes Big n x = big_bytes n x

-- what the writer of a file header chooses
pub record Heading : Type 0 where
  pub order : Endianness
  pub magic : ℕ
  pub zone : ℕ
  pub accuracy : ℕ
  pub snapshot : ℕ

-- the time stamps are of microseconds, or of nanoseconds
abbrev pub IsHeading : Heading → Type 0
IsHeading h = (h.magic ≡ 0xa1b2c3d4) ⊎ (h.magic ≡ 0xa1b23c4d)

-- the file header: besides what was chosen, version 2.4 and link type 1
abbrev pub heading_bytes : Heading → List ℕ
heading_bytes h =
    number_bytes h.order 4 h.magic ++ number_bytes h.order 2 2 ++ number_bytes h.order 2 4
    ++ number_bytes h.order 4 h.zone ++ number_bytes h.order 4 h.accuracy
    ++ number_bytes h.order 4 h.snapshot ++ number_bytes h.order 4 1

-- a frame, with its time stamp and its original length
pub record Packet : Type 0 where
  pub seconds : ℕ
  pub fraction : ℕ
  pub original : ℕ
  pub frame : List ℕ

-- a record can hold it
pub record IsWritablePacket (p : Packet) : Type 0 where
  pub limit : length p.frame ≤ 262144
  pub original : p.original < 2 ^ 32

-- a record's head: time stamp, captured length, original length
abbrev pub head_bytes : Endianness → ℕ → ℕ → ℕ → ℕ → List ℕ
head_bytes order seconds fraction len original =
    number_bytes order 4 seconds ++ number_bytes order 4 fraction ++ number_bytes order 4 len
    ++ number_bytes order 4 original

-- a record: its head, and its frame
abbrev pub packet_bytes : Endianness → Packet → List ℕ
packet_bytes order p = head_bytes order p.seconds p.fraction (length p.frame) p.original ++ p.frame

-- a file: its header, its packets, and a rest
abbrev pub file_bytes : Heading → List Packet → List ℕ → List ℕ
file_bytes h packets rest = heading_bytes h ++ (flat_map (packet_bytes h.order) packets ++ rest)

-- the offset of the rest
abbrev pub end_of : Heading → List Packet → ℕ
end_of h packets = 24 + length (flat_map (packet_bytes h.order) packets)

-- the records in which packets stand, the first at an offset
abbrev pub records_of : ℕ → List Packet → List Captured
records_of at [] = []
records_of at (p ∷ ps) =
    record { at = at; start = at + 16; len = length p.frame; original = p.original }
    ∷ records_of (at + 16 + length p.frame) ps

-- the frame of a record
abbrev pub frame_of : List ℕ → Captured → List ℕ
frame_of file c = take c.len (drop c.start file)

-- the header of a saved capture: little-endian, microseconds, snapshot length 262,144
abbrev pub saved_header : List ℕ
saved_header =
    heading_bytes (record {
      order = Little;
      magic = 0xa1b2c3d4;
      zone = 0;
      accuracy = 0;
      snapshot = 262144;
    })

-- the head of a saved record, whose frame was captured whole
abbrev pub saved_head : ℕ → ℕ → ℕ → List ℕ
saved_head seconds micros len = head_bytes Little seconds micros len len

-- a frame that is saved whole
abbrev pub saved_packet : ℕ → ℕ → List ℕ → Packet
saved_packet seconds micros frame =
    record { seconds = seconds; fraction = micros; original = length frame; frame = frame }

-- a saved capture
abbrev pub saved_bytes : List Packet → List ℕ
saved_bytes packets = saved_header ++ flat_map (packet_bytes Little) packets
