-- The fields of an Ethernet II frame as functions of its bytes (IEEE 802.3, clause 3).
use Rattle.std.specs.Prelude.{ℕ, List, ◌++◌, take, drop}
use Rattle.byteorder.specs.Endian.{big_number, big_bytes}
use Rattle.pl_frame.specs.declared.address.Mac.{Mac}
use Rattle.pl_frame.specs.declared.ethernet.FrameView.{FrameView}

-- the fields of a frame, wherever its payload lies
pub record Fields : Type 0 where
  pub dst : Mac
  pub src : Mac
  pub kind : ℕ
  pub payload : List ℕ

-- six bytes of destination
abbrev pub destination_of : List ℕ → Mac
destination_of bytes = record { 0 = take 6 bytes }

-- then six bytes of source
abbrev pub source_of : List ℕ → Mac
source_of bytes = record { 0 = take 6 (drop 6 bytes) }

-- then the type, the most significant byte first
abbrev pub kind_of : List ℕ → ℕ
kind_of bytes = big_number 2 (drop 12 bytes)

-- and then the payload
abbrev pub payload_of : List ℕ → List ℕ
payload_of bytes = drop 14 bytes

abbrev pub fields_of : List ℕ → Fields
fields_of bytes = record { dst = destination_of bytes; src = source_of bytes; kind = kind_of bytes; payload = payload_of bytes }

-- the bytes of a frame with these fields
abbrev pub frame_of : Fields → List ℕ
frame_of f = f.dst.0 ++ (f.src.0 ++ (big_bytes 2 f.kind ++ f.payload))

-- the fields that a view has
abbrev pub fields : FrameView → Fields
fields view = record { dst = view.dst; src = view.src; kind = view.kind; payload = view.payload.now }

-- the frame with this address as its destination, every other byte as it was
abbrev pub with_destination : List ℕ → Mac → List ℕ
with_destination bytes to = to.0 ++ drop 6 bytes

-- the frame with this address as its source, every other byte as it was
abbrev pub with_source : List ℕ → Mac → List ℕ
with_source bytes to = take 6 bytes ++ to.0 ++ drop 12 bytes
