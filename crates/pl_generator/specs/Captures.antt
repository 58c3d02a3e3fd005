-- The captures of hosts: the frames that each of them sends.
use Rattle.std.specs.Prelude.{◌≡◌, ℕ, ◌<◌, ◌==◌, Bool, List, [], ◌∷◌, ◌++◌, map, length, replicate, slice_index_or, slice_set, refl}
use Rattle.std.specs.List.{filter}
use Rattle.byteorder.specs.Endian.{big_bytes}
use Rattle.pl_capture.specs.declared.endianness.Endianness.TheVariants.{Little}
use Rattle.pl_capture.specs.Spelling.{Packet, packet_bytes, saved_bytes, saved_header, saved_packet}
use Rattle.pl_generator.specs.declared.drawing.DrawnFrame.{DrawnFrame}
use Rattle.pl_generator.specs.Hosts.{host_count, mac_of}
use Rattle.pl_generator.specs.Drawing.{frames_of}

-- 60 bytes: destination, source, a type for local experiments (IEEE 802), the frame's number, and zeros
unfoldable pub frame_bytes : DrawnFrame → List ℕ
frame_bytes frame =
    (mac_of frame.destination).0 ++ (mac_of frame.source).0 ++ big_bytes 2 0x88b6 ++ big_bytes 4 frame.number ++ replicate 42 0

-- its time stamp is its number, in seconds
abbrev pub packet_of : DrawnFrame → Packet
packet_of frame = saved_packet frame.number 0 (frame_bytes frame)

abbrev pub is_from : ℕ → DrawnFrame → Bool
is_from host frame = frame.source == host

-- the capture of a host: those of the frames that it sends
abbrev pub capture_of : ℕ → List DrawnFrame → List ℕ
capture_of host frames = saved_bytes (map packet_of (filter (is_from host) frames))

-- a capture for each of so many hosts, in order
pub record AreDrawnCaptures (hosts : ℕ) (frames : List DrawnFrame) (captures : List (List ℕ)) : Type 0 where
  pub count : length captures ≡ hosts
  pub each : (host : ℕ) → host < hosts → slice_index_or captures host [] ≡ capture_of host frames

-- captures with one more record, at the source of a frame
abbrev pub with_packet : List (List ℕ) → DrawnFrame → List (List ℕ)
with_packet captures frame =
    slice_set captures frame.source (slice_index_or captures frame.source [] ++ packet_bytes Little (packet_of frame))

unfoldable pub capture_text : ℕ → ℕ → ℕ → ℕ → List ℕ
capture_text k number frames host = capture_of host (frames_of (host_count k) number frames)

sixty_bytes : length (frame_bytes (record { source = 3; destination = 258; number = 66051 })) ≡ 60
unfolding frame_bytes
sixty_bytes = refl

one_frame : frame_bytes (record { source = 3; destination = 258; number = 66051 }) ≡
    2 ∷ 0 ∷ 0 ∷ 0 ∷ 1 ∷ 2 ∷ 2 ∷ 0 ∷ 0 ∷ 0 ∷ 0 ∷ 3 ∷ 0x88 ∷ 0xb6 ∷ 0 ∷ 1 ∷ 2 ∷ 3 ∷ replicate 42 0
unfolding frame_bytes
one_frame = refl

-- of two frames that are drawn from 1 at k = 4, one is from host 9
capture_of_one : length (capture_text 4 1 2 9) ≡ 100
unfolding capture_text frames_of frame_bytes
capture_of_one = refl

-- and none from host 11
capture_of_none : capture_text 4 1 2 11 ≡ saved_header
unfolding capture_text frames_of
capture_of_none = refl
