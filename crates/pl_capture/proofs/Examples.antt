-- Worked examples, computed from the definitions.
use Rattle.std.proofs.Common.{length, ◌≡◌, ℕ, List, [], ◌∷◌, ◌++◌, Ok, Err, refl}
use Rattle.pl_capture.specs.Header.{header_of}
use Rattle.pl_capture.specs.Record.{record_in}
use Rattle.pl_capture.specs.Capture.{reading_from, reading_of}
use Rattle.pl_capture.specs.Spelling.{packet_bytes, saved_header, saved_head, saved_packet}
use Rattle.pl_capture.specs.declared.endianness.Endianness.TheVariants.{Little}
use Rattle.pl_capture.specs.declared.error.CaptureError.TheVariants.{BadMagic, BadVersion, BadLink, BadRecord}

-- a header: little-endian, microseconds
abbrev little : List ℕ
little =
    0xd4 ∷ 0xc3 ∷ 0xb2 ∷ 0xa1 ∷ 2 ∷ 0 ∷ 4 ∷ 0 ∷ 0 ∷ 0 ∷ 0 ∷ 0 ∷ 0 ∷ 0 ∷ 0 ∷ 0 ∷ 0 ∷ 0 ∷ 4 ∷ 0 ∷ 1
    ∷ 0 ∷ 0 ∷ 0 ∷ []

-- a header: big-endian, nanoseconds
abbrev big : List ℕ
big =
    0xa1 ∷ 0xb2 ∷ 0x3c ∷ 0x4d ∷ 0 ∷ 2 ∷ 0 ∷ 4 ∷ 0 ∷ 0 ∷ 0 ∷ 0 ∷ 0 ∷ 0 ∷ 0 ∷ 0 ∷ 0 ∷ 4 ∷ 0 ∷ 0 ∷ 0
    ∷ 0 ∷ 0 ∷ 1 ∷ []

saved_header-bytes : saved_header ≡ little
saved_header-bytes = refl

saved_head-bytes : saved_head 4 0 60 ≡ 4 ∷ 0 ∷ 0 ∷ 0 ∷ 0 ∷ 0 ∷ 0 ∷ 0 ∷ 0x3c ∷ 0 ∷ 0 ∷ 0 ∷ 0x3c ∷ 0
    ∷ 0 ∷ 0 ∷ []
saved_head-bytes = refl

-- a saved record is its head and its frame
saved_packet-bytes : (seconds micros : ℕ) (frame : List ℕ) →
    packet_bytes Little (saved_packet seconds micros frame) ≡ saved_head seconds micros (length frame) ++ frame
saved_packet-bytes seconds micros frame = refl

-- two bytes of 60 were captured, and three bytes are left
record_and_tail : reading_of (little ++ 9 ∷ 9 ∷ 9 ∷ 9 ∷ 8 ∷ 8 ∷ 8 ∷ 8 ∷ 2 ∷ 0 ∷ 0 ∷ 0 ∷ 0x3c ∷ 0
    ∷ 0 ∷ 0 ∷ 0xaa ∷ 0xbb ∷ 1 ∷ 2 ∷ 3 ∷ []) ≡ Ok (record { at = 24; start = 40; len = 2; original = 60 } ∷ [], 3)
unfolding reading_of reading_from header_of record_in
record_and_tail = refl

big_record_and_tail : reading_of (big ++ 9 ∷ 9 ∷ 9 ∷ 9 ∷ 8 ∷ 8 ∷ 8 ∷ 8 ∷ 0 ∷ 0 ∷ 0 ∷ 2 ∷ 0 ∷ 0 ∷ 0
    ∷ 0x3c ∷ 0xaa ∷ 0xbb ∷ 1 ∷ 2 ∷ 3 ∷ []) ≡ Ok (record { at = 24; start = 40; len = 2; original = 60 } ∷ [], 3)
unfolding reading_of reading_from header_of record_in
big_record_and_tail = refl

no_header : reading_of (1 ∷ 2 ∷ 3 ∷ []) ≡ Ok ([], 3)
unfolding reading_of reading_from header_of record_in
no_header = refl

no_record : reading_of little ≡ Ok ([], 0)
unfolding reading_of reading_from header_of record_in
no_record = refl

-- the magic number, the version and the link type of this one are wrong
bad_magic : reading_of (0xd5 ∷ 0xc3 ∷ 0xb2 ∷ 0xa1 ∷ 3 ∷ 0 ∷ 4 ∷ 0 ∷ 0 ∷ 0 ∷ 0 ∷ 0 ∷ 0 ∷ 0 ∷ 0 ∷ 0
    ∷ 0 ∷ 0 ∷ 4 ∷ 0 ∷ 2 ∷ 0 ∷ 0 ∷ 0 ∷ []) ≡ Err BadMagic
unfolding reading_of reading_from header_of record_in
bad_magic = refl

bad_version : reading_of (0xd4 ∷ 0xc3 ∷ 0xb2 ∷ 0xa1 ∷ 3 ∷ 0 ∷ 4 ∷ 0 ∷ 0 ∷ 0 ∷ 0 ∷ 0 ∷ 0 ∷ 0 ∷ 0
    ∷ 0 ∷ 0 ∷ 0 ∷ 4 ∷ 0 ∷ 2 ∷ 0 ∷ 0 ∷ 0 ∷ []) ≡ Err BadVersion
unfolding reading_of reading_from header_of record_in
bad_version = refl

bad_link : reading_of (0xd4 ∷ 0xc3 ∷ 0xb2 ∷ 0xa1 ∷ 2 ∷ 0 ∷ 4 ∷ 0 ∷ 0 ∷ 0 ∷ 0 ∷ 0 ∷ 0 ∷ 0 ∷ 0 ∷ 0
    ∷ 0 ∷ 0 ∷ 4 ∷ 0 ∷ 1 ∷ 0 ∷ 0 ∷ 0x30 ∷ []) ≡ Err BadLink
unfolding reading_of reading_from header_of record_in
bad_link = refl

-- 262,145 is too long, however many bytes are there
bad_record : reading_of (little ++ 0 ∷ 0 ∷ 0 ∷ 0 ∷ 0 ∷ 0 ∷ 0 ∷ 0 ∷ 1 ∷ 0 ∷ 4 ∷ 0 ∷ 0x3c ∷ 0 ∷ 0
    ∷ 0 ∷ []) ≡ Err (BadRecord 24)
unfolding reading_of reading_from header_of record_in
bad_record = refl

-- with 262,144 and no byte of the frame the head is tail
cut_record : reading_of (little ++ 0 ∷ 0 ∷ 0 ∷ 0 ∷ 0 ∷ 0 ∷ 0 ∷ 0 ∷ 0 ∷ 0 ∷ 4 ∷ 0 ∷ 0x3c ∷ 0 ∷ 0
    ∷ 0 ∷ []) ≡ Ok ([], 16)
unfolding reading_of reading_from header_of record_in
cut_record = refl
