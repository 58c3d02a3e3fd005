-- Worked examples, computed from the definitions.
use Rattle.std.proofs.Common.{◌≡◌, ℕ, zero, suc, List, [], ◌∷◌, ◌++◌, take, Ok, Err, refl}
use Rattle.pl_pcapng.specs.Reading.{head_in, block_of, block_in}
use Rattle.pl_pcapng.specs.Sections.{reading_from, reading_of}
use Rattle.pl_pcapng.specs.declared.error.BlockError.TheVariants.{BadMagic, BadBlock, BadTrailer, BadVersion, BadInterface, BadRecord}

abbrev zeros : ℕ → List ℕ
zeros zero = []
zeros (suc n) = 0 ∷ zeros n

-- 60 bytes
abbrev frame : List ℕ
frame = 2 ∷ 0 ∷ 0 ∷ 0 ∷ 0 ∷ 0xb ∷ 2 ∷ 0 ∷ 0 ∷ 0 ∷ 0 ∷ 0xa ∷ 0x88 ∷ 0xb6 ∷ zeros 46

-- a section header: little-endian, version 1.0, no section length
abbrev little_section : List ℕ
little_section =
    0xa ∷ 0xd ∷ 0xd ∷ 0xa ∷ 0x1c ∷ 0 ∷ 0 ∷ 0 ∷ 0x4d ∷ 0x3c ∷ 0x2b ∷ 0x1a ∷ 1 ∷ 0 ∷ 0 ∷ 0 ∷ 0xff ∷ 0xff ∷ 0xff ∷ 0xff ∷ 0xff ∷ 0xff ∷ 0xff ∷
    0xff ∷ 0x1c ∷ 0 ∷ 0 ∷ 0 ∷ []

-- the same, big-endian
abbrev big_section : List ℕ
big_section =
    0xa ∷ 0xd ∷ 0xd ∷ 0xa ∷ 0 ∷ 0 ∷ 0 ∷ 0x1c ∷ 0x1a ∷ 0x2b ∷ 0x3c ∷ 0x4d ∷ 0 ∷ 1 ∷ 0 ∷ 0 ∷ 0xff ∷ 0xff ∷ 0xff ∷ 0xff ∷ 0xff ∷ 0xff ∷ 0xff ∷
    0xff ∷ 0 ∷ 0 ∷ 0 ∷ 0x1c ∷ []

-- an interface of Ethernet, snapshot length 262,144
abbrev ethernet : List ℕ
ethernet =
    1 ∷ 0 ∷ 0 ∷ 0 ∷ 0x14 ∷ 0 ∷ 0 ∷ 0 ∷ 1 ∷ 0 ∷ 0 ∷ 0 ∷ 0 ∷ 0 ∷ 4 ∷ 0 ∷ 0x14 ∷ 0 ∷ 0 ∷ 0 ∷ []

abbrev big_ethernet : List ℕ
big_ethernet =
    0 ∷ 0 ∷ 0 ∷ 1 ∷ 0 ∷ 0 ∷ 0 ∷ 0x14 ∷ 0 ∷ 1 ∷ 0 ∷ 0 ∷ 0 ∷ 4 ∷ 0 ∷ 0 ∷ 0 ∷ 0 ∷ 0 ∷ 0x14 ∷ []

-- an interface of another link type
abbrev radio : List ℕ
radio =
    1 ∷ 0 ∷ 0 ∷ 0 ∷ 0x14 ∷ 0 ∷ 0 ∷ 0 ∷ 0x71 ∷ 0 ∷ 0 ∷ 0 ∷ 0 ∷ 0 ∷ 4 ∷ 0 ∷ 0x14 ∷ 0 ∷ 0 ∷ 0 ∷ []

-- an interface of Ethernet, snapshot length 60
abbrev cut_at_60 : List ℕ
cut_at_60 =
    1 ∷ 0 ∷ 0 ∷ 0 ∷ 0x14 ∷ 0 ∷ 0 ∷ 0 ∷ 1 ∷ 0 ∷ 0 ∷ 0 ∷ 0x3c ∷ 0 ∷ 0 ∷ 0 ∷ 0x14 ∷ 0 ∷ 0 ∷ 0 ∷ []

-- an enhanced packet of interface 0: 60 bytes of 60
abbrev packet : List ℕ
packet =
    6 ∷ 0 ∷ 0 ∷ 0 ∷ 0x5c ∷ 0 ∷ 0 ∷ 0 ∷ 0 ∷ 0 ∷ 0 ∷ 0 ∷ 0 ∷ 0 ∷ 0 ∷ 0 ∷ 0 ∷ 0 ∷ 0 ∷ 0 ∷ 0x3c ∷ 0 ∷ 0 ∷ 0 ∷ 0x3c ∷ 0 ∷ 0 ∷ 0 ∷ []
    ++ frame ++ 0x5c ∷ 0 ∷ 0 ∷ 0 ∷ []

-- the same of interface 1
abbrev packet_of_one : List ℕ
packet_of_one =
    6 ∷ 0 ∷ 0 ∷ 0 ∷ 0x5c ∷ 0 ∷ 0 ∷ 0 ∷ 1 ∷ 0 ∷ 0 ∷ 0 ∷ 0 ∷ 0 ∷ 0 ∷ 0 ∷ 0 ∷ 0 ∷ 0 ∷ 0 ∷ 0x3c ∷ 0 ∷ 0 ∷ 0 ∷ 0x3c ∷ 0 ∷ 0 ∷ 0 ∷ []
    ++ frame ++ 0x5c ∷ 0 ∷ 0 ∷ 0 ∷ []

abbrev big_packet : List ℕ
big_packet =
    0 ∷ 0 ∷ 0 ∷ 6 ∷ 0 ∷ 0 ∷ 0 ∷ 0x5c ∷ 0 ∷ 0 ∷ 0 ∷ 0 ∷ 0 ∷ 0 ∷ 0 ∷ 0 ∷ 0 ∷ 0 ∷ 0 ∷ 0 ∷ 0 ∷ 0 ∷ 0 ∷ 0x3c ∷ 0 ∷ 0 ∷ 0 ∷ 0x3c ∷ []
    ++ frame ++ 0 ∷ 0 ∷ 0 ∷ 0x5c ∷ []

-- 59 bytes of 59, padded
abbrev odd_packet : List ℕ
odd_packet =
    6 ∷ 0 ∷ 0 ∷ 0 ∷ 0x5c ∷ 0 ∷ 0 ∷ 0 ∷ 0 ∷ 0 ∷ 0 ∷ 0 ∷ 0 ∷ 0 ∷ 0 ∷ 0 ∷ 0 ∷ 0 ∷ 0 ∷ 0 ∷ 0x3b ∷ 0 ∷ 0 ∷ 0 ∷ 0x3b ∷ 0 ∷ 0 ∷ 0 ∷ []
    ++ frame ++ 0x5c ∷ 0 ∷ 0 ∷ 0 ∷ []

-- 60 bytes, and a comment
abbrev packet_with_comment : List ℕ
packet_with_comment =
    6 ∷ 0 ∷ 0 ∷ 0 ∷ 0x68 ∷ 0 ∷ 0 ∷ 0 ∷ 0 ∷ 0 ∷ 0 ∷ 0 ∷ 0 ∷ 0 ∷ 0 ∷ 0 ∷ 0 ∷ 0 ∷ 0 ∷ 0 ∷ 0x3c ∷ 0 ∷ 0 ∷ 0 ∷ 0x3c ∷ 0 ∷ 0 ∷ 0 ∷ []
    ++ frame ++ 1 ∷ 0 ∷ 4 ∷ 0 ∷ 0x6e ∷ 0x6f ∷ 0x74 ∷ 0x65 ∷ 0 ∷ 0 ∷ 0 ∷ 0 ∷ 0x68 ∷ 0 ∷ 0 ∷ 0 ∷ []

-- a simple packet of 60 bytes
abbrev simple : List ℕ
simple =
    3 ∷ 0 ∷ 0 ∷ 0 ∷ 0x4c ∷ 0 ∷ 0 ∷ 0 ∷ 0x3c ∷ 0 ∷ 0 ∷ 0 ∷ []
    ++ frame ++ 0x4c ∷ 0 ∷ 0 ∷ 0 ∷ []

-- a simple packet of 90 bytes, of which 60 are there
abbrev simple_of_90 : List ℕ
simple_of_90 =
    3 ∷ 0 ∷ 0 ∷ 0 ∷ 0x4c ∷ 0 ∷ 0 ∷ 0 ∷ 0x5a ∷ 0 ∷ 0 ∷ 0 ∷ []
    ++ frame ++ 0x4c ∷ 0 ∷ 0 ∷ 0 ∷ []

-- interface statistics
abbrev statistics : List ℕ
statistics =
    5 ∷ 0 ∷ 0 ∷ 0 ∷ 0x20 ∷ 0 ∷ 0 ∷ 0 ∷ 0 ∷ 0 ∷ 0 ∷ 0 ∷ 0 ∷ 0 ∷ 0 ∷ 0 ∷ 0 ∷ 0 ∷ 0 ∷ 0 ∷ 0 ∷ 0 ∷ 0 ∷ 0 ∷ 0 ∷ 0 ∷ 0 ∷ 0 ∷ 0x20 ∷ 0 ∷ 0 ∷ 0 ∷ []

-- name resolution
abbrev names : List ℕ
names =
    4 ∷ 0 ∷ 0 ∷ 0 ∷ 0x14 ∷ 0 ∷ 0 ∷ 0 ∷ 0 ∷ 0 ∷ 0 ∷ 0 ∷ 0 ∷ 0 ∷ 0 ∷ 0 ∷ 0x14 ∷ 0 ∷ 0 ∷ 0 ∷ []

-- the obsolete packet block
abbrev obsolete_packet : List ℕ
obsolete_packet =
    2 ∷ 0 ∷ 0 ∷ 0 ∷ 0x2c ∷ 0 ∷ 0 ∷ 0 ∷ 0 ∷ 0 ∷ 0 ∷ 0 ∷ 0 ∷ 0 ∷ 0 ∷ 0 ∷ 0 ∷ 0 ∷ 0 ∷ 0 ∷ 0 ∷ 0 ∷ 0 ∷ 0 ∷ 0 ∷ 0 ∷ 0 ∷ 0 ∷ 0 ∷ 0 ∷ 0 ∷ 0 ∷ 0 ∷
    0 ∷ 0 ∷ 0 ∷ 0 ∷ 0 ∷ 0 ∷ 0 ∷ 0x2c ∷ 0 ∷ 0 ∷ 0 ∷ []

-- a type of no standard
abbrev custom : List ℕ
custom =
    1 ∷ 0 ∷ 0 ∷ 0x80 ∷ 0x10 ∷ 0 ∷ 0 ∷ 0 ∷ 0 ∷ 0 ∷ 0 ∷ 0 ∷ 0x10 ∷ 0 ∷ 0 ∷ 0 ∷ []

-- a section header with another magic number
abbrev other_magic : List ℕ
other_magic =
    0xa ∷ 0xd ∷ 0xd ∷ 0xa ∷ 0x1c ∷ 0 ∷ 0 ∷ 0 ∷ 0x4e ∷ 0x3c ∷ 0x2b ∷ 0x1a ∷ 1 ∷ 0 ∷ 0 ∷ 0 ∷ 0xff ∷ 0xff ∷ 0xff ∷ 0xff ∷ 0xff ∷ 0xff ∷ 0xff ∷
    0xff ∷ 0x1c ∷ 0 ∷ 0 ∷ 0 ∷ []

-- version 2.0
abbrev version_2 : List ℕ
version_2 =
    0xa ∷ 0xd ∷ 0xd ∷ 0xa ∷ 0x1c ∷ 0 ∷ 0 ∷ 0 ∷ 0x4d ∷ 0x3c ∷ 0x2b ∷ 0x1a ∷ 2 ∷ 0 ∷ 0 ∷ 0 ∷ 0xff ∷ 0xff ∷ 0xff ∷ 0xff ∷ 0xff ∷ 0xff ∷ 0xff ∷
    0xff ∷ 0x1c ∷ 0 ∷ 0 ∷ 0 ∷ []

-- statistics whose total length is 17
abbrev odd_total : List ℕ
odd_total =
    5 ∷ 0 ∷ 0 ∷ 0 ∷ 0x11 ∷ 0 ∷ 0 ∷ 0 ∷ 0 ∷ 0 ∷ 0 ∷ 0 ∷ 0 ∷ 0x11 ∷ 0 ∷ 0 ∷ 0 ∷ []

-- an interface whose total length is 16
abbrev small_interface : List ℕ
small_interface =
    1 ∷ 0 ∷ 0 ∷ 0 ∷ 0x10 ∷ 0 ∷ 0 ∷ 0 ∷ 0 ∷ 0 ∷ 0 ∷ 0 ∷ 0x10 ∷ 0 ∷ 0 ∷ 0 ∷ []

-- a packet of 32 bytes that ends in a total length of 28
abbrev other_trailer : List ℕ
other_trailer =
    6 ∷ 0 ∷ 0 ∷ 0 ∷ 0x20 ∷ 0 ∷ 0 ∷ 0 ∷ 0 ∷ 0 ∷ 0 ∷ 0 ∷ 0 ∷ 0 ∷ 0 ∷ 0 ∷ 0 ∷ 0 ∷ 0 ∷ 0 ∷ 0 ∷ 0 ∷ 0 ∷ 0 ∷ 0 ∷ 0 ∷ 0 ∷ 0 ∷ 0x1c ∷ 0 ∷ 0 ∷ 0 ∷ []

-- 262,145 bytes
abbrev long_packet : List ℕ
long_packet =
    6 ∷ 0 ∷ 0 ∷ 0 ∷ 0x28 ∷ 0 ∷ 0 ∷ 0 ∷ 0 ∷ 0 ∷ 0 ∷ 0 ∷ 0 ∷ 0 ∷ 0 ∷ 0 ∷ 0 ∷ 0 ∷ 0 ∷ 0 ∷ 1 ∷ 0 ∷ 4 ∷ 0 ∷ 1 ∷ 0 ∷ 4 ∷ 0 ∷ 0 ∷ 0 ∷ 0 ∷ 0 ∷ 0 ∷
    0 ∷ 0 ∷ 0 ∷ 0x28 ∷ 0 ∷ 0 ∷ 0 ∷ []

-- 40 bytes in a block that has room for 8
abbrev wide_packet : List ℕ
wide_packet =
    6 ∷ 0 ∷ 0 ∷ 0 ∷ 0x28 ∷ 0 ∷ 0 ∷ 0 ∷ 0 ∷ 0 ∷ 0 ∷ 0 ∷ 0 ∷ 0 ∷ 0 ∷ 0 ∷ 0 ∷ 0 ∷ 0 ∷ 0 ∷ 0x28 ∷ 0 ∷ 0 ∷ 0 ∷ 0x28 ∷ 0 ∷ 0 ∷ 0 ∷ 0 ∷ 0 ∷ 0 ∷
    0 ∷ 0 ∷ 0 ∷ 0 ∷ 0 ∷ 0x28 ∷ 0 ∷ 0 ∷ 0 ∷ []

one_packet :
    reading_of (little_section ++ ethernet ++ packet)
    ≡ Ok (record { at = 48; start = 76; len = 60; original = 60 } ∷ [], 0)
unfolding reading_of reading_from block_in head_in block_of
one_packet = refl

big_endian :
    reading_of (big_section ++ big_ethernet ++ big_packet)
    ≡ Ok (record { at = 48; start = 76; len = 60; original = 60 } ∷ [], 0)
unfolding reading_of reading_from block_in head_in block_of
big_endian = refl

-- padding is no part of the frame
odd_length :
    reading_of (little_section ++ ethernet ++ odd_packet)
    ≡ Ok (record { at = 48; start = 76; len = 59; original = 59 } ∷ [], 0)
unfolding reading_of reading_from block_in head_in block_of
odd_length = refl

options :
    reading_of (little_section ++ ethernet ++ packet_with_comment)
    ≡ Ok (record { at = 48; start = 76; len = 60; original = 60 } ∷ [], 0)
unfolding reading_of reading_from block_in head_in block_of
options = refl

-- each section has its own byte order and its own interfaces
two_sections :
    reading_of (little_section ++ ethernet ++ packet ++ big_section ++ big_ethernet ++ big_packet)
    ≡ Ok (record { at = 48; start = 76; len = 60; original = 60 } ∷ record { at = 188; start = 216; len = 60; original = 60 } ∷ [], 0)
unfolding reading_of reading_from block_in head_in block_of
two_sections = refl

-- packets of the interface of another link type are passed over
other_link_type :
    reading_of (little_section ++ radio ++ ethernet ++ packet ++ packet_of_one)
    ≡ Ok (record { at = 160; start = 188; len = 60; original = 60 } ∷ [], 0)
unfolding reading_of reading_from block_in head_in block_of
other_link_type = refl

simple_packet :
    reading_of (little_section ++ ethernet ++ simple)
    ≡ Ok (record { at = 48; start = 60; len = 60; original = 60 } ∷ [], 0)
unfolding reading_of reading_from block_in head_in block_of
simple_packet = refl

simple_packet_cut :
    reading_of (little_section ++ cut_at_60 ++ simple ++ simple_of_90)
    ≡ Ok (record { at = 48; start = 60; len = 60; original = 60 } ∷ record { at = 124; start = 136; len = 60; original = 90 } ∷ [], 0)
unfolding reading_of reading_from block_in head_in block_of
simple_packet_cut = refl

unknown_blocks :
    reading_of (little_section ++ statistics ++ ethernet ++ names ++ packet ++ obsolete_packet ++ custom)
    ≡ Ok (record { at = 100; start = 128; len = 60; original = 60 } ∷ [], 0)
unfolding reading_of reading_from block_in head_in block_of
unknown_blocks = refl

tail :
    reading_of (little_section ++ ethernet ++ packet ++ 6 ∷ 0 ∷ 0 ∷ [])
    ≡ Ok (record { at = 48; start = 76; len = 60; original = 60 } ∷ [], 3)
unfolding reading_of reading_from block_in head_in block_of
tail = refl

cut_packet :
    reading_of (little_section ++ ethernet ++ packet ++ take 50 packet)
    ≡ Ok (record { at = 48; start = 76; len = 60; original = 60 } ∷ [], 50)
unfolding reading_of reading_from block_in head_in block_of
cut_packet = refl

-- 9 bytes of a section header do not tell its byte order
cut_section :
    reading_of (little_section ++ ethernet ++ packet ++ take 9 big_section)
    ≡ Ok (record { at = 48; start = 76; len = 60; original = 60 } ∷ [], 9)
unfolding reading_of reading_from block_in head_in block_of
cut_section = refl

four_bytes :
    reading_of (take 4 little_section)
    ≡ Ok ([], 4)
unfolding reading_of reading_from block_in head_in block_of
four_bytes = refl

-- the refusals, in the order of the table
bad_magic :
    reading_of (other_magic ++ ethernet)
    ≡ Err (BadMagic 0)
unfolding reading_of reading_from block_in head_in block_of
bad_magic = refl

-- no multiple of 4
bad_length :
    reading_of (little_section ++ ethernet ++ odd_total)
    ≡ Err (BadBlock 48)
unfolding reading_of reading_from block_in head_in block_of
bad_length = refl

small_length :
    reading_of (little_section ++ small_interface)
    ≡ Err (BadBlock 28)
unfolding reading_of reading_from block_in head_in block_of
small_length = refl

bad_trailer :
    reading_of (little_section ++ ethernet ++ other_trailer)
    ≡ Err (BadTrailer 48)
unfolding reading_of reading_from block_in head_in block_of
bad_trailer = refl

bad_version :
    reading_of (version_2 ++ ethernet)
    ≡ Err (BadVersion 0)
unfolding reading_of reading_from block_in head_in block_of
bad_version = refl

-- the second section has no interface
bad_interface :
    reading_of (little_section ++ ethernet ++ packet ++ big_section ++ big_packet)
    ≡ Err (BadInterface 168)
unfolding reading_of reading_from block_in head_in block_of
bad_interface = refl

bad_record :
    reading_of (little_section ++ ethernet ++ long_packet)
    ≡ Err (BadRecord 48)
unfolding reading_of reading_from block_in head_in block_of
bad_record = refl

beyond_the_block :
    reading_of (little_section ++ ethernet ++ wide_packet)
    ≡ Err (BadBlock 48)
unfolding reading_of reading_from block_in head_in block_of
beyond_the_block = refl
