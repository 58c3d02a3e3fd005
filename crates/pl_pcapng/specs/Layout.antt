-- A block of the pcapng format, by offset from its first byte: type 0, total length 4, body 8; its last four bytes are the total length
-- again. Numbers have the byte order of the block's section.
--
-- The bodies, by offset from the block's first byte:
--   section header: magic number 8, major version 12, minor version 14, section length 16, options 24
--   interface description: link type 8, reserved 10, snapshot length 12, options 16
--   enhanced packet: interface 8, time 12, captured length 20, original length 24, bytes 28, then options
--   simple packet: original length 8, bytes 12
-- The bytes of a packet are padded to a multiple of 4.
use Rattle.std.specs.Prelude.{ℕ, ◌+◌, ◌-◌, ◌*◌, ◌/◌, ◌==◌, ◌&&◌, not, nat_lt, min, Bool, if◌then◌else◌, List, length, Option, Some, None}
use Rattle.pl_capture.specs.Field.{field}
use Rattle.pl_capture.specs.declared.endianness.Endianness.{Endianness}
use Rattle.pl_capture.specs.declared.endianness.Endianness.TheVariants.{Little, Big}
use Rattle.pl_capture.specs.declared.records.Captured.{Captured}
use Rattle.pl_pcapng.specs.declared.block.Interface.{Interface}
use Rattle.pl_pcapng.specs.declared.kind.BlockKind.{BlockKind}
use Rattle.pl_pcapng.specs.Kind.{kind_of}

-- The type of a section header stands at an offset: the same bytes in both byte orders.
abbrev pub begins_section : List ℕ → ℕ → Bool
begins_section file at = field file Little at 4 == 0x0a0d0d0a

-- the file begins with that type
abbrev pub is_pcapng : List ℕ → Bool
is_pcapng file = not (nat_lt (length file) 4) && begins_section file 0

-- how many bytes tell a block's length: type and length, and before them all a section header's magic number
abbrev pub head_len : List ℕ → ℕ → ℕ
head_len file at = if begins_section file at then 12 else 8

-- the byte order in which a section header has the magic number
abbrev pub magic_order : List ℕ → ℕ → Option Endianness
magic_order file at =
    if field file Little (at + 8) 4 == 0x1a2b3c4d then Some Little
    else if field file Big (at + 8) 4 == 0x1a2b3c4d then Some Big
    else None

abbrev pub kind_at : List ℕ → Endianness → ℕ → BlockKind
kind_at file order at = kind_of (field file order at 4)

abbrev pub total_at : List ℕ → Endianness → ℕ → ℕ
total_at file order at = field file order (at + 4) 4

-- the offset behind a block
abbrev pub end_at : List ℕ → Endianness → ℕ → ℕ
end_at file order at = at + total_at file order at

-- the total length again
abbrev pub trailer_at : List ℕ → Endianness → ℕ → ℕ
trailer_at file order at = field file order (end_at file order at - 4) 4

abbrev pub major_at : List ℕ → Endianness → ℕ → ℕ
major_at file order at = field file order (at + 12) 2

abbrev pub interface_at : List ℕ → Endianness → ℕ → Interface
interface_at file order at =
    record { link = field file order (at + 8) 2; snapshot = field file order (at + 12) 4 }

abbrev pub enhanced_packet : List ℕ → Endianness → ℕ → Captured
enhanced_packet file order at = record {
  at = at;
  start = at + 28;
  len = field file order (at + 20) 4;
  original = field file order (at + 24) 4;
}

-- a length, cut to the snapshot length of an interface that has one
abbrev pub cut_to : ℕ → ℕ → ℕ
cut_to snapshot len = if snapshot == 0 then len else min snapshot len

abbrev pub simple_packet : List ℕ → Endianness → ℕ → Interface → Captured
simple_packet file order at interface = record {
  at = at;
  start = at + 12;
  len = cut_to interface.snapshot (field file order (at + 8) 4);
  original = field file order (at + 8) 4;
}

abbrev pub padded : ℕ → ℕ
padded len = (len + 3) / 4 * 4

-- the offset behind a packet's padded bytes and the total length, where no options stand between them
abbrev pub least_end : Captured → ℕ
least_end c = c.start + padded c.len + 4
