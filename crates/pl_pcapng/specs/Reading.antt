-- The same as a function: what stands at a position.
use Rattle.std.specs.Prelude.{ℕ, ◌+◌, ◌==◌, nat_lt, if◌then◌else◌, List, length, Option, Some, None, Result, Ok, Err, slice_get}
use Rattle.pl_capture.specs.Field.{field}
use Rattle.pl_capture.specs.declared.endianness.Endianness.{Endianness}
use Rattle.pl_capture.specs.declared.records.Captured.{Captured}
use Rattle.pl_pcapng.specs.declared.block.Interface.{Interface}
use Rattle.pl_pcapng.specs.declared.block.Content.TheVariants.{BeginsSection, AddsInterface, HasRecord, PassedOver}
use Rattle.pl_pcapng.specs.declared.error.BlockError.{BlockError}
use Rattle.pl_pcapng.specs.declared.error.BlockError.TheVariants.{BadMagic, BadBlock, BadTrailer, BadVersion, BadInterface, BadRecord}
use Rattle.pl_pcapng.specs.declared.kind.BlockKind.{BlockKind}
use Rattle.pl_pcapng.specs.declared.kind.BlockKind.TheVariants.{SectionHeader, InterfaceDescription, EnhancedPacket, SimplePacket, Other}
use Rattle.pl_pcapng.specs.Kind.{is_length}
use Rattle.pl_pcapng.specs.Layout.{head_len, kind_at, total_at, end_at, trailer_at, major_at, interface_at, enhanced_packet, simple_packet, least_end}
use Rattle.pl_pcapng.specs.Position.{Position, order_of}
use Rattle.pl_pcapng.specs.Standing.{Said, Found, ended}

-- a packet of an interface, in a block that begins and ends at these offsets
abbrev pub packet_of : Interface → Captured → ℕ → ℕ → Said
packet_of i c at end =
    if nat_lt 262144 c.len then Err (BadRecord at)
    else if nat_lt end (least_end c) then Err (BadBlock at)
    else if i.link == 1 then Ok (HasRecord c)
    else Ok PassedOver

abbrev pub packet_by : Option Interface → (Interface → Captured) → ℕ → ℕ → Said
packet_by None captured at end = Err (BadInterface at)
packet_by (Some i) captured at end = packet_of i (captured i) at end

abbrev pub packet_in : List Interface → ℕ → (Interface → Captured) → ℕ → ℕ → Said
packet_in interfaces n captured at end = packet_by (slice_get interfaces n) captured at end

abbrev pub content_in : List ℕ → Position → Endianness → BlockKind → Said
content_in file p order SectionHeader =
    if major_at file order p.at == 1 then Ok (BeginsSection order) else Err (BadVersion p.at)
content_in file p order InterfaceDescription = Ok (AddsInterface (interface_at file order p.at))
content_in file p order EnhancedPacket =
    packet_in p.interfaces (field file order (p.at + 8) 4) (λ i. enhanced_packet file order p.at) p.at (end_at file order p.at)
content_in file p order SimplePacket =
    packet_in p.interfaces 0 (simple_packet file order p.at) p.at (end_at file order p.at)
content_in file p order Other = Ok PassedOver

-- the byte order of a head, none where there is no room for one
abbrev pub given_by : ℕ → Option Endianness → Result (Option Endianness) BlockError
given_by at None = Err (BadMagic at)
given_by at (Some order) = Ok (Some order)

unfoldable pub head_in : List ℕ → Position → Result (Option Endianness) BlockError
head_in file p =
    if nat_lt (length file) (p.at + head_len file p.at) then Ok None else given_by p.at (order_of file p)

unfoldable pub block_of : List ℕ → Position → Endianness → Found
block_of file p order =
    if is_length (kind_at file order p.at) (total_at file order p.at) then (
    if nat_lt (length file) (end_at file order p.at) then Ok None
    else if trailer_at file order p.at == total_at file order p.at then
    ended (end_at file order p.at) (content_in file p order (kind_at file order p.at))
    else Err (BadTrailer p.at)
    )
    else Err (BadBlock p.at)

abbrev pub block_by : List ℕ → Position → Result (Option Endianness) BlockError → Found
block_by file p (Ok (Some order)) = block_of file p order
block_by file p (Ok None) = Ok None
block_by file p (Err e) = Err e

unfoldable pub block_in : List ℕ → Position → Found
block_in file p = block_by file p (head_in file p)
