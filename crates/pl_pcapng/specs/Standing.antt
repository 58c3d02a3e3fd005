-- What stands at a position of a file, as a table: a whole block, less than a whole block, or the first thing that is wrong.
use Rattle.std.specs.Prelude.{◌≡◌, ℕ, ◌+◌, ◌<◌, ◌≤◌, List, length, Option, Some, None, Result, Ok, Err, slice_get}
use Rattle.pl_capture.specs.Field.{field}
use Rattle.pl_capture.specs.declared.endianness.Endianness.{Endianness}
use Rattle.pl_capture.specs.declared.records.Captured.{Captured}
use Rattle.pl_pcapng.specs.declared.block.Interface.{Interface}
use Rattle.pl_pcapng.specs.declared.block.Content.{Content}
use Rattle.pl_pcapng.specs.declared.block.Content.TheVariants.{BeginsSection, AddsInterface, HasRecord, PassedOver}
use Rattle.pl_pcapng.specs.declared.block.Block.{Block}
use Rattle.pl_pcapng.specs.declared.error.BlockError.{BlockError}
use Rattle.pl_pcapng.specs.declared.error.BlockError.TheVariants.{BadMagic, BadBlock, BadTrailer, BadVersion, BadInterface, BadRecord}
use Rattle.pl_pcapng.specs.declared.kind.BlockKind.{BlockKind}
use Rattle.pl_pcapng.specs.declared.kind.BlockKind.TheVariants.{SectionHeader, InterfaceDescription, EnhancedPacket, SimplePacket, Other}
use Rattle.pl_pcapng.specs.Kind.{IsLength}
use Rattle.pl_pcapng.specs.Layout.{head_len, kind_at, total_at, end_at, trailer_at, major_at, interface_at, enhanced_packet, simple_packet, least_end}
use Rattle.pl_pcapng.specs.Position.{Position, order_of}

-- what a whole block says, or why it is refused
abbrev pub Said : Type 0
Said = Result Content BlockError

-- a whole block, none, or why it is refused
abbrev pub Found : Type 0
Found = Result (Option Block) BlockError

abbrev pub ended : ℕ → Said → Found
ended end (Ok content) = Ok (Some (record { content = content; end = end }))
ended end (Err e) = Err e

-- A packet of interface n, in a block that begins at an offset and ends at another; `captured` is its record as the interface has it. It is
-- refused where the section has no such interface, where the captured length is above the limit, and where the padded bytes do not fit into
-- the block, in this order; else it is a record where the interface is an Ethernet, and passed over where it is not.
pub data IsInterfacePacket (interfaces : List Interface) (n : ℕ) (captured : Interface → Captured) (at end : ℕ) : Said → Type 0 where
  OfNone : slice_get interfaces n ≡ None → IsInterfacePacket interfaces n captured at end (Err (BadInterface at))
  TooLong : (i : Interface) → slice_get interfaces n ≡ Some i → 262144 < (captured i).len → IsInterfacePacket interfaces n captured at end (Err (BadRecord at))
  TooWide : (i : Interface) → slice_get interfaces n ≡ Some i → (captured i).len ≤ 262144 → end < least_end (captured i) →
      IsInterfacePacket interfaces n captured at end (Err (BadBlock at))
  OfEthernet : (i : Interface) → slice_get interfaces n ≡ Some i → (captured i).len ≤ 262144 → least_end (captured i) ≤ end → i.link ≡ 1 →
      IsInterfacePacket interfaces n captured at end (Ok (HasRecord (captured i)))
  OfAnother : (i : Interface) → slice_get interfaces n ≡ Some i → (captured i).len ≤ 262144 → least_end (captured i) ≤ end → (i.link ≡ 1 → ⊥) →
      IsInterfacePacket interfaces n captured at end (Ok PassedOver)

-- What a whole block of some kind says. A section of another version than 1 is refused; blocks of unknown types are passed over.
pub data Says (file : List ℕ) (p : Position) (order : Endianness) : BlockKind → Said → Type 0 where
  OtherVersion : (major_at file order p.at ≡ 1 → ⊥) → Says file p order SectionHeader (Err (BadVersion p.at))
  Section : major_at file order p.at ≡ 1 → Says file p order SectionHeader (Ok (BeginsSection order))
  Interfaces : Says file p order InterfaceDescription (Ok (AddsInterface (interface_at file order p.at)))
  Enhanced : (said : Said) →
      IsInterfacePacket p.interfaces (field file order (p.at + 8) 4) (λ i. enhanced_packet file order p.at) p.at (end_at file order p.at) said →
      Says file p order EnhancedPacket said
  Simple : (said : Said) → IsInterfacePacket p.interfaces 0 (simple_packet file order p.at) p.at (end_at file order p.at) said →
      Says file p order SimplePacket said
  Unknown : Says file p order Other (Ok PassedOver)

-- the bytes that tell a block's length are there, and its numbers are of this byte order
pub record IsHead (file : List ℕ) (p : Position) (order : Endianness) : Type 0 where
  pub room : p.at + head_len file p.at ≤ length file
  pub told : order_of file p ≡ Some order

-- and its total length is one that its kind may have
pub record IsSized (file : List ℕ) (p : Position) (order : Endianness) : Type 0 where
  pub head : IsHead file p order
  pub sized : IsLength (kind_at file order p.at) (total_at file order p.at)

-- and all of it is there
pub record IsWholeBlock (file : List ℕ) (p : Position) (order : Endianness) : Type 0 where
  pub sized : IsSized file p order
  pub whole : end_at file order p.at ≤ length file

-- What stands at a position: less than a whole block, a block that is refused, or a whole block with what it says.
pub data Stands (file : List ℕ) (p : Position) : Found → Type 0 where
  NoHead : length file < p.at + head_len file p.at → Stands file p (Ok None)
  OtherMagic : p.at + head_len file p.at ≤ length file → order_of file p ≡ None → Stands file p (Err (BadMagic p.at))
  OtherLength : (order : Endianness) → IsHead file p order → (IsLength (kind_at file order p.at) (total_at file order p.at) → ⊥) →
      Stands file p (Err (BadBlock p.at))
  Cut : (order : Endianness) → IsSized file p order → length file < end_at file order p.at → Stands file p (Ok None)
  OtherTrailer : (order : Endianness) → IsWholeBlock file p order → (trailer_at file order p.at ≡ total_at file order p.at → ⊥) →
      Stands file p (Err (BadTrailer p.at))
  Whole : (order : Endianness) (said : Said) → IsWholeBlock file p order → trailer_at file order p.at ≡ total_at file order p.at →
      Says file p order (kind_at file order p.at) said → Stands file p (ended (end_at file order p.at) said)
