-- Where a reading stands in a file: an offset, and the section that it is in.
use Rattle.std.specs.Prelude.{ℕ, if◌then◌else◌, List, [], ◌∷◌, ◌++◌, Option, Some, None}
use Rattle.pl_capture.specs.declared.endianness.Endianness.{Endianness}
use Rattle.pl_capture.specs.declared.endianness.Endianness.TheVariants.{Little}
use Rattle.pl_capture.specs.declared.records.Captured.{Captured}
use Rattle.pl_pcapng.specs.declared.block.Interface.{Interface}
use Rattle.pl_pcapng.specs.declared.block.Content.{Content}
use Rattle.pl_pcapng.specs.declared.block.Content.TheVariants.{BeginsSection, AddsInterface, HasRecord, PassedOver}
use Rattle.pl_pcapng.specs.declared.block.Block.{Block}
use Rattle.pl_pcapng.specs.Layout.{begins_section, magic_order}

-- an offset, the byte order of its section, and the section's interfaces so far, numbered from 0
pub record Position : Type 0 where
  pub at : ℕ
  pub order : Endianness
  pub interfaces : List Interface

-- before all: the first block tells its own byte order
abbrev pub first : Position
first = record { at = 0; order = Little; interfaces = [] }

abbrev pub moved : Position → Content → ℕ → Position
moved p (BeginsSection order) end = record { at = end; order = order; interfaces = [] }
moved p (AddsInterface interface) end =
    record { at = end; order = p.order; interfaces = p.interfaces ++ interface ∷ [] }
moved p (HasRecord c) end = record { at = end; order = p.order; interfaces = p.interfaces }
moved p PassedOver end = record { at = end; order = p.order; interfaces = p.interfaces }

-- the position behind a block
abbrev pub behind : Position → Block → Position
behind p b = moved p b.content b.end

-- the record of a block
abbrev pub record_of : Content → Option Captured
record_of (BeginsSection order) = None
record_of (AddsInterface interface) = None
record_of (HasRecord c) = Some c
record_of PassedOver = None

-- the byte order of the block at a position: a section header's own, or that of its section
abbrev pub order_of : List ℕ → Position → Option Endianness
order_of file p = if begins_section file p.at then magic_order file p.at else Some p.order
