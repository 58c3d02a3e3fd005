-- The block types of the pcapng format (draft-ietf-opsawg-pcapng), and how short a block of each may be.
use Rattle.std.specs.Prelude.{◌≡◌, ℕ, ◌≤◌, ◌%◌, ◌==◌, nat_lt, Bool, false, if◌then◌else◌}
use Rattle.pl_pcapng.specs.declared.kind.BlockKind.{BlockKind}
use Rattle.pl_pcapng.specs.declared.kind.BlockKind.TheVariants.{SectionHeader, InterfaceDescription, EnhancedPacket, SimplePacket, Other}

abbrev pub kind_of : ℕ → BlockKind
kind_of n =
    if n == 0x0a0d0d0a then SectionHeader
    else if n == 1 then InterfaceDescription
    else if n == 6 then EnhancedPacket
    else if n == 3 then SimplePacket
    else Other

-- the total length of a block with no options and, of a packet, no bytes
abbrev pub least_length : BlockKind → ℕ
least_length SectionHeader = 28
least_length InterfaceDescription = 20
least_length EnhancedPacket = 32
least_length SimplePacket = 16
least_length Other = 12

-- a block of this kind may have this total length
abbrev pub IsLength : BlockKind → ℕ → Type 0
IsLength kind total = (least_length kind ≤ total) × (total % 4 ≡ 0)

abbrev pub is_length : BlockKind → ℕ → Bool
is_length kind total = if nat_lt total (least_length kind) then false else total % 4 == 0
