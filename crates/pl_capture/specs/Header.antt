-- The file header of pcap-savefile(5), by offset: magic number 0, major version 4, minor version 6,
-- zone 8, accuracy 12, snapshot length 16, link type 20; 24 bytes in all.
use Rattle.std.specs.Prelude.{ℕ, ◌==◌, nat_lt, Bool, ◌&&◌, ◌||◌, if◌then◌else◌, List, length, Option, Some, None, Result, Ok, Err}
use Rattle.pl_capture.specs.Field.{field}
use Rattle.pl_capture.specs.declared.endianness.Endianness.{Endianness}
use Rattle.pl_capture.specs.declared.endianness.Endianness.TheVariants.{Little, Big}
use Rattle.pl_capture.specs.declared.error.CaptureError.{CaptureError}
use Rattle.pl_capture.specs.declared.error.CaptureError.TheVariants.{BadMagic, BadVersion, BadLink}

-- the magic number of a file with time stamps of microseconds, or of nanoseconds
abbrev pub is_magic : ℕ → Bool
is_magic n = n == 0xa1b2c3d4 || n == 0xa1b23c4d

-- the byte order in which the first field is a magic number
abbrev pub order_of : List ℕ → Option Endianness
order_of file =
    if is_magic (field file Little 0 4) then Some Little
    else if is_magic (field file Big 0 4) then Some Big
    else None

-- the version is 2.4
abbrev pub is_version : List ℕ → Endianness → Bool
is_version file order = field file order 4 2 == 2 && field file order 6 2 == 4

-- the link type is Ethernet, with no other bit set
abbrev pub is_ethernet : List ℕ → Endianness → Bool
is_ethernet file order = field file order 20 4 == 1

-- the header of a file with this byte order, or with none
abbrev pub header_in : List ℕ → Option Endianness → Result (Option Endianness) CaptureError
header_in file None = Err BadMagic
header_in file (Some order) =
    if is_version file order then if is_ethernet file order then Ok (Some order) else Err BadLink
    else Err BadVersion

-- the byte order of a file, or what its header is refused for; none where no header has room
unfoldable pub header_of : List ℕ → Result (Option Endianness) CaptureError
header_of file = if nat_lt (length file) 24 then Ok None else header_in file (order_of file)
