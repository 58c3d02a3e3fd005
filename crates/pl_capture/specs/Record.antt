-- A record of pcap-savefile(5): a head of 16 bytes, and the frame. By offset from the first byte:
-- seconds 0, microseconds or nanoseconds 4, captured length 8, original length 12, frame 16.
use Rattle.std.specs.Prelude.{◌≡◌, ℕ, ◌+◌, ◌<◌, ◌≤◌, ◌⊎◌, nat_lt, if◌then◌else◌, List, length, Option, Some, None, Result, Ok, Err}
use Rattle.pl_capture.specs.Field.{field}
use Rattle.pl_capture.specs.declared.endianness.Endianness.{Endianness}
use Rattle.pl_capture.specs.declared.records.Captured.{Captured}
use Rattle.pl_capture.specs.declared.error.CaptureError.{CaptureError}
use Rattle.pl_capture.specs.declared.error.CaptureError.TheVariants.{BadRecord}

-- what the head at an offset says
abbrev pub captured : List ℕ → Endianness → ℕ → Captured
captured file order at = record {
  at = at;
  start = at + 16;
  len = field file order (at + 8) 4;
  original = field file order (at + 12) 4;
}

-- the offset behind a record
abbrev pub behind : Captured → ℕ
behind c = c.start + c.len

-- A whole record stands at an offset: what its head says, with a captured length of at most
-- 262,144, and all of its frame.
pub record IsRecord (file : List ℕ) (order : Endianness) (at : ℕ) (c : Captured) : Type 0 where
  pub head : c ≡ captured file order at
  pub limit : c.len ≤ 262144
  pub whole : behind c ≤ length file

-- Less than a whole record stands there: no whole head, or a head and a part of its frame.
abbrev pub IsTail : List ℕ → Endianness → ℕ → Type 0
IsTail file order at =
    (length file < at + 16)
    ⊎ (((captured file order at).len ≤ 262144) × (length file < behind (captured file order at)))

-- A whole head stands there, with a captured length above the limit.
abbrev pub IsTooLong : List ℕ → Endianness → ℕ → Type 0
IsTooLong file order at = (at + 16 ≤ length file) × (262144 < (captured file order at).len)

-- which of the three it is
unfoldable pub record_in : List ℕ → Endianness → ℕ → Result (Option Captured) CaptureError
record_in file order at =
    if nat_lt (length file) (at + 16) then Ok None
    else if nat_lt 262144 (captured file order at).len then Err (BadRecord at)
    else if nat_lt (length file) (behind (captured file order at)) then Ok None
    else Ok (Some (captured file order at))
