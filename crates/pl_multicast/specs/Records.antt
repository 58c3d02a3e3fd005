-- The group records of a version 3 report (RFC 3376, section 4.2.4).
use Rattle.std.specs.Prelude.{ℕ, ◌||◌, nat_lt, if◌then◌else◌, List, length, Option, Some, None}
use Rattle.pl_layouts.specs.Memberships.{record_length}

-- where the record at the front of some bytes ends, if it is whole
abbrev pub record_end : List ℕ → Option ℕ
record_end bytes = if nat_lt (length bytes) 8 || nat_lt (length bytes) (record_length bytes) then None else Some (record_length bytes)
