-- A capture file: a header, whole records one behind the other, and a tail.
use Rattle.std.specs.Prelude.{◌≡◌, ℕ, zero, suc, ◌-◌, ◌<◌, ◌⊎◌, List, [], ◌∷◌, length, Option, Some, None, Result, Ok, Err}
use Rattle.pl_capture.specs.Header.{header_of}
use Rattle.pl_capture.specs.Record.{behind, IsRecord, IsTail, IsTooLong, record_in}
use Rattle.pl_capture.specs.declared.endianness.Endianness.{Endianness}
use Rattle.pl_capture.specs.declared.records.Captured.{Captured}
use Rattle.pl_capture.specs.declared.error.CaptureError.{CaptureError}
use Rattle.pl_capture.specs.declared.error.CaptureError.TheVariants.{BadRecord}

-- from one offset up to another there are these records, without a gap
abbrev pub AreRecords : List ℕ → Endianness → ℕ → List Captured → ℕ → Type 0
AreRecords file order from [] to = to ≡ from
AreRecords file order from (c ∷ cs) to =
    IsRecord file order from c × AreRecords file order (behind c) cs to

-- the file has a header, and behind it these records, up to an offset
pub record BeginsWithRecords (file : List ℕ) (order : Endianness) (records : List Captured) (to : ℕ)
    : Type 0 where
  pub header : header_of file ≡ Ok (Some order)
  pub follow : AreRecords file order 24 records to

-- The file is a capture of these records, with so many bytes of tail. Below 24 bytes it is all
-- tail; else it begins with a header and the records, and ends in less than a whole record.
unfoldable pub IsCapture : List ℕ → List Captured → ℕ → Type 0
IsCapture file records tail =
    ((length file < 24) × (records ≡ []) × (tail ≡ length file))
    ⊎ ((order : Endianness) × (end : ℕ) × BeginsWithRecords file order records end × IsTail file order end
    × (tail ≡ length file - end))

-- The file is no capture: its header is refused, or the head behind some whole records is too long.
unfoldable pub IsCaptureRefused : List ℕ → CaptureError → Type 0
IsCaptureRefused file e =
    (header_of file ≡ Err e)
    ⊎ ((order : Endianness) × (records : List Captured) × (at : ℕ) × BeginsWithRecords file order records at
    × IsTooLong file order at × (e ≡ BadRecord at))

-- The same as a function: the records and the length of the tail, or the first refusal.
abbrev pub CaptureReading : Type 0
CaptureReading = Result (List Captured × ℕ) CaptureError

abbrev pub with_first : Captured → CaptureReading → CaptureReading
with_first c (Ok read) = Ok (c ∷ read.0, read.1)
with_first c (Err e) = Err e

abbrev pub read_on : Result (Option Captured) CaptureError → (Captured → CaptureReading) → ℕ → CaptureReading
read_on (Ok (Some c)) more tail = with_first c (more c)
read_on (Ok None) more tail = Ok ([], tail)
read_on (Err e) more tail = Err e

-- at most n records from an offset on, where a file has fewer records than bytes
unfoldable pub reading_from : ℕ → List ℕ → Endianness → ℕ → CaptureReading
reading_from zero file order at = Ok ([], length file - at)
reading_from (suc n) file order at =
    read_on (record_in file order at) (λ c. reading_from n file order (behind c)) (length file - at)

abbrev pub reading_in : List ℕ → Result (Option Endianness) CaptureError → CaptureReading
reading_in file (Ok (Some order)) = reading_from (length file) file order 24
reading_in file (Ok None) = Ok ([], length file)
reading_in file (Err e) = Err e

unfoldable pub reading_of : List ℕ → CaptureReading
reading_of file = reading_in file (header_of file)
