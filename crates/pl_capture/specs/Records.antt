-- A reading cursor in a capture file.
use Rattle.std.specs.Prelude.{◌≡◌, ℕ, ◌-◌, List, [], length, Option, Some, None, Result, Ok, Err}
use Rattle.pl_capture.specs.Header.{header_of}
use Rattle.pl_capture.specs.Record.{behind, record_in}
use Rattle.pl_capture.specs.Capture.{BeginsWithRecords}
use Rattle.pl_capture.specs.declared.endianness.Endianness.{Endianness}
use Rattle.pl_capture.specs.declared.records.Captured.{Captured}
use Rattle.pl_capture.specs.declared.records.Records.{Records}
use Rattle.pl_capture.specs.declared.error.CaptureError.{CaptureError}

-- the cursor before the first record
abbrev pub first_cursor : Result (Option Endianness) CaptureError → Result Records CaptureError
first_cursor (Ok (Some order)) = Ok (record { endianness = Some order; at = 24 })
first_cursor (Ok None) = Ok (record { endianness = None; at = 0 })
first_cursor (Err e) = Err e

abbrev pub begin_of : List ℕ → Result Records CaptureError
begin_of file = first_cursor (header_of file)

-- the record behind a cursor; none in a file that has no header
abbrev pub record_by : List ℕ → Option Endianness → ℕ → Result (Option Captured) CaptureError
record_by file None at = Ok None
record_by file (Some order) at = record_in file order at

abbrev pub record_at : List ℕ → Records → Result (Option Captured) CaptureError
record_at file cursor = record_by file cursor.endianness cursor.at

-- the cursor once that was read: behind the record, and else where it was
abbrev pub cursor_after : Records → Result (Option Captured) CaptureError → Records
cursor_after cursor (Ok (Some c)) = record cursor { at = behind c }
cursor_after cursor (Ok None) = cursor
cursor_after cursor (Err e) = cursor

-- the bytes behind a cursor
abbrev pub tail_of : List ℕ → Records → ℕ
tail_of file cursor = length file - cursor.at

abbrev pub HasReadBy : List ℕ → List Captured → Option Endianness → ℕ → Type 0
HasReadBy file records None at = (header_of file ≡ Ok None) × (records ≡ []) × (at ≡ 0)
HasReadBy file records (Some order) at = BeginsWithRecords file order records at

-- the cursor stands behind these records, the first of the file
abbrev pub HasReadRecords : List ℕ → List Captured → Records → Type 0
HasReadRecords file records cursor = HasReadBy file records cursor.endianness cursor.at

-- the cursor is one of this file
abbrev pub IsCursorIn : List ℕ → Records → Type 0
IsCursorIn file cursor = (records : List Captured) × HasReadRecords file records cursor
