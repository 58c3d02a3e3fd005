-- A cursor of a file stands within it, and moves from record to record.
use Rattle.std.proofs.Common.{◌≡◌, ℕ, ◌-◌, ◌<◌, ◌≤◌, inl, inr, List, [], ◌∷◌, ◌++◌, length, Option, Some, None, Ok, refl, sym, ◌∙◌, ap, subst, arith}
use Rattle.std.proofs.lemmas.Bool.{cases_lt}
use Rattle.pl_capture.specs.Header.{header_of}
use Rattle.pl_capture.specs.Record.{behind, IsRecord}
use Rattle.pl_capture.specs.Capture.{AreRecords, reading_of}
use Rattle.pl_capture.specs.Records.{record_by, record_at, HasReadBy, HasReadRecords, IsCursorIn}
use Rattle.pl_capture.proofs.Reading.{gives, fails, header_of-short, reading_of-short, reading_of-tail, reading_of-long}
use Rattle.pl_capture.proofs.Standing.{got, nothing, refused, IsRecord-got, IsTail-nothing, IsTooLong-refused}
use Rattle.pl_capture.specs.declared.endianness.Endianness.{Endianness}
use Rattle.pl_capture.specs.declared.records.Captured.{Captured}
use Rattle.pl_capture.specs.declared.records.Records.{Records}
use Rattle.pl_capture.specs.declared.error.CaptureError.{CaptureError}

AreRecords-within : (file : List ℕ) (order : Endianness) (from : ℕ) (records : List Captured)
    (to : ℕ) → from ≤ length file → AreRecords file order from records to → to ≤ length file
AreRecords-within file order from [] to within is = omega (arith, is)
AreRecords-within file order from (c ∷ cs) to within are =
    AreRecords-within file order (behind c) cs to are.0.whole are.1

-- one more record at their end
pub AreRecords-push : (file : List ℕ) (order : Endianness) (from : ℕ) (records : List Captured)
    (to : ℕ) (c : Captured) → AreRecords file order from records to → IsRecord file order to c →
    AreRecords file order from (records ++ c ∷ []) (behind c)
AreRecords-push file order from [] to c is whole =
    (subst (λ (t : ℕ). IsRecord file order t c) is whole, refl)
AreRecords-push file order from (d ∷ ds) to c are whole =
    (are.0, AreRecords-push file order (behind d) ds to c are.1 whole)

-- a header has room in its file
header-room : (file : List ℕ) (order : Endianness) → header_of file ≡ Ok (Some order) →
    24 ≤ length file
header-room file order is =
    elim (cases_lt (length file) 24) [
      | inr room ↦ room
      | inl short ↦ let none = header_of-short file short in absurd (cc)
    ]

HasReadBy-within : (file : List ℕ) (records : List Captured) (order : Option Endianness) (at : ℕ) →
    HasReadBy file records order at → at ≤ length file
HasReadBy-within file records None at read = omega (arith, read.2)
HasReadBy-within file records (Some order) at read =
    AreRecords-within file order 24 records at (header-room file order read.header) read.follow

-- a cursor stands within its file
pub cursor_within : (file : List ℕ) (cursor : Records) → IsCursorIn file cursor → cursor.at ≤ length file
cursor_within file cursor read = HasReadBy-within file read.0 cursor.endianness cursor.at read.1

HasReadBy-push : (file : List ℕ) (records : List Captured) (order : Option Endianness) (at : ℕ)
    (c : Captured) → HasReadBy file records order at → record_by file order at ≡ got c →
    HasReadBy file (records ++ c ∷ []) order (behind c)
HasReadBy-push file records None at c read is = absurd (cc)
HasReadBy-push file records (Some order) at c read is = record {
  header = read.header;
  follow = AreRecords-push file order 24 records at c read.follow (IsRecord-got file order at c is);
}

-- a record that is read comes to the end of those read before
pub HasReadRecords-push : (file : List ℕ) (records : List Captured) (cursor : Records) (c : Captured) →
    record_at file cursor ≡ got c → HasReadRecords file records cursor →
    HasReadRecords file (records ++ c ∷ []) (record cursor { at = behind c })
HasReadRecords-push file records cursor c is read =
    HasReadBy-push file records cursor.endianness cursor.at c read is

record_by-room : (file : List ℕ) (order : Option Endianness) (at : ℕ) (c : Captured) →
    record_by file order at ≡ got c → (at < behind c) × (behind c ≤ length file)
record_by-room file None at c is = absurd (cc)
record_by-room file (Some order) at c is =
    let whole = IsRecord-got file order at c is in
    let head = ap behind whole.head in
    (omega (arith, head), whole.whole)

-- a record that is read lies between the cursor and the end of the file
pub record_at-room : (file : List ℕ) (cursor : Records) (c : Captured) →
    record_at file cursor ≡ got c → (cursor.at < behind c) × (behind c ≤ length file)
record_at-room file cursor c is = record_by-room file cursor.endianness cursor.at c is

HasReadBy-ended : (file : List ℕ) (records : List Captured) (order : Option Endianness) (at : ℕ) →
    record_by file order at ≡ nothing → HasReadBy file records order at →
    reading_of file ≡ gives records (length file - at)
HasReadBy-ended file records None at is read =
    let rest : length file ≡ length file - at = omega (arith, read.2) in
    reading_of-short file read.0
    ∙ ap (λ (rs : List Captured). gives rs (length file)) (sym read.1) ∙ ap (gives records) rest
HasReadBy-ended file records (Some order) at is read =
    reading_of-tail file order records at read (IsTail-nothing file order at is)

-- where no record follows, those read before are all of the file's
pub HasReadRecords-ended : (file : List ℕ) (records : List Captured) (cursor : Records) →
    record_at file cursor ≡ nothing → HasReadRecords file records cursor →
    reading_of file ≡ gives records (length file - cursor.at)
HasReadRecords-ended file records cursor is read =
    HasReadBy-ended file records cursor.endianness cursor.at is read

HasReadBy-refused : (file : List ℕ) (records : List Captured) (order : Option Endianness) (at : ℕ)
    (e : CaptureError) → record_by file order at ≡ refused e → HasReadBy file records order at →
    reading_of file ≡ fails e
HasReadBy-refused file records None at e is read = absurd (cc)
HasReadBy-refused file records (Some order) at e is read =
    let long = IsTooLong-refused file order at e is in
    reading_of-long file order records at read long.0 ∙ ap fails (sym long.1)

-- where a record is refused, the file is
pub HasReadRecords-refused : (file : List ℕ) (records : List Captured) (cursor : Records)
    (e : CaptureError) → record_at file cursor ≡ refused e → HasReadRecords file records cursor →
    reading_of file ≡ fails e
HasReadRecords-refused file records cursor e is read =
    HasReadBy-refused file records cursor.endianness cursor.at e is read
