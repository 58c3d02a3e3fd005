-- A reading cursor in a capture of either kind.
use Rattle.std.specs.Prelude.{◌≡◌, ℕ, true, false, List}
use Rattle.pl_capture.specs.declared.records.Captured.{Captured}
use Rattle.pl_capture.specs.Records as libpcap
use Rattle.pl_pcapng.specs.Layout.{is_pcapng}
use Rattle.pl_pcapng.specs.Cursor as pcapng
use Rattle.pl_inputs.specs.declared.loading.reader.Reader.{Reader}
use Rattle.pl_inputs.specs.declared.loading.reader.Reader.TheVariants.{Libpcap, Pcapng}

-- the reader is one of the file's kind, and stands behind these records, the first of the file
abbrev pub HasRead : List ℕ → List Captured → Reader → Type 0
HasRead file records (Libpcap cursor) = (is_pcapng file ≡ false) × libpcap.HasReadRecords file records cursor
HasRead file records (Pcapng cursor) = (is_pcapng file ≡ true) × pcapng.HasReadBlocks file records cursor

-- the bytes behind it
abbrev pub tail_of : List ℕ → Reader → ℕ
tail_of file (Libpcap cursor) = libpcap.tail_of file cursor
tail_of file (Pcapng cursor) = pcapng.tail_of file cursor

-- the reader is one of this file
abbrev pub IsReaderIn : List ℕ → Reader → Type 0
IsReaderIn file reader = (records : List Captured) × HasRead file records reader
