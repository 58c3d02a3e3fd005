-- What a capture's file has, by the grammar of its kind: a file that begins with the type of a section header is a pcapng file, and every
-- other one a libpcap file.
use Rattle.std.specs.Prelude.{ℕ, List, if◌then◌else◌, Result, Ok, Err}
use Rattle.pl_capture.specs.declared.records.Captured.{Captured}
use Rattle.pl_capture.specs.Capture as libpcap
use Rattle.pl_pcapng.specs.Layout.{is_pcapng}
use Rattle.pl_pcapng.specs.Sections as pcapng
use Rattle.pl_inputs.specs.declared.fault.CaptureFault.{CaptureFault}
use Rattle.pl_inputs.specs.declared.fault.CaptureFault.TheVariants.{OfRecords, OfSections}

-- the records of a file and the length of its tail, or the first refusal
abbrev pub FileReading : Type 0
FileReading = Result (List Captured × ℕ) CaptureFault

abbrev pub by_records : libpcap.CaptureReading → FileReading
by_records (Ok read) = Ok read
by_records (Err e) = Err (OfRecords e)

abbrev pub by_sections : pcapng.SectionsReading → FileReading
by_sections (Ok read) = Ok read
by_sections (Err e) = Err (OfSections e)

unfoldable pub reading_of : List ℕ → FileReading
reading_of file = if is_pcapng file then by_sections (pcapng.reading_of file) else by_records (libpcap.reading_of file)
