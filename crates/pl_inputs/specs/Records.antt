-- The records of the hosts' captures.
use Rattle.std.specs.Prelude.{ℕ, List, [], map, Ok, Err}
use Rattle.pl_capture.specs.declared.records.Captured.{Captured}
use Rattle.pl_capture.specs.Spelling.{frame_of}
use Rattle.pl_inputs.specs.declared.capture.Capture.{Capture}
use Rattle.pl_inputs.specs.declared.records.RecordedFrame.{RecordedFrame}
use Rattle.pl_inputs.specs.Readings.{FileReading, reading_of}

-- a record of a capture: the bytes that it has of a frame, and how many the frame had
pub record Recorded : Type 0 where
  pub frame : List ℕ
  pub original : ℕ

abbrev pub recorded_in : List ℕ → Captured → Recorded
recorded_in file c = record { frame = frame_of file c; original = c.original }

-- what a file has by its reading: its records, and how many bytes stand behind them
abbrev pub records_by : List ℕ → FileReading → List Recorded
records_by file (Ok read) = map (recorded_in file) read.0
records_by file (Err e) = []

abbrev pub tail_by : FileReading → ℕ
tail_by (Ok read) = read.1
tail_by (Err e) = 0

abbrev pub records_in_file : List ℕ → List Recorded
records_in_file file = records_by file (reading_of file)

abbrev pub tail_of_file : List ℕ → ℕ
tail_of_file file = tail_by (reading_of file)

abbrev pub records_in : Capture → List Recorded
records_in capture = map (recorded_in capture.bytes.items) capture.records.items

-- for each host the records of its capture
abbrev pub records_of : List Capture → List (List Recorded)
records_of captures = map records_in captures

-- a record that is lent from a capture
abbrev pub recorded : RecordedFrame → Recorded
recorded r = record { frame = r.frame.now; original = r.original }
