-- The program's answers: their numbers and their lines.
use Rattle.std.specs.Prelude.{ℕ, List, [], ◌++◌, codes, decimal, Option, Some, None}
use Rattle.pl_capture.specs.declared.error.CaptureError.{CaptureError}
use Rattle.pl_capture.specs.declared.error.CaptureError.TheVariants.{BadMagic, BadVersion, BadLink, BadRecord}
use Rattle.pl_pcapng.specs.declared.error.BlockError.{BlockError}
use Rattle.pl_pcapng.specs.declared.error.BlockError.TheVariants as block
use Rattle.pl_pcapng.specs.BlockError.{offset_of}
use Rattle.pl_script.specs.Reasons.{reason_text}
use Rattle.pl_topology.specs.Errors.{error_text}
use Rattle.pl_inputs.specs.declared.step.StepReason.{StepReason}
use Rattle.pl_inputs.specs.declared.step.StepReason.TheVariants as step
use Rattle.pl_inputs.specs.declared.status.Status.{Status}
use Rattle.pl_inputs.specs.declared.status.Status.TheVariants.{Done, Usage, ReadFault, BadTopology, BadScript, BadCapture, WriteFault, ExpectFailed, Refused, TooLong, StepsSpent, JournalFull, OutOfMemory, NotLegal, BadJournal, BadSection}

-- the number with which the program ends
abbrev pub status_number : Status → ℕ
status_number Done = 0
status_number Usage = 2
status_number (ReadFault name) = 3
status_number (BadTopology reason) = 4
status_number (BadScript line reason) = 5
status_number (BadCapture host e at) = 6
status_number (WriteFault name) = 7
status_number (ExpectFailed line) = 8
status_number (Refused line reason) = 9
status_number (TooLong name) = 10
status_number (StepsSpent line) = 11
status_number (JournalFull line) = 11
status_number OutOfMemory = 12
status_number (NotLegal entry) = 13
status_number (BadJournal line) = 14
status_number (BadSection host e) = 15

abbrev pub step_reason_text : StepReason → List ℕ
step_reason_text step.NoSuch = codes "NoSuch"
step_reason_text step.Occupied = codes "Occupied"
step_reason_text step.AlreadySo = codes "AlreadySo"
step_reason_text step.NothingThere = codes "NothingThere"

abbrev pub capture_reason_text : CaptureError → List ℕ
capture_reason_text BadMagic = codes "BadMagic"
capture_reason_text BadVersion = codes "BadVersion"
capture_reason_text BadLink = codes "BadLink"
capture_reason_text (BadRecord at) = codes "BadRecord " ++ decimal at

abbrev pub section_reason_text : BlockError → List ℕ
section_reason_text (block.BadMagic at) = codes "BadMagic " ++ decimal at
section_reason_text (block.BadBlock at) = codes "BadBlock " ++ decimal at
section_reason_text (block.BadTrailer at) = codes "BadTrailer " ++ decimal at
section_reason_text (block.BadVersion at) = codes "BadVersion " ++ decimal at
section_reason_text (block.BadInterface at) = codes "BadInterface " ++ decimal at
section_reason_text (block.BadRecord at) = codes "BadRecord " ++ decimal at
section_reason_text block.Memory = codes "out of memory"

-- where the refused block stands; want of memory is no fault of a block
abbrev pub section_place_text : Option ℕ → List ℕ
section_place_text (Some at) = codes " at byte " ++ decimal at
section_place_text None = []

abbrev pub usage_text : List ℕ
usage_text = codes "usage: run --topology T --script S --captures DIR --out DIR, bridge --topology T --script S --captures DIR --out DIR, check --topology T, gen --k K --number N --frames F, verify --topology T --journal J"

-- what befell, in words
abbrev pub told : Status → List ℕ
told Done = codes "done"
told Usage = usage_text
told (ReadFault name) = codes "cannot read " ++ name
told (BadTopology reason) = codes "bad topology: " ++ error_text reason
told (BadScript line reason) = codes "bad script, line " ++ decimal line ++ codes ": " ++ reason_text reason
told (BadCapture host e at) =
    codes "bad capture of host number " ++ decimal host.0 ++ codes " at byte " ++ decimal at ++ codes ": " ++ capture_reason_text e
told (WriteFault name) = codes "cannot write " ++ name
told (ExpectFailed line) = codes "expectation false, line " ++ decimal line
told (Refused line reason) = codes "refused, line " ++ decimal line ++ codes ": " ++ step_reason_text reason
told (TooLong name) = codes "too long: " ++ name
told (StepsSpent line) = codes "steps spent, line " ++ decimal line
told (JournalFull line) = codes "journal full, line " ++ decimal line
told OutOfMemory = codes "out of memory"
told (NotLegal entry) = codes "not legal, entry " ++ decimal entry
told (BadJournal line) = codes "bad journal, line " ++ decimal line
told (BadSection host e) =
    codes "bad capture of host number " ++ decimal host.0 ++ section_place_text (offset_of e) ++ codes ": " ++ section_reason_text e

-- the line, without a newline
abbrev pub status_text : Status → List ℕ
status_text status = codes "portland: " ++ told status
