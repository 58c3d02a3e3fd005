-- The records of a file lie within it, by the grammar of each kind.
use Rattle.std.proofs.Common.{◌≡◌, ℕ, ◌+◌, ◌≤◌, true, false, if◌then◌else◌, List, length, All, Ok, Err}
use Rattle.pl_capture.specs.declared.records.Captured.{Captured}
use Rattle.pl_capture.specs.Capture as libpcap
use Rattle.pl_capture.proofs.Exports.Reading as records
use Rattle.pl_pcapng.specs.Layout.{is_pcapng}
use Rattle.pl_pcapng.specs.Sections as pcapng
use Rattle.pl_pcapng.proofs.Exports.Walks as sections
use Rattle.pl_inputs.specs.Readings.{FileReading, by_records, by_sections, reading_of}

abbrev read : List Captured → ℕ → FileReading
read records tail = Ok (records, tail)

of_records : (r : libpcap.CaptureReading) (cs : List Captured) (tail : ℕ) → by_records r ≡ read cs tail → r ≡ Ok (cs, tail)
of_records (Ok x) cs tail is = cc
of_records (Err e) cs tail is = absurd cc

of_sections : (r : pcapng.SectionsReading) (cs : List Captured) (tail : ℕ) → by_sections r ≡ read cs tail → r ≡ Ok (cs, tail)
of_sections (Ok x) cs tail is = cc
of_sections (Err e) cs tail is = absurd cc

pub all_within : (file : List ℕ) (cs : List Captured) (tail : ℕ) → reading_of file ≡ Ok (cs, tail) → All (λ c. c.start + c.len ≤ length file) cs
unfolding reading_of
all_within file cs tail is =
    elim (is_pcapng file) as
    (λ b. (if b then by_sections (pcapng.reading_of file) else by_records (libpcap.reading_of file)) ≡ read cs tail →
    All (λ c. c.start + c.len ≤ length file) cs) [
      | true ↦ λ h. sections.reading-within file cs tail (of_sections (pcapng.reading_of file) cs tail h)
      | false ↦ λ h. records.reading-within file cs tail (of_records (libpcap.reading_of file) cs tail h)
    ] is
