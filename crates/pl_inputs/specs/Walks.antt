-- Why a capture was not walked to its end.
use Rattle.std.specs.Prelude.{◌≡◌, ℕ, List, Err}
use Rattle.pl_pcapng.specs.declared.error.BlockError.{BlockError}
use Rattle.pl_pcapng.specs.declared.error.BlockError.TheVariants.{BadMagic, BadBlock, BadTrailer, BadVersion, BadInterface, BadRecord, Memory}
use Rattle.pl_inputs.specs.declared.fault.CaptureFault.TheVariants.{OfSections}
use Rattle.pl_inputs.specs.declared.loading.walk.WalkError.{WalkError}
use Rattle.pl_inputs.specs.declared.loading.walk.WalkError.TheVariants as walk
use Rattle.pl_inputs.specs.Readings.{reading_of}

abbrev pub IsRefusedWalk : List ℕ → WalkError → Type 0
IsRefusedWalk file (walk.Refused e) = reading_of file ≡ Err e
IsRefusedWalk file walk.Memory = Unit {0}

-- want of memory is no fault of the file
abbrev pub of_sections : BlockError → WalkError
of_sections (BadMagic at) = walk.Refused (OfSections (BadMagic at))
of_sections (BadBlock at) = walk.Refused (OfSections (BadBlock at))
of_sections (BadTrailer at) = walk.Refused (OfSections (BadTrailer at))
of_sections (BadVersion at) = walk.Refused (OfSections (BadVersion at))
of_sections (BadInterface at) = walk.Refused (OfSections (BadInterface at))
of_sections (BadRecord at) = walk.Refused (OfSections (BadRecord at))
of_sections Memory = walk.Memory
