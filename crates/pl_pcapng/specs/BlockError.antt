use Rattle.std.specs.Prelude.{ℕ, Option, Some, None}
use Rattle.pl_pcapng.specs.declared.error.BlockError.{BlockError}
use Rattle.pl_pcapng.specs.declared.error.BlockError.TheVariants.{BadMagic, BadBlock, BadTrailer, BadVersion, BadInterface, BadRecord, Memory}

-- the offset of the block that is refused; want of memory is no fault of the file
abbrev pub offset_of : BlockError → Option ℕ
offset_of (BadMagic at) = Some at
offset_of (BadBlock at) = Some at
offset_of (BadTrailer at) = Some at
offset_of (BadVersion at) = Some at
offset_of (BadInterface at) = Some at
offset_of (BadRecord at) = Some at
offset_of Memory = None
