use Rattle.std.specs.Prelude.{ℕ}
use Rattle.pl_capture.specs.declared.error.CaptureError.{CaptureError}
use Rattle.pl_capture.specs.declared.error.CaptureError.TheVariants.{BadMagic, BadVersion, BadLink, BadRecord}

-- the offset of what is refused: a field of the header, or the head of a record
abbrev pub offset_of : CaptureError → ℕ
offset_of BadMagic = 0
offset_of BadVersion = 4
offset_of BadLink = 20
offset_of (BadRecord at) = at
