-- Why the captures of the hosts were not all read.
use Rattle.std.specs.Prelude.{◌≡◌, ℕ, ◌≤◌, List, length, Option, None, Some, Err}
use Rattle.pl_shelf.specs.Held.{Held, IsLonger}
use Rattle.pl_capture.specs.CaptureError.{offset_of}
use Rattle.pl_wiring.specs.declared.host.Host.{Host}
use Rattle.pl_inputs.specs.declared.fault.CaptureFault.{CaptureFault}
use Rattle.pl_inputs.specs.declared.fault.CaptureFault.TheVariants.{OfRecords, OfSections}
use Rattle.pl_inputs.specs.declared.status.Status.{Status}
use Rattle.pl_inputs.specs.declared.status.Status.TheVariants as status
use Rattle.pl_inputs.specs.Folders.{in_folder}
use Rattle.pl_inputs.specs.Inputs.{IsCaptureAt}
use Rattle.pl_inputs.specs.Readings.{reading_of}
use Rattle.pl_inputs.specs.Unread.{IsNextCapture, IsRefusedCapture, IsTooMuch}

-- the captures of these hosts
abbrev pub IsUngathered : (List ℕ → Held) → List ℕ → List Host → Status → Type 0
IsUngathered held folder hosts (status.ReadFault name) = IsNextCapture held folder hosts name
IsUngathered held folder hosts (status.TooLong name) = IsTooMuch held folder hosts name
IsUngathered held folder hosts (status.BadCapture host e at) = IsRefusedCapture held folder hosts host.0 (OfRecords e) × (at ≡ offset_of e)
IsUngathered held folder hosts (status.BadSection host e) = IsRefusedCapture held folder hosts host.0 (OfSections e)
IsUngathered held folder hosts status.OutOfMemory = Unit {0}
IsUngathered held folder hosts _ = ⊥

-- the file of a capture is refused, for which so many bytes are left
abbrev pub IsRefusedFile : (List ℕ → Held) → List ℕ → List ℕ → ℕ → CaptureFault → Type 0
IsRefusedFile held folder file left e =
    (bytes : List ℕ) × IsCaptureAt held folder (Some file) bytes × (length bytes ≤ left) × (reading_of bytes ≡ Err e)

-- the capture of one host, for which so many bytes are left
abbrev pub IsUntaken : (List ℕ → Held) → List ℕ → Option (List ℕ) → ℕ → ℕ → Status → Type 0
IsUntaken held folder None number left (status.OutOfMemory) = Unit {0}
IsUntaken held folder (Some file) number left (status.ReadFault name) = name ≡ in_folder folder file
IsUntaken held folder (Some file) number left (status.TooLong name) = (name ≡ in_folder folder file) × IsLonger (held name) left
IsUntaken held folder (Some file) number left (status.BadCapture host e at) =
    (host.0 ≡ number) × (at ≡ offset_of e) × IsRefusedFile held folder file left (OfRecords e)
IsUntaken held folder (Some file) number left (status.BadSection host e) =
    (host.0 ≡ number) × IsRefusedFile held folder file left (OfSections e)
IsUntaken held folder (Some file) number left status.OutOfMemory = Unit {0}
IsUntaken held folder capture number left _ = ⊥

-- a capture's file is refused
abbrev pub IsRefusedBy : ℕ → List ℕ → Status → Type 0
IsRefusedBy number file (status.BadCapture host e at) = (host.0 ≡ number) × (at ≡ offset_of e) × (reading_of file ≡ Err (OfRecords e))
IsRefusedBy number file (status.BadSection host e) = (host.0 ≡ number) × (reading_of file ≡ Err (OfSections e))
IsRefusedBy number file status.OutOfMemory = Unit {0}
IsRefusedBy number file _ = ⊥
