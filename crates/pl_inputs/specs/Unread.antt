-- Why a run was not begun.
use Rattle.std.specs.Prelude.{◌≡◌, ◌≢◌, ℕ, ◌-◌, ◌≤◌, ◌⊎◌, List, take, length, slice_get, Some, Err}
use Rattle.pl_shelf.specs.Held.{Held, IsLonger}
use Rattle.pl_capture.specs.CaptureError.{offset_of}
use Rattle.pl_topology.specs.declared.error.TopologyError.TheVariants as topology
use Rattle.pl_topology.specs.Meaning.{topology_of}
use Rattle.pl_wiring.specs.declared.host.Host.{Host}
use Rattle.pl_wiring.specs.Plan.{Plan}
use Rattle.pl_script.specs.declared.error.ScriptError.TheVariants.{Line}
use Rattle.pl_script.specs.declared.script.ScriptLine.{ScriptLine}
use Rattle.pl_inputs.specs.declared.fault.CaptureFault.{CaptureFault}
use Rattle.pl_inputs.specs.declared.fault.CaptureFault.TheVariants.{OfRecords, OfSections}
use Rattle.pl_inputs.specs.declared.status.Status.{Status}
use Rattle.pl_inputs.specs.declared.status.Status.TheVariants as status
use Rattle.pl_inputs.specs.Words.{Asked}
use Rattle.pl_inputs.specs.Folders.{in_folder}
use Rattle.pl_inputs.specs.Inputs.{AreCaptures, HasLines, HasPlan, IsCaptureAt, IsLoaded, all_bytes, captures_limit, script_for, text_limit}
use Rattle.pl_inputs.specs.Readings.{reading_of}

-- the topology and the script were accepted
pub record AreTextsRead (held : List ℕ → Held) (asked : Asked) (plan : Plan) : Type 0 where
  pub lines : List ScriptLine
  pub topology : HasPlan held asked.topology plan
  pub script : HasLines held asked.network asked.script plan lines

-- the captures of the hosts before this one were accepted
pub record ComesTo (held : List ℕ → Held) (folder : List ℕ) (hosts : List Host) (n : ℕ) (host : Host) : Type 0 where
  pub stands : slice_get hosts n ≡ Some host
  pub files : List (List ℕ)
  pub earlier : AreCaptures held folder (take n hosts) files
  pub limit : all_bytes files ≤ captures_limit

-- the capture of this host is refused
pub record IsRefusedCapture (held : List ℕ → Held) (folder : List ℕ) (hosts : List Host) (n : ℕ) (e : CaptureFault) : Type 0 where
  pub host : Host
  pub comes : ComesTo held folder hosts n host
  pub file : List ℕ
  pub is : IsCaptureAt held folder host.capture file
  pub limit : length file ≤ captures_limit - all_bytes comes.files
  pub refused : reading_of file ≡ Err e

-- with the capture of this name all captures are longer than is allowed
pub record IsTooMuch (held : List ℕ → Held) (folder : List ℕ) (hosts : List Host) (name : List ℕ) : Type 0 where
  pub n : ℕ
  pub host : Host
  pub comes : ComesTo held folder hosts n host
  pub file : List ℕ
  pub names : host.capture ≡ Some file
  pub is : name ≡ in_folder folder file
  pub longer : IsLonger (held name) (captures_limit - all_bytes comes.files)

-- the name of a host's capture, once those of the hosts before it were accepted
pub record IsNextCapture (held : List ℕ → Held) (folder : List ℕ) (hosts : List Host) (name : List ℕ) : Type 0 where
  pub n : ℕ
  pub host : Host
  pub comes : ComesTo held folder hosts n host
  pub file : List ℕ
  pub names : host.capture ≡ Some file
  pub is : name ≡ in_folder folder file

-- a name that the run reads, once all that is read before it was accepted
abbrev pub IsReadName : (List ℕ → Held) → Asked → List ℕ → Type 0
IsReadName held asked name =
    (name ≡ asked.topology)
    ⊎ ((plan : Plan) × HasPlan held asked.topology plan × (name ≡ asked.script))
    ⊎ ((plan : Plan) × AreTextsRead held asked plan × IsNextCapture held asked.captures plan.hosts name)

-- what is longer than is allowed
abbrev pub IsLongName : (List ℕ → Held) → Asked → List ℕ → Type 0
IsLongName held asked name =
    ((name ≡ asked.topology) × IsLonger (held name) text_limit)
    ⊎ ((plan : Plan) × HasPlan held asked.topology plan × (name ≡ asked.script) × IsLonger (held name) text_limit)
    ⊎ ((plan : Plan) × AreTextsRead held asked plan × IsTooMuch held asked.captures plan.hosts name)

-- The first thing that is wrong with what a run reads. A failed read is nothing that the bytes could show, and want of memory neither.
abbrev pub IsUnread : (List ℕ → Held) → Asked → Status → Type 0
IsUnread held asked (status.ReadFault name) = IsReadName held asked name
IsUnread held asked (status.TooLong name) = IsLongName held asked name
IsUnread held asked (status.BadTopology reason) =
    (reason ≢ topology.Memory)
    × ((file : List ℕ) × IsLoaded held asked.topology text_limit file × (topology_of file ≡ Err reason))
IsUnread held asked (status.BadScript n reason) =
    (plan : Plan) × HasPlan held asked.topology plan
    × ((file : List ℕ) × IsLoaded held asked.script text_limit file × (script_for asked.network plan file ≡ Err (Line n reason)))
IsUnread held asked (status.BadCapture host e at) =
    (plan : Plan) × AreTextsRead held asked plan × IsRefusedCapture held asked.captures plan.hosts host.0 (OfRecords e) × (at ≡ offset_of e)
IsUnread held asked (status.BadSection host e) =
    (plan : Plan) × AreTextsRead held asked plan × IsRefusedCapture held asked.captures plan.hosts host.0 (OfSections e)
IsUnread held asked status.OutOfMemory = Unit {0}
IsUnread held asked _ = ⊥
