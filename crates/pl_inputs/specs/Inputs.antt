-- What a run reads: a topology, a script, and the captures of the hosts.
use Rattle.std.specs.Prelude.{◌≡◌, ℕ, ◌≤◌, List, [], ◌∷◌, length, Option, None, Some, Ok, Result}
use Rattle.std.specs.List.{sum_by}
use Rattle.pl_shelf.specs.Held.{Held, HoldsExactly}
use Rattle.pl_capture.specs.declared.records.Captured.{Captured}
use Rattle.pl_wiring.specs.declared.host.Host.{Host}
use Rattle.pl_topology.specs.Meaning.{topology_of}
use Rattle.pl_wiring.specs.Plan.{Plan}
use Rattle.pl_script.specs.declared.script.ScriptLine.{ScriptLine}
use Rattle.pl_script.specs.declared.error.ScriptError.{ScriptError}
use Rattle.pl_script.specs.ForBridges.{bridge_script_of}
use Rattle.pl_script.specs.Meaning.{script_of}
use Rattle.pl_inputs.specs.Folders.{in_folder}
use Rattle.pl_inputs.specs.Readings.{reading_of}
use Rattle.pl_inputs.specs.declared.words.Network.{Network}
use Rattle.pl_inputs.specs.declared.words.Network.TheVariants.{Bridges, Fabric}
use Rattle.pl_inputs.specs.Words.{Asked}

-- the most bytes that are read of a topology or of a script, of all captures together, and of a saved journal
abbrev pub text_limit : ℕ
text_limit = 16777216

abbrev pub captures_limit : ℕ
captures_limit = 67108864

abbrev pub journal_limit : ℕ
journal_limit = 1073741824

-- A name was read whole, and is within its limit.
pub record IsLoaded (held : List ℕ → Held) (name : List ℕ) (limit : ℕ) (file : List ℕ) : Type 0 where
  pub whole : HoldsExactly (held name) file
  pub within : length file ≤ limit

-- the capture of a host; none where it names none
abbrev pub IsCaptureAt : (List ℕ → Held) → List ℕ → Option (List ℕ) → List ℕ → Type 0
IsCaptureAt held folder None file = file ≡ []
IsCaptureAt held folder (Some name) file = HoldsExactly (held (in_folder folder name)) file

-- a file that is a capture, by the grammar of its kind
abbrev pub IsCaptureFile : List ℕ → Type 0
IsCaptureFile file = (read : List Captured × ℕ) × (reading_of file ≡ Ok read)

-- for each of the hosts a capture
abbrev pub AreCaptures : (List ℕ → Held) → List ℕ → List Host → List (List ℕ) → Type 0
AreCaptures held folder [] [] = Unit {0}
AreCaptures held folder (h ∷ hosts) (file ∷ files) =
    IsCaptureAt held folder h.capture file × IsCaptureFile file × AreCaptures held folder hosts files
AreCaptures held folder _ _ = ⊥

abbrev pub all_bytes : List (List ℕ) → ℕ
all_bytes files = sum_by length files

-- what a run has read, by its meaning
pub record Inputs : Type 0 where
  pub plan : Plan
  pub lines : List ScriptLine
  pub captures : List (List ℕ)

abbrev pub HasPlan : (List ℕ → Held) → List ℕ → Plan → Type 0
HasPlan held name plan = (file : List ℕ) × IsLoaded held name text_limit file × (topology_of file ≡ Ok plan)

-- what a script asks of the network that it is played on
abbrev pub script_for : Network → Plan → List ℕ → Result (List ScriptLine) ScriptError
script_for Fabric plan file = script_of plan file
script_for Bridges plan file = bridge_script_of plan file

abbrev pub HasLines : (List ℕ → Held) → Network → List ℕ → Plan → List ScriptLine → Type 0
HasLines held network name plan lines = (file : List ℕ) × IsLoaded held name text_limit file × (script_for network plan file ≡ Ok lines)

-- All of it was read, and accepted.
pub record AreRead (held : List ℕ → Held) (asked : Asked) (i : Inputs) : Type 0 where
  pub topology : HasPlan held asked.topology i.plan
  pub script : HasLines held asked.network asked.script i.plan i.lines
  pub captures : AreCaptures held asked.captures i.plan.hosts i.captures
  pub limit : all_bytes i.captures ≤ captures_limit
