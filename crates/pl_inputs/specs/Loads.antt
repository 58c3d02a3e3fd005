-- Why one file was not read.
use Rattle.std.specs.Prelude.{◌≡◌, ◌≢◌, ℕ, ◌≤◌, List, Option, Result, Ok, Err}
use Rattle.pl_shelf.specs.Held.{Held, IsLonger}
use Rattle.pl_shelf.specs.Capacity.{IsReadable}
use Rattle.pl_shelf.specs.Faults.{Rose}
use Rattle.pl_topology.specs.declared.error.TopologyError.TheVariants as topology
use Rattle.pl_topology.specs.Meaning.{topology_of}
use Rattle.pl_wiring.specs.Plan.{Plan}
use Rattle.pl_script.specs.declared.error.ScriptError.TheVariants.{Line}
use Rattle.pl_inputs.specs.declared.status.Status.{Status}
use Rattle.pl_inputs.specs.declared.status.Status.TheVariants as status
use Rattle.pl_inputs.specs.declared.words.Network.{Network}
use Rattle.pl_inputs.specs.Inputs.{IsLoaded, script_for, text_limit}

-- a name was not read
abbrev pub IsUnloaded : (List ℕ → Held) → List ℕ → ℕ → Status → Type 0
IsUnloaded held name limit (status.ReadFault n) = n ≡ name
IsUnloaded held name limit (status.TooLong n) = (n ≡ name) × IsLonger (held name) limit
IsUnloaded held name limit status.OutOfMemory = Unit {0}
IsUnloaded held name limit _ = ⊥

-- a topology was not read, or is refused
abbrev pub IsUnplanned : (List ℕ → Held) → List ℕ → Status → Type 0
IsUnplanned held name (status.BadTopology reason) =
    (reason ≢ topology.Memory) × ((file : List ℕ) × IsLoaded held name text_limit file × (topology_of file ≡ Err reason))
IsUnplanned held name e = IsUnloaded held name text_limit e

-- the same of a script
abbrev pub IsUnscripted : (List ℕ → Held) → Network → List ℕ → Plan → Status → Type 0
IsUnscripted held network name plan (status.BadScript n reason) =
    (file : List ℕ) × IsLoaded held name text_limit file × (script_for network plan file ≡ Err (Line n reason))
IsUnscripted held network name plan e = IsUnloaded held name text_limit e

-- The count of failed reads rises where the answer is one, and else it stays.
abbrev pub Reads : {T : Type 0} → Result T Status → ℕ → ℕ → Type 0
Reads (Ok x) old new = new ≡ old
Reads (Err (status.ReadFault name)) old new = (old ≤ new) × Rose old new
Reads (Err e) old new = new ≡ old

-- The shelf did not promise that a name can be read at which a read failed.
abbrev pub IsUnpromised : (List ℕ → Option ℕ) → (List ℕ → Held) → Status → Type 0
IsUnpromised capacity held (status.ReadFault name) = IsReadable (capacity name) (held name) → ⊥
IsUnpromised capacity held _ = Unit {0}
