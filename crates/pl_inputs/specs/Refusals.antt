-- Why the texts of a run are refused.
use Rattle.std.specs.Prelude.{◌≡◌, ◌≢◌, ℕ, List, Err}
use Rattle.pl_topology.specs.declared.error.TopologyError.TheVariants as topology
use Rattle.pl_topology.specs.Meaning.{topology_of}
use Rattle.pl_wiring.specs.Plan.{Plan}
use Rattle.pl_script.specs.declared.error.ScriptError.TheVariants.{Line}
use Rattle.pl_inputs.specs.declared.status.Status.{Status}
use Rattle.pl_inputs.specs.declared.words.Network.{Network}
use Rattle.pl_inputs.specs.Inputs.{script_for}
use Rattle.pl_inputs.specs.declared.status.Status.TheVariants as status

abbrev pub IsRefusedPlan : List ℕ → Status → Type 0
IsRefusedPlan file (status.BadTopology reason) = (reason ≢ topology.Memory) × (topology_of file ≡ Err reason)
IsRefusedPlan file status.OutOfMemory = Unit {0}
IsRefusedPlan file _ = ⊥

abbrev pub IsRefusedScript : Network → Plan → List ℕ → Status → Type 0
IsRefusedScript network plan file (status.BadScript n reason) = script_for network plan file ≡ Err (Line n reason)
IsRefusedScript network plan file status.OutOfMemory = Unit {0}
IsRefusedScript network plan file _ = ⊥
