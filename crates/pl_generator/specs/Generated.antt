-- What is generated, under which name.
use Rattle.std.specs.Prelude.{◌≡◌, ◌≢◌, ℕ, ◌<◌, List, [], ◌++◌, codes, length, slice_index_or}
use Rattle.pl_shelf.specs.Held.{Held, absent, holds}
use Rattle.pl_shelf.specs.MemoryShelf.{MemoryState}
use Rattle.pl_generator.specs.Hosts.{capture_file, host_count}
use Rattle.pl_generator.specs.TopologyText.{topology_text}
use Rattle.pl_generator.specs.ScriptText.{script_text}
use Rattle.pl_generator.specs.Captures.{capture_text}

abbrev pub topology_name : List ℕ
topology_name = codes "topology.toml"

abbrev pub script_name : List ℕ
script_name = codes "script"

-- the captures are in one folder
unfoldable pub capture_name : ℕ → List ℕ
capture_name host = codes "captures/" ++ capture_file host

-- the captures are held, each under the name of its host, and every other name holds what it held
pub record AreHeld (old new : List ℕ → Held) (captures : List (List ℕ)) : Type 0 where
  pub each : (host : ℕ) → host < length captures → new (capture_name host) ≡ holds (slice_index_or captures host [])
  pub others : (name : List ℕ) → ((host : ℕ) → host < length captures → name ≢ capture_name host) → new name ≡ old name

-- the name of no generated file, of so many hosts
pub record IsOther (hosts : ℕ) (name : List ℕ) : Type 0 where
  pub topology : name ≢ topology_name
  pub script : name ≢ script_name
  pub captures : (host : ℕ) → host < hosts → name ≢ capture_name host

-- the topology, the script and the capture of each host are there, and nothing else
pub record AreGenerated (held : List ℕ → Held) (k number frames : ℕ) : Type 0 where
  pub topology : held topology_name ≡ holds (topology_text k)
  pub script : held script_name ≡ holds (script_text k number frames)
  pub captures : (host : ℕ) → host < host_count k → held (capture_name host) ≡ holds (capture_text k number frames host)
  pub others : (name : List ℕ) → IsOther (host_count k) name → held name ≡ absent

-- nothing was called yet, and no call is to fail
pub record IsNewShelf (shelf : MemoryState) : Type 0 where
  pub failing : shelf.failing ≡ []
  pub calls : shelf.calls ≡ 0
  pub read_faults : shelf.read_faults ≡ 0
  pub write_faults : shelf.write_faults ≡ 0
