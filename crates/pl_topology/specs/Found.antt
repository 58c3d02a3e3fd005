-- Maps that find an entry of a list.
use Rattle.std.specs.Prelude.{◌≡◌, ℕ, pos, nat_eq, nat_le, if◌then◌else◌, Bool, ◌&&◌, List, option_map}
use denote.Ref.{Bor}
use Rattle.std.specs.HashMap.{get, HashMap}
use Rattle.std.specs.HashSet.{contains, HashSet}
use Rattle.std.specs.List.{find, list_any}
use Rattle.std.specs.Str.{bytes_eq}
use Rattle.std.specs.declared.hash.FoldHasher.{FoldHasher}
use Rattle.std.specs.declared.hash.BuildHasherDefault.{BuildHasherDefault}
use Rattle.pl_frame.specs.declared.address.SwitchId.{SwitchId}
use Rattle.pl_wiring.specs.declared.label.SwitchNo.{SwitchNo}
use Rattle.pl_topology.specs.declared.entries.SwitchEntry.{SwitchEntry}
use Rattle.pl_topology.specs.declared.entries.LinkEntry.{LinkEntry}
use Rattle.pl_topology.specs.declared.entries.HostEntry.{HostEntry}
use Rattle.pl_topology.specs.declared.entries.PortUse.{PortUse}
use Rattle.pl_topology.specs.Checks.{has_id, is_called, has_mac, has_ip, is_at}
use Rattle.pl_topology.specs.Entries.{is_of, is_between}

-- the map has the id that the entries give a switch
abbrev pub FindsIds : HashMap ℕ SwitchId (BuildHasherDefault FoldHasher) → List SwitchEntry → Type 0
FindsIds ids entries = (switch : SwitchNo) → get nat_eq ids switch.0 ≡ option_map (λ s. s.id) (find (is_of switch) entries)

abbrev pub same_pair : ℕ × ℕ → ℕ × ℕ → Bool
same_pair p q = nat_eq p.0 q.0 && nat_eq p.1 q.1

-- the numbers of two switches, the smaller first
abbrev pub ends_of : SwitchNo → SwitchNo → ℕ × ℕ
ends_of a b = if nat_le a.0 b.0 then (a.0, b.0) else (b.0, a.0)

-- the map has the entry of the link between two switches
abbrev pub FindsLinkEntries : HashMap (ℕ × ℕ) LinkEntry (BuildHasherDefault FoldHasher) → List LinkEntry → Type 0
FindsLinkEntries links entries = (a b : SwitchNo) → get same_pair links (ends_of a b) ≡ find (is_between a b) entries

-- the set has the ids of these entries
abbrev pub SeesIds : HashSet ℕ (BuildHasherDefault FoldHasher) → List SwitchEntry → Type 0
SeesIds seen entries = (id : SwitchId) → contains nat_eq seen id.0 ≡ list_any (has_id id) entries

-- the set has the names of these hosts
abbrev pub SeesNames : HashSet (Bor (List ℕ)) (BuildHasherDefault FoldHasher) → List HostEntry → Type 0
SeesNames seen hosts = (name : Bor (List ℕ)) → contains (λ x y. bytes_eq x.now y.now) seen name ≡ list_any (is_called name.now) hosts

abbrev pub SeesMacs : HashSet (List ℕ) (BuildHasherDefault FoldHasher) → List HostEntry → Type 0
SeesMacs seen hosts = (mac : List ℕ) → contains bytes_eq seen mac ≡ list_any (has_mac mac) hosts

abbrev pub SeesIps : HashSet ℕ (BuildHasherDefault FoldHasher) → List HostEntry → Type 0
SeesIps seen hosts = (ip : ℕ) → contains nat_eq seen ip ≡ list_any (has_ip ip) hosts

-- the set has the ports that count among these
abbrev pub SeesPorts : HashSet (ℕ × ℕ) (BuildHasherDefault FoldHasher) → List PortUse → Type 0
SeesPorts seen uses = (switch port : ℕ) → contains same_pair seen (switch, port) ≡ list_any (is_at switch (pos port)) uses
