-- The keys of a topology file.
use Rattle.std.specs.Prelude.{ℕ, List, [], ◌∷◌, codes}
use Rattle.pl_topology.specs.declared.key.Key.{Key}
use Rattle.pl_topology.specs.declared.key.Key.TheVariants.{Switch, Link, Host, Label, Id, A, PortA, B, PortB, Name, Mac, Ip, Edge, Port, Capture}

-- as a file spells it
abbrev pub key_text : Key → List ℕ
key_text Switch = codes "switch"
key_text Link = codes "link"
key_text Host = codes "host"
key_text Label = codes "label"
key_text Id = codes "id"
key_text A = codes "a"
key_text PortA = codes "port_a"
key_text B = codes "b"
key_text PortB = codes "port_b"
key_text Name = codes "name"
key_text Mac = codes "mac"
key_text Ip = codes "ip"
key_text Edge = codes "edge"
key_text Port = codes "port"
key_text Capture = codes "capture"

-- the keys that a table of each kind has, in their order; a host may also have a `capture`
abbrev pub switch_keys : List Key
switch_keys = Label ∷ Id ∷ []

abbrev pub link_keys : List Key
link_keys = A ∷ PortA ∷ B ∷ PortB ∷ []

abbrev pub host_keys : List Key
host_keys = Name ∷ Mac ∷ Ip ∷ Edge ∷ Port ∷ []
