-- The hosts of a generated topology: how many there are, what they are called, and where they stand.
use Rattle.std.specs.Prelude.{ℕ, ◌+◌, ◌*◌, ◌/◌, ◌%◌, List, [], ◌∷◌, ◌++◌, codes, decimal}
use Rattle.pl_frame.specs.declared.address.Mac.{Mac}
use Rattle.pl_frame.specs.declared.address.Ip4.{Ip4}
use Rattle.pl_wiring.specs.declared.label.Label.{Label}
use Rattle.pl_wiring.specs.Labels.{label_of}

-- one at each host port of a fat tree of switches with k ports
abbrev pub host_count : ℕ → ℕ
host_count k = k * k * k / 4

-- 02:00:00:00, and the host's number as two bytes
abbrev pub mac_of : ℕ → Mac
mac_of host = record { 0 = 2 ∷ 0 ∷ 0 ∷ 0 ∷ host / 256 ∷ host % 256 ∷ [] }

-- 10.1.0.1 for the first
abbrev pub ip_of : ℕ → Ip4
ip_of host = record { 0 = 0x0a010000 + (host + 1) }

-- hosts fill the edge switches in label order
abbrev pub edge_of : ℕ → ℕ → Label
edge_of k host = label_of k (host / (k / 2))

-- and of each its k / 2 host ports
abbrev pub port_of : ℕ → ℕ → ℕ
port_of k host = host % (k / 2)

-- the file of a host's capture, as h0.pcap
abbrev pub capture_file : ℕ → List ℕ
capture_file host = codes "h" ++ decimal host ++ codes ".pcap"
