-- The text of a generated topology, in which all ids and ports are canonical.
use Rattle.std.specs.Prelude.{◌≡◌, ℕ, List, [], ◌∷◌, ◌++◌, codes, decimal, refl}
use Rattle.std.specs.List.{flat_map, range_with_len}
use Rattle.std.specs.Fmt.{digits}
use Rattle.pl_frame.specs.Address.{mac_text, ip4_text}
use Rattle.pl_wiring.specs.Labels.{label_text}
use Rattle.pl_generator.specs.declared.topology.HostLine.{HostLine}
use Rattle.pl_generator.specs.declared.topology.HostLine.TheVariants.{Name, Address, Ip, Edge, Port, Capture}
use Rattle.pl_generator.specs.Hosts.{edge_of, host_count, ip_of, mac_of, port_of}

-- host n is called hn, and its capture hn.pcap
unfoldable pub line_text : HostLine → List ℕ
line_text (Name host) = codes "name = \"h" ++ decimal host ++ codes "\"\n"
line_text (Address mac) = codes "mac = \"" ++ mac_text mac ++ codes "\"\n"
line_text (Ip ip) = codes "ip = \"" ++ ip4_text ip ++ codes "\"\n"
line_text (Edge edge) = codes "edge = \"" ++ label_text edge ++ codes "\"\n"
line_text (Port port) = codes "port = " ++ decimal port ++ codes "\n"
line_text (Capture host) = codes "capture = \"h" ++ decimal host ++ codes ".pcap\"\n"

-- what is said of a host
abbrev pub host_lines : ℕ → ℕ → List HostLine
host_lines k host =
    Name host ∷ Address (mac_of host) ∷ Ip (ip_of host) ∷ Edge (edge_of k host) ∷ Port (port_of k host) ∷ Capture host ∷ []

abbrev pub host_table : ℕ → ℕ → List ℕ
host_table k host = codes "\n[[host]]\n" ++ flat_map line_text (host_lines k host)

unfoldable pub topology_text : ℕ → List ℕ
topology_text k = codes "k = " ++ decimal k ++ codes "\n" ++ flat_map (host_table k) (range_with_len 0 (host_count k))

-- the second host of the second edge switch, at k = 4
fourth_host : host_table 4 3 ≡
    codes "\n[[host]]\nname = \"h3\"\nmac = \"02:00:00:00:00:03\"\nip = \"10.1.0.4\"\nedge = \"e0.1\"\nport = 1\ncapture = \"h3.pcap\"\n"
unfolding line_text digits
fourth_host = refl

-- the last host, at k = 24
last_host : host_table 24 3455 ≡
    codes "\n[[host]]\nname = \"h3455\"\nmac = \"02:00:00:00:0d:7f\"\nip = \"10.1.13.128\"\nedge = \"e23.11\"\nport = 11\ncapture = \"h3455.pcap\"\n"
unfolding line_text digits
last_host = refl
