-- What a set of ports is.
use Rattle.std.specs.Prelude.{◌≡◌, ℕ, Bool, List, [], ◌∷◌, ◌==◌, refl}
use Rattle.std.specs.Int.{bit_at}
use Rattle.std.specs.List.{filter, range_with_len}
use Rattle.pl_lists.specs.declared.port_set.PortSet.{PortSet}

-- whether the bit of a port is set
abbrev pub has_port : PortSet → ℕ → Bool
has_port set port = bit_at set.0 port == 1

-- the ports below 32 of a set, rising
unfoldable pub ports_of : PortSet → List ℕ
ports_of set = filter (has_port set) (range_with_len 0 32)

-- the bits 2 and 31 are the ports 2 and 31
pub two_bits_are_two_ports : ports_of (record { 0 = 0x8000_0004 }) ≡ 2 ∷ 31 ∷ []
unfolding ports_of
two_bits_are_two_ports = refl
