-- The hosts with whose pseudo addresses IPv4 addresses were told last.
use Rattle.std.specs.Prelude.{List, [], ◌∷◌}
use Rattle.std.specs.BTreeMap.{insert_entry}
use Rattle.pl_frame.specs.declared.address.Ip4.{Ip4}
use Rattle.pl_frame.specs.declared.address.Mac.{Mac}
use Rattle.pl_node.specs.HostViews.{ip_cmp}

-- entries in any order, by rising IPv4 address
abbrev pub by_address : List (Ip4 × Mac) → List (Ip4 × Mac)
by_address [] = []
by_address (e ∷ entries) = insert_entry ip_cmp (by_address entries) e.0 e.1
