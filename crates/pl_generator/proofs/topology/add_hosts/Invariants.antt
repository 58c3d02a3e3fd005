use Rattle.std.proofs.Common.{◌≡◌, ◌++◌}
use Rattle.std.specs.List.{flat_map, range_with_len}
use Rattle.std.specs.String.{string_bytes}
use Rattle.pl_generator.specs.TopologyText.{host_table}
use Rattle.pl_generator.proofs.topology.add_hosts.Given as goal

abbrev pub invariant-loop-host : goal.invariant-loop-host
invariant-loop-host l =
    string_bytes l.text ≡ string_bytes l.fn.text ++ flat_map (host_table l.k) (range_with_len 0 l.host)
