use Rattle.std.specs.String.{string_bytes}
use Rattle.pl_generator.specs.TopologyText.{host_table}
use Rattle.pl_generator.proofs.Ranges.{text_of_next}
use Rattle.pl_generator.proofs.topology.add_hosts.Goals as goal

pub loop-host-preserved : goal.loop-host-preserved
loop-host-preserved c =
    text_of_next (host_table c.args.k) (string_bytes c.args.text.now) (string_bytes c.loop-host.text)
    (string_bytes c.add_host.new.text) c.loop-host.host c.loop-host.invariant c.in_ok-add_host.ensures
