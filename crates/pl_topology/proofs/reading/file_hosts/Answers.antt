use Rattle.pl_topology.specs.FileEntries.{host_entries}
use Rattle.pl_topology.proofs.reading.file_hosts.Goals as goal

pub returns : goal.returns
unfolding host_entries
returns c =
    let read = (rw c.deref.ensures.value at c.read_hosts.ensures) in
    rw c.in_ok-listed.ensures read
