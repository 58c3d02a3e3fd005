use Rattle.std.proofs.Common.{take, drop, get_or}
use Rattle.pl_layouts.specs.Flow.{port_bytes}
use Rattle.pl_flow.proofs.Hashing.{hashed_in_parts}
use Rattle.pl_flow.proofs.flow.hash_packet.Goals as goal

pub returns : goal.returns
returns c = let packet = c.args.packet.now in
    hashed_in_parts c.args.hash (get_or packet 9 0) (take 8 (drop 12 packet)) (port_bytes packet)
    c.hash_byte-with_protocol.ensures c.hash_further-with_addresses.ensures c.port_bytes.ensures c.hash_further.ensures
