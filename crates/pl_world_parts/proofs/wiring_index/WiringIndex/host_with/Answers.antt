use Rattle.pl_world_parts.proofs.wiring_index.WiringIndex.host_with.Goals as goal

pub returns : goal.returns
returns c = cc (c.self.invariant.hosts c.args.mac)
