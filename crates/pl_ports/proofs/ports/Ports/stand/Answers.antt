use Rattle.pl_ports.proofs.ports.Ports.stand.Goals as goal

pub invariant_of-self : goal.invariant_of-self
invariant_of-self c = record {
  named = c.self.invariant.named;
  size = c.self.invariant.size;
  placed = c.requires;
  heard = c.self.invariant.heard;
}
