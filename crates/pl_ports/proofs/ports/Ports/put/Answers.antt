use Rattle.std.proofs.Common.{◌≡◌, ◌<◌, ap, ◌∙◌, set, take, arith}
use Rattle.std.proofs.Math.Seq.{take-set-lt}
use Rattle.pl_ports.specs.PortsViews.{PortsView}
use Rattle.pl_ports.proofs.Tables.{sound_put}
use Rattle.pl_ports.proofs.ports.Ports.put.Goals as goal

pub invariant_of-self : goal.invariant_of-self
invariant_of-self c =
    let k : c.self.inside.k ≡ c.args.self.now.k = ap (λ p. p.k) c.self.view_is in
    record {
      named = c.self.invariant.named;
      size = c.self.invariant.size;
      placed = c.self.invariant.placed;
      heard = sound_put _ _ _ (omega (arith, c.self.invariant.size.high)) c.requires.sound c.self.invariant.heard;
    }

pub returns : goal.returns
returns c =
    let k : c.self.inside.k ≡ c.args.self.now.k = ap (λ p. p.k) c.self.view_is in
    let within : c.from.result < c.self.inside.k = omega arith in
    ap {B = PortsView} (λ ports. record { id = c.self.inside.id; k = c.self.inside.k; place = c.self.inside.place; ports = ports })
    (take-set-lt c.self.inside.k c.self.inside.records c.from.result c.args.heard within
    ∙ ap (λ port. set (take c.self.inside.k c.self.inside.records) port c.args.heard) c.from.ensures)
    ∙ ap {A = PortsView} {B = PortsView} (λ p. record p { ports = set p.ports c.args.port c.args.heard }) c.self.view_is
