use Rattle.std.proofs.Common.{ℕ, sym, arith, Contains}
use Rattle.pl_wiring.specs.declared.link.Link.{Link}
use Rattle.pl_wiring.specs.declared.link.Peer.TheVariants.{HostPort}
use Rattle.pl_wiring.specs.FatTree.{IsAt, IsTreeLink}
use Rattle.pl_wiring.specs.Index.{look_at}
use Rattle.pl_wiring.specs.Peers.{IsPeer}
use Rattle.pl_wiring.specs.Wired.{plan_of}
use Rattle.pl_wiring.proofs.Ports.{IsPeer-host_port}
use Rattle.pl_wiring.proofs.Entered.{IsIndex-nothing}
use Rattle.pl_wiring.proofs.Ends.{IsPeer-is, IsPeer-in_range, IsPeer-other_end, IsPeer-symmetric, link_rises, at_contained}
use Rattle.pl_wiring.proofs.wiring.Wiring.peer.Goals as goal

pub index-requires : goal.index-requires
index-requires c =
    let found = c.self.invariant.links_by_port.says (c.args.switch.0, c.args.port) c.in-Some.number (sym (rw c.deref.ensures.value at c.in-Some.ensures)) in
    let ok = c.self.inside.links.ok in omega (arith, found.0)

pub returns-in-None : goal.returns-in-None
returns-in-None c =
    let links = c.self.inside.links.items in
    let tree = c.self.invariant.plan.tree in
    let nothing = IsIndex-nothing (look_at c.self.inside.k c.self.inside.link_at.items) (λ (l : Link) (key : ℕ × ℕ). IsAt l key.0 key.1)
    links (c.args.switch.0, c.args.port) c.self.invariant.links_by_port (sym (rw c.deref.ensures.value at c.in-None.ensures)) in
    let says : IsPeer links c.args.switch.0 c.args.port HostPort = (λ link there. at_contained (λ l. IsAt l c.args.switch.0 c.args.port → ⊥) links link nothing there) in
    rw (← c.self.view_is) (record {
      exact = IsPeer-is c.self.inside.k links c.args.switch.0 c.args.port HostPort tree says;
      says = says;
      in_range = tt;
      at_edge = IsPeer-host_port (plan_of c.self.inside) c.args.switch.0 c.args.port HostPort c.self.invariant.plan
          (rw (← c.self.view_is) at c.requires.switch) (rw (← c.self.view_is) at c.requires.port) says;
      symmetric = IsPeer-symmetric c.self.inside.k links c.args.switch c.args.port HostPort tree says;
    })

pub returns-in-Some : goal.returns-in-Some
returns-in-Some c =
    let links = c.self.inside.links.items in
    let tree = c.self.invariant.plan.tree in
    let found = c.self.invariant.links_by_port.says (c.args.switch.0, c.args.port) c.in-Some.number (sym (rw c.deref.ensures.value at c.in-Some.ensures)) in
    let link = c.index.result.now in
    let at : IsAt link c.args.switch.0 c.args.port = rw c.index.ensures (found.1 link) in
    let there : Contains links link = (c.in-Some.number, found.0, sym c.index.ensures) in
    let rises = link_rises c.self.inside.k link (at_contained (IsTreeLink c.self.inside.k) links link tree.no_other there) in
    let says = IsPeer-other_end links link c.args.switch c.args.port c.other_end.result there at rises c.other_end.ensures.lower c.other_end.ensures.upper in
    rw (← c.self.view_is) (record {
      exact = IsPeer-is c.self.inside.k links c.args.switch.0 c.args.port c.other_end.result tree says;
      says = says;
      in_range = IsPeer-in_range c.self.inside.k links c.args.switch.0 c.args.port c.other_end.result tree says;
      at_edge = IsPeer-host_port (plan_of c.self.inside) c.args.switch.0 c.args.port c.other_end.result c.self.invariant.plan
          (rw (← c.self.view_is) at c.requires.switch) (rw (← c.self.view_is) at c.requires.port) says;
      symmetric = IsPeer-symmetric c.self.inside.k links c.args.switch c.args.port c.other_end.result tree says;
    })
