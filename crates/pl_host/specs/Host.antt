-- A host as its rule sees it.
use Rattle.std.specs.Prelude.{◌≡◌, List}
use Rattle.pl_node.specs.declared.acts.HostAct.{HostAct}
use Rattle.pl_node.specs.Gains.{Gains}
use Rattle.pl_node.specs.HostViews.{HostView}
use Rattle.pl_host_rule.specs.HostRule.{HostStep}
use Rattle.pl_node.specs.HostInputs.{HostAnswer}
use Rattle.pl_host.specs.declared.host.Host.{Host}

-- what a host keeps
abbrev pub host_view : Host → HostView
host_view host = record {
  me = host.me;
  table = host.hosts;
  cache = host.neighbours.cache;
  joined = host.joined;
  held = host.neighbours.waiting;
}

-- a host takes a step: its view after it, its answer, and its outbox before and after
abbrev pub Takes : HostStep → HostView → HostAnswer → List HostAct → List HostAct → Type 0
Takes step after answer outbox_before outbox_after =
    Gains outbox_before outbox_after (λ acts. step ≡ record { view = after; acts = acts; answer = answer })
