-- Where a fabric can begin.
use Rattle.std.proofs.Common.{◌≡◌, length}
use Rattle.std.proofs.lemmas.List.Elements.{All-weaker}
use Rattle.pl_wiring.specs.declared.host.Host.{Host}
use Rattle.pl_wiring.specs.Plan.{IsHostMac, IsPlan, Plan}
use Rattle.pl_world.specs.Booting.{CanBegin}

-- a wiring is one at which a fabric can begin
pub can_begin : (plan : Plan) → IsPlan plan → CanBegin plan
can_begin plan is = record {
  is_plan = is;
  addresses = All-weaker (λ (h : Host). IsHostMac h.mac) (λ (h : Host). length h.mac.0 ≡ 6) (λ h mac. mac.six_bytes) plan.hosts is.host_macs;
}
