-- A switch that has just started.
use Rattle.std.proofs.Common.{ℕ, zero, suc, ◌/◌, [], replicate, slice_index_or, None, ◌≡◌, Some, subst, sym}
use Rattle.std.specs.List.{AllByRecursion}
use Rattle.std.proofs.lemmas.List.{length-replicate}
use Rattle.pl_lemmas.proofs.Exports.{replicated}
use Rattle.pl_frame.specs.declared.address.SwitchId.{SwitchId}
use Rattle.pl_node.specs.Accounting.{HasMac, IsShaped, RemembersMac, WereGranted}
use Rattle.pl_node.specs.PortRecords.{new_port}
use Rattle.pl_node.specs.SwitchFacts.{CanBoot, hold_at, switch_at_boot}
use Rattle.pl_node.specs.declared.switch_records.Hold.{Hold}

no_grants : (k : ℕ) → AllByRecursion (AllByRecursion HasMac) (replicate k [])
no_grants zero = tt
no_grants (suc k) = (tt, no_grants k)

no_sources : (k : ℕ) → AllByRecursion RemembersMac (replicate k None)
no_sources zero = tt
no_sources (suc k) = (tt, no_sources k)

none_free : (k port : ℕ) → WereGranted (slice_index_or (replicate k []) port []) (slice_index_or (replicate k []) port [])
none_free k port =
    subst (λ vmids. WereGranted (slice_index_or (replicate k []) port []) vmids) (sym (replicated k port [])) tt

pub booted_is_shaped : (id : SwitchId) (k : ℕ) → CanBoot id k → IsShaped (switch_at_boot id k)
booted_is_shaped id k can = record {
  named = can.named;
  id = can.within;
  low = can.size.low;
  high = can.size.high;
  even = can.size.even;
  ports = length-replicate k new_port;
  holds = length-replicate (k / 2) None;
  grants = length-replicate k [];
  freed = length-replicate k [];
  remembered = length-replicate k None;
  granted = no_grants k;
  free = none_free k;
  sources = no_sources k;
}

pub nothing_held : (id : SwitchId) (k q : ℕ) → hold_at (switch_at_boot id k) q ≡ None
nothing_held id k q = replicated (k / 2) q None

pub unheld : (id : SwitchId) (k q : ℕ) (hold : Hold) → hold_at (switch_at_boot id k) q ≡ Some hold → ⊥
unheld id k q hold is = let none = nothing_held id k q in absurd (cc (none, is))
