-- A manager that begins anew knows nothing.
use Rattle.std.proofs.Common.{◌≡◌, ℕ, [], Result, Ok, Err, OnOk, ap, ◌∙◌}
use Rattle.pl_gathering.specs.Gathering.{restarted}
use Rattle.pl_gatherer.specs.Gatherers.{Gathering, at_first}
use Rattle.pl_node.specs.ManagerViews.{booted_manager, numbers_before, restarted_manager}
use Rattle.pl_manager.specs.Manager.{nothing_known, view_of}
use Rattle.pl_manager.specs.Routing.{nothing_routed}
use Rattle.pl_manager.specs.declared.known.Known.{Known}

pub known_anew : (known : Known) (k epoch : ℕ) → known.k ≡ k → known.routing ≡ nothing_routed → known.askers ≡ [] →
    known.registry ≡ record { addresses = []; reported = []; owners = []; count = numbers_before epoch } → nothing_known known k epoch
known_anew known k epoch same routing askers registry = λ i. record (restarted_manager k epoch) {
  k = same i;
  told = (routing i).told;
  members = (routing i).members;
  pods = askers i;
  learnt = registry i;
}

pub view_anew : (known : Known) (k epoch : ℕ) (g old : Gathering) → nothing_known known k epoch → g ≡ restarted tt epoch old → view_of known g ≡ restarted_manager k epoch
view_anew known k epoch g old nothing is = ap (view_of known) is ∙ nothing

pub view_at_first : (known : Known) (k many : ℕ) (g : Gathering) → nothing_known known k 0 → g ≡ at_first many → view_of known g ≡ booted_manager k
view_at_first known k many g nothing is = ap (view_of known) is ∙ nothing

pub anew_ok : {T E : Type 0} (result : Result T E) (known : Known) (k epoch : ℕ) (g old : Gathering) → OnOk result (nothing_known known k epoch) → OnOk result (g ≡ restarted tt epoch old) →
    OnOk result (view_of known g ≡ restarted_manager k epoch)
anew_ok (Ok x) known k epoch g old nothing is = view_anew known k epoch g old nothing is
anew_ok (Err e) known k epoch g old nothing is = tt
