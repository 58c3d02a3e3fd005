-- Of a manager whose gathering is in order: each hearing keeps what each treated word keeps.
use Rattle.std.proofs.Common.{◌≡◌, Bool, true, false, List, []}
use Rattle.pl_frame.specs.declared.address.SwitchId.{SwitchId}
use Rattle.pl_gathering.specs.Gathering.{Gathered, Heard, Report, due, hears}
use Rattle.pl_gathering.specs.Keeping.{AreKept, before}
use Rattle.pl_gathering.specs.Orderly.{IsOrderly, has}
use Rattle.pl_gathering.proofs.Hearing.{hearing_keeps}
use Rattle.pl_gathering.proofs.Phases.{everyone}

module _ {K T : Type 0} (treat : K → Heard T → K) (waits : T → Bool) (after : K → K) (P : K → (SwitchId → List T) → Type 0) (kept : AreKept treat waits after P) where
  -- where nothing waits of a switch that is not of the tree
  pub each_hearing_keeps : (ids : List SwitchId) (g : Gathered K T) → IsOrderly ids g → (s : SwitchId) → has ids s ≡ true → (r : Report T) (queue : SwitchId → List (Report T)) →
      ((t : SwitchId) → has ids t ≡ false → queue t ≡ []) → P g.known (due g (before s r queue)) →
      P (hears treat waits after g s r).known (due (hears treat waits after g s r) queue)
  each_hearing_keeps ids g orderly s there r queue strangers holds =
      hearing_keeps treat P kept.each waits after kept.turns kept.then_kept g s r queue orderly.gathering (everyone ids g orderly s there queue strangers) holds
