-- What is read of the tables, one value at a time.
use Rattle.std.proofs.Common.{◌≡◌, ℕ, ◌/◌, Bool}
use Rattle.std.specs.Bool.{Decides}
use Rattle.std.proofs.lemmas.Bool.Decides.{same_from_decides, Decides-and, Decides-ltb}
use Rattle.pl_wiring.specs.declared.label.Label.{Label}
use Rattle.pl_wiring.specs.declared.label.Label.TheVariants.{Edge, Aggregation, Core}
use Rattle.pl_wiring.specs.Labels.{IsLabel}
use Rattle.pl_wiring.specs.SwitchNames.{is_label}

pub is_label-Decides : (k : ℕ) (label : Label) → Decides (is_label k label) (IsLabel k label)
is_label-Decides k (Edge pod i) = Decides-and _ _ (Decides-ltb pod k) (Decides-ltb i (k / 2))
is_label-Decides k (Aggregation pod j) = Decides-and _ _ (Decides-ltb pod k) (Decides-ltb j (k / 2))
is_label-Decides k (Core group m) = Decides-and _ _ (Decides-ltb group (k / 2)) (Decides-ltb m (k / 2))

pub is_label_from : (k : ℕ) (label : Label) (r : Bool) → Decides r (IsLabel k label) → r ≡ is_label k label
is_label_from k label r decides = same_from_decides r (is_label k label) decides (is_label-Decides k label)
