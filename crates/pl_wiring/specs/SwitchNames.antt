-- Which switch of a tree is called so.
use Rattle.std.specs.Prelude.{ℕ, Bool, ◌&&◌, nat_lt, if◌then◌else◌, List, Option, Some, None, option_and_then, ◌/◌}
use Rattle.pl_wiring.specs.declared.label.SwitchNo.{SwitchNo}
use Rattle.pl_wiring.specs.declared.label.Label.{Label}
use Rattle.pl_wiring.specs.declared.label.Label.TheVariants.{Edge, Aggregation, Core}
use Rattle.pl_wiring.specs.Labels.{number_of}
use Rattle.pl_wiring.specs.Texts.{label_of_text}

-- the label of a switch of this tree
abbrev pub is_label : ℕ → Label → Bool
is_label k (Edge pod i) = nat_lt pod k && nat_lt i (k / 2)
is_label k (Aggregation pod j) = nat_lt pod k && nat_lt j (k / 2)
is_label k (Core group m) = nat_lt group (k / 2) && nat_lt m (k / 2)

-- the switch of this label, where there is one
unfoldable pub switch_named : ℕ → List ℕ → Option SwitchNo
switch_named k text =
    option_and_then (λ label. if is_label k label then Some (record { 0 = number_of k label }) else None) (label_of_text text)
