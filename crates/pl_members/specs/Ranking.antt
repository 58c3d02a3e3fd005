-- Members rise by group, port and address: that is a total order.
use Rattle.std.specs.Prelude.{◌≡◌, refl}
use Rattle.std.specs.declared.cmp.Ordering.{Ordering}
use Rattle.std.specs.Cmp.{IsTotalOrder}
use Rattle.std.specs.Ordering.{nat_cmp, on, ordering_reverse, then_cmp}
use Rattle.std.proofs.Common.{sym, ap, ◌∙◌}
use Rattle.std.proofs.lemmas.Cmp.{nat_cmp_total, on_total, then_total}
use Rattle.pl_node.specs.declared.switch_records.Member.{Member}
use Rattle.pl_layouts.specs.Frames.{mac_number}
use Rattle.pl_switch_rule.specs.Intake.{member_cmp}

abbrev ranks : Member → Member → Ordering
ranks = then_cmp (on (λ m. m.group) nat_cmp) (then_cmp (on (λ m. m.port) nat_cmp) (on (λ m. mac_number m.amac) nat_cmp))

ranks_total : IsTotalOrder ranks
ranks_total = then_total (on_total (λ m. m.group) nat_cmp_total) (then_total (on_total (λ m. m.port) nat_cmp_total) (on_total (λ m. mac_number m.amac) nat_cmp_total))

same_rank : (a b : Member) → member_cmp a b ≡ ranks a b
same_rank a b = refl

pub member_cmp_total : IsTotalOrder member_cmp
member_cmp_total = record {
  antisymm = λ a b. same_rank a b ∙ ranks_total.antisymm a b ∙ ap ordering_reverse (sym (same_rank b a));
  trans = λ a b c low high. same_rank a c ∙ ranks_total.trans a b c (sym (same_rank a b) ∙ low) (sym (same_rank b c) ∙ high);
  congr = λ a b c tie. same_rank a c ∙ ranks_total.congr a b c (sym (same_rank a b) ∙ tie) ∙ sym (same_rank b c);
}
