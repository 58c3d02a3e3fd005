use Rattle.std.proofs.Common.{◌≡◌, ◌∙◌, ap, not, sym}
use Rattle.std.specs.Ordering.{is_eq}
use Rattle.std.proofs.lemmas.Bool.{and_from, false≢true, not-true}
use Rattle.pl_bits.specs.Bits.{has_bit}
use Rattle.pl_node.specs.AvoidLists.{avoided_cmp}
use Rattle.pl_node.specs.AvoidRows.{entry_of}
use Rattle.pl_node.specs.Hidden.{hidden_at}
use Rattle.pl_node.proofs.AvoidRows.{Avoided, is_itself}
use Rattle.pl_node.proofs.Shown.{bit_apart}
use Rattle.pl_node.proofs.avoid_within.is_number_apart.Goals as goal

pub returns-then-not-has : goal.returns-then-not-has
returns-then-not-has c = (
  λ u. bit_apart c.args.row.now c.args.number c.args.also (λ set. absurd (false≢true (sym (sym c.has.ensures ∙ c.if-not-has.true) ∙ set))),
  λ all. ap not c.if-not-has.true,
)

pub returns-else-not-has : goal.returns-else-not-has
returns-else-not-has c =
    let row = c.args.row.now in
    let x = entry_of row.neighbour c.args.number in
    let said : c.is_clear_of.result ≡ not (hidden_at c.args.also x.1 x.2) =
    c.is_clear_of.ensures ∙ ap (λ (e : Avoided). not (hidden_at c.args.also e.1 e.2)) c.entry.ensures in (
      λ h. bit_apart row c.args.number c.args.also (λ set. not-true (hidden_at c.args.also x.1 x.2) (sym said ∙ h)),
      λ all. said ∙ ap not (all x (and_from (has_bit row.words c.args.number) (is_eq (avoided_cmp x x)) (sym c.has.ensures ∙ c.if-not-has.false) (is_itself x))),
    )
