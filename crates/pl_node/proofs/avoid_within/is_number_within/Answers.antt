use Rattle.std.proofs.Common.{◌≡◌, ◌∙◌, ap, sym, not}
use Rattle.std.proofs.lemmas.Bool.{and_from}
use Rattle.std.specs.Ordering.{is_eq}
use Rattle.pl_bits.specs.Bits.{has_bit}
use Rattle.pl_node.specs.AvoidLists.{avoided_cmp}
use Rattle.pl_node.specs.AvoidRows.{entry_of, is_listed}
use Rattle.pl_node.proofs.AvoidRows.{bit_listed, is_itself, no_bit}
use Rattle.pl_node.proofs.avoid_within.is_number_within.Goals as goal

pub returns-then-not-has : goal.returns-then-not-has
returns-then-not-has c =
    (λ u. no_bit c.args.row.now c.args.number c.args.other.now (sym c.has.ensures ∙ c.if-not-has.true), λ all. ap not c.if-not-has.true)

pub returns-else-not-has : goal.returns-else-not-has
returns-else-not-has c =
    let row = c.args.row.now in
    let x = entry_of row.neighbour c.args.number in
    let other = c.args.other.now in
    let said : c.contains.result ≡ is_listed x other = c.contains.ensures ∙ ap (λ e. is_listed e other) c.entry.ensures in (
      λ h. bit_listed row c.args.number other (λ set. sym said ∙ h),
      λ all. said ∙ all x (and_from (has_bit row.words c.args.number) (is_eq (avoided_cmp x x)) (sym c.has.ensures ∙ c.if-not-has.false) (is_itself x)),
    )
