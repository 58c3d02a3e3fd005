use Rattle.std.proofs.Common.{◌≡◌, ◌∙◌, ◌<◌, ℕ, ap, bit_or, length, slice_index}
use Rattle.pl_bits.specs.Rows.{either_row}
use Rattle.pl_bits.proofs.RowBits.{bits_added}
use Rattle.pl_bits.proofs.row.Row.add.Goals as goal

pub returns : goal.returns
returns c =
    let old = c.self.inside.words.items in
    let more = c.more.inside.words.items in
    let new = c.add_words.new.words.items in
    let each : (i : ℕ) → i < length old → slice_index new i ≡ bit_or (slice_index old i) (slice_index more i) =
    λ i within.
    c.add_words.ensures.each i within ∙ ap (λ ws. bit_or (slice_index old i) (slice_index ws i)) c.as_slice.ensures.value in
    bits_added old more new c.self.inside.len c.more.inside.len c.min-self-inside.result c.self.invariant c.min-self-inside.ensures each
    ∙ (λ j. either_row (c.self.view_is j) (c.more.view_is j))
