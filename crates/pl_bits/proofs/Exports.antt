-- What other crates may name of these proofs.
pub use Rattle.pl_bits.proofs.Either.{either_of}
pub use Rattle.pl_bits.proofs.RowBits.{bit_is, bits_of-bit_cleared, bits_of-bit_set, bits_of-zeros, index_below, length-bits_of}
pub use Rattle.pl_bits.proofs.WordBits.{bit_cleared, bit_set, cleared_elsewhere, cleared_here, has_bit_at, has_bit_in, has_bit_of_zero, is_set-zero, no_bit_of_zeros, set_bit_within, set_elsewhere, set_here, zeros_at}
