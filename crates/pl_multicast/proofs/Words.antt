-- The next word of some bytes.
use Rattle.std.proofs.Common.{◌≡◌, ℕ, ◌≤◌, List, [], ◌∷◌, length, drop, ap, arith}
use Rattle.byteorder.specs.Endian.{big_number}
use Rattle.pl_layouts.specs.Checksum.{words}

pub words-step : (bytes : List ℕ) → 2 ≤ length bytes → words bytes ≡ big_number 2 bytes ∷ words (drop 2 bytes)
words-step [] long = absurd (omega arith)
words-step (high ∷ []) long = absurd (omega arith)
words-step (high ∷ (low ∷ rest)) long = ap (λ n. n ∷ words rest) (omega arith)
