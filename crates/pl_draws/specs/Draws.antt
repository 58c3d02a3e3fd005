-- Numbers drawn one after the other: the multiplier and the summand of Knuth's MMIX generator, modulo 2^64.
use Rattle.std.specs.Prelude.{ℕ, ◌+◌, ◌*◌, ◌/◌, ◌%◌, ◌^◌, ◌≡◌, refl}

-- the number that is drawn after x
abbrev pub next_number : ℕ → ℕ
next_number x = (x * 6364136223846793005 + 1442695040888963407) % 2 ^ 64

-- the upper 32 bits of a number of 64
abbrev pub upper_half : ℕ → ℕ
upper_half x = x / 2 ^ 32

-- what is drawn from 1
first_draw : upper_half (next_number 1) ≡ 1817669548
first_draw = refl
