-- The numbers of a capture file: unsigned, and in the byte order of the machine that wrote it.
use Rattle.std.specs.Prelude.{ℕ, List, drop}
use Rattle.byteorder.specs.Endian.{little_number, big_number}
use Rattle.pl_capture.specs.declared.endianness.Endianness.{Endianness}
use Rattle.pl_capture.specs.declared.endianness.Endianness.TheVariants.{Little, Big}

-- the number in the first n bytes
abbrev pub number : Endianness → ℕ → List ℕ → ℕ
number Little n bytes = little_number n bytes
number Big n bytes = big_number n bytes

-- the field of n bytes at an offset of a file
abbrev pub field : List ℕ → Endianness → ℕ → ℕ → ℕ
field file order at n = number order n (drop at file)
