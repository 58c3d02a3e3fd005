use Rattle.std.proofs.Common.{◌≡◌, length, take}
use Rattle.std.specs.List.{flat_map}
use Rattle.hex.specs.Hex.{encode_lower}
use Rattle.pl_output.proofs.printing.hexadecimal.put_pairs.Given as goal

abbrev pub invariant-loop-i : goal.invariant-loop-i
invariant-loop-i l = record {
  so_far : flat_map (λ pair. pair) (take l.i l.pairs) ≡ encode_lower (take l.i l.bytes);
  len : length l.pairs ≡ length l.bytes;
}
