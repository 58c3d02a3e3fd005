-- Pseudo addresses as numbers and as six bytes.
use Rattle.std.proofs.Common.{◌≡◌, ℕ, ◌/◌, ◌%◌, ◌^◌, sym, ◌∙◌, ap, arith}
use Rattle.pl_pmac.specs.declared.pmac.Pmac.{Pmac}
use Rattle.pl_pmac.specs.Pmac.{PmacFits, mac_of, pmac_number}
use Rattle.pl_pmac.proofs.Exports.{pmac_of-mac_of}
use Rattle.pl_layouts.specs.Frames.{mac_number}

-- the address that stands in a frame
pub number_in : (n : ℕ) → pmac_number (record { pod = n / 2 ^ 32; position = n / 2 ^ 24 % 256; port = n / 2 ^ 16 % 256; vmid = n % 2 ^ 16 }) ≡ n
number_in n = omega arith

-- a pseudo address in six bytes
pub number_of_mac : (x : Pmac) → PmacFits x → mac_number (mac_of x) ≡ pmac_number x
number_of_mac x fits = sym (number_in (mac_number (mac_of x))) ∙ ap pmac_number (pmac_of-mac_of x fits)
