-- Pseudo addresses and MAC addresses undo each other.
use Rattle.std.proofs.Common.{◌≡◌, ℕ, ◌/◌, ◌%◌, ◌^◌, ◌<◌, List, [], length, sym, ap, ◌∙◌, arith, ◌-◌}
use Rattle.std.proofs.lemmas.List.{append-nil}
use Rattle.byteorder.specs.Endian.{big_from, big_number, big_bytes}
use Rattle.byteorder.specs.Numbers.{big_number-reads_back, length-bytes_high_first}
use Rattle.pl_frame.specs.declared.address.Mac.{Mac}
use Rattle.pl_frame.proofs.Exports.{big_bytes-big_number, IsBytes}
use Rattle.pl_pmac.specs.declared.pmac.Pmac.{Pmac}
use Rattle.pl_pmac.specs.Pmac.{PmacFits, pmac_number, mac_of, pmac_of}

abbrev mac : List ℕ → Mac
mac bytes = record { 0 = bytes }

abbrev made : ℕ → ℕ → ℕ → ℕ → Pmac
made pod position port vmid = record { pod = pod; position = position; port = port; vmid = vmid }

-- the fields of a number of 48 bits
abbrev fields_of : ℕ → Pmac
fields_of n = record { pod = n / 2 ^ 32; position = n / 2 ^ 24 % 256; port = n / 2 ^ 16 % 256; vmid = n % 2 ^ 16 }

fields_of-pmac_number : (a : Pmac) → PmacFits a → fields_of (pmac_number a) ≡ a
fields_of-pmac_number a fits =
    let n : ℕ = pmac_number a in
    let pod : n / 2 ^ 32 ≡ a.pod = omega (arith, fits.position, fits.port, fits.vmid) in
    let position : n / 2 ^ 24 % 256 ≡ a.position = omega (arith, fits.position, fits.port, fits.vmid) in
    let port : n / 2 ^ 16 % 256 ≡ a.port = omega (arith, fits.port, fits.vmid) in
    let vmid : n % 2 ^ 16 ≡ a.vmid = omega (arith, fits.vmid) in
    ap (λ p. made p (n / 2 ^ 24 % 256) (n / 2 ^ 16 % 256) (n % 2 ^ 16)) pod
    ∙ ap (λ p. made a.pod p (n / 2 ^ 16 % 256) (n % 2 ^ 16)) position
    ∙ ap (λ p. made a.pod a.position p (n % 2 ^ 16)) port
    ∙ ap (λ v. made a.pod a.position a.port v) vmid

pub pmac_of-mac_of : (a : Pmac) → PmacFits a → pmac_of (mac_of a) ≡ a
pmac_of-mac_of a fits =
    let value : ℕ = pmac_number a in
    let small : value < 256 ^ 6 = omega (arith, fits.pod, fits.position, fits.port, fits.vmid) in
    let back : big_number 6 (big_bytes 6 value) ≡ value =
    ap (big_from 0 6) (sym (append-nil (big_bytes 6 value))) ∙ big_number-reads_back 6 value [] small in
    ap fields_of back ∙ fields_of-pmac_number a fits

pmac_number-fields_of : (n : ℕ) → pmac_number (fields_of n) ≡ n
pmac_number-fields_of n = omega arith

pub mac_of-pmac_of : (m : Mac) → length m.0 ≡ 6 → IsBytes m.0 → mac_of (pmac_of m) ≡ m
mac_of-pmac_of m six small =
    ap (λ n. mac (big_bytes 6 n)) (pmac_number-fields_of (big_number 6 m.0)) ∙ ap mac (big_bytes-big_number 6 m.0 six small)

pub length-mac_of : (a : Pmac) → length (mac_of a).0 ≡ 6
length-mac_of a = length-bytes_high_first 6 (pmac_number a)

pub same_pmac_number : (y z : Pmac) → PmacFits y → PmacFits z → pmac_number y ≡ pmac_number z → y ≡ z
same_pmac_number y z fits_y fits_z same =
    sym (pmac_of-mac_of y fits_y) ∙ ap (λ m. pmac_of (record { 0 = big_bytes 6 m })) same ∙ pmac_of-mac_of z fits_z
