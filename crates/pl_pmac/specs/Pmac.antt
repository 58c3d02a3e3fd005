-- Pseudo addresses as numbers (PortLand, SIGCOMM 2009, section 3.2).
use Rattle.std.specs.Prelude.{◌≡◌, ℕ, ◌+◌, ◌*◌, ◌/◌, ◌%◌, ◌^◌, ◌<◌, [], ◌∷◌, refl}
use Rattle.byteorder.specs.Endian.{big_number, big_bytes}
use Rattle.pl_frame.specs.declared.address.Mac.{Mac}
use Rattle.pl_pmac.specs.declared.pmac.Pmac.{Pmac}

-- each field is within its type
pub record PmacFits (a : Pmac) : Type 0 where
  pub pod : a.pod < 2 ^ 16
  pub position : a.position < 2 ^ 8
  pub port : a.port < 2 ^ 8
  pub vmid : a.vmid < 2 ^ 16

-- the address as a number of 48 bits
abbrev pub pmac_number : Pmac → ℕ
pmac_number a = a.pod * 2 ^ 32 + a.position * 2 ^ 24 + a.port * 2 ^ 16 + a.vmid

-- the MAC address of that number, its most significant byte first
abbrev pub mac_of : Pmac → Mac
mac_of a = record { 0 = big_bytes 6 (pmac_number a) }

-- the pseudo address that stands in the bits of a MAC address
abbrev pub pmac_of : Mac → Pmac
pmac_of mac = let n = big_number 6 mac.0 in
    record { pod = n / 2 ^ 32; position = n / 2 ^ 24 % 256; port = n / 2 ^ 16 % 256; vmid = n % 2 ^ 16 }

-- pod 2, position 1, port 0, vmid 1
worked_example : mac_of (record { pod = 2; position = 1; port = 0; vmid = 1 }) ≡ record { 0 = 0 ∷ 2 ∷ 1 ∷ 0 ∷ 0 ∷ 1 ∷ [] }
worked_example = refl

-- the largest address
all_ones : pmac_of (record { 0 = 255 ∷ 255 ∷ 255 ∷ 255 ∷ 255 ∷ 255 ∷ [] }) ≡ record { pod = 65535; position = 255; port = 255; vmid = 65535 }
all_ones = refl
