-- How long a packet is.
use Rattle.byteorder.specs.Endian.{big_bytes}
use Rattle.byteorder.specs.Numbers.{length-bytes_high_first}
use Rattle.std.proofs.Common.{arith, length, length-append, List, ℕ, ◌++◌, ◌+◌, ◌≡◌}
use Rattle.pl_arp.specs.declared.packet.Arp.{Arp}
use Rattle.pl_arp.specs.Packet.{ethernet_ipv4, layout}

pub length-layout : (a : Arp) → length a.sha.0 ≡ 6 → length a.tha.0 ≡ 6 → length (layout a) ≡ 28
length-layout a sha tha = let op : List ℕ = big_bytes 2 a.op in
    let spa : List ℕ = big_bytes 4 a.spa.0 in
    let tpa : List ℕ = big_bytes 4 a.tpa.0 in
    omega (
      arith,
      length-append ethernet_ipv4 (op ++ (a.sha.0 ++ (spa ++ (a.tha.0 ++ tpa)))),
      length-append op (a.sha.0 ++ (spa ++ (a.tha.0 ++ tpa))),
      length-append a.sha.0 (spa ++ (a.tha.0 ++ tpa)),
      length-append spa (a.tha.0 ++ tpa),
      length-append a.tha.0 tpa,
      length-bytes_high_first 2 a.op,
      length-bytes_high_first 4 a.spa.0,
      length-bytes_high_first 4 a.tpa.0,
      sha,
      tha,
    )
