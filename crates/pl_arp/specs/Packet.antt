-- The ARP packet for Ethernet and IPv4 (RFC 826, "Packet format").
use Rattle.std.specs.Prelude.{◌≡◌, ℕ, ◌^◌, ◌<◌, List, [], ◌∷◌, ◌++◌, length, take, drop, nat_lt, not, if◌then◌else◌, Result, Ok, Err}
use Rattle.std.specs.Str.{bytes_eq}
use Rattle.byteorder.specs.Endian.{big_number, big_bytes}
use Rattle.pl_frame.specs.Address.{mac_at}
use Rattle.pl_arp.specs.declared.packet.Arp.{Arp}
use Rattle.pl_arp.specs.declared.packet.ArpError.{ArpError}
use Rattle.pl_arp.specs.declared.packet.ArpError.TheVariants.{Cut, OtherKind}

-- hardware type 1 (Ethernet), protocol type 0x0800 (IPv4), and the lengths of their addresses, 6 and 4
abbrev pub ethernet_ipv4 : List ℕ
ethernet_ipv4 = 0 ∷ 1 ∷ 8 ∷ 0 ∷ 6 ∷ 4 ∷ []

-- the 28 bytes of a packet: the kinds, the opcode, the sender's two addresses, the target's two addresses
abbrev pub layout : Arp → List ℕ
layout a = ethernet_ipv4 ++ (big_bytes 2 a.op ++ (a.sha.0 ++ (big_bytes 4 a.spa.0 ++ (a.tha.0 ++ big_bytes 4 a.tpa.0))))

-- the packet that stands at these places, whatever its kinds
abbrev pub fields_at_front : List ℕ → Arp
fields_at_front payload = record {
  op = big_number 2 (drop 6 payload);
  sha = mac_at payload 8;
  spa = record { 0 = big_number 4 (drop 14 payload) };
  tha = mac_at payload 18;
  tpa = record { 0 = big_number 4 (drop 24 payload) };
}

-- the packet at the front of a payload, or why there is none
abbrev pub arp_in : List ℕ → Result Arp ArpError
arp_in payload =
    if nat_lt (length payload) 28 then Err Cut
    else if not (bytes_eq (take 6 payload) ethernet_ipv4) then Err OtherKind
    else Ok (fields_at_front payload)

-- each field is within its type
pub record ArpFits (a : Arp) : Type 0 where
  pub op : a.op < 2 ^ 16
  pub sha : length a.sha.0 ≡ 6
  pub spa : a.spa.0 < 2 ^ 32
  pub tha : length a.tha.0 ≡ 6
  pub tpa : a.tpa.0 < 2 ^ 32
