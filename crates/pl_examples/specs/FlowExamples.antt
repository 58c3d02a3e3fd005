-- Examples of the hash of a flow, with the published values of FNV-1a.
use Rattle.std.specs.Prelude.{◌≡◌, ℕ, ◌+◌, ◌%◌, List, [], ◌∷◌, ◌++◌, codes, replicate, refl}
use Rattle.hex.specs.Hex.{decode_pairs}
use Rattle.pl_examples.specs.ExampleFrames.{bytes_of}
use Rattle.pl_layouts.specs.Flow.{flow_bytes, fnv1a, flow_hash}

hash_of_no_bytes : fnv1a [] ≡ 0x811c9dc5
unfolding fnv1a
hash_of_no_bytes = refl

hash_of_a : fnv1a (codes "a") ≡ 0xe40c292c
unfolding fnv1a
hash_of_a = refl

hash_of_foobar : fnv1a (codes "foobar") ≡ 0xbf9cf968
unfolding fnv1a
hash_of_foobar = refl

-- from 02:00:00:00:00:0a to 02:00:00:00:00:0b
abbrev pub head_of_ipv4 : List ℕ
head_of_ipv4 = bytes_of (codes "02000000000b02000000000a0800")

-- a UDP datagram from 10.0.0.1, port 4660, to 10.0.0.2, port 22136, with the two bytes of flags and offset of its IPv4 header
abbrev pub a_datagram : List ℕ → List ℕ
a_datagram fragment =
    head_of_ipv4 ++ bytes_of (codes "4500001c0000") ++ fragment ++ bytes_of (codes "401100000a0000010a000002") ++ bytes_of (codes "1234567800080000")

flow_of_a_datagram : flow_bytes (a_datagram (0x40 ∷ 0 ∷ [])) ≡ head_of_ipv4 ++ bytes_of (codes "110a0000010a00000212345678")
unfolding flow_bytes decode_pairs
flow_of_a_datagram = refl

-- behind the header of a later fragment there are no ports, and the first fragment of several goes the way of the others
flow_of_a_later_fragment : flow_bytes (a_datagram (0 ∷ 1 ∷ [])) ≡ head_of_ipv4 ++ bytes_of (codes "110a0000010a000002")
unfolding flow_bytes decode_pairs
flow_of_a_later_fragment = refl

flow_of_a_first_fragment : flow_bytes (a_datagram (0x20 ∷ 0 ∷ [])) ≡ head_of_ipv4 ++ bytes_of (codes "110a0000010a000002")
unfolding flow_bytes decode_pairs
flow_of_a_first_fragment = refl

-- a frame of another type is told apart by its first 14 bytes alone; an even number of these is odd, so the hash is odd
flow_of_another_type : flow_bytes (bytes_of (codes "00000101000100000000000188b6") ++ replicate 46 0) ≡ bytes_of (codes "00000101000100000000000188b6")
unfolding flow_bytes decode_pairs
flow_of_another_type = refl

hash_of_another_type : flow_hash (bytes_of (codes "00000101000100000000000188b6") ++ replicate 46 0) % 2 ≡ 1
unfolding flow_bytes fnv1a flow_hash decode_pairs
hash_of_another_type = refl
