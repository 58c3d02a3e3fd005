-- Hashes of some bytes and of some frames, reckoned elsewhere.
use Rattle.std.specs.Prelude.{◌≡◌, ℕ, List, [], ◌∷◌, ◌++◌, refl}
use Rattle.pl_layouts.specs.Flow.{flow_bytes, flow_hash, fnv1a}

no_bytes : fnv1a [] ≡ 0x811c9dc5
unfolding fnv1a
no_bytes = refl

-- "a"
one_letter : fnv1a (97 ∷ []) ≡ 0xe40c292c
unfolding fnv1a
one_letter = refl

-- "foobar"
six_letters : fnv1a (102 ∷ 111 ∷ 111 ∷ 98 ∷ 97 ∷ 114 ∷ []) ≡ 0xbf9cf968
unfolding fnv1a
six_letters = refl

-- from 00:00:01:01:00:01 to 00:01:00:00:00:01, of type IPv4
head : List ℕ
head = 0 ∷ 1 ∷ 0 ∷ 0 ∷ 0 ∷ 1 ∷ 0 ∷ 0 ∷ 1 ∷ 1 ∷ 0 ∷ 1 ∷ 8 ∷ 0 ∷ []

-- a header of so many words, and these flags: UDP from 10.0.0.1 to 10.1.0.2
packet : ℕ → ℕ → List ℕ
packet version_and_words flags =
    version_and_words ∷ 0 ∷ 0 ∷ 40 ∷ 0 ∷ 0 ∷ flags ∷ 0 ∷ 64 ∷ 17 ∷ 0 ∷ 0 ∷ 10 ∷ 0 ∷ 0 ∷ 1 ∷ 10 ∷ 1 ∷ 0 ∷ 2 ∷ []

-- from port 12345 to port 53
datagram : List ℕ
datagram = 48 ∷ 57 ∷ 0 ∷ 53 ∷ 0 ∷ 20 ∷ 0 ∷ 0 ∷ []

with_ports : flow_hash (head ++ packet 0x45 0x40 ++ datagram) ≡ 0x43cb2b35
unfolding head packet datagram flow_hash flow_bytes fnv1a
with_ports = refl

-- the ports stand behind the options
with_options : flow_hash (head ++ packet 0x46 0x40 ++ (1 ∷ 2 ∷ 3 ∷ 4 ∷ []) ++ datagram) ≡ 0x43cb2b35
unfolding head packet datagram flow_hash flow_bytes fnv1a
with_options = refl

-- a fragment has none
of_a_fragment : flow_hash (head ++ packet 0x45 0x20 ++ datagram) ≡ 0x229e9379
unfolding head packet datagram flow_hash flow_bytes fnv1a
of_a_fragment = refl

-- nor has a packet of which only three bytes are there
cut_off : flow_hash (head ++ packet 0x45 0x40 ++ (48 ∷ 57 ∷ 0 ∷ [])) ≡ 0x229e9379
unfolding head packet datagram flow_hash flow_bytes fnv1a
cut_off = refl
