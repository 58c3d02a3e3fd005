-- The frames that a host sends.
use Rattle.std.specs.Prelude.{ℕ, List, [], ◌∷◌, slice_index, Option, option_map, option_to_list}
use Rattle.pl_arp.specs.declared.packet.Arp.{Arp}
use Rattle.pl_host_rule.specs.HostRule.{reply_frame}

-- six bytes from the front, with 0 for each that is not there
abbrev pub six_bytes : List ℕ → List ℕ
six_bytes frame =
    slice_index frame 0 ∷ slice_index frame 1 ∷ slice_index frame 2 ∷ slice_index frame 3 ∷ slice_index frame 4 ∷ slice_index frame 5 ∷ []

-- the reply that is owed, if one is
abbrev pub replies : Option Arp → List (List ℕ)
replies answer = option_to_list (option_map reply_frame answer)
