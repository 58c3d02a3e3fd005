-- What was found for the hardware addresses that were asked for.
use Rattle.std.specs.Prelude.{◌≡◌, List, Option, Some, find}
use Rattle.std.specs.Map.{lookup}
use Rattle.pl_frame.specs.declared.address.Mac.{Mac}
use Rattle.pl_arp.specs.declared.cache.Me.{Me}
use Rattle.pl_layouts.specs.Equality.{same_mac}

-- answers by hardware addresses
abbrev pub AnswersByMac : Type 0
AnswersByMac = List (Mac × Option Me)

-- each answer is the first host with the address, or that there is none
abbrev pub AreAnswers : List Me → AnswersByMac → Type 0
AreAnswers hosts entries =
    (mac : Mac) (answer : Option Me) → lookup (same_mac mac) entries ≡ Some answer → answer ≡ find (λ host. same_mac host.mac mac) hosts
