-- The words that forms begin with, and the causes by their names.
use Rattle.std.specs.Prelude.{ℕ, if◌then◌else◌, List, Option, Some, None, codes}
use Rattle.std.specs.Option.{option_or}
use Rattle.std.specs.Str.{bytes_eq}
use Rattle.pl_journal.specs.declared.cause.Cause.{Cause}
use Rattle.pl_journal.specs.declared.cause.Cause.TheVariants.{NotPlaced, NoNextHop, NoAddress, HostGone, LinkDown, Lost, Spent, BadArp, NoMember}
use Rattle.pl_script.specs.declared.verb.Verb.{Verb}
use Rattle.pl_script.specs.declared.verb.Verb.TheVariants as verb
use Rattle.pl_script.specs.declared.verb.Expectation.{Expectation}
use Rattle.pl_script.specs.declared.verb.Expectation.TheVariants as expectation

-- what a host does
unfoldable pub host_verb : List ℕ → Option Verb
host_verb word =
    if bytes_eq word (codes "start") then Some verb.Start
    else if bytes_eq word (codes "send") then Some verb.Send
    else if bytes_eq word (codes "raw") then Some verb.Raw
    else if bytes_eq word (codes "retry") then Some verb.Retry
    else if bytes_eq word (codes "join") then Some verb.Join
    else if bytes_eq word (codes "leave") then Some verb.Leave
    else if bytes_eq word (codes "move") then Some verb.Move
    else None

-- what befalls the fabric, and what is expected of it
unfoldable pub fabric_verb : List ℕ → Option Verb
fabric_verb word =
    if bytes_eq word (codes "fail") then Some verb.Fail
    else if bytes_eq word (codes "repair") then Some verb.Repair
    else if bytes_eq word (codes "lose") then Some verb.Lose
    else if bytes_eq word (codes "deliver") then Some verb.Deliver
    else if bytes_eq word (codes "tick") then Some verb.Tick
    else if bytes_eq word (codes "sweep") then Some verb.Sweep
    else if bytes_eq word (codes "settle") then Some verb.Settle
    else if bytes_eq word (codes "random") then Some verb.Random
    else if bytes_eq word (codes "restart") then Some verb.Restart
    else if bytes_eq word (codes "expect") then Some verb.Expect
    else None

unfoldable pub verb_of : List ℕ → Option Verb
verb_of word = option_or (host_verb word) (fabric_verb word)

unfoldable pub expectation_of : List ℕ → Option Expectation
expectation_of word =
    if bytes_eq word (codes "arrived") then Some expectation.Arrived
    else if bytes_eq word (codes "dropped") then Some expectation.Dropped
    else if bytes_eq word (codes "address") then Some expectation.Address
    else if bytes_eq word (codes "settled") then Some expectation.Settled
    else None

unfoldable pub cause_of : List ℕ → Option Cause
cause_of word =
    if bytes_eq word (codes "NotPlaced") then Some NotPlaced
    else if bytes_eq word (codes "NoNextHop") then Some NoNextHop
    else if bytes_eq word (codes "NoAddress") then Some NoAddress
    else if bytes_eq word (codes "HostGone") then Some HostGone
    else if bytes_eq word (codes "LinkDown") then Some LinkDown
    else if bytes_eq word (codes "Lost") then Some Lost
    else if bytes_eq word (codes "Spent") then Some Spent
    else if bytes_eq word (codes "BadArp") then Some BadArp
    else if bytes_eq word (codes "NoMember") then Some NoMember
    else None
