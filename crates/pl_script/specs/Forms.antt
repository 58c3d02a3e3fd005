-- The forms of a line: the command that each word makes with the words behind it.
use Rattle.std.specs.Prelude.{ℕ, List, [], ◌∷◌, Result, Ok, Err}
use Rattle.pl_wiring.specs.Plan.{Plan}
use Rattle.pl_script.specs.Names.{host, switch, cause, who_of, ticking, end_of}
use Rattle.pl_script.specs.Numbers.{number_of, count_of, group_of, pmac_named}
use Rattle.pl_script.specs.Reading.{◌>>=◌, or_refused}
use Rattle.pl_script.specs.Verbs.{verb_of, expectation_of}
use Rattle.pl_script.specs.declared.command.Command.{Command}
use Rattle.pl_script.specs.declared.command.Command.TheVariants as command
use Rattle.pl_script.specs.declared.command.Count.TheVariants as counted
use Rattle.pl_script.specs.declared.error.ScriptReason.{ScriptReason}
use Rattle.pl_script.specs.declared.error.ScriptReason.TheVariants as reason
use Rattle.pl_script.specs.declared.verb.Verb.{Verb}
use Rattle.pl_script.specs.declared.verb.Verb.TheVariants.{Start, Send, Raw, Retry, Join, Leave, Move, Fail, Repair, Lose, Deliver, Tick, Sweep, Settle, Random, Restart, Expect}
use Rattle.pl_script.specs.declared.verb.Expectation.{Expectation}
use Rattle.pl_script.specs.declared.verb.Expectation.TheVariants.{Arrived, Dropped, Address, Settled}

-- the largest number of 64 bits
abbrev pub largest : ℕ
largest = 18446744073709551615

-- what may be expected, by the words behind that
abbrev pub expected : Plan → Expectation → List (List ℕ) → Result Command ScriptReason
expected plan Arrived (h ∷ n ∷ []) = host plan h >>= λ host. number_of 0 largest n >>= λ n. Ok (command.ExpectArrived host n)
expected plan Dropped (c ∷ n ∷ []) = cause c >>= λ cause. number_of 0 largest n >>= λ n. Ok (command.ExpectDropped cause n)
expected plan Address (h ∷ p ∷ []) = host plan h >>= λ host. pmac_named p >>= λ pmac. Ok (command.ExpectAddress host pmac)
expected plan Settled [] = Ok command.ExpectSettled
expected plan _ _ = Err reason.Count

-- the forms; any other number of words is refused
abbrev pub form : Plan → Verb → List (List ℕ) → Result Command ScriptReason
form plan Start (h ∷ []) = who_of plan h >>= λ who. Ok (command.Start who)
form plan Send (h ∷ []) = host plan h >>= λ host. Ok (command.Send host (counted.N 1))
form plan Send (h ∷ n ∷ []) = host plan h >>= λ host. count_of n >>= λ count. Ok (command.Send host count)
form plan Raw (h ∷ []) = host plan h >>= λ host. Ok (command.Raw host (counted.N 1))
form plan Raw (h ∷ n ∷ []) = host plan h >>= λ host. count_of n >>= λ count. Ok (command.Raw host count)
form plan Retry (h ∷ []) = who_of plan h >>= λ who. Ok (command.Retry who)
form plan Join (h ∷ g ∷ []) = host plan h >>= λ host. group_of g >>= λ group. Ok (command.Join host group)
form plan Leave (h ∷ g ∷ []) = host plan h >>= λ host. group_of g >>= λ group. Ok (command.Leave host group)
form plan Move (h ∷ s ∷ n ∷ []) =
    host plan h >>= λ host. switch plan s >>= λ edge. number_of 0 255 n >>= λ port. Ok (command.Move host edge port)
form plan Fail (a ∷ b ∷ []) = switch plan a >>= λ a. switch plan b >>= λ b. Ok (command.Fail a b)
form plan Repair (a ∷ b ∷ []) = switch plan a >>= λ a. switch plan b >>= λ b. Ok (command.Repair a b)
form plan Lose (a ∷ b ∷ []) = switch plan a >>= λ a. switch plan b >>= λ b. Ok (command.Lose a b)
form plan Deliver (x ∷ y ∷ []) = end_of plan x >>= λ from. end_of plan y >>= λ to. Ok (command.Deliver from to)
form plan Tick (s ∷ []) = ticking plan s >>= λ switch. Ok (command.Tick switch)
form plan Sweep (n ∷ []) = number_of 1 10000 n >>= λ n. Ok (command.Sweep n)
form plan Settle (n ∷ []) = number_of 1 10000 n >>= λ n. Ok (command.Settle n)
form plan Random (x ∷ m ∷ []) = number_of 0 largest x >>= λ x. number_of 1 50000000 m >>= λ m. Ok (command.Random x m)
form plan Restart [] = Ok command.Restart
form plan Expect (what ∷ words) = or_refused (expectation_of what) reason.Word >>= λ what. expected plan what words
form plan _ _ = Err reason.Count

-- the command of a first word and those behind it
abbrev pub command_of : Plan → List ℕ → List (List ℕ) → Result Command ScriptReason
command_of plan word words = or_refused (verb_of word) reason.Word >>= λ verb. form plan verb words
