-- What a name means in a wiring.
use Rattle.std.specs.Prelude.{ℕ, if◌then◌else◌, List, Option, Some, None, option_map, position, Result, Ok, codes}
use Rattle.std.specs.Str.{bytes_eq}
use Rattle.pl_journal.specs.declared.cause.Cause.{Cause}
use Rattle.pl_wiring.specs.declared.host.HostNo.{HostNo}
use Rattle.pl_wiring.specs.declared.label.SwitchNo.{SwitchNo}
use Rattle.pl_wiring.specs.SwitchNames.{switch_named}
use Rattle.pl_wiring.specs.Plan.{Plan}
use Rattle.pl_script.specs.Reading.{◌>>=◌, or_refused}
use Rattle.pl_script.specs.Verbs.{cause_of}
use Rattle.pl_script.specs.declared.command.Who.{Who}
use Rattle.pl_script.specs.declared.command.Who.TheVariants as who
use Rattle.pl_script.specs.declared.command.End.{End}
use Rattle.pl_script.specs.declared.command.End.TheVariants as end
use Rattle.pl_script.specs.declared.error.ScriptReason.{ScriptReason}
use Rattle.pl_script.specs.declared.error.ScriptReason.TheVariants as reason

-- the host of this name
unfoldable pub host_named : Plan → List ℕ → Option HostNo
host_named plan text = option_map (λ n. record { 0 = n }) (position (λ h. bytes_eq h.name text) plan.hosts)

abbrev pub host : Plan → List ℕ → Result HostNo ScriptReason
host plan text = or_refused (host_named plan text) reason.Name

abbrev pub switch : Plan → List ℕ → Result SwitchNo ScriptReason
switch plan text = or_refused (switch_named plan.k text) reason.Name

abbrev pub cause : List ℕ → Result Cause ScriptReason
cause text = or_refused (cause_of text) reason.Name

-- a host, or all
unfoldable pub who_of : Plan → List ℕ → Result Who ScriptReason
who_of plan text = if bytes_eq text (codes "all") then Ok who.All else host plan text >>= λ h. Ok (who.One h)

-- a switch, or all
unfoldable pub ticking : Plan → List ℕ → Result (Option SwitchNo) ScriptReason
ticking plan text = if bytes_eq text (codes "all") then Ok None else switch plan text >>= λ s. Ok (Some s)

abbrev pub host_or_switch : Plan → List ℕ → Option HostNo → Result End ScriptReason
host_or_switch plan text (Some h) = Ok (end.Host h)
host_or_switch plan text None = switch plan text >>= λ s. Ok (end.Switch s)

-- the manager, a host or a switch
unfoldable pub end_of : Plan → List ℕ → Result End ScriptReason
end_of plan text =
    if bytes_eq text (codes "manager") then Ok end.Manager
    else host_or_switch plan text (host_named plan text)
