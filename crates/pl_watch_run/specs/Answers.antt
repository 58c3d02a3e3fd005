-- What the program answers, and what stands on standard output then.
use Rattle.std.specs.Prelude.{◌≡◌, ◌<◌, Option, None, Some, Err}
use Rattle.pl_shelf.specs.Held.{Held, Same, ShelfMoment, standard_output}
use Rattle.pl_host_rule.specs.HostRule.{host_rule}
use Rattle.pl_manager_rule.specs.WholeRule.{whole_rule}
use Rattle.pl_switch_rule.specs.SwitchRule.{Exact}
use Rattle.pl_node.specs.HostInputs.{HostRule}
use Rattle.pl_node.specs.ManagerDuties.{ManagerRule}
use Rattle.pl_node.specs.SwitchInputs.{SwitchRule}
use Rattle.pl_inputs.specs.declared.status.Status.{Status}
use Rattle.pl_inputs.specs.declared.status.Status.TheVariants as status
use Rattle.pl_inputs.specs.declared.words.Network.TheVariants.{Fabric}
use Rattle.pl_inputs.specs.Inputs.{AreRead, Inputs}
use Rattle.pl_inputs.specs.declared.loading.inputs.Inputs.{Inputs as Loaded}
use Rattle.pl_inputs.specs.Loads.{Reads}
use Rattle.pl_inputs.specs.Unread.{IsUnread}
use Rattle.pl_playing.specs.Networks.{PlaysTo}
use Rattle.pl_playing.specs.Outcomes.{IsUntouched}
use Rattle.pl_playing.specs.Watched.{LedTo}
use Rattle.pl_world.specs.Worlds.{WorldView}
use Rattle.pl_log_lines.specs.declared.look.Look.{Look}
use Rattle.pl_watch.specs.Logs.{entries_in}
use Rattle.pl_log_lines.specs.Looks.{ShowsAll}
use Rattle.pl_watch.specs.Seen.{IsLogged}
use Rattle.pl_watch_run.specs.Words.{Watching, look_of}

module _ (switch : SwitchRule) (manager : ManagerRule) (host : HostRule) (look : Look) (i : Inputs) where
  -- The script led to a world, where it ended or was stopped, and that is answered. The log of a run to that world stands on standard output; where
  -- nothing is left out of it, the journal of that world does.
  pub record IsWatched (held : Held) (e : Status) : Type 0 where
    pub world : WorldView
    pub played : LedTo (PlaysTo switch manager host Fabric) i world e
    pub log : IsLogged switch manager host look held world
    pub journal : ShowsAll look → entries_in log.lines ≡ world.journal

  -- A failed write is answered where a write failed. After want of memory nothing is said.
  abbrev pub EndsWatching : ShelfMoment → Status → Type 0
  EndsWatching new (status.WriteFault name) = 0 < new.write_faults
  EndsWatching new status.OutOfMemory = Unit {0}
  EndsWatching new e = IsWatched (new.held standard_output) e

-- no name holds anything else, no write failed, and a read did where that is answered
pub record IsOnlyRead (old new : ShelfMoment) (e : Status) : Type 0 where
  pub same : Same old.held new.held
  pub reads : Reads {T = Loaded} (Err e) old.read_faults new.read_faults
  pub writes : new.write_faults ≡ old.write_faults

-- What comes of words that ask for something: the files are not read; or the words name a switch, a kind or lines that are none; or the script is
-- played, with a log of the lines that they name.
pub data Answers (old new : ShelfMoment) (asked : Watching) (e : Status) : Type 0 where
  IsRefused : IsUnread old.held asked.files e → IsOnlyRead old new e → Answers old new asked e
  NamesNone : (i : Inputs) → AreRead old.held asked.files i → look_of i.plan.k asked ≡ None → e ≡ status.Usage → IsUntouched old new →
      Answers old new asked e
  IsShown : (i : Inputs) → AreRead old.held asked.files i → (look : Look) → look_of i.plan.k asked ≡ Some look →
      EndsWatching Exact whole_rule host_rule look i new e → Answers old new asked e

-- Words that ask for nothing are answered so, and nothing is read.
abbrev pub AnswersWords : ShelfMoment → ShelfMoment → Option Watching → Status → Type 0
AnswersWords old new None e = (e ≡ status.Usage) × IsUntouched old new
AnswersWords old new (Some asked) e = Answers old new asked e
