-- What a node hears and does in a step, as lines.
use Rattle.std.specs.Prelude.{ℕ, List, [], ◌∷◌, decimal, position, Option, Some, None}
use Rattle.pl_frame.specs.Address.{mac_text}
use Rattle.pl_journal.specs.Text.{address_text, cause_text}
use Rattle.pl_layouts.specs.Equality.{same_switch}
use Rattle.pl_node.specs.declared.acts.Act.{Act}
use Rattle.pl_node.specs.declared.acts.Act.TheVariants as act
use Rattle.pl_node.specs.declared.acts.ManagerAct.{ManagerAct}
use Rattle.pl_node.specs.declared.acts.ManagerAct.TheVariants.{Number, Say}
use Rattle.pl_node.specs.SwitchInputs.{SwitchInput}
use Rattle.pl_node.specs.SwitchInputs.SwitchInput.{Comes, Says, Tick}
use Rattle.pl_wiring.specs.Plan.{Plan}
use Rattle.pl_log_lines.specs.declared.kind.Kind.{Kind}
use Rattle.pl_log_lines.specs.declared.kind.Kind.TheVariants as kind
use Rattle.pl_log_lines.specs.declared.row.Verb.TheVariants as verb
use Rattle.pl_log_lines.specs.Controls.{control_line}
use Rattle.pl_log_lines.specs.Messages.{says_line, told_line}
use Rattle.pl_log_lines.specs.Rows.{Below, id_word}

abbrev pub does_line : Option ℕ → Kind → List (List ℕ) → Below
does_line node kind words = record { node = node; verb = verb.Does; kind = kind; words = words }

module _ (plan : Plan) (node : Option ℕ) where
  -- what a switch hears: a data frame by its number alone; a tick is nothing but the event itself
  abbrev pub frame_line : List ℕ → Option ℕ → Below
  frame_line bytes None = control_line plan node verb.Heard None bytes
  frame_line bytes (Some id) = record { node = node; verb = verb.Heard; kind = kind.Frame; words = decimal id ∷ [] }

  abbrev pub heard_lines : SwitchInput → Option ℕ → List Below
  heard_lines Tick number = []
  heard_lines (Comes port bytes) number = frame_line bytes number ∷ []
  heard_lines (Says s) number = says_line plan node verb.Heard [] s ∷ []

  -- what a switch does
  abbrev pub act_line : Act → Below
  act_line (act.Control port frame) = control_line plan node verb.Sends (Some (decimal port)) frame
  act_line (act.Tell told) = told_line plan node verb.Tells told
  act_line (act.Grant pmac amac) = does_line node kind.Grant (address_text pmac ∷ mac_text amac ∷ [])
  act_line (act.Free pmac) = does_line node kind.Free (address_text pmac ∷ [])
  act_line (act.Make frame) = does_line node kind.Make []
  act_line (act.Redirect old new) = does_line node kind.Redirect (address_text old ∷ address_text new ∷ [])
  act_line (act.Pass port frame) = does_line node kind.Pass (decimal port ∷ [])
  act_line act.Take = does_line node kind.Take []
  act_line (act.Drop cause) = does_line node kind.Drop (cause_text cause ∷ [])

  -- and the manager; what it says speaks of the switch that it says it to
  abbrev pub manager_act_line : ManagerAct → Below
  manager_act_line (Say to says) = says_line plan (position (same_switch to) plan.ids) verb.Says (id_word plan to ∷ []) says
  manager_act_line (Number pmac n) = does_line node kind.Number (address_text pmac ∷ decimal n ∷ [])
