-- What a switch knows after a step that it did not know before, as lines.
use Rattle.std.specs.Prelude.{ℕ, ◌/◌, ◌^◌, ◌==◌, ◌&&◌, ◌||◌, not, nat_lt, take, Bool, true, false, if◌then◌else◌, List, [], ◌∷◌, ◌++◌, codes, decimal, map, Option, Some, None, is_some}
use Rattle.std.specs.List.{filter, flat_map, range_with_len}
use Rattle.std.specs.Option.{option_map_or}
use Rattle.pl_frame.specs.declared.address.SwitchId.{SwitchId}
use Rattle.pl_layouts.specs.Equality.{same_switch}
use Rattle.pl_layouts.specs.Placement.{same_place}
use Rattle.pl_journal.specs.Text.{place_texts}
use Rattle.pl_node.specs.AvoidLists.{avoided_cmp}
use Rattle.pl_node.specs.AvoidRows.{is_listed}
use Rattle.pl_node.specs.ManagerViews.{in_order}
use Rattle.pl_node.specs.declared.messages.TreePart.{TreePart}
use Rattle.pl_node.specs.declared.neighbour.Neighbour.{Neighbour}
use Rattle.pl_node.specs.declared.neighbour.PortRecord.{PortRecord}
use Rattle.pl_node.specs.PortRecords.{is_usable_record, port_of, ports_of_switch}
use Rattle.pl_node.specs.SwitchFacts.{has_granted, holder_of, part_of, present_attempt}
use Rattle.pl_node.specs.SwitchViews.{SwitchView}
use Rattle.pl_wiring.specs.Plan.{Plan}
use Rattle.pl_log_lines.specs.declared.kind.Kind.{Kind}
use Rattle.pl_log_lines.specs.declared.kind.Kind.TheVariants as kind
use Rattle.pl_log_lines.specs.declared.row.Verb.TheVariants as verb
use Rattle.pl_log_lines.specs.Controls.{fixed_word}
use Rattle.pl_log_lines.specs.Messages.{tree_words, usable_word}
use Rattle.pl_log_lines.specs.Rows.{Below, id_word, known_id_word, unknown}

-- ---- when two things that may be known are the same

abbrev pub same_option : {T : Type 0} → (T → T → Bool) → Option T → Option T → Bool
same_option same None None = true
same_option same (Some a) (Some b) = same a b
same_option same a b = false

abbrev pub same_neighbour : Neighbour → Neighbour → Bool
same_neighbour a b = same_switch a.id b.id && same_place a.place b.place && same_option same_switch a.echo b.echo

abbrev pub same_bool : Bool → Bool → Bool
same_bool a b = if a then b else not b

abbrev pub same_port : PortRecord → PortRecord → Bool
same_port a b = same_bool a.host b.host && same_option same_neighbour a.heard b.heard

abbrev pub same_attempt : ℕ × ℕ → ℕ × ℕ → Bool
same_attempt a b = (a.0 == b.0) && (a.1 == b.1)

abbrev pub same_hold : SwitchId × Bool → SwitchId × Bool → Bool
same_hold a b = same_switch a.0 b.0 && same_bool a.1 b.1

abbrev pub same_ids : List SwitchId → List SwitchId → Bool
same_ids [] [] = true
same_ids (a ∷ first) (b ∷ second) = same_switch a b && same_ids first second
same_ids first second = false

abbrev pub same_part : TreePart → TreePart → Bool
same_part a b = same_option same_switch a.up b.up && same_ids a.down b.down

-- the groups of whose trees a part is known: no group has two
abbrev pub groups_in : SwitchView → List ℕ
groups_in v = take (2 ^ 32) (map (λ part. part.0) v.parts)

-- what one avoid list has and another has not, in order
abbrev pub left_of : List (SwitchId × ℕ × ℕ) → List (SwitchId × ℕ × ℕ) → List (SwitchId × ℕ × ℕ)
left_of list other = in_order avoided_cmp (filter (λ a. not (is_listed a other)) list)

-- ---- words

-- the port, who is there, its place, what it heard last itself, and whether the link is usable
abbrev pub neighbour_words : Plan → ℕ → Neighbour → Bool → List (List ℕ)
neighbour_words plan port n usable = decimal port ∷ id_word plan n.id ∷ (place_texts n.place ++ known_id_word plan n.echo ∷ usable_word usable ∷ [])

abbrev pub port_words : Plan → SwitchId → ℕ → PortRecord → List (List ℕ)
port_words plan me port r = option_map_or (λ n. neighbour_words plan port n (is_usable_record me r)) r.heard (decimal port ∷ codes "host" ∷ [])

abbrev pub attempt_words : Option (ℕ × ℕ) → List (List ℕ)
attempt_words None = unknown ∷ []
attempt_words (Some a) = decimal a.0 ∷ decimal a.1 ∷ []

abbrev pub hold_words : Plan → ℕ → Option (SwitchId × Bool) → List (List ℕ)
hold_words plan position None = decimal position ∷ unknown ∷ []
hold_words plan position (Some h) = decimal position ∷ id_word plan h.0 ∷ fixed_word h.1 ∷ []

abbrev pub avoid_words : Plan → List ℕ → SwitchId × ℕ × ℕ → List (List ℕ)
avoid_words plan sign a = sign ∷ id_word plan a.0 ∷ decimal a.1 ∷ decimal a.2 ∷ []

-- ---- lines

abbrev pub knowing : Option ℕ → Kind → List (List ℕ) → Below
knowing node kind words = record { node = node; verb = verb.Knows; kind = kind; words = words }

-- lines where two things are not the same
abbrev pub if_other : Bool → List Below → List Below
if_other same lines = if same then [] else lines

-- for how many ticks a port has been silent, from two on
abbrev pub same_silence : ℕ → ℕ → Bool
same_silence before after = (before == after) || (nat_lt before 2 && nat_lt after 2)

abbrev pub silent_news : Option ℕ → ℕ → ℕ → ℕ → List Below
silent_news node port before after =
    if_other (same_silence before after) (knowing node kind.Silent (decimal port ∷ decimal after ∷ []) ∷ [])

module _ (node : Option ℕ) (old new : SwitchView) where
  abbrev pub place_news : List Below
  place_news = if_other (same_place old.place new.place) (knowing node kind.Place (place_texts new.place) ∷ [])

  abbrev pub attempt_news : List Below
  attempt_news =
      if_other (same_option same_attempt (present_attempt old) (present_attempt new)) (knowing node kind.Attempt (attempt_words (present_attempt new)) ∷ [])

  -- the ports by which the present attempt was granted now
  abbrev pub granted_news : ℕ → List Below
  granted_news port = if_other (not (has_granted new port) || has_granted old port) (knowing node kind.Granted (decimal port ∷ []) ∷ [])

module _ (plan : Plan) (node : Option ℕ) where
  -- another one is heard at a port
  abbrev pub heard_news : SwitchId → ℕ → PortRecord → PortRecord → List Below
  heard_news me port before after = if_other (same_port before after) (knowing node kind.Port (port_words plan me port after) ∷ [])

  -- entries of a list that another has not
  abbrev pub avoid_line : List ℕ → SwitchId × ℕ × ℕ → Below
  avoid_line sign a = knowing node kind.Avoid (avoid_words plan sign a)

  abbrev pub left_over : List ℕ → List (SwitchId × ℕ × ℕ) → List (SwitchId × ℕ × ℕ) → List Below
  left_over sign list other = map (avoid_line sign) (left_of list other)

  -- a part of a tree, with each neighbour below
  abbrev pub below_line_of : ℕ → SwitchId → Below
  below_line_of group id = knowing node kind.Below (decimal group ∷ id_word plan id ∷ [])

  abbrev pub below_lines : ℕ → Option TreePart → List Below
  below_lines group None = []
  below_lines group (Some part) = map (below_line_of group) part.down

  abbrev pub part_lines : ℕ → Option TreePart → List Below
  part_lines group part = knowing node kind.Tree (tree_words plan group part) ∷ below_lines group part

module _ (plan : Plan) (node : Option ℕ) (old new : SwitchView) where
  -- another one is heard at a port; or it has been silent for another number of ticks
  abbrev pub port_news : ℕ → List Below
  port_news port =
      heard_news plan node new.id port (port_of old port) (port_of new port) ++ silent_news node port (port_of old port).silent (port_of new port).silent

  -- for whom a position is held
  abbrev pub hold_news : ℕ → List Below
  hold_news position =
      if_other (same_option same_hold (holder_of old position) (holder_of new position))
      (knowing node kind.Hold (hold_words plan position (holder_of new position)) ∷ [])

  -- what is to be avoided now that was not before, and then what is no more
  abbrev pub avoid_news : List Below
  avoid_news = left_over plan node (codes "+") new.avoid old.avoid ++ left_over plan node (codes "-") old.avoid new.avoid

  -- a part of a tree that is new, or another one than before
  abbrev pub part_news : ℕ → List Below
  part_news group = if_other (same_option same_part (part_of old group) (part_of new group)) (part_lines plan node group (part_of new group))

  -- and one that it had, and has no more
  abbrev pub part_ends : ℕ → List Below
  part_ends group = if_other (is_some (part_of new group)) (knowing node kind.Tree (tree_words plan group None) ∷ [])

  abbrev pub tree_news : List Below
  tree_news = flat_map part_news (groups_in new) ++ flat_map part_ends (groups_in old)

  -- Its place, its ports, its own attempt, the positions that it holds, what to avoid, its trees.
  abbrev pub news : List Below
  news =
      place_news node old new ++ flat_map port_news (ports_of_switch new.k) ++ attempt_news node old new
      ++ flat_map (granted_news node old new) (ports_of_switch new.k) ++ flat_map hold_news (range_with_len 0 (new.k / 2)) ++ avoid_news ++ tree_news
