-- The groups whose memberships a step may have changed, and what the manager is told of them.
use Rattle.std.specs.Prelude.{◌≡◌, ℕ, ◌==◌, true, false, Bool, if◌then◌else◌, List, [], ◌∷◌}
use Rattle.std.specs.BTreeMap.{insert_entry}
use Rattle.std.specs.List.{All, list_any}
use Rattle.std.specs.List.Sorted.{IsStrictlySortedBy}
use Rattle.std.specs.Map.{keys_of}
use Rattle.std.specs.Ordering.{nat_cmp}
use Rattle.pl_node.specs.declared.acts.Act.{Act}
use Rattle.pl_node.specs.declared.acts.Act.TheVariants.{Tell}
use Rattle.pl_node.specs.declared.messages.ToManager.TheVariants.{Members}
use Rattle.pl_node.specs.declared.switch_records.Member.{Member}
use Rattle.pl_journal.specs.Places.{are_alike}
use Rattle.pl_switch_rule.specs.Intake.{has_member_of}

-- a group is among these, with whether it had members
abbrev pub is_noted : List (ℕ × Bool) → ℕ → Bool
is_noted groups group = list_any (λ g. g == group) (keys_of groups)

-- it is noted, unless it was before
abbrev pub notes : List Member → List (ℕ × Bool) → ℕ → List (ℕ × Bool)
notes members groups group =
    if is_noted groups group then groups else insert_entry nat_cmp groups group (has_member_of members group)

abbrev pub told_of : Bool → Bool → ℕ → List Act
told_of had any group = if are_alike had any then [] else Tell (Members group any) ∷ []

abbrev pub told_since : List Member → ℕ × Bool → List Act
told_since members noted = told_of noted.1 (has_member_of members noted.0) noted.0

-- of a group that had members
abbrev pub told_if_none : List Member → ℕ → List Act
told_if_none members group = told_of true (has_member_of members group) group

-- Each group that may have changed since is noted.
pub record AreChangesNoted (old now : List Member) (groups : List (ℕ × Bool)) : Type 0 where
  pub rising : IsStrictlySortedBy nat_cmp (keys_of groups)
  pub had : All (λ (noted : ℕ × Bool). noted.1 ≡ has_member_of old noted.0) groups
  pub others : (group : ℕ) → is_noted groups group ≡ false → has_member_of now group ≡ has_member_of old group
