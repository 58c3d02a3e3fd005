-- That what switches tell of their places, their links and their members is so, and that each part of a group's tree leads up and down by one level.
use Rattle.std.specs.Prelude.{◌≡◌, ◌+◌, ℕ, ◌==◌, Bool, true, Option, Some, None, slice_get}
use Rattle.std.specs.List.{AllByRecursion, list_any}
use Rattle.pl_frame.specs.declared.address.SwitchId.{SwitchId}
use Rattle.pl_wiring.specs.Plan.{Plan}
use Rattle.pl_layouts.specs.declared.place.Place.{Place}
use Rattle.pl_node.specs.declared.messages.ToManager.{ToManager}
use Rattle.pl_node.specs.declared.messages.ToManager.TheVariants as tell
use Rattle.pl_node.specs.declared.messages.ToSwitch.{ToSwitch}
use Rattle.pl_node.specs.declared.messages.ToSwitch.TheVariants as say
use Rattle.pl_node.specs.declared.messages.TreePart.{TreePart}
use Rattle.pl_node.specs.SwitchViews.{SwitchView}
use Rattle.pl_law_control_plane.specs.ControlPlanes.{ControlPlane}
use Rattle.pl_law_places.specs.Told.{IsTrueOf}
use Rattle.pl_law_records.specs.Records.{is_neighbour}
use Rattle.pl_journal.specs.Flights.{level_of}

-- What switch s tells: of its place each known part is its own, a link is to a neighbour, and edge switches alone tell of members.
abbrev pub IsTrueReport : Plan → ℕ → Place → ToManager → Type 0
IsTrueReport plan s own (tell.Place place) = IsTrueOf place own
IsTrueReport plan s own (tell.Link neighbour usable) = is_neighbour plan s neighbour ≡ true
IsTrueReport plan s own (tell.Members group any) = level_of plan.k s ≡ 0
IsTrueReport plan s own told = Unit {0}

-- A part of a tree, at a switch of this level, leads up to a switch of the next level, and down to switches of the level before.
pub record PartLeadsOn (plan : Plan) (r : ℕ) (part : TreePart) : Type 0 where
  pub up : (t : ℕ) (id : SwitchId) → slice_get plan.ids t ≡ Some id → part.up ≡ Some id → level_of plan.k t ≡ r + 1
  pub down : (t : ℕ) (id : SwitchId) → slice_get plan.ids t ≡ Some id → list_any (λ d. d.0 == id.0) part.down ≡ true → level_of plan.k t + 1 ≡ r

abbrev pub IsTruePart : Plan → ℕ → Option TreePart → Type 0
IsTruePart plan r None = Unit {0}
IsTruePart plan r (Some part) = PartLeadsOn plan r part

abbrev pub IsTrueOrder : Plan → ℕ → ToSwitch → Type 0
IsTrueOrder plan r (say.Tree group part) = IsTruePart plan r part
IsTrueOrder plan r says = Unit {0}

-- what the manager knows of a place, of a link, and of members, by the id of the switch
abbrev pub IsTruePlace : Plan → (ℕ → SwitchView) → SwitchId × Place → Type 0
IsTruePlace plan view entry = (t : ℕ) → slice_get plan.ids t ≡ Some entry.0 → IsTrueOf entry.1 (view t).place

abbrev pub IsTrueLink : Plan → (SwitchId × SwitchId) × Bool → Type 0
IsTrueLink plan entry = (t : ℕ) → slice_get plan.ids t ≡ Some entry.0.0 → is_neighbour plan t entry.0.1 ≡ true

abbrev pub AreTrueMembers : Plan → (SwitchId × ℕ) × Bool → Type 0
AreTrueMembers plan entry = (t : ℕ) → slice_get plan.ids t ≡ Some entry.0.0 → level_of plan.k t ≡ 0

-- All that was told and ordered, waits or is known.
pub record AreTrees (plan : Plan) (f : ControlPlane) : Type 0 where
  pub reports : (s : ℕ) → AllByRecursion (IsTrueReport plan s (f.view s).place) (f.reports s)
  pub places : AllByRecursion (IsTruePlace plan f.view) f.manager.told.places
  pub links : AllByRecursion (IsTrueLink plan) f.manager.told.links
  pub members : AllByRecursion (AreTrueMembers plan) f.manager.members
  pub orders : (s : ℕ) → AllByRecursion (IsTrueOrder plan (level_of plan.k s)) (f.orders s)
  pub held : (s : ℕ) → AllByRecursion (λ part. IsTruePart plan (level_of plan.k s) (Some part.1)) (f.view s).parts
