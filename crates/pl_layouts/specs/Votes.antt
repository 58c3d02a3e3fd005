-- What a vote on a position says to the edge switch that proposed it.
use Rattle.std.specs.Prelude.{ℕ, ◌==◌, ◌&&◌, ◌||◌, nat_lt, Bool, false, Option, Some, None, is_none}
use Rattle.pl_frame.specs.declared.address.SwitchId.{SwitchId}
use Rattle.pl_layouts.specs.declared.control.Vote.{Vote}
use Rattle.pl_layouts.specs.declared.place.Place.{Place}
use Rattle.pl_layouts.specs.Placement.{is_known}

-- a vote counts for an edge switch without a position, and on its present attempt and position alone
abbrev pub counts : Place → ℕ → ℕ → Vote → Bool
counts place attempt position vote =
    is_known place.level 0 && is_none place.position && (vote.attempt == attempt) && (vote.position == position)

abbrev pub is_smaller : Option SwitchId → SwitchId → Bool
is_smaller None me = false
is_smaller (Some holder) me = nat_lt holder.0 me.0

-- the holder is fixed there, or has the smaller id
abbrev pub gives_way : SwitchId → Vote → Bool
gives_way me vote = vote.fixed || is_smaller vote.holder me
