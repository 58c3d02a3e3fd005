-- What a vote may do to an edge switch's candidacy.
use Rattle.std.specs.Prelude.{◌≡◌, ◌≢◌, ◌<◌, ◌+◌, ◌*◌, ◌/◌, ◌%◌, ◌&&◌, ◌⊎◌, Bool, true, false, [], length, Some, is_none, is_some, IsSome}
use Rattle.pl_frame.specs.declared.address.SwitchId.{SwitchId}
use Rattle.pl_layouts.specs.declared.control.Vote.{Vote}
use Rattle.pl_layouts.specs.Votes.{gives_way}
use Rattle.pl_position.specs.Candidacy.{Candidacy}

-- Only votes of the present attempt and position count, and none once the position is fixed.
pub record CountsPresentVotes (vote : Vote) (before after : Candidacy) : Type 0 where
  pub settled : IsSome before.position → after ≡ before
  pub other_attempt : vote.attempt ≢ before.attempt → after ≡ before
  pub other_position : vote.position ≢ before.proposed → after ≡ before
  pub k : after.k ≡ before.k

-- The position is fixed by a grant alone, once more than half of those above have granted; it is the one that was proposed.
pub record IsFixedByMajority (vote : Vote) (before after : Candidacy) (fixed : Bool) : Type 0 where
  pub told : fixed ≡ (is_none before.position && is_some after.position)
  pub grant : fixed ≡ true → vote.granted ≡ true
  pub majority : fixed ≡ true → before.k / 2 < 2 * length after.granted
  pub position : fixed ≡ true → after.position ≡ Some before.proposed

-- the same attempt, or the next one at the next position, which no switch has granted yet
abbrev pub IsSameOrNext : Candidacy → Candidacy → Type 0
IsSameOrNext before after =
    (after.attempt ≡ before.attempt)
    ⊎ ((after.attempt ≡ before.attempt + 1) × (after.proposed ≡ (before.proposed + 1) % (before.k / 2)) × (after.granted ≡ []))

-- A refusal leads to the next attempt where the one that holds the position is marked or has the smaller id. There is no attempt behind
-- the last.
pub record GivesWayDuly (me : SwitchId) (vote : Vote) (before after : Candidacy) : Type 0 where
  pub stays : vote.granted ≡ false → gives_way me vote ≡ false → after ≡ before
  pub last : vote.granted ≡ false → before.attempt ≡ 4294967295 → after ≡ before
  pub next : IsSameOrNext before after
