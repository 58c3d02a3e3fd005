-- What an edge switch makes of a vote: it stays, its position is fixed, or it goes on.
use Rattle.std.proofs.Common.{◌≡◌, ℕ, ◌+◌, ◌%◌, ◌==◌, Bool, true, false, if◌then◌else◌, [], Some, refl}
use Rattle.pl_layouts.specs.declared.control.Vote.{Vote as Answer}
use Rattle.pl_layouts.specs.Votes.{counts, gives_way}
use Rattle.pl_node.specs.SwitchViews.{SwitchView}
use Rattle.pl_switch_rule.specs.Positions.{after_vote, counted, fixes_position, half, is_majority, moves_on, with_granted}
use Rattle.pl_law_placing.proofs.Voting.{IsCounted, counts_says}

pub data Comes (v : SwitchView) (vote : Answer) (after : SwitchView) : Type 0 where
  Stays : after.attempt ≡ v.attempt → after.proposed ≡ v.proposed → after.place.position ≡ v.place.position → Comes v vote after
  Fixes : after.attempt ≡ v.attempt → after.proposed ≡ v.proposed → after.place.position ≡ Some v.proposed → Comes v vote after
  GoesOn : IsCounted v vote → gives_way v.id vote ≡ true → after.attempt ≡ v.attempt + 1 → after.proposed ≡ (v.proposed + 1) % half v.k →
      after.place.position ≡ v.place.position → Comes v vote after

pub vote_comes : (v : SwitchView) (port : ℕ) (vote : Answer) → Comes v vote (after_vote v port vote)
vote_comes v port vote = by (counts v.place v.attempt v.proposed vote) refl
  where
    next : IsCounted v vote → gives_way v.id vote ≡ true → (b : Bool) →
        Comes v vote (if◌then◌else◌ {A = SwitchView} b v (record v { attempt = v.attempt + 1; proposed = (v.proposed + 1) % half v.k; granted = [] }))
    next is way true = Stays refl refl refl
    next is way false = GoesOn is way refl refl refl

    fixes : (b : Bool) →
        Comes v vote (record (with_granted v port) { place = record v.place { position = if b then Some v.proposed else v.place.position } })
    fixes true = Fixes refl refl refl
    fixes false = Stays refl refl refl

    granted : IsCounted v vote → (b c : Bool) → gives_way v.id vote ≡ c →
        Comes v vote (if◌then◌else◌ {A = SwitchView} b (fixes_position (with_granted v port)) (if c then moves_on v else v))
    granted is true c way = fixes (is_majority (with_granted v port))
    granted is false true way = next is way (v.attempt == 4294967295)
    granted is false false way = Stays refl refl refl

    by : (b : Bool) → counts v.place v.attempt v.proposed vote ≡ b → Comes v vote (if◌then◌else◌ {A = SwitchView} b (counted v port vote) v)
    by true is = granted (counts_says v vote is) vote.granted (gives_way v.id vote) refl
    by false is = Stays refl refl refl
