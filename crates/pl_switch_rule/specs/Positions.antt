-- How the edge switches of a pod get different positions: an edge switch proposes one, and the aggregation switches vote.
use Rattle.std.specs.Prelude.{ℕ, ◌+◌, ◌*◌, ◌/◌, ◌%◌, ◌==◌, ◌&&◌, ◌||◌, not, nat_lt, Bool, true, false, if◌then◌else◌, List, [], ◌∷◌, length, Option, Some, None, is_none, slice_set}
use Rattle.std.specs.BTreeSet.{insert_key}
use Rattle.std.specs.Ordering.{nat_cmp}
use Rattle.pl_frame.specs.declared.address.SwitchId.{SwitchId}
use Rattle.pl_node.specs.declared.acts.Act.TheVariants.{Control}
use Rattle.pl_layouts.specs.declared.control.Control.TheVariants as control
use Rattle.pl_layouts.specs.declared.control.Proposal.{Proposal}
use Rattle.pl_layouts.specs.declared.control.Vote.{Vote}
use Rattle.pl_layouts.specs.Control.{control_frame}
use Rattle.pl_node.specs.PortRecords.{place_at}
use Rattle.pl_layouts.specs.Placement.{is_known}
use Rattle.pl_steps.specs.Steps.{SwitchStep, does, rests}
use Rattle.pl_node.specs.declared.switch_records.Hold.{Hold}
use Rattle.pl_node.specs.SwitchViews.{SwitchView}
use Rattle.pl_layouts.specs.Votes.{counts, gives_way}
use Rattle.pl_node.specs.SwitchFacts.{hold_at, is_answered}

-- half of the ports of a switch: so many positions are there in a pod, and so many aggregation switches vote
abbrev pub half : ℕ → ℕ
half k = k / 2

-- The holder.

abbrev pub is_held_for : SwitchId → Option Hold → Bool
is_held_for edge None = false
is_held_for edge (Some hold) = hold.edge.0 == edge.0

-- free, or held for this edge switch
abbrev pub is_free_for : SwitchId → Option Hold → Bool
is_free_for edge hold = is_none hold || is_held_for edge hold

-- every position but one is freed that is held for an edge switch; the first position of the list is number n
abbrev pub freed_but : ℕ → SwitchId → ℕ → List (Option Hold) → List (Option Hold)
freed_but position edge n [] = []
freed_but position edge n (hold ∷ holds) =
    (if is_held_for edge hold && not (n == position) then None else hold) ∷ freed_but position edge (n + 1) holds

abbrev pub frees_others : SwitchView → SwitchId → ℕ → SwitchView
frees_others v edge position = record v { holds = freed_but position edge 0 v.holds }

-- a hold as it is where there is one, and else a new one for this edge switch
abbrev pub kept_or_new : SwitchId → Option Hold → Option Hold
kept_or_new edge None = Some (record { edge = edge; fixed = false })
kept_or_new edge (Some hold) = Some hold

abbrev pub holds_for : SwitchView → SwitchId → ℕ → SwitchView
holds_for v edge position = record v { holds = slice_set v.holds position (kept_or_new edge (hold_at v position)) }

-- a grant, or a refusal that names the holder and whether its position is fixed
abbrev pub vote_on : SwitchId → Proposal → Option Hold → Vote
vote_on edge p None = record { attempt = p.attempt; position = p.position; granted = true; holder = None; fixed = false }
vote_on edge p (Some hold) =
    if hold.edge.0 == edge.0 then record { attempt = p.attempt; position = p.position; granted = true; holder = None; fixed = false }
    else record { attempt = p.attempt; position = p.position; granted = false; holder = Some hold.edge; fixed = hold.fixed }

abbrev pub answers_proposal : SwitchView → ℕ → SwitchId → Proposal → SwitchStep
answers_proposal v port edge p =
    does (if◌then◌else◌ {A = SwitchView} (is_free_for edge (hold_at v p.position)) (holds_for v edge p.position) v)
    (Control port (control_frame (control.Vote v.id (vote_on edge p (hold_at v p.position)))) ∷ [])

-- An aggregation switch answers an edge switch that proposes a position of the pod. First it frees what else it holds for it.
abbrev pub hears_proposal : SwitchView → ℕ → SwitchId → Proposal → SwitchStep
hears_proposal v port edge p =
    if is_answered v port p.position then answers_proposal (frees_others v edge p.position) port edge p else rests v

-- An edge switch says that its position is fixed: it is held for it where it is free, and is marked where it is held for it.
abbrev pub marked_for : SwitchId → Option Hold → Option Hold
marked_for edge None = Some (record { edge = edge; fixed = true })
marked_for edge (Some hold) = if hold.edge.0 == edge.0 then Some (record { edge = edge; fixed = true }) else Some hold

abbrev pub marks : SwitchView → SwitchId → ℕ → SwitchView
marks v edge position = record v { holds = slice_set v.holds position (marked_for edge (hold_at v position)) }

abbrev pub notes_position : SwitchView → SwitchId → Option ℕ → SwitchView
notes_position v edge None = v
notes_position v edge (Some position) = if nat_lt position (half v.k) then marks (frees_others v edge position) edge position else v

-- The proposer.

-- more than half of those above have granted
abbrev pub is_majority : SwitchView → Bool
is_majority v = nat_lt (half v.k) (2 * length v.granted)

abbrev pub with_granted : SwitchView → ℕ → SwitchView
with_granted v port = record v { granted = insert_key nat_cmp v.granted port }

-- once more than half have granted, the position is fixed for good
abbrev pub fixes_position : SwitchView → SwitchView
fixes_position v = record v { place = record v.place { position = if is_majority v then Some v.proposed else v.place.position } }

-- the next attempt is at the next position; there is none behind the last
abbrev pub moves_on : SwitchView → SwitchView
moves_on v =
    if v.attempt == 4294967295 then v
    else record v { attempt = v.attempt + 1; proposed = (v.proposed + 1) % half v.k; granted = [] }

abbrev pub counted : SwitchView → ℕ → Vote → SwitchView
counted v port vote =
    if vote.granted then fixes_position (with_granted v port)
    else if gives_way v.id vote then moves_on v
    else v

abbrev pub after_vote : SwitchView → ℕ → Vote → SwitchView
after_vote v port vote = if counts v.place v.attempt v.proposed vote then counted v port vote else v
