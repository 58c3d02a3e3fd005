-- Where frames of groups arrive.
use Rattle.std.proofs.Common.{◌≡◌, ◌≢◌, ◌≤◌, ◌⊎◌, ℕ, ◌+◌, ◌%◌, Bool, true, false, ◌==◌, ◌&&◌, ◌||◌, List, [], ◌∷◌, ◌++◌, slice_index, Option, Some, None, is_some, Any, refl, sym, ap, ◌∙◌, subst, inl, inr, arith, not}
use Rattle.std.proofs.lemmas.Bool.{eqb-true, ne_eqb, or_cases, and_parts, and_from, cases_Bool, cond-true, cond-false, cond_both, both_ways, MatchBool-at_true}
use Rattle.pl_frame.specs.Ethernet.{destination_of, source_of}
use Rattle.pl_frame.specs.declared.address.Mac.{Mac}
use Rattle.pl_layouts.specs.Frames.{mac_number}
use Rattle.pl_layouts.specs.Memberships.{flood, group_of, is_group}
use Rattle.pl_wiring.specs.declared.host.Host.{Host}
use Rattle.pl_wiring.specs.declared.host.HostNo.{HostNo}
use Rattle.pl_wiring.specs.Plan.{IsHostMac, IsPlan, Plan}
use Rattle.pl_journal.specs.declared.entry.Entry.{Entry}
use Rattle.pl_journal.specs.declared.entry.Entry.TheVariants.{Arrived, Moved}
use Rattle.pl_journal.specs.Places.{EdgePort, at_port, is_at, edge_port, edge_port_of}
use Rattle.pl_journal.specs.Flights.{beginning, root}
use Rattle.pl_journal.specs.Causes.{goes_to_group, is_routed}
use Rattle.pl_journal.specs.Lossy.{ArrivesByAddress, ArrivesByGroup, Needs, RunTo, copies_at, copies_since_move, has_joined, is_member, is_same_place}
use Rattle.pl_journal.proofs.Copies.{copies_once}
use Rattle.pl_journal.proofs.Hosts.{same_edge_port_itself}

pub to_no_group : (plan : Plan) (past : List Entry) (id : ℕ) → IsPlan plan → Any (λ (h : Host). destination_of (beginning past id) ≡ h.mac) plan.hosts →
    goes_to_group past id ≡ false
to_no_group plan past id is there =
    let one : IsHostMac (there.1).mac = subst (λ (h : Host). IsHostMac h.mac) there.3 (is.host_macs there.0 there.1 there.2) in
    let mac : IsHostMac (destination_of (beginning past id)) = subst IsHostMac (sym there.4) one in
    ne_eqb (slice_index (destination_of (beginning past id)).0 0 % 2) 1 mac.no_group

-- what an entry of a run needed
pub needed : (plan : Plan) (newer : List Entry) (entry : Entry) (past : List Entry) → RunTo plan (newer ++ entry ∷ past) → Needs plan past entry
needed plan [] entry past run = run.1
needed plan (e ∷ newer) entry past run = needed plan newer entry past run.0

arrives : (plan : Plan) (newer past : List Entry) (id : ℕ) (host : HostNo) (frame : List ℕ) → RunTo plan (newer ++ Arrived id host frame ∷ past) →
    goes_to_group past id ≡ true → ArrivesByGroup plan past id host.0 frame
arrives plan newer past id host frame run group =
    MatchBool-at_true (ArrivesByGroup plan past id host.0 frame) (ArrivesByAddress plan past id host.0 frame) group
    (needed plan newer (Arrived id host frame) past run).1

pub not_at_source : (plan : Plan) (newer past : List Entry) (id : ℕ) (host : HostNo) (frame : List ℕ) → RunTo plan (newer ++ Arrived id host frame ∷ past) →
    goes_to_group past id ≡ true → is_same_place (edge_port past (mac_number (source_of frame))) (edge_port_of plan past host.0) ≡ false
not_at_source plan newer past id host frame run group = (arrives plan newer past id host frame run group).not_back

-- a member of a routed group has joined it
routed_member : (past : List Entry) (host group : ℕ) (o : Option ℕ) → o ≡ Some group → group ≢ flood → is_member past host o ≡ true → has_joined past host group ≡ true
routed_member past host group o is routed member =
    let here : ((group == flood) || has_joined past host group) ≡ true = subst (λ x. is_member past host x ≡ true) is member in
    elim (or_cases (group == flood) (has_joined past host group) here) [
      | inl same ↦ absurd (routed (eqb-true group flood same))
      | inr adjacent ↦ adjacent
    ]

pub at_members : (plan : Plan) (newer past : List Entry) (id group : ℕ) (host : HostNo) (frame : List ℕ) → RunTo plan (newer ++ Arrived id host frame ∷ past) →
    goes_to_group past id ≡ true → group_of (destination_of frame) ≡ Some group → group ≢ flood → has_joined past host.0 group ≡ true
at_members plan newer past id group host frame run to_group is routed =
    routed_member past host.0 group (group_of (destination_of frame)) is routed (arrives plan newer past id host frame run to_group).member

-- what a host got where it stands came to its port
no_more_than_there : (plan : Plan) (past : List Entry) (r host : ℕ) (there : EdgePort) → edge_port_of plan past host ≡ Some there →
    copies_since_move past r host ≤ copies_at plan past r there
no_more_than_there plan [] r host there at = omega arith
no_more_than_there plan (Arrived g h f ∷ past) r host there at =
    let before = no_more_than_there plan past r host there at in
    elim (cases_Bool mine) [
      | inl mine_is ↦
          let both = and_parts (goes_to_group past g) ((root past g == r) && (h.0 == host)) mine_is in
          let parts = and_parts (root past g == r) (h.0 == host) both.1 in
          let stands : is_at (edge_port_of plan past h.0) there ≡ true =
          ap (λ n. is_at (edge_port_of plan past n) there) (eqb-true h.0 host parts.1) ∙ ap (λ o. is_at o there) at ∙ same_edge_port_itself there in
          let counts : here ≡ true = and_from (goes_to_group past g) ((root past g == r) && is_at (edge_port_of plan past h.0) there) both.0
          (and_from (root past g == r) (is_at (edge_port_of plan past h.0) there) parts.0 stands) in
          let one = cond-true mine (copies_since_move past r host + 1) (copies_since_move past r host) mine_is in
          let more = cond-true here (copies_at plan past r there + 1) (copies_at plan past r there) counts in
          omega arith
      | inr other ↦
          let one = cond-false mine (copies_since_move past r host + 1) (copies_since_move past r host) other in
          let more : copies_at plan past r there ≤ copies_at plan (Arrived g h f ∷ past) r there =
          cond_both here (copies_at plan past r there + 1) (copies_at plan past r there) (λ n. copies_at plan past r there ≤ n) (λ _. omega arith) (λ _. omega arith) in
          omega arith
    ]
  where
    mine : Bool
    mine = goes_to_group past g && ((root past g == r) && (h.0 == host))

    here : Bool
    here = goes_to_group past g && ((root past g == r) && is_at (edge_port_of plan past h.0) there)
no_more_than_there plan (Moved h e p ∷ past) r host there at = elim (cases_Bool (h.0 == host)) [
  | inl same ↦ let none = cond-true (h.0 == host) 0 (copies_since_move past r host) same in omega arith
  | inr other ↦
      let stood = no_more_than_there plan past r host there (sym (cond-false (h.0 == host) (Some (at_port e.0 p)) (edge_port_of plan past host) other) ∙ at) in
      let some = cond-false (h.0 == host) 0 (copies_since_move past r host) other in
      omega arith
]
no_more_than_there plan (entry ∷ past) r host there at = no_more_than_there plan past r host there at

-- a host that stands nowhere gets nothing
nothing_nowhere : (plan : Plan) (past : List Entry) (r host : ℕ) → RunTo plan past → edge_port_of plan past host ≡ None → copies_since_move past r host ≡ 0
nothing_nowhere plan [] r host run at = refl
nothing_nowhere plan (Arrived g h f ∷ past) r host run at = elim (cases_Bool mine) [
  | inl mine_is ↦
      let both = and_parts (goes_to_group past g) ((root past g == r) && (h.0 == host)) mine_is in
      let parts = and_parts (root past g == r) (h.0 == host) both.1 in
      let got : ArrivesByGroup plan past g h.0 f = MatchBool-at_true (ArrivesByGroup plan past g h.0 f) (ArrivesByAddress plan past g h.0 f) both.0 run.1.1 in
      let nowhere : is_some (edge_port_of plan past h.0) ≡ false = ap (λ n. is_some (edge_port_of plan past n)) (eqb-true h.0 host parts.1) ∙ ap is_some at in
      absurd (both_ways (is_some (edge_port_of plan past h.0)) nowhere got.reached.0)
  | inr other ↦ cond-false mine (copies_since_move past r host + 1) (copies_since_move past r host) other ∙ nothing_nowhere plan past r host run.0 at
]
  where
    mine : Bool
    mine = goes_to_group past g && ((root past g == r) && (h.0 == host))
nothing_nowhere plan (Moved h e p ∷ past) r host run at = elim (cases_Bool (h.0 == host)) [
  | inl same ↦ cond-true (h.0 == host) 0 (copies_since_move past r host) same
  | inr other ↦
      cond-false (h.0 == host) 0 (copies_since_move past r host) other
      ∙ nothing_nowhere plan past r host run.0 (sym (cond-false (h.0 == host) (Some (at_port e.0 p)) (edge_port_of plan past host) other) ∙ at)
]
nothing_nowhere plan (entry ∷ past) r host run at = nothing_nowhere plan past r host run.0 at

somewhere : (o : Option EdgePort) → (o ≡ None) ⊎ ((there : EdgePort) × (o ≡ Some there))
somewhere None = inl refl
somewhere (Some there) = inr (there, refl)

pub once_where_it_stands : (plan : Plan) (past : List Entry) (r host : ℕ) → RunTo plan past → copies_since_move past r host ≤ 1
once_where_it_stands plan past r host run = elim (somewhere (edge_port_of plan past host)) [
  | inl nowhere ↦ let none = nothing_nowhere plan past r host run nowhere in omega arith
  | inr there ↦
      let few = no_more_than_there plan past r host there.0 there.1 in
      let once = copies_once plan past r there.0 run in
      omega arith
]

pub unicast_is_not_routed : (mac : Mac) → is_group mac ≡ false → is_routed (group_of mac) ≡ false
unicast_is_not_routed mac one = ap is_routed (cond-true (not (is_group mac)) None _ (ap not one))
