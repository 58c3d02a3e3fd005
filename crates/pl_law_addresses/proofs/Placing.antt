-- An edge switch gets its place: once it is placed it keeps it, and it grants addresses to the sources that it remembers.
use Rattle.std.proofs.Common.{◌≡◌, ◌+◌, ◌%◌, ◌==◌, ◌&&◌, not, ℕ, Bool, true, false, cond, if◌then◌else◌, get_or, List, [], length, Option, Some, None, is_some, is_none, nat_lt, refl, sym, ap, subst, ◌∙◌, inl, inr, arith}
use Rattle.std.specs.List.{list_any}
use Rattle.std.proofs.lemmas.Bool.{and_parts, cases_Bool, cond_both, false≢true}
use Rattle.std.proofs.lemmas.Option.{none-some}
use Rattle.pl_frame.specs.declared.address.Ip4.{Ip4}
use Rattle.pl_frame.specs.declared.address.Mac.{Mac}
use Rattle.pl_frame.specs.declared.address.SwitchId.{SwitchId}
use Rattle.pl_pmac.specs.declared.pmac.Pmac.{Pmac}
use Rattle.pl_node.specs.declared.switch_records.Grant.{Grant}
use Rattle.pl_node.specs.declared.switch_records.Source.{Source}
use Rattle.pl_node.specs.PortRecords.{port_of, ports_of_switch, with_port}
use Rattle.pl_node.specs.SwitchViews.{SwitchView}
use Rattle.pl_layouts.specs.declared.control.Ldm.{Ldm}
use Rattle.pl_layouts.specs.declared.control.Vote.{Vote}
use Rattle.pl_layouts.specs.declared.place.Place.{Place}
use Rattle.pl_layouts.specs.Placement.{is_known, is_placed}
use Rattle.pl_layouts.specs.Votes.{counts, gives_way}
use Rattle.pl_steps.specs.Steps.{SwitchStep, does, rests, ◌▹◌}
use Rattle.pl_switch_rule.specs.Granting.{freed_at, granted, grants_at, grants_remembered}
use Rattle.pl_switch_rule.specs.Levels.{after_message, becomes_edge, changes_to, has_become_placed, learns_level, learns_pod, level_after, notes_edge, pod_after, is_of_other_pod, pod_told_before, settles_in, share_a_pod, with_message, with_pod}
use Rattle.pl_switch_rule.specs.Messages.{takes_pod}
use Rattle.pl_switch_rule.specs.Positions.{after_vote, counted, fixes_position, frees_others, half, marks, moves_on, notes_position, with_granted}
use Rattle.pl_switch_rule.specs.Telling.{changes_told}
use Rattle.pl_switch_rule.proofs.Exports.{all_range, none_granted}
use Rattle.pl_law_addresses.specs.FreeVmids.{AreFreeVmids}
use Rattle.pl_law_addresses.specs.EdgeAddresses.{IsGoodAddressTable, KeepsHolders, is_settled}
use Rattle.pl_law_addresses.proofs.Asides.{changes_silent}
use Rattle.pl_law_addresses.proofs.FreeLists.{table_alike}
use Rattle.pl_law_addresses.proofs.Granting.{keeps_grants_remembered}
use Rattle.pl_law_addresses.proofs.GrantsByNumber.{settled_is}
use Rattle.pl_law_addresses.proofs.RowsLeaveAddresses.{Grows, LeavesAddresses, Keeps, aside_does, aside_keeps, grows_from, grows_then, keeps_either, keeps_then, rests_keeps, same_holders}

-- an address has this place
abbrev pub has_place : Place → Pmac → Bool
has_place place x = is_known place.level 0 && (is_known place.pod x.pod && is_known place.position x.position)

-- a change of the place alone, and none once the switch is a placed edge switch
pub record IsPlacing (v w : SwitchView) : Type 0 where
  pub k : w.k ≡ v.k
  pub grants : w.grants ≡ v.grants
  pub freed : w.freed ≡ v.freed
  pub remembered : w.remembered ≡ v.remembered
  pub place : is_settled v.place ≡ true → w.place ≡ v.place

module _ (own : Mac → Option Ip4) where
  -- an edge switch that is not placed has granted nothing
  placed_table : (v w : SwitchView) → IsPlacing v w → IsGoodAddressTable own v → IsGoodAddressTable own w
  placed_table v w p table = elim (cases_Bool (is_settled v.place)) [
    | inl settled ↦ table_alike own v w (p.place settled) p.k p.grants p.freed p.remembered table
    | inr unsettled ↦ record {
      many = ap (λ (gs : List (List Grant)). length gs) p.grants ∙ table.many ∙ sym p.k;
      many_freed = ap (λ (fs : List (List ℕ)). length fs) p.freed ∙ table.many_freed ∙ sym p.k;
      empty = λ h port. ap (λ (gs : List (List Grant)). get_or gs port []) p.grants ∙ table.empty unsettled port;
      free = λ port.
          subst (λ (fs : List ℕ). AreFreeVmids (grants_at w port) fs) (ap (λ (fs : List (List ℕ)). get_or fs port []) (sym p.freed))
          (subst (λ (gs : List Grant). AreFreeVmids gs (freed_at v port))
          (ap (λ (gs : List (List Grant)). get_or gs port []) (sym p.grants)) (table.free port));
      sources = λ port source is. table.sources port source (ap (λ (ss : List (Option Source)). get_or ss port None) (sym p.remembered) ∙ is);
    }
  ]

  placed_holders : (v w : SwitchView) → IsPlacing v w → IsGoodAddressTable own v → KeepsHolders (λ x. granted v x) (λ x. granted w x)
  placed_holders v w p table = elim (cases_Bool (is_settled v.place)) [
    | inl settled ↦ same_holders v w (p.place settled) p.grants
    | inr unsettled ↦ λ x mac is. absurd (none-some is.grant (sym (none_granted v x (table.empty unsettled x.port)) ∙ is.found))
  ]

  -- what comes of it
  keeps_settling : (old : Place) (w : SwitchView) → Keeps own w (settles_in old w)
  keeps_settling old w =
      keeps_either own w (has_become_placed old w.place) (grants_remembered (ports_of_switch w.k) w) (rests w)
      (λ now. let parts = and_parts (is_known w.place.level 0 && is_placed w.place) (not (is_placed old)) now in
      keeps_grants_remembered own (ports_of_switch w.k) w parts.0 (all_range w.k 0 w.k (omega arith)))
      (λ other. rests_keeps own w)

  pub keeps_changes : (v w : SwitchView) → Keeps own w (changes_to v w)
  keeps_changes v w =
      keeps_then own w (does w (changes_told v w)) (settles_in v.place)
      (aside_keeps own w (does w (changes_told v w)) (aside_does w (changes_told v w) (changes_silent v w))) (keeps_settling v.place w)

  -- a step in which the switch may get its place
  pub record Steps (v : SwitchView) (s : SwitchStep) : Type 0 where
    pub table : IsGoodAddressTable own v → IsGoodAddressTable own s.view
    pub grows : IsGoodAddressTable own v → Grows v s
    pub place : is_settled v.place ≡ true → s.view.place ≡ v.place
    pub k : s.view.k ≡ v.k

  pub keeps_steps : (v : SwitchView) (s : SwitchStep) → Keeps own v s → Steps v s
  keeps_steps v s a = record { table = a.table; grows = a.grows; place = λ settled. a.place; k = a.k }

  pub aside_steps : (v : SwitchView) (s : SwitchStep) → LeavesAddresses v s → Steps v s
  aside_steps v s a = keeps_steps v s (aside_keeps own v s a)

  pub steps_either : (v : SwitchView) (test : Bool) (s t : SwitchStep) → (test ≡ true → Steps v s) → (test ≡ false → Steps v t) → Steps v (if test then s else t)
  steps_either v true s t a b = a refl
  steps_either v false s t a b = b refl

  pub steps_changes : (v w : SwitchView) → IsPlacing v w → Steps v (changes_to v w)
  steps_changes v w p = let a = keeps_changes v w in record {
    table = λ table. a.table (placed_table v w p table);
    grows = λ table. grows_from v w (changes_to v w) (placed_holders v w p table) (a.grows (placed_table v w p table));
    place = λ settled. a.place ∙ p.place settled;
    k = a.k ∙ p.k;
  }

  pub steps_then : (v : SwitchView) (s : SwitchStep) (next : SwitchView → SwitchStep) → Steps v s → Keeps own s.view (next s.view) → Steps v (s ▹ next)
  steps_then v s next a b = record {
    table = λ table. b.table (a.table table);
    grows = λ table. grows_then v s next (a.grows table) (b.grows (a.table table));
    place = λ settled. b.place ∙ a.place settled;
    k = b.k ∙ a.k;
  }

-- ---- which changes these are
none_of_some : {X : Type 0} (o : Option X) → is_some o ≡ true → is_none o ≡ false
none_of_some None h = absurd (false≢true h)
none_of_some (Some x) h = refl

contradicts : (place : Place) → is_settled place ≡ true → is_none place.pod ≡ true → ⊥
contradicts place settled none = false≢true (sym (none_of_some place.pod (settled_is place settled).pod) ∙ none)

pub pod_placing : (v : SwitchView) (pod : ℕ) → takes_pod v pod ≡ true → IsPlacing v (with_pod v (Some pod))
pod_placing v pod takes =
    let three = and_parts (is_known v.place.level 0 && is_known v.place.position 0 && is_none v.place.pod) (not (pod == 65535)) takes in
    let two = and_parts (is_known v.place.level 0 && is_known v.place.position 0) (is_none v.place.pod) three.0 in
    record { k = refl; grants = refl; freed = refl; remembered = refl; place = λ settled. absurd (contradicts v.place settled two.1) }

-- what an aggregation switch notes of positions changes nothing of this
record IsLike (v w : SwitchView) : Type 0 where
  k : w.k ≡ v.k
  grants : w.grants ≡ v.grants
  freed : w.freed ≡ v.freed
  remembered : w.remembered ≡ v.remembered
  place : w.place ≡ v.place

notes_like : (v : SwitchView) (edge : SwitchId) (o : Option ℕ) → IsLike v (notes_position v edge o)
notes_like v edge None = record { k = refl; grants = refl; freed = refl; remembered = refl; place = refl }
notes_like v edge (Some position) =
    cond_both (nat_lt position (half v.k)) (marks (frees_others v edge position) edge position) v (IsLike v)
    (λ h. record { k = refl; grants = refl; freed = refl; remembered = refl; place = refl }) (λ h. record { k = refl; grants = refl; freed = refl; remembered = refl; place = refl })

notes_edge_like : (v : SwitchView) (id : SwitchId) (told : Place) → IsLike v (notes_edge v id told)
notes_edge_like v id told =
    cond_both (is_known v.place.level 1 && is_known told.level 0) (notes_position v id told.position) v (IsLike v)
    (λ h. notes_like v id told.position) (λ h. record { k = refl; grants = refl; freed = refl; remembered = refl; place = refl })

level_stays : (v : SwitchView) (told : Place) → v.place.level ≡ Some 0 → level_after v told ≡ v.place.level
level_stays v told is =
    ap (λ b. if b then v.place.level
    else if is_known told.level 0 then Some 1
    else if is_known told.level 1 && list_any (is_of_other_pod told.pod) v.ports then Some 2
    else None) (ap is_some is)

pod_stays : (place told : Place) → is_some place.pod ≡ true → pod_after place told ≡ place.pod
pod_stays place told some = ap (λ b. if b && share_a_pod place.level told.level then told.pod else place.pod) (none_of_some place.pod some)

pub message_placing : (v : SwitchView) (port : ℕ) (id : SwitchId) (m : Ldm) → IsPlacing v (after_message v port id m)
message_placing v port id m =
    let heard : SwitchView = with_message v port id m in
    let leveled : SwitchView = learns_level heard m.place in
    let w : SwitchView = learns_pod leveled m.place in
    let like = notes_edge_like w id m.place in
    record {
      k = like.k;
      grants = like.grants;
      freed = like.freed;
      remembered = like.remembered;
      place = λ settled.
          let s = settled_is v.place settled in
          let level : level_after heard m.place ≡ v.place.level = level_stays heard m.place s.level in
          let pod : pod_after leveled.place m.place ≡ v.place.pod = pod_stays leveled.place m.place s.pod in
          like.place ∙ (λ i. record { level = level i; position = v.place.position; pod = pod i });
    }

pub vote_placing : (v : SwitchView) (port : ℕ) (vote : Vote) → IsPlacing v (after_vote v port vote)
vote_placing v port vote =
    cond_both (counts v.place v.attempt v.proposed vote) (counted v port vote) v (IsPlacing v)
    (λ counting.
    let three = and_parts (is_known v.place.level 0 && is_none v.place.position && (vote.attempt == v.attempt)) (vote.position == v.proposed) counting in
    let two = and_parts (is_known v.place.level 0 && is_none v.place.position) (vote.attempt == v.attempt) three.0 in
    let one = and_parts (is_known v.place.level 0) (is_none v.place.position) two.0 in
    let never : is_settled v.place ≡ true → ⊥ = λ settled. false≢true (sym (none_of_some v.place.position (settled_is v.place settled).position) ∙ one.1) in
    cond_both vote.granted (fixes_position (with_granted v port)) (cond (gives_way v.id vote) (moves_on v) v) (IsPlacing v)
    (λ h. record { k = refl; grants = refl; freed = refl; remembered = refl; place = λ settled. absurd (never settled) })
    (λ h. cond_both (gives_way v.id vote) (moves_on v) v (IsPlacing v)
    (λ h. cond_both (v.attempt == 4294967295) v (record v { attempt = v.attempt + 1; proposed = (v.proposed + 1) % half v.k; granted = [] }) (IsPlacing v)
    (λ h. same v) (λ h. record { k = refl; grants = refl; freed = refl; remembered = refl; place = λ settled. refl }))
    (λ h. same v)))
    (λ h. same v)
  where
    same : (w : SwitchView) → IsPlacing w w
    same w = record { k = refl; grants = refl; freed = refl; remembered = refl; place = λ settled. refl }

pub edge_placing : (v : SwitchView) (port : ℕ) → IsPlacing v (becomes_edge (with_port v port (record (port_of v port) { host = true })))
edge_placing v port = record {
  k = refl;
  grants = refl;
  freed = refl;
  remembered = refl;
  place = λ settled.
      let s = settled_is v.place settled in
      let w : SwitchView = with_port v port (record (port_of v port) { host = true }) in
      let pod : (if is_none v.place.level && is_none v.place.pod then pod_told_before w else v.place.pod) ≡ v.place.pod =
      ap (λ (o : Option ℕ). if is_none o && is_none v.place.pod then pod_told_before w else v.place.pod) s.level in
      λ i. record { level = sym s.level i; position = v.place.position; pod = pod i };
}
