-- What a switch tells its neighbours goes out as control frames.
use Rattle.std.proofs.Common.{◌≡◌, ◌<◌, ◌≤◌, ◌+◌, ◌==◌, ◌&&◌, nat_lt, ℕ, Bool, true, if◌then◌else◌, List, [], ◌∷◌, ◌++◌, length, map, refl, ap, arith, length-append}
use Rattle.std.specs.List.{AllByRecursion}
use Rattle.std.proofs.lemmas.List.{length-map}
use Rattle.byteorder.specs.Endian.{big_bytes}
use Rattle.byteorder.specs.Numbers.{length-bytes_high_first}
use Rattle.pl_lemmas.proofs.Exports.{all_append, all_filter}
use Rattle.pl_frame.specs.declared.address.SwitchId.{SwitchId}
use Rattle.pl_frame.specs.Ethernet.{Fields}
use Rattle.pl_frame.proofs.Exports.{fields_of-frame_of, length-frame_of}
use Rattle.pl_node.specs.declared.acts.Act.TheVariants.{Control}
use Rattle.pl_layouts.specs.declared.control.Control.TheVariants as control
use Rattle.pl_layouts.specs.declared.control.Control as declared
use Rattle.pl_layouts.specs.declared.control.Ldm.{Ldm}
use Rattle.pl_layouts.specs.declared.control.Proposal.{Proposal}
use Rattle.pl_layouts.specs.declared.control.Vote.{Vote}
use Rattle.pl_switch_rule.specs.Announcing.{announcements, announces_at, proposal, proposes_at, tells_neighbours, with_aged_ports}
use Rattle.pl_node.specs.PortRecords.{aged, id_at, place_at, ports_of_switch, ports_where}
use Rattle.pl_node.specs.Announcements.{announcement, direction_of}
use Rattle.pl_layouts.specs.Control.{bit, control_bytes, control_frame, control_group, id_code, ldm_bytes, level_code, pod_code, position_code, proposal_bytes, sender_of, vote_bytes}
use Rattle.pl_node.specs.Accounting.{IsSentDuly, IsShaped}
use Rattle.pl_switch_rule.specs.Positions.{answers_proposal, frees_others, half, hears_proposal, holds_for, is_free_for, vote_on}
use Rattle.pl_node.specs.SwitchFacts.{hold_at}
use Rattle.pl_layouts.specs.Placement.{is_known}
use Rattle.pl_steps.specs.Steps.{SwitchStep, rests}
use Rattle.pl_node.specs.SwitchViews.{SwitchView}
use Rattle.pl_switch_rule.specs.Telling.{changes_told}
use Rattle.pl_switch_rule.proofs.StepParts.{IsQuiet, IsSame, fit_at, same_then}
use Rattle.pl_switch_rule.proofs.Shapes.{all_range, same_self, same_with_ports}
use Rattle.pl_switch_rule.proofs.QuietActs.{AreQuiet, IsQuietAct, quiet_either, quiet_map, quiet_self, quiet_step, same_either}
use Rattle.pl_switch_rule.proofs.LevelParts.{quiet_changes_told}
use Rattle.pl_switch_rule.proofs.PositionParts.{same_frees_others, same_holds_for}

-- Frames.

length-ldm : (id : SwitchId) (m : Ldm) → length (ldm_bytes id m) ≡ 19
length-ldm id m =
    let last : List ℕ = m.direction ∷ big_bytes 6 (id_code m.echo) in
    let place : List ℕ = level_code m.place.level ∷ position_code m.place.position ∷ (big_bytes 2 (pod_code m.place.pod) ++ last) in
    omega (
      arith,
      length-append (big_bytes 6 id.0) place,
      length-append (big_bytes 2 (pod_code m.place.pod)) last,
      length-bytes_high_first 6 id.0,
      length-bytes_high_first 2 (pod_code m.place.pod),
      length-bytes_high_first 6 (id_code m.echo),
    )

length-proposal : (id : SwitchId) (p : Proposal) → length (proposal_bytes id p) ≡ 13
length-proposal id p = omega (
  arith,
  length-append (big_bytes 6 id.0) (big_bytes 4 p.attempt ++ (p.position ∷ [])),
  length-append (big_bytes 4 p.attempt) (p.position ∷ []),
  length-bytes_high_first 6 id.0,
  length-bytes_high_first 4 p.attempt,
)

length-vote : (id : SwitchId) (v : Vote) → length (vote_bytes id v) ≡ 21
length-vote id v =
    let last : List ℕ = bit v.fixed ∷ [] in
    let holder : List ℕ = big_bytes 6 (id_code v.holder) ++ last in
    let position : List ℕ = v.position ∷ bit v.granted ∷ holder in
    omega (
      arith,
      length-append (big_bytes 6 id.0) (big_bytes 4 v.attempt ++ position),
      length-append (big_bytes 4 v.attempt) position,
      length-append (big_bytes 6 (id_code v.holder)) last,
      length-bytes_high_first 6 id.0,
      length-bytes_high_first 4 v.attempt,
      length-bytes_high_first 6 (id_code v.holder),
    )

short_payload : (c : declared.Control) → length (control_bytes c) ≤ 21
unfolding control_bytes
short_payload (control.Ldm id m) = let e = length-ldm id m in omega (arith, e)
short_payload (control.Proposal id p) = let e = length-proposal id p in omega (arith, e)
short_payload (control.Vote id v) = let e = length-vote id v in omega (arith, e)

pub control_is_sent : (k port : ℕ) (c : declared.Control) → port < k → IsSentDuly k port true (control_frame c)
unfolding control_frame
control_is_sent k port c within =
    let f : Fields = record {
      dst = control_group;
      src = record { 0 = big_bytes 6 (sender_of c).0 };
      kind = 0x88b5;
      payload = control_bytes c;
    } in
    let six = length-bytes_high_first 6 (sender_of c).0 in
    let long = length-frame_of f refl six in
    let kind = ap (λ g. g.kind) (fields_of-frame_of f refl six (omega arith)) in
    record {
      within = within;
      kind = ap (λ n. n == 0x88b5) kind;
      whole = record { low = omega (arith, long); high = omega (arith, long, short_payload c) };
    }

-- A proposal is answered.

quiet_answers : (v : SwitchView) (port : ℕ) (edge : SwitchId) (p : Proposal) → IsShaped v → port < v.k → IsQuiet v (answers_proposal v port edge p)
quiet_answers v port edge p s within =
    let c = control.Vote v.id (vote_on edge p (hold_at v p.position)) in
    let new = if◌then◌else◌ {A = SwitchView} (is_free_for edge (hold_at v p.position)) (holds_for v edge p.position) v in
    quiet_step v new (Control port (control_frame c) ∷ [])
    (same_either v (is_free_for edge (hold_at v p.position)) (holds_for v edge p.position) v (same_holds_for v edge p.position s) (same_self v s))
    (control_is_sent v.k port c within, tt)

-- from a view of the same switch
pub quiet_from : (v w : SwitchView) (s : SwitchStep) → IsSame v w → IsQuiet w s → IsQuiet v s
quiet_from v w s same q = record {
  silent = q.silent;
  waiting = q.waiting;
  fit = fit_at v w s.acts same q.fit;
  same = same_then v w s.view same q.same;
}

pub quiet_hears_proposal : (v : SwitchView) (port : ℕ) (edge : SwitchId) (p : Proposal) → IsShaped v → port < v.k → IsQuiet v (hears_proposal v port edge p)
quiet_hears_proposal v port edge p s within =
    let freed = frees_others v edge p.position in
    let first = same_frees_others v edge p.position s in
    quiet_either v (is_known v.place.level 1 && is_known (place_at v port).level 0 && nat_lt p.position (half v.k)) (answers_proposal freed port edge p) (rests v)
    (λ h. quiet_from v freed (answers_proposal freed port edge p) first (quiet_answers freed port edge p first.shaped within)) (λ h. quiet_self v s)

-- Neighbours are told at a tick.

-- the ports of a switch are below k
pub ports_within : (v : SwitchView) (test : ℕ → Bool) → AllByRecursion (λ port. port < v.k) (ports_where v test)
ports_within v test = all_filter (λ port. port < v.k) test (ports_of_switch v.k) (all_range v.k 0 v.k (omega arith))

same_aged : (v : SwitchView) → IsShaped v → IsSame v (with_aged_ports v)
same_aged v s = same_with_ports v (map aged v.ports) s (length-map v.ports aged)

quiet_announcements : (v : SwitchView) → AreQuiet v.k (announcements v)
quiet_announcements v =
    let told = map (λ port. Control port (announcement v port)) (ports_where v (announces_at v)) in
    let asked = map (λ port. Control port (proposal v)) (ports_where v (proposes_at v)) in
    all_append (IsQuietAct v.k) told asked
    (quiet_map v.k (λ port. port < v.k) (λ port. Control port (announcement v port)) (ports_where v (announces_at v)) (ports_within v (announces_at v))
    (λ port within. control_is_sent v.k port (control.Ldm v.id (record { place = v.place; direction = direction_of v port; echo = id_at v port })) within))
    (quiet_map v.k (λ port. port < v.k) (λ port. Control port (proposal v)) (ports_where v (proposes_at v)) (ports_within v (proposes_at v))
    (λ port within. control_is_sent v.k port (control.Proposal v.id (record { attempt = v.attempt; position = v.proposed })) within))

pub quiet_neighbours : (v : SwitchView) → IsShaped v → IsQuiet v (tells_neighbours v)
quiet_neighbours v s =
    let new = with_aged_ports v in
    quiet_step v new (changes_told v new ++ announcements new) (same_aged v s)
    (all_append (IsQuietAct v.k) (changes_told v new) (announcements new) (quiet_changes_told v.k v new) (quiet_announcements new))
