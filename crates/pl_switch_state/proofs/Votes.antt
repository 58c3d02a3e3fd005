-- What votes, positions and pods change.
use Rattle.std.proofs.Common.{◌≡◌, ℕ, ◌<◌, ◌^◌, ◌==◌, ◌&&◌, not, Bool, true, false, if◌then◌else◌, Option, Some, None, is_none, List, [], ◌∷◌, ◌++◌, refl, sym, ap, ◌∙◌, subst, arith}
use Rattle.std.proofs.lemmas.Bool.{and_from, and_parts, false≢true, ne_eqb}
use Rattle.std.specs.Prelude.{is_some, IfSome, IsSome}
use Rattle.pl_frame.specs.declared.address.SwitchId.{SwitchId}
use Rattle.pl_node.specs.declared.acts.Act.{Act}
use Rattle.pl_node.specs.SwitchFacts.{is_answered}
use Rattle.pl_node.specs.declared.acts.Act.TheVariants.{Control}
use Rattle.pl_node.specs.declared.messages.TreePart.{TreePart}
use Rattle.pl_node.specs.declared.switch_records.Hold.{Hold}
use Rattle.pl_node.specs.SwitchViews.{SwitchView}
use Rattle.pl_layouts.specs.declared.control.Control.TheVariants as control
use Rattle.pl_layouts.specs.declared.control.Proposal.{Proposal}
use Rattle.pl_layouts.specs.declared.control.Vote.{Vote}
use Rattle.pl_layouts.specs.Control.{control_frame, is_sound_vote}
use Rattle.pl_layouts.specs.Placement.{is_known}
use Rattle.pl_ldp.specs.Writable.{IsWritableId, IsWritableControl}
use Rattle.pl_steps.specs.Steps.{SwitchStep, does, rests}
use Rattle.pl_steps.specs.Taken.{IsTaken}
use Rattle.pl_steps.proofs.Exports.{taken_rests}
use Rattle.pl_switch_rule.specs.Levels.{changes_to, with_pod}
use Rattle.pl_switch_rule.specs.Messages.{hears_pod, takes_pod}
use Rattle.pl_switch_rule.specs.Positions.{after_vote, answers_proposal, counted, frees_others, hears_proposal}
use Rattle.pl_position.specs.Candidacy.{Candidacy, with_candidacy}
use Rattle.pl_position.specs.Holding.{with_holds}
use Rattle.pl_ports.specs.Changes.{with_position}
use Rattle.pl_ports.specs.PortsViews.{PortsView, ports_alone, put_ports}
use Rattle.pl_edge.specs.EdgeViews.{EdgeView}
use Rattle.pl_switch_state.specs.StateViews.{state_view}
use Rattle.pl_switch_state.specs.Settling.{PlaceGrows}
use Rattle.pl_switch_state.proofs.Rows.{KeepsSelf}

-- the candidacy of a switch is its part
candidate_of : (p : PortsView) (c : Candidacy) (h : List (Option Hold)) (edge : EdgeView) (avoid : List (SwitchId × ℕ × ℕ)) (parts : List (ℕ × TreePart)) (epoch : ℕ) →
    c.position ≡ p.place.position → with_candidacy c (state_view p c h edge avoid parts epoch) ≡ state_view p c h edge avoid parts epoch
candidate_of p c h edge avoid parts epoch position = ap (λ o. record (state_view p c h edge avoid parts epoch) { place = record p.place { position = o } }) position

pub vote_counted : (p₀ p : PortsView) (c₀ c : Candidacy) (h : List (Option Hold)) (edge : EdgeView) (avoid : List (SwitchId × ℕ × ℕ)) (parts : List (ℕ × TreePart)) (epoch : ℕ) (port : ℕ) (vote : Vote) →
    c₀.position ≡ p₀.place.position → c.position ≡ p.place.position →
    ((v : SwitchView) → with_candidacy c (put_ports p v) ≡ after_vote (with_candidacy c₀ (put_ports p₀ v)) port vote) →
    after_vote (state_view p₀ c₀ h edge avoid parts epoch) port vote ≡ state_view p c h edge avoid parts epoch
vote_counted p₀ p c₀ c h edge avoid parts epoch port vote before after is_counted =
    ap (λ u. after_vote u port vote) (sym (candidate_of p₀ c₀ h edge avoid parts epoch before))
    ∙ sym (is_counted (state_view p₀ c₀ h edge avoid parts epoch))
    ∙ candidate_of p c h edge avoid parts epoch after

-- ---- a proposal

pub proposal_answered : (v : SwitchView) (p : PortsView) (c : Candidacy) (h₀ h : List (Option Hold)) (edge : EdgeView) (avoid : List (SwitchId × ℕ × ℕ)) (parts : List (ℕ × TreePart)) (epoch : ℕ)
    (port : ℕ) (from : SwitchId) (q : Proposal) (vote : Vote) (out : List Act) →
    state_view p c h₀ edge avoid parts epoch ≡ v → is_answered (ports_alone p) port q.position ≡ true →
    ((u : SwitchView) (n : ℕ) → answers_proposal (frees_others (with_holds h₀ u) from q.position) n from q
    ≡ does (with_holds h u) (Control n (control_frame (control.Vote u.id vote)) ∷ [])) →
    IsTaken (hears_proposal v port from q) (state_view p c h edge avoid parts epoch) out (out ++ Control port (control_frame (control.Vote p.id vote)) ∷ [])
proposal_answered v p c h₀ h edge avoid parts epoch port from q vote out is answered step =
    let old = state_view p c h₀ edge avoid parts epoch in
    let whole : does (state_view p c h edge avoid parts epoch) (Control port (control_frame (control.Vote p.id vote)) ∷ []) ≡ hears_proposal old port from q =
    sym (step old port)
    ∙ ap (λ b. if◌then◌else◌ {A = SwitchStep} b (answers_proposal (frees_others old from q.position) port from q) (rests old)) (sym answered) in
    subst (λ u. IsTaken (hears_proposal u port from q) (state_view p c h edge avoid parts epoch) out (out ++ Control port (control_frame (control.Vote p.id vote)) ∷ [])) is
    (subst (λ s. IsTaken s (state_view p c h edge avoid parts epoch) out (out ++ Control port (control_frame (control.Vote p.id vote)) ∷ [])) whole
    (record { view = refl; acts = refl }))

pub proposal_ignored : (v : SwitchView) (p : PortsView) (c : Candidacy) (h : List (Option Hold)) (edge : EdgeView) (avoid : List (SwitchId × ℕ × ℕ)) (parts : List (ℕ × TreePart)) (epoch : ℕ)
    (port : ℕ) (from : SwitchId) (q : Proposal) (out : List Act) →
    state_view p c h edge avoid parts epoch ≡ v → is_answered (ports_alone p) port q.position ≡ false → IsTaken (hears_proposal v port from q) (state_view p c h edge avoid parts epoch) out out
proposal_ignored v p c h edge avoid parts epoch port from q out is ignored =
    let old = state_view p c h edge avoid parts epoch in
    let whole : rests old ≡ hears_proposal old port from q =
    ap (λ b. if◌then◌else◌ {A = SwitchStep} b (answers_proposal (frees_others old from q.position) port from q) (rests old)) (sym ignored) in
    subst (λ u. IsTaken (hears_proposal u port from q) old out out) is (subst (λ s. IsTaken s old out out) whole (taken_rests old out))

-- a vote on a proposal that was read can be told
pub vote_writable : (id from : SwitchId) (q : Proposal) (vote : Vote) → IsWritableId id → IsWritableControl (control.Proposal from q) →
    vote.attempt ≡ q.attempt → vote.position ≡ q.position →
    (if vote.granted then is_none vote.holder && not vote.fixed else is_some vote.holder) ≡ true →
    IfSome vote.holder IsWritableId → IsWritableControl (control.Vote id vote)
vote_writable id from q vote named read attempt position names holder =
    let begun : not (vote.attempt == 0) ≡ true = ap (λ n. not (n == 0)) attempt ∙ (and_parts (not (from.0 == 0)) (not (q.attempt == 0)) read.sound).1 in
    let some : not (id.0 == 0) ≡ true = ap not (ne_eqb id.0 0 (λ none. let positive : 0 < id.0 = named.0 in omega arith)) in
    record {
      sound = and_from (not (id.0 == 0)) (is_sound_vote vote) some
          (and_from (not (vote.attempt == 0)) (if vote.granted then is_none vote.holder && not vote.fixed else is_some vote.holder) begun names);
      fits = (
        named,
        record {
          attempt = subst (λ n. n < 2 ^ 32) (sym attempt) read.fits.1.attempt;
          position = subst (λ n. n < 256) (sym position) read.fits.1.position;
          holder = holder;
        },
      );
    }

-- ---- a pod

pub pod_taken : (v : SwitchView) (p₀ p : PortsView) (c : Candidacy) (h : List (Option Hold)) (edge : EdgeView) (avoid : List (SwitchId × ℕ × ℕ)) (parts : List (ℕ × TreePart)) (epoch : ℕ) (pod : ℕ) →
    takes_pod (state_view p₀ c h edge avoid parts epoch) pod ≡ true →
    ((u : SwitchView) → put_ports p u ≡ with_pod (put_ports p₀ u) (if takes_pod (put_ports p₀ u) pod then Some pod else p₀.place.pod)) →
    with_pod (state_view p₀ c h edge avoid parts epoch) (Some pod) ≡ state_view p c h edge avoid parts epoch
pod_taken v p₀ p c h edge avoid parts epoch pod takes view =
    let old = state_view p₀ c h edge avoid parts epoch in
    sym (view old ∙ ap (λ b. with_pod old (if◌then◌else◌ {A = Option ℕ} b (Some pod) p₀.place.pod)) takes)

pub pod_not_taken : (p₀ p : PortsView) (w : SwitchView) (pod : ℕ) → takes_pod (put_ports p₀ w) pod ≡ false →
    ((u : SwitchView) → put_ports p u ≡ with_pod (put_ports p₀ u) (if takes_pod (put_ports p₀ u) pod then Some pod else p₀.place.pod)) → p ≡ p₀
pod_not_taken p₀ p w pod takes view =
    ap (λ (u : SwitchView). let q : PortsView = record { id = u.id; k = u.k; place = u.place; ports = u.ports } in q)
    (view w ∙ ap (λ b. with_pod (put_ports p₀ w) (if◌then◌else◌ {A = Option ℕ} b (Some pod) p₀.place.pod)) takes)

pub pod_heard : (v w : SwitchView) (pod : ℕ) (out told : List Act) → takes_pod v pod ≡ true → IsTaken (changes_to v (with_pod v (Some pod))) w out told → IsTaken (hears_pod v pod) w out told
pod_heard v w pod out told takes taken =
    subst (λ s. IsTaken s w out told) (ap (λ b. if◌then◌else◌ {A = SwitchStep} b (changes_to v (with_pod v (Some pod))) (rests v)) (sym takes)) taken

pub pod_ignored : (v w : SwitchView) (pod : ℕ) (out : List Act) → takes_pod v pod ≡ false → w ≡ v → IsTaken (hears_pod v pod) w out out
pod_ignored v w pod out takes same =
    subst (λ u. IsTaken (hears_pod v pod) u out out) (sym same)
    (subst (λ s. IsTaken s v out out) (ap (λ b. if◌then◌else◌ {A = SwitchStep} b (changes_to v (with_pod v (Some pod))) (rests v)) (sym takes)) (taken_rests v out))

no_pod_before : (o : Option ℕ) (n m : ℕ) → is_none o ≡ true → o ≡ Some n → Some m ≡ Some n
no_pod_before None n m none is = let other : None ≡ Some n = is in absurd cc
no_pod_before (Some l) n m none is = absurd (false≢true none)

pub pod_grows : (p₀ p : PortsView) (w : SwitchView) (pod : ℕ) → takes_pod (put_ports p₀ w) pod ≡ true →
    ((u : SwitchView) → put_ports p u ≡ with_pod (put_ports p₀ u) (if takes_pod (put_ports p₀ u) pod then Some pod else p₀.place.pod)) →
    PlaceGrows p₀.place p.place
pod_grows p₀ p w pod takes view =
    let one = and_parts (is_known p₀.place.level 0 && is_known p₀.place.position 0 && is_none p₀.place.pod) (not (pod == 65535)) takes in
    let none = (and_parts (is_known p₀.place.level 0 && is_known p₀.place.position 0) (is_none p₀.place.pod) one.0).1 in
    subst (PlaceGrows p₀.place)
    (sym (ap (λ (u : SwitchView). u.place) (view w ∙ ap (λ b. with_pod (put_ports p₀ w) (if◌then◌else◌ {A = Option ℕ} b (Some pod) p₀.place.pod)) takes)))
    (record { level = λ n is. is; position = λ n is. is; pod = λ n is. no_pod_before p₀.place.pod n pod none is })

-- ---- a vote of which the position is fixed, or not

pub uncounted : (v : SwitchView) (port : ℕ) (vote : Vote) → is_known v.place.level 0 ≡ false → after_vote v port vote ≡ v
uncounted v port vote other =
    ap (λ b. if◌then◌else◌ {A = SwitchView} (b && is_none v.place.position && (vote.attempt == v.attempt) && (vote.position == v.proposed)) (counted v port vote) v) other

-- no position is fixed by a vote that fixes none
pub position_stays : (before after : Candidacy) (fixed : Bool) → fixed ≡ false → fixed ≡ (is_none before.position && is_some after.position) →
    (IsSome before.position → after ≡ before) → after.position ≡ before.position
position_stays before after fixed none told settled = by before.position after.position (λ some. ap (λ (c : Candidacy). c.position) (settled some)) (sym none ∙ told)
  where
    by : (old new : Option ℕ) → (IsSome old → new ≡ old) → false ≡ (is_none old && is_some new) → new ≡ old
    by None None same h = refl
    by None (Some n) same h = absurd (false≢true h)
    by (Some m) new same h = same refl

pub pod_keeps : (p₀ p : PortsView) (w : SwitchView) (pod : ℕ) →
    ((u : SwitchView) → put_ports p u ≡ with_pod (put_ports p₀ u) (if takes_pod (put_ports p₀ u) pod then Some pod else p₀.place.pod)) → KeepsSelf p₀ p
pod_keeps p₀ p w pod view = record {
  id = ap (λ (u : SwitchView). u.id) (view w);
  k = ap (λ (u : SwitchView). u.k) (view w);
  position = ap (λ (u : SwitchView). u.place.position) (view w);
}

pub fixed_now : (before after : Candidacy) (fixed : Bool) → fixed ≡ true → fixed ≡ (is_none before.position && is_some after.position) →
    (is_none before.position ≡ true) × (is_some after.position ≡ true)
fixed_now before after fixed now told = and_parts (is_none before.position) (is_some after.position) (sym told ∙ now)

pub position_grows : (p₀ p : PortsView) (w : SwitchView) (position : ℕ) → is_none p₀.place.position ≡ true →
    put_ports p w ≡ with_position (put_ports p₀ w) (Some position) → PlaceGrows p₀.place p.place
position_grows p₀ p w position none view =
    subst (PlaceGrows p₀.place) (sym (ap (λ (u : SwitchView). u.place) view))
    (record { level = λ n is. is; position = λ n is. no_pod_before p₀.place.position n position none is; pod = λ n is. is })
