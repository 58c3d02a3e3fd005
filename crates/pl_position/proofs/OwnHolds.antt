-- What an edge switch says of a position changes its own holds alone.
use Rattle.std.proofs.Common.{◌≡◌, ◌≢◌, ℕ, ◌<◌, ◌==◌, ◌&&◌, not, Bool, true, false, if◌then◌else◌, List, length, set, Option, Some, None, IfSome, refl, sym, ap, ◌∙◌, subst, inl, inr, get_or-set_other, get_or-set_same}
use Rattle.std.proofs.lemmas.Bool.{cases_eq, eq-eqb, ne_eqb, true≢false}
use Rattle.std.proofs.lemmas.List.{length-set, set-get_or}
use Rattle.std.proofs.lemmas.Option.{none-some, same_Some}
use Rattle.pl_frame.specs.declared.address.SwitchId.{SwitchId}
use Rattle.pl_frame.proofs.Exports.{same_id}
use Rattle.pl_layouts.specs.declared.control.Proposal.{Proposal}
use Rattle.pl_layouts.specs.declared.control.Vote.{Vote}
use Rattle.pl_node.specs.declared.switch_records.Hold.{Hold}
use Rattle.pl_switch_rule.specs.Positions.{freed_but, is_free_for, is_held_for, kept_or_new, marked_for, vote_on}
use Rattle.pl_switch_rule.proofs.Exports.{length_freed}
use Rattle.pl_position.specs.Holding.{AreHeldByIds, HoldsFor, AnswersProposal, IsSwitchId, hold_in}
use Rattle.pl_position.proofs.Freeing.{freed, freed_at, freed_itself}

pub ids_apart : (a b : SwitchId) → a ≢ b → (a.0 == b.0) ≡ false
ids_apart a b ne = ne_eqb a.0 b.0 (λ e. ne (same_id a b e))

own_id : (edge : SwitchId) → (edge.0 == edge.0) ≡ true
own_id edge = eq-eqb edge.0 edge.0 refl

-- what another edge switch holds is not freed
freed_other : (position : ℕ) (edge : SwitchId) (at : ℕ) (hold : Hold) → hold.edge ≢ edge → freed position edge at (Some hold) ≡ Some hold
freed_other position edge at hold ne = rw (ids_apart hold.edge edge ne) refl

-- what is not freed was there
freed_back : (position : ℕ) (edge : SwitchId) (at : ℕ) (hold : Option Hold) (left : Hold) → freed position edge at hold ≡ Some left → hold ≡ Some left
freed_back position edge at hold left =
    elim (is_held_for edge hold && not (at == position)) as (λ b. (if b then None else hold) ≡ Some left → hold ≡ Some left) [
      | true ↦ λ e. absurd (none-some left e)
      | false ↦ λ e. e
    ]

freed_alone : (position : ℕ) (edge : SwitchId) (at : ℕ) (hold : Option Hold) → at ≢ position → is_held_for edge (freed position edge at hold) ≡ false
freed_alone position edge at hold ne =
    rw (ne_eqb at position ne)
    (elim (is_held_for edge hold) as (λ b. is_held_for edge hold ≡ b → is_held_for edge (if b && true then None else hold) ≡ false) [
      | true ↦ λ e. refl
      | false ↦ λ e. e
    ] refl)

-- At the position: the hold of another edge switch stays, and no other is put there but one of this edge switch.
pub record IsOwn (edge : SwitchId) (before after : Option Hold) : Type 0 where
  pub kept : (hold : Hold) → hold.edge ≢ edge → before ≡ Some hold → after ≡ Some hold
  pub no_more : (hold : Hold) → hold.edge ≢ edge → after ≡ Some hold → before ≡ Some hold

new_is_own : (edge : SwitchId) (fixed : Bool) → IsOwn edge None (Some (record { edge = edge; fixed = fixed }))
new_is_own edge fixed = record {
  kept = λ hold ne e. absurd (none-some hold e);
  no_more = λ hold ne e. absurd (ne (sym (ap (λ h. h.edge) (same_Some _ hold e))));
}

pub kept_is_own : (edge : SwitchId) (hold : Option Hold) → IsOwn edge hold (kept_or_new edge hold)
kept_is_own edge None = new_is_own edge false
kept_is_own edge (Some held) = record { kept = λ hold ne e. e; no_more = λ hold ne e. e }

pub marked_is_own : (edge : SwitchId) (hold : Option Hold) → IsOwn edge hold (marked_for edge hold)
marked_is_own edge None = new_is_own edge true
marked_is_own edge (Some held) = elim (cases_eq held.edge.0 edge.0) [
  | inl same ↦
      let own : held.edge ≡ edge = same_id held.edge edge same in
      rw (eq-eqb held.edge.0 edge.0 same) (record {
        kept = λ hold ne e. absurd (ne (sym (ap (λ h. h.edge) (same_Some held hold e)) ∙ own));
        no_more = λ hold ne e. absurd (ne (sym (ap (λ h. h.edge) (same_Some _ hold e))));
      })
  | inr other ↦ rw (ne_eqb held.edge.0 edge.0 other) (record { kept = λ hold ne e. e; no_more = λ hold ne e. e })
]

module _ (edge : SwitchId) (position : ℕ) (before : List (Option Hold)) (hold : Option Hold) (within : position < length before) where
  abbrev freed_holds : List (Option Hold)
  freed_holds = freed_but position edge 0 before

  abbrev after : List (Option Hold)
  after = set freed_holds position hold

  pub held_there : hold_in after position ≡ hold
  held_there = get_or-set_same freed_holds position hold None (subst (λ n. position < n) (sym (length_freed position edge 0 before)) within)

  held_elsewhere : (at : ℕ) → at ≢ position → hold_in after at ≡ freed position edge at (hold_in before at)
  held_elsewhere at ne = get_or-set_other freed_holds position at hold None ne ∙ freed_at position edge before at

  pub holds_for_edge : IsOwn edge (hold_in before position) hold → HoldsFor edge position before after
  holds_for_edge own = record {
    kept = λ at other ne e. elim (cases_eq at position) [
      | inl here ↦ ap (hold_in after) here ∙ held_there ∙ own.kept other ne (sym (ap (hold_in before) here) ∙ e)
      | inr away ↦ held_elsewhere at away ∙ ap (freed position edge at) e ∙ freed_other position edge at other ne
    ];
    no_more = λ at other ne e. elim (cases_eq at position) [
      | inl here ↦ ap (hold_in before) here ∙ own.no_more other ne (sym held_there ∙ sym (ap (hold_in after) here) ∙ e)
      | inr away ↦ freed_back position edge at (hold_in before at) other (sym (held_elsewhere at away) ∙ e)
    ];
    alone = λ at away. ap (is_held_for edge) (held_elsewhere at away) ∙ freed_alone position edge at (hold_in before at) away;
    many = length-set freed_holds position hold ∙ length_freed position edge 0 before;
  }

-- what is held at the position after all else is freed is what was held there
pub hold_stays : (edge : SwitchId) (position : ℕ) (before : List (Option Hold)) → hold_in (freed_but position edge 0 before) position ≡ hold_in before position
hold_stays edge position before = freed_at position edge before position ∙ freed_itself position edge position (hold_in before position) refl

-- all ids that are held stay ids
pub held_by_ids : (edge : SwitchId) (position : ℕ) (before after : List (Option Hold)) → HoldsFor edge position before after → IsSwitchId edge →
    AreHeldByIds before → AreHeldByIds after
held_by_ids edge position old new h id ids at hold e = elim (cases_eq hold.edge.0 edge.0) [
  | inl same ↦ subst IsSwitchId (sym (same_id hold.edge edge same)) id
  | inr other ↦ ids at hold (h.no_more at hold (λ same. other (ap (λ a. a.0) same)) e)
]

-- The vote on a hold, and what is held then.
pub answers : (edge : SwitchId) (p : Proposal) (hold : Option Hold) (holds : List (Option Hold)) → hold_in holds p.position ≡ kept_or_new edge hold →
    AnswersProposal edge p holds (vote_on edge p hold)
answers edge p None holds is = record {
  attempt = refl;
  position = refl;
  grant = λ e. ap (is_held_for edge) is ∙ own_id edge;
  refusal = λ e. absurd (true≢false e);
}
answers edge p (Some held) holds is = elim (cases_eq held.edge.0 edge.0) [
  | inl same ↦ rw (eq-eqb held.edge.0 edge.0 same) (record {
    attempt = refl;
    position = refl;
    grant = λ e. ap (is_held_for edge) is ∙ eq-eqb held.edge.0 edge.0 same;
    refusal = λ e. absurd (true≢false e);
  })
  | inr other ↦ rw (ne_eqb held.edge.0 edge.0 other) (record {
    attempt = refl;
    position = refl;
    grant = λ e. absurd (true≢false (sym e));
    refusal = λ e. (held, is, (λ same. other (ap (λ a. a.0) same)), refl, refl);
  })
]

-- a refusal names an id
pub names_an_id : (edge : SwitchId) (p : Proposal) (hold : Option Hold) → ((held : Hold) → hold ≡ Some held → IsSwitchId held.edge) →
    IfSome (vote_on edge p hold).holder IsSwitchId
names_an_id edge p None ids = tt
names_an_id edge p (Some held) ids =
    elim (held.edge.0 == edge.0) as (λ b. IfSome (if◌then◌else◌ {A = Vote} b (record { attempt = p.attempt; position = p.position; granted = true; holder = None; fixed = false }) (record { attempt = p.attempt; position = p.position; granted = false; holder = Some held.edge; fixed = held.fixed })).holder IsSwitchId) [
      | true ↦ tt
      | false ↦ ids held refl
    ]

-- what is free for the edge switch is marked for it
pub marks_it : (edge : SwitchId) (hold : Option Hold) → is_free_for edge hold ≡ true → marked_for edge hold ≡ Some (record { edge = edge; fixed = true })
marks_it edge None free = refl
marks_it edge (Some held) free = rw free refl

-- the same where nothing is written at the position
pub holds_when_freed : (edge : SwitchId) (position : ℕ) (before : List (Option Hold)) → position < length before →
    HoldsFor edge position before (freed_but position edge 0 before)
holds_when_freed edge position before within =
    let freed_holds : List (Option Hold) = freed_but position edge 0 before in
    subst (HoldsFor edge position before)
    (ap (set freed_holds position) (sym (hold_stays edge position before)) ∙ set-get_or freed_holds position None)
    (holds_for_edge edge position before (hold_in before position) within (record { kept = λ hold ne e. e; no_more = λ hold ne e. e }))
