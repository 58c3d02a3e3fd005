-- What an aggregation switch holds after it heard an edge switch.
use Rattle.std.proofs.Common.{◌≡◌, ℕ, zero, suc, ◌+◌, ◌<◌, ◌==◌, ◌&&◌, not, nat_lt, Bool, true, false, true≢false, if◌then◌else◌, cond, List, [], ◌∷◌, length, get_or, set, Option, Some, None, refl, sym, ◌∙◌, ap, subst, arith, inl, inr, ◌⊎◌, get_or-set_same, get_or-set_other, eqb-true, eq-eqb}
use Rattle.std.proofs.lemmas.Bool.{and_right, cases_eq, cases_lt, cond_both}
use Rattle.std.proofs.lemmas.List.{set_past}
use Rattle.pl_frame.specs.declared.address.SwitchId.{SwitchId}
use Rattle.pl_layouts.specs.declared.control.Proposal.{Proposal as Proposed}
use Rattle.pl_layouts.specs.declared.control.Vote.{Vote as Answer}
use Rattle.pl_node.specs.declared.switch_records.Hold.{Hold}
use Rattle.pl_node.specs.SwitchFacts.{hold_at}
use Rattle.pl_node.specs.SwitchViews.{SwitchView}
use Rattle.pl_switch_rule.specs.Positions.{frees_others, freed_but, half, holds_for, is_free_for, is_held_for, kept_or_new, marked_for, marks, notes_position, vote_on}
use Rattle.pl_switch_rule.proofs.Exports.{length_freed}
use Rattle.pl_law_votes.specs.Pairs.{Voter}
use Rattle.pl_law_votes.proofs.PairMoves.{IsKept, IsKeptAt, IsKeptHold, IsMarked}

-- One position after the other.

freed_at : (position : ℕ) (edge : SwitchId) (n : ℕ) (holds : List (Option Hold)) (q : ℕ) →
    get_or (freed_but position edge n holds) q None
    ≡ cond (is_held_for edge (get_or holds q None) && not (n + q == position)) None (get_or holds q None)
freed_at position edge n [] q = refl
freed_at position edge n (hold ∷ holds) zero =
    let same : n ≡ n + 0 = omega arith in
    ap (λ x. cond (is_held_for edge hold && not (x == position)) None hold) same
freed_at position edge n (hold ∷ holds) (suc q) =
    let same : n + 1 + q ≡ n + suc q = omega arith in
    freed_at position edge (n + 1) holds q
    ∙ ap (λ x. cond (is_held_for edge (get_or holds q None) && not (x == position)) None (get_or holds q None)) same

pub freed_is : (v : SwitchView) (edge : SwitchId) (position q : ℕ) →
    hold_at (frees_others v edge position) q ≡ cond (is_held_for edge (hold_at v q) && not (q == position)) None (hold_at v q)
freed_is v edge position q =
    let same : 0 + q ≡ q = omega arith in
    freed_at position edge 0 v.holds q
    ∙ ap (λ x. cond (is_held_for edge (hold_at v q) && not (x == position)) None (hold_at v q)) same

-- a relation of what is held before and after, where one position is written
written : (R : ℕ → Option Hold → Option Hold → Type 0) (holds : List (Option Hold)) (p : ℕ) (x : Option Hold) →
    ((q : ℕ) → R q (get_or holds q None) (get_or holds q None)) → R p (get_or holds p None) x →
    (q : ℕ) → R q (get_or holds q None) (get_or (set holds p x) q None)
written R holds p x same here q = elim (cases_eq q p) [
  | inr other ↦ subst (R q (get_or holds q None)) (sym (get_or-set_other holds p q x None other)) (same q)
  | inl is ↦ elim (cases_lt p (length holds)) [
    | inl within ↦
        subst (λ i. R i (get_or holds i None) (get_or (set holds p x) i None)) (sym is)
        (subst (R p (get_or holds p None)) (sym (get_or-set_same holds p x None within)) here)
    | inr past ↦ subst (λ l. R q (get_or holds q None) (get_or l q None)) (sym (set_past holds p x past)) (same q)
  ]
]

-- what holds of each hold, where one position is written
pub held_after : (P : Hold → Type 0) (v : SwitchView) (p : ℕ) (x : Option Hold) → ((q : ℕ) (hold : Hold) → hold_at v q ≡ Some hold → P hold) →
    ((hold : Hold) → x ≡ Some hold → P hold) → (q : ℕ) (hold : Hold) → hold_at (record v { holds = set v.holds p x }) q ≡ Some hold → P hold
held_after P v p x old here q = written (λ i before after. (hold : Hold) → after ≡ Some hold → P hold) v.holds p x (λ i. old i) here q

-- Another edge switch is heard.

pub kept_self : (id : SwitchId) (h : Option Hold) → IsKeptHold id h h
kept_self id h = record { stays = λ is. is; marks = λ is. is }

pub kept_then : (id : SwitchId) (a b c : ℕ → Option Hold) → IsKept id a b → IsKept id b c → IsKept id a c
kept_then id a b c first second q =
    record { stays = λ is. (second q).stays ((first q).stays is); marks = λ is. (first q).marks ((second q).marks is) }

-- what is held for another is not held for this one
held_for_other : (id : SwitchId) (hold : Hold) → (hold.edge.0 ≡ id.0 → ⊥) → is_held_for id (Some hold) ≡ true → ⊥
held_for_other id hold apart is = apart (eqb-true hold.edge.0 id.0 is)

marked_for_other : (id : SwitchId) (hold : Hold) → (hold.edge.0 ≡ id.0 → ⊥) → IsMarked id (Some hold) → ⊥
marked_for_other id hold apart m =
    let same : hold ≡ m.0 = cc m.1 in
    apart (ap (λ (h : Hold). h.edge.0) same ∙ m.2)

none_is_not_marked : (id : SwitchId) → IsMarked id None → ⊥
none_is_not_marked id m = let is = m.1 in absurd (cc is)

kept_freed_one : (id edge : SwitchId) → (edge.0 ≡ id.0 → ⊥) → (b : Bool) (h : Option Hold) → IsKeptHold id h (cond (is_held_for edge h && b) None h)
kept_freed_one id edge apart b None = kept_self id None
kept_freed_one id edge apart b (Some hold) = by (hold.edge.0 == edge.0) refl b
  where
    by : (t : Bool) → (hold.edge.0 == edge.0) ≡ t → (b : Bool) → IsKeptHold id (Some hold) (cond (t && b) None (Some hold))
    by false is b = kept_self id (Some hold)
    by true is false = kept_self id (Some hold)
    by true is true =
        let own = eqb-true hold.edge.0 edge.0 is in
        record { stays = λ held. absurd (held_for_other id hold (λ same. apart (sym own ∙ same)) held); marks = λ m. absurd (none_is_not_marked id m) }

kept_freed : (v : SwitchView) (id edge : SwitchId) (position : ℕ) → (edge.0 ≡ id.0 → ⊥) → IsKept id (hold_at v) (hold_at (frees_others v edge position))
kept_freed v id edge position apart q =
    subst (IsKeptHold id (hold_at v q)) (sym (freed_is v edge position q)) (kept_freed_one id edge apart (not (q == position)) (hold_at v q))

kept_new_one : (id edge : SwitchId) (fixed : Bool) → (edge.0 ≡ id.0 → ⊥) → IsKeptHold id None (Some (record { edge = edge; fixed = fixed }))
kept_new_one id edge fixed apart = record {
  stays = λ held. absurd (true≢false (sym held));
  marks = λ m. absurd (marked_for_other id (record { edge = edge; fixed = fixed }) apart m);
}

kept_kept_or_new : (id edge : SwitchId) → (edge.0 ≡ id.0 → ⊥) → (h : Option Hold) → IsKeptHold id h (kept_or_new edge h)
kept_kept_or_new id edge apart None = kept_new_one id edge false apart
kept_kept_or_new id edge apart (Some hold) = kept_self id (Some hold)

kept_marked_for : (id edge : SwitchId) → (edge.0 ≡ id.0 → ⊥) → (h : Option Hold) → IsKeptHold id h (marked_for edge h)
kept_marked_for id edge apart None = kept_new_one id edge true apart
kept_marked_for id edge apart (Some hold) = by (hold.edge.0 == edge.0) refl
  where
    by : (t : Bool) → (hold.edge.0 == edge.0) ≡ t → IsKeptHold id (Some hold) (cond t (Some (record { edge = edge; fixed = true })) (Some hold))
    by false is = kept_self id (Some hold)
    by true is =
        let own = eqb-true hold.edge.0 edge.0 is in
        record {
          stays = λ held. absurd (held_for_other id hold (λ same. apart (sym own ∙ same)) held);
          marks = λ m. absurd (marked_for_other id (record { edge = edge; fixed = true }) apart m);
        }

kept_holds_for : (v : SwitchView) (id edge : SwitchId) (p : ℕ) → (edge.0 ≡ id.0 → ⊥) → IsKept id (hold_at v) (hold_at (holds_for v edge p))
kept_holds_for v id edge p apart =
    written (λ q. IsKeptHold id) v.holds p (kept_or_new edge (hold_at v p)) (λ q. kept_self id (hold_at v q)) (kept_kept_or_new id edge apart (hold_at v p))

kept_marks : (v : SwitchView) (id edge : SwitchId) (p : ℕ) → (edge.0 ≡ id.0 → ⊥) → IsKept id (hold_at v) (hold_at (marks v edge p))
kept_marks v id edge p apart =
    written (λ q. IsKeptHold id) v.holds p (marked_for edge (hold_at v p)) (λ q. kept_self id (hold_at v q)) (kept_marked_for id edge apart (hold_at v p))

-- the holds after a proposal for a position
abbrev pub after_proposal : SwitchView → SwitchId → ℕ → SwitchView
after_proposal v edge p =
    if◌then◌else◌ {A = SwitchView} (is_free_for edge (hold_at (frees_others v edge p) p)) (holds_for (frees_others v edge p) edge p) (frees_others v edge p)

pub another_proposes : (v : SwitchView) (id edge : SwitchId) (p : ℕ) → (edge.0 ≡ id.0 → ⊥) → IsKept id (hold_at v) (hold_at (after_proposal v edge p))
another_proposes v id edge p apart =
    let w = frees_others v edge p in
    cond_both (is_free_for edge (hold_at w p)) (holds_for w edge p) w (λ (u : SwitchView). IsKept id (hold_at v) (hold_at u))
    (λ h. kept_then id (hold_at v) (hold_at w) (hold_at (holds_for w edge p)) (kept_freed v id edge p apart) (kept_holds_for w id edge p apart))
    (λ h. kept_freed v id edge p apart)

pub another_tells : (v : SwitchView) (id edge : SwitchId) (position : Option ℕ) → (edge.0 ≡ id.0 → ⊥) →
    IsKept id (hold_at v) (hold_at (notes_position v edge position))
another_tells v id edge None apart = λ q. kept_self id (hold_at v q)
another_tells v id edge (Some p) apart =
    let w = frees_others v edge p in
    cond_both (nat_lt p (half v.k)) (marks w edge p) v (λ (u : SwitchView). IsKept id (hold_at v) (hold_at u))
    (λ h. kept_then id (hold_at v) (hold_at w) (hold_at (marks w edge p)) (kept_freed v id edge p apart) (kept_marks w id edge p apart))
    (λ h q. kept_self id (hold_at v q))

-- The edge switch itself is heard.

pub kept_at_self : (e : Voter) (p : ℕ) (a : ℕ → Option Hold) → IsKeptAt e p a a
kept_at_self e p a = record { stays = λ is. is; marks = λ q m. inl m }

kept_at_then : (e : Voter) (p : ℕ) (a b c : ℕ → Option Hold) → IsKeptAt e p a b → IsKeptAt e p b c → IsKeptAt e p a c
kept_at_then e p a b c first second = record { stays = λ is. second.stays (first.stays is); marks = λ q m. either q (second.marks q m) }
  where
    either : (q : ℕ) → IsMarked e.id (b q) ⊎ (e.position ≡ Some q) → IsMarked e.id (a q) ⊎ (e.position ≡ Some q)
    either q (inl m) = first.marks q m
    either q (inr is) = inr is

own_freed : (e : Voter) (v : SwitchView) (edge : SwitchId) (p : ℕ) → IsKeptAt e p (hold_at v) (hold_at (frees_others v edge p))
own_freed e v edge p = record {
  stays = λ held.
      let same : (p == p) ≡ true = eq-eqb p p refl in
      let gone : (is_held_for edge (hold_at v p) && not (p == p)) ≡ false = and_right (is_held_for edge (hold_at v p)) (not (p == p)) (ap not same) in
      subst (λ h. is_held_for e.id h ≡ true) (sym (freed_is v edge p p ∙ ap (λ b. cond b None (hold_at v p)) gone)) held;
  marks = λ q m. inl (either (is_held_for edge (hold_at v q) && not (q == p)) (hold_at v q) (subst (IsMarked e.id) (freed_is v edge p q) m));
}
  where
    either : (b : Bool) (h : Option Hold) → IsMarked e.id (cond b None h) → IsMarked e.id h
    either true h m = absurd (none_is_not_marked e.id m)
    either false h m = m

-- a position is written: what was held for the edge switch there stays, and a mark there was one, or the position is fixed
own_written : (e : Voter) (v : SwitchView) (p : ℕ) (x : Option Hold) → (is_held_for e.id (hold_at v p) ≡ true → is_held_for e.id x ≡ true) →
    (IsMarked e.id x → IsMarked e.id (hold_at v p) ⊎ (e.position ≡ Some p)) → IsKeptAt e p (hold_at v) (hold_at (record v { holds = set v.holds p x }))
own_written e v p x stays marks = record {
  stays = written (λ q old new. q ≡ p → is_held_for e.id old ≡ true → is_held_for e.id new ≡ true) v.holds p x (λ q is held. held) (λ is. stays) p refl;
  marks = written (λ q old new. IsMarked e.id new → IsMarked e.id old ⊎ (e.position ≡ Some q)) v.holds p x (λ q m. inl m) marks;
}

own_kept_or_new : (e : Voter) (p : ℕ) (edge : SwitchId) (h : Option Hold) →
    (is_held_for e.id h ≡ true → is_held_for e.id (kept_or_new edge h) ≡ true) × (IsMarked e.id (kept_or_new edge h) → IsMarked e.id h ⊎ (e.position ≡ Some p))
own_kept_or_new e p edge None = (λ is. absurd (true≢false (sym is)), λ m. absurd (unmarked m))
  where
    unmarked : IsMarked e.id (Some (record { edge = edge; fixed = false })) → ⊥
    unmarked m =
        let same : record { edge = edge; fixed = false } ≡ m.0 = cc m.1 in
        true≢false (sym m.3 ∙ sym (ap (λ (h : Hold). h.fixed) same))
own_kept_or_new e p edge (Some hold) = (λ is. is, λ m. inl m)

own_marked_for : (e : Voter) (p : ℕ) (edge : SwitchId) (h : Option Hold) → edge.0 ≡ e.id.0 → e.position ≡ Some p →
    (is_held_for e.id h ≡ true → is_held_for e.id (marked_for edge h) ≡ true) × (IsMarked e.id (marked_for edge h) → IsMarked e.id h ⊎ (e.position ≡ Some p))
own_marked_for e p edge None own fixed = (λ is. absurd (true≢false (sym is)), λ m. inr fixed)
own_marked_for e p edge (Some hold) own fixed = (by (hold.edge.0 == edge.0), λ m. inr fixed)
  where
    by : (t : Bool) → is_held_for e.id (Some hold) ≡ true → is_held_for e.id (cond t (Some (record { edge = edge; fixed = true })) (Some hold)) ≡ true
    by true held = eq-eqb edge.0 e.id.0 own
    by false held = held

pub own_proposes : (e : Voter) (v : SwitchView) (edge : SwitchId) (p : ℕ) → IsKeptAt e p (hold_at v) (hold_at (after_proposal v edge p))
own_proposes e v edge p =
    let w = frees_others v edge p in
    let freed = own_freed e v edge p in
    let kept = own_kept_or_new e p edge (hold_at w p) in
    cond_both (is_free_for edge (hold_at w p)) (holds_for w edge p) w (λ (u : SwitchView). IsKeptAt e p (hold_at v) (hold_at u))
    (λ h. kept_at_then e p (hold_at v) (hold_at w) (hold_at (holds_for w edge p)) freed (own_written e w p (kept_or_new edge (hold_at w p)) kept.0 kept.1))
    (λ h. freed)

pub own_tells : (e : Voter) (v : SwitchView) (edge : SwitchId) (p : ℕ) → edge.0 ≡ e.id.0 → e.position ≡ Some p →
    IsKeptAt e p (hold_at v) (hold_at (notes_position v edge (Some p)))
own_tells e v edge p own fixed =
    let w = frees_others v edge p in
    let marked = own_marked_for e p edge (hold_at w p) own fixed in
    cond_both (nat_lt p (half v.k)) (marks w edge p) v (λ (u : SwitchView). IsKeptAt e p (hold_at v) (hold_at u))
    (λ h. kept_at_then e p (hold_at v) (hold_at w) (hold_at (marks w edge p)) (own_freed e v edge p)
    (own_written e w p (marked_for edge (hold_at w p)) marked.0 marked.1))
    (λ h. kept_at_self e p (hold_at v))

-- a grant says that the position is held by then
pub grant_holds : (v : SwitchView) (edge : SwitchId) (p : Proposed) → p.position < length v.holds →
    (vote_on edge p (hold_at (frees_others v edge p.position) p.position)).granted ≡ true →
    is_held_for edge (hold_at (after_proposal v edge p.position) p.position) ≡ true
grant_holds v edge p within = by (hold_at w p.position) refl
  where
    w : SwitchView
    w = frees_others v edge p.position

    inside : p.position < length (freed_but p.position edge 0 v.holds)
    inside = let same = length_freed p.position edge 0 v.holds in omega (arith, same, within)

    new : (h : Option Hold) → hold_at (frees_others v edge p.position) p.position ≡ h → is_held_for edge (kept_or_new edge h) ≡ true →
        is_held_for edge (hold_at (holds_for (frees_others v edge p.position) edge p.position) p.position) ≡ true
    new h is held =
        subst (λ x. is_held_for edge x ≡ true)
        (sym (get_or-set_same (freed_but p.position edge 0 v.holds) p.position (kept_or_new edge (hold_at (frees_others v edge p.position) p.position)) None inside))
        (subst (λ x. is_held_for edge (kept_or_new edge x) ≡ true) (sym is) held)

    by : (h : Option Hold) → hold_at (frees_others v edge p.position) p.position ≡ h → (vote_on edge p h).granted ≡ true →
        is_held_for edge (hold_at (if◌then◌else◌ {A = SwitchView} (is_free_for edge h) (holds_for (frees_others v edge p.position) edge p.position) (frees_others v edge p.position)) p.position) ≡ true
    by None is granted = new None is (eq-eqb edge.0 edge.0 refl)
    by (Some hold) is granted = held (hold.edge.0 == edge.0) refl granted
      where
        held : (t : Bool) → (hold.edge.0 == edge.0) ≡ t →
            (if◌then◌else◌ {A = Answer} t (record { attempt = p.attempt; position = p.position; granted = true; holder = None; fixed = false })
            (record { attempt = p.attempt; position = p.position; granted = false; holder = Some hold.edge; fixed = hold.fixed })).granted ≡ true →
            is_held_for edge (hold_at (if◌then◌else◌ {A = SwitchView} t (holds_for (frees_others v edge p.position) edge p.position) (frees_others v edge p.position)) p.position) ≡ true
        held true same granted = new (Some hold) is same
        held false same granted = absurd (true≢false (sym granted))
