-- Whom a frame is for: it stays so while the frame waits.
use Rattle.std.proofs.Common.{◌≡◌, ℕ, ◌==◌, ◌||◌, if◌then◌else◌, Bool, true, false, List, [], ◌∷◌, ◌++◌, Some, None, sym, ap, ◌∙◌, inl, inr}
use Rattle.std.proofs.lemmas.Bool.{cases_Bool, cond-false, cond-true, eq-eqb, eqb-true, or_parts, or_right}
use Rattle.std.proofs.lemmas.Option.{none-some}
use Rattle.pl_pmac.specs.Pmac.{pmac_number}
use Rattle.pl_wiring.specs.Plan.{Plan}
use Rattle.pl_journal.specs.declared.entry.Entry.{Entry}
use Rattle.pl_journal.specs.declared.entry.Entry.TheVariants.{Copied, Crossed, Granted}
use Rattle.pl_journal.specs.Places.{holder, is_live, live_holder}
use Rattle.pl_journal.specs.Flights.{begun_by, has_just_crossed, held_at_crossing, is_begun, is_crossed, is_frame}
use Rattle.pl_journal.specs.Lossy.{RunTo}
use Rattle.pl_journal.proofs.Addresses.{granted_apart}
use Rattle.pl_journal.proofs.Numbered.{apart, next_is_new}

begun_still : (newer past : List Entry) (id : ℕ) → is_begun past id ≡ true → is_begun (newer ++ past) id ≡ true
begun_still [] past id is = is
begun_still (entry ∷ newer) past id is = or_right (is_frame (begun_by entry) id) (is_begun (newer ++ past) id) (begun_still newer past id is)

-- a live address has its holder
pub live_one : (past : List Entry) (x host : ℕ) → live_holder past x ≡ Some host → is_live past x ≡ true
live_one past x host held = elim (cases_Bool (is_live past x)) [
  | inl live ↦ live
  | inr not_live ↦ absurd (none-some host (sym (cond-false (is_live past x) (holder past x) None not_live) ∙ held))
]

-- where the newest entry is the crossing, the address was live just before it
pub just_held : (past : List Entry) (id x host : ℕ) → has_just_crossed past id ≡ true → held_at_crossing past id x ≡ Some host → live_holder past x ≡ Some host
just_held [] id x host just held = absurd (cc)
just_held (Crossed g s ∷ past) id x host just held = sym (cond-true (g == id) (live_holder past x) (held_at_crossing past id x) just) ∙ held
just_held (entry ∷ past) id x host just held = absurd (cc)

-- Whatever follows in a run but another crossing of the frame, the host that held an address when the frame crossed its last switch is the
-- same: so it is while the address is freed, and while it is granted again.
pub held_stays : (plan : Plan) (newer past : List Entry) (id x host : ℕ) → RunTo plan (newer ++ past) → is_begun past id ≡ true → is_crossed newer id ≡ false →
    held_at_crossing past id x ≡ Some host → held_at_crossing (newer ++ past) id x ≡ Some host
held_stays plan [] past id x host run begun waits held = held
held_stays plan (Crossed g s ∷ newer) past id x host run begun waits held =
    let parts = or_parts (g == id) (is_crossed newer id) waits in
    cond-false (g == id) (live_holder (newer ++ past) x) (held_at_crossing (newer ++ past) id x) parts.0
    ∙ held_stays plan newer past id x host run.0 begun parts.1 held
held_stays plan (Copied g c ∷ newer) past id x host run begun waits held =
    let all = newer ++ past in
    let new = next_is_new plan all c run.0 run.1.2 in
    let other = apart all id c (begun_still newer past id begun) new in
    let it = held_stays plan newer past id x host run.0 begun waits held in
    ap (λ n. held_at_crossing all n x) (cond-false (c == id) g id (turned id c other)) ∙ it
  where
    turned : (a b : ℕ) → (a == b) ≡ false → (b == a) ≡ false
    turned a b h = elim (cases_Bool (b == a)) [ inl same ↦ absurd (both a b h same) | inr it ↦ it ]
      where
        both : (a b : ℕ) → (a == b) ≡ false → (b == a) ≡ true → ⊥
        both a b h same = let e : b ≡ a = eqb-true b a same in let f : (a == b) ≡ true = eq-eqb a b (sym e) in absurd (cc)
held_stays plan (Granted y h e p ∷ newer) past id x host run begun waits held =
    let all = newer ++ past in
    let it = held_stays plan newer past id x host run.0 begun waits held in
    elim (cases_Bool (has_just_crossed all id)) [
      | inr not_just ↦ cond-false (has_just_crossed all id) (live_holder (Granted y h e p ∷ all) x) (held_at_crossing all id x) not_just ∙ it
      | inl just ↦
          let before = just_held all id x host just it in
          let live = live_one all x host before in
          let other = granted_apart all (pmac_number y) x run.1.fresh live in
          cond-true (has_just_crossed all id) (live_holder (Granted y h e p ∷ all) x) (held_at_crossing all id x) just
          ∙ still all (pmac_number y == x) h.0 x host other before
    ]
  where
    still : (past : List Entry) (b : Bool) (k x host : ℕ) → b ≡ false → live_holder past x ≡ Some host →
        (if (b || is_live past x) then (if b then Some k else holder past x) else None) ≡ Some host
    still past true k x host is held = absurd (cc)
    still past false k x host is held = held
held_stays plan (entry ∷ newer) past id x host run begun waits held = held_stays plan newer past id x host run.0 begun waits held
