-- Addresses: their holders, their ports and their numbers.
use Rattle.std.proofs.Common.{◌≡◌, ◌≢◌, ℕ, max, ◌≤◌, Bool, true, false, cond, not, ◌||◌, ◌==◌, List, [], ◌∷◌, ◌++◌, Option, Some, None, is_some, IsSome, IsSomeAnd, refl, subst, sym, ap, ◌∙◌, inl, inr, arith}
use Rattle.std.proofs.lemmas.Bool.{and_from, and_parts, both_ways, cases_Bool, cond-false, cond-true, eq-eqb, eqb-true, ne_eqb, not_from_false, or_parts, or_right}
use Rattle.std.proofs.lemmas.Option.{none-some, same_Some}
use Rattle.pl_pmac.specs.declared.pmac.Pmac.{Pmac}
use Rattle.pl_pmac.specs.Pmac.{pmac_number}
use Rattle.pl_wiring.specs.declared.label.SwitchNo.{SwitchNo}
use Rattle.pl_wiring.specs.declared.host.HostNo.{HostNo}
use Rattle.pl_wiring.specs.Plan.{Plan}
use Rattle.pl_journal.specs.declared.entry.Entry.{Entry}
use Rattle.pl_journal.specs.declared.entry.Entry.TheVariants.{Freed, Granted, Registered}
use Rattle.pl_journal.specs.Places.{EdgePort, are_freed, at_port, highest, holder, is_live, number, edge_port}
use Rattle.pl_journal.specs.Lossy.{RunTo}

pub holder_of_granted : (past : List Entry) (x : Pmac) (host : HostNo) (edge : SwitchNo) (port : ℕ) →
    holder (Granted x host edge port ∷ past) (pmac_number x) ≡ Some host.0
holder_of_granted past x host edge port = let x' : ℕ = pmac_number x in rw (eq-eqb x' x' refl) refl

pub edge_port_of_granted : (past : List Entry) (x : Pmac) (host : HostNo) (edge : SwitchNo) (port : ℕ) →
    edge_port (Granted x host edge port ∷ past) (pmac_number x) ≡ Some (at_port edge.0 port)
edge_port_of_granted past x host edge port = let x' : ℕ = pmac_number x in rw (eq-eqb x' x' refl) refl

pub number_of_registered : (past : List Entry) (x : Pmac) (n : ℕ) → number (Registered x n ∷ past) (pmac_number x) ≡ Some n
number_of_registered past x n = let x' : ℕ = pmac_number x in rw (eq-eqb x' x' refl) refl

pub other_holder : (past : List Entry) (x : Pmac) (host : HostNo) (edge : SwitchNo) (port y : ℕ) → pmac_number x ≢ y →
    holder (Granted x host edge port ∷ past) y ≡ holder past y
other_holder past x host edge port y apart = cond-false (pmac_number x == y) (Some host.0) (holder past y) (ne_eqb (pmac_number x) y apart)

pub other_edge_port : (past : List Entry) (x : Pmac) (host : HostNo) (edge : SwitchNo) (port y : ℕ) → pmac_number x ≢ y →
    edge_port (Granted x host edge port ∷ past) y ≡ edge_port past y
other_edge_port past x host edge port y apart = cond-false (pmac_number x == y) (Some (at_port edge.0 port)) (edge_port past y) (ne_eqb (pmac_number x) y apart)

pub other_number : (past : List Entry) (x : Pmac) (n y : ℕ) → pmac_number x ≢ y → number (Registered x n ∷ past) y ≡ number past y
other_number past x n y apart = cond-false (pmac_number x == y) (Some n) (number past y) (ne_eqb (pmac_number x) y apart)

both_some : {A B : Type 0} (b : Bool) (x : A) (y : B) (o : Option A) (p : Option B) → is_some o ≡ is_some p → is_some (cond b (Some x) o) ≡ is_some (cond b (Some y) p)
both_some true x y o p same = refl
both_some false x y o p same = same

-- an address with a holder has a port, and one with a port has a holder
pub held_at_a_edge_port : (past : List Entry) (y : ℕ) → is_some (edge_port past y) ≡ is_some (holder past y)
held_at_a_edge_port [] y = refl
held_at_a_edge_port (Granted x host edge port ∷ past) y = both_some (pmac_number x == y) (at_port edge.0 port) host.0 (edge_port past y) (holder past y) (held_at_a_edge_port past y)
held_at_a_edge_port (entry ∷ past) y = held_at_a_edge_port past y

-- a live address is held
pub live_held : (past : List Entry) (x : ℕ) → is_live past x ≡ true → IsSome (holder past x)
live_held [] x live = absurd (cc)
live_held (Granted y h e p ∷ past) x live = elim (cases_Bool (pmac_number y == x)) [
  | inl same ↦ ap is_some (cond-true (pmac_number y == x) (Some h.0) (holder past x) same)
  | inr other ↦ ap is_some (cond-false (pmac_number y == x) (Some h.0) (holder past x) other)
      ∙ live_held past x (sym (ap (λ b. b || is_live past x) other) ∙ live)
]
live_held (Freed y ∷ past) x live = live_held past x (and_parts (not (pmac_number y == x)) (is_live past x) live).1
live_held (entry ∷ past) x live = live_held past x live

-- one without a holder is not live, and has no port
pub not_held_not_live : (past : List Entry) (x : ℕ) → holder past x ≡ None → is_live past x ≡ false
not_held_not_live past x none = elim (cases_Bool (is_live past x)) [
  | inl live ↦ absurd (both_ways (is_some (holder past x)) (ap is_some none) (live_held past x live))
  | inr other ↦ other
]

pub not_held_nowhere : (past : List Entry) (x : ℕ) (there : EdgePort) → holder past x ≡ None → edge_port past x ≢ Some there
not_held_nowhere past x there none is =
    both_ways (is_some (holder past x)) (ap is_some none) (sym (held_at_a_edge_port past x) ∙ ap is_some is)

-- an address that is not freed is live as long as it was
pub live_stays : (plan : Plan) (newer past : List Entry) (x : ℕ) → RunTo plan (newer ++ past) → are_freed newer x ≡ false → is_live past x ≡ true →
    is_live (newer ++ past) x ≡ true
live_stays plan [] past x run kept live = live
live_stays plan (Granted y h e p ∷ newer) past x run kept live = or_right (pmac_number y == x) (is_live (newer ++ past) x) (live_stays plan newer past x run.0 kept live)
live_stays plan (Freed y ∷ newer) past x run kept live =
    let parts = or_parts (pmac_number y == x) (are_freed newer x) kept in
    and_from (not (pmac_number y == x)) (is_live (newer ++ past) x) (not_from_false (pmac_number y == x) parts.0) (live_stays plan newer past x run.0 parts.1 live)
live_stays plan (entry ∷ newer) past x run kept live = live_stays plan newer past x run.0 kept live

-- an address that is granted was not live
pub granted_apart : (past : List Entry) (y x : ℕ) → is_live past y ≡ false → is_live past x ≡ true → (y == x) ≡ false
granted_apart past y x fresh live = elim (cases_Bool (y == x)) [
  | inl same ↦ let e : true ≡ false = sym live ∙ ap (is_live past) (sym (eqb-true y x same)) ∙ fresh in absurd (cc)
  | inr other ↦ other
]

pub holder_stays : (plan : Plan) (newer past : List Entry) (x : ℕ) → RunTo plan (newer ++ past) → are_freed newer x ≡ false → is_live past x ≡ true →
    holder (newer ++ past) x ≡ holder past x
holder_stays plan [] past x run kept live = refl
holder_stays plan (Granted y h e p ∷ newer) past x run kept live =
    let other = granted_apart (newer ++ past) (pmac_number y) x run.1.fresh (live_stays plan newer past x run.0 kept live) in
    cond-false (pmac_number y == x) (Some h.0) (holder (newer ++ past) x) other ∙ holder_stays plan newer past x run.0 kept live
holder_stays plan (Freed y ∷ newer) past x run kept live = holder_stays plan newer past x run.0 (or_parts (pmac_number y == x) (are_freed newer x) kept).1 live
holder_stays plan (entry ∷ newer) past x run kept live = holder_stays plan newer past x run.0 kept live

pub edge_port_stays : (plan : Plan) (newer past : List Entry) (x : ℕ) → RunTo plan (newer ++ past) → are_freed newer x ≡ false → is_live past x ≡ true →
    edge_port (newer ++ past) x ≡ edge_port past x
edge_port_stays plan [] past x run kept live = refl
edge_port_stays plan (Granted y h e p ∷ newer) past x run kept live =
    let other = granted_apart (newer ++ past) (pmac_number y) x run.1.fresh (live_stays plan newer past x run.0 kept live) in
    cond-false (pmac_number y == x) (Some (at_port e.0 p)) (edge_port (newer ++ past) x) other ∙ edge_port_stays plan newer past x run.0 kept live
edge_port_stays plan (Freed y ∷ newer) past x run kept live = edge_port_stays plan newer past x run.0 (or_parts (pmac_number y == x) (are_freed newer x) kept).1 live
edge_port_stays plan (entry ∷ newer) past x run kept live = edge_port_stays plan newer past x run.0 kept live

-- a number is not of an address that has just been granted
number_before : (past : List Entry) (y : Pmac) (h : HostNo) (e : SwitchNo) (p x n : ℕ) → number (Granted y h e p ∷ past) x ≡ Some n → number past x ≡ Some n
number_before past y h e p x n has = elim (cases_Bool (pmac_number y == x)) [
  | inl same ↦ absurd (none-some n (sym (cond-true (pmac_number y == x) None (number past x) same) ∙ has))
  | inr other ↦ sym (cond-false (pmac_number y == x) None (number past x) other) ∙ has
]

-- a registration raises the highest number
raised : (m n : ℕ) → (m ≤ max m n) × (n ≤ max m n)
raised m n = (omega arith, omega arith)

pub number_within : (plan : Plan) (past : List Entry) (x n : ℕ) → RunTo plan past → number past x ≡ Some n → (1 ≤ n) × (n ≤ highest past)
number_within plan [] x n run has = absurd (none-some n has)
number_within plan (Registered y m ∷ past) x n run has = elim (cases_Bool (pmac_number y == x)) [
  | inl same ↦
      let e : m ≡ n = same_Some m n (sym (cond-true (pmac_number y == x) (Some m) (number past x) same) ∙ has) in
      let above = run.1.1 in
      let most = (raised (highest past) m).1 in
      let within : n ≤ max (highest past) m = omega (arith, e, most) in
      (omega (arith, e, above), within)
  | inr other ↦
      let before = number_within plan past x n run.0 (sym (cond-false (pmac_number y == x) (Some m) (number past x) other) ∙ has) in
      let most = before.1 in
      let more = (raised (highest past) m).0 in
      let within : n ≤ max (highest past) m = omega (arith, most, more) in
      (before.0, within)
]
number_within plan (Granted y h e p ∷ past) x n run has = number_within plan past x n run.0 (number_before past y h e p x n has)
number_within plan (entry ∷ past) x n run has = number_within plan past x n run.0 has

-- a number is followed by larger ones alone
abbrev IsFrom : ℕ → Option ℕ → Type 0
IsFrom n o = IsSomeAnd o (λ m. n ≤ m)

pub number_rises : (plan : Plan) (newer past : List Entry) (x n : ℕ) → RunTo plan (newer ++ past) → are_freed newer x ≡ false → is_live past x ≡ true →
    number past x ≡ Some n → IsFrom n (number (newer ++ past) x)
number_rises plan [] past x n run kept live has = subst (IsFrom n) (sym has) (omega arith)
number_rises plan (Granted y h e p ∷ newer) past x n run kept live has =
    let other = granted_apart (newer ++ past) (pmac_number y) x run.1.fresh (live_stays plan newer past x run.0 kept live) in
    subst (IsFrom n) (sym (cond-false (pmac_number y == x) None (number (newer ++ past) x) other)) (number_rises plan newer past x n run.0 kept live has)
number_rises plan (Registered y m ∷ newer) past x n run kept live has =
    let before = number_rises plan newer past x n run.0 kept live has in
    elim (cases_Bool (pmac_number y == x)) [
      | inl same ↦
          subst (IsFrom n) (sym (cond-true (pmac_number y == x) (Some m) (number (newer ++ past) x) same)) (above (number (newer ++ past) x) refl before)
      | inr other ↦ subst (IsFrom n) (sym (cond-false (pmac_number y == x) (Some m) (number (newer ++ past) x) other)) before
    ]
  where
    above : (o : Option ℕ) → number (newer ++ past) x ≡ o → IsFrom n o → n ≤ m
    above None is before = absurd before
    above (Some k) is before =
        let most = (number_within plan (newer ++ past) x k run.0 is).1 in
        let larger = run.1.1 in
        omega (arith, before, most, larger)
number_rises plan (Freed y ∷ newer) past x n run kept live has =
    number_rises plan newer past x n run.0 (or_parts (pmac_number y == x) (are_freed newer x) kept).1 live has
number_rises plan (entry ∷ newer) past x n run kept live has = number_rises plan newer past x n run.0 kept live has

pub number_granted : (plan : Plan) (past : List Entry) (x n : ℕ) → RunTo plan past → number past x ≡ Some n → IsSome (holder past x)
number_granted plan [] x n run has = absurd (none-some n has)
number_granted plan (Registered y m ∷ past) x n run has = elim (cases_Bool (pmac_number y == x)) [
  | inl same ↦ ap (λ z. is_some (holder past z)) (sym (eqb-true (pmac_number y) x same)) ∙ live_held past (pmac_number y) run.1.0
  | inr other ↦ number_granted plan past x n run.0 (sym (cond-false (pmac_number y == x) (Some m) (number past x) other) ∙ has)
]
number_granted plan (Granted y h e p ∷ past) x n run has = still_some (pmac_number y == x) h.0 (holder past x) (number_granted plan past x n run.0 (number_before past y h e p x n has))
  where
    still_some : (b : Bool) (k : ℕ) (o : Option ℕ) → is_some o ≡ true → is_some (cond b (Some k) o) ≡ true
    still_some true k o some = refl
    still_some false k o some = some
number_granted plan (entry ∷ past) x n run has = number_granted plan past x n run.0 has

pub numbers_apart : (plan : Plan) (past : List Entry) (x y n : ℕ) → RunTo plan past → number past x ≡ Some n → number past y ≡ Some n → x ≡ y
numbers_apart plan [] x y n run has also_has = absurd (none-some n has)
numbers_apart plan (Registered z m ∷ past) x y n run has also_has = elim (cases_Bool (z' == x)) [
  | inl here ↦ elim (cases_Bool (z' == y)) [
    | inl there ↦ sym (eqb-true z' x here) ∙ eqb-true z' y there
    | inr older ↦ absurd (not_both y (newest x here has) (before y older also_has))
  ]
  | inr old ↦ elim (cases_Bool (z' == y)) [
    | inl there ↦ absurd (not_both x (newest y there also_has) (before x old has))
    | inr older ↦ numbers_apart plan past x y n run.0 (before x old has) (before y older also_has)
  ]
]
  where
    z' : ℕ
    z' = pmac_number z

    newest : (w : ℕ) → (pmac_number z == w) ≡ true → number (Registered z m ∷ past) w ≡ Some n → m ≡ n
    newest w same h = same_Some m n (sym (cond-true (pmac_number z == w) (Some m) (number past w) same) ∙ h)

    before : (w : ℕ) → (pmac_number z == w) ≡ false → number (Registered z m ∷ past) w ≡ Some n → number past w ≡ Some n
    before w other h = sym (cond-false (pmac_number z == w) (Some m) (number past w) other) ∙ h

    not_both : (w : ℕ) → m ≡ n → number past w ≡ Some n → ⊥
    not_both w same old = let within = (number_within plan past w n run.0 old).1 in let above = run.1.1 in omega (arith, same, within, above)
numbers_apart plan (Granted z h e p ∷ past) x y n run has also_has =
    numbers_apart plan past x y n run.0 (number_before past z h e p x n has) (number_before past z h e p y n also_has)
numbers_apart plan (entry ∷ past) x y n run has also_has = numbers_apart plan past x y n run.0 has also_has
