-- Moves by numbers, and edges by tables.
use Rattle.std.proofs.Common.{◌≡◌, ℕ, suc, ◌+◌, ◌≤◌, Bool, true, false, cond, ◌||◌, ◌&&◌, ◌==◌, nat_lt, List, [], ◌∷◌, length, Some, refl, sym, ap, ap₂, ◌∙◌, arith}
use Rattle.std.proofs.lemmas.Bool.{and_parts, cond_both, eqb-true}
use Rattle.pl_pmac.specs.declared.pmac.Pmac.{Pmac}
use Rattle.pl_wiring.specs.Plan.{Plan}
use Rattle.pl_journal.specs.declared.entry.Entry.{Entry}
use Rattle.pl_journal.specs.declared.entry.Entry.TheVariants.{Copied, Granted, Moved, Sent}
use Rattle.pl_journal.specs.Places.{are_alike, is_of_edge, same_pod_and_position}
use Rattle.pl_journal.specs.Flights.{before_copy, has_moved_since}
use Rattle.pl_journal.specs.Lossy.{RunTo}
use Rattle.pl_past.specs.Moves.{edge_of, is_none_or, is_none_or_alike, moved_at, address_of_edge, sent_at}
use Rattle.pl_past.proofs.LiveLinks.{less, not_less}

sent_within : (past : List Entry) (id : ℕ) → sent_at past id ≤ length past
sent_within [] id = omega arith
sent_within (Sent g h f ∷ past) id =
    let before = sent_within past id in
    cond_both (g == id) (length past + 1) (sent_at past id) (λ n. n ≤ suc (length past)) (λ h. omega arith) (λ h. omega arith)
sent_within (Copied g c ∷ past) id = let before = sent_within past (before_copy g c id) in omega arith
sent_within (entry ∷ past) id = let before = sent_within past id in omega arith

moved_within : (past : List Entry) (host : ℕ) → moved_at past host ≤ length past
moved_within [] host = omega arith
moved_within (Moved h e p ∷ past) host =
    let before = moved_within past host in
    cond_both (h.0 == host) (length past + 1) (moved_at past host) (λ n. n ≤ suc (length past)) (λ h. omega arith) (λ h. omega arith)
moved_within (entry ∷ past) host = let before = moved_within past host in omega arith

pub moved_by_numbers : (past : List Entry) (id host : ℕ) → has_moved_since past id host ≡ nat_lt (sent_at past id) (moved_at past host)
moved_by_numbers [] id host = refl
moved_by_numbers (Sent g h f ∷ past) id host =
    let before = moved_within past host in
    sent (g == id) (has_moved_since past id host) (length past + 1) (sent_at past id) (moved_at past host) (not_less (length past + 1) (moved_at past host) (omega arith))
    (moved_by_numbers past id host)
  where
    sent : (t b : Bool) (n s m : ℕ) → nat_lt n m ≡ false → b ≡ nat_lt s m → cond t false b ≡ nat_lt (cond t n s) m
    sent true b n s m late before = sym late
    sent false b n s m late before = before
moved_by_numbers (Moved h e p ∷ past) id host =
    let before = sent_within past id in
    moved (h.0 == host) (has_moved_since past id host) (length past + 1) (sent_at past id) (moved_at past host) (less (sent_at past id) (length past + 1) (omega arith))
    (moved_by_numbers past id host)
  where
    moved : (t b : Bool) (n s m : ℕ) → nat_lt s n ≡ true → b ≡ nat_lt s m → (t || b) ≡ nat_lt s (cond t n m)
    moved true b n s m late before = sym late
    moved false b n s m late before = before
moved_by_numbers (Copied g c ∷ past) id host = moved_by_numbers past (before_copy g c id) host
moved_by_numbers (entry ∷ past) id host = moved_by_numbers past id host

-- pod and position are all that counts of an address
alike_of : (past : List Entry) (x y : Pmac) (edge : ℕ) → x.pod ≡ y.pod → x.position ≡ y.position → is_of_edge past x edge ≡ is_of_edge past y edge
alike_of [] x y edge pod position = refl
alike_of (Granted z h e p ∷ past) x y edge pod position =
    ap₂ (λ t b. are_alike t (e.0 == edge) && b) (ap₂ (λ a b. (a == z.pod) && (b == z.position)) pod position) (alike_of past x y edge pod position)
alike_of (entry ∷ past) x y edge pod position = alike_of past x y edge pod position

pub edge_by_tables : (plan : Plan) (past : List Entry) (x : Pmac) (edge : ℕ) → RunTo plan past →
    is_of_edge past x edge ≡ (is_none_or (edge_of past x) edge && is_none_or_alike (address_of_edge past edge) x)
edge_by_tables plan [] x edge run = refl
edge_by_tables plan (Granted y h e p ∷ past) x edge run =
    by (same_pod_and_position x y) (e.0 == edge) refl refl (edge_by_tables plan past x edge run.0)
  where
    by : (t u : Bool) → same_pod_and_position x y ≡ t → (e.0 == edge) ≡ u →
        is_of_edge past x edge ≡ (is_none_or (edge_of past x) edge && is_none_or_alike (address_of_edge past edge) x) →
        (are_alike (same_pod_and_position x y) (e.0 == edge) && is_of_edge past x edge)
        ≡ (is_none_or (cond (same_pod_and_position x y) (Some e.0) (edge_of past x)) edge && is_none_or_alike (cond (e.0 == edge) (Some y) (address_of_edge past edge)) x)
    by true true alike same before =
        let parts = and_parts (x.pod == y.pod) (x.position == y.position) alike in
        let there : is_of_edge past x edge ≡ true =
        alike_of past x y edge (eqb-true x.pod y.pod parts.0) (eqb-true x.position y.position parts.1)
        ∙ ap (is_of_edge past y) (sym (eqb-true e.0 edge same)) ∙ run.1.edge in
        rw alike (rw same (there ∙ sym alike))
    by true false alike other before = rw alike (rw other refl)
    by false true unlike same before = rw unlike (rw same (sym (none_of (is_none_or (edge_of past x) edge) (same_pod_and_position x y) unlike)))
      where
        none_of : (a b : Bool) → b ≡ false → (a && b) ≡ false
        none_of true b is = is
        none_of false b is = refl
    by false false unlike other before = rw unlike (rw other before)
edge_by_tables plan (entry ∷ past) x edge run = edge_by_tables plan past x edge run.0
