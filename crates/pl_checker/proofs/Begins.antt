-- A frame begins: when it may, and what is kept then.
use Rattle.std.proofs.Common.{◌≡◌, ◌≢◌, ◌↔◌, ℕ, ◌+◌, ◌-◌, ◌==◌, Bool, true, false, List, [], ◌∷◌, ◌++◌, length, Some, None, refl, sym, ap, subst, ◌∙◌, arith}
use Rattle.std.specs.Prelude.{IsTrue}
use Rattle.std.proofs.lemmas.Bool.{both_ways, eq-eqb, eqb-true, false≢true, ne_eqb}
use Rattle.pl_wiring.specs.declared.label.SwitchNo.{SwitchNo}
use Rattle.pl_wiring.specs.declared.host.HostNo.{HostNo}
use Rattle.pl_wiring.specs.Plan.{Plan}
use Rattle.pl_journal.specs.declared.entry.Entry.{Entry}
use Rattle.pl_journal.specs.declared.entry.Entry.TheVariants.{Copied, Made, Sent}
use Rattle.pl_journal.specs.Causes.{goes_to_group}
use Rattle.pl_journal.specs.Flights.{begun, is_flying}
use Rattle.pl_journal.specs.Lossy.{RunTo}
use Rattle.pl_past.specs.Kept.{first_kept, kept}
use Rattle.pl_past.proofs.Exports.{when_it_is_copied, when_it_is_made, when_it_is_sent}
use Rattle.pl_past_tables.specs.declared.row.Row.{Row}
use Rattle.pl_past_tables.specs.Frames.{IsRow, KeepsFrames}
use Rattle.pl_checker.specs.Past.{MayFollow}
use Rattle.pl_past_tables.proofs.Exports.{one_more_row}

pub zero_is_not_next : (n m : ℕ) → n ≡ 0 → IsTrue false ↔ (n ≡ m + 1)
zero_is_not_next n m is = (λ t. absurd (false≢true t), λ e. absurd (omega arith))

pub next_number : (n m count : ℕ) → n ≢ 0 → count ≡ m → IsTrue (n - 1 == count) ↔ (n ≡ m + 1)
next_number n m count some is =
    (λ t. let e = eqb-true (n - 1) count t in omega arith, λ e. eq-eqb (n - 1) count (omega arith))

pub none_copied : (plan : Plan) (past : List Entry) (id new : ℕ) → is_flying past id ≡ false → IsTrue false ↔ MayFollow plan past (Copied id new)
none_copied plan past id new none = (λ t. absurd (false≢true t), λ f. absurd (both_ways (is_flying past id) none f.0.0))

pub one_not_copied : (plan : Plan) (past : List Entry) (id new : ℕ) → goes_to_group past id ≡ false → IsTrue false ↔ MayFollow plan past (Copied id new)
one_not_copied plan past id new alone = (λ t. absurd (false≢true t), λ f. absurd (both_ways (goes_to_group past id) alone f.0.1))

pub group_copied : (plan : Plan) (past : List Entry) (id new : ℕ) (b : Bool) → is_flying past id ≡ true → goes_to_group past id ≡ true →
    IsTrue b ↔ (new ≡ begun past + 1) → IsTrue b ↔ MayFollow plan past (Copied id new)
group_copied plan past id new b flies group next = (λ t. ((flies, group, next.0 t), tt), λ f. next.1 f.0.2)

others_are : (id other : ℕ) → other ≢ id → (id == other) ≡ false
others_are id other apart = ne_eqb id other (λ e. apart (sym e))

pub sent_frames : (plan : Plan) (text : List ℕ) (past : List Entry) (rows : List Row) (id n : ℕ) (host : HostNo) (frame : List ℕ) (row : Row) →
    RunTo plan past →
    KeepsFrames plan text past rows → id ≡ begun past + 1 → n ≡ length past + 1 → IsRow text row (first_kept id (Some host.0) frame n) →
    KeepsFrames plan text (Sent id host frame ∷ past) (rows ++ row ∷ [])
sent_frames plan text past rows id n host frame row run keeps next at is =
    one_more_row plan text past (Sent id host frame) rows id row keeps refl next
    (subst (IsRow text row) (ap (first_kept id (Some host.0) frame) at ∙ sym (when_it_is_sent plan past id host frame run next)) is) (others_are id)

pub made_frames : (plan : Plan) (text : List ℕ) (past : List Entry) (rows : List Row) (id : ℕ) (s : SwitchNo) (frame : List ℕ) (row : Row) → RunTo plan past →
    KeepsFrames plan text past rows → id ≡ begun past + 1 → IsRow text row (first_kept id None frame 0) →
    KeepsFrames plan text (Made id s frame ∷ past) (rows ++ row ∷ [])
made_frames plan text past rows id s frame row run keeps next is =
    one_more_row plan text past (Made id s frame) rows id row keeps refl next (subst (IsRow text row) (sym (when_it_is_made plan past id s frame run next)) is)
    (others_are id)

pub copied_frames : (plan : Plan) (text : List ℕ) (past : List Entry) (rows : List Row) (id new : ℕ) (row : Row) → RunTo plan past →
    KeepsFrames plan text past rows → is_flying past id ≡ true → new ≡ begun past + 1 → IsRow text row (kept plan past id) →
    KeepsFrames plan text (Copied id new ∷ past) (rows ++ row ∷ [])
copied_frames plan text past rows id new row run keeps flies next is =
    one_more_row plan text past (Copied id new) rows new row keeps refl next
    (subst (IsRow text row) (sym (when_it_is_copied plan past id new run flies next)) is) (others_are new)

pub and_nothing : (b : Bool) (P : Type 0) → IsTrue b ↔ P → IsTrue b ↔ (P × Unit {0})
and_nothing b P is = (λ t. (is.0 t, tt), λ p. is.1 p.0)

-- of which host or switch and bytes a frame is makes no difference to whether it may begin
pub by_sent : (plan : Plan) (past : List Entry) (entry : Entry) (follows : Bool) (id : ℕ) (h : HostNo) (f : List ℕ) → entry ≡ Sent id h f →
    ((h : HostNo) (f : List ℕ) → IsTrue follows ↔ MayFollow plan past (Sent id h f)) → IsTrue follows ↔ MayFollow plan past entry
by_sent plan past entry follows id h f is by = subst (λ (e : Entry). IsTrue follows ↔ MayFollow plan past e) (sym is) (by h f)

pub by_made : (plan : Plan) (past : List Entry) (entry : Entry) (follows : Bool) (id : ℕ) (s : SwitchNo) (f : List ℕ) → entry ≡ Made id s f →
    ((s : SwitchNo) (f : List ℕ) → IsTrue follows ↔ MayFollow plan past (Made id s f)) → IsTrue follows ↔ MayFollow plan past entry
by_made plan past entry follows id s f is by = subst (λ (e : Entry). IsTrue follows ↔ MayFollow plan past e) (sym is) (by s f)
