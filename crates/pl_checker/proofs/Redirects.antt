-- A frame goes on to another address: when it may, and what is kept then.
use Rattle.std.proofs.Common.{◌≡◌, ◌≢◌, ◌↔◌, ℕ, ◌-◌, ◌≤◌, Bool, true, false, set, List, [], ◌∷◌, length, take, Option, Some, None, refl, sym, ap, ap₂, subst, ◌∙◌}
use Rattle.std.specs.Prelude.{IsTrue}
use Rattle.std.proofs.lemmas.Bool.{both_ways, false≢true, ne_eqb}
use Rattle.pl_pmac.specs.declared.pmac.Pmac.{Pmac}
use Rattle.pl_pmac.specs.Pmac.{pmac_number}
use Rattle.pl_wiring.specs.Plan.{Plan}
use Rattle.pl_journal.specs.declared.entry.Entry.{Entry}
use Rattle.pl_journal.specs.declared.entry.Entry.TheVariants.{Redirected}
use Rattle.pl_journal.specs.Places.{EdgePort, edge_port, holder, is_live, number}
use Rattle.pl_journal.specs.Flights.{address, is_flying, is_redirected, leg}
use Rattle.pl_journal.specs.Lossy.{IsNewer, is_turning}
use Rattle.pl_past.specs.Kept.{kept, redirecting}
use Rattle.pl_past.proofs.Exports.{when_it_is_redirected}
use Rattle.pl_past_tables.specs.declared.row.Row.{Row}
use Rattle.pl_past_tables.specs.Frames.{IsRow, KeepsFrames}
use Rattle.pl_past_tables.specs.Legs.{switches_of}
use Rattle.pl_checker.specs.Past.{MayFollow}
use Rattle.pl_past_tables.proofs.Exports.{one_row}

pub none_redirected : (plan : Plan) (past : List Entry) (id : ℕ) (old new : Pmac) → is_flying past id ≡ false →
    IsTrue false ↔ MayFollow plan past (Redirected id old new)
none_redirected plan past id old new none = (λ t. absurd (false≢true t), λ f. absurd (both_ways (is_flying past id) none f.0.0))

pub other_address : (plan : Plan) (text : List ℕ) (past : List Entry) (id from : ℕ) (old new : Pmac) (row : Row) → IsRow text row (kept plan past id) →
    from ≡ pmac_number old →
    row.address ≢ from → IsTrue false ↔ MayFollow plan past (Redirected id old new)
other_address plan text past id from old new row is number apart =
    (λ t. absurd (false≢true t), λ f. absurd (apart (is.address ∙ f.0.1.present ∙ sym number)))

-- two switches or more turn as one does
turns_by_five : (switches : List ℕ) (redirected : Bool) (there : Option EdgePort) →
    is_turning (take 5 switches) redirected there ≡ is_turning switches redirected there
turns_by_five [] redirected there = refl
turns_by_five (s ∷ switches) redirected None = refl
turns_by_five (s ∷ switches) redirected (Some there) = refl

pub turns_by_row : (plan : Plan) (text : List ℕ) (past : List Entry) (id from : ℕ) (old : Pmac) (row : Row) (there : Option EdgePort) →
    IsRow text row (kept plan past id) →
    from ≡ pmac_number old → there ≡ edge_port past from →
    is_turning (switches_of row.leg) row.redirected there ≡ is_turning (leg past id) (is_redirected past id) (edge_port past (pmac_number old))
turns_by_row plan text past id from old row there is number at =
    ap₂ (λ l r. is_turning l r there) is.leg is.redirected
    ∙ turns_by_five (leg past id) (is_redirected past id) there
    ∙ ap (is_turning (leg past id) (is_redirected past id)) (at ∙ ap (edge_port past) number)

pub does_not_turn : (plan : Plan) (past : List Entry) (id : ℕ) (old new : Pmac) →
    is_turning (leg past id) (is_redirected past id) (edge_port past (pmac_number old)) ≡ false → IsTrue false ↔ MayFollow plan past (Redirected id old new)
does_not_turn plan past id old new not_so = (
  λ t. absurd (false≢true t),
  λ f. absurd (both_ways (is_turning (leg past id) (is_redirected past id) (edge_port past (pmac_number old))) not_so f.0.1.turns),
)

pub old_is_gone : (plan : Plan) (past : List Entry) (id n : ℕ) (old new : Pmac) (live : Bool) → n ≡ pmac_number old → live ≡ is_live past n → live ≡ false →
    IsTrue false ↔ MayFollow plan past (Redirected id old new)
old_is_gone plan past id n old new live at is none = (λ t. absurd (false≢true t), λ f. absurd (both_ways live none (is ∙ ap (is_live past) at ∙ f.0.1.live.0)))

pub new_is_gone : (plan : Plan) (past : List Entry) (id n : ℕ) (old new : Pmac) (live : Bool) → n ≡ pmac_number new → live ≡ is_live past n → live ≡ false →
    IsTrue false ↔ MayFollow plan past (Redirected id old new)
new_is_gone plan past id n old new live at is none = (λ t. absurd (false≢true t), λ f. absurd (both_ways live none (is ∙ ap (is_live past) at ∙ f.0.1.live.1)))

pub goes_to_newer : (plan : Plan) (past : List Entry) (id from to : ℕ) (old new : Pmac) (b : Bool) → is_flying past id ≡ true → from ≡ pmac_number old →
    to ≡ pmac_number new →
    address past id ≡ pmac_number old → is_turning (leg past id) (is_redirected past id) (edge_port past (pmac_number old)) ≡ true →
    is_live past from ≡ true → is_live past to ≡ true → IsTrue b ↔ ((holder past to ≡ holder past from) × IsNewer (number past from) (number past to)) →
    IsTrue b ↔ MayFollow plan past (Redirected id old new)
goes_to_newer plan past id from to old new b flies at_old at_new present turns old_lives new_lives newer = (
  λ t. let both = newer.0 t in (
    (
      flies,
      record {
        present = present;
        live = (sym (ap (is_live past) at_old) ∙ old_lives, sym (ap (is_live past) at_new) ∙ new_lives);
        same_host = sym (ap (holder past) at_new) ∙ both.0 ∙ ap (holder past) at_old;
        newer = subst (λ m. IsNewer (number past m) (number past (pmac_number new))) at_old
            (subst (λ n. IsNewer (number past from) (number past n)) at_new both.1);
        turns = turns;
      },
    ),
    tt,
  ),
  λ f. newer.1 (
    ap (holder past) at_new ∙ f.0.1.same_host ∙ sym (ap (holder past) at_old),
    subst (λ m. IsNewer (number past m) (number past to)) (sym at_old)
        (subst (λ n. IsNewer (number past (pmac_number old)) (number past n)) (sym at_new) f.0.1.newer),
  ),
)

pub redirected_frames : (plan : Plan) (text : List ℕ) (past : List Entry) (rows : List Row) (id : ℕ) (old new : Pmac) (row : Row) →
    KeepsFrames plan text past rows →
    1 ≤ id → id ≤ length rows → IsRow text row (redirecting new (kept plan past id)) →
    KeepsFrames plan text (Redirected id old new ∷ past) (set rows (id - 1) row)
redirected_frames plan text past rows id old new row keeps least most is =
    one_row plan text past (Redirected id old new) rows id row keeps refl least most
    (subst (IsRow text row) (sym (when_it_is_redirected plan past id old new)) is)
    (λ other apart. ne_eqb id other (λ e. apart (sym e)))
