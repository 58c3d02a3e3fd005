-- A frame crosses a switch: when it may, and what is kept then.
use Rattle.std.proofs.Common.{◌≡◌, ◌↔◌, ℕ, ◌+◌, ◌-◌, ◌≤◌, ◌&&◌, Bool, true, false, set, List, [], ◌∷◌, length, take, Option, is_some, refl, sym, ap, ap₂, subst, ◌∙◌}
use Rattle.std.specs.Prelude.{IsTrue}
use Rattle.std.specs.Option.{option_and_then, option_map}
use Rattle.std.proofs.lemmas.Bool.{both_ways, false≢true, ne_eqb}
use Rattle.pl_frame.specs.Ethernet.{destination_of}
use Rattle.pl_layouts.specs.Memberships.{is_group}
use Rattle.pl_pmac.specs.declared.pmac.Pmac.{Pmac}
use Rattle.pl_wiring.specs.declared.label.SwitchNo.{SwitchNo}
use Rattle.pl_wiring.specs.Plan.{Plan}
use Rattle.pl_journal.specs.declared.entry.Entry.{Entry}
use Rattle.pl_journal.specs.declared.entry.Entry.TheVariants.{Crossed}
use Rattle.pl_journal.specs.Places.{EdgePort, edge_port_of}
use Rattle.pl_journal.specs.Flights.{address_at, first_of, if_of_switch, is_empty, is_flying, is_good_leg, leg, sender}
use Rattle.pl_journal.specs.Lossy.{goes_well}
use Rattle.pl_past.specs.Kept.{Kept, crossing, entrance, kept}
use Rattle.pl_past.specs.Links.{live_since}
use Rattle.pl_past.specs.Legs.{goes_well_by, leads}
use Rattle.pl_past.proofs.Exports.{goes_well_by_kept, when_it_crosses}
use Rattle.pl_past_tables.specs.declared.row.Row.{Row}
use Rattle.pl_past_tables.specs.Frames.{IsRow, KeepsFrames}
use Rattle.pl_past_tables.specs.Legs.{switches_of}
use Rattle.pl_checker.specs.Past.{MayFollow, leads_from}
use Rattle.pl_past_tables.proofs.Exports.{group_of_row, one_row}

pub none_crosses : (plan : Plan) (past : List Entry) (id : ℕ) (s : SwitchNo) → is_flying past id ≡ false → IsTrue false ↔ MayFollow plan past (Crossed id s)
none_crosses plan past id s none = (λ t. absurd (false≢true t), λ f. absurd (both_ways (is_flying past id) none f.0))

pub one_crosses : (plan : Plan) (past : List Entry) (id : ℕ) (s : SwitchNo) (b : Bool) → is_flying past id ≡ true →
    b ≡ goes_well_by plan (live_since past) (kept plan past id) s.0 → IsTrue b ↔ MayFollow plan past (Crossed id s)
one_crosses plan past id s b flies is =
    let well : b ≡ goes_well plan past id (leg past id) s.0 = is ∙ sym (goes_well_by_kept plan past id s.0) in
    (λ t. (flies, sym well ∙ t), λ f. well ∙ f.1)

leads_is : (plan : Plan) (past : List Entry) (switches : List ℕ) (s crossed : ℕ) →
    leads_from plan past (first_of switches) s crossed ≡ leads plan (live_since past) crossed switches s
leads_is plan past [] s crossed = refl
leads_is plan past (t ∷ switches) s crossed = refl

pub well_by_row : (plan : Plan) (text : List ℕ) (past : List Entry) (row : Row) (frame : Kept) (s k : ℕ) (group good led : Bool) (last : Option ℕ) →
    IsRow text row frame → group ≡ is_some row.carried.group →
    k ≡ plan.k → good ≡ is_good_leg group k (s ∷ switches_of row.leg) → led ≡ leads_from plan past last s row.crossed → last ≡ first_of (switches_of row.leg) →
    (good && led) ≡ goes_well_by plan (live_since past) frame s
well_by_row plan text past row frame s k group good led last is to_group arity goes leads first =
    ap₂ (λ a b. a && b)
    (goes
    ∙ ap (λ b. is_good_leg b k (s ∷ switches_of row.leg)) (to_group ∙ group_of_row text row frame is)
    ∙ ap₂ (λ j l. is_good_leg (is_group (destination_of frame.beginning)) j (s ∷ l)) arity is.leg)
    (leads ∙ ap₂ (λ o c. leads_from plan past o s c) (first ∙ ap first_of is.leg) is.crossed ∙ leads_is plan past frame.leg s frame.crossed)

pub empty_by_two : (xs : List ℕ) → is_empty (take 2 xs) ≡ is_empty xs
empty_by_two [] = refl
empty_by_two (x ∷ xs) = refl

pub crossed_frames : (plan : Plan) (text : List ℕ) (past : List Entry) (rows : List Row) (id n : ℕ) (s : SwitchNo) (row new : Row) (there : Option EdgePort)
    (source : Option Pmac) →
    KeepsFrames plan text past rows → 1 ≤ id → id ≤ length rows → IsRow text row (kept plan past id) → n ≡ length past + 1 →
    there ≡ option_and_then (if_of_switch s.0) (option_and_then (edge_port_of plan past) (option_map (λ h. h.0) row.sender)) →
    source ≡ address_at past (option_map (λ h. h.0) row.sender) there →
    IsRow text new (crossing n s.0 there source (kept plan past id)) → KeepsFrames plan text (Crossed id s ∷ past) (set rows (id - 1) new)
crossed_frames plan text past rows id n s row new there source keeps least most is next comes has crosses =
    let in_at : there ≡ entrance plan past id s.0 = comes ∙ ap (λ o. option_and_then (if_of_switch s.0) (option_and_then (edge_port_of plan past) o))
    is.sender in
    let from : source ≡ address_at past (sender past id) (entrance plan past id s.0) = has ∙ ap₂ (address_at past) is.sender in_at in
    let same : crossing n s.0 there source (kept plan past id)
    ≡ crossing (length past + 1) s.0 (entrance plan past id s.0) (address_at past (sender past id) (entrance plan past id s.0)) (kept plan past id) =
    ap (λ m. crossing m s.0 there source (kept plan past id)) next
    ∙ ap₂ (λ o a. crossing (length past + 1) s.0 o a (kept plan past id)) in_at from in
    one_row plan text past (Crossed id s) rows id new keeps refl least most (subst (IsRow text new) (same ∙ sym (when_it_crosses plan past id s)) crosses)
    (λ other apart. ne_eqb id other (λ e. apart (sym e)))
