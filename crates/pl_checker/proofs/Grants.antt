-- An address is granted, registered and freed: when it may be, and what is kept of frames then.
use Rattle.std.proofs.Common.{◌≡◌, ◌≢◌, ◌↔◌, ℕ, ◌+◌, ◌-◌, ◌≤◌, ◌<◌, Bool, true, false, set, List, [], ◌∷◌, length, Option, Some, None, refl, sym, ap, ap₂, subst, ◌∙◌, arith}
use Rattle.std.specs.Prelude.{IsTrue}
use Rattle.std.specs.Option.{option_map}
use Rattle.std.proofs.lemmas.Bool.{both_ways, eq-eqb, eqb-true, false≢true, ne_eqb}
use Rattle.pl_pmac.specs.declared.pmac.Pmac.{Pmac}
use Rattle.pl_pmac.specs.Pmac.{pmac_number}
use Rattle.pl_wiring.specs.declared.label.SwitchNo.{SwitchNo}
use Rattle.pl_wiring.specs.declared.host.HostNo.{HostNo}
use Rattle.pl_wiring.specs.Plan.{Plan}
use Rattle.pl_journal.specs.declared.entry.Entry.{Entry}
use Rattle.pl_journal.specs.declared.entry.Entry.TheVariants.{Crossed, Freed, Granted, Registered}
use Rattle.pl_journal.specs.Places.{at_port, has_stood, highest, is_live, is_of_edge}
use Rattle.pl_journal.specs.Flights.{address_at, came_in, has_just_crossed, is_flying, is_frame, sender}
use Rattle.pl_journal.specs.Lossy.{RunTo}
use Rattle.pl_past.specs.Kept.{granting, kept}
use Rattle.pl_past.proofs.Exports.{when_its_edge_grants}
use Rattle.pl_past_tables.specs.declared.row.Row.{Row}
use Rattle.pl_past_tables.specs.Frames.{IsRow, KeepsFrames}
use Rattle.pl_past_tables.specs.Keys.{edge_port_at}
use Rattle.pl_checker.specs.Past.{MayFollow}
use Rattle.pl_past_tables.proofs.Exports.{no_row, one_row}

module _ (plan : Plan) (past : List Entry) (x : Pmac) (h : HostNo) (e : SwitchNo) (p : ℕ) where
  pub other_port : x.port ≢ p → IsTrue false ↔ MayFollow plan past (Granted x h e p)
  other_port apart = (λ t. absurd (false≢true t), λ f. absurd (apart f.0.port))

  pub live_already : (n : ℕ) (live : Bool) → n ≡ pmac_number x → live ≡ is_live past n → live ≡ true → IsTrue false ↔ MayFollow plan past (Granted x h e p)
  live_already n live at is some = (λ t. absurd (false≢true t), λ f. absurd (both_ways live (is ∙ ap (is_live past) at ∙ f.0.fresh) some))

  pub never_stood : (b : Bool) → b ≡ has_stood plan past h.0 (at_port e.0 p) → b ≡ false → IsTrue false ↔ MayFollow plan past (Granted x h e p)
  never_stood b is none = (λ t. absurd (false≢true t), λ f. absurd (both_ways b none (is ∙ f.0.stood)))

  pub grantable : (n : ℕ) (live stood b : Bool) → x.port ≡ p → n ≡ pmac_number x → live ≡ is_live past n → live ≡ false →
      stood ≡ has_stood plan past h.0 (at_port e.0 p) → stood ≡ true → b ≡ is_of_edge past x e.0 → IsTrue b ↔ MayFollow plan past (Granted x h e p)
  grantable n live stood b port at is none stands stood_is of_edge = (
    λ t. (
      record { fresh = ap (is_live past) (sym at) ∙ sym is ∙ none; port = port; stood = sym stands ∙ stood_is; edge = sym of_edge ∙ t },
      tt,
    ),
    λ f. of_edge ∙ f.0.edge,
  )

pub freeable : (plan : Plan) (past : List Entry) (x : Pmac) (n : ℕ) (b : Bool) → n ≡ pmac_number x → b ≡ is_live past n →
    IsTrue b ↔ MayFollow plan past (Freed x)
freeable plan past x n b at is = (λ t. (ap (is_live past) (sym at) ∙ sym is ∙ t, tt), λ f. is ∙ ap (is_live past) at ∙ f.0)

module _ (plan : Plan) (past : List Entry) (x : Pmac) (n : ℕ) where
  pub not_above : (top : ℕ) → top ≡ highest past → n ≤ top → IsTrue false ↔ MayFollow plan past (Registered x n)
  not_above top is low = (λ t. absurd (false≢true t), λ f. let above = f.0.1 in absurd (omega (arith, is, low, above)))

  pub registrable : (m top : ℕ) (live : Bool) → top ≡ highest past → top < n → m ≡ pmac_number x → live ≡ is_live past m →
      IsTrue live ↔ MayFollow plan past (Registered x n)
  registrable m top live is above at lives = (
    λ t. ((ap (is_live past) (sym at) ∙ sym lives ∙ t, omega (arith, is, above)), tt),
    λ f. lives ∙ ap (is_live past) at ∙ f.0.0,
  )

-- a frame that has just crossed a switch flies
pub just_crossed_flies : (plan : Plan) (past : List Entry) (id : ℕ) → RunTo plan past → has_just_crossed past id ≡ true → is_flying past id ≡ true
just_crossed_flies plan [] id run just = absurd (both_ways false refl just)
just_crossed_flies plan (Crossed g s ∷ past) id run just = subst (λ n. is_flying past n ≡ true) (eqb-true g id just) run.1
just_crossed_flies plan (entry ∷ past) id run just = absurd (both_ways false refl just)

-- the frames at a grant
module _ (plan : Plan) (text : List ℕ) (past : List Entry) (rows : List Row) (x : Pmac) (h : HostNo) (e : SwitchNo) (p : ℕ) (run : RunTo plan past)
    (keeps : KeepsFrames plan text past rows) (just : Option ℕ) (crossed : (id : ℕ) → has_just_crossed past id ≡ is_frame just id) where
  pub none_granted : just ≡ None → KeepsFrames plan text (Granted x h e p ∷ past) rows
  none_granted is = no_row plan text past (Granted x h e p) rows keeps refl (λ id. crossed id ∙ ap (λ o. is_frame o id) is)

  pub granted_flies : (id : ℕ) → just ≡ Some id → is_flying past id ≡ true
  granted_flies id is = just_crossed_flies plan past id run (crossed id ∙ ap (λ o. is_frame o id) is ∙ eq-eqb id id refl)

  pub granted_frames : (id n : ℕ) (row new : Row) (source : Option Pmac) → just ≡ Some id → 1 ≤ id → id ≤ length rows → IsRow text row (kept plan past id) →
      n ≡ length past + 1 →
      source ≡ address_at (Granted x h e p ∷ past) (option_map (λ (g : HostNo). g.0) row.sender) (option_map edge_port_at row.came_in) →
      IsRow text new (granting n source (kept plan past id)) → KeepsFrames plan text (Granted x h e p ∷ past) (set rows (id - 1) new)
  granted_frames id n row new source at least most is next from grants =
      let first : has_just_crossed past id ≡ true = crossed id ∙ ap (λ o. is_frame o id) at ∙ eq-eqb id id refl in
      let same : source ≡ address_at (Granted x h e p ∷ past) (sender past id) (came_in plan past id) =
      from ∙ ap₂ (address_at (Granted x h e p ∷ past)) is.sender is.came_in in
      one_row plan text past (Granted x h e p) rows id new keeps refl least most
      (subst (IsRow text new) (ap₂ (λ m o. granting m o (kept plan past id)) next same ∙ sym (when_its_edge_grants plan past x h e p id first)) grants)
      (λ other apart. crossed other ∙ ap (λ o. is_frame o other) at ∙ ne_eqb id other (λ q. apart (sym q)))
