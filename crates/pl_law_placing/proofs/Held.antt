-- Where a hold comes from that an aggregation switch has after it heard an edge switch.
use Rattle.std.proofs.Common.{◌≡◌, ℕ, ◌==◌, ◌&&◌, not, nat_lt, Bool, true, false, cond, Option, Some, None, refl, sym, ◌∙◌, ap, inl, inr, ◌⊎◌}
use Rattle.std.proofs.lemmas.Bool.{cond_both}
use Rattle.pl_frame.specs.declared.address.SwitchId.{SwitchId}
use Rattle.pl_node.specs.declared.switch_records.Hold.{Hold}
use Rattle.pl_node.specs.SwitchFacts.{hold_at}
use Rattle.pl_node.specs.SwitchViews.{SwitchView}
use Rattle.pl_switch_rule.specs.Positions.{frees_others, half, holds_for, is_free_for, is_held_for, kept_or_new, marked_for, marks, notes_position}
use Rattle.pl_law_places.proofs.Exports.{set_or_old}
use Rattle.pl_law_votes.proofs.Exports.{after_proposal, freed_is}

-- it was there, or is a new one for this switch at this position
abbrev pub IsFrom : SwitchView → SwitchId → ℕ → Bool → ℕ → Hold → Type 0
IsFrom v id p fixed y hold = (hold_at v y ≡ Some hold) ⊎ ((y ≡ p) × (hold ≡ record { edge = id; fixed = fixed }))

pub freed_was : (v : SwitchView) (id : SwitchId) (p y : ℕ) (hold : Hold) → hold_at (frees_others v id p) y ≡ Some hold → hold_at v y ≡ Some hold
freed_was v id p y hold is = either (is_held_for id (hold_at v y) && not (y == p)) (sym (freed_is v id p y) ∙ is)
  where
    either : (b : Bool) → cond b None (hold_at v y) ≡ Some hold → hold_at v y ≡ Some hold
    either true none = absurd (cc)
    either false some = some

module _ (v : SwitchView) (id : SwitchId) (p y : ℕ) (hold : Hold) where
  abbrev w : SwitchView
  w = frees_others v id p

  new_hold : (h : Option Hold) → y ≡ p → hold_at w p ≡ h → kept_or_new id h ≡ Some hold → IsFrom v id p false y hold
  new_hold None at was is = let same : record { edge = id; fixed = false } ≡ hold = cc is in inr (at, sym same)
  new_hold (Some h) at was is = inl (freed_was v id p y hold (ap (λ x. hold_at w x) at ∙ was ∙ is))

  pub proposal_from : hold_at (after_proposal v id p) y ≡ Some hold → IsFrom v id p false y hold
  proposal_from =
      cond_both (is_free_for id (hold_at w p)) (holds_for w id p) w (λ (u : SwitchView). hold_at u y ≡ Some hold → IsFrom v id p false y hold)
      (λ h is. elim (set_or_old w.holds p y (kept_or_new id (hold_at w p)) None) [
        | inl e ↦ new_hold (hold_at w p) e.0 refl (sym e.1 ∙ is)
        | inr e ↦ inl (freed_was v id p y hold (sym e ∙ is))
      ])
      (λ h is. inl (freed_was v id p y hold is))

  new_mark : (h : Option Hold) → y ≡ p → hold_at w p ≡ h → marked_for id h ≡ Some hold → IsFrom v id p true y hold
  new_mark None at was is = let same : record { edge = id; fixed = true } ≡ hold = cc is in inr (at, sym same)
  new_mark (Some h) at was is = by (h.edge.0 == id.0) is
    where
      by : (b : Bool) → cond b (Some (record { edge = id; fixed = true })) (Some h) ≡ Some hold → IsFrom v id p true y hold
      by true is = let same : record { edge = id; fixed = true } ≡ hold = cc is in inr (at, sym same)
      by false is = inl (freed_was v id p y hold (ap (λ x. hold_at w x) at ∙ was ∙ is))

  pub told_from : hold_at (notes_position v id (Some p)) y ≡ Some hold → IsFrom v id p true y hold
  told_from =
      cond_both (nat_lt p (half v.k)) (marks w id p) v (λ (u : SwitchView). hold_at u y ≡ Some hold → IsFrom v id p true y hold)
      (λ h is. elim (set_or_old w.holds p y (marked_for id (hold_at w p)) None) [
        | inl e ↦ new_mark (hold_at w p) e.0 refl (sym e.1 ∙ is)
        | inr e ↦ inl (freed_was v id p y hold (sym e ∙ is))
      ])
      (λ h is. inl is)
