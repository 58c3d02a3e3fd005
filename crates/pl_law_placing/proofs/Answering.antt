-- Where a proposal would bring no news, it was answered.
use Rattle.std.proofs.Common.{◌≡◌, ℕ, ◌<◌, ◌==◌, ◌&&◌, ◌||◌, not, nat_lt, Bool, true, false, true≢false, if◌then◌else◌, Option, Some, None, refl, sym, ◌∙◌, ap, eq-eqb, ne_eqb, lt-ltb, arith}
use Rattle.std.specs.Option.{option_map}
use Rattle.std.proofs.lemmas.Bool.{not-false}
use Rattle.pl_node.specs.declared.switch_records.Hold.{Hold}
use Rattle.pl_node.specs.SwitchFacts.{has_granted, hold_at, holder_and_mark, holder_of, is_news}
use Rattle.pl_node.specs.SwitchViews.{SwitchView}
use Rattle.pl_law_placing.specs.Resting.{ProposalIsAnswered}
use Rattle.pl_law_placing.specs.Resting.ProposalIsAnswered.{Counted, Refused}

no_more : (a b c : Bool) → ((a || b) && not c) ≡ false → c ≡ false → (a ≡ false) × (b ≡ false)
no_more true b c is last = absurd (true≢false (sym (ap not last) ∙ is))
no_more false true c is last = absurd (true≢false (sym (ap not last) ∙ is))
no_more false false c is last = (refl, refl)

pub answered : (v u : SwitchView) (p : ℕ) → v.attempt < 4294967295 → is_news v p v.attempt (holder_of u v.proposed) ≡ false → ProposalIsAnswered v p u
answered v u p few = by (hold_at u v.proposed) refl
  where
    either : (hold : Hold) → hold_at u v.proposed ≡ Some hold → (b : Bool) → (hold.edge.0 == v.id.0) ≡ b →
        (if b then not (has_granted v p) else (hold.fixed || nat_lt hold.edge.0 v.id.0) && not (v.attempt == 4294967295)) ≡ false → ProposalIsAnswered v p u
    either hold held true own none = Counted (not-false (has_granted v p) none)
    either hold held false other none =
        let last = ne_eqb v.attempt 4294967295 (λ same. absurd (omega (arith, same, few))) in
        let both = no_more hold.fixed (nat_lt hold.edge.0 v.id.0) (v.attempt == 4294967295) none last in
        Refused hold held both.0 (λ less. true≢false (sym (lt-ltb hold.edge.0 v.id.0 less) ∙ both.1)) (λ same. true≢false (sym (eq-eqb hold.edge.0 v.id.0 same) ∙ other))

    by : (h : Option Hold) → hold_at u v.proposed ≡ h → is_news v p v.attempt (option_map holder_and_mark h) ≡ false → ProposalIsAnswered v p u
    by None held none = absurd (true≢false none)
    by (Some hold) held none = either hold held (hold.edge.0 == v.id.0) refl none
