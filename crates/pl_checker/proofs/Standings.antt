-- Hosts move, links fail and are repaired: when they may.
use Rattle.std.proofs.Common.{◌≡◌, ◌↔◌, ℕ, ◌≤◌, ◌<◌, Bool, true, false, not, List, length, Option, Some, None, slice_get, refl, sym, ap, subst, ◌∙◌, inl, inr, arith}
use Rattle.std.specs.Prelude.{IsSome, IsTrue}
use Rattle.std.proofs.lemmas.Bool.{both_ways, false≢true, not-true}
use Rattle.std.proofs.lemmas.Option.{slice_get_cases, slice_get_past}
use Rattle.pl_wiring.specs.declared.host.Host.{Host}
use Rattle.pl_wiring.specs.declared.host.HostNo.{HostNo}
use Rattle.pl_wiring.specs.declared.label.SwitchNo.{SwitchNo}
use Rattle.pl_wiring.specs.Plan.{Plan}
use Rattle.pl_journal.specs.declared.entry.Entry.{Entry}
use Rattle.pl_journal.specs.declared.entry.Entry.TheVariants.{LinkDown, LinkUp, Moved}
use Rattle.pl_journal.specs.Places.{at_port, is_adjacent, is_failed, is_free}
use Rattle.pl_checker.specs.Past.{MayFollow}

none_there : (o : Option Host) → o ≡ None → IsSome o → ⊥
none_there None is some = both_ways false refl some
none_there (Some h) is some = absurd (cc is)

pub there : (hosts : List Host) (n : ℕ) → n < length hosts → IsSome (slice_get hosts n)
there hosts n within = elim (slice_get_cases hosts n).1 [
  | inl w ↦ subst (λ (o : Option Host). IsSome o) (sym w.2) refl
  | inr w ↦ let far = w.0 in absurd (omega arith)
]

pub is_there : (hosts : List Host) (n : ℕ) → IsSome (slice_get hosts n) → n < length hosts
is_there hosts n some = elim (slice_get_cases hosts n).1 [
  | inl w ↦ w.1
  | inr w ↦ absurd (none_there (slice_get hosts n) w.1 some)
]

module _ (plan : Plan) (past : List Entry) (h : HostNo) (e : SwitchNo) (p : ℕ) where
  pub no_such_host : length plan.hosts ≤ h.0 → IsTrue false ↔ MayFollow plan past (Moved h e p)
  no_such_host far = (λ t. absurd (false≢true t), λ f. absurd (none_there (slice_get plan.hosts h.0) (slice_get_past plan.hosts h.0 far) f.0.0))

  pub movable : (b : Bool) → h.0 < length plan.hosts → b ≡ is_free plan past (at_port e.0 p) → IsTrue b ↔ MayFollow plan past (Moved h e p)
  movable b within is = (λ t. ((there plan.hosts h.0 within, sym is ∙ t), tt), λ f. is ∙ f.0.1)

module _ (plan : Plan) (past : List Entry) (a b : SwitchNo) where
  pub not_ordered : b.0 ≤ a.0 → (IsTrue false ↔ MayFollow plan past (LinkDown a b)) × (IsTrue false ↔ MayFollow plan past (LinkUp a b))
  not_ordered order = (
    (λ t. absurd (false≢true t), λ f. let less = f.0.ordered in absurd (omega arith)),
    (λ t. absurd (false≢true t), λ f. let less = f.0.ordered in absurd (omega arith)),
  )

  pub not_adjacent : (t : Bool) → t ≡ is_adjacent plan a.0 b.0 → t ≡ false →
      (IsTrue false ↔ MayFollow plan past (LinkDown a b)) × (IsTrue false ↔ MayFollow plan past (LinkUp a b))
  not_adjacent t is none = (
    (λ u. absurd (false≢true u), λ f. absurd (both_ways t none (is ∙ f.0.adjacent))),
    (λ u. absurd (false≢true u), λ f. absurd (both_ways t none (is ∙ f.0.adjacent))),
  )

  pub may_fail : (t failed : Bool) → a.0 < b.0 → t ≡ is_adjacent plan a.0 b.0 → t ≡ true → failed ≡ is_failed past a.0 b.0 →
      IsTrue (not failed) ↔ MayFollow plan past (LinkDown a b)
  may_fail t failed order is joined state =
      (λ u. (record { ordered = order; adjacent = sym is ∙ joined; state = sym state ∙ not-true failed u }, tt), λ f. ap not (state ∙ f.0.state))

  pub may_repair : (t failed : Bool) → a.0 < b.0 → t ≡ is_adjacent plan a.0 b.0 → t ≡ true → failed ≡ is_failed past a.0 b.0 →
      IsTrue failed ↔ MayFollow plan past (LinkUp a b)
  may_repair t failed order is joined state =
      (λ u. (record { ordered = order; adjacent = sym is ∙ joined; state = sym state ∙ u }, tt), λ f. state ∙ f.0.state)
