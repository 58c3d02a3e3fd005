-- What is live of each link of a wiring is all that its link states say.
use Rattle.std.proofs.Common.{◌≡◌, ℕ, ◌+◌, ◌*◌, ◌/◌, ◌%◌, ◌<◌, Bool, true, false, List, length, get_or, sym, ◌∙◌, ap, subst, arith}
use Rattle.std.proofs.lemmas.List.{get_or_default, same_lists}
use Rattle.std.proofs.lemmas.Nat.{div-add-mod', mod_below}
use Rattle.pl_lemmas.proofs.Exports.{same_truth}
use Rattle.pl_wiring.specs.declared.link.Link.{Link}
use Rattle.pl_wiring.specs.LiveLinks.{IsFor, LivePorts, is_live, is_live_at}
use Rattle.pl_wiring.specs.Plan.{IsPlan, Plan}
use Rattle.pl_wiring.proofs.Exports.{entry_at-in_range, live_says}

module _ (plan : Plan) where
  SameOn : LivePorts → LivePorts → Type 0
  SameOn x y = (n : ℕ) (d : Link) → n < length plan.links → is_live x (get_or plan.links n d) ≡ is_live y (get_or plan.links n d)

  live_over : (x y : LivePorts) → IsFor plan x → IsFor plan y → SameOn x y → (s p : ℕ) → is_live_at x s p ≡ true → is_live_at y s p ≡ true
  unfolding SameOn
  live_over x y forx fory same s p live =
      let there = (live_says plan x s p forx).0 live in
      let here : is_live x there.1 ≡ is_live y there.1 = subst (λ l. is_live x l ≡ is_live y l) there.3 (same there.0 there.1 there.2) in
      (live_says plan y s p fory).1 (there.0, there.1, there.2, there.3, (there.4.0, sym here ∙ there.4.1))

  pub same_states : (x y : LivePorts) → IsPlan plan → IsFor plan x → IsFor plan y →
      ((n : ℕ) (d : Link) → n < length plan.links → is_live x (get_or plan.links n d) ≡ is_live y (get_or plan.links n d)) → x ≡ y
  unfolding SameOn
  same_states x y is forx fory same =
      let k : ℕ = plan.k in
      let pos : 0 < k = let least = is.arity.least in omega arith in
      let at : (s p : ℕ) → is_live_at x s p ≡ is_live_at y s p = (λ s p. same_truth (is_live_at x s p) (is_live_at y s p)
      (live_over x y forx fory same s p) (live_over y x fory forx (λ n d within. sym (same n d within)) s p)) in
      let read : (z : LivePorts) → IsFor plan z → (n : ℕ) → is_live_at z (n / k) (n % k) ≡ get_or z.flags n false = (λ z forz n.
      entry_at-in_range false z.k z.flags (n / k) (n % k) (rw forz.same_k (mod_below n k pos))
      ∙ ap (λ j. get_or z.flags (n / k * j + n % k) false) forz.same_k ∙ ap (λ m. get_or z.flags m false) (div-add-mod' n k)) in
      let flags : x.flags ≡ y.flags = same_lists x.flags y.flags (forx.room ∙ sym fory.room) (λ n d within.
      get_or_default x.flags n d false within ∙ sym (read x forx n) ∙ at (n / k) (n % k) ∙ read y fory n
      ∙ get_or_default y.flags n false d (let long = forx.room ∙ sym fory.room in omega arith)) in
      let made : ℕ → List Bool → LivePorts = (λ j f. record { k = j; flags = f }) in
      ap (λ j. made j x.flags) (forx.same_k ∙ sym fory.same_k) ∙ ap (made y.k) flags
