-- What is held at each position once an edge switch's holds are freed.
use Rattle.std.proofs.Common.{◌≡◌, ◌≢◌, ℕ, zero, suc, ◌+◌, ◌<◌, ◌==◌, ◌&&◌, not, true, false, if◌then◌else◌, List, [], ◌∷◌, ◌++◌, length, take, drop, set, Option, None, refl, sym, ap, ◌∙◌, arith, add-zero, append_assoc}
use Rattle.std.proofs.lemmas.Bool.{eq-eqb, ne_eqb}
use Rattle.std.proofs.lemmas.List.{drop-set-lt, drop_more, take_more_set, set-get_or}
use Rattle.pl_frame.specs.declared.address.SwitchId.{SwitchId}
use Rattle.pl_node.specs.declared.switch_records.Hold.{Hold}
use Rattle.pl_switch_rule.specs.Positions.{freed_but, is_held_for}
use Rattle.pl_position.specs.Holding.{hold_in}

-- what is left of the hold at a position
abbrev pub freed : ℕ → SwitchId → ℕ → Option Hold → Option Hold
freed position edge at hold = if is_held_for edge hold && not (at == position) then None else hold

freed_from : (position : ℕ) (edge : SwitchId) (n : ℕ) (holds : List (Option Hold)) (at : ℕ) →
    hold_in (freed_but position edge n holds) at ≡ freed position edge (n + at) (hold_in holds at)
freed_from position edge n [] at = refl
freed_from position edge n (hold ∷ holds) zero = ap (λ k. freed position edge k hold) (sym (add-zero n))
freed_from position edge n (hold ∷ holds) (suc at) =
    let further : (n + 1) + at ≡ n + suc at = omega arith in
    freed_from position edge (n + 1) holds at ∙ ap (λ k. freed position edge k (hold_in holds at)) further

pub freed_at : (position : ℕ) (edge : SwitchId) (holds : List (Option Hold)) (at : ℕ) →
    hold_in (freed_but position edge 0 holds) at ≡ freed position edge at (hold_in holds at)
freed_at position edge holds at =
    let same : 0 + at ≡ at = omega arith in
    freed_from position edge 0 holds at ∙ ap (λ k. freed position edge k (hold_in holds at)) same

-- A loop that frees: what is done so far, and then the rest, is the whole.
pub freed_more : (position : ℕ) (edge : SwitchId) (n : ℕ) (holds : List (Option Hold)) (hold : Option Hold) → n < length holds →
    hold ≡ freed position edge n (hold_in holds n) →
    take (n + 1) (set holds n hold) ++ freed_but position edge (n + 1) (drop (n + 1) (set holds n hold))
    ≡ take n holds ++ freed_but position edge n (drop n holds)
freed_more position edge n holds hold h is =
    let lt : n < n + 1 = omega arith in
    let rest : List (Option Hold) = freed_but position edge (n + 1) (drop (n + 1) holds) in
    ap (λ front. front ++ freed_but position edge (n + 1) (drop (n + 1) (set holds n hold))) (take_more_set holds n hold h)
    ∙ ap (λ left. (take n holds ++ hold ∷ []) ++ freed_but position edge (n + 1) left) (drop-set-lt (n + 1) holds n hold lt)
    ∙ append_assoc (take n holds) (hold ∷ []) rest
    ∙ ap (λ x. take n holds ++ (x ∷ rest)) is
    ∙ ap (λ left. take n holds ++ freed_but position edge n left) (sym (drop_more holds n None h))

-- the same where the hold stays as it is
pub freed_on : (position : ℕ) (edge : SwitchId) (n : ℕ) (holds : List (Option Hold)) → n < length holds →
    hold_in holds n ≡ freed position edge n (hold_in holds n) →
    take (n + 1) holds ++ freed_but position edge (n + 1) (drop (n + 1) holds) ≡ take n holds ++ freed_but position edge n (drop n holds)
freed_on position edge n holds h is =
    ap (λ same. take (n + 1) same ++ freed_but position edge (n + 1) (drop (n + 1) same)) (sym (set-get_or holds n None))
    ∙ freed_more position edge n holds (hold_in holds n) h is

pub freed_is_none : (position : ℕ) (edge : SwitchId) (at : ℕ) (hold : Option Hold) → at ≢ position → is_held_for edge hold ≡ true →
    None ≡ freed position edge at hold
freed_is_none position edge at hold away held = rw (ne_eqb at position away, held) refl

pub freed_keeps_other : (position : ℕ) (edge : SwitchId) (at : ℕ) (hold : Option Hold) → is_held_for edge hold ≡ false →
    hold ≡ freed position edge at hold
freed_keeps_other position edge at hold other = rw other refl

-- at the position itself nothing is freed
pub freed_itself : (position : ℕ) (edge : SwitchId) (at : ℕ) (hold : Option Hold) → at ≡ position → freed position edge at hold ≡ hold
freed_itself position edge at hold here =
    rw (eq-eqb at position here)
    (elim (is_held_for edge hold) as (λ b. (if b && false then None else hold) ≡ hold) [ true ↦ refl | false ↦ refl ])
