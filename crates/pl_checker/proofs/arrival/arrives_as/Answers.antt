use Rattle.std.proofs.Common.{◌≡◌, ◌↔◌, ◌*◌, ◌≤◌, ◌∙◌, ap, sym, subst, length, List, ℕ}
use Rattle.std.specs.Prelude.{IsTrue}
use Rattle.std.proofs.lemmas.Option.{MatchOption-at_none, MatchOption-at_some}
use Rattle.pl_layouts.specs.Frames.{arriving}
use Rattle.pl_checker.proofs.Unaltered.{no_digits, other_length, the_digits}
use Rattle.pl_checker.proofs.arrival.arrives_as.Goals as goal

pub returns-then-carried-long : goal.returns-then-carried-long
returns-then-carried-long c = λ bytes is six also_six.
    other_length c.args.text.now c.args.carried bytes c.args.frame.now c.args.from c.args.to is six also_six
    (λ e. c.if-carried-long.true (e ∙ sym (ap (λ (l : List ℕ). length l) c.bytes-long.ensures)))

pub returns-in_default : goal.returns-in_default
returns-in_default c = λ bytes is six also_six.
    no_digits c.args.text.now c.args.carried bytes c.args.frame.now c.args.from c.args.to is six also_six (2 * length c.bytes-long.result.now)
    (ap (λ n. 2 * n) (ap (λ (l : List ℕ). length l) c.bytes-long.ensures))
    (c.if-carried-long.false ∙ ap (λ (l : List ℕ). length l) c.bytes-long.ensures) c.in_default.ensures.none

pub returns-in-None : goal.returns-in-None
returns-in-None c = λ bytes is six also_six.
    absurd (MatchOption-at_none ⊥ _ c.in-None.is (c.in_ok-read.ensures bytes is.are_bytes
    (the_digits c.args.text.now c.args.carried bytes c.args.frame.now c.args.from c.args.to is six also_six (2 * length c.bytes-long.result.now) c.in-Some.digits.now
    (ap (λ n. 2 * n) (ap (λ (l : List ℕ). length l) c.bytes-long.ensures))
    (c.if-carried-long.false ∙ ap (λ (l : List ℕ). length l) c.bytes-long.ensures) c.in-Some.ensures.found)))

pub returns-in-Some-read : goal.returns-in-Some-read
returns-in-Some-read c = λ bytes is six also_six.
    let same = MatchOption-at_some ⊥ _ c.in-Some-read.bytes c.in-Some-read.is (c.in_ok-read.ensures bytes is.are_bytes
    (the_digits c.args.text.now c.args.carried bytes c.args.frame.now c.args.from c.args.to is six also_six (2 * length c.bytes-long.result.now) c.in-Some.digits.now
    (ap (λ n. 2 * n) (ap (λ (l : List ℕ). length l) c.bytes-long.ensures))
    (c.if-carried-long.false ∙ ap (λ (l : List ℕ). length l) c.bytes-long.ensures) c.in-Some.ensures.found)) in
    subst (λ (l : List ℕ). IsTrue c.is_arrived.result ↔ (c.args.frame.now ≡ arriving l c.args.from c.args.to)) same
    (c.is_arrived.ensures (subst (λ (l : List ℕ). 14 ≤ length l) (sym same) is.least))
