use Rattle.std.proofs.Common.{◌≡◌, ◌<◌, ◌^◌, true, false, sym, ap, ◌∙◌, arith}
use Rattle.std.specs.Str.Parse.{digits_value}
use Rattle.pl_script.specs.Numbers.{is_number}
use Rattle.pl_script.proofs.NumberLemmas.{number_of-read, number_of-other, parsed, unparsed}
use Rattle.pl_script.proofs.numbers.number.Goals as goal

pub returns-then-not-is_number-clause-exact : goal.returns-then-not-is_number-clause-exact
returns-then-not-is_number-clause-exact c = number_of-other c.args.least c.args.most c.args.text.now (λ form _ _.
    let same : c.is_number.result ≡ is_number c.args.text.now = c.is_number.ensures ∙ ap is_number c.as_bytes.ensures.value in
    let contrary : false ≡ true = sym c.if-not-is_number.true ∙ same ∙ form in
    cc)

pub returns-in-Ok-clause-exact : goal.returns-in-Ok-clause-exact
returns-in-Ok-clause-exact c =
    let form : is_number c.args.text.now ≡ true = sym (c.is_number.ensures ∙ ap is_number c.as_bytes.ensures.value) ∙ c.if-not-is_number.false in
    number_of-read c.args.least c.args.most c.in-Ok.n c.args.text.now form
    (parsed c.args.text.now c.in-Ok.n form (rw c.in-Ok.is at c.parse.ensures.value.0)) c.if-least-n.true c.if-n-most.true

pub returns-in_default-clause-exact : goal.returns-in_default-clause-exact
returns-in_default-clause-exact c = number_of-other c.args.least c.args.most c.args.text.now (λ form low high.
    let value : c.in-Ok.n ≡ digits_value 10 c.args.text.now = parsed c.args.text.now c.in-Ok.n form (rw c.in-Ok.is at c.parse.ensures.value.0) in
    let above : c.args.most < c.in-Ok.n = c.if-n-most.false in
    omega arith)

pub returns-in_default-2-clause-exact : goal.returns-in_default-2-clause-exact
returns-in_default-2-clause-exact c = number_of-other c.args.least c.args.most c.args.text.now (λ form low high.
    let value : c.in-Ok.n ≡ digits_value 10 c.args.text.now = parsed c.args.text.now c.in-Ok.n form (rw c.in-Ok.is at c.parse.ensures.value.0) in
    let below : c.in-Ok.n < c.args.least = c.if-least-n.false in
    omega arith)

pub returns-in_default-3-clause-exact : goal.returns-in_default-3-clause-exact
returns-in_default-3-clause-exact c = number_of-other c.args.least c.args.most c.args.text.now (λ form low high.
    let small : digits_value 10 c.args.text.now < 2 ^ 64 = omega (arith, c.ranges.most) in
    unparsed c.args.text.now form (rw c.in_default.is at c.parse.ensures.value.0) small)
