use Rattle.std.proofs.Common.{◌≡◌, true, false, ◌<◌, ◌^◌, ◌≢◌, sym, ◌∙◌, arith}
use Rattle.std.specs.Prelude.{decimal}
use Rattle.std.proofs.lemmas.Slice.Eq.{bytes_eq-Decides}
use Rattle.pl_wiring.proofs.TextLemmas.{number_of-decimal, number_of-unparsed, number_of-reprinted}
use Rattle.pl_wiring.proofs.text.number.Goals as goal

pub returns-in-Err : goal.returns-in-Err
returns-in-Err c =
    let parsed = (rw c.in-Err.is at c.parse.ensures.value.0) in
    sym (number_of-unparsed c.args.text.now parsed)

pub returns-then-eq : goal.returns-then-eq
returns-then-eq c =
    let parsed = (rw c.in-Ok.is at c.parse.ensures.value.0) in
    let small : c.in-Ok.n < 2 ^ 16 = omega (arith, parsed.0.1, parsed.1) in
    let printed : decimal c.in-Ok.n ≡ c.args.text.now =
    sym c.format.ensures.text ∙ (bytes_eq-Decides _ _).0 (sym c.eq.ensures ∙ c.if-eq.true) in
    sym (number_of-decimal c.in-Ok.n c.args.text.now small printed)

pub returns-else-eq : goal.returns-else-eq
returns-else-eq c =
    let parsed = (rw c.in-Ok.is at c.parse.ensures.value.0) in
    let differs : decimal c.in-Ok.n ≢ c.args.text.now = λ same.
    let printed = (bytes_eq-Decides _ _).1 (c.format.ensures.text ∙ same) in
    let contrary : false ≡ true = sym c.if-eq.false ∙ c.eq.ensures ∙ printed in cc in
    sym (number_of-reprinted c.args.text.now c.in-Ok.n parsed differs)
