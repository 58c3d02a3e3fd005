use Rattle.std.proofs.Common.{Ok, Err, arith, subst}
use Rattle.pl_verdict.proofs.Exports.{bad_line_fits, illegal_fits}
use Rattle.pl_verdict.specs.Verdicts.{Says}
use Rattle.pl_verdict.specs.declared.verdict.Verdict.{Verdict}
use Rattle.pl_verdict.specs.declared.verdict.VerifyError.{VerifyError}
use Rattle.pl_run.proofs.verify.legal_entries.Goals as goal

pub overflow_cast-result : goal.overflow_cast-result
overflow_cast-result c =
    let w = c.args.wiring.now in
    let t = c.args.text.now in
    let is = subst (λ (v : Verdict). Says w t (Ok v)) c.in-Ok-Illegal.field-0-is (subst (λ r. Says w t r) c.in-Ok-Illegal.is c.verify.ensures) in
    let few = illegal_fits w t c.in-Ok-Illegal.entry is in
    omega (arith, few, c.requires)

pub overflow_cast-result-in-Err-BadLine : goal.overflow_cast-result-in-Err-BadLine
overflow_cast-result-in-Err-BadLine c =
    let w = c.args.wiring.now in
    let t = c.args.text.now in
    let is = subst (λ (e : VerifyError). Says w t (Err e)) c.in-Err-BadLine.field-0-is (subst (λ r. Says w t r) c.in-Err-BadLine.is c.verify.ensures) in
    let few = bad_line_fits w t c.in-Err-BadLine.line is in
    omega (arith, few, c.requires)
