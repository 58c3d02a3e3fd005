use Rattle.std.proofs.Common.{rules, arith}
use Rattle.pl_layouts.specs.Control.{control_in}
use Rattle.pl_ldp.proofs.Refusals.{bad_field-ldm, bad_field-vote}
use Rattle.pl_ldp.proofs.Spelled.{IsWritableControl-control_in}
use Rattle.pl_ldp.proofs.read.read_control.Goals as goal

pub returns-in-1-clause-writable : goal.returns-in-1-clause-writable
unfolding control_in
returns-in-1-clause-writable c =
    IsWritableControl-control_in c.args.payload.now c.read_ldm.result (λ i. omega (arith, c.type_inv.payload i)) (search rules)

pub returns-in-2-clause-writable : goal.returns-in-2-clause-writable
unfolding control_in
returns-in-2-clause-writable c =
    IsWritableControl-control_in c.args.payload.now c.read_proposal.result (λ i. omega (arith, c.type_inv.payload i)) (search rules)

pub returns-in-3-clause-writable : goal.returns-in-3-clause-writable
unfolding control_in
returns-in-3-clause-writable c =
    IsWritableControl-control_in c.args.payload.now c.read_vote.result (λ i. omega (arith, c.type_inv.payload i)) (search rules)

pub returns-in-1-clause-bad_field : goal.returns-in-1-clause-bad_field
returns-in-1-clause-bad_field c = bad_field-ldm _ _ c.if-payload-ne-VERSION.false c.in-1.is c.read_ldm.ensures

pub returns-in-3-clause-bad_field : goal.returns-in-3-clause-bad_field
returns-in-3-clause-bad_field c = bad_field-vote _ _ c.if-payload-ne-VERSION.false c.in-3.is c.read_vote.ensures
