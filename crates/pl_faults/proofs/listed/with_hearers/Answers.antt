use Rattle.std.proofs.Common.{◌∙◌, ◌∷◌, [], ap, get_or, sym}
use Rattle.std.specs.Prelude.{fold}
use Rattle.std.proofs.lemmas.List.{take_all}
use Rattle.std.proofs.lemmas.List.Sums.{fold_more}
use Rattle.pl_frame.specs.declared.address.SwitchId.{SwitchId}
use Rattle.pl_faults.specs.Listed.{with_told}
use Rattle.pl_faults.proofs.listed.with_hearers.Goals as goal

pub loop-hearer-preserved : goal.loop-hearer-preserved
loop-hearer-preserved c =
    let step = with_told c.args.reports.now in let ts = c.hearers_of-hearer-items.result.now in let i = c.loop-hearer.hearer-index in
    let d : SwitchId = record { 0 = 0 } in let t = get_or ts i d in
    c.in_ok-put_told.ensures ∙ ap (λ list. step list t) c.loop-hearer.invariant ∙ sym (fold_more step (c.args.switch ∷ []) ts i d c.loop-hearer-test.true)

pub returns : goal.returns
returns c =
    let ts = c.hearers_of-hearer-items.result.now in
    c.loop-hearer.invariant
    ∙ ap (fold (with_told c.args.reports.now) (c.args.switch ∷ [])) (take_all c.loop-hearer.hearer-index ts c.loop-hearer-test.false ∙ c.hearers_of-hearer-items.ensures)
