use Rattle.std.proofs.Common.{rules, ◌∙◌, sym}
use Rattle.std.proofs.lemmas.List.{length-map}
use Rattle.pl_inputs.specs.Loaded.{files_of}
use Rattle.pl_inputs.specs.Met.{asked}
use Rattle.pl_inputs.proofs.Gathering.{as_many, ungathered}
use Rattle.pl_inputs.proofs.loading.load_inputs.Goals as goal

-- src/loading.rt:45:20
pub returns-in_err-captures-clause-err : goal.returns-in_err-captures-clause-err
returns-in_err-captures-clause-err g c =
    let first = c.in_ok-wiring.ensures.same in
    let second = c.in_ok-script.ensures.same in
    let u = ungathered (g.S.Shelf.moment c.args.shelf.now).held (g.S.Shelf.moment c.load_wiring.new.shelf).held (g.S.Shelf.moment c.load_script.new.shelf).held first (λ q. second q ∙ first q) (asked c.args.files.now)
    c.in_ok-wiring.wiring c.in_ok-script.script c.in_ok-wiring.ensures.ok c.in_ok-script.ensures.ok c.in_err-captures.field-0.0 c.in_err-captures.ensures.err in
    search rules

-- src/loading.rt:39:5
pub invariant_of-result : goal.invariant_of-result
invariant_of-result g c =
    let plan = c.in_ok-wiring.wiring in
    let captures = c.in_ok-captures.captures.items in
    record {
      many = sym (length-map captures (λ x. x.bytes.items)) ∙ as_many (g.S.Shelf.moment c.load_script.new.shelf).held c.args.files.now.captures.now plan.hosts (files_of captures) c.in_ok-captures.ensures.ok;
    }
