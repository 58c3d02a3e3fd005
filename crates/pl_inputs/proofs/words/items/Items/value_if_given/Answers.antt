use Rattle.std.proofs.Common.{rules, ◌≡◌, true, false, ap, ◌∙◌}
use Rattle.std.specs.Option.{is_some, option_copied, option_map}
use Rattle.std.specs.Str.{bytes_eq}
use Rattle.pl_inputs.specs.Met.{given, texts}
use Rattle.pl_inputs.proofs.ItemLemmas.{ends, ends_in_none, finds, finds_again, passes_by}
use Rattle.pl_inputs.proofs.words.items.Items.value_if_given.Goals as goal
use Rattle.pl_inputs.proofs.words.items.Items.value_if_given.Goals.{then-eq+else-is_some, else-eq}

pub returns-in_err-item : goal.returns-in_err-item
returns-in_err-item c =
    ap (option_map option_copied) c.from_residual.ensures
    ∙ ends_in_none c.args.name.now (texts c.args.self.now.names.now) c.args.self.now.words.now c.loop-at.at c.loop-at.found _ c.loop-at.invariant
    c.loop-at-test.true c.in_err-item.ensures.none

pub returns-then-is_some : goal.returns-then-is_some
returns-then-is_some c =
    let item = c.in_ok-item.item in
    let same : bytes_eq item.name.now c.args.name.now ≡ true = search rules in
    let second : is_some c.loop-at.found ≡ true = search rules in
    finds_again c.args.name.now (texts c.args.self.now.names.now) c.args.self.now.words.now c.loop-at.at c.loop-at.found _ c.loop-at.invariant
    (given item) item.words c.in_ok-item.ensures.found same second

pub loop-at-preserved : goal.loop-at-preserved
loop-at-preserved c =
    let item = c.in_ok-item.item in
    let names = texts c.args.self.now.names.now in
    let words = c.args.self.now.words.now in
    elim c.if-eq.branch [
      | then-eq+else-is_some w ↦
          let same : bytes_eq item.name.now c.args.name.now ≡ true = search rules in
          let first : is_some c.loop-at.found ≡ false = search rules in
          rw w.found-is
          (finds c.args.name.now names words c.loop-at.at c.loop-at.found _ c.loop-at.invariant (given item) item.words c.in_ok-item.ensures.found same first)
      | else-eq w ↦
          let other : bytes_eq item.name.now c.args.name.now ≡ false = search rules in
          rw w.found-is
          (passes_by c.args.name.now names words c.loop-at.at c.loop-at.found _ c.loop-at.invariant (given item) item.words c.in_ok-item.ensures.found other)
    ]

pub returns : goal.returns
returns c = ends c.args.name.now (texts c.args.self.now.names.now) c.args.self.now.words.now c.loop-at.at c.loop-at.found _ c.loop-at.invariant c.loop-at-test.false
