use Rattle.std.proofs.Common.{◌≡◌, inr, sym, ◌∙◌, ap}
use Rattle.std.proofs.lemmas.Result.{err_from_is_err_and}
use Rattle.pl_pcapng.specs.Cursor.{position_of}
use Rattle.pl_pcapng.specs.Reading.{block_in}
use Rattle.pl_pcapng.proofs.Tables.{row_from}
use Rattle.pl_pcapng.proofs.Walks.{read_as, whole, none, fault}
use Rattle.pl_pcapng.proofs.Cursors.{begins_within, goes_on, goes_closer}
use Rattle.pl_pcapng.proofs.sections.Sections.advance.Goals as goal

pub block-requires : goal.block-requires
block-requires c =
    begins_within c.args.file.now c.requires.0
    (position_of c.loop-block.self) (c.loop-block.invariant.read c.requires.0 c.requires.1)

pub returns-in_err-block : goal.returns-in_err-block
returns-in_err-block c =
    let p = err_from_is_err_and c.from_residual.result c.from_residual.ensures.1 in
    rw (p.1, p.2) (
      c.loop-block.invariant,
      inr (row_from c.args.file.now (position_of c.loop-block.self)
          (fault c.in_err-block.field-0.0) (sym c.in_err-block.ensures)),
    )

pub returns-in-Some-2 : goal.returns-in-Some-2
returns-in-Some-2 c =
    let is : block_in c.args.file.now (position_of c.loop-block.self) ≡ whole c.in-Some.block =
    sym c.in_ok-block.ensures ∙ ap read_as c.in-Some.is in (
      position_of c.loop-block.self,
      c.in-Some.block,
      c.loop-block.invariant,
      row_from c.args.file.now (position_of c.loop-block.self) (whole c.in-Some.block) is,
      sym c.in_ok-captured.ensures.record ∙ c.in-Some-2.is,
      c.in_ok-captured.ensures.passed,
    )

pub loop-block-smaller : goal.loop-block-smaller
loop-block-smaller c =
    let is : block_in c.args.file.now (position_of c.loop-block.self) ≡ whole c.in-Some.block =
    sym c.in_ok-block.ensures ∙ ap read_as c.in-Some.is in
    goes_closer c.args.file.now (position_of c.loop-block.self) (position_of c.pass.new.self)
    c.in-Some.block is c.in_ok-captured.ensures.passed

pub loop-block-preserved : goal.loop-block-preserved
loop-block-preserved c =
    let is : block_in c.args.file.now (position_of c.loop-block.self) ≡ whole c.in-Some.block =
    sym c.in_ok-block.ensures ∙ ap read_as c.in-Some.is in
    goes_on c.args.file.now (position_of c.args.self.now) (position_of c.loop-block.self) (position_of c.pass.new.self)
    c.in-Some.block c.loop-block.invariant is (sym c.in_ok-captured.ensures.record ∙ c.in_default-2.is) c.in_ok-captured.ensures.passed

pub returns : goal.returns
returns c =
    let is : block_in c.args.file.now (position_of c.loop-block.self) ≡ none =
    sym c.in_ok-block.ensures ∙ ap read_as c.in_default.is in
    (c.loop-block.invariant, row_from c.args.file.now (position_of c.loop-block.self) none is)
