use Rattle.std.proofs.Common.{Some, sym, ap, ◌∙◌}
use Rattle.std.specs.Int.{from_be_bytes, w32}
use Rattle.pl_wiring.proofs.DottedNumbers.{dotted_read, not_dotted}
use Rattle.pl_wiring.proofs.text.dotted.Goals as goal

pub returns-in-Ok : goal.returns-in-Ok
returns-in-Ok c =
    ap (λ n. Some n) (c.from_be_bytes.ensures ∙ ap (from_be_bytes w32) c.octets.ensures)
    ∙ sym (dotted_read c.args.text.now c.in-Ok.address.octets c.in-Ok.ensures.value)

pub returns-in-Err : goal.returns-in-Err
returns-in-Err c = sym (not_dotted c.args.text.now c.in-Err.ensures.value)
