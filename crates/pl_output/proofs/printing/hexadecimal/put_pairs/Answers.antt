use Rattle.std.proofs.Common.{[], ◌∷◌, ◌++◌, get_or, take, sym, ap, ◌∙◌, arith, length-set}
use Rattle.std.specs.List.{flat_map}
use Rattle.std.proofs.lemmas.List.{append-nil, take_more, take_more_set}
use Rattle.std.proofs.lemmas.List.Concat.{flat_map-append}
use Rattle.hex.specs.Hex.{encode_lower, lower_digits}
use Rattle.pl_journal.proofs.Exports.{encode_append}
use Rattle.pl_output.proofs.HexPrinting.{encode_none}
use Rattle.pl_output.proofs.printing.hexadecimal.put_pairs.Goals as goal

pub loop-i-init : goal.loop-i-init
loop-i-init c = record { so_far = sym encode_none; len = c.requires }

pub loop-i-preserved : goal.loop-i-preserved
loop-i-preserved c =
    let i = c.loop-i.i in
    let pairs = c.loop-i.pairs in
    let bytes = c.args.bytes.now in
    let pair = c.digits.result in
    record {
      so_far = ap (flat_map (λ p. p)) (take_more_set pairs i pair (omega (arith, c.loop-i-test.true, c.loop-i.invariant.len)))
          ∙ flat_map-append (λ p. p) (take i pairs) (pair ∷ [])
          ∙ ap (λ t. flat_map (λ p. p) (take i pairs) ++ t) (append-nil pair)
          ∙ ap (λ t. t ++ pair) c.loop-i.invariant.so_far
          ∙ ap (λ t. encode_lower (take i bytes) ++ t) c.digits.ensures.encoded
          ∙ sym (encode_append lower_digits (take i bytes) (get_or bytes i 0 ∷ []))
          ∙ sym (ap encode_lower (take_more bytes i 0 c.loop-i-test.true));
      len = length-set pairs i pair ∙ c.loop-i.invariant.len;
    }
