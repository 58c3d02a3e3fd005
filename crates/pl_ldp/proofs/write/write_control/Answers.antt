-- The head, the payload, and what lies behind both.
use Rattle.std.proofs.Common.{◌≡◌, ℕ, ◌+◌, List, ◌∷◌, ◌++◌, length, take, drop, ap, ◌∙◌, arith}
use Rattle.std.proofs.lemmas.List.{drop-drop}
use Rattle.byteorder.specs.Endian.{big_bytes}
use Rattle.pl_frame.specs.declared.address.SwitchId.{SwitchId}
use Rattle.pl_frame.proofs.Exports.{front_of, rest_of}
use Rattle.pl_layouts.specs.declared.control.Control.{Control}
use Rattle.pl_layouts.specs.Control.{control_bytes, control_frame, sender_of}
use Rattle.pl_ldp.proofs.write.write_control.Goals as goal

abbrev head_of : SwitchId → List ℕ
head_of id = 3 ∷ 0x50 ∷ 0x4c ∷ 0 ∷ 0 ∷ 1 ∷ (big_bytes 6 id.0 ++ big_bytes 2 0x88b5)

joined : (control : Control) (id : SwitchId) (head payload rest old : List ℕ) (n : ℕ) →
    id ≡ sender_of control → head ≡ head_of id → payload ≡ control_bytes control ++ drop n rest → rest ≡ drop 14 old →
    head ++ payload ≡ control_frame control ++ drop (14 + n) old
unfolding control_frame
joined control id head payload rest old n sender h p r =
    ap (λ (bytes : List ℕ). bytes ++ payload) (h ∙ ap head_of sender)
    ∙ ap (λ (bytes : List ℕ). head_of (sender_of control) ++ bytes) (p ∙ ap (λ (behind : List ℕ). control_bytes control ++ behind) (ap (drop n) r ∙ drop-drop n 14 old))

pub returns-clause-frame : goal.returns-clause-frame
unfolding control_frame
returns-clause-frame c =
    let control : Control = c.args.control.now in
    let n : ℕ = c.write_payload.result in
    let old : List ℕ = c.args.to.now in
    let whole = joined control c.sender_of.result _ _ _ old n c.sender_of.ensures c.write_head.ensures c.write_payload.ensures.bytes c.split_at_mut-head.ensures.back in
    let long : length (control_frame control) ≡ 14 + n = omega (arith, c.write_payload.ensures.length) in
    ap (take (14 + n)) whole ∙ front_of (14 + n) (control_frame control) (drop (14 + n) old) long

pub returns-clause-behind : goal.returns-clause-behind
unfolding control_frame
returns-clause-behind c =
    let control : Control = c.args.control.now in
    let n : ℕ = c.write_payload.result in
    let old : List ℕ = c.args.to.now in
    let whole = joined control c.sender_of.result _ _ _ old n c.sender_of.ensures c.write_head.ensures c.write_payload.ensures.bytes c.split_at_mut-head.ensures.back in
    let long : length (control_frame control) ≡ 14 + n = omega (arith, c.write_payload.ensures.length) in
    ap (drop (14 + n)) whole ∙ rest_of (14 + n) (control_frame control) (drop (14 + n) old) long
