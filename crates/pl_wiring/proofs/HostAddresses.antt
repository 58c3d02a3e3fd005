-- The addresses that a topology file gives hosts are those of one host.
use Rattle.std.proofs.Common.{◌≡◌, ℕ, ◌%◌, ◌<◌, ◌==◌, ◌||◌, ◌&&◌, ltb, List, [], ◌∷◌, length, slice_index, Some, sym, ap, ◌∙◌, subst, arith}
use Rattle.std.specs.Str.{bytes_eq}
use Rattle.std.proofs.lemmas.Bool.{and_parts, false≢true, ltb-true, eq-eqb, or_parts}
use Rattle.std.proofs.lemmas.Slice.Eq.{bytes_eq-Decides}
use Rattle.std.proofs.lemmas.Option.{cond_some}
use Rattle.pl_lemmas.proofs.Exports.{and_then_some, option_map_some}
use Rattle.pl_frame.specs.declared.address.Mac.{Mac}
use Rattle.pl_frame.specs.declared.address.Ip4.{Ip4}
use Rattle.pl_wiring.specs.Plan.{IsHostMac, IsHostIp}
use Rattle.pl_wiring.specs.Texts.{hex_at, ip_number, ip_of_text, mac_bytes, mac_of_text}
use Rattle.pl_wiring.proofs.Choices.{some_unless, where_true}

mac_bytes-six : (text bytes : List ℕ) → mac_bytes text ≡ Some bytes → length bytes ≡ 6
mac_bytes-six text bytes is =
    let r0 = where_true _ _ bytes is in
    let (b0, is0, r1) = and_then_some _ (hex_at text 0) bytes r0 in
    let (b1, is1, r2) = and_then_some _ (hex_at text 3) bytes r1 in
    let (b2, is2, r3) = and_then_some _ (hex_at text 6) bytes r2 in
    let (b3, is3, r4) = and_then_some _ (hex_at text 9) bytes r3 in
    let (b4, is4, r5) = and_then_some _ (hex_at text 12) bytes r4 in
    let (b5, is5, same) = option_map_some _ (hex_at text 15) bytes r5 in
    ap length (sym same)

pub mac_of_text-one : (text : List ℕ) (mac : Mac) → mac_of_text text ≡ Some mac → IsHostMac mac
mac_of_text-one text mac is =
    let (bytes, read, made) = and_then_some _ (mac_bytes text) mac is in
    let zeros = 0 ∷ 0 ∷ 0 ∷ 0 ∷ 0 ∷ 0 ∷ [] in
    let (tests, same) = some_unless (slice_index bytes 0 % 2 == 1 || bytes_eq bytes zeros) (record { 0 = bytes }) mac made in
    let (odd, zero) = or_parts (slice_index bytes 0 % 2 == 1) (bytes_eq bytes zeros) tests in
    subst IsHostMac same (record {
      six_bytes = mac_bytes-six text bytes read;
      no_group = λ group. false≢true (sym odd ∙ eq-eqb (slice_index bytes 0 % 2) 1 group);
      not_zero = λ e. false≢true (sym zero ∙ (bytes_eq-Decides bytes zeros).1 e);
    })

pub ip_of_text-one : (text : List ℕ) (ip : Ip4) → ip_of_text text ≡ Some ip → IsHostIp ip
ip_of_text-one text ip is =
    let (n, read, made) = and_then_some _ (ip_number text) ip is in
    let (tests, same) = cond_some (ltb 0 n && ltb n 0xe0000000) (record { 0 = n }) ip made in
    let (low, high) = and_parts (ltb 0 n) (ltb n 0xe0000000) tests in
    let above : 0 < n = ltb-true 0 n low in
    let below : n < 0xe0000000 = ltb-true n 0xe0000000 high in
    subst IsHostIp same (record { not_zero = λ e. absurd (omega arith); no_group = omega arith })
