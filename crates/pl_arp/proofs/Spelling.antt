-- A packet and its bytes determine each other.
use Rattle.std.proofs.Common.{◌≡◌, ℕ, ◌+◌, ◌≤◌, Bool, true, false, not, cond, nat_lt, List, ◌++◌, length, take, drop, Result, Ok, Err, refl, sym, ap, ◌∙◌, subst, arith, append_assoc, length-append}
use Rattle.std.specs.Str.{bytes_eq}
use Rattle.std.proofs.lemmas.Bool.{ltb-false, le-ltb, not-false}
use Rattle.std.proofs.lemmas.Slice.Eq.{bytes_eq-Decides}
use Rattle.std.proofs.lemmas.List.{take-append-drop, drop-drop, length-take-le, length-drop}
use Rattle.byteorder.specs.Endian.{big_number, big_bytes}
use Rattle.byteorder.specs.Numbers.{big_from-lt, big_number-reads_back}
use Rattle.pl_lemmas.proofs.Exports.{next_part}
use Rattle.pl_frame.proofs.Exports.{big_bytes-big_number_front, bytes-drop, front_of, IsBytes, rest_of}
use Rattle.pl_arp.specs.declared.packet.Arp.{Arp}
use Rattle.pl_arp.specs.declared.packet.ArpError.{ArpError}
use Rattle.pl_arp.specs.declared.packet.ArpError.TheVariants.{Cut, OtherKind}
use Rattle.pl_arp.specs.Packet.{ArpFits, arp_in, ethernet_ipv4, fields_at_front, layout}

abbrev packet : ℕ → List ℕ → ℕ → List ℕ → ℕ → Arp
packet op sha spa tha tpa =
    record { op = op; sha = record { 0 = sha }; spa = record { 0 = spa }; tha = record { 0 = tha }; tpa = record { 0 = tpa } }

-- where the payload is long enough and of the kind, it has a packet
arp_in-whole : (payload : List ℕ) → 28 ≤ length payload → take 6 payload ≡ ethernet_ipv4 → arp_in payload ≡ Ok (fields_at_front payload)
arp_in-whole payload long kind =
    let whole = le-ltb (length payload) 28 long in
    rw (whole, kind) refl

-- the packet's parts, and what follows them
parts_are_read : (a : Arp) (rest : List ℕ) → ArpFits a →
    fields_at_front (ethernet_ipv4 ++ (big_bytes 2 a.op ++ (a.sha.0 ++ (big_bytes 4 a.spa.0 ++ (a.tha.0 ++ (big_bytes 4 a.tpa.0 ++ rest)))))) ≡ a
parts_are_read a rest fits =
    let after_tha : List ℕ = big_bytes 4 a.tpa.0 ++ rest in
    let after_spa : List ℕ = a.tha.0 ++ after_tha in
    let after_sha : List ℕ = big_bytes 4 a.spa.0 ++ after_spa in
    let after_op : List ℕ = a.sha.0 ++ after_sha in
    let op = big_number-reads_back 2 a.op after_op fits.op in
    let sha = front_of 6 a.sha.0 after_sha fits.sha in
    let sender : drop 6 after_op ≡ after_sha = rest_of 6 a.sha.0 after_sha fits.sha in
    let spa = ap (big_number 4) sender ∙ big_number-reads_back 4 a.spa.0 after_spa fits.spa in
    let target : drop 10 after_op ≡ after_spa = sym (drop-drop 4 6 after_op) ∙ ap (drop 4) sender in
    let tha = ap (take 6) target ∙ front_of 6 a.tha.0 after_tha fits.tha in
    let last : drop 16 after_op ≡ after_tha = sym (drop-drop 6 10 after_op) ∙ ap (drop 6) target ∙ rest_of 6 a.tha.0 after_tha fits.tha in
    let tpa = ap (big_number 4) last ∙ big_number-reads_back 4 a.tpa.0 rest fits.tpa in
    ap (λ n. packet n (take 6 after_op) (big_number 4 (drop 6 after_op)) (take 6 (drop 10 after_op)) (big_number 4 (drop 16 after_op))) op
    ∙ ap (λ s. packet a.op s (big_number 4 (drop 6 after_op)) (take 6 (drop 10 after_op)) (big_number 4 (drop 16 after_op))) sha
    ∙ ap (λ n. packet a.op a.sha.0 n (take 6 (drop 10 after_op)) (big_number 4 (drop 16 after_op))) spa
    ∙ ap (λ t. packet a.op a.sha.0 a.spa.0 t (big_number 4 (drop 16 after_op))) tha
    ∙ ap (λ n. packet a.op a.sha.0 a.spa.0 a.tha.0 n) tpa

grouped : (a : Arp) (rest : List ℕ) →
    layout a ++ rest ≡ ethernet_ipv4 ++ (big_bytes 2 a.op ++ (a.sha.0 ++ (big_bytes 4 a.spa.0 ++ (a.tha.0 ++ (big_bytes 4 a.tpa.0 ++ rest)))))
grouped a rest = simp append_assoc

-- what is spelled is read
pub arp_in-layout : (a : Arp) (rest : List ℕ) → ArpFits a → arp_in (layout a ++ rest) ≡ Ok a
arp_in-layout a rest fits =
    let spelled : List ℕ = ethernet_ipv4 ++ (big_bytes 2 a.op ++ (a.sha.0 ++ (big_bytes 4 a.spa.0 ++ (a.tha.0 ++ (big_bytes 4 a.tpa.0 ++ rest))))) in
    let sender = length-append a.sha.0 (big_bytes 4 a.spa.0 ++ (a.tha.0 ++ (big_bytes 4 a.tpa.0 ++ rest))) in
    let target = length-append a.tha.0 (big_bytes 4 a.tpa.0 ++ rest) in
    let long : 28 ≤ length spelled = omega (arith, sender, target, fits.sha, fits.tha) in
    ap arp_in (grouped a rest) ∙ arp_in-whole spelled long refl ∙ ap (λ p. Ok p) (parts_are_read a rest fits)

-- which way an `if` went
chosen : {E X : Type 0} (b : Bool) (e : E) (r : Result X E) (x : X) → cond b (Err e) r ≡ Ok x → (b ≡ false) × (r ≡ Ok x)
chosen true e r x h = absurd (cc)
chosen false e r x h = (refl, h)

abbrev got : Arp → Result Arp ArpError
got a = Ok a

same_packet : (x y : Arp) → got x ≡ got y → x ≡ y
same_packet x y h = cc

same_bytes : (xs ys : List ℕ) → not (bytes_eq xs ys) ≡ false → xs ≡ ys
same_bytes xs ys h = (bytes_eq-Decides xs ys).0 (not-false (bytes_eq xs ys) h)

-- the fields are within their types
fields_fit : (p : List ℕ) → 28 ≤ length p → IsBytes p → ArpFits (fields_at_front p)
fields_fit p long small = record {
  op = big_from-lt 0 2 (drop 6 p) (bytes-drop 6 p small);
  sha = length-take-le 6 (drop 8 p) (omega (arith, length-drop 8 p));
  spa = big_from-lt 0 4 (drop 14 p) (bytes-drop 14 p small);
  tha = length-take-le 6 (drop 18 p) (omega (arith, length-drop 18 p));
  tpa = big_from-lt 0 4 (drop 24 p) (bytes-drop 24 p small);
}

-- the payload is the packet's bytes and the rest
payload_is : (p : List ℕ) → 28 ≤ length p → IsBytes p → take 6 p ≡ ethernet_ipv4 →
    p ≡ layout (fields_at_front p) ++ drop 28 p
payload_is p long small kind =
    let op = big_bytes-big_number_front 2 (drop 6 p) (omega (arith, length-drop 6 p)) (bytes-drop 6 p small) in
    let spa = big_bytes-big_number_front 4 (drop 14 p) (omega (arith, length-drop 14 p)) (bytes-drop 14 p small) in
    let tpa = big_bytes-big_number_front 4 (drop 24 p) (omega (arith, length-drop 24 p)) (bytes-drop 24 p small) in
    let at_tpa = next_part 4 24 p ∙ ap (λ b. b ++ drop 28 p) (sym tpa) in
    let at_tha = next_part 6 18 p ∙ ap (λ r. take 6 (drop 18 p) ++ r) at_tpa in
    let at_spa = next_part 4 14 p ∙ ap (λ b. b ++ drop 18 p) (sym spa) ∙ ap (λ r. big_bytes 4 (big_number 4 (drop 14 p)) ++ r) at_tha in
    let at_sha = next_part 6 8 p ∙ ap (λ r. take 6 (drop 8 p) ++ r) at_spa in
    let at_op = next_part 2 6 p ∙ ap (λ b. b ++ drop 8 p) (sym op) ∙ ap (λ r. big_bytes 2 (big_number 2 (drop 6 p)) ++ r) at_sha in
    sym (take-append-drop 6 p) ∙ ap (λ k. k ++ drop 6 p) kind ∙ ap (λ r. ethernet_ipv4 ++ r) at_op
    ∙ sym (grouped (fields_at_front p) (drop 28 p))

-- what is read is spelled so
pub layout-arp_in : (payload : List ℕ) (a : Arp) → IsBytes payload → arp_in payload ≡ Ok a → ArpFits a × (payload ≡ layout a ++ drop 28 payload)
layout-arp_in payload a small h =
    let found : Result Arp ArpError = Ok (fields_at_front payload) in
    let other : Bool = not (bytes_eq (take 6 payload) ethernet_ipv4) in
    let whole = chosen (nat_lt (length payload) 28) Cut (cond other (Err OtherKind) found) a h in
    let known = chosen other OtherKind found a whole.1 in
    let long = ltb-false (length payload) 28 whole.0 in
    let kind = same_bytes (take 6 payload) ethernet_ipv4 known.0 in
    let same = same_packet (fields_at_front payload) a known.1 in
    let P : Arp → Type 0 = λ b. ArpFits b × (payload ≡ layout b ++ drop 28 payload) in
    subst P same (fields_fit payload long small, payload_is payload long small kind)
