-- What rewriting the addresses of a frame does to its bytes.
use Rattle.std.proofs.Common.{◌≡◌, ℕ, ◌+◌, ◌≤◌, Bool, true, false, not, cond, if◌then◌else◌, ◌==◌, nat_lt, List, [], ◌++◌, length, take, drop, Option, Some, None, is_some, Result, Ok, Err, refl, sym, ap, ◌∙◌, arith, append_assoc, length-append}
use Rattle.std.specs.Result.{result_ok}
use Rattle.std.specs.Str.{bytes_eq}
use Rattle.std.proofs.lemmas.Bool.{ltb-false}
use Rattle.std.proofs.lemmas.List.{take-append-drop, drop-drop, length-take-le, length-drop, take-append-le, drop-append-le}
use Rattle.byteorder.specs.Endian.{big_from, big_number}
use Rattle.byteorder.specs.Numbers.{big_from-take}
use Rattle.pl_lemmas.proofs.Exports.{next_part}
use Rattle.pl_frame.specs.declared.address.Mac.{Mac}
use Rattle.pl_frame.proofs.Exports.{front_of, rest_of}
use Rattle.pl_arp.specs.declared.packet.Arp.{Arp}
use Rattle.pl_arp.specs.declared.packet.ArpError.{ArpError}
use Rattle.pl_arp.specs.declared.packet.ArpError.TheVariants.{Cut, OtherKind}
use Rattle.pl_arp.specs.Packet.{arp_in, ethernet_ipv4, fields_at_front}
use Rattle.pl_layouts.specs.Frames.{HasSixBytes, is_arp, packet_in, put, put_if}

-- an address as bytes, or else these
abbrev pub bytes_or : Option Mac → List ℕ → List ℕ
bytes_or None bytes = bytes
bytes_or (Some mac) bytes = mac.0

pub length-bytes_or : (mac : Option Mac) (bytes : List ℕ) → HasSixBytes mac → length bytes ≡ 6 → length (bytes_or mac bytes) ≡ 6
length-bytes_or None bytes six long = long
length-bytes_or (Some mac) bytes six long = six

-- an address is put in place of the six bytes behind the first n
put_at : (mac : Option Mac) (n : ℕ) (front old rest : List ℕ) → length front ≡ n → length old ≡ 6 → HasSixBytes mac →
    put mac n (front ++ (old ++ rest)) ≡ front ++ (bytes_or mac old ++ rest)
put_at None n front old rest long six has = refl
put_at (Some mac) n front old rest long six has =
    let both : length (front ++ old) ≡ n + length mac.0 = omega (arith, length-append front old) in
    let behind = ap (drop (n + length mac.0)) (sym (append_assoc front old rest)) ∙ rest_of (n + length mac.0) (front ++ old) rest both in
    ap (λ r. take n (front ++ (old ++ rest)) ++ mac.0 ++ r) behind
    ∙ ap (λ f. f ++ mac.0 ++ rest) (front_of n front (old ++ rest) long)
    ∙ append_assoc front mac.0 rest

-- an address is put, or it is not
put_if_true : (mac : Option Mac) (at : ℕ) (bytes : List ℕ) → put_if true mac at bytes ≡ put mac at bytes
put_if_true None at bytes = refl
put_if_true (Some mac) at bytes = refl

put_if_false : (mac : Option Mac) (at : ℕ) (bytes : List ℕ) → put_if false mac at bytes ≡ bytes
put_if_false None at bytes = refl
put_if_false (Some mac) at bytes = refl

-- a frame whose packet can be read, in its parts
abbrev pub parts : List ℕ → List ℕ → List ℕ → List ℕ → List ℕ → List ℕ → List ℕ → List ℕ
parts dst src head sha spa tha rest = dst ++ (src ++ (head ++ (sha ++ (spa ++ (tha ++ rest)))))

-- what is put where, if the packet can be read
abbrev pub arriving_by : Bool → List ℕ → Option Mac → Option Mac → List ℕ
arriving_by readable frame src dst = put dst 0 (put src 6 (put_if readable src 22 (put_if readable dst 32 frame)))

pub record HasLengths (d s h sh sp th : List ℕ) : Type 0 where
  pub dst : length d ≡ 6
  pub src : length s ≡ 6
  pub head : length h ≡ 10
  pub sha : length sh ≡ 6
  pub spa : length sp ≡ 4
  pub tha : length th ≡ 6

pub arriving_parts : (dst src head sha spa tha rest : List ℕ) (from to : Option Mac) → HasLengths dst src head sha spa tha → HasSixBytes from → HasSixBytes to →
    arriving_by true (parts dst src head sha spa tha rest) from to
    ≡ parts (bytes_or to dst) (bytes_or from src) head (bytes_or from sha) spa (bytes_or to tha) rest
arriving_parts dst src head sha spa tha rest from to long six_from six_to =
    let tha' : List ℕ = bytes_or to tha in
    let sha' : List ℕ = bytes_or from sha in
    let src' : List ℕ = bytes_or from src in
    let to_sha : List ℕ = dst ++ (src ++ head) in
    let to_tha : List ℕ = dst ++ (src ++ (head ++ (sha ++ spa))) in
    let n_sha : length to_sha ≡ 22 = omega (arith, length-append dst (src ++ head), length-append src head, long.dst, long.src, long.head) in
    let n_tha : length to_tha ≡ 32 =
    omega (
      arith,
      length-append dst (src ++ (head ++ (sha ++ spa))),
      length-append src (head ++ (sha ++ spa)),
      length-append head (sha ++ spa),
      length-append sha spa,
      long.dst,
      long.src,
      long.head,
      long.sha,
      long.spa,
    ) in
    let group_tha : (x : List ℕ) → parts dst src head sha spa x rest ≡ to_tha ++ (x ++ rest) = λ x. simp append_assoc in
    let group_sha : (x : List ℕ) → parts dst src head x spa tha' rest ≡ to_sha ++ (x ++ (spa ++ (tha' ++ rest))) = λ x. simp append_assoc in
    let one : put_if true to 32 (parts dst src head sha spa tha rest) ≡ parts dst src head sha spa tha' rest =
    put_if_true to 32 (parts dst src head sha spa tha rest) ∙ ap (put to 32) (group_tha tha) ∙ put_at to 32 to_tha tha rest n_tha long.tha six_to ∙ sym (group_tha tha') in
    let two : put_if true from 22 (parts dst src head sha spa tha' rest) ≡ parts dst src head sha' spa tha' rest =
    put_if_true from 22 (parts dst src head sha spa tha' rest) ∙ ap (put from 22) (group_sha sha) ∙ put_at from 22 to_sha sha (spa ++ (tha' ++ rest)) n_sha long.sha six_from ∙ sym (group_sha sha') in
    let three = put_at from 6 dst src (head ++ (sha' ++ (spa ++ (tha' ++ rest)))) long.dst long.src six_from in
    let four = put_at to 0 [] dst (src' ++ (head ++ (sha' ++ (spa ++ (tha' ++ rest))))) refl long.dst six_to in
    ap (λ f. put to 0 (put from 6 (put_if true from 22 f))) one ∙ ap (λ f. put to 0 (put from 6 f)) two ∙ ap (put to 0) three ∙ four

-- a frame in two addresses and what follows
pub unreadable_parts : (dst src rest : List ℕ) (from to : Option Mac) → length dst ≡ 6 → length src ≡ 6 → HasSixBytes from → HasSixBytes to →
    arriving_by false (dst ++ (src ++ rest)) from to ≡ bytes_or to dst ++ (bytes_or from src ++ rest)
unreadable_parts dst src rest from to six_dst six_src six_from six_to =
    let frame : List ℕ = dst ++ (src ++ rest) in
    ap (λ f. put to 0 (put from 6 (put_if false from 22 f))) (put_if_false to 32 frame) ∙ ap (λ f. put to 0 (put from 6 f)) (put_if_false from 22 frame)
    ∙ ap (put to 0) (put_at from 6 dst src rest six_dst six_src six_from) ∙ put_at to 0 [] dst (bytes_or from src ++ rest) refl six_dst six_to

-- a frame in its parts
abbrev pub dst_in : List ℕ → List ℕ
dst_in frame = take 6 frame

abbrev pub src_in : List ℕ → List ℕ
src_in frame = take 6 (drop 6 frame)

abbrev pub head_in : List ℕ → List ℕ
head_in frame = take 10 (drop 12 frame)

abbrev pub sha_in : List ℕ → List ℕ
sha_in frame = take 6 (drop 22 frame)

abbrev pub spa_in : List ℕ → List ℕ
spa_in frame = take 4 (drop 28 frame)

abbrev pub tha_in : List ℕ → List ℕ
tha_in frame = take 6 (drop 32 frame)

pub in_two : (frame : List ℕ) → frame ≡ dst_in frame ++ (src_in frame ++ drop 12 frame)
in_two frame = sym (take-append-drop 6 frame) ∙ ap (λ r. take 6 frame ++ r) (next_part 6 6 frame)

pub in_parts : (frame : List ℕ) → frame ≡ parts (dst_in frame) (src_in frame) (head_in frame) (sha_in frame) (spa_in frame) (tha_in frame) (drop 38 frame)
in_parts frame =
    let at_tha = next_part 6 32 frame in
    let at_spa = next_part 4 28 frame ∙ ap (λ r. spa_in frame ++ r) at_tha in
    let at_sha = next_part 6 22 frame ∙ ap (λ r. sha_in frame ++ r) at_spa in
    let at_head = next_part 10 12 frame ∙ ap (λ r. head_in frame ++ r) at_sha in
    in_two frame ∙ ap (λ r. dst_in frame ++ (src_in frame ++ r)) at_head

piece : (n at : ℕ) (p : List ℕ) → at + n ≤ length p → length (take n (drop at p)) ≡ n
piece n at p long = length-take-le n (drop at p) (omega (arith, length-drop at p))

pub lengths_in : (frame : List ℕ) → 38 ≤ length frame → HasLengths (dst_in frame) (src_in frame) (head_in frame) (sha_in frame) (spa_in frame) (tha_in frame)
lengths_in frame long = record {
  dst = length-take-le 6 frame (omega arith);
  src = piece 6 6 frame (omega arith);
  head = piece 10 12 frame (omega arith);
  sha = piece 6 22 frame (omega arith);
  spa = piece 4 28 frame (omega arith);
  tha = piece 6 32 frame (omega arith);
}

-- the packet behind both addresses
abbrev pub packet_behind : List ℕ → Option Arp
packet_behind rest = if big_number 2 rest == 0x0806 then result_ok (arp_in (drop 2 rest)) else None

pub packet_in-behind : (frame : List ℕ) → packet_in frame ≡ packet_behind (drop 12 frame)
packet_in-behind frame = ap (λ p. cond (big_number 2 (drop 12 frame) == 0x0806) (result_ok (arp_in p)) None) (sym (drop-drop 2 12 frame))

-- a packet that is read is long enough
long_enough : (kind short : Bool) (e : ArpError) (r : Result Arp ArpError) → is_some (cond kind (result_ok (cond short (Err e) r)) None) ≡ true → short ≡ false
long_enough true true e r some = absurd (cc)
long_enough true false e r some = refl
long_enough false short e r some = absurd (cc)

pub long_frame : (frame : List ℕ) → is_some (packet_in frame) ≡ true → 42 ≤ length frame
long_frame frame some =
    let payload : List ℕ = drop 14 frame in
    let r : Result Arp ArpError = if not (bytes_eq (take 6 payload) ethernet_ipv4) then Err OtherKind else Ok (fields_at_front payload) in
    let long = ltb-false (length payload) 28 (long_enough (is_arp frame) (nat_lt (length payload) 28) Cut r some) in
    omega (arith, length-drop 14 frame)

abbrev pub mac : List ℕ → Mac
mac bytes = record { 0 = bytes }

abbrev pub packet : ℕ → List ℕ → ℕ → List ℕ → ℕ → Arp
packet op sha spa tha tpa = record { op = op; sha = mac sha; spa = record { 0 = spa }; tha = mac tha; tpa = record { 0 = tpa } }

-- a number in bytes that others follow
pub number_in_front : (n : ℕ) (xs ys : List ℕ) → n ≤ length xs → big_number n (xs ++ ys) ≡ big_number n xs
number_in_front n xs ys long =
    sym (big_from-take 0 n n (xs ++ ys) (omega arith)) ∙ ap (big_from 0 n) (take-append-le n xs ys long) ∙ big_from-take 0 n n xs (omega arith)

-- the fields of a packet in its parts: eight bytes, the sender's addresses, the target's hardware address, and what follows
pub fields_of_parts : (head sha spa tha rest : List ℕ) → length head ≡ 8 → length sha ≡ 6 → length spa ≡ 4 → length tha ≡ 6 →
    fields_at_front (head ++ (sha ++ (spa ++ (tha ++ rest)))) ≡ packet (big_number 2 (drop 6 head)) sha (big_number 4 spa) tha (big_number 4 rest)
fields_of_parts head sha spa tha rest n_head n_sha n_spa n_tha =
    let at_spa : List ℕ = spa ++ (tha ++ rest) in
    let at_sha : List ℕ = sha ++ at_spa in
    let whole : List ℕ = head ++ at_sha in
    let d8 : drop 8 whole ≡ at_sha = rest_of 8 head at_sha n_head in
    let d14 : drop 14 whole ≡ at_spa = sym (drop-drop 6 8 whole) ∙ ap (drop 6) d8 ∙ rest_of 6 sha at_spa n_sha in
    let d18 : drop 18 whole ≡ tha ++ rest = sym (drop-drop 4 14 whole) ∙ ap (drop 4) d14 ∙ rest_of 4 spa (tha ++ rest) n_spa in
    let d24 : drop 24 whole ≡ rest = sym (drop-drop 6 18 whole) ∙ ap (drop 6) d18 ∙ rest_of 6 tha rest n_tha in
    let six_of_eight : 6 ≤ length head = omega arith in
    let two : 2 ≤ length (drop 6 head) = omega (arith, length-drop 6 head) in
    let op : big_number 2 (drop 6 whole) ≡ big_number 2 (drop 6 head) =
    ap (big_number 2) (drop-append-le 6 head at_sha six_of_eight) ∙ number_in_front 2 (drop 6 head) at_sha two in
    let sha_is : take 6 (drop 8 whole) ≡ sha = ap (take 6) d8 ∙ front_of 6 sha at_spa n_sha in
    let spa_is : big_number 4 (drop 14 whole) ≡ big_number 4 spa = ap (big_number 4) d14 ∙ number_in_front 4 spa (tha ++ rest) (omega arith) in
    let tha_is : take 6 (drop 18 whole) ≡ tha = ap (take 6) d18 ∙ front_of 6 tha rest n_tha in
    let tpa_is : big_number 4 (drop 24 whole) ≡ big_number 4 rest = ap (big_number 4) d24 in
    ap (λ n. packet n (take 6 (drop 8 whole)) (big_number 4 (drop 14 whole)) (take 6 (drop 18 whole)) (big_number 4 (drop 24 whole))) op
    ∙ ap (λ s. packet (big_number 2 (drop 6 head)) s (big_number 4 (drop 14 whole)) (take 6 (drop 18 whole)) (big_number 4 (drop 24 whole))) sha_is
    ∙ ap (λ n. packet (big_number 2 (drop 6 head)) sha n (take 6 (drop 18 whole)) (big_number 4 (drop 24 whole))) spa_is
    ∙ ap (λ t. packet (big_number 2 (drop 6 head)) sha (big_number 4 spa) t (big_number 4 (drop 24 whole))) tha_is
    ∙ ap (λ n. packet (big_number 2 (drop 6 head)) sha (big_number 4 spa) tha n) tpa_is
