-- The fields of a frame that is put together of its parts.
use Rattle.std.proofs.Common.{◌≡◌, ℕ, ◌+◌, ◌^◌, ◌<◌, ◌≤◌, List, ◌++◌, length, take, drop, sym, ap, ◌∙◌, arith, append_assoc, length-append}
use Rattle.std.proofs.lemmas.List.{take-append-drop, drop-drop, length-take-le, length-drop}
use Rattle.std.proofs.Math.Seq.{take-append_seam, drop-append_seam, drop-append-add}
use Rattle.byteorder.specs.Endian.{big_number, big_bytes}
use Rattle.byteorder.specs.Numbers.{big_number-reads_back, length-bytes_high_first}
use Rattle.pl_frame.proofs.Numbers.{IsBytes, bytes-drop, big_bytes-big_number_front}
use Rattle.pl_frame.specs.declared.address.Mac.{Mac}
use Rattle.pl_frame.specs.Ethernet.{Fields, fields_of, frame_of, source_of, kind_of, payload_of, with_source, with_destination}

pub front_of : (n : ℕ) (xs ys : List ℕ) → length xs ≡ n → take n (xs ++ ys) ≡ xs
front_of n xs ys h = rw (← h) (take-append_seam xs ys)

pub rest_of : (n : ℕ) (xs ys : List ℕ) → length xs ≡ n → drop n (xs ++ ys) ≡ ys
rest_of n xs ys h = rw (← h) (drop-append_seam xs ys)

abbrev mac : List ℕ → Mac
mac bytes = record { 0 = bytes }

abbrev made : Mac → Mac → ℕ → List ℕ → Fields
made dst src kind payload = record { dst = dst; src = src; kind = kind; payload = payload }

-- two addresses, and what follows them
pub fields_of-parts : (dst src : Mac) (rest : List ℕ) → length dst.0 ≡ 6 → length src.0 ≡ 6 →
    fields_of (dst.0 ++ (src.0 ++ rest)) ≡ made dst src (big_number 2 rest) (drop 2 rest)
fields_of-parts dst src rest h k =
    let whole : List ℕ = dst.0 ++ (src.0 ++ rest) in
    let first = front_of 6 dst.0 (src.0 ++ rest) h in
    let second = ap (take 6) (rest_of 6 dst.0 (src.0 ++ rest) h) ∙ front_of 6 src.0 rest k in
    let both : length (dst.0 ++ src.0) ≡ 12 = omega (arith, length-append dst.0 src.0) in
    let grouped = sym (append_assoc dst.0 src.0 rest) in
    let kind = ap (drop 12) grouped ∙ rest_of 12 (dst.0 ++ src.0) rest both in
    let fourteen : 14 ≡ length (dst.0 ++ src.0) + 2 = omega arith in
    let after : drop 14 whole ≡ drop 2 rest =
    ap (drop 14) grouped ∙ ap (λ n. drop n ((dst.0 ++ src.0) ++ rest)) fourteen ∙ drop-append-add (dst.0 ++ src.0) rest 2 in
    ap (λ d. made (mac d) (source_of whole) (kind_of whole) (payload_of whole)) first
    ∙ ap (λ s. made dst (mac s) (kind_of whole) (payload_of whole)) second
    ∙ ap (λ r. made dst src (big_number 2 r) (payload_of whole)) kind
    ∙ ap (λ p. made dst src (big_number 2 rest) p) after

-- a frame of 12 bytes or more with another source
pub fields_of-with_source : (bytes : List ℕ) (to : Mac) → 12 ≤ length bytes → length to.0 ≡ 6 →
    fields_of (with_source bytes to) ≡ record (fields_of bytes) { src = to }
fields_of-with_source bytes to long h =
    let front : length (take 6 bytes) ≡ 6 = length-take-le 6 bytes (omega arith) in
    ap fields_of (append_assoc (take 6 bytes) to.0 (drop 12 bytes))
    ∙ fields_of-parts (mac (take 6 bytes)) to (drop 12 bytes) front h
    ∙ ap (λ p. made (mac (take 6 bytes)) to (kind_of bytes) p) (drop-drop 2 12 bytes)

-- and with another destination
pub fields_of-with_destination : (bytes : List ℕ) (to : Mac) → 12 ≤ length bytes → length to.0 ≡ 6 →
    fields_of (with_destination bytes to) ≡ record (fields_of bytes) { dst = to }
fields_of-with_destination bytes to long h =
    let after : List ℕ = drop 6 bytes in
    let second : length (take 6 after) ≡ 6 = length-take-le 6 after (omega (arith, length-drop 6 bytes)) in
    let rest = drop-drop 6 6 bytes in
    ap (λ a. fields_of (to.0 ++ a)) (sym (take-append-drop 6 after))
    ∙ fields_of-parts to (mac (take 6 after)) (drop 6 after) h second
    ∙ ap (λ r. made to (mac (take 6 after)) (big_number 2 r) (drop 2 r)) rest
    ∙ ap (λ p. made to (mac (take 6 after)) (kind_of bytes) p) (drop-drop 2 12 bytes)

-- what was put together is read
pub fields_of-frame_of : (f : Fields) → length f.dst.0 ≡ 6 → length f.src.0 ≡ 6 → f.kind < 2 ^ 16 → fields_of (frame_of f) ≡ f
fields_of-frame_of f h k small =
    let bytes : List ℕ = big_bytes 2 f.kind in
    let two : length bytes ≡ 2 = length-bytes_high_first 2 f.kind in
    fields_of-parts f.dst f.src (bytes ++ f.payload) h k
    ∙ ap (λ n. made f.dst f.src n (drop 2 (bytes ++ f.payload))) (big_number-reads_back 2 f.kind f.payload small)
    ∙ ap (λ p. made f.dst f.src f.kind p) (rest_of 2 bytes f.payload two)

-- what is read is spelled so
pub frame_of-fields_of : (bytes : List ℕ) → 14 ≤ length bytes → IsBytes bytes → frame_of (fields_of bytes) ≡ bytes
frame_of-fields_of bytes long small =
    let after : List ℕ = drop 6 bytes in
    let rest : List ℕ = drop 12 bytes in
    let kind : big_bytes 2 (kind_of bytes) ≡ take 2 rest =
    big_bytes-big_number_front 2 rest (omega (arith, length-drop 12 bytes)) (bytes-drop 12 bytes small) in
    ap (λ k. take 6 bytes ++ (take 6 after ++ (k ++ drop 14 bytes))) kind
    ∙ ap (λ p. take 6 bytes ++ (take 6 after ++ (take 2 rest ++ p))) (sym (drop-drop 2 12 bytes))
    ∙ ap (λ r. take 6 bytes ++ (take 6 after ++ r)) (take-append-drop 2 rest)
    ∙ ap (λ r. take 6 bytes ++ (take 6 after ++ r)) (sym (drop-drop 6 6 bytes))
    ∙ ap (λ r. take 6 bytes ++ r) (take-append-drop 6 after)
    ∙ take-append-drop 6 bytes

-- a frame is as long as its parts
pub length-frame_of : (f : Fields) → length f.dst.0 ≡ 6 → length f.src.0 ≡ 6 → length (frame_of f) ≡ 14 + length f.payload
length-frame_of f dst src =
    let kind : List ℕ = big_bytes 2 f.kind in
    omega (
      arith,
      dst,
      src,
      length-append f.dst.0 (f.src.0 ++ (kind ++ f.payload)),
      length-append f.src.0 (kind ++ f.payload),
      length-append kind f.payload,
      length-bytes_high_first 2 f.kind,
    )
