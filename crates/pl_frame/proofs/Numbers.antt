-- A number has one spelling in n bytes, the most significant first.
use Rattle.std.proofs.Common.{◌≡◌, ℕ, zero, suc, ◌+◌, ◌*◌, ◌/◌, ◌^◌, ◌<◌, ◌≤◌, List, [], ◌∷◌, length, slice_index, take, drop, refl, sym, ap, ◌∙◌, arith}
use Rattle.std.proofs.Math.Nat.{mod-lt}
use Rattle.std.proofs.lemmas.Nat.{div-mul-add}
use Rattle.std.proofs.lemmas.List.{append-nil, get_or-drop, length-take-le}
use Rattle.std.specs.Int.{byte_at}
use Rattle.byteorder.specs.Endian.{big_from, big_number, big_bytes}
use Rattle.byteorder.specs.Numbers.{big_from-cons, big_from-take, big_from-lt, big_number-reads_back, length-bytes_high_first}

abbrev pub IsBytes : List ℕ → Type 0
IsBytes xs = (i : ℕ) → slice_index xs i < 256

byte_small : (k x : ℕ) → byte_at k x < 256
byte_small zero x = mod-lt x (omega arith)
byte_small (suc k) x = mod-lt (x / 256 ^ suc k) (omega arith)

-- a spelling is made of bytes
pub bytes-big_bytes : (n x : ℕ) → IsBytes (big_bytes n x)
bytes-big_bytes zero x i = omega arith
bytes-big_bytes (suc n) x zero = byte_small n x
bytes-big_bytes (suc n) x (suc i) = bytes-big_bytes n x i

-- parts of bytes are bytes
pub bytes-take : (n : ℕ) (xs : List ℕ) → IsBytes xs → IsBytes (take n xs)
bytes-take zero xs small i = omega arith
bytes-take (suc n) [] small i = omega arith
bytes-take (suc n) (x ∷ xs) small zero = small 0
bytes-take (suc n) (x ∷ xs) small (suc i) = bytes-take n xs (λ k. small (suc k)) i

pub bytes-drop : (n : ℕ) (xs : List ℕ) → IsBytes xs → IsBytes (drop n xs)
bytes-drop n xs small i = rw (get_or-drop n xs i 0) (small (n + i))

-- as many bytes of one number are the same bytes
same_spelling : (xs ys : List ℕ) → length xs ≡ length ys → IsBytes xs → IsBytes ys →
    big_from 0 (length xs) xs ≡ big_from 0 (length xs) ys → xs ≡ ys
same_spelling [] [] long small other e = refl
same_spelling [] (y ∷ ys) long small other e = absurd (omega arith)
same_spelling (x ∷ xs) [] long small other e = absurd (omega arith)
same_spelling (x ∷ xs) (y ∷ ys) long small other e =
    let n : ℕ = length xs in
    let same : length xs ≡ length ys = omega arith in
    let front : big_from 0 n xs < 256 ^ n = big_from-lt 0 n xs (λ k. small (suc k)) in
    let back : big_from 0 n ys < 256 ^ n = big_from-lt 0 n ys (λ k. other (suc k)) in
    let sums : x * 256 ^ n + big_from 0 n xs ≡ y * 256 ^ n + big_from 0 n ys =
    ap (λ r. x * 256 ^ n + r) (sym (big_from-cons 0 n x xs)) ∙ e ∙ ap (λ r. y * 256 ^ n + r) (big_from-cons 0 n y ys) in
    let head : x ≡ y = sym (div-mul-add x (256 ^ n) (big_from 0 n xs) front) ∙ ap (λ v. v / 256 ^ n) sums ∙ div-mul-add y (256 ^ n) (big_from 0 n ys) back in
    let worth = ap (λ v. v * 256 ^ n) head in
    let rest : big_from 0 n xs ≡ big_from 0 n ys = omega arith in
    ap (λ v. v ∷ xs) head ∙ ap (λ vs. y ∷ vs) (same_spelling xs ys same (λ k. small (suc k)) (λ k. other (suc k)) rest)

-- the number in n bytes is spelled by these bytes
pub big_bytes-big_number : (n : ℕ) (xs : List ℕ) → length xs ≡ n → IsBytes xs → big_bytes n (big_number n xs) ≡ xs
big_bytes-big_number n xs long small =
    let value : ℕ = big_number n xs in
    let written : List ℕ = big_bytes n value in
    let len : length written ≡ n = length-bytes_high_first n value in
    let back : big_from 0 n written ≡ value =
    ap (big_from 0 n) (sym (append-nil written)) ∙ big_number-reads_back n value [] (big_from-lt 0 n xs small) in
    same_spelling written xs (len ∙ sym long) (bytes-big_bytes n value) small
    (ap (λ m. big_from 0 m written) len ∙ back ∙ ap (λ m. big_from 0 m xs) (sym len))

-- the number at the front of some bytes is spelled by the first n of them
pub big_bytes-big_number_front : (n : ℕ) (xs : List ℕ) → n ≤ length xs → IsBytes xs → big_bytes n (big_number n xs) ≡ take n xs
big_bytes-big_number_front n xs long small =
    ap (big_bytes n) (sym (big_from-take 0 n n xs (omega arith)))
    ∙ big_bytes-big_number n (take n xs) (length-take-le n xs long) (bytes-take n xs small)
