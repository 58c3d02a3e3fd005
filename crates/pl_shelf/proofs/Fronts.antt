-- How far `load` has come.
use Rattle.std.proofs.Common.{◌≡◌, ℕ, ◌+◌, ◌<◌, ◌≤◌, List, [], ◌++◌, length, take, refl, sym, ◌∙◌, ap, subst, arith, length-append}
use Rattle.std.proofs.lemmas.List.{length-take-le, take_all, take-take, take-append-le}
use Rattle.std.proofs.Math.Seq.{take-add, take-append-add}
use Rattle.pl_shelf.specs.Held.{Held, unknown, absent, holds, IsRead, HoldsExactly, IsLonger}

-- these bytes are a front of what is held; of what is absent there is none but the empty one
pub record IsFrontOf (bs found : List ℕ) : Type 0 where
  pub bytes : found ≡ take (length found) bs
  pub within : length found ≤ length bs

abbrev pub IsFront : Held → List ℕ → Type 0
IsFront unknown found = Unit {0}
IsFront absent found = found ≡ []
IsFront (holds bs) found = IsFrontOf bs found

pub front_none : (held : Held) → IsFront held []
front_none unknown = tt
front_none absent = refl
front_none (holds bs) = record { bytes = refl; within = omega arith }

pub front_more : (held : Held) (found buf : List ℕ) (n : ℕ) → n ≤ length buf → IsFront held found →
    IsRead held (length found) n buf → IsFront held (found ++ take n buf)
front_more unknown found buf n fits front read = tt
front_more absent found buf n fits front read = absurd read
front_more (holds bs) found buf n fits front read =
    let long : length (take n buf) ≡ n = length-take-le n buf fits in
    let both : length (found ++ take n buf) ≡ length found + n = length-append found (take n buf) ∙ ap (λ m. length found + m) long in
    let within = read.within in
    let shorter = front.within in
    record {
      bytes = ap (λ f. f ++ take n buf) front.bytes
          ∙ ap (λ p. take (length found) bs ++ p) read.bytes
          ∙ sym (take-add (length found) n bs)
          ∙ ap (λ m. take m bs) (sym both);
      within = omega (arith, both);
    }

-- what a read into the tail behind the first f bytes leaves, of a buffer that ends at l
tail_read : (f n l : ℕ) (old buf post rest : List ℕ) → f ≤ length old → n ≤ length buf → f + n ≤ l →
    take (f + n) (take l ((take f old ++ (buf ++ post)) ++ rest)) ≡ take f old ++ take n buf
tail_read f n l old buf post rest within fits room =
    let front : length (take f old) ≡ f = length-take-le f old within in
    let long = length-append (take f old) (buf ++ post) in
    let more = length-append buf post in
    take-take (f + n) l _ room
    ∙ take-append-le (f + n) (take f old ++ (buf ++ post)) rest (omega (arith, front, long, more))
    ∙ ap (λ m. take (m + n) (take f old ++ (buf ++ post))) (sym front)
    ∙ take-append-add (take f old) (buf ++ post) n
    ∙ ap (λ t. take f old ++ t) (take-append-le n buf post fits)

pub front_read : (held : Held) (f n l : ℕ) (before old buf post rest : List ℕ) →
    f ≤ length old → n ≤ length buf → f + n ≤ l → IsFront held (take f before) → take f old ≡ take f before →
    IsRead held f n buf → IsFront held (take (f + n) (take l ((take f old ++ (buf ++ post)) ++ rest)))
front_read held f n l before old buf post rest within fits room front kept read =
    let long : f ≡ length (take f old) = sym (length-take-le f old within) in
    subst (IsFront held) (sym (tail_read f n l old buf post rest within fits room))
    (front_more held (take f old) buf n fits (subst (IsFront held) (sym kept) front) (subst (λ m. IsRead held m n buf) long read))

pub front_whole : (held : Held) (found buf : List ℕ) → 0 < length buf → IsFront held found →
    IsRead held (length found) 0 buf → HoldsExactly held found
front_whole unknown found buf room front read = tt
front_whole absent found buf room front read = absurd read
front_whole (holds bs) found buf room front read = front.bytes ∙ take_all (length found) bs (read.end refl room)

pub front_longer : (held : Held) (found : List ℕ) (limit : ℕ) → limit < length found → IsFront held found →
    IsLonger held limit
front_longer unknown found limit more front = tt
front_longer absent found limit more front = omega (arith, ap length front)
front_longer (holds bs) found limit more front = let within = front.within in omega arith
