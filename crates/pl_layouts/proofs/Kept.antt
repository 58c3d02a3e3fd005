-- The bytes that stay where a frame's addresses are rewritten, and rewriting in two steps.
use Rattle.std.proofs.Common.{◌≡◌, ◌⊎◌, ℕ, ◌+◌, ◌-◌, ◌<◌, ◌≤◌, true, false, List, ◌++◌, length, take, drop, get_or, slice_index, Option, Some, None, is_some, option_map, refl, sym, ap, ◌∙◌, inl, inr, arith}
use Rattle.std.proofs.lemmas.Bool.{cases_Bool}
use Rattle.std.proofs.lemmas.List.{drop-drop, get_or-take, get_or-drop}
use Rattle.pl_frame.specs.declared.address.Mac.{Mac}
use Rattle.pl_frame.proofs.Exports.{front_of, rest_of}
use Rattle.pl_arp.specs.declared.packet.Arp.{Arp}
use Rattle.pl_layouts.specs.Frames.{HasSixBytes, IsUnalteredByte, arriving, packet_in, with_addresses}
use Rattle.pl_layouts.proofs.Arrivals.{HasLengths, arriving_by, arriving_parts, bytes_or, dst_in, head_in, length-bytes_or, lengths_in, long_frame, parts, sha_in, spa_in, src_in, tha_in, unreadable_parts}
use Rattle.pl_layouts.proofs.Arrived.{arriving_readable, arriving_unreadable, behind_twelve, is_readable, packet_in-arriving, six_dst, six_src}

-- what follows each part
behind : (dst src head sha spa tha rest : List ℕ) → HasLengths dst src head sha spa tha →
    (drop 12 (parts dst src head sha spa tha rest) ≡ head ++ (sha ++ (spa ++ (tha ++ rest))))
    × (drop 28 (parts dst src head sha spa tha rest) ≡ spa ++ (tha ++ rest))
    × (drop 38 (parts dst src head sha spa tha rest) ≡ rest)
behind dst src head sha spa tha rest long =
    let whole : List ℕ = parts dst src head sha spa tha rest in
    let d12 : drop 12 whole ≡ head ++ (sha ++ (spa ++ (tha ++ rest))) = behind_twelve dst src (head ++ (sha ++ (spa ++ (tha ++ rest)))) long.dst long.src in
    let d22 : drop 22 whole ≡ sha ++ (spa ++ (tha ++ rest)) =
    sym (drop-drop 10 12 whole) ∙ ap (drop 10) d12 ∙ rest_of 10 head (sha ++ (spa ++ (tha ++ rest))) long.head in
    let d28 : drop 28 whole ≡ spa ++ (tha ++ rest) = sym (drop-drop 6 22 whole) ∙ ap (drop 6) d22 ∙ rest_of 6 sha (spa ++ (tha ++ rest)) long.sha in
    let d32 : drop 32 whole ≡ tha ++ rest = sym (drop-drop 4 28 whole) ∙ ap (drop 4) d28 ∙ rest_of 4 spa (tha ++ rest) long.spa in
    let d38 : drop 38 whole ≡ rest = sym (drop-drop 6 32 whole) ∙ ap (drop 6) d32 ∙ rest_of 6 tha rest long.tha in
    (d12, d28, d38)

-- bytes of two lists that are alike behind the first n, and of two that are alike for m bytes there
same_behind : (n i : ℕ) (a b : List ℕ) → drop n a ≡ drop n b → n ≤ i → slice_index a i ≡ slice_index b i
same_behind n i a b same past =
    let j : ℕ = i - n in
    let at : n + j ≡ i = omega arith in
    ap (λ k. get_or a k 0) (sym at) ∙ sym (get_or-drop n a j 0) ∙ ap (λ xs. get_or xs j 0) same ∙ get_or-drop n b j 0 ∙ ap (λ k. get_or b k 0) at

same_for : (n m i : ℕ) (a b : List ℕ) → take m (drop n a) ≡ take m (drop n b) → n ≤ i → i < n + m → slice_index a i ≡ slice_index b i
same_for n m i a b same past within =
    let j : ℕ = i - n in
    let at : n + j ≡ i = omega arith in
    let near : j < m = omega arith in
    ap (λ k. get_or a k 0) (sym at) ∙ sym (get_or-drop n a j 0) ∙ sym (get_or-take m (drop n a) j 0 near) ∙ ap (λ xs. get_or xs j 0) same
    ∙ get_or-take m (drop n b) j 0 near ∙ get_or-drop n b j 0 ∙ ap (λ k. get_or b k 0) at

kept_unreadable : (frame : List ℕ) (from to : Option Mac) (i : ℕ) → 14 ≤ length frame → is_readable frame ≡ false → HasSixBytes from → HasSixBytes to →
    12 ≤ i → slice_index (arriving frame from to) i ≡ slice_index frame i
kept_unreadable frame from to i long unreadable six_from six_to past =
    let n_dst = length-bytes_or to (dst_in frame) six_to (six_dst frame long) in
    let n_src = length-bytes_or from (src_in frame) six_from (six_src frame long) in
    same_behind 12 i (arriving frame from to) frame
    (ap (drop 12) (arriving_unreadable frame from to long unreadable six_from six_to) ∙ behind_twelve (bytes_or to (dst_in frame)) (bytes_or from (src_in frame)) (drop 12 frame) n_dst n_src)
    past

kept_readable : (frame : List ℕ) (from to : Option Mac) (i : ℕ) → is_readable frame ≡ true → HasSixBytes from → HasSixBytes to →
    12 ≤ i → ((i < 22) ⊎ (28 ≤ i)) → ((i < 32) ⊎ (38 ≤ i)) → slice_index (arriving frame from to) i ≡ slice_index frame i
kept_readable frame from to i readable six_from six_to past no_sha no_tha =
    let enough = long_frame frame readable in
    let sizes = lengths_in frame (omega arith) in
    let arrived : List ℕ = arriving frame from to in
    let sha' : List ℕ = bytes_or from (sha_in frame) in
    let tha' : List ℕ = bytes_or to (tha_in frame) in
    let rest : List ℕ = drop 38 frame in
    let new_sizes : HasLengths (bytes_or to (dst_in frame)) (bytes_or from (src_in frame)) (head_in frame) sha' (spa_in frame) tha' = record {
      dst = length-bytes_or to (dst_in frame) six_to sizes.dst;
      src = length-bytes_or from (src_in frame) six_from sizes.src;
      head = sizes.head;
      sha = length-bytes_or from (sha_in frame) six_from sizes.sha;
      spa = sizes.spa;
      tha = length-bytes_or to (tha_in frame) six_to sizes.tha;
    } in
    let is = arriving_readable frame from to readable six_from six_to in
    let after = behind (bytes_or to (dst_in frame)) (bytes_or from (src_in frame)) (head_in frame) sha' (spa_in frame) tha' rest new_sizes in
    let head : take 10 (drop 12 arrived) ≡ head_in frame =
    ap (λ f. take 10 (drop 12 f)) is ∙ ap (take 10) after.0 ∙ front_of 10 (head_in frame) (sha' ++ (spa_in frame ++ (tha' ++ rest))) sizes.head in
    let spa : take 4 (drop 28 arrived) ≡ spa_in frame = ap (λ f. take 4 (drop 28 f)) is ∙ ap (take 4) after.1 ∙ front_of 4 (spa_in frame) (tha' ++ rest) sizes.spa in
    let last : drop 38 arrived ≡ drop 38 frame = ap (drop 38) is ∙ after.2 in
    elim no_sha [
      | inl before ↦ same_for 12 10 i arrived frame head past before
      | inr behind_sha ↦ elim no_tha [
        | inl between ↦ same_for 28 4 i arrived frame spa behind_sha between
        | inr behind_tha ↦ same_behind 38 i arrived frame last behind_tha
      ]
    ]

pub others_are_kept : (frame : List ℕ) (from to : Option Mac) (i : ℕ) → 14 ≤ length frame → HasSixBytes from → HasSixBytes to →
    IsUnalteredByte frame i → slice_index (arriving frame from to) i ≡ slice_index frame i
others_are_kept frame from to i long six_from six_to kept = elim (cases_Bool (is_readable frame)) [
  | inl readable ↦ let outside = kept.outside readable in kept_readable frame from to i readable six_from six_to kept.behind outside.0 outside.1
  | inr unreadable ↦ kept_unreadable frame from to i long unreadable six_from six_to kept.behind
]

some_still : (from to : Option Mac) (o : Option Arp) → is_some (option_map (with_addresses from to) o) ≡ is_some o
some_still from to None = refl
some_still from to (Some x) = refl

pub in_two_steps : (frame : List ℕ) (from to : Option Mac) → 14 ≤ length frame → HasSixBytes from → HasSixBytes to →
    arriving (arriving frame from None) None to ≡ arriving frame from to
in_two_steps frame from to long six_from six_to =
    let first : List ℕ = arriving frame from None in
    let still : is_readable first ≡ is_readable frame = ap is_some (packet_in-arriving frame from None long six_from tt) ∙ some_still from None (packet_in frame) in
    elim (cases_Bool (is_readable frame)) [
      | inl readable ↦
          let enough = long_frame frame readable in
          let sizes = lengths_in frame (omega arith) in
          let src' : List ℕ = bytes_or from (src_in frame) in
          let sha' : List ℕ = bytes_or from (sha_in frame) in
          let new_sizes : HasLengths (dst_in frame) src' (head_in frame) sha' (spa_in frame) (tha_in frame) = record {
            dst = sizes.dst;
            src = length-bytes_or from (src_in frame) six_from sizes.src;
            head = sizes.head;
            sha = length-bytes_or from (sha_in frame) six_from sizes.sha;
            spa = sizes.spa;
            tha = sizes.tha;
          } in
          ap (λ b. arriving_by b first None to) (still ∙ readable) ∙ ap (λ f. arriving_by true f None to) (arriving_readable frame from None readable six_from tt)
          ∙ arriving_parts (dst_in frame) src' (head_in frame) sha' (spa_in frame) (tha_in frame) (drop 38 frame) None to new_sizes tt six_to
          ∙ sym (arriving_readable frame from to readable six_from six_to)
      | inr unreadable ↦
          let src' : List ℕ = bytes_or from (src_in frame) in
          let n_src = length-bytes_or from (src_in frame) six_from (six_src frame long) in
          ap (λ b. arriving_by b first None to) (still ∙ unreadable) ∙ ap (λ f. arriving_by false f None to) (arriving_unreadable frame from None long unreadable six_from tt)
          ∙ unreadable_parts (dst_in frame) src' (drop 12 frame) None to (six_dst frame long) n_src tt six_to
          ∙ sym (arriving_unreadable frame from to long unreadable six_from six_to)
    ]
