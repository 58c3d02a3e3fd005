-- Which payloads are no control message, by their bytes.
use Rattle.std.specs.Prelude.{◌≡◌, ◌≢◌, ℕ, ◌<◌, ◌≤◌, ◌⊎◌, List, length, drop, slice_index}
use Rattle.byteorder.specs.Endian.{big_number}

-- below two bytes, or below the bytes of its kind
abbrev pub IsCut : List ℕ → Type 0
IsCut payload =
    (length payload < 2)
    ⊎ ((slice_index payload 0 ≡ 1)
    × (((slice_index payload 1 ≡ 1) × (length payload < 19))
    ⊎ (((slice_index payload 1 ≡ 2) × (length payload < 13)) ⊎ ((slice_index payload 1 ≡ 3) × (length payload < 21)))))

abbrev pub IsOtherVersion : List ℕ → Type 0
IsOtherVersion payload = (2 ≤ length payload) × (slice_index payload 0 ≢ 1)

abbrev pub IsOtherKind : List ℕ → Type 0
IsOtherKind payload =
    (2 ≤ length payload) × (slice_index payload 0 ≡ 1)
    × (slice_index payload 1 ≢ 1) × (slice_index payload 1 ≢ 2) × (slice_index payload 1 ≢ 3)

-- a whole message of a kind
abbrev pub IsWholeMessage : ℕ → ℕ → List ℕ → Type 0
IsWholeMessage kind size payload = (slice_index payload 0 ≡ 1) × (slice_index payload 1 ≡ kind) × (size ≤ length payload)

-- the sender is 0, the level or the direction is not one, a position is known at another level than 0,
-- or a pod is known at level 2 or without a level
abbrev pub IsBadLdm : List ℕ → Type 0
IsBadLdm payload =
    let level = slice_index payload 8 in
    (big_number 6 (drop 2 payload) ≡ 0)
    ⊎ (((2 < level) × (level ≢ 255))
    ⊎ ((2 < slice_index payload 12)
    ⊎ (((slice_index payload 9 ≢ 255) × (level ≢ 0))
    ⊎ ((big_number 2 (drop 10 payload) ≢ 65535) × ((level ≡ 2) ⊎ (level ≡ 255))))))

-- the sender or the attempt is 0
abbrev pub IsBadProposal : List ℕ → Type 0
IsBadProposal payload = (big_number 6 (drop 2 payload) ≡ 0) ⊎ (big_number 4 (drop 8 payload) ≡ 0)

-- the sender or the attempt is 0, a bit is neither 0 nor 1, a grant names a holder or says that it is fixed,
-- or a refusal names no holder
abbrev pub IsBadVote : List ℕ → Type 0
IsBadVote payload =
    let granted = slice_index payload 13 in
    let holder = big_number 6 (drop 14 payload) in
    let fixed = slice_index payload 20 in
    (big_number 6 (drop 2 payload) ≡ 0)
    ⊎ ((big_number 4 (drop 8 payload) ≡ 0)
    ⊎ ((1 < granted)
    ⊎ ((1 < fixed)
    ⊎ (((granted ≡ 1) × ((holder ≢ 0) ⊎ (fixed ≡ 1)))
    ⊎ ((granted ≡ 0) × (holder ≡ 0))))))

abbrev pub HasBadField : List ℕ → Type 0
HasBadField payload =
    (IsWholeMessage 1 19 payload × IsBadLdm payload)
    ⊎ ((IsWholeMessage 2 13 payload × IsBadProposal payload) ⊎ (IsWholeMessage 3 21 payload × IsBadVote payload))
