-- What is read is spelled so.
use Rattle.std.proofs.Common.{◌≡◌, ℕ, ◌+◌, ◌<◌, ◌≤◌, ◌==◌, ◌&&◌, ◌⊎◌, inl, inr, not, Bool, true, false, cond, nat_lt, List, ◌∷◌, ◌++◌, length, slice_index, take, drop, Result, Ok, Err, IfOk, unwrap_or, refl, sym, ap, ◌∙◌, subst, arith}
use Rattle.std.proofs.lemmas.Bool.{ltb-false, eqb-true, not-false, and_parts}
use Rattle.std.proofs.lemmas.List.{take-append-drop, drop-drop, drop_more, length-drop}
use Rattle.byteorder.specs.Endian.{big_number, big_bytes}
use Rattle.byteorder.specs.Numbers.{big_from-lt}
use Rattle.pl_frame.proofs.Exports.{big_bytes-big_number_front, bytes-drop, IsBytes}
use Rattle.pl_layouts.specs.declared.control.Ldm.{Ldm}
use Rattle.pl_layouts.specs.declared.control.Proposal.{Proposal}
use Rattle.pl_layouts.specs.declared.control.Vote.{Vote}
use Rattle.pl_layouts.specs.declared.control.Control.{Control}
use Rattle.pl_layouts.specs.declared.control.Control.TheVariants as control
use Rattle.pl_layouts.specs.declared.control.ControlError.{ControlError}
use Rattle.pl_layouts.specs.declared.control.ControlError.TheVariants.{Cut, BadVersion, BadKind, BadField}
use Rattle.pl_layouts.specs.Control.{id_code, pod_code, bit, is_bit, sender_at, ldm_at, proposal_at, vote_at, is_sound, is_sound_ldm, is_sound_vote, sound_or_refused, ldm_bytes, proposal_bytes, vote_bytes, control_bytes, control_in}
use Rattle.pl_ldp.specs.Writable.{IsWritableId, FitsLdm, FitsProposal, FitsVote, IsWritableControl}
use Rattle.pl_ldp.proofs.Codes.{unwrap_or-known_unless, known_unless-fits, id_code-id_of_code, id_of_code-fits, bit-of, above_zero}

abbrev pub Read : Type 0
Read = Result Control ControlError

abbrev got : Control → Read
got c = Ok c

-- which way an `if` went
chosen : (b : Bool) (e : ControlError) (r : Read) (c : Control) → cond b (Err e) r ≡ Ok c → (b ≡ false) × (r ≡ Ok c)
chosen true e r c h = absurd (cc)
chosen false e r c h = (refl, h)

kinds : (a b d : Bool) (r s t : Read) (c : Control) → cond a r (cond b s (cond d t (Err BadKind))) ≡ Ok c →
    ((a ≡ true) × (r ≡ Ok c)) ⊎ (((b ≡ true) × (s ≡ Ok c)) ⊎ ((d ≡ true) × (t ≡ Ok c)))
kinds true b d r s t c h = inl (refl, h)
kinds false true d r s t c h = inr (inl (refl, h))
kinds false false true r s t c h = inr (inr (refl, h))
kinds false false false r s t c h = absurd (cc)

same : (x y : Control) → got x ≡ got y → x ≡ y
same x y h = cc

kept : (b : Bool) (x y : Control) → cond b (got x) (Err BadField) ≡ Ok y → (b ≡ true) × (x ≡ y)
kept true x y h = (refl, same x y h)
kept false x y h = absurd (cc)

-- the byte at a place and the number at a place, with what follows them
byte : (at : ℕ) (p : List ℕ) → at < length p → drop at p ≡ slice_index p at ∷ drop (at + 1) p
byte at p within = drop_more p at 0 within

number : (n at : ℕ) (p : List ℕ) → at + n ≤ length p → IsBytes p → drop at p ≡ big_bytes n (big_number n (drop at p)) ++ drop (at + n) p
number n at p within small =
    let spelled = big_bytes-big_number_front n (drop at p) (omega (arith, length-drop at p)) (bytes-drop at p small) in
    sym (take-append-drop n (drop at p)) ∙ ap (λ (r : List ℕ). take n (drop at p) ++ r) (drop-drop n at p)
    ∙ ap (λ (b : List ℕ). b ++ drop (at + n) p) (sym spelled)

-- version, kind and id
start : (p : List ℕ) (kind : ℕ) → 8 ≤ length p → IsBytes p → slice_index p 0 ≡ 1 → slice_index p 1 ≡ kind →
    p ≡ 1 ∷ kind ∷ (big_bytes 6 (sender_at p).0 ++ drop 8 p)
start p kind long small version is =
    byte 0 p (omega arith) ∙ ap (λ (n : ℕ). n ∷ drop 1 p) version
    ∙ ap (λ (r : List ℕ). 1 ∷ r) (byte 1 p (omega arith) ∙ ap (λ (n : ℕ). n ∷ drop 2 p) is ∙ ap (λ (r : List ℕ). kind ∷ r) (number 6 2 p long small))

ldm_is : (p : List ℕ) → 19 ≤ length p → IsBytes p → slice_index p 0 ≡ 1 → slice_index p 1 ≡ 1 → p ≡ ldm_bytes (sender_at p) (ldm_at p) ++ drop 19 p
ldm_is p long small version kind =
    let m : Ldm = ldm_at p in
    let code = unwrap_or-known_unless 255 in
    let echo : drop 13 p ≡ big_bytes 6 (id_code m.echo) ++ drop 19 p =
    number 6 13 p long small ∙ ap (λ (n : ℕ). big_bytes 6 n ++ drop 19 p) (sym (id_code-id_of_code (big_number 6 (drop 13 p)))) in
    let direction : drop 12 p ≡ m.direction ∷ (big_bytes 6 (id_code m.echo) ++ drop 19 p) =
    byte 12 p (omega arith) ∙ ap (λ (r : List ℕ). m.direction ∷ r) echo in
    let pod : drop 10 p ≡ big_bytes 2 (pod_code m.place.pod) ++ (m.direction ∷ (big_bytes 6 (id_code m.echo) ++ drop 19 p)) =
    number 2 10 p (omega arith) small ∙ ap (λ (n : ℕ). big_bytes 2 n ++ drop 12 p) (sym (unwrap_or-known_unless 65535 (big_number 2 (drop 10 p))))
    ∙ ap (λ (r : List ℕ). big_bytes 2 (pod_code m.place.pod) ++ r) direction in
    let position = byte 9 p (omega arith) ∙ ap (λ (n : ℕ). n ∷ drop 10 p) (sym (code (slice_index p 9)))
    ∙ ap (λ (r : List ℕ). unwrap_or m.place.position 255 ∷ r) pod in
    let level = byte 8 p (omega arith) ∙ ap (λ (n : ℕ). n ∷ drop 9 p) (sym (code (slice_index p 8)))
    ∙ ap (λ (r : List ℕ). unwrap_or m.place.level 255 ∷ r) position in
    start p 1 (omega arith) small version kind ∙ ap (λ (r : List ℕ). 1 ∷ 1 ∷ (big_bytes 6 (sender_at p).0 ++ r)) level

proposal_is : (p : List ℕ) → 13 ≤ length p → IsBytes p → slice_index p 0 ≡ 1 → slice_index p 1 ≡ 2 → p ≡ proposal_bytes (sender_at p) (proposal_at p) ++ drop 13 p
proposal_is p long small version kind =
    let m : Proposal = proposal_at p in
    let attempt : drop 8 p ≡ big_bytes 4 m.attempt ++ (m.position ∷ drop 13 p) =
    number 4 8 p (omega arith) small ∙ ap (λ (r : List ℕ). big_bytes 4 m.attempt ++ r) (byte 12 p (omega arith)) in
    start p 2 (omega arith) small version kind ∙ ap (λ (r : List ℕ). 1 ∷ 2 ∷ (big_bytes 6 (sender_at p).0 ++ r)) attempt

vote_is : (p : List ℕ) → 21 ≤ length p → IsBytes p → slice_index p 0 ≡ 1 → slice_index p 1 ≡ 3 →
    is_bit (slice_index p 13) ≡ true → is_bit (slice_index p 20) ≡ true → p ≡ vote_bytes (sender_at p) (vote_at p) ++ drop 21 p
vote_is p long small version kind granted fixed =
    let m : Vote = vote_at p in
    let last : drop 20 p ≡ bit m.fixed ∷ drop 21 p =
    byte 20 p (omega arith) ∙ ap (λ (n : ℕ). n ∷ drop 21 p) (sym (bit-of (slice_index p 20) fixed)) in
    let holder : drop 14 p ≡ big_bytes 6 (id_code m.holder) ++ (bit m.fixed ∷ drop 21 p) =
    number 6 14 p (omega arith) small ∙ ap (λ (n : ℕ). big_bytes 6 n ++ drop 20 p) (sym (id_code-id_of_code (big_number 6 (drop 14 p))))
    ∙ ap (λ (r : List ℕ). big_bytes 6 (id_code m.holder) ++ r) last in
    let answer = byte 13 p (omega arith) ∙ ap (λ (n : ℕ). n ∷ drop 14 p) (sym (bit-of (slice_index p 13) granted))
    ∙ ap (λ (r : List ℕ). bit m.granted ∷ r) holder in
    let position = byte 12 p (omega arith) ∙ ap (λ (r : List ℕ). m.position ∷ r) answer in
    let attempt = number 4 8 p (omega arith) small ∙ ap (λ (r : List ℕ). big_bytes 4 m.attempt ++ r) position in
    start p 3 (omega arith) small version kind ∙ ap (λ (r : List ℕ). 1 ∷ 3 ∷ (big_bytes 6 (sender_at p).0 ++ r)) attempt

id_fits : (p : List ℕ) → IsBytes p → not ((sender_at p).0 == 0) ≡ true → IsWritableId (sender_at p)
id_fits p small some = (above_zero (sender_at p).0 some, big_from-lt 0 6 (drop 2 p) (bytes-drop 2 p small))

Spelled : List ℕ → Control → Type 0
Spelled p c = IsWritableControl c × (p ≡ control_bytes c ++ drop (length (control_bytes c)) p)

ldm_read : (p : List ℕ) (c : Control) → IsBytes p → slice_index p 0 ≡ 1 → slice_index p 1 ≡ 1 →
    cond (nat_lt (length p) 19) (Err Cut) (sound_or_refused true (control.Ldm (sender_at p) (ldm_at p))) ≡ Ok c → Spelled p c
unfolding Spelled control_bytes
ldm_read p c small version kind h =
    let found : Control = control.Ldm (sender_at p) (ldm_at p) in
    let whole = chosen (nat_lt (length p) 19) Cut (sound_or_refused true found) c h in
    let long = ltb-false (length p) 19 whole.0 in
    let sound = kept (is_sound found) found c whole.1 in
    let some = and_parts (not ((sender_at p).0 == 0)) (is_sound_ldm (ldm_at p)) sound.0 in
    let fits : FitsLdm (ldm_at p) = record {
      position = known_unless-fits 255 (slice_index p 9) (small 9);
      pod = known_unless-fits 65535 (big_number 2 (drop 10 p)) (big_from-lt 0 2 (drop 10 p) (bytes-drop 10 p small));
      echo = id_of_code-fits (big_number 6 (drop 13 p)) (big_from-lt 0 6 (drop 13 p) (bytes-drop 13 p small));
    } in
    subst (Spelled p) sound.1 (record { sound = sound.0; fits = (id_fits p small some.0, fits) }, ldm_is p long small version kind)

proposal_read : (p : List ℕ) (c : Control) → IsBytes p → slice_index p 0 ≡ 1 → slice_index p 1 ≡ 2 →
    cond (nat_lt (length p) 13) (Err Cut) (sound_or_refused true (control.Proposal (sender_at p) (proposal_at p))) ≡ Ok c → Spelled p c
unfolding Spelled control_bytes
proposal_read p c small version kind h =
    let found : Control = control.Proposal (sender_at p) (proposal_at p) in
    let whole = chosen (nat_lt (length p) 13) Cut (sound_or_refused true found) c h in
    let long = ltb-false (length p) 13 whole.0 in
    let sound = kept (is_sound found) found c whole.1 in
    let some = and_parts (not ((sender_at p).0 == 0)) (not ((proposal_at p).attempt == 0)) sound.0 in
    let fits : FitsProposal (proposal_at p) = record {
      attempt = big_from-lt 0 4 (drop 8 p) (bytes-drop 8 p small);
      position = small 12;
    } in
    subst (Spelled p) sound.1 (record { sound = sound.0; fits = (id_fits p small some.0, fits) }, proposal_is p long small version kind)

vote_read : (p : List ℕ) (c : Control) → IsBytes p → slice_index p 0 ≡ 1 → slice_index p 1 ≡ 3 →
    cond (nat_lt (length p) 21) (Err Cut) (sound_or_refused (is_bit (slice_index p 13) && is_bit (slice_index p 20)) (control.Vote (sender_at p) (vote_at p))) ≡ Ok c → Spelled p c
unfolding Spelled control_bytes
vote_read p c small version kind h =
    let found : Control = control.Vote (sender_at p) (vote_at p) in
    let bits : Bool = is_bit (slice_index p 13) && is_bit (slice_index p 20) in
    let whole = chosen (nat_lt (length p) 21) Cut (sound_or_refused bits found) c h in
    let long = ltb-false (length p) 21 whole.0 in
    let passed = kept (bits && is_sound found) found c whole.1 in
    let sound = and_parts bits (is_sound found) passed.0 in
    let bit = and_parts (is_bit (slice_index p 13)) (is_bit (slice_index p 20)) sound.0 in
    let some = and_parts (not ((sender_at p).0 == 0)) (is_sound_vote (vote_at p)) sound.1 in
    let fits : FitsVote (vote_at p) = record {
      attempt = big_from-lt 0 4 (drop 8 p) (bytes-drop 8 p small);
      position = small 12;
      holder = id_of_code-fits (big_number 6 (drop 14 p)) (big_from-lt 0 6 (drop 14 p) (bytes-drop 14 p small));
    } in
    subst (Spelled p) passed.1 (record { sound = sound.1; fits = (id_fits p small some.0, fits) }, vote_is p long small version kind bit.0 bit.1)

pub control_bytes-control_in : (p : List ℕ) (c : Control) → IsBytes p → control_in p ≡ Ok c →
    IsWritableControl c × (p ≡ control_bytes c ++ drop (length (control_bytes c)) p)
unfolding Spelled control_in
control_bytes-control_in p c small h =
    let kind : ℕ = slice_index p 1 in
    let ldm : Read = cond (nat_lt (length p) 19) (Err Cut) (sound_or_refused true (control.Ldm (sender_at p) (ldm_at p))) in
    let proposal : Read = cond (nat_lt (length p) 13) (Err Cut) (sound_or_refused true (control.Proposal (sender_at p) (proposal_at p))) in
    let vote : Read = cond (nat_lt (length p) 21) (Err Cut) (sound_or_refused (is_bit (slice_index p 13) && is_bit (slice_index p 20)) (control.Vote (sender_at p) (vote_at p))) in
    let by_kind : Read = cond (kind == 1) ldm (cond (kind == 2) proposal (cond (kind == 3) vote (Err BadKind))) in
    let other : Bool = not (slice_index p 0 == 1) in
    let two = chosen (nat_lt (length p) 2) Cut (cond other (Err BadVersion) by_kind) c h in
    let known = chosen other BadVersion by_kind c two.1 in
    let version = eqb-true (slice_index p 0) 1 (not-false (slice_index p 0 == 1) known.0) in
    elim (kinds (kind == 1) (kind == 2) (kind == 3) ldm proposal vote c known.1) [
      | inl k ↦ ldm_read p c small version (eqb-true kind 1 k.0) k.1
      | inr more ↦ elim more [
        | inl k ↦ proposal_read p c small version (eqb-true kind 2 k.0) k.1
        | inr k ↦ vote_read p c small version (eqb-true kind 3 k.0) k.1
      ]
    ]

-- what is read can be written again
pub IsWritableControl-control_in : (p : List ℕ) (r : Read) → IsBytes p → r ≡ control_in p → IfOk r IsWritableControl
IsWritableControl-control_in p (Ok c) small h = (control_bytes-control_in p c small (sym h)).0
IsWritableControl-control_in p (Err e) small h = tt
