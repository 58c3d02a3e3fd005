-- What is spelled is read.
use Rattle.std.proofs.Common.{◌≡◌, ℕ, ◌<◌, ◌≤◌, ◌==◌, ◌&&◌, ◌||◌, not, is_none, Bool, true, false, nat_lt, List, ◌∷◌, ◌++◌, length, slice_index, Option, Ok, IfSome, unwrap_or, refl, ap, ◌∙◌, arith}
use Rattle.std.proofs.lemmas.Bool.{le-ltb, and_parts, and_from}
use Rattle.byteorder.specs.Endian.{big_bytes}
use Rattle.byteorder.specs.Numbers.{big_number-reads_back}
use Rattle.pl_frame.specs.declared.address.SwitchId.{SwitchId}
use Rattle.pl_layouts.specs.declared.control.Ldm.{Ldm}
use Rattle.pl_layouts.specs.declared.control.Proposal.{Proposal}
use Rattle.pl_layouts.specs.declared.control.Vote.{Vote}
use Rattle.pl_layouts.specs.declared.control.Control.{Control}
use Rattle.pl_layouts.specs.declared.control.Control.TheVariants as control
use Rattle.pl_layouts.specs.Control.{known_unless, id_code, id_of_code, pod_code, bit, is_bit, sender_at, ldm_at, proposal_at, vote_at, is_sound, is_sound_ldm, sound_or_refused, ldm_bytes, proposal_bytes, vote_bytes, control_bytes, control_in}
use Rattle.pl_ldp.specs.Writable.{IsWritableId, FitsLdm, FitsProposal, FitsVote, IsWritableControl}
use Rattle.pl_ldp.proofs.Codes.{known_unless-unwrap_or, unwrap_or-fits, id_of_code-id_code, id_code-fits, of-bit, is_bit-bit, is_known_level, level-fits}
use Rattle.pl_layouts.specs.Placement.{is_known}

abbrev pub switch_id : ℕ → SwitchId
switch_id n = record { 0 = n }

abbrev pub made_ldm : SwitchId → Option ℕ → Option ℕ → Option ℕ → ℕ → Option SwitchId → Control
made_ldm id level position pod direction echo =
    control.Ldm id (record { place = record { level = level; position = position; pod = pod }; direction = direction; echo = echo })

abbrev pub made_proposal : SwitchId → ℕ → ℕ → Control
made_proposal id attempt position = control.Proposal id (record { attempt = attempt; position = position })

abbrev pub made_vote : SwitchId → ℕ → ℕ → Bool → Option SwitchId → Bool → Control
made_vote id attempt position granted holder fixed =
    control.Vote id (record { attempt = attempt; position = position; granted = granted; holder = holder; fixed = fixed })

-- a payload that is long enough for its kind is judged by its fields
pub control_in-ldm : (p : List ℕ) → 19 ≤ length p → slice_index p 0 ≡ 1 → slice_index p 1 ≡ 1 →
    control_in p ≡ sound_or_refused true (control.Ldm (sender_at p) (ldm_at p))
unfolding control_in
control_in-ldm p long version kind =
    let two : nat_lt (length p) 2 ≡ false = le-ltb (length p) 2 (omega arith) in
    let whole : nat_lt (length p) 19 ≡ false = le-ltb (length p) 19 long in
    rw (two, version, kind, whole) refl

pub control_in-proposal : (p : List ℕ) → 13 ≤ length p → slice_index p 0 ≡ 1 → slice_index p 1 ≡ 2 →
    control_in p ≡ sound_or_refused true (control.Proposal (sender_at p) (proposal_at p))
unfolding control_in
control_in-proposal p long version kind =
    let two : nat_lt (length p) 2 ≡ false = le-ltb (length p) 2 (omega arith) in
    let whole : nat_lt (length p) 13 ≡ false = le-ltb (length p) 13 long in
    rw (two, version, kind, whole) refl

pub control_in-vote : (p : List ℕ) → 21 ≤ length p → slice_index p 0 ≡ 1 → slice_index p 1 ≡ 3 →
    control_in p ≡ sound_or_refused (is_bit (slice_index p 13) && is_bit (slice_index p 20)) (control.Vote (sender_at p) (vote_at p))
unfolding control_in
control_in-vote p long version kind =
    let two : nat_lt (length p) 2 ≡ false = le-ltb (length p) 2 (omega arith) in
    let whole : nat_lt (length p) 21 ≡ false = le-ltb (length p) 21 long in
    rw (two, version, kind, whole) refl

-- a sound message is not refused
passed : (bits : Bool) (c : Control) → bits ≡ true → is_sound c ≡ true → sound_or_refused bits c ≡ Ok c
passed bits c b s = let both : (bits && is_sound c) ≡ true = and_from bits (is_sound c) b s in rw both refl

same_ldm : (i j : SwitchId) (k l m n o p : Option ℕ) (d : ℕ) (e f : Option SwitchId) → i ≡ j → k ≡ l → m ≡ n → o ≡ p → e ≡ f →
    made_ldm i k m o d e ≡ made_ldm j l n p d f
same_ldm i j k l m n o p d e f a b c g h = cc

same_proposal : (i j : SwitchId) (k l m : ℕ) → i ≡ j → k ≡ l → made_proposal i k m ≡ made_proposal j l m
same_proposal i j k l m a b = cc

same_vote : (i j : SwitchId) (k l m : ℕ) (g h : Bool) (e f : Option SwitchId) (o p : Bool) → i ≡ j → k ≡ l → g ≡ h → e ≡ f → o ≡ p →
    made_vote i k m g e o ≡ made_vote j l m h f p
same_vote i j k l m g h e f o p a b c d q = cc

ldm_is_read : (id : SwitchId) (m : Ldm) (rest : List ℕ) → IsWritableId id → FitsLdm m → IfSome m.place.level (λ n. n < 255) →
    made_ldm (sender_at (ldm_bytes id m ++ rest)) (ldm_at (ldm_bytes id m ++ rest)).place.level (ldm_at (ldm_bytes id m ++ rest)).place.position
    (ldm_at (ldm_bytes id m ++ rest)).place.pod m.direction (ldm_at (ldm_bytes id m ++ rest)).echo
    ≡ control.Ldm id m
ldm_is_read id m rest some fits level =
    let after_pod : List ℕ = m.direction ∷ (big_bytes 6 (id_code m.echo) ++ rest) in
    let after_id : List ℕ = unwrap_or m.place.level 255 ∷ unwrap_or m.place.position 255 ∷ (big_bytes 2 (pod_code m.place.pod) ++ after_pod) in
    let pod = big_number-reads_back 2 (pod_code m.place.pod) after_pod (unwrap_or-fits 65535 m.place.pod fits.pod) in
    let echo = big_number-reads_back 6 (id_code m.echo) rest (id_code-fits m.echo fits.echo) in
    same_ldm _ id _ m.place.level _ m.place.position _ m.place.pod m.direction _ m.echo
    (ap switch_id (big_number-reads_back 6 id.0 after_id some.1))
    (known_unless-unwrap_or 255 m.place.level level)
    (known_unless-unwrap_or 255 m.place.position fits.position)
    (ap (known_unless 65535) pod ∙ known_unless-unwrap_or 65535 m.place.pod fits.pod)
    (ap id_of_code echo ∙ id_of_code-id_code m.echo fits.echo)

pub sound_level : (m : Ldm) → is_sound_ldm m ≡ true → is_known_level m.place.level ≡ true
sound_level m sound =
    let levels : Bool = is_known_level m.place.level in
    let direction : Bool = nat_lt m.direction 3 in
    let position : Bool = is_none m.place.position || is_known m.place.level 0 in
    let pod : Bool = is_none m.place.pod || is_known m.place.level 0 || is_known m.place.level 1 in
    let front = and_parts (levels && direction && position) pod sound in
    (and_parts levels direction (and_parts (levels && direction) position front.0).0).0

ldm_again : (id : SwitchId) (m : Ldm) (rest : List ℕ) → IsWritableId id → FitsLdm m → is_sound (control.Ldm id m) ≡ true →
    control_in (ldm_bytes id m ++ rest) ≡ Ok (control.Ldm id m)
ldm_again id m rest some fits sound =
    let p : List ℕ = ldm_bytes id m ++ rest in
    let level = level-fits m.place.level (sound_level m (and_parts (not (id.0 == 0)) (is_sound_ldm m) sound).1) in
    control_in-ldm p (omega arith) refl refl ∙ ap (sound_or_refused true) (ldm_is_read id m rest some fits level) ∙ passed true (control.Ldm id m) refl sound

proposal_again : (id : SwitchId) (m : Proposal) (rest : List ℕ) → IsWritableId id → FitsProposal m → is_sound (control.Proposal id m) ≡ true →
    control_in (proposal_bytes id m ++ rest) ≡ Ok (control.Proposal id m)
proposal_again id m rest some fits sound =
    let p : List ℕ = proposal_bytes id m ++ rest in
    let after : List ℕ = m.position ∷ rest in
    let sender = big_number-reads_back 6 id.0 (big_bytes 4 m.attempt ++ after) some.1 in
    let attempt = big_number-reads_back 4 m.attempt after fits.attempt in
    control_in-proposal p (omega arith) refl refl
    ∙ ap (sound_or_refused true) (same_proposal _ id _ m.attempt m.position (ap switch_id sender) attempt)
    ∙ passed true (control.Proposal id m) refl sound

vote_again : (id : SwitchId) (m : Vote) (rest : List ℕ) → IsWritableId id → FitsVote m → is_sound (control.Vote id m) ≡ true →
    control_in (vote_bytes id m ++ rest) ≡ Ok (control.Vote id m)
vote_again id m rest some fits sound =
    let p : List ℕ = vote_bytes id m ++ rest in
    let bits : Bool = is_bit (bit m.granted) && is_bit (bit m.fixed) in
    let after_holder : List ℕ = bit m.fixed ∷ rest in
    let after_attempt : List ℕ = m.position ∷ bit m.granted ∷ (big_bytes 6 (id_code m.holder) ++ after_holder) in
    let sender = big_number-reads_back 6 id.0 (big_bytes 4 m.attempt ++ after_attempt) some.1 in
    let attempt = big_number-reads_back 4 m.attempt after_attempt fits.attempt in
    let holder = big_number-reads_back 6 (id_code m.holder) after_holder (id_code-fits m.holder fits.holder) in
    control_in-vote p (omega arith) refl refl
    ∙ ap (sound_or_refused bits) (same_vote _ id _ m.attempt m.position _ m.granted _ m.holder _ m.fixed
    (ap switch_id sender) attempt (of-bit m.granted) (ap id_of_code holder ∙ id_of_code-id_code m.holder fits.holder) (of-bit m.fixed))
    ∙ passed bits (control.Vote id m) (and_from (is_bit (bit m.granted)) (is_bit (bit m.fixed)) (is_bit-bit m.granted) (is_bit-bit m.fixed)) sound

-- whatever follows it
pub control_in-control_bytes : (c : Control) (rest : List ℕ) → IsWritableControl c → control_in (control_bytes c ++ rest) ≡ Ok c
unfolding control_bytes
control_in-control_bytes (control.Ldm id m) rest w = ldm_again id m rest w.fits.0 w.fits.1 w.sound
control_in-control_bytes (control.Proposal id m) rest w = proposal_again id m rest w.fits.0 w.fits.1 w.sound
control_in-control_bytes (control.Vote id m) rest w = vote_again id m rest w.fits.0 w.fits.1 w.sound
