-- What is written into a control frame is read from it, and what a switch tells can be written.
use Rattle.std.proofs.Common.{◌≡◌, ℕ, ◌<◌, ◌≤◌, ◌==◌, ◌&&◌, ◌||◌, ◌⊎◌, not, nat_lt, Bool, true, false, [], Option, Some, None, Ok, IfSome, is_none, refl, sym, ap, ◌∙◌, arith, append-nil, inl, inr}
use Rattle.std.proofs.lemmas.Bool.{and_from, lt-ltb, ne_eqb, not_from_false}
use Rattle.std.proofs.lemmas.Bool.Decides.{nat_tests}
use Rattle.pl_frame.specs.declared.address.SwitchId.{SwitchId}
use Rattle.pl_layouts.specs.declared.control.Control.{Control}
use Rattle.pl_layouts.specs.declared.control.Control.TheVariants as control
use Rattle.pl_layouts.specs.declared.control.Ldm.{Ldm}
use Rattle.pl_layouts.specs.declared.control.Proposal.{Proposal}
use Rattle.pl_layouts.specs.declared.place.Place.{Place}
use Rattle.pl_layouts.specs.Control.{control_bytes, control_frame, control_in, is_sound_ldm}
use Rattle.pl_ldp.specs.Writable.{IsWritableId, IsWritableControl}
use Rattle.pl_ldp.proofs.Exports.{control_in-control_bytes}
use Rattle.pl_law_control_plane.specs.ControlPlanes.{message_in}
use Rattle.pl_law_control_plane.specs.Discovery.{CanBeTold, CanPropose}
use Rattle.pl_layouts.specs.Placement.{is_known}

pub written_is_read : (c : Control) → IsWritableControl c → message_in (control_frame c) ≡ Ok c
unfolding message_in control_frame
written_is_read c w = ap (λ bytes. control_in bytes) (sym (append-nil (control_bytes c))) ∙ control_in-control_bytes c [] w

-- a location discovery message of a place that can be told
level_sound : (level : Option ℕ) → ((x : ℕ) → level ≡ Some x → x < 3) →
    (is_none level || is_known level 0 || is_known level 1 || is_known level 2) ≡ true
level_sound None low = refl
level_sound (Some x) low = let less = low x refl in grind (arith, nat_tests)

position_sound : (level position : Option ℕ) → ((x : ℕ) → position ≡ Some x → (level ≡ Some 0) × (x < 255)) →
    (is_none position || is_known level 0) ≡ true
position_sound level None is = refl
position_sound level (Some x) is = rw ((is x refl).0) refl

pod_sound : (level pod : Option ℕ) → ((x : ℕ) → pod ≡ Some x → ((level ≡ Some 0) ⊎ (level ≡ Some 1)) × (x < 65535)) →
    (is_none pod || is_known level 0 || is_known level 1) ≡ true
pod_sound level None is = refl
pod_sound level (Some x) is = elim (is x refl).0 [ inl e ↦ rw e refl | inr e ↦ rw e refl ]

if_some : (value : Option ℕ) (P : ℕ → Type 0) → ((x : ℕ) → value ≡ Some x → P x) → IfSome value P
if_some None P all = tt
if_some (Some x) P all = all x refl

if_some_id : (value : Option SwitchId) (P : SwitchId → Type 0) → ((x : SwitchId) → value ≡ Some x → P x) → IfSome value P
if_some_id None P all = tt
if_some_id (Some x) P all = all x refl

id_sound : (id : SwitchId) → IsWritableId id → not (id.0 == 0) ≡ true
id_sound id is = let some = is.0 in not_from_false (id.0 == 0) (ne_eqb id.0 0 (λ e. omega arith))

pub ldm_writable : (id : SwitchId) (place : Place) (direction : ℕ) (echo : Option SwitchId) → IsWritableId id → CanBeTold place → direction < 3 →
    ((x : SwitchId) → echo ≡ Some x → IsWritableId x) → IsWritableControl (control.Ldm id (record { place = place; direction = direction; echo = echo }))
ldm_writable id place direction echo is can low heard =
    let m : Ldm = record { place = place; direction = direction; echo = echo } in
    let levels : Bool = is_none place.level || is_known place.level 0 || is_known place.level 1 || is_known place.level 2 in
    let positions : Bool = is_none place.position || is_known place.level 0 in
    let pods : Bool = is_none place.pod || is_known place.level 0 || is_known place.level 1 in
    let one = and_from levels (nat_lt direction 3) (level_sound place.level can.level) (lt-ltb direction 3 low) in
    let two = and_from (levels && nat_lt direction 3) positions one (position_sound place.level place.position can.position) in
    let three = and_from (levels && nat_lt direction 3 && positions) pods two (pod_sound place.level place.pod can.pod) in
    record {
      sound = and_from (not (id.0 == 0)) (is_sound_ldm m) (id_sound id is) three;
      fits = (
        is,
        record {
          position = if_some place.position (λ x. x < 255) (λ x e. (can.position x e).1);
          pod = if_some place.pod (λ x. x < 65535) (λ x e. (can.pod x e).1);
          echo = if_some_id echo IsWritableId heard;
        },
      );
    }

attempt_sound : (attempt : ℕ) → 1 ≤ attempt → not (attempt == 0) ≡ true
attempt_sound attempt some = not_from_false (attempt == 0) (ne_eqb attempt 0 (λ e. omega arith))

pub proposal_writable : (id : SwitchId) (attempt proposed : ℕ) → IsWritableId id → CanPropose attempt proposed →
    IsWritableControl (control.Proposal id (record { attempt = attempt; position = proposed }))
proposal_writable id attempt proposed is can = record {
  sound = and_from (not (id.0 == 0)) (not (attempt == 0)) (id_sound id is) (attempt_sound attempt can.begun);
  fits = (is, record { attempt = (let e = can.attempt_fits in omega arith); position = can.position_fits });
}

-- a vote on a proposal that was read: a grant, or a refusal that names its holder
pub grant_writable : (id sender : SwitchId) (p : Proposal) → IsWritableId id → IsWritableControl (control.Proposal sender p) →
    IsWritableControl (control.Vote id (record { attempt = p.attempt; position = p.position; granted = true; holder = None; fixed = false }))
grant_writable id sender p is w = record {
  sound = and_from (not (id.0 == 0)) (not (p.attempt == 0) && true) (id_sound id is)
      (and_from (not (p.attempt == 0)) true (and_right_of (not (sender.0 == 0)) (not (p.attempt == 0)) w.sound) refl);
  fits = (is, record { attempt = w.fits.1.attempt; position = w.fits.1.position; holder = tt });
}
  where
    and_right_of : (x y : Bool) → (x && y) ≡ true → y ≡ true
    and_right_of true y h = h
    and_right_of false y h = absurd (cc)

pub refusal_writable : (id sender : SwitchId) (p : Proposal) (holder : SwitchId) (fixed : Bool) → IsWritableId id → IsWritableId holder →
    IsWritableControl (control.Proposal sender p) →
    IsWritableControl (control.Vote id (record { attempt = p.attempt; position = p.position; granted = false; holder = Some holder; fixed = fixed }))
refusal_writable id sender p holder fixed is other w = record {
  sound = and_from (not (id.0 == 0)) (not (p.attempt == 0) && true) (id_sound id is)
      (and_from (not (p.attempt == 0)) true (and_right_of (not (sender.0 == 0)) (not (p.attempt == 0)) w.sound) refl);
  fits = (is, record { attempt = w.fits.1.attempt; position = w.fits.1.position; holder = other });
}
  where
    and_right_of : (x y : Bool) → (x && y) ≡ true → y ≡ true
    and_right_of true y h = h
    and_right_of false y h = absurd (cc)
