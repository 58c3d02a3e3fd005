-- The control frames of the fabric: how their payloads are laid out. Numbers have their most significant byte first.
use Rattle.std.specs.Prelude.{◌≡◌, ℕ, ◌==◌, ◌&&◌, ◌||◌, not, nat_lt, Bool, true, false, if◌then◌else◌, List, [], ◌∷◌, ◌++◌, length, drop, slice_index, Option, Some, None, is_some, is_none, unwrap_or, Result, Ok, Err, refl}
use Rattle.byteorder.specs.Endian.{big_number, big_bytes}
use Rattle.pl_frame.specs.declared.address.Mac.{Mac}
use Rattle.pl_frame.specs.declared.address.SwitchId.{SwitchId}
use Rattle.pl_frame.specs.Ethernet.{frame_of, kind_of}
use Rattle.pl_layouts.specs.declared.control.Ldm.{Ldm}
use Rattle.pl_layouts.specs.declared.control.Proposal.{Proposal}
use Rattle.pl_layouts.specs.declared.control.Vote.{Vote}
use Rattle.pl_layouts.specs.declared.control.Control.{Control}
use Rattle.pl_layouts.specs.declared.control.Control.TheVariants as control
use Rattle.pl_layouts.specs.declared.control.ControlError.{ControlError}
use Rattle.pl_layouts.specs.declared.control.ControlError.TheVariants.{Cut, BadVersion, BadKind, BadField}
use Rattle.pl_layouts.specs.Placement.{is_known}

-- what is not known has all its bits set
abbrev pub level_code : Option ℕ → ℕ
level_code level = unwrap_or level 255

abbrev pub position_code : Option ℕ → ℕ
position_code position = unwrap_or position 255

abbrev pub pod_code : Option ℕ → ℕ
pod_code pod = unwrap_or pod 65535

-- and an id that is not there is 0
abbrev pub id_code : Option SwitchId → ℕ
id_code None = 0
id_code (Some id) = id.0

abbrev pub bit : Bool → ℕ
bit true = 1
bit false = 0

-- version 1, kind 1, id, level, position, pod, direction, echo
abbrev pub ldm_bytes : SwitchId → Ldm → List ℕ
ldm_bytes id m =
    1 ∷ 1 ∷ (big_bytes 6 id.0 ++ (level_code m.place.level ∷ position_code m.place.position
    ∷ (big_bytes 2 (pod_code m.place.pod) ++ (m.direction ∷ big_bytes 6 (id_code m.echo)))))

-- version 1, kind 2, id, attempt, position
abbrev pub proposal_bytes : SwitchId → Proposal → List ℕ
proposal_bytes id p = 1 ∷ 2 ∷ (big_bytes 6 id.0 ++ (big_bytes 4 p.attempt ++ (p.position ∷ [])))

-- version 1, kind 3, id, attempt, position, granted, holder, fixed
abbrev pub vote_bytes : SwitchId → Vote → List ℕ
vote_bytes id v =
    1 ∷ 3 ∷ (big_bytes 6 id.0 ++ (big_bytes 4 v.attempt ++ (v.position ∷ bit v.granted ∷ (big_bytes 6 (id_code v.holder) ++ (bit v.fixed ∷ [])))))

unfoldable pub control_bytes : Control → List ℕ
control_bytes (control.Ldm id m) = ldm_bytes id m
control_bytes (control.Proposal id p) = proposal_bytes id p
control_bytes (control.Vote id v) = vote_bytes id v

abbrev pub sender_of : Control → SwitchId
sender_of (control.Ldm id m) = id
sender_of (control.Proposal id p) = id
sender_of (control.Vote id v) = id

-- 03:50:4c:00:00:01
abbrev pub control_group : Mac
control_group = record { 0 = 3 ∷ 0x50 ∷ 0x4c ∷ 0 ∷ 0 ∷ 1 ∷ [] }

-- a control frame has type 0x88b5
abbrev pub is_control : List ℕ → Bool
is_control frame = kind_of frame == 0x88b5

-- the whole frame: to the group of control frames, from the six bytes of the sender's id
unfoldable pub control_frame : Control → List ℕ
control_frame c = frame_of (record {
  dst = control_group;
  src = record { 0 = big_bytes 6 (sender_of c).0 };
  kind = 0x88b5;
  payload = control_bytes c;
})

-- what a code stands for
abbrev pub known_unless : ℕ → ℕ → Option ℕ
known_unless unknown code = if code == unknown then None else Some code

abbrev pub id_of_code : ℕ → Option SwitchId
id_of_code code = if code == 0 then None else Some (record { 0 = code })

-- the fields at their places
abbrev pub sender_at : List ℕ → SwitchId
sender_at payload = record { 0 = big_number 6 (drop 2 payload) }

abbrev pub ldm_at : List ℕ → Ldm
ldm_at payload = record {
  place = record {
    level = known_unless 255 (slice_index payload 8);
    position = known_unless 255 (slice_index payload 9);
    pod = known_unless 65535 (big_number 2 (drop 10 payload));
  };
  direction = slice_index payload 12;
  echo = id_of_code (big_number 6 (drop 13 payload));
}

abbrev pub proposal_at : List ℕ → Proposal
proposal_at payload = record { attempt = big_number 4 (drop 8 payload); position = slice_index payload 12 }

abbrev pub vote_at : List ℕ → Vote
vote_at payload = record {
  attempt = big_number 4 (drop 8 payload);
  position = slice_index payload 12;
  granted = slice_index payload 13 == 1;
  holder = id_of_code (big_number 6 (drop 14 payload));
  fixed = slice_index payload 20 == 1;
}

-- a level is 0, 1, 2 or unknown; a direction 0, 1 or 2; a position is known at level 0 alone, a pod at levels 0 and 1 alone
abbrev pub is_sound_ldm : Ldm → Bool
is_sound_ldm m =
    (is_none m.place.level || is_known m.place.level 0 || is_known m.place.level 1 || is_known m.place.level 2) && nat_lt m.direction 3
    && (is_none m.place.position || is_known m.place.level 0)
    && (is_none m.place.pod || is_known m.place.level 0 || is_known m.place.level 1)

-- a grant names no holder and nothing fixed, a refusal names its holder
abbrev pub is_sound_vote : Vote → Bool
is_sound_vote v = not (v.attempt == 0) && (if v.granted then is_none v.holder && not v.fixed else is_some v.holder)

abbrev pub is_sound : Control → Bool
is_sound (control.Ldm id m) = not (id.0 == 0) && is_sound_ldm m
is_sound (control.Proposal id p) = not (id.0 == 0) && not (p.attempt == 0)
is_sound (control.Vote id v) = not (id.0 == 0) && is_sound_vote v

-- a byte that is neither 0 nor 1 is no bit
abbrev pub is_bit : ℕ → Bool
is_bit n = nat_lt n 2

abbrev pub sound_or_refused : Bool → Control → Result Control ControlError
sound_or_refused bits c = if bits && is_sound c then Ok c else Err BadField

-- a payload's first bytes by their kind, or the first thing that is wrong; bytes behind them are accepted
unfoldable pub control_in : List ℕ → Result Control ControlError
control_in payload =
    if nat_lt (length payload) 2 then Err Cut
    else if not (slice_index payload 0 == 1) then Err BadVersion
    else if slice_index payload 1 == 1 then
    (if nat_lt (length payload) 19 then Err Cut else sound_or_refused true (control.Ldm (sender_at payload) (ldm_at payload)))
    else if slice_index payload 1 == 2 then
    (if nat_lt (length payload) 13 then Err Cut else sound_or_refused true (control.Proposal (sender_at payload) (proposal_at payload)))
    else if slice_index payload 1 == 3 then
    (if nat_lt (length payload) 21 then Err Cut
    else sound_or_refused (is_bit (slice_index payload 13) && is_bit (slice_index payload 20)) (control.Vote (sender_at payload) (vote_at payload)))
    else Err BadKind

-- the first message of switch 5 at a port where it heard nothing
first_message : control_frame (control.Ldm (record { 0 = 5 }) (record { place = record { level = None; position = None; pod = None }; direction = 0; echo = None }))
    ≡ 0x03 ∷ 0x50 ∷ 0x4c ∷ 0 ∷ 0 ∷ 1 ∷ 0 ∷ 0 ∷ 0 ∷ 0 ∷ 0 ∷ 5 ∷ 0x88 ∷ 0xb5 ∷ 1 ∷ 1 ∷ 0 ∷ 0 ∷ 0 ∷ 0 ∷ 0 ∷ 5 ∷ 255 ∷ 255 ∷ 255 ∷ 255 ∷ 0 ∷ 0 ∷ 0 ∷ 0 ∷ 0 ∷ 0 ∷ 0 ∷ []
unfolding control_bytes control_frame
first_message = refl

-- switch 17 grants position 0 to attempt 1
a_grant : control_frame (control.Vote (record { 0 = 17 }) (record { attempt = 1; position = 0; granted = true; holder = None; fixed = false }))
    ≡ 0x03 ∷ 0x50 ∷ 0x4c ∷ 0 ∷ 0 ∷ 1 ∷ 0 ∷ 0 ∷ 0 ∷ 0 ∷ 0 ∷ 0x11 ∷ 0x88 ∷ 0xb5 ∷ 1 ∷ 3 ∷ 0 ∷ 0 ∷ 0 ∷ 0 ∷ 0 ∷ 0x11 ∷ 0 ∷ 0 ∷ 0 ∷ 1 ∷ 0 ∷ 1 ∷ 0 ∷ 0 ∷ 0 ∷ 0 ∷ 0 ∷ 0 ∷ 0 ∷ []
unfolding control_bytes control_frame
a_grant = refl
