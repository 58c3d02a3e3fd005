-- Where hosts stand: each at a port of its own, so that a frame that comes out of the port comes to the host.
use Rattle.std.proofs.Common.{◌≡◌, ℕ, zero, suc, ◌<◌, ◌==◌, ◌||◌, nat_lt, Bool, true, false, cond, List, [], ◌∷◌, length, map, get_or, set, Option, Some, None, slice_get, position, option_map, refl, sym, ap, ◌∙◌, subst, inl, inr, arith, eqb-true, lt-ltb, ltb-false, true≢false}
use Rattle.std.specs.List.{position_or_len}
use Rattle.std.proofs.lemmas.Bool.{and_parts, cases_eq, cases_lt, cond-true, or_right}
use Rattle.std.proofs.lemmas.List.Sums.{fails_before_first, position_or_len_is}
use Rattle.std.proofs.lemmas.Option.{get_or_from_slice_get, same_Some, slice_get-get_or, slice_get-map, slice_get_within}
use Rattle.std.proofs.lemmas.Slice.Eq.{bytes_eq-Decides}
use Rattle.pl_lemmas.proofs.Exports.{set_there}
use Rattle.pl_frame.specs.Ethernet.{destination_of}
use Rattle.pl_layouts.specs.Memberships.{is_group}
use Rattle.pl_wiring.specs.declared.host.Host.{Host}
use Rattle.pl_wiring.specs.Plan.{IsPlan, Plan}
use Rattle.pl_journal.specs.Lossy.{mac_of_host}
use Rattle.pl_world.specs.declared.attachment.AttachmentPoint.{AttachmentPoint}
use Rattle.pl_world.specs.Booting.{first_attachment}
use Rattle.pl_world.specs.Changes.{if_for, is_address_of, receiver, stands_at}
use Rattle.pl_world.specs.Worlds.{WorldView}
use Rattle.pl_world.proofs.Exports.{stands_there}
use Rattle.pl_law_arrival.specs.Orderly.{AreApart}

nobody : AttachmentPoint
nobody = record { edge = record { 0 = 0 }; port = 0 }

attachment_is : (s p : ℕ) (attachment : AttachmentPoint) → stands_at s p attachment ≡ true → attachment ≡ record { edge = record { 0 = s }; port = p }
attachment_is s p attachment h =
    let both = and_parts (attachment.edge.0 == s) (attachment.port == p) h in
    let edge = eqb-true attachment.edge.0 s both.0 in
    let port = eqb-true attachment.port p both.1 in
    λ i. record { edge = record { 0 = edge i }; port = port i }

-- who stands at a port is found there
pub found_at : (attachments : List AttachmentPoint) → AreApart attachments → (g : ℕ) (attachment : AttachmentPoint) → slice_get attachments g ≡ Some attachment → (s p : ℕ) → attachment.edge.0 ≡ s → attachment.port ≡ p →
    position (stands_at s p) attachments ≡ Some g
found_at attachments apart g attachment found s p edge port =
    let within = slice_get_within attachments g attachment found in
    let here = get_or_from_slice_get attachments g attachment nobody found in
    let passes = subst (λ x. stands_at s p x ≡ true) (sym here) (stands_there s p attachment edge port) in
    let at = position_or_len_is (stands_at s p) attachments g nobody (omega (arith, within)) (λ k less. others k less (stands_at s p (get_or attachments k nobody)) refl) (λ l. passes) in
    ap (λ n. cond (nat_lt n (length attachments)) (Some n) None) at ∙ cond-true (nat_lt g (length attachments)) (Some g) None (lt-ltb g (length attachments) within)
  where
    others : (k : ℕ) → k < g → (b : Bool) → stands_at s p (get_or attachments k nobody) ≡ b → b ≡ false
    others k less false e = refl
    others k less true e =
        let within = slice_get_within attachments g attachment found in
        let other = slice_get-get_or attachments k nobody (omega (arith, less, within)) in
        let same : get_or attachments k nobody ≡ attachment = attachment_is s p (get_or attachments k nobody) e ∙ sym (attachment_is s p attachment (stands_there s p attachment edge port)) in
        absurd (let is = apart k g attachment (other ∙ ap Some same) found in omega (arith, is, less))

-- somebody is found where one stands
pub somebody : (attachments : List AttachmentPoint) (k : ℕ) (attachment : AttachmentPoint) → slice_get attachments k ≡ Some attachment → (s p : ℕ) → attachment.edge.0 ≡ s → attachment.port ≡ p → position (stands_at s p) attachments ≡ None → ⊥
somebody attachments k attachment found s p edge port none =
    let within = slice_get_within attachments k attachment found in
    let here = get_or_from_slice_get attachments k attachment nobody found in
    let passes = subst (λ x. stands_at s p x ≡ true) (sym here) (stands_there s p attachment edge port) in
    by (nat_lt (position_or_len (stands_at s p) attachments) (length attachments)) refl none within passes
  where
    by : (b : Bool) → nat_lt (position_or_len (stands_at s p) attachments) (length attachments) ≡ b → cond b (Some (position_or_len (stands_at s p) attachments)) None ≡ None →
        k < length attachments → stands_at s p (get_or attachments k nobody) ≡ true → ⊥
    by true e h within passes = cc h
    by false e h within passes =
        let past = ltb-false (position_or_len (stands_at s p) attachments) (length attachments) e in
        true≢false (sym passes ∙ fails_before_first (stands_at s p) attachments k nobody (omega (arith, past, within)))

-- a frame for the host that stands at a port comes to it
pub comes_to : (w : WorldView) → AreApart w.attachments → (g : ℕ) (attachment : AttachmentPoint) → slice_get w.attachments g ≡ Some attachment → (frame : List ℕ) → mac_of_host w.plan g ≡ Some (destination_of frame) →
    (s p : ℕ) → attachment.edge.0 ≡ s → attachment.port ≡ p → receiver w s p frame ≡ Some g
comes_to w apart g attachment found frame mac s p edge port =
    let same = (bytes_eq-Decides (destination_of frame).0 (destination_of frame).0).1 refl in
    let address : is_address_of (mac_of_host w.plan g) (destination_of frame) ≡ true = ap (λ o. is_address_of o (destination_of frame)) mac ∙ same in
    ap (if_for w.plan frame) (found_at w.attachments apart g attachment found s p edge port)
    ∙ cond-true (is_group (destination_of frame) || is_address_of (mac_of_host w.plan g) (destination_of frame)) (Some g) None
    (or_right (is_group (destination_of frame)) (is_address_of (mac_of_host w.plan g) (destination_of frame)) address)

-- ---- one host moves to a port where nobody stands
set_other : {X : Type 0} (xs : List X) (n k : ℕ) (y : X) → (k ≡ n → ⊥) → slice_get (set xs n y) k ≡ slice_get xs k
set_other [] n k y other = refl
set_other (x ∷ xs) zero zero y other = absurd (other refl)
set_other (x ∷ xs) zero (suc k) y other = refl
set_other (x ∷ xs) (suc n) zero y other = refl
set_other (x ∷ xs) (suc n) (suc k) y other = set_other xs n k y (λ same. other (ap suc same))

pub moved_apart : (attachments : List AttachmentPoint) (h : ℕ) (from to : AttachmentPoint) → AreApart attachments → slice_get attachments h ≡ Some from → ((k : ℕ) → slice_get attachments k ≡ Some to → ⊥) → AreApart (set attachments h to)
moved_apart attachments h from to apart there free a b attachment at_a at_b = elim (cases_eq a h) [
  | inl is_a ↦ elim (cases_eq b h) [
    | inl is_b ↦ is_a ∙ sym is_b
    | inr not_b ↦
        let same = same_Some attachment to (sym at_a ∙ ap (slice_get (set attachments h to)) is_a ∙ set_there attachments h from to there) in
        absurd (free b (sym (set_other attachments h b to not_b) ∙ at_b ∙ ap Some same))
  ]
  | inr not_a ↦ elim (cases_eq b h) [
    | inl is_b ↦
        let same = same_Some attachment to (sym at_b ∙ ap (slice_get (set attachments h to)) is_b ∙ set_there attachments h from to there) in
        absurd (free a (sym (set_other attachments h a to not_a) ∙ at_a ∙ ap Some same))
    | inr not_b ↦ apart a b attachment (sym (set_other attachments h a to not_a) ∙ at_a) (sym (set_other attachments h b to not_b) ∙ at_b)
  ]
]

-- ---- at the beginning
pub first_apart : (plan : Plan) → IsPlan plan → AreApart (map first_attachment plan.hosts)
first_apart plan is a b attachment at_a at_b = elim (cases_lt a b) [
  | inl less ↦ absurd (never a b less at_a at_b)
  | inr more ↦ elim (cases_eq a b) [ inl same ↦ same | inr differ ↦ absurd (never b a (omega (arith, more, differ)) at_b at_a) ]
]
  where
    one : (o : Option Host) → option_map first_attachment o ≡ Some attachment → (host : Host) × (o ≡ Some host) × (first_attachment host ≡ attachment)
    one None e = absurd (cc e)
    one (Some host) e = (host, refl, same_Some (first_attachment host) attachment e)

    never : (i j : ℕ) → i < j → slice_get (map first_attachment plan.hosts) i ≡ Some attachment → slice_get (map first_attachment plan.hosts) j ≡ Some attachment → ⊥
    never i j less at_i at_j =
        let x = one (slice_get plan.hosts i) (sym (slice_get-map first_attachment plan.hosts i) ∙ at_i) in
        let y = one (slice_get plan.hosts j) (sym (slice_get-map first_attachment plan.hosts j) ∙ at_j) in
        let here = get_or_from_slice_get plan.hosts i x.0 x.0 x.1 in
        let there = get_or_from_slice_get plan.hosts j y.0 x.0 y.1 in
        let same = x.2 ∙ sym y.2 in
        is.ports_apart i j x.0 less (slice_get_within plan.hosts j y.0 y.1) (
          ap (λ (h : Host). h.edge.0) here ∙ ap (λ (s : AttachmentPoint). s.edge.0) same ∙ ap (λ (h : Host). h.edge.0) (sym there),
          ap (λ (h : Host). h.port) here ∙ ap (λ (s : AttachmentPoint). s.port) same ∙ ap (λ (h : Host). h.port) (sym there),
        )
