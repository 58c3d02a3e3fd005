-- Hosts come to ports and leave them, each port for one host.
use Rattle.std.proofs.Common.{◌≡◌, ℕ, zero, suc, ◌+◌, ◌<◌, ◌==◌, ◌⊎◌, inl, inr, get_or, Bool, true, false, cond, List, [], ◌∷◌, ◌++◌, length, map, set, take, Option, Some, None, slice_get, refl, sym, ◌∙◌, ap, subst, arith}
use Rattle.std.specs.List.{AllPairs, position}
use Rattle.std.specs.Map.{lookup}
use Rattle.std.specs.Option.{IfSome, option_map, option_or}
use Rattle.std.proofs.lemmas.Bool.{and_parts, eqb-false}
use Rattle.std.proofs.lemmas.Bool.Decides.{nat_tests}
use Rattle.std.proofs.lemmas.Grind.{common_steps}
use Rattle.std.proofs.lemmas.List.Quantifiers.{position-Some}
use Rattle.std.proofs.lemmas.Option.{same_Some}
use Rattle.pl_lemmas.proofs.Exports.{option_or_none, set_get_other}
use Rattle.pl_wiring.specs.declared.host.Host.{Host}
use Rattle.pl_wiring.specs.declared.host.HostNo.{HostNo}
use Rattle.pl_wiring.specs.declared.label.SwitchNo.{SwitchNo}
use Rattle.pl_wiring.specs.Plan.{IsAttachedAt}
use Rattle.pl_world.specs.declared.attachment.AttachmentPoint.{AttachmentPoint}
use Rattle.pl_world.specs.Booting.{first_attachment}
use Rattle.pl_world.specs.Changes.{stands_at}
use Rattle.pl_world_parts.specs.Attachments.{TellsWhoIsAttached, same_attachment}
use Rattle.pl_world_parts.proofs.FirstIndices.{position_append, position_fails, position_free, position_none, position_same}

-- who stands at the port of another
abbrev pub at_port : AttachmentPoint → AttachmentPoint → Bool
at_port port attachment = stands_at port.edge.0 port.port attachment

same_number : (n m : ℕ) → (n == m) ≡ true → n ≡ m
same_number n m e = grind (arith, nat_tests)

abbrev attachment_at : ℕ → ℕ → AttachmentPoint
attachment_at s port = record { edge = record { 0 = s }; port = port }

attachment_from : (a b : AttachmentPoint) → a.edge.0 ≡ b.edge.0 → a.port ≡ b.port → a ≡ b
attachment_from a b e p = ap (λ s. attachment_at s a.port) e ∙ ap (attachment_at b.edge.0) p

pub at_port-is : (a b : AttachmentPoint) → at_port a b ≡ true → a ≡ b
at_port-is a b e =
    let both = and_parts (b.edge.0 == a.edge.0) (b.port == a.port) e in
    attachment_from a b (sym (same_number b.edge.0 a.edge.0 both.0)) (sym (same_number b.port a.port both.1))

at_number : (n : ℕ) → (n == n) ≡ true
at_number n = grind (arith, nat_tests)

pub at_itself : (a : AttachmentPoint) → at_port a a ≡ true
at_itself a = rw (at_number a.edge.0, at_number a.port) refl

false_from : {T : Type 0} (a b : T) (test : Bool) → (test ≡ true → a ≡ b) → (a ≡ b → ⊥) → test ≡ false
false_from a b true is apart = absurd (apart (is refl))
false_from a b false is apart = refl

not_both : {A : Type 0} (b : Bool) → b ≡ true → b ≡ false → A
not_both true t f = absurd (cc)
not_both false t f = absurd (cc)

get_set : {T : Type 0} (xs : List T) (n : ℕ) (y x : T) → n < length xs → slice_get (set xs n y) n ≡ Some x → y ≡ x
get_set [] n y x within at = absurd (omega arith)
get_set (z ∷ xs) zero y x within at = same_Some y x at
get_set (z ∷ xs) (suc n) y x within at = get_set xs n y x (omega arith) at

get_last : {T : Type 0} (xs : List T) (n : ℕ) (y x : T) → slice_get (xs ++ y ∷ []) n ≡ Some x → (slice_get xs n ≡ Some x) ⊎ ((n ≡ length xs) × (y ≡ x))
get_last [] zero y x at = inr (refl, same_Some y x at)
get_last [] (suc n) y x at = absurd (cc)
get_last (z ∷ xs) zero y x at = inl at
get_last (z ∷ xs) (suc n) y x at = elim (get_last xs n y x at) as (λ _. (slice_get xs n ≡ Some x) ⊎ ((suc n ≡ suc (length xs)) × (y ≡ x))) [
  | inl h ↦ inl h
  | inr h ↦ inr (ap suc h.0, h.1)
]

-- at first no host stands anywhere
pub nobody : TellsWhoIsAttached [] []
nobody = record { found = λ at. refl; alone = λ n attachment at. absurd (cc) }

-- one more host stands where nobody did
module _ (attachments : List AttachmentPoint) (before after : List (AttachmentPoint × HostNo)) (attachment : AttachmentPoint) (h : HostNo) (is : h.0 ≡ length attachments)
    (free : position (at_port attachment) attachments ≡ None) (tells : TellsWhoIsAttached attachments before)
    (came : (at : AttachmentPoint) → lookup (same_attachment at) after ≡ cond (at_port at attachment) (Some h) (lookup (same_attachment at) before)) where
  last_index : position (at_port attachment) (attachments ++ attachment ∷ []) ≡ Some (length attachments)
  last_index =
      position_append (at_port attachment) attachments attachment
      ∙ ap (λ o. option_or o (cond (at_port attachment attachment) (Some (length attachments)) None)) free
      ∙ ap (λ b. cond b (Some (length attachments)) None) (at_itself attachment)

  found_more : (at : AttachmentPoint) (b : Bool) → at_port at attachment ≡ b →
      option_map (λ (n : HostNo). n.0) (cond b (Some h) (lookup (same_attachment at) before)) ≡ position (at_port at) (attachments ++ attachment ∷ [])
  found_more at true e =
      let same : at ≡ attachment = at_port-is at attachment e in
      subst (λ a. Some h.0 ≡ position (at_port a) (attachments ++ attachment ∷ [])) (sym same) (ap (λ n. Some n) is ∙ sym last_index)
  found_more at false e =
      tells.found at
      ∙ sym (position_append (at_port at) attachments attachment
      ∙ ap (λ b. option_or (position (at_port at) attachments) (cond b (Some (length attachments)) None)) e
      ∙ option_or_none (position (at_port at) attachments))

  alone_more : (n : ℕ) (x : AttachmentPoint) → (slice_get attachments n ≡ Some x) ⊎ ((n ≡ length attachments) × (attachment ≡ x)) → position (at_port x) (attachments ++ attachment ∷ []) ≡ Some n
  alone_more n x (inl at) =
      position_append (at_port x) attachments attachment ∙ ap (λ o. option_or o (cond (at_port x attachment) (Some (length attachments)) None)) (tells.alone n x at)
  alone_more n x (inr at) = subst (λ y. position (at_port y) (attachments ++ attachment ∷ []) ≡ Some n) at.1 (last_index ∙ ap (λ m. Some m) (sym at.0))

  pub one_more : TellsWhoIsAttached (attachments ++ attachment ∷ []) after
  one_more = record {
    found = λ at. ap (option_map (λ (n : HostNo). n.0)) (came at) ∙ found_more at (at_port at attachment) refl;
    alone = λ n x at. alone_more n x (get_last attachments n attachment x at);
  }

-- a host leaves its port for one where nobody stands
module _ (attachments : List AttachmentPoint) (before mid after : List (AttachmentPoint × HostNo)) (h : HostNo) (from to : AttachmentPoint) (within : h.0 < length attachments)
    (stood : slice_get attachments h.0 ≡ Some from) (free : position (at_port to) attachments ≡ None) (tells : TellsWhoIsAttached attachments before)
    (came : (at : AttachmentPoint) → lookup (same_attachment at) mid ≡ cond (at_port at to) (Some h) (lookup (same_attachment at) before))
    (left : (at : AttachmentPoint) → lookup (same_attachment at) after ≡ cond (at_port at from) None (lookup (same_attachment at) mid)) where
  not_there : (n : ℕ) (x : AttachmentPoint) → slice_get attachments n ≡ Some x → x ≡ to → ⊥
  not_there n x at same =
      not_both (at_port to to) (at_itself to) (ap (at_port to) (sym same) ∙ position_none (at_port to) attachments free n x at)

  one_index : (n m : ℕ) (x y : AttachmentPoint) → slice_get attachments n ≡ Some x → slice_get attachments m ≡ Some y → x ≡ y → n ≡ m
  one_index n m x y at there same =
      same_Some n m (sym (tells.alone n x at) ∙ ap (λ s. position (at_port s) attachments) same ∙ tells.alone m y there)

  leaves : (n : ℕ) (x : AttachmentPoint) (b : Bool) → (h.0 == n) ≡ b → slice_get (set attachments h.0 to) n ≡ Some x → at_port from x ≡ false
  leaves n x true e at =
      let same : h.0 ≡ n = same_number h.0 n e in
      let is : to ≡ x = get_set attachments h.0 to x within (ap (slice_get (set attachments h.0 to)) same ∙ at) in
      false_from from x (at_port from x) (at_port-is from x) (λ f. not_there h.0 from stood (f ∙ sym is))
  leaves n x false e at =
      let apart = eqb-false h.0 n e in
      let there = sym (set_get_other attachments h.0 n to apart) ∙ at in
      false_from from x (at_port from x) (at_port-is from x) (λ f. apart (one_index h.0 n from x stood there f))

  came_there : position (at_port to) (set attachments h.0 to) ≡ Some h.0
  came_there = position_free (at_port to) attachments h.0 to within free (at_itself to)

  found_came : (at : AttachmentPoint) (b : Bool) → at_port at to ≡ b → at_port at from ≡ false →
      option_map (λ (n : HostNo). n.0) (cond b (Some h) (lookup (same_attachment at) before)) ≡ position (at_port at) (set attachments h.0 to)
  found_came at true e f = subst (λ a. Some h.0 ≡ position (at_port a) (set attachments h.0 to)) (sym (at_port-is at to e)) (sym came_there)
  found_came at false e f =
      tells.found at
      ∙ sym (position_same (at_port at) attachments h.0 to
      (λ x there. subst (λ y. at_port at y ≡ false) (same_Some from x (sym stood ∙ there)) f) e)

  found_moved : (at : AttachmentPoint) (b : Bool) → at_port at from ≡ b →
      option_map (λ (n : HostNo). n.0) (cond b None (lookup (same_attachment at) mid)) ≡ position (at_port at) (set attachments h.0 to)
  found_moved at true e =
      subst (λ a. None ≡ position (at_port a) (set attachments h.0 to)) (sym (at_port-is at from e))
      (sym (position_fails (at_port from) (set attachments h.0 to) (λ n x. leaves n x (h.0 == n) refl)))
  found_moved at false e = ap (option_map (λ (n : HostNo). n.0)) (came at) ∙ found_came at (at_port at to) refl e

  alone_moved : (n : ℕ) (x : AttachmentPoint) (b : Bool) → (h.0 == n) ≡ b → slice_get (set attachments h.0 to) n ≡ Some x →
      position (at_port x) (set attachments h.0 to) ≡ Some n
  alone_moved n x true e at =
      let same : h.0 ≡ n = same_number h.0 n e in
      let is : to ≡ x = get_set attachments h.0 to x within (ap (slice_get (set attachments h.0 to)) same ∙ at) in
      subst (λ y. position (at_port y) (set attachments h.0 to) ≡ Some n) is (came_there ∙ ap (λ m. Some m) same)
  alone_moved n x false e at =
      let apart = eqb-false h.0 n e in
      let there = sym (set_get_other attachments h.0 n to apart) ∙ at in
      position_same (at_port x) attachments h.0 to
      (λ y here. false_from x y (at_port x y) (at_port-is x y) (λ f. apart (one_index h.0 n y x here there (sym f))))
      (false_from x to (at_port x to) (at_port-is x to) (not_there n x there))
      ∙ tells.alone n x there

  pub moved : TellsWhoIsAttached (set attachments h.0 to) after
  moved = record {
    found = λ at. ap (option_map (λ (n : HostNo). n.0)) (left at) ∙ found_moved at (at_port at from) refl;
    alone = λ n x. alone_moved n x (h.0 == n) refl;
  }

-- where hosts stand at first, each at a port of its own
stood_before : (hosts : List Host) (n m : ℕ) (x : AttachmentPoint) (d : Host) → slice_get (map first_attachment (take n hosts)) m ≡ Some x →
    (m < n) × (x ≡ first_attachment (get_or hosts m d))
stood_before [] zero m x d at = absurd (cc)
stood_before [] (suc n) m x d at = absurd (cc)
stood_before (host ∷ hosts) zero m x d at = absurd (cc)
stood_before (host ∷ hosts) (suc n) zero x d at = (omega arith, sym (same_Some (first_attachment host) x at))
stood_before (host ∷ hosts) (suc n) (suc m) x d at = let before = stood_before hosts n m x d at in let less = before.0 in (omega arith, before.1)

pub first_free : (hosts : List Host) (n : ℕ) (d : Host) (attachment : AttachmentPoint) → n < length hosts → AllPairs (λ g h. IsAttachedAt g h.edge.0 h.port → ⊥) hosts →
    attachment ≡ first_attachment (get_or hosts n d) → position (at_port attachment) (map first_attachment (take n hosts)) ≡ None
first_free hosts n d attachment within apart is =
    position_fails (at_port attachment) (map first_attachment (take n hosts)) (λ m x at.
    let before = stood_before hosts n m x d at in
    false_from attachment x (at_port attachment x) (at_port-is attachment x) (λ e.
    let same : first_attachment (get_or hosts m d) ≡ first_attachment (get_or hosts n d) = sym before.1 ∙ sym e ∙ is in
    apart m n d before.0 within (ap (λ s. s.edge.0) same, ap (λ s. s.port) same)))

pub first_more : (hosts : List Host) (attachments later : List AttachmentPoint) (before after : List (AttachmentPoint × HostNo)) (n : ℕ) (d : Host) (h : HostNo) (attachment : AttachmentPoint) →
    n < length hosts → AllPairs (λ g h. IsAttachedAt g h.edge.0 h.port → ⊥) hosts → h.0 ≡ n → attachment ≡ first_attachment (get_or hosts n d) →
    attachments ≡ map first_attachment (take n hosts) → TellsWhoIsAttached attachments before →
    ((at : AttachmentPoint) → lookup (same_attachment at) after ≡ cond (at_port at attachment) (Some h) (lookup (same_attachment at) before)) → later ≡ attachments ++ attachment ∷ [] →
    (later ≡ map first_attachment (take (n + 1) hosts)) × TellsWhoIsAttached later after
first_more hosts attachments later before after n d h attachment within apart is here so_far tells came more =
    let many : length attachments ≡ n = grind (arith, common_steps) in
    let free : position (at_port attachment) attachments ≡ None = ap (position (at_port attachment)) so_far ∙ first_free hosts n d attachment within apart here in
    let next : later ≡ map first_attachment (take (n + 1) hosts) = grind (arith, common_steps) in
    (next, subst (λ (xs : List AttachmentPoint). TellsWhoIsAttached xs after) (sym more) (one_more attachments before after attachment h (is ∙ sym many) free tells came))

-- what the entries find at a port
module _ (attachments now : List AttachmentPoint) (entries : List (AttachmentPoint × HostNo)) (s : SwitchNo) (port : ℕ) (there : Option HostNo) (viewed : attachments ≡ now)
    (tells : TellsWhoIsAttached attachments entries) (is : there ≡ lookup (same_attachment (record { edge = s; port = port })) entries) where
  pub found_at : option_map (λ (h : HostNo). h.0) there ≡ position (stands_at s.0 port) now
  found_at = ap (option_map (λ (h : HostNo). h.0)) is ∙ tells.found (record { edge = s; port = port }) ∙ ap (position (stands_at s.0 port)) viewed

  pub found_within : IfSome there (λ h. h.0 < length now)
  found_within = elim there as (λ o. option_map (λ (h : HostNo). h.0) o ≡ position (stands_at s.0 port) now → IfSome o (λ h. h.0 < length now)) [
    | None ↦ λ e. tt
    | Some h ↦ λ e. (position-Some (stands_at s.0 port) now h.0 (record { edge = s; port = port }) (sym e)).0
  ] found_at

  pub found_alone : (n : ℕ) (attachment : AttachmentPoint) → slice_get now n ≡ Some attachment → stands_at s.0 port attachment ≡ true →
      option_map (λ (h : HostNo). h.0) there ≡ Some n
  found_alone n attachment at here =
      found_at
      ∙ ap (λ p. position (at_port p) now) (at_port-is (record { edge = s; port = port }) attachment here)
      ∙ ap (position (at_port attachment)) (sym viewed)
      ∙ tells.alone n attachment (ap (λ xs. slice_get xs n) viewed ∙ at)
