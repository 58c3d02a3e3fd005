-- What a switch tells the manager of its links where its view changes.
use Rattle.std.proofs.Common.{◌≡◌, ◌⊎◌, ℕ, ◌<◌, ◌&&◌, not, Bool, true, false, if◌then◌else◌, List, [], ◌∷◌, ◌++◌, Option, Some, None, unwrap_or, get_or, nat_lt, refl, sym, ap, ◌∙◌, subst, inl, inr, arith, true≢false}
use Rattle.std.specs.List.{flat_map}
use Rattle.std.proofs.lemmas.Bool.{cases_eq, cond_both}
use Rattle.std.proofs.lemmas.Option.{same_Some}
use Rattle.pl_frame.specs.declared.address.SwitchId.{SwitchId}
use Rattle.pl_layouts.specs.Equality.{same_switch}
use Rattle.pl_layouts.specs.Placement.{is_known, same_place}
use Rattle.pl_layouts.proofs.Exports.{switch_itself}
use Rattle.pl_journal.specs.Places.{are_alike}
use Rattle.pl_node.specs.declared.acts.Act.{Act}
use Rattle.pl_node.specs.declared.acts.Act.TheVariants.{Tell}
use Rattle.pl_node.specs.declared.messages.ToManager.TheVariants.{PodWanted, Place as TellPlace}
use Rattle.pl_node.specs.declared.neighbour.Neighbour.{Neighbour}
use Rattle.pl_node.specs.PortRecords.{heard_echo, heard_id, id_at, is_id, is_usable, is_usable_record, new_port, port_of, ports_of_switch}
use Rattle.pl_node.specs.SwitchViews.{SwitchView}
use Rattle.pl_node.proofs.Exports.{among_range, IsAmong}
use Rattle.pl_manager_rule.specs.Histories.{link_said}
use Rattle.pl_manager_rule.proofs.Exports.{same_is}
use Rattle.pl_switch_rule.specs.Telling.{changes_told, link_to, link_told, place_told, pod_wanted}
use Rattle.pl_law_control_plane.specs.ControlPlanes.{tells}
use Rattle.pl_law_records.specs.Words.{last_said}
use Rattle.pl_steps.specs.Steps.{SwitchStep, ◌▹◌}
use Rattle.pl_law_records.proofs.TellingLinks.{IsStill, IsTelling, alike_is, flat_silent, said_more, then_telling}

-- a switch is heard at this port alone
pub record IsOnlyAt (w : SwitchView) (u : SwitchId) (p : ℕ) : Type 0 where
  pub within : p < w.k
  pub only : (q : ℕ) → id_at w q ≡ Some u → q ≡ p
  pub named : (x : SwitchId) → id_at w p ≡ Some x → x ≡ u

-- a port where nothing was heard is not usable
pub unheard : (v : SwitchView) (p : ℕ) → id_at v p ≡ None → is_usable v p ≡ false
unheard v p none = by (port_of v p).heard none (nat_lt (port_of v p).silent 3)
  where
    by : (heard : Option Neighbour) → heard_id heard ≡ None → (b : Bool) → (b && is_id (heard_echo heard) v.id) ≡ false
    by None e true = refl
    by None e false = refl
    by (Some n) e b = absurd (cc)

module _ (old new : SwitchView) (u : SwitchId) (p : ℕ) (at : IsOnlyAt new u p) (silent : id_at new p ≡ None → is_usable old p ≡ false) where
  abbrev now : Bool
  now = is_usable new p

  abbrev after : Bool → List Act → Bool
  after x acts = last_said (link_said u) x (tells acts)

  -- a word about the switch is about this port
  word : (q : ℕ) (o : Option SwitchId) → id_at new q ≡ o → (x : Bool) → (after x (link_to o (is_usable new q)) ≡ now) ⊎ ((after x (link_to o (is_usable new q)) ≡ x) × (o ≡ Some u → ⊥))
  word q None e x = inr (refl, λ h. absurd (cc))
  word q (Some y) e x = by (same_switch y u) refl
    where
      by : (b : Bool) → same_switch y u ≡ b → (unwrap_or (if b then Some (is_usable new q) else None) x ≡ now) ⊎ ((unwrap_or (if b then Some (is_usable new q) else None) x ≡ x) × (Some y ≡ Some u → ⊥))
      by true is = inl (ap (is_usable new) (at.only q (e ∙ ap Some (same_is y u is))))
      by false is = inr (refl, λ h. true≢false (sym (subst (λ z. same_switch z u ≡ true) (sym (same_Some y u h)) (switch_itself u)) ∙ is))

  one : (q : ℕ) (x : Bool) → x ≡ now → after x (link_told old new q) ≡ now
  one q x is =
      cond_both (are_alike (is_usable old q) (is_usable new q)) [] (link_to (id_at new q) (is_usable new q)) (λ acts. after x acts ≡ now) (λ h. is)
      (λ h. elim (word q (id_at new q) refl x) [ inl said ↦ said | inr unsaid ↦ unsaid.0 ∙ is ])

  stays : (qs : List ℕ) (x : Bool) → x ≡ now → after x (flat_map (link_told old new) qs) ≡ now
  stays [] x is = is
  stays (q ∷ qs) x is = said_more (link_said u) x (link_told old new q) (flat_map (link_told old new) qs) ∙ stays qs _ (one q x is)

  -- at the port itself
  here : (q : ℕ) → q ≡ p → after (is_usable old p) (link_told old new q) ≡ now
  here q is =
      subst (λ r. after (is_usable old p) (link_told old new r) ≡ now) (sym is)
      (cond_both (are_alike (is_usable old p) (is_usable new p)) [] (link_to (id_at new p) (is_usable new p)) (λ acts. after (is_usable old p) acts ≡ now)
      (λ h. alike_is (is_usable old p) (is_usable new p) h)
      (λ h. elim (word p (id_at new p) refl (is_usable old p)) [ inl said ↦ said | inr unsaid ↦ unsaid.0 ∙ quiet (id_at new p) refl unsaid.1 ]))
    where
      quiet : (o : Option SwitchId) → id_at new p ≡ o → (id_at new p ≡ Some u → ⊥) → is_usable old p ≡ now
      quiet None e other = silent e ∙ sym (unheard new p e)
      quiet (Some y) e other = absurd (other (e ∙ ap Some (at.named y e)))

  -- at another port nothing is said of the switch
  elsewhere : (q : ℕ) (x : Bool) → (q ≡ p → ⊥) → after x (link_told old new q) ≡ x
  elsewhere q x other =
      cond_both (are_alike (is_usable old q) (is_usable new q)) [] (link_to (id_at new q) (is_usable new q)) (λ acts. after x acts ≡ x) (λ h. refl)
      (λ h. silent_at (id_at new q) refl)
    where
      silent_at : (o : Option SwitchId) → id_at new q ≡ o → after x (link_to o (is_usable new q)) ≡ x
      silent_at None e = refl
      silent_at (Some y) e = by (same_switch y u) refl
        where
          by : (b : Bool) → same_switch y u ≡ b → unwrap_or (if b then Some (is_usable new q) else None) x ≡ x
          by true is = absurd (other (at.only q (e ∙ ap Some (same_is y u is))))
          by false is = refl

  told : (qs : List ℕ) → IsAmong p qs → after (is_usable old p) (flat_map (link_told old new) qs) ≡ now
  told [] h = absurd h
  told (q ∷ qs) h = said_more (link_said u) (is_usable old p) (link_told old new q) (flat_map (link_told old new) qs) ∙ elim (cases_eq q p) [
    | inl is ↦ stays qs _ (here q is)
    | inr other ↦ ap (λ x. after x (flat_map (link_told old new) qs)) (elsewhere q (is_usable old p) other) ∙ elim h [
      | inl is ↦ absurd (other is)
      | inr later ↦ told qs later
    ]
  ]

  wish_silent : (x : Bool) → after x (pod_wanted old.place new.place) ≡ x
  wish_silent x =
      cond_both (is_known new.place.level 0 && is_known new.place.position 0 && not (is_known old.place.position 0)) (Tell PodWanted ∷ []) [] (λ acts. after x acts ≡ x)
      (λ h. refl) (λ h. refl)

  place_silent : (x : Bool) → after x (place_told old.place new.place) ≡ x
  place_silent x = cond_both (same_place old.place new.place) [] (Tell (TellPlace new.place) ∷ []) (λ acts. after x acts ≡ x) (λ h. refl) (λ h. refl)

  -- a change of the link is told
  pub told_link : after (is_usable old p) (changes_told old new) ≡ now
  told_link =
      let place = place_told old.place new.place in
      let links = flat_map (link_told old new) (ports_of_switch new.k) in
      said_more (link_said u) (is_usable old p) (place ++ links) (pod_wanted old.place new.place) ∙ wish_silent (after (is_usable old p) (place ++ links))
      ∙ said_more (link_said u) (is_usable old p) place links ∙ ap (λ x. after x links) (place_silent (is_usable old p))
      ∙ told (ports_of_switch new.k) (among_range p 0 new.k p (omega arith) at.within)

-- Nothing is told of a switch that is heard at no port.
pub told_no_other : (old new : SwitchView) (u : SwitchId) → ((p : ℕ) → id_at new p ≡ Some u → ⊥) → (before : Bool) →
    last_said (link_said u) before (tells (changes_told old new)) ≡ before
told_no_other old new u nowhere before =
    let place = place_told old.place new.place in
    let links = flat_map (link_told old new) (ports_of_switch new.k) in
    said_more (link_said u) before (place ++ links) (pod_wanted old.place new.place) ∙ wish (last_said (link_said u) before (tells (place ++ links)))
    ∙ said_more (link_said u) before place links ∙ flat_silent (link_said u) (link_told old new) (ports_of_switch new.k) at_port (last_said (link_said u) before (tells place))
    ∙ at_place before
  where
    wish : (x : Bool) → last_said (link_said u) x (tells (pod_wanted old.place new.place)) ≡ x
    wish x =
        cond_both (is_known new.place.level 0 && is_known new.place.position 0 && not (is_known old.place.position 0)) (Tell PodWanted ∷ []) []
        (λ acts. last_said (link_said u) x (tells acts) ≡ x) (λ h. refl) (λ h. refl)

    at_place : (x : Bool) → last_said (link_said u) x (tells (place_told old.place new.place)) ≡ x
    at_place x =
        cond_both (same_place old.place new.place) [] (Tell (TellPlace new.place) ∷ []) (λ acts. last_said (link_said u) x (tells acts) ≡ x) (λ h. refl) (λ h. refl)

    another : (o : Option SwitchId) (usable : Bool) (x : Bool) → (o ≡ Some u → ⊥) → last_said (link_said u) x (tells (link_to o usable)) ≡ x
    another None usable x differ = refl
    another (Some y) usable x differ = by (same_switch y u) refl
      where
        by : (b : Bool) → same_switch y u ≡ b → unwrap_or (if b then Some usable else None) x ≡ x
        by true e = absurd (differ (ap Some (same_is y u e)))
        by false e = refl

    at_port : (p : ℕ) (x : Bool) → last_said (link_said u) x (tells (link_told old new p)) ≡ x
    at_port p x =
        cond_both (are_alike (is_usable old p) (is_usable new p)) [] (link_to (id_at new p) (is_usable new p)) (λ acts. last_said (link_said u) x (tells acts) ≡ x)
        (λ h. refl) (λ h. another (id_at new p) (is_usable new p) x (nowhere p))

-- Parts of steps.

pub only_same : (v w : SwitchView) (u : SwitchId) (p : ℕ) → w.k ≡ v.k → w.ports ≡ v.ports → IsOnlyAt w u p → IsOnlyAt v u p
only_same v w u p k ports at = record {
  within = subst (λ n. p < n) k at.within;
  only = λ q h. at.only q (ap (λ ps. heard_id (get_or ps q new_port).heard) ports ∙ h);
  named = λ x h. at.named x (ap (λ ps. heard_id (get_or ps p new_port).heard) ports ∙ h);
}

pub usable_same : (v w : SwitchView) (p : ℕ) → w.id ≡ v.id → w.ports ≡ v.ports → is_usable w p ≡ is_usable v p
usable_same v w p id ports = ap (λ x. is_usable_record x (port_of w p)) id ∙ ap (λ ps. is_usable_record v.id (get_or ps p new_port)) ports

-- and the last that is said of the link to a switch that is heard at one port alone says whether that port is usable then; of a switch that is
-- heard at no port nothing is said
pub record LinksAreTold (v : SwitchView) (s : SwitchStep) : Type 0 where
  pub telling : IsTelling v s
  pub links : (u : SwitchId) (p : ℕ) → IsOnlyAt s.view u p → last_said (link_said u) (is_usable v p) (tells s.acts) ≡ is_usable s.view p
  pub others : (u : SwitchId) → ((p : ℕ) → id_at s.view p ≡ Some u → ⊥) → (before : Bool) → last_said (link_said u) before (tells s.acts) ≡ before

pub still_told : (v : SwitchView) (s : SwitchStep) → IsStill v s → LinksAreTold v s
still_told v s still = record {
  telling = still.telling;
  links = λ u p at. still.links u (is_usable v p) ∙ sym (usable_same v s.view p still.id still.ports);
  others = λ u nowhere before. still.links u before;
}

pub then_told : (v : SwitchView) (s : SwitchStep) (next : SwitchView → SwitchStep) → LinksAreTold v s → ((w : SwitchView) → IsStill w (next w)) → LinksAreTold v (s ▹ next)
then_told v s next a behind = let b = behind s.view in let rest = (next s.view).acts in record {
  telling = then_telling v s next a.telling (λ w. (behind w).telling);
  links = λ u p at.
      said_more (link_said u) (is_usable v p) s.acts rest ∙ b.links u (last_said (link_said u) (is_usable v p) (tells s.acts))
      ∙ a.links u p (only_same s.view (next s.view).view u p b.k b.ports at) ∙ sym (usable_same s.view (next s.view).view p b.id b.ports);
  others = λ u nowhere before.
      said_more (link_said u) before s.acts rest ∙ b.links u (last_said (link_said u) before (tells s.acts))
      ∙ a.others u (λ p h. nowhere p (ap (λ ps. heard_id (get_or ps p new_port).heard) b.ports ∙ h)) before;
}

pub either_told : (v : SwitchView) (b : Bool) (x y : SwitchStep) → LinksAreTold v x → LinksAreTold v y → LinksAreTold v (if b then x else y)
either_told v true x y a b = a
either_told v false x y a b = b
