-- The last that is due of a switch on a thing, or what the manager recorded of it before: through what the manager does.
use Rattle.std.proofs.Common.{◌≡◌, ◌⊎◌, ℕ, not, Bool, true, false, cond, List, [], ◌∷◌, ◌++◌, Option, Some, None, unwrap_or, slice_get, refl, sym, ap, subst, ◌∙◌, inl, inr, ne_eqb}
use Rattle.std.specs.List.{filter}
use Rattle.std.proofs.lemmas.Bool.{cases_eq, false≢true}
use Rattle.std.proofs.lemmas.Option.{same_Some}
use Rattle.pl_frame.specs.declared.address.SwitchId.{SwitchId}
use Rattle.pl_layouts.specs.Equality.{same_switch}
use Rattle.pl_layouts.proofs.Exports.{switch_itself}
use Rattle.pl_wiring.specs.Plan.{IsPlan, Plan}
use Rattle.pl_node.specs.declared.messages.ToManager.{ToManager}
use Rattle.pl_node.specs.declared.messages.ToManager.TheVariants as tell
use Rattle.pl_node.specs.ManagerViews.{Learnt, ManagerView}
use Rattle.pl_manager_rule.specs.ManagerRule.{manager_hears, view_after}
use Rattle.pl_manager_rule.specs.Treating.{waits_for_places}
use Rattle.pl_law_control_plane.specs.ControlPlanes.{ControlPlane}
use Rattle.pl_law_control_plane.specs.PlaneSteps.{IsReportTaken, ManagerTurns}
use Rattle.pl_law_due.specs.Due.{is_silent, words_of}
use Rattle.pl_law_due.specs.DueSteps.{IsSifted, IsTurned, ManagerPart, Parts, treats_one}
use Rattle.pl_law_due.specs.DueSteps.ManagerPart.{Released, Treated, Turned}
use Rattle.pl_law_due.proofs.Exports.{heard_or_noted, is_note, Learns, part_alike, releases_learn}
use Rattle.pl_law_records.specs.Words.{last_said}
use Rattle.pl_law_records.proofs.Last.{last_append}
use Rattle.pl_law_records.proofs.Recording.{if_of, one_switch}

-- the report that is heard stood first in the queue of its switch
pub queue_front : (f m g : ControlPlane) (s : ℕ) (id : SwitchId) (told : ToManager) → IsPlan f.plan → slice_get f.plan.ids s ≡ Some id → IsReportTaken f s told m →
    ((t : ℕ) → g.reports t ≡ m.reports t) → (t : ℕ) (id_t : SwitchId) → slice_get f.plan.ids t ≡ Some id_t →
    ((same_switch id id_t ≡ true) × (f.reports t ≡ told ∷ g.reports t)) ⊎ ((same_switch id id_t ≡ false) × (f.reports t ≡ g.reports t))
queue_front f m g s id told is named taken reports t id_t named_f = elim (cases_eq t s) [
  | inl here ↦
      let one : id ≡ id_t = same_Some id id_t (sym named ∙ ap (λ x. slice_get f.plan.ids x) (sym here) ∙ named_f) in
      inl (
        subst (λ x. same_switch id x ≡ true) one (switch_itself id),
        ap f.reports here ∙ taken.first ∙ ap (λ x. told ∷ m.reports x) (sym here) ∙ ap (λ x. told ∷ x) (sym (reports t)),
      )
  | inr other ↦ inr (
    ne_eqb id.0 id_t.0 (λ same. other (one_switch f.plan is t s id_t id named_f named (sym same))),
    sym (taken.others t other) ∙ sym (reports t),
  )
]

pub heard_last : {X : Type 0} (said : ToManager → Option X) (b : Bool) (told : ToManager) (x y : X) (before after : List ToManager) → y ≡ unwrap_or (if_of b (said told)) x →
    ((b ≡ true) × (before ≡ told ∷ after)) ⊎ ((b ≡ false) × (before ≡ after)) → last_said said y after ≡ last_said said x before
heard_last said true told x y before after is (inl front) = ap (λ z. last_said said z after) is ∙ ap (last_said said x) (sym front.1)
heard_last said false told x y before after is (inl front) = absurd (cc (front.0))
heard_last said true told x y before after is (inr same) = absurd (cc (same.0))
heard_last said false told x y before after is (inr same) = ap (λ z. last_said said z after) is ∙ ap (last_said said x) (sym same.1)

-- words that are of no place, link or group
abbrev pub is_quiet : ToManager → Bool
is_quiet (tell.Begin n) = true
is_quiet (tell.End n) = true
is_quiet tell.PodWanted = true
is_quiet told = is_note told

module _ {X : Type 0} (said : ToManager → Option X) (quiet : (told : ToManager) → is_quiet told ≡ true → said told ≡ None) where
  -- where a word says nothing
  passed : (x : X) (told : ToManager) (words : List ToManager) → is_quiet told ≡ true → last_said said x (told ∷ words) ≡ last_said said x words
  passed x told words is = ap (λ o. last_said said (unwrap_or o x) words) (quiet told is)

  pub words_say : (x : X) (queue : List ToManager) → last_said said x (words_of queue) ≡ last_said said x queue
  words_say x [] = refl
  words_say x (tell.Begin n ∷ queue) = words_say x queue ∙ sym (passed x (tell.Begin n) queue refl)
  words_say x (tell.End n ∷ queue) = words_say x queue ∙ sym (passed x (tell.End n) queue refl)
  words_say x (tell.Place place ∷ queue) = words_say (unwrap_or (said (tell.Place place)) x) queue
  words_say x (tell.Link u usable ∷ queue) = words_say (unwrap_or (said (tell.Link u usable)) x) queue
  words_say x (tell.PodWanted ∷ queue) = words_say (unwrap_or (said tell.PodWanted) x) queue
  words_say x (tell.Learned a b c ∷ queue) = words_say (unwrap_or (said (tell.Learned a b c)) x) queue
  words_say x (tell.Aged a b ∷ queue) = words_say (unwrap_or (said (tell.Aged a b)) x) queue
  words_say x (tell.Trapped a b c ∷ queue) = words_say (unwrap_or (said (tell.Trapped a b c)) x) queue
  words_say x (tell.Query a b c ∷ queue) = words_say (unwrap_or (said (tell.Query a b c)) x) queue
  words_say x (tell.Members group any ∷ queue) = words_say (unwrap_or (said (tell.Members group any)) x) queue

  -- only a wish waits for places
  wish_quiet : (told : ToManager) → waits_for_places told ≡ true → is_quiet told ≡ true
  wish_quiet tell.PodWanted is = refl
  wish_quiet (tell.Begin n) is = refl
  wish_quiet (tell.End n) is = refl
  wish_quiet (tell.Aged a b) is = refl
  wish_quiet (tell.Trapped a b c) is = refl
  wish_quiet (tell.Place place) is = absurd (false≢true is)
  wish_quiet (tell.Link u usable) is = absurd (false≢true is)
  wish_quiet (tell.Learned a b c) is = absurd (false≢true is)
  wish_quiet (tell.Query a b c) is = absurd (false≢true is)
  wish_quiet (tell.Members group any) is = absurd (false≢true is)

  others_say : (x : X) (words : List ToManager) → last_said said x (filter (λ word. not (waits_for_places word)) words) ≡ last_said said x words
  others_say x [] = refl
  others_say x (w ∷ words) = by (waits_for_places w) refl (λ y. others_say y words)
    where
      by : (b : Bool) → waits_for_places w ≡ b →
          ((y : X) → last_said said y (filter (λ word. not (waits_for_places word)) words) ≡ last_said said y words) →
          last_said said x (cond (not b) (w ∷ filter (λ word. not (waits_for_places word)) words) (filter (λ word. not (waits_for_places word)) words))
          ≡ last_said said x (w ∷ words)
      by true waits rest = rest x ∙ sym (passed x w words (wish_quiet w waits))
      by false other rest = rest (unwrap_or (said w) x)

  wishes_say : (x : X) (words : List ToManager) → last_said said x (filter waits_for_places words) ≡ x
  wishes_say x [] = refl
  wishes_say x (w ∷ words) = by (waits_for_places w) refl (wishes_say x words)
    where
      by : (b : Bool) → waits_for_places w ≡ b → last_said said x (filter waits_for_places words) ≡ x →
          last_said said x (cond b (w ∷ filter waits_for_places words) (filter waits_for_places words)) ≡ x
      by true waits rest = passed x w (filter waits_for_places words) (wish_quiet w waits) ∙ rest
      by false other rest = rest

  turned_say : (x : X) (before after : List ToManager) → IsTurned before after → last_said said x after ≡ last_said said x before
  turned_say x before after turned =
      let wishes = filter waits_for_places turned.first in
      let rest = filter (λ word. not (waits_for_places word)) turned.first in
      ap (last_said said x) turned.now
      ∙ last_append said x (rest ++ wishes) turned.others
      ∙ ap (λ y. last_said said y turned.others) (last_append said x rest wishes ∙ wishes_say (last_said said x rest) turned.first ∙ others_say x turned.first)
      ∙ sym (last_append said x turned.first turned.others)
      ∙ ap (last_said said x) (sym turned.was)

  -- what the manager recorded of a switch, which goes not by addresses, and after a word by what it says
  module _ (recorded : ManagerView → SwitchId → X) (learns : (v : ManagerView) (learnt : Learnt) (t : SwitchId) → recorded (record v { learnt = learnt }) t ≡ recorded v t)
      (heard : (v : ManagerView) (id t : SwitchId) (told : ToManager) → recorded (view_after v id told) t ≡ unwrap_or (if_of (same_switch id t) (said told)) (recorded v t)) where
    abbrev pub says_last : ControlPlane → ℕ → SwitchId → X
    says_last f s id = last_said said (recorded f.manager id) (f.reports s)

    learnt_says : (f g : ControlPlane) (s : ℕ) (id : SwitchId) → Learns f g → recorded g.manager id ≡ recorded f.manager id
    learnt_says f g s id more = ap (λ v. recorded v id) more.manager ∙ learns f.manager g.manager.learnt id

    pub treated_says : (f m g : ControlPlane) (s : ℕ) (id : SwitchId) (told : ToManager) → IsPlan f.plan → slice_get f.plan.ids s ≡ Some id → IsReportTaken f s told m →
        ManagerTurns treats_one m id told g → (t : ℕ) (id_t : SwitchId) → slice_get f.plan.ids t ≡ Some id_t → says_last g t id_t ≡ says_last f t id_t
    unfolding manager_hears
    treated_says f m g s id told is named taken turns t id_t named_t =
        let front = queue_front f m g s id told is named taken turns.reports t id_t named_t in
        elim (heard_or_noted m g id told turns) [
          | inl ruled ↦
              let after : g.manager ≡ view_after f.manager id told = ruled.manager ∙ ruled.ruled.0 ∙ ap (λ v. view_after v id told) taken.left.manager in
              heard_last said (same_switch id id_t) told (recorded f.manager id_t) (recorded g.manager id_t) (f.reports t) (g.reports t)
              (ap (λ v. recorded v id_t) after ∙ heard f.manager id id_t told) front
          | inr noted ↦
              ap (λ x. last_said said x (g.reports t)) (learnt_says m g t id_t noted.1 ∙ ap (λ v. recorded v id_t) taken.left.manager)
              ∙ sym (elim front [
                | inl first ↦ ap (last_said said (recorded f.manager id_t)) first.1 ∙ passed (recorded f.manager id_t) told (g.reports t) (note_quiet told noted.0)
                | inr same ↦ ap (last_said said (recorded f.manager id_t)) same.1
              ])
        ]
      where
        note_quiet : (w : ToManager) → is_note w ≡ true → is_quiet w ≡ true
        note_quiet (tell.Begin n) note = refl
        note_quiet (tell.End n) note = refl
        note_quiet tell.PodWanted note = refl
        note_quiet (tell.Place place) note = note
        note_quiet (tell.Link u usable) note = note
        note_quiet (tell.Learned a b c) note = note
        note_quiet (tell.Aged a b) note = note
        note_quiet (tell.Trapped a b c) note = note
        note_quiet (tell.Query a b c) note = note
        note_quiet (tell.Members group any) note = note

    part_says : (f g : ControlPlane) → IsPlan f.plan → ManagerPart f g → (t : ℕ) (id : SwitchId) → slice_get f.plan.ids t ≡ Some id → says_last g t id ≡ says_last f t id
    part_says f g is (Treated s id told mid there named taken turns) t id_t named_t = treated_says f mid g s id told is named taken turns t id_t named_t
    part_says f g is (Turned turns) t id named =
        turned_say (recorded g.manager id) (f.reports t) (g.reports t) (turns.reports t) ∙ ap (λ v. last_said said (recorded v id) (f.reports t)) turns.manager
    part_says f g is (Released aged releases) t id named =
        ap (last_said said (recorded g.manager id)) (releases.reports t) ∙ ap (λ x. last_said said x (f.reports t)) (learnt_says f g t id (releases_learn f aged g releases))

    pub parts_say : (mids : List ControlPlane) (f g : ControlPlane) → IsPlan f.plan → Parts mids f g → (t : ℕ) (id : SwitchId) → slice_get f.plan.ids t ≡ Some id →
        says_last g t id ≡ says_last f t id
    parts_say [] f g is part t id named = part_says f g is part t id named
    parts_say (mid ∷ mids) f g is parts t id named =
        let plan = (part_alike f mid parts.0).plan in
        parts_say mids mid g (subst IsPlan (sym plan) is) parts.1 t id (ap (λ (p : Plan). slice_get p.ids t) plan ∙ named) ∙ part_says f mid is parts.0 t id named

    pub sifted_says : (f g : ControlPlane) → IsSifted f g → (t : ℕ) (id : SwitchId) → is_silent f.orders t ≡ false → says_last g t id ≡ says_last f t id
    sifted_says f g sifted t id loud =
        ap (last_said said (recorded g.manager id)) (sifted.reports t ∙ ap (λ b. cond b [] (words_of (f.reports t))) loud)
        ∙ words_say (recorded g.manager id) (f.reports t)
        ∙ ap (λ v. last_said said (recorded v id) (f.reports t)) sifted.manager
