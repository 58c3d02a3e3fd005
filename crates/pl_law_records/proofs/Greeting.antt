-- A report to a manager that knows nothing says of each thing what the switch holds.
use Rattle.std.proofs.Common.{◌≡◌, ℕ, ◌||◌, Bool, true, false, if◌then◌else◌, List, [], ◌∷◌, ◌++◌, map, Option, Some, None, is_some, unwrap_or, refl, sym, ap, subst, ◌∙◌, inl, inr, arith, eq-eqb}
use Rattle.std.specs.List.{AllByRecursion, flat_map, list_any}
use Rattle.std.proofs.lemmas.Bool.{cases_Bool, false≢true, or_left, or_right}
use Rattle.pl_frame.specs.declared.address.SwitchId.{SwitchId}
use Rattle.pl_layouts.specs.declared.place.Place.{Place}
use Rattle.pl_layouts.proofs.Exports.{switch_itself}
use Rattle.pl_node.specs.declared.messages.ToManager.{ToManager}
use Rattle.pl_node.specs.declared.messages.ToManager.TheVariants as tell
use Rattle.pl_node.specs.PortRecords.{id_at, is_usable, ports_of_switch}
use Rattle.pl_node.specs.SwitchViews.{SwitchView}
use Rattle.pl_node.proofs.Exports.{among_range, IsAmong}
use Rattle.pl_manager_rule.specs.Histories.{link_said, members_said, place_said}
use Rattle.pl_switch_rule.specs.Intake.{groups_of, has_member_of}
use Rattle.pl_switch_rule.specs.Reporting.{addresses_reported, hears_hello, link_reported, links_reported, members_reported, own_reported, report, report_for, wish_reported}
use Rattle.pl_law_control_plane.specs.ControlPlanes.{tells}
use Rattle.pl_law_control_plane.proofs.Exports.{any_append}
use Rattle.pl_law_due.proofs.Exports.{each_tells}
use Rattle.pl_law_records.specs.Words.{last_said}
use Rattle.pl_law_records.proofs.Linking.{IsOnlyAt, unheard}
use Rattle.pl_law_records.proofs.Reports.{Agrees, last_agrees, link_agree, members_agree, report_says_links, report_says_members, report_says_place}
use Rattle.pl_law_records.proofs.TellingLinks.{among_groups}

-- whatever stood before: where all words on a thing say the same, and one is on it
module _ {X : Type 0} (said : ToManager → Option X) (b : X) where
  pub one_says : (x : X) (words : List ToManager) → AllByRecursion (Agrees said b) words → list_any (λ w. is_some (said w)) words ≡ true → last_said said x words ≡ b
  one_says x [] all some = absurd (false≢true some)
  one_says x (w ∷ words) all some = by (said w) refl (one_says x words all.1)
    where
      by : (o : Option X) → said w ≡ o → (list_any (λ v. is_some (said v)) words ≡ true → last_said said x words ≡ b) → last_said said (unwrap_or (said w) x) words ≡ b
      by None is rest =
          ap (λ (o : Option X). last_said said (unwrap_or o x) words) is ∙ rest (sym (ap (λ (o : Option X). is_some o || list_any (λ v. is_some (said v)) words) is) ∙ some)
      by (Some y) is rest =
          ap (λ (o : Option X). last_said said (unwrap_or o x) words) is
          ∙ ap (λ z. last_said said z words) (all.0 y is)
          ∙ last_agrees said b words all.1

any_right : {X : Type 0} (p : X → Bool) (xs ys : List X) → list_any p ys ≡ true → list_any p (xs ++ ys) ≡ true
any_right p xs ys is = any_append p xs ys ∙ or_right (list_any p xs) (list_any p ys) is

any_left : {X : Type 0} (p : X → Bool) (xs ys : List X) → list_any p xs ≡ true → list_any p (xs ++ ys) ≡ true
any_left p xs ys is = any_append p xs ys ∙ or_left (list_any p xs) (list_any p ys) is

module _ (v : SwitchView) (epoch : ℕ) where
  abbrev words : List ToManager
  words = tells (hears_hello v epoch).acts

  pub place_anew : (x : Place) → last_said place_said x words ≡ v.place
  place_anew x = report_says_place v epoch

  module _ (group : ℕ) where
    abbrev is_on : ToManager → Bool
    is_on w = is_some (members_said group w)

    listed : (gs : List ℕ) → IsAmong group gs → list_any is_on (map (λ g. tell.Members g true) gs) ≡ true
    listed [] h = absurd h
    listed (g ∷ gs) h = elim h [
      | inl same ↦
          or_left (is_on (tell.Members g true)) (list_any is_on (map (λ n. tell.Members n true) gs))
          (ap (λ b. is_some (if b then Some true else None)) (eq-eqb g group same))
      | inr later ↦ or_right (is_on (tell.Members g true)) (list_any is_on (map (λ n. tell.Members n true) gs)) (listed gs later)
    ]

    one_is : has_member_of v.members group ≡ true → list_any is_on words ≡ true
    one_is has =
        ap (list_any is_on) (each_tells (report_for epoch v))
        ∙ any_left is_on (report v) (tell.End epoch ∷ [])
        (any_right is_on (own_reported v) (addresses_reported v ++ members_reported v)
        (any_right is_on (addresses_reported v) (members_reported v) (listed (groups_of v.members) (among_groups group v.members [] (inr has)))))

    pub members_anew : last_said (members_said group) false words ≡ has_member_of v.members group
    members_anew = elim (cases_Bool (has_member_of v.members group)) [
      | inl has ↦ one_says (members_said group) (has_member_of v.members group) false words (members_agree v epoch group) (one_is has)
      | inr none ↦ ap (λ b. last_said (members_said group) b words) (sym none) ∙ report_says_members v epoch group
    ]

  -- of the link at a port: where it is usable, a neighbour was heard there, and is told
  link_anew_at : (u : SwitchId) (p : ℕ) → IsOnlyAt v u p → is_usable v p ≡ true → list_any (λ w. is_some (link_said u w)) words ≡ true
  link_anew_at u p at usable =
      ap (list_any on) (each_tells (report_for epoch v))
      ∙ any_left on (report v) (tell.End epoch ∷ [])
      (any_left on (own_reported v) (addresses_reported v ++ members_reported v)
      (any_right on (tell.Place v.place ∷ []) (links_reported v ++ wish_reported v.place)
      (any_left on (links_reported v) (wish_reported v.place)
      (at_port (ports_of_switch v.k) (among_range p 0 v.k p (omega arith) at.within)))))
    where
      on : ToManager → Bool
      on w = is_some (link_said u w)

      heard : id_at v p ≡ Some u
      heard = by (id_at v p) refl
        where
          by : (o : Option SwitchId) → id_at v p ≡ o → id_at v p ≡ Some u
          by None none = absurd (false≢true (sym (unheard v p none) ∙ usable))
          by (Some x) some = some ∙ ap Some (at.named x some)

      here : list_any on (link_reported (id_at v p) (is_usable v p)) ≡ true
      here = ap (λ o. list_any on (link_reported o (is_usable v p))) heard
          ∙ or_left (on (tell.Link u (is_usable v p))) false (ap (λ b. is_some (if b then Some (is_usable v p) else None)) (switch_itself u))

      at_port : (ports : List ℕ) → IsAmong p ports → list_any on (flat_map (λ port. link_reported (id_at v port) (is_usable v port)) ports) ≡ true
      at_port [] h = absurd h
      at_port (q ∷ ports) h = elim h [
        | inl same ↦ any_left on (link_reported (id_at v q) (is_usable v q)) (flat_map (λ port. link_reported (id_at v port) (is_usable v port)) ports)
            (subst (λ x. list_any on (link_reported (id_at v x) (is_usable v x)) ≡ true) (sym same) here)
        | inr later ↦ any_right on (link_reported (id_at v q) (is_usable v q)) (flat_map (λ port. link_reported (id_at v port) (is_usable v port)) ports) (at_port ports later)
      ]

  pub link_anew : (u : SwitchId) (p : ℕ) → IsOnlyAt v u p → last_said (link_said u) false words ≡ is_usable v p
  link_anew u p at = elim (cases_Bool (is_usable v p)) [
    | inl usable ↦ one_says (link_said u) (is_usable v p) false words (link_agree v epoch u (is_usable v p) (λ q there. ap (λ n. is_usable v n) (at.only q there))) (link_anew_at u p at usable)
    | inr not_usable ↦ ap (λ b. last_said (link_said u) b words) (sym not_usable) ∙ report_says_links v epoch u p at
  ]
