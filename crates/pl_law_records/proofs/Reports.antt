-- What a report says last of each thing is what the switch holds.
use Rattle.std.proofs.Common.{◌≡◌, ℕ, ◌==◌, Bool, true, false, List, [], ◌∷◌, if◌then◌else◌, Option, Some, None, unwrap_or, refl, sym, ap, ◌∙◌, subst, eqb-true}
use Rattle.std.specs.List.{AllByRecursion, flat_map}
use Rattle.std.proofs.lemmas.Option.{none-some, same_Some}
use Rattle.pl_lemmas.proofs.Exports.{all_append}
use Rattle.pl_frame.specs.declared.address.SwitchId.{SwitchId}
use Rattle.pl_frame.proofs.Exports.{same_id}
use Rattle.pl_layouts.specs.Equality.{same_switch}
use Rattle.pl_node.specs.declared.acts.Act.{Act}
use Rattle.pl_node.specs.declared.acts.Act.TheVariants.{Tell}
use Rattle.pl_node.specs.declared.messages.ToManager.{ToManager}
use Rattle.pl_node.specs.PortRecords.{id_at, is_usable, ports_of_switch}
use Rattle.pl_node.specs.SwitchViews.{SwitchView}
use Rattle.pl_manager_rule.specs.Histories.{link_said, members_said, place_said}
use Rattle.pl_switch_rule.specs.Intake.{has_member_of}
use Rattle.pl_switch_rule.specs.Reporting.{hears_hello, link_reported}
use Rattle.pl_switch_rule.proofs.Exports.{addresses_there, greeted_acts, links_acts}
use Rattle.pl_law_control_plane.specs.ControlPlanes.{tells}
use Rattle.pl_law_control_plane.proofs.Exports.{told_all}
use Rattle.pl_law_records.specs.Words.{last_said}
use Rattle.pl_law_records.proofs.Linking.{IsOnlyAt}

-- Words that say this of a thing, or nothing.
module _ {X : Type 0} (said : ToManager → Option X) (b : X) where
  abbrev pub Agrees : ToManager → Type 0
  Agrees word = (x : X) → said word ≡ Some x → x ≡ b

  abbrev AgreesAct : Act → Type 0
  AgreesAct (Tell word) = Agrees word
  AgreesAct act = Unit {0}

  pub last_agrees : (words : List ToManager) → AllByRecursion Agrees words → last_said said b words ≡ b
  last_agrees [] all = refl
  last_agrees (word ∷ words) all = by (last_agrees words all.1) (said word) refl
    where
      by : last_said said b words ≡ b → (o : Option X) → said word ≡ o → last_said said (unwrap_or o b) words ≡ b
      by rest None is = rest
      by rest (Some x) is = subst (λ y. last_said said y words ≡ b) (sym (all.0 x is)) rest

-- what is said of other things says nothing of this one
abbrev none : {X : Type 0} (b x : X) → None ≡ Some x → x ≡ b
none b x is = absurd (none-some x is)

module _ (v : SwitchView) (epoch : ℕ) where
  abbrev words : List ToManager
  words = tells (hears_hello v epoch).acts

  pub report_says_place : last_said place_said v.place (tells (hears_hello v epoch).acts) ≡ v.place
  report_says_place =
      last_agrees place_said v.place words
      (told_all (AgreesAct place_said v.place) (hears_hello v epoch).acts
      (greeted_acts (AgreesAct place_said v.place) v
      (record { begun = λ n x is. none v.place x is; ended = λ n x is. none v.place x is; trapped = λ old new number x is. none v.place x is })
      (λ x is. sym (same_Some v.place x is)) (links_acts (AgreesAct place_said v.place) v (λ neighbour usable x is. none v.place x is))
      (λ at x is. none v.place x is)
      (addresses_there (AgreesAct place_said v.place) v (λ port n g is used x said. none v.place x said) (λ address number x is. none v.place x is)
      (record { begun = λ n x is. none v.place x is; ended = λ n x is. none v.place x is; trapped = λ old new number x is. none v.place x is }))
      (λ group had x is. none v.place x is) epoch))

  pub members_agree : (group : ℕ) → AllByRecursion (Agrees (members_said group) (has_member_of v.members group)) words
  members_agree group =
      let has : Bool = has_member_of v.members group in
      told_all (AgreesAct (members_said group) has) (hears_hello v epoch).acts
      (greeted_acts (AgreesAct (members_said group) has) v
      (record { begun = λ n x is. none has x is; ended = λ n x is. none has x is; trapped = λ old new number x is. none has x is })
      (λ x is. none has x is) (links_acts (AgreesAct (members_said group) has) v (λ neighbour usable x is. none has x is)) (λ at x is. none has x is)
      (addresses_there (AgreesAct (members_said group) has) v (λ port n g is used x said. none has x said) (λ address number x is. none has x is)
      (record { begun = λ n x is. none has x is; ended = λ n x is. none has x is; trapped = λ old new number x is. none has x is }))
      (λ g had x is. by g had x (g == group) refl is) epoch)
    where
      by : (g : ℕ) → has_member_of v.members g ≡ true → (x : Bool) (b : Bool) → (g == group) ≡ b → (if b then Some true else None) ≡ Some x →
          x ≡ has_member_of v.members group
      by g had x true same is = sym (same_Some true x is) ∙ sym had ∙ ap (λ n. has_member_of v.members n) (eqb-true g group same)
      by g had x false other is = absurd (none-some x is)

  pub report_says_members : (group : ℕ) →
      last_said (members_said group) (has_member_of v.members group) (tells (hears_hello v epoch).acts) ≡ has_member_of v.members group
  report_says_members group = last_agrees (members_said group) (has_member_of v.members group) words (members_agree group)

  -- of the link to a switch: what is said is of a port at which it is heard
  module _ (u : SwitchId) (b : Bool) (each : (q : ℕ) → id_at v q ≡ Some u → is_usable v q ≡ b) where
    abbrev P : Act → Type 0
    P = AgreesAct (link_said u) b

    link_agrees : (q : ℕ) (o : Option SwitchId) → id_at v q ≡ o → AllByRecursion (λ word. P (Tell word)) (link_reported o (is_usable v q))
    link_agrees q None is = tt
    link_agrees q (Some neighbour) is = (λ x said. by x (same_switch neighbour u) refl said, tt)
      where
        by : (x : Bool) (c : Bool) → same_switch neighbour u ≡ c → (if c then Some (is_usable v q) else None) ≡ Some x → x ≡ b
        by x true same said =
            sym (same_Some (is_usable v q) x said) ∙ each q (is ∙ ap Some (same_id neighbour u (eqb-true neighbour.0 u.0 same)))
        by x false other said = absurd (none-some x said)

    links_agree : (ports : List ℕ) → AllByRecursion (λ word. P (Tell word)) (flat_map (λ port. link_reported (id_at v port) (is_usable v port)) ports)
    links_agree [] = tt
    links_agree (q ∷ ports) =
        all_append (λ word. P (Tell word)) (link_reported (id_at v q) (is_usable v q))
        (flat_map (λ port. link_reported (id_at v port) (is_usable v port)) ports)
        (link_agrees q (id_at v q) refl) (links_agree ports)

    pub link_agree : AllByRecursion (Agrees (link_said u) b) words
    link_agree =
        told_all P (hears_hello v epoch).acts
        (greeted_acts P v
        (record { begun = λ n x is. none b x is; ended = λ n x is. none b x is; trapped = λ old new number x is. none b x is })
        (λ x is. none b x is) (links_agree (ports_of_switch v.k)) (λ at x is. none b x is)
        (addresses_there P v (λ port n g is used x said. none b x said) (λ address number x is. none b x is)
        (record { begun = λ n x is. none b x is; ended = λ n x is. none b x is; trapped = λ old new number x is. none b x is }))
        (λ group had x is. none b x is) epoch)

    report_says_link : last_said (link_said u) b (tells (hears_hello v epoch).acts) ≡ b
    report_says_link = last_agrees (link_said u) b words link_agree

  pub report_says_links : (u : SwitchId) (p : ℕ) → IsOnlyAt v u p → last_said (link_said u) (is_usable v p) (tells (hears_hello v epoch).acts) ≡ is_usable v p
  report_says_links u p at = report_says_link u (is_usable v p) (λ q there. ap (λ n. is_usable v n) (at.only q there))

  pub report_says_no_other : (u : SwitchId) → ((p : ℕ) → id_at v p ≡ Some u → ⊥) → (before : Bool) →
      last_said (link_said u) before (tells (hears_hello v epoch).acts) ≡ before
  report_says_no_other u nowhere before = report_says_link u before (λ q there. absurd (nowhere q there))
