-- What an aggregation switch notes of the message that it hears.
use Rattle.std.proofs.Common.{◌≡◌, ℕ, ◌<◌, ◌&&◌, nat_lt, Bool, true, false, true≢false, eq-eqb, if◌then◌else◌, List, ◌∷◌, ◌++◌, length, get_or, set, Option, Some, None, is_some, Result, Ok, Err, refl, sym, ◌∙◌, ap, subst, inl, inr, get_or-set_same, get_or-set_other}
use Rattle.std.specs.List.{AllByRecursion, list_any}
use Rattle.std.proofs.lemmas.Bool.{and_from, cond_both}
use Rattle.pl_frame.specs.declared.address.SwitchId.{SwitchId}
use Rattle.pl_layouts.specs.declared.control.Control.{Control}
use Rattle.pl_layouts.specs.declared.control.Control.TheVariants.{Ldm, Proposal, Vote}
use Rattle.pl_layouts.specs.declared.control.ControlError.{ControlError}
use Rattle.pl_layouts.specs.declared.control.Ldm.{Ldm as Message}
use Rattle.pl_layouts.specs.declared.control.Proposal.{Proposal as Proposed}
use Rattle.pl_layouts.specs.declared.control.Vote.{Vote as Answer}
use Rattle.pl_layouts.specs.Control.{is_sound_ldm, sender_of}
use Rattle.pl_layouts.specs.Placement.{is_known}
use Rattle.pl_node.specs.declared.neighbour.PortRecord.{PortRecord}
use Rattle.pl_node.specs.declared.switch_records.Hold.{Hold}
use Rattle.pl_node.specs.PortRecords.{heard_place, new_port, place_at, port_of}
use Rattle.pl_node.specs.SwitchFacts.{hold_at, is_answered}
use Rattle.pl_node.specs.SwitchViews.{SwitchView}
use Rattle.pl_steps.specs.Steps.{SwitchStep, rests}
use Rattle.pl_switch_rule.specs.Levels.{after_message, changes_to, hears_message, is_of_other_pod}
use Rattle.pl_switch_rule.specs.Positions.{after_vote, answers_proposal, frees_others, half, hears_proposal, holds_for, is_free_for, marks, notes_position}
use Rattle.pl_switch_rule.specs.SwitchRule.{hears_control}
use Rattle.pl_law_control_plane.specs.ControlPlanes.{messages_of}
use Rattle.pl_law_votes.specs.Pairs.{IsRising}
use Rattle.pl_law_votes.proofs.Exports.{changes, learnt, vote_holds}
use Rattle.pl_law_placing.specs.Noting.{IsNoted}
use Rattle.pl_law_placing.proofs.Held.{proposal_from, told_from}
use Rattle.pl_law_placing.proofs.NotesOfAggregations.{told_level, told_marks}
use Rattle.pl_law_placing.proofs.Ports.{ports_changes, ports_vote}

-- a told position is one of the pod, and what is told fits together
abbrev pub Fits : ℕ → Control → Type 0
Fits k (Ldm id m) = ((x : ℕ) → m.place.position ≡ Some x → x < half k) × (is_sound_ldm m ≡ true)
Fits k (Proposal id p) = Unit {0}
Fits k (Vote id v) = Unit {0}

-- holds for this edge switch and the record of its port are old
pub noted_other : (e a A : SwitchView) (q : ℕ) (up : List Control) →
    ((y : ℕ) (hold : Hold) → hold_at A y ≡ Some hold → hold.edge.0 ≡ e.id.0 → hold_at a y ≡ Some hold) →
    (place_at A q).position ≡ (place_at a q).position → IsNoted e a q up → IsNoted e A q up
noted_other e a A q up holds told n = record {
  marked = λ x y hold is has own. n.marked x y hold (sym told ∙ is) (holds y hold has own) own;
  silent = λ x is. n.silent x (sym told ∙ is);
}

module _ (v : SwitchView) (port : ℕ) (id : SwitchId) where
  after_ports : (m : Message) → (after_message v port id m).ports ≡
      set v.ports port (record { host = (port_of v port).host; heard = Some (record { id = id; place = m.place; echo = m.echo }); silent = 0 })
  after_ports m =
      let u = learnt v port id m in
      cond_both (is_known u.place.level 1 && is_known m.place.level 0) (notes_position u id m.place.position) u
      (λ (x : SwitchView). x.ports ≡ set v.ports port (record { host = (port_of v port).host; heard = Some (record { id = id; place = m.place; echo = m.echo }); silent = 0 }))
      (λ h. noted m.place.position) (λ h. refl)
    where
      noted : (position : Option ℕ) → (notes_position (learnt v port id m) id position).ports ≡
          set v.ports port (record { host = (port_of v port).host; heard = Some (record { id = id; place = m.place; echo = m.echo }); silent = 0 })
      noted None = refl
      noted (Some p) =
          let u = learnt v port id m in
          cond_both (nat_lt p (half v.k)) (marks (frees_others u id p) id p) u
          (λ (x : SwitchView). x.ports ≡ set v.ports port (record { host = (port_of v port).host; heard = Some (record { id = id; place = m.place; echo = m.echo }); silent = 0 }))
          (λ h. refl) (λ h. refl)

  -- what it holds for another edge switch, it held before
  message_was : (m : Message) (e : ℕ) (y : ℕ) (hold : Hold) → (id.0 ≡ e → ⊥) → hold.edge.0 ≡ e → hold_at (after_message v port id m) y ≡ Some hold → hold_at v y ≡ Some hold
  message_was m e y hold apart own =
      let u = learnt v port id m in
      cond_both (is_known u.place.level 1 && is_known m.place.level 0) (notes_position u id m.place.position) u
      (λ (x : SwitchView). hold_at x y ≡ Some hold → hold_at v y ≡ Some hold) (λ h. noted m.place.position) (λ h is. is)
    where
      noted : (position : Option ℕ) → hold_at (notes_position (learnt v port id m) id position) y ≡ Some hold → hold_at v y ≡ Some hold
      noted None is = is
      noted (Some p) is = elim (told_from (learnt v port id m) id p y hold is) [
        | inl was ↦ was
        | inr new ↦ absurd (apart (ap (λ (h : Hold). h.edge.0) (sym new.1) ∙ own))
      ]

  message_there : (m : Message) (e : SwitchView) (q : ℕ) (up : List Control) → (port ≡ q → ⊥) → (id.0 ≡ e.id.0 → ⊥) → IsNoted e v q up →
      IsNoted e (hears_message v port id m).view q up
  message_there m e q up differ apart n =
      let new = after_message v port id m in
      let r : PortRecord = record { host = (port_of v port).host; heard = Some (record { id = id; place = m.place; echo = m.echo }); silent = 0 } in
      noted_other e v (changes_to v new).view q up
      (λ y hold has own. message_was m e.id.0 y hold apart own (ap (λ (hs : List (Option Hold)). get_or hs y None) (sym (changes v new).holds) ∙ has))
      (ap (λ (ps : List PortRecord). (heard_place (get_or ps q new_port).heard).position) (ports_changes v new ∙ after_ports m)
      ∙ ap (λ (x : PortRecord). (heard_place x.heard).position) (get_or-set_other v.ports port q r new_port (λ same. differ (sym same)))) n

  -- level 1 is known once an edge switch was heard
  level_one : (told : Message) → ((x : ℕ) → v.place.level ≡ Some x → x ≡ 1) → is_known told.place.level 0 ≡ true → is_known (learnt v port id told).place.level 1 ≡ true
  level_one told own zero = by v.place.level own (list_any (is_of_other_pod told.place.pod) (set v.ports port (record { host = (port_of v port).host; heard = Some (record { id = id; place = told.place; echo = told.echo }); silent = 0 })))
    where
      by : (level : Option ℕ) → ((x : ℕ) → level ≡ Some x → x ≡ 1) → (other : Bool) →
          is_known (if is_some level then level else if is_known told.place.level 0 then Some 1 else if is_known told.place.level 1 && other then Some 2 else None) 1 ≡ true
      by (Some x) own other = eq-eqb x 1 (own x refl)
      by None own other =
          subst (λ b. is_known (if b then Some 1 else if is_known told.place.level 1 && other then Some 2 else None) 1 ≡ true) (sym zero) refl

  message_here : (m : Message) (e : SwitchView) (up : List Control) → id.0 ≡ e.id.0 → port < length v.ports → length v.holds ≡ half v.k →
      ((x : ℕ) → v.place.level ≡ Some x → x ≡ 1) → ((x : ℕ) → m.place.position ≡ Some x → x < half v.k) → is_sound_ldm m ≡ true → IsRising (Ldm id m ∷ up) →
      IsNoted e (hears_message v port id m).view port up
  message_here m e up same within many own fits sound rising = record {
    marked = λ x y hold is has held.
        by x y hold (told x is) (held ∙ sym same)
        (ap (λ (hs : List (Option Hold)). get_or hs y None) (sym (changes v (after_message v port id m)).holds) ∙ has);
    silent = λ x is. rising.0 x (told x is);
  }
    where
      told : (x : ℕ) → (place_at (hears_message v port id m).view port).position ≡ Some x → m.place.position ≡ Some x
      told x is =
          let r : PortRecord = record { host = (port_of v port).host; heard = Some (record { id = id; place = m.place; echo = m.echo }); silent = 0 } in
          sym (ap (λ (ps : List PortRecord). (heard_place (get_or ps port new_port).heard).position) (ports_changes v (after_message v port id m) ∙ after_ports m)
          ∙ ap (λ (x : PortRecord). (heard_place x.heard).position) (get_or-set_same v.ports port r new_port within)) ∙ is

      by : (x y : ℕ) (hold : Hold) → m.place.position ≡ Some x → hold.edge.0 ≡ id.0 → hold_at (after_message v port id m) y ≡ Some hold → hold.fixed ≡ true
      by x y hold is held =
          let u = learnt v port id m in
          let zero = told_level m x sound is in
          cond_both (is_known u.place.level 1 && is_known m.place.level 0) (notes_position u id m.place.position) u
          (λ (z : SwitchView). hold_at z y ≡ Some hold → hold.fixed ≡ true)
          (λ h has. told_marks u id x y hold (fits x is) many (subst (λ o. hold_at (notes_position (learnt v port id m) id o) y ≡ Some hold) is has) held)
          (λ h has. absurd (true≢false (sym (and_from (is_known u.place.level 1) (is_known m.place.level 0) (level_one m own zero) zero) ∙ h)))

  -- a proposal changes no record
  proposal_ports : (p : Proposed) → (hears_proposal v port id p).view.ports ≡ v.ports
  proposal_ports p = by (is_answered v port p.position)
    where
      by : (b : Bool) → (if◌then◌else◌ {A = SwitchStep} b (answers_proposal (frees_others v id p.position) port id p) (rests v)).view.ports ≡ v.ports
      by false = refl
      by true =
          let w = frees_others v id p.position in
          cond_both (is_free_for id (hold_at w p.position)) (holds_for w id p.position) w (λ (u : SwitchView). u.ports ≡ v.ports) (λ h. refl) (λ h. refl)

  proposal_there : (p : Proposed) (e : SwitchView) (q : ℕ) (up : List Control) → (id.0 ≡ e.id.0 → ⊥) → IsNoted e v q up → IsNoted e (hears_proposal v port id p).view q up
  proposal_there p e q up apart n =
      noted_other e v (hears_proposal v port id p).view q up (λ y hold has own. was (is_answered v port p.position) y hold own has)
      (ap (λ (ps : List PortRecord). (heard_place (get_or ps q new_port).heard).position) (proposal_ports p)) n
    where
      was : (b : Bool) (y : ℕ) (hold : Hold) → hold.edge.0 ≡ e.id.0 →
          hold_at (if◌then◌else◌ {A = SwitchStep} b (answers_proposal (frees_others v id p.position) port id p) (rests v)).view y ≡ Some hold → hold_at v y ≡ Some hold
      was false y hold own has = has
      was true y hold own has = elim (proposal_from v id p.position y hold has) [
        | inl old ↦ old
        | inr new ↦ absurd (apart (ap (λ (h : Hold). h.edge.0) (sym new.1) ∙ own))
      ]

  proposal_here : (p : Proposed) (e : SwitchView) (up : List Control) → IsNoted e v port (Proposal id p ∷ up) → IsNoted e (hears_proposal v port id p).view port up
  proposal_here p e up n =
      let told : (place_at (hears_proposal v port id p).view port).position ≡ (place_at v port).position =
      ap (λ (ps : List PortRecord). (heard_place (get_or ps port new_port).heard).position) (proposal_ports p) in
      record {
        marked = λ x y hold is has own. absurd ((n.silent x (sym told ∙ is)).0);
        silent = λ x is. absurd ((n.silent x (sym told ∙ is)).0);
      }

  vote_stays : (vote : Answer) (e : SwitchView) (q : ℕ) (up : List Control) → IsNoted e v q up → IsNoted e (changes_to v (after_vote v port vote)).view q up
  vote_stays vote e q up n =
      let new = after_vote v port vote in
      noted_other e v (changes_to v new).view q up
      (λ y hold has own. ap (λ (hs : List (Option Hold)). get_or hs y None) (sym ((changes v new).holds ∙ vote_holds v port vote)) ∙ has)
      (ap (λ (ps : List PortRecord). (heard_place (get_or ps q new_port).heard).position) (ports_changes v new ∙ ports_vote v port vote)) n

  -- over another port than the one to this edge switch, or from it
  pub heard_there : (read : Result Control ControlError) (e : SwitchView) (q : ℕ) (up : List Control) → (port ≡ q → ⊥) → (id.0 ≡ e.id.0 → ⊥) →
      AllByRecursion (λ c. sender_of c ≡ id) (messages_of read) → IsNoted e v q up → IsNoted e (hears_control v port read).view q up
  heard_there (Err x) e q up differ apart of n = n
  heard_there (Ok (Ldm from m)) e q up differ apart of n =
      subst (λ i. IsNoted e (hears_message v port i m).view q up) (sym of.0) (message_there m e q up differ apart n)
  heard_there (Ok (Proposal from p)) e q up differ apart of n =
      subst (λ i. IsNoted e (hears_proposal v port i p).view q up) (sym of.0) (proposal_there p e q up apart n)
  heard_there (Ok (Vote from vote)) e q up differ apart of n = vote_stays vote e q up n

  pub heard_here : (read : Result Control ControlError) (e : SwitchView) (up : List Control) → id.0 ≡ e.id.0 → port < length v.ports → length v.holds ≡ half v.k →
      ((x : ℕ) → v.place.level ≡ Some x → x ≡ 1) → AllByRecursion (λ c. sender_of c ≡ id) (messages_of read) → AllByRecursion (Fits v.k) (messages_of read) →
      IsRising (messages_of read ++ up) → IsNoted e v port (messages_of read ++ up) → IsNoted e (hears_control v port read).view port up
  heard_here (Err x) e up same within many own of fits rising n = n
  heard_here (Ok (Ldm from m)) e up same within many own of fits rising n =
      subst (λ i. IsNoted e (hears_message v port i m).view port up) (sym of.0) (message_here m e up same within many own fits.0.0 fits.0.1 rising)
  heard_here (Ok (Proposal from p)) e up same within many own of fits rising n =
      subst (λ i. IsNoted e (hears_proposal v port i p).view port up) (sym of.0) (proposal_here p e up (subst (λ i. IsNoted e v port (Proposal i p ∷ up)) of.0 n))
  heard_here (Ok (Vote from vote)) e up same within many own of fits rising n =
      vote_stays vote e port up (record { marked = n.marked; silent = λ x is. (n.silent x is).1 })
