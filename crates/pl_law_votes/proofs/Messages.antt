-- What a switch says out of a port in a step.
use Rattle.std.proofs.Common.{◌≡◌, ℕ, zero, suc, ◌+◌, ◌<◌, ◌==◌, ◌&&◌, not, Bool, true, false, if◌then◌else◌, cond, List, [], ◌∷◌, ◌++◌, map, filter, Some, None, is_none, refl, sym, ◌∙◌, ap, subst, arith, inl, inr, ◌⊎◌, append_assoc, append-nil, eqb-true, ne_eqb}
use Rattle.std.specs.List.{range_with_len}
use Rattle.std.proofs.lemmas.Bool.{and_parts}
use Rattle.pl_lemmas.proofs.Exports.{is_none_is}
use Rattle.pl_frame.specs.declared.address.SwitchId.{SwitchId}
use Rattle.pl_layouts.specs.declared.control.Control.{Control}
use Rattle.pl_layouts.specs.declared.control.Control.TheVariants.{Ldm, Proposal}
use Rattle.pl_layouts.specs.declared.control.Ldm.{Ldm as Message}
use Rattle.pl_layouts.specs.Control.{control_frame}
use Rattle.pl_layouts.specs.Placement.{is_known}
use Rattle.pl_ldp.specs.Writable.{IsWritableId, IsWritableControl}
use Rattle.pl_node.specs.declared.acts.Act.{Act}
use Rattle.pl_node.specs.declared.acts.Act.TheVariants as act
use Rattle.pl_node.specs.Announcements.{announcement, direction_of}
use Rattle.pl_node.specs.PortRecords.{heard_id, id_at, is_usable_to, ports_where}
use Rattle.pl_node.specs.SwitchFacts.{has_granted}
use Rattle.pl_node.specs.SwitchViews.{SwitchView}
use Rattle.pl_node.proofs.Exports.{direction_low, heard_aged}
use Rattle.pl_switch_rule.specs.Aging.{ages}
use Rattle.pl_switch_rule.specs.Announcing.{announcements, announces_at, proposal, proposes_at, tells_neighbours, ticks, with_aged_ports}
use Rattle.pl_switch_rule.specs.Telling.{changes_told}
use Rattle.pl_law_control_plane.specs.ControlPlanes.{message_in, messages_of, sends, sent_by}
use Rattle.pl_law_control_plane.specs.Discovery.{CanBeTold, CanPropose}
use Rattle.pl_law_control_plane.proofs.Exports.{ldm_writable, proposal_writable, written_is_read}
use Rattle.pl_law_votes.proofs.Aside.{AreUnsaid, aside_ages, unsaid_told}

pub sends_append : (port : ℕ) (xs ys : List Act) → sends port (xs ++ ys) ≡ sends port xs ++ sends port ys
sends_append port [] ys = refl
sends_append port (x ∷ xs) ys = ap (λ zs. sent_by port x ++ zs) (sends_append port xs ys) ∙ sym (append_assoc (sent_by port x) (sends port xs) (sends port ys))

pub sends_none : (port : ℕ) (acts : List Act) → AreUnsaid acts → sends port acts ≡ []
sends_none port [] unsaid = refl
sends_none port (act.Control at frame ∷ acts) unsaid = absurd unsaid.0
sends_none port (a ∷ acts) unsaid = sends_none port acts unsaid.1

-- one control frame out of each port that passes a test
module _ (F : ℕ → List ℕ) (test : ℕ → Bool) (port : ℕ) where
  abbrev each : ℕ → ℕ → List Act
  each a n = map (λ p. act.Control p (F p)) (filter test (range_with_len a n))

  none_below : (a n : ℕ) → port < a → sends port (each a n) ≡ []
  none_below a zero below = refl
  none_below a (suc n) below = by (test a) (none_below (a + 1) n (omega (arith, below)))
    where
      other : (a == port) ≡ false
      other = ne_eqb a port (λ same. omega (arith, same, below))

      by : (b : Bool) → sends port (each (a + 1) n) ≡ [] →
          sends port (map (λ p. act.Control p (F p)) (cond b (a ∷ filter test (range_with_len (a + 1) n)) (filter test (range_with_len (a + 1) n)))) ≡ []
      by false rest = rest
      by true rest = ap (λ b. (if b then messages_of (message_in (F a)) else []) ++ sends port (each (a + 1) n)) other ∙ rest

  pub sent_where : (a n : ℕ) → (sends port (each a n) ≡ []) ⊎ ((test port ≡ true) × (sends port (each a n) ≡ messages_of (message_in (F port))))
  sent_where a zero = inl refl
  sent_where a (suc n) = by (test a) refl (sent_where (a + 1) n)
    where
      Sent : List Act → Type 0
      Sent acts = (sends port acts ≡ []) ⊎ ((test port ≡ true) × (sends port acts ≡ messages_of (message_in (F port))))

      here : test a ≡ true → (t : Bool) → (a == port) ≡ t →
          (sends port (each (a + 1) n) ≡ []) ⊎ ((test port ≡ true) × (sends port (each (a + 1) n) ≡ messages_of (message_in (F port)))) →
          (sends port (act.Control a (F a) ∷ each (a + 1) n) ≡ [])
          ⊎ ((test port ≡ true) × (sends port (act.Control a (F a) ∷ each (a + 1) n) ≡ messages_of (message_in (F port))))
      here passes false other (inl none) = inl (ap (λ b. (if b then messages_of (message_in (F a)) else []) ++ sends port (each (a + 1) n)) other ∙ none)
      here passes false other (inr some) =
          inr (some.0, ap (λ b. (if b then messages_of (message_in (F a)) else []) ++ sends port (each (a + 1) n)) other ∙ some.1)
      here passes true same rest =
          let equal = eqb-true a port same in
          let behind = none_below (a + 1) n (omega (arith, equal)) in
          inr (
            subst (λ x. test x ≡ true) equal passes,
            ap (λ b. (if b then messages_of (message_in (F a)) else []) ++ sends port (each (a + 1) n)) same
                ∙ ap (λ zs. messages_of (message_in (F a)) ++ zs) behind ∙ append-nil (messages_of (message_in (F a)))
                ∙ ap (λ x. messages_of (message_in (F x))) equal,
          )

      by : (b : Bool) → test a ≡ b → (sends port (each (a + 1) n) ≡ []) ⊎ ((test port ≡ true) × (sends port (each (a + 1) n) ≡ messages_of (message_in (F port)))) →
          (sends port (map (λ p. act.Control p (F p)) (cond b (a ∷ filter test (range_with_len (a + 1) n)) (filter test (range_with_len (a + 1) n)))) ≡ [])
          ⊎ ((test port ≡ true) × (sends port (map (λ p. act.Control p (F p)) (cond b (a ∷ filter test (range_with_len (a + 1) n)) (filter test (range_with_len (a + 1) n))))
          ≡ messages_of (message_in (F port))))
      by false is rest = rest
      by true is rest = here is (a == port) refl rest

-- what is written is what is said
pub says_written : (c : Control) → IsWritableControl c → messages_of (message_in (control_frame c)) ≡ c ∷ []
says_written c w = ap messages_of (written_is_read c w)

-- Ticks.

abbrev pub SaysPlace : SwitchView → List Control → Type 0
SaysPlace v said = (said ≡ []) ⊎ ((m : Message) × (m.place ≡ v.place) × (said ≡ Ldm v.id m ∷ []))

abbrev pub SaysProposal : SwitchView → List Control → Type 0
SaysProposal v said =
    (said ≡ []) ⊎ ((v.place.position ≡ None) × (said ≡ Proposal v.id (record { attempt = v.attempt; position = v.proposed }) ∷ []))

-- What a switch says out of a port at a tick: its place or nothing, and then its proposal, where it has no position, or nothing.
pub record TickSays (v : SwitchView) (said : List Control) : Type 0 where
  pub first : List Control
  pub second : List Control
  pub split : said ≡ first ++ second
  pub tells : SaysPlace v first
  pub proposes : SaysProposal v second

module _ (v : SwitchView) (port : ℕ) (is : IsWritableId v.id) (can : CanBeTold v.place) (able : CanPropose v.attempt v.proposed) (echo : (id : SwitchId) → id_at v port ≡ Some id → IsWritableId id) where
  abbrev w : SwitchView
  w = with_aged_ports v

  told : Message
  told = record { place = v.place; direction = direction_of w port; echo = id_at w port }

  tick_tells : messages_of (message_in (announcement w port)) ≡ Ldm v.id told ∷ []
  unfolding told
  tick_tells = says_written (Ldm v.id (record { place = v.place; direction = direction_of w port; echo = id_at w port }))
      (ldm_writable v.id v.place (direction_of w port) (id_at w port) is can (direction_low w port)
      (λ id same. echo id (sym (ap heard_id (heard_aged v.ports port)) ∙ same)))

  tick_proposes : messages_of (message_in (proposal w)) ≡ Proposal v.id (record { attempt = v.attempt; position = v.proposed }) ∷ []
  tick_proposes = says_written (Proposal v.id (record { attempt = v.attempt; position = v.proposed })) (proposal_writable v.id v.attempt v.proposed is able)

  pub told_says : TickSays v (sends port (tells_neighbours v).acts)
  unfolding told
  told_says = record {
    first = sends port firsts;
    second = sends port seconds;
    split = sends_append port (changes_told v w) (announcements w) ∙ ap (λ zs. zs ++ sends port (announcements w)) (sends_none port (changes_told v w) (unsaid_told v w))
        ∙ sends_append port firsts seconds;
    tells = elim (sent_where (announcement w) (announces_at w) port 0 w.k) [ inl none ↦ inl none | inr some ↦ inr (told, refl, some.1 ∙ tick_tells) ];
    proposes = elim (sent_where (λ p. proposal w) (proposes_at w) port 0 w.k) [ inl none ↦ inl none | inr some ↦ inr (unfixed some.0, some.1 ∙ tick_proposes) ];
  }
    where
      firsts : List Act
      firsts = map (λ p. act.Control p (announcement w p)) (ports_where w (announces_at w))

      seconds : List Act
      seconds = map (λ p. act.Control p (proposal w)) (ports_where w (proposes_at w))

      unfixed : proposes_at w port ≡ true → v.place.position ≡ None
      unfixed h =
          let a = and_parts (is_known v.place.level 0 && is_none v.place.position && is_usable_to w 1 port) (not (has_granted w port)) h in
          let b = and_parts (is_known v.place.level 0 && is_none v.place.position) (is_usable_to w 1 port) a.0 in
          let c = and_parts (is_known v.place.level 0) (is_none v.place.position) b.0 in
          is_none_is v.place.position c.1

  -- and nothing more, where addresses age
  pub tick_says : TickSays v (sends port (ticks v).acts)
  tick_says =
      let first : List Act = (tells_neighbours v).acts in
      subst (TickSays v)
      (sym (sends_append port first (ages w).acts ∙ ap (λ zs. sends port first ++ zs) (sends_none port (ages w).acts (aside_ages w).unsaid) ∙ append-nil (sends port first)))
      told_says
