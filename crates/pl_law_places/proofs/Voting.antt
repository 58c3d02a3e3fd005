-- Proposals and votes keep places true.
use Rattle.std.proofs.Common.{◌≡◌, ℕ, zero, suc, ◌+◌, ◌/◌, ◌%◌, ◌<◌, ◌⊎◌, ◌==◌, ◌&&◌, not, nat_lt, Bool, true, false, if◌then◌else◌, List, [], ◌∷◌, ◌++◌, Option, Some, None, is_some, is_none, get_or, set, refl, sym, ap, ◌∙◌, subst, arith, inl, inr, mod-lt}
use Rattle.std.specs.List.{AllByRecursion}
use Rattle.std.proofs.lemmas.Bool.{and_parts, eq-eqb, eqb-false}
use Rattle.std.proofs.lemmas.Option.{same_Some}
use Rattle.pl_lemmas.proofs.Exports.{is_none_is}
use Rattle.pl_frame.specs.declared.address.SwitchId.{SwitchId}
use Rattle.pl_layouts.specs.declared.control.Control.{Control}
use Rattle.pl_layouts.specs.declared.control.Control.TheVariants as control
use Rattle.pl_layouts.specs.declared.control.Proposal.{Proposal}
use Rattle.pl_layouts.specs.declared.control.Vote.{Vote}
use Rattle.pl_layouts.specs.declared.place.Place.{Place}
use Rattle.pl_layouts.specs.Control.{control_frame}
use Rattle.pl_layouts.specs.Placement.{is_known}
use Rattle.pl_layouts.specs.Votes.{counts, gives_way}
use Rattle.pl_layouts.proofs.Exports.{known_is}
use Rattle.pl_ldp.specs.Writable.{IsWritableId, IsWritableControl}
use Rattle.pl_wiring.specs.Labels.{switch_count}
use Rattle.pl_wiring.specs.Plan.{IsPlan, Plan}
use Rattle.pl_node.specs.declared.acts.Act.TheVariants as act
use Rattle.pl_node.specs.declared.switch_records.Hold.{Hold}
use Rattle.pl_node.specs.PortRecords.{new_port, place_at}
use Rattle.pl_node.specs.SwitchFacts.{hold_at}
use Rattle.pl_node.specs.SwitchViews.{SwitchView}
use Rattle.pl_steps.specs.Steps.{rests}
use Rattle.pl_switch_rule.specs.Levels.{changes_to, notes_edge}
use Rattle.pl_switch_rule.specs.Positions.{after_vote, answers_proposal, counted, fixes_position, freed_but, frees_others, half, hears_proposal, holds_for, is_free_for, is_held_for, is_majority, kept_or_new, marked_for, marks, moves_on, notes_position, vote_on, with_granted}
use Rattle.pl_law_control_plane.specs.ControlPlanes.{ControlPlane, message_in, messages_of}
use Rattle.pl_law_control_plane.proofs.Exports.{changes_to_silent, grant_writable, refusal_writable, still_does, written_is_read}
use Rattle.pl_law_places.specs.Places.{ArePlaced}
use Rattle.pl_law_places.specs.Told.{IsGoodMessage, IsOf, has_heard}
use Rattle.pl_law_places.proofs.Later.{IsGoodTurn}
use Rattle.pl_law_places.proofs.TurnsWithoutControlFrames.{IsGoodView, homes_same, new_view, same_ports, same_view, silent_turn, view_itself}

-- Holds.

abbrev pub NameIds : List (Option Hold) → Type 0
NameIds holds = (n : ℕ) (hold : Hold) → get_or holds n None ≡ Some hold → IsWritableId hold.edge

set_or_old : (holds : List (Option Hold)) (n m : ℕ) (x : Option Hold) (hold : Hold) → get_or (set holds n x) m None ≡ Some hold →
    (x ≡ Some hold) ⊎ (get_or holds m None ≡ Some hold)
set_or_old [] n m x hold h = inr h
set_or_old (y ∷ holds) zero zero x hold h = inl h
set_or_old (y ∷ holds) zero (suc m) x hold h = inr h
set_or_old (y ∷ holds) (suc n) zero x hold h = inr h
set_or_old (y ∷ holds) (suc n) (suc m) x hold h = set_or_old holds n m x hold h

set_names : (holds : List (Option Hold)) (n : ℕ) (x : Option Hold) → ((hold : Hold) → x ≡ Some hold → IsWritableId hold.edge) → NameIds holds → NameIds (set holds n x)
set_names holds n x new all = λ m hold h. elim (set_or_old holds n m x hold h) [ inl e ↦ new hold e | inr e ↦ all m hold e ]

freed_or_old : (position : ℕ) (edge : SwitchId) (n : ℕ) (holds : List (Option Hold)) (m : ℕ) (hold : Hold) →
    get_or (freed_but position edge n holds) m None ≡ Some hold → get_or holds m None ≡ Some hold
freed_or_old position edge n [] m hold h = h
freed_or_old position edge n (x ∷ holds) zero hold h = by (is_held_for edge x && not (n == position)) h
  where
    by : (b : Bool) → (if b then None else x) ≡ Some hold → x ≡ Some hold
    by true h = absurd (cc)
    by false h = h
freed_or_old position edge n (x ∷ holds) (suc m) hold h = freed_or_old position edge (n + 1) holds m hold h

freed_names : (position : ℕ) (edge : SwitchId) (n : ℕ) (holds : List (Option Hold)) → NameIds holds → NameIds (freed_but position edge n holds)
freed_names position edge n holds all = λ m hold h. all m hold (freed_or_old position edge n holds m hold h)

kept_names : (edge : SwitchId) (old : Option Hold) → IsWritableId edge → ((hold : Hold) → old ≡ Some hold → IsWritableId hold.edge) → (hold : Hold) →
    kept_or_new edge old ≡ Some hold → IsWritableId hold.edge
kept_names edge None is all hold h = subst IsWritableId (ap (λ (x : Hold). x.edge) (same_Some (record { edge = edge; fixed = false }) hold h)) is
kept_names edge (Some x) is all hold h = all hold h

marked_names : (edge : SwitchId) (old : Option Hold) → IsWritableId edge → ((hold : Hold) → old ≡ Some hold → IsWritableId hold.edge) → (hold : Hold) →
    marked_for edge old ≡ Some hold → IsWritableId hold.edge
marked_names edge None is all hold h = subst IsWritableId (ap (λ (x : Hold). x.edge) (same_Some (record { edge = edge; fixed = true }) hold h)) is
marked_names edge (Some x) is all hold h = by (x.edge.0 == edge.0) h
  where
    by : (b : Bool) → (if b then Some (record { edge = edge; fixed = true }) else Some x) ≡ Some hold → IsWritableId hold.edge
    by true h = subst IsWritableId (ap (λ (x : Hold). x.edge) (same_Some (record { edge = edge; fixed = true }) hold h)) is
    by false h = all hold h

-- another view that differs in its holds alone
pub record HoldsAlone (v w : SwitchView) : Type 0 where
  pub id : w.id ≡ v.id
  pub k : w.k ≡ v.k
  pub place : w.place ≡ v.place
  pub ports : w.ports ≡ v.ports
  pub attempt : w.attempt ≡ v.attempt
  pub proposed : w.proposed ≡ v.proposed
  pub grants : w.grants ≡ v.grants
  pub remembered : w.remembered ≡ v.remembered
  pub members : w.members ≡ v.members
  pub names : NameIds w.holds

with_holds : (v : SwitchView) (holds : List (Option Hold)) → NameIds holds → HoldsAlone v (record v { holds = holds })
with_holds v holds names =
    record { id = refl; k = refl; place = refl; ports = refl; attempt = refl; proposed = refl; grants = refl; remembered = refl; members = refl; names = names }

holds_self : (v : SwitchView) → NameIds v.holds → HoldsAlone v v
holds_self v names = with_holds v v.holds names

freed_alone : (v : SwitchView) (edge : SwitchId) (position : ℕ) → NameIds v.holds → HoldsAlone v (frees_others v edge position)
freed_alone v edge position names = with_holds v (freed_but position edge 0 v.holds) (freed_names position edge 0 v.holds names)

marked_alone : (v : SwitchView) (edge : SwitchId) (position : ℕ) → IsWritableId edge → NameIds v.holds → HoldsAlone v (marks (frees_others v edge position) edge position)
marked_alone v edge position is names =
    let freed = freed_names position edge 0 v.holds names in
    with_holds v (set (freed_but position edge 0 v.holds) position (marked_for edge (hold_at (frees_others v edge position) position)))
    (set_names (freed_but position edge 0 v.holds) position (marked_for edge (hold_at (frees_others v edge position) position))
    (marked_names edge (hold_at (frees_others v edge position) position) is (λ hold h. freed position hold h)) freed)

alone_if : (v : SwitchView) (b : Bool) (x y : SwitchView) → HoldsAlone v x → HoldsAlone v y → HoldsAlone v (if b then x else y)
alone_if v true x y a b = a
alone_if v false x y a b = b

noted_position : (v : SwitchView) (edge : SwitchId) (position : Option ℕ) → IsWritableId edge → NameIds v.holds → HoldsAlone v (notes_position v edge position)
noted_position v edge None is names = holds_self v names
noted_position v edge (Some position) is names =
    alone_if v (nat_lt position (half v.k)) (marks (frees_others v edge position) edge position) v (marked_alone v edge position is names) (holds_self v names)

pub noted_edge : (v : SwitchView) (edge : SwitchId) (told : Place) → IsWritableId edge → NameIds v.holds → HoldsAlone v (notes_edge v edge told)
noted_edge v edge told is names =
    alone_if v (is_known v.place.level 1 && is_known told.level 0) (notes_position v edge told.position) v (noted_position v edge told.position is names) (holds_self v names)

module _ (plan : Plan) (f : ControlPlane) (s : ℕ) (is : IsPlan plan) (old : ArePlaced plan f) where
  pub holds_view : (v w : SwitchView) → HoldsAlone v w → IsGoodView plan f s v → IsGoodView plan f s w
  holds_view v w same good = record {
    id = same.id ∙ good.id;
    later = rw same.place good.later;
    own = rw same.place good.own;
    heard = λ p h. ap (λ ports. is_some (get_or ports p new_port).heard) same.ports ∙ good.heard p h;
    pods = λ n e. elim (good.pods n (ap (λ x. x.pod) (sym same.place) ∙ e)) [
      | inl has ↦ inl has
      | inr first ↦ inr (record { pod = first.pod; i = first.i; edge = first.edge; position = ap (λ x. x.position) same.place ∙ first.position })
    ];
    recorded = λ t q p adjacent. rw same.ports (good.recorded t q p adjacent);
    strangers = λ p free. rw same.ports (good.strangers p free);
    sound = record {
      named = rw same.id good.sound.named;
      full = rw (same.place, same.ports) good.sound.full;
      able = rw (same.k, same.attempt, same.proposed) good.sound.able;
      holders = same.names;
      homes = homes_same v w (λ p h. ap (λ ports. (get_or ports p new_port).host) same.ports ∙ h)
          (λ p h. ap (λ ports. (get_or ports p new_port).host) (sym same.ports) ∙ h) same.grants same.remembered same.members good.sound.homes;
    };
  }

  -- a view, and one control frame out of a port
  answer_turn : (new : SwitchView) (port : ℕ) (c : Control) → IsGoodView plan f s new → IsWritableControl c → ((p : ℕ) → IsOf new.id new.place (has_heard new p) c) →
      IsGoodTurn plan f s new (act.Control port (control_frame c) ∷ [])
  answer_turn new port c good writable of_sender = record {
    id = good.id;
    later = good.later;
    own = good.own;
    heard = good.heard;
    pods = good.pods;
    recorded = good.recorded;
    strangers = good.strangers;
    sent = λ t q p adjacent. by p (port == p);
    passed = λ t q p adjacent h. absurd (cc);
    sound = good.sound;
  }
    where
      by : (p : ℕ) (b : Bool) → AllByRecursion (IsGoodMessage new.id new.place (has_heard new p)) ((if b then messages_of (message_in (control_frame c)) else []) ++ [])
      by p true = rw (written_is_read c writable) (record { writable = writable; of_sender = of_sender p }, tt)
      by p false = tt

  vote_writable : (id sender : SwitchId) (p : Proposal) (hold : Option Hold) → IsWritableId id → IsWritableControl (control.Proposal sender p) → ((h : Hold) → hold ≡ Some h → IsWritableId h.edge) →
      IsWritableControl (control.Vote id (vote_on sender p hold))
  vote_writable id sender p None named writable names = grant_writable id sender p named writable
  vote_writable id sender p (Some hold) named writable names = by (hold.edge.0 == sender.0)
    where
      by : (b : Bool) → IsWritableControl (control.Vote id (if b then record { attempt = p.attempt; position = p.position; granted = true; holder = None; fixed = false }
          else record { attempt = p.attempt; position = p.position; granted = false; holder = Some hold.edge; fixed = hold.fixed }))
      by true = grant_writable id sender p named writable
      by false = refusal_writable id sender p hold.edge hold.fixed named (names hold refl) writable

  pub proposal_turn : s < switch_count plan.k → (port : ℕ) (edge : SwitchId) (p : Proposal) → IsWritableControl (control.Proposal edge p) →
      IsGoodTurn plan f s (hears_proposal (f.view s) port edge p).view (hears_proposal (f.view s) port edge p).acts
  proposal_turn there port edge p writable =
      by (is_known v.place.level 1 && is_known (place_at v port).level 0 && nat_lt p.position (half v.k))
    where
      v : SwitchView
      v = f.view s

      w : SwitchView
      w = frees_others (f.view s) edge p.position

      freed : NameIds w.holds
      freed = freed_names p.position edge 0 (f.view s).holds (old.sound s there).holders

      new_holds : (b : Bool) → HoldsAlone (f.view s) (if b then holds_for w edge p.position else w)
      new_holds true = with_holds (f.view s) (set w.holds p.position (kept_or_new edge (hold_at w p.position)))
          (set_names w.holds p.position (kept_or_new edge (hold_at w p.position)) (kept_names edge (hold_at w p.position) writable.fits.0 (λ hold h. freed p.position hold h)) freed)
      new_holds false = with_holds (f.view s) w.holds freed

      good : (b : Bool) → IsGoodView plan f s (if b then holds_for w edge p.position else w)
      good b = holds_view (f.view s) (if b then holds_for w edge p.position else w) (new_holds b) (view_itself plan f s is old there)

      same_id : (b : Bool) → (f.view s).id ≡ (if b then holds_for w edge p.position else w).id
      same_id true = refl
      same_id false = refl

      by : (b : Bool) → IsGoodTurn plan f s (if b then answers_proposal w port edge p else rests (f.view s)).view (if b then answers_proposal w port edge p else rests (f.view s)).acts
      by true =
          answer_turn (if is_free_for edge (hold_at w p.position) then holds_for w edge p.position else w) port (control.Vote w.id (vote_on edge p (hold_at w p.position)))
          (good (is_free_for edge (hold_at w p.position)))
          (vote_writable w.id edge p (hold_at w p.position) (old.sound s there).named writable (λ h e. freed p.position h e))
          (λ q. same_id (is_free_for edge (hold_at w p.position)))
      by false = silent_turn plan f s is old (f.view s) (rests (f.view s)) (view_itself plan f s is old there) (still_does (f.view s) [] (old.sound s there).homes tt)

  -- a vote that counts
  fixed_view : s < switch_count plan.k → (f.view s).k ≡ plan.k → (port : ℕ) (b : Bool) → (f.view s).place.level ≡ Some 0 → (f.view s).place.position ≡ None →
      IsGoodView plan f s (record (with_granted (f.view s) port) {
        place = record (f.view s).place { position = if b then Some (f.view s).proposed else (f.view s).place.position };
      })
  fixed_view there size port b level none =
      let v : SwitchView = f.view s in
      let own = old.own s in
      let sound = old.sound s there in
      new_view plan f s is old _ refl
      (record { level = λ x e. e; position = λ x e. absurd (cc); pod = λ x e. e })
      (record {
        level = own.level;
        position = λ x e. (level, by b x e);
        pod = own.pod;
      })
      (λ n e. inl (old.pods s n e)) (same_ports v.ports)
      (record {
        named = sound.named;
        full = record { host = sound.full.host; one = sound.full.one; two = sound.full.two; up = sound.full.up; down = sound.full.down };
        able = sound.able;
        holders = sound.holders;
        homes = record { grants = sound.homes.grants; remembered = sound.homes.remembered; members = sound.homes.members };
      })
    where
      by : (b : Bool) (x : ℕ) → (if b then Some (f.view s).proposed else (f.view s).place.position) ≡ Some x → x < plan.k / 2
      by true x e = let less = (old.sound s there).able.position in let same : (f.view s).proposed ≡ x = cc in rw (← same, ← size) less
      by false x e = absurd (cc)

  moved_view : s < switch_count plan.k → IsGoodView plan f s (moves_on (f.view s))
  moved_view there = by ((f.view s).attempt == 4294967295) refl
    where
      by : (b : Bool) → ((f.view s).attempt == 4294967295) ≡ b → IsGoodView plan f s (if b then f.view s
          else record (f.view s) { attempt = (f.view s).attempt + 1; proposed = ((f.view s).proposed + 1) % half (f.view s).k; granted = [] })
      by true e = view_itself plan f s is old there
      by false e =
          let v : SwitchView = f.view s in
          let sound = old.sound s there in
          same_view plan f s is old _ refl refl (same_ports v.ports) (record {
            named = sound.named;
            full = sound.full;
            able = record {
              begun = omega arith;
              within = (let w = sound.able.within in let differ : v.attempt ≡ 4294967295 → ⊥ = (λ same. absurd (let t = eq-eqb v.attempt 4294967295 same in cc)) in omega (arith, eqb-false v.attempt 4294967295 e));
              position = (let some = sound.able.position in mod-lt (v.proposed + 1) (omega arith));
            };
            holders = sound.holders;
            homes = record { grants = sound.homes.grants; remembered = sound.homes.remembered; members = sound.homes.members };
          })

  voted_view : s < switch_count plan.k → (f.view s).k ≡ plan.k → (port : ℕ) (vote : Vote) → IsGoodView plan f s (after_vote (f.view s) port vote)
  voted_view there size port vote = by (counts (f.view s).place (f.view s).attempt (f.view s).proposed vote) refl
    where
      by_way : (b : Bool) → IsGoodView plan f s (if b then moves_on (f.view s) else f.view s)
      by_way true = moved_view there
      by_way false = view_itself plan f s is old there

      by_grant : (b : Bool) → (f.view s).place.level ≡ Some 0 → (f.view s).place.position ≡ None →
          IsGoodView plan f s (if b then fixes_position (with_granted (f.view s) port) else if gives_way (f.view s).id vote then moves_on (f.view s) else f.view s)
      by_grant true level none = fixed_view there size port (is_majority (with_granted (f.view s) port)) level none
      by_grant false level none = by_way (gives_way (f.view s).id vote)

      by : (b : Bool) → counts (f.view s).place (f.view s).attempt (f.view s).proposed vote ≡ b → IsGoodView plan f s (if b then counted (f.view s) port vote else f.view s)
      by true e =
          let v : SwitchView = f.view s in
          let third = and_parts (is_known v.place.level 0 && is_none v.place.position && (vote.attempt == v.attempt)) (vote.position == v.proposed) e in
          let second = and_parts (is_known v.place.level 0 && is_none v.place.position) (vote.attempt == v.attempt) third.0 in
          let first = and_parts (is_known v.place.level 0) (is_none v.place.position) second.0 in
          by_grant vote.granted (known_is v.place.level 0 first.0) (is_none_is v.place.position first.1)
      by false e = view_itself plan f s is old there

  pub vote_turn : s < switch_count plan.k → (f.view s).k ≡ plan.k → (port : ℕ) (vote : Vote) →
      IsGoodTurn plan f s (changes_to (f.view s) (after_vote (f.view s) port vote)).view (changes_to (f.view s) (after_vote (f.view s) port vote)).acts
  vote_turn there size port vote =
      let new : SwitchView = after_vote (f.view s) port vote in
      let good = voted_view there size port vote in
      silent_turn plan f s is old new (changes_to (f.view s) new) good (changes_to_silent (f.view s) new good.sound.homes)
