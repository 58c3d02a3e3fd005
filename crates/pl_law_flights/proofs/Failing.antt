-- A link fails, or is repaired.
use Rattle.std.proofs.Common.{◌≡◌, ℕ, ◌+◌, ◌<◌, ◌==◌, ◌&&◌, not, Bool, true, false, if◌then◌else◌, Contains, List, [], ◌∷◌, ◌++◌, length, reverse, get_or, set, refl, sym, ◌∙◌, ap, subst, arith, inl, inr}
use Rattle.std.specs.List.{AllByRecursion}
use Rattle.std.proofs.lemmas.Bool.{and_from, and_parts, both_ways, cases_Bool, cases_eq, cases_lt, cond-false, cond-true, eq-eqb, eqb-true, not-false, not-true, or_cases, or_left, or_right}
use Rattle.std.proofs.lemmas.List.{append_assoc, get_or-set_other, get_or-set_same, get_or_past, set_past}
use Rattle.pl_lemmas.proofs.Exports.{all_append}
use Rattle.pl_layouts.specs.declared.place.Place.{Place}
use Rattle.pl_wiring.specs.declared.label.SwitchNo.{SwitchNo}
use Rattle.pl_wiring.specs.declared.link.Link.{Link}
use Rattle.pl_wiring.specs.declared.link.Peer.{Peer}
use Rattle.pl_wiring.specs.declared.link.Peer.TheVariants.{HostPort, Switch}
use Rattle.pl_wiring.specs.FatTree.{IsAt, IsTreeLink}
use Rattle.pl_wiring.specs.Index.{port_index}
use Rattle.pl_wiring.specs.LiveLinks.{IsFor, LivePorts, is_live}
use Rattle.pl_wiring.specs.Peers.{LinksSwitches as IsLinkBetween, IsPeer, peer_of}
use Rattle.pl_wiring.specs.Plan.{IsPlan, Plan}
use Rattle.pl_wiring.proofs.Exports.{at_contained, changes, IsPeer-is, link_rises, peer_says, same_between}
use Rattle.pl_journal.proofs.Exports.{failed_either_way, failed_now}
use Rattle.pl_journal.specs.declared.cause.Cause.{Cause}
use Rattle.pl_journal.specs.declared.cause.Cause.TheVariants as cause
use Rattle.pl_journal.specs.declared.entry.Entry.{Entry}
use Rattle.pl_journal.specs.declared.entry.Entry.TheVariants.{Dropped, LinkDown, LinkUp}
use Rattle.pl_journal.specs.Causes.{CauseShows, touches_failed_link}
use Rattle.pl_journal.specs.Flights.{begun, ends, first_of, flight_of, trail, was_live}
use Rattle.pl_journal.specs.Lossy.{Needs}
use Rattle.pl_journal.specs.Places.{has_failed_link, is_failed, is_adjacent, same_ends}
use Rattle.pl_world.specs.declared.item.Item.{Item}
use Rattle.pl_world.specs.declared.item.Item.TheVariants.{Control, Data}
use Rattle.pl_world.specs.declared.attachment.AttachmentPoint.{AttachmentPoint}
use Rattle.pl_world.specs.Changes.{ends_of}
use Rattle.pl_law_flights.specs.OnTheWay.{Flying, IsBetweenSwitches, IsGoing, IsOut, IsJournaled, LinksAgree, JournalSays, history_of, place_in}
use Rattle.pl_law_flights.proofs.Counting.{Counts, counts, nobody, owed}
use Rattle.pl_law_flights.proofs.KeepingFlights.{between_kept, goes_on, kept, same_history}
use Rattle.pl_law_flights.proofs.EntriesOfFlights.{ends_here, grown, note_drop, reverse_grown, reverse_noted}
use Rattle.pl_law_flights.proofs.HandSteps.{begun_grown}
use Rattle.pl_law_flights.proofs.Queues.{set_out}
use Rattle.pl_law_flights.proofs.Rungs.{any_contained, failed_here}
use Rattle.pl_world.specs.Flying.{IsCounted, born}
use Rattle.pl_world.specs.LinksAndMoves.{link_failed, link_repaired, with_link}
use Rattle.pl_world.specs.Worlds.{WorldView}
use Rattle.pl_world.proofs.Exports.{begun-append, ends-cons, ends_of-begun, sound}

-- a cause that is shown is shown once another frame has ended
pub still_shown : (plan : Plan) (past : List Entry) (g id : ℕ) (other why : Cause) → CauseShows plan past id why → CauseShows plan (Dropped g other ∷ past) id why
still_shown plan past g id other cause.NotPlaced is = is
still_shown plan past g id other cause.NoNextHop is = is
still_shown plan past g id other cause.Lost is = is
still_shown plan past g id other cause.NoAddress is = is
still_shown plan past g id other cause.HostGone is = is
still_shown plan past g id other cause.LinkDown is = is
still_shown plan past g id other cause.Spent is = is
still_shown plan past g id other cause.BadArp is = is
still_shown plan past g id other cause.NoMember is = is

-- an end whose cause is shown
abbrev pub IsEnding : Plan → List Entry → Entry → Type 0
IsEnding plan past (Dropped id why) = CauseShows plan past id why
IsEnding plan past entry = ⊥

pub still_ending : (plan : Plan) (past : List Entry) (g : ℕ) (other : Cause) (entries : List Entry) → AllByRecursion (IsEnding plan past) entries →
    AllByRecursion (IsEnding plan (Dropped g other ∷ past)) entries
still_ending plan past g other [] all = tt
still_ending plan past g other (Dropped id why ∷ entries) all = (still_shown plan past g id other why all.0, still_ending plan past g other entries all.1)
still_ending plan past g other (entry ∷ entries) all = absurd all.0

-- ends are written one after the other
pub ends_written : (plan : Plan) (place : ℕ → Place) (entries past : List Entry) (links : LivePorts) (attachments : List AttachmentPoint) (from_hosts out : List (List Item)) →
    AllByRecursion (IsEnding plan past) entries → Counts past from_hosts out (λ id. ends entries id) →
    JournalSays plan place past links attachments from_hosts out → JournalSays plan place (grown entries past) links attachments from_hosts out
ends_written plan place [] past links attachments from_hosts out all c t = t
ends_written plan place (Dropped g why ∷ entries) past links attachments from_hosts out all c t =
    let o = owed plan past from_hosts out (λ id. ends (Dropped g why ∷ entries) id) g (ends entries g) t.run c (ends_here g why entries) in
    ends_written plan place entries (Dropped g why ∷ past) links attachments from_hosts out (still_ending plan past g why entries all.1)
    (record { flights = λ id. omega (arith, c.flights id, ends-cons (Dropped g why) entries id, ends-cons (Dropped g why) past id) })
    (note_drop plan place past links attachments from_hosts out g why (record { not_at_hosts = o.not_at_hosts; not_out = o.not_out }) o.flies all.0 t)
ends_written plan place (entry ∷ entries) past links attachments from_hosts out all c t = absurd all.0

pub ends_counted : (entries past : List Entry) (id : ℕ) → ends (grown entries past) id ≡ ends entries id + ends past id
ends_counted [] past id = omega arith
ends_counted (e ∷ entries) past id = omega (arith, ends_counted entries (e ∷ past) id, ends-cons e entries id, ends-cons e past id)

-- a world whose last entries are ends, each of which is counted
pub ends_journaled : (new : WorldView) (entries journal past : List Entry) → new.journal ≡ journal ++ entries → reverse journal ≡ past → begun entries ≡ 0 →
    IsCounted new → AllByRecursion (IsEnding new.plan past) entries →
    JournalSays new.plan (place_in new.switches) past new.links new.attachments new.from_hosts new.out → IsJournaled new
ends_journaled new entries journal past is back none counted all t =
    let grew : reverse new.journal ≡ grown entries past = ap reverse is ∙ reverse_grown entries journal past back in
    let c = counts new (grown entries past) (λ i. 0) grew (sound new counted).balance in
    let before : Counts past new.from_hosts new.out (λ i. ends entries i) = record {
      flights = λ i.
          let many : born i (begun (grown entries past)) ≡ born i (begun past) = ap (born i) (let g = begun_grown entries past in omega arith) in
          omega (arith, c.flights i, ends_counted entries past i, many);
    } in
    subst (λ p. JournalSays new.plan (place_in new.switches) p new.links new.attachments new.from_hosts new.out) (sym grew)
    (ends_written new.plan (place_in new.switches) entries past new.links new.attachments new.from_hosts new.out all before t)

-- the link of two switches alone is cut
module _ (plan : Plan) (place : ℕ → Place) (past : List Entry) (x y : SwitchNo) where
  cut_kept : (g a b : ℕ) → same_ends x.0 y.0 a b ≡ false → was_live past g a b ≡ true → was_live (LinkDown x y ∷ past) g a b ≡ true
  cut_kept g a b other live = cond-false (same_ends x.0 y.0 a b) false (was_live past g a b) other ∙ live

  cut_going : (s port : ℕ) (peer : Peer) (g : ℕ) (frame : List ℕ) → ((t : SwitchNo) (q : ℕ) → peer ≡ Switch t q → same_ends x.0 y.0 s t.0 ≡ false) →
      IsGoing plan place past s port peer g frame → IsGoing plan place (LinkDown x y ∷ past) s port peer g frame
  cut_going s port (Switch t q) g frame other is =
      between_kept plan place (history_of past) (history_of past) (flight_of plan past g) (flight_of plan past g) _ _ frame s t.0 refl (cut_kept g s t.0 (other t q refl))
      (same_history (history_of past)) is
  cut_going s port HostPort g frame other is = is

  cut_all : (s port : ℕ) → ((t : SwitchNo) (q : ℕ) → peer_of plan s port ≡ Switch t q → same_ends x.0 y.0 s t.0 ≡ false) → (items : List Item) →
      AllByRecursion (IsOut plan place past s port) items → AllByRecursion (IsOut plan place (LinkDown x y ∷ past) s port) items
  cut_all s port other [] all = tt
  cut_all s port other (Control frame ∷ items) all = (tt, cut_all s port other items all.1)
  cut_all s port other (Data id frame ∷ items) all = (cut_going s port (peer_of plan s port) id frame other all.0, cut_all s port other items all.1)

emptied : (queues : List (List Item)) (n : ℕ) → get_or (set queues n []) n [] ≡ []
emptied queues n = elim (cases_lt n (length queues)) [
  | inl within ↦ get_or-set_same queues n [] [] within
  | inr past ↦ ap (λ qs. get_or qs n []) (set_past queues n [] past) ∙ get_or_past queues n [] past
]

module _ (plan : Plan) (link : Link) (is_plan : IsPlan plan) (there : Contains plan.links link) where
  pub rises : link.lower.0 < link.upper.0
  rises = link_rises plan.k link (at_contained (IsTreeLink plan.k) plan.links link is_plan.tree.no_other there)

  pub is_linked : is_adjacent plan link.lower.0 link.upper.0 ≡ true
  is_linked = any_contained (λ l. same_ends l.lower.0 l.upper.0 link.lower.0 link.upper.0) plan.links link there
      (or_left ((link.lower.0 == link.lower.0) && (link.upper.0 == link.upper.0)) ((link.lower.0 == link.upper.0) && (link.upper.0 == link.lower.0))
      (and_from _ _ (eq-eqb link.lower.0 link.lower.0 refl) (eq-eqb link.upper.0 link.upper.0 refl)))

  pub up : peer_of plan link.lower.0 link.lower_port ≡ Switch link.upper link.upper_port
  up = sym (IsPeer-is plan.k plan.links link.lower.0 link.lower_port (Switch link.upper link.upper_port) is_plan.tree
      (link, there, inl (refl, refl, refl, refl)))

  pub down : peer_of plan link.upper.0 link.upper_port ≡ Switch link.lower link.lower_port
  down = sym (IsPeer-is plan.k plan.links link.upper.0 link.upper_port (Switch link.lower link.lower_port) is_plan.tree
      (link, there, inr (refl, refl, refl, refl)))

  -- a port that leads from one end to the other is the link's
  pub at_ends : (s port : ℕ) (t : SwitchNo) (q : ℕ) → same_ends link.lower.0 link.upper.0 s t.0 ≡ true → peer_of plan s port ≡ Switch t q → IsAt link s port
  at_ends s port t q same peer =
      let says : IsPeer plan.links s port (Switch t q) = subst (λ p. IsPeer plan.links s port p) peer (peer_says plan.links s port) in
      let mine : IsLinkBetween link s t.0 = elim (or_cases ((link.lower.0 == s) && (link.upper.0 == t.0)) ((link.lower.0 == t.0) && (link.upper.0 == s)) same) [
        | inl straight ↦ let parts = and_parts (link.lower.0 == s) (link.upper.0 == t.0) straight in inl (eqb-true _ _ parts.0, eqb-true _ _ parts.1)
        | inr turned ↦ let parts = and_parts (link.lower.0 == t.0) (link.upper.0 == s) turned in inr (eqb-true _ _ parts.0, eqb-true _ _ parts.1)
      ] in
      let other : IsLinkBetween says.0 s t.0 = elim (says.2) [ inl e ↦ inl (e.0, e.2) | inr e ↦ inr (e.2, e.0) ] in
      let one : link ≡ says.0 = same_between plan link says.0 s t.0 is_plan there says.1 mine other in
      subst (λ (l : Link). IsAt l s port) (sym one) (elim (says.2) [ inl e ↦ inl (e.0, e.1) | inr e ↦ inr (e.0, e.1) ])

  -- and the link's ports lead from one end to the other
  pub ends_at : (s port : ℕ) (t : SwitchNo) (q : ℕ) → IsAt link s port → peer_of plan s port ≡ Switch t q → same_ends link.lower.0 link.upper.0 s t.0 ≡ true
  ends_at s port t q at peer = elim at [
    | inl low ↦
        let here : peer_of plan s port ≡ Switch link.upper link.upper_port = subst (λ a. peer_of plan a port ≡ Switch link.upper link.upper_port) (low.0)
        (subst (λ b. peer_of plan link.lower.0 b ≡ Switch link.upper link.upper_port) (low.1) up) in
        let end : link.upper ≡ t = cc in
        or_left _ _ (and_from _ _ (eq-eqb _ _ (low.0)) (eq-eqb _ _ (ap (λ (x : SwitchNo). x.0) end)))
    | inr high ↦
        let here : peer_of plan s port ≡ Switch link.lower link.lower_port = subst (λ a. peer_of plan a port ≡ Switch link.lower link.lower_port) (high.0)
        (subst (λ b. peer_of plan link.upper.0 b ≡ Switch link.lower link.lower_port) (high.1) down) in
        let end : link.lower ≡ t = cc in
        or_right _ _ (and_from _ _ (eq-eqb _ _ (ap (λ (x : SwitchNo). x.0) end)) (eq-eqb _ _ (high.0)))
  ]

  other_port : (s port : ℕ) → (port_index plan.k s port ≡ port_index plan.k link.lower.0 link.lower_port → ⊥) →
      (port_index plan.k s port ≡ port_index plan.k link.upper.0 link.upper_port → ⊥) → IsAt link s port → ⊥
  other_port s port one other at = elim at [
    | inl low ↦ one (sym (ap (λ a. port_index plan.k a port) (low.0)) ∙ sym (ap (λ b. port_index plan.k link.lower.0 b) (low.1)))
    | inr high ↦ other (sym (ap (λ a. port_index plan.k a port) (high.0)) ∙ sym (ap (λ b. port_index plan.k link.upper.0 b) (high.1)))
  ]

  module _ (place : ℕ → Place) (past : List Entry) (from_hosts out : List (List Item)) where
    lower_at : ℕ
    lower_at = port_index plan.k link.lower.0 link.lower_port

    upper_at : ℕ
    upper_at = port_index plan.k link.upper.0 link.upper_port

    cut : List Entry
    cut = LinkDown link.lower link.upper ∷ past

    -- the other queues go on
    pub cut_flying : Flying plan place past from_hosts (set (set out (port_index plan.k link.lower.0 link.lower_port) []) (port_index plan.k link.upper.0 link.upper_port) []) →
        Flying plan place (LinkDown link.lower link.upper ∷ past) from_hosts
        (set (set out (port_index plan.k link.lower.0 link.lower_port) []) (port_index plan.k link.upper.0 link.upper_port) [])
    cut_flying f = record {
      waiting = f.waiting;
      going = λ s port within.
          let n : ℕ = port_index plan.k s port in
          let l : ℕ = port_index plan.k link.lower.0 link.lower_port in
          let u : ℕ = port_index plan.k link.upper.0 link.upper_port in
          let P : List Item → Type 0 = λ items. AllByRecursion (IsOut plan place (LinkDown link.lower link.upper ∷ past) s port) items in
          elim (cases_eq n u) [
            | inl same ↦ subst P (sym (ap (λ i. get_or (set (set out l []) u []) i []) same ∙ emptied (set out l []) u)) tt
            | inr not_upper ↦ elim (cases_eq n l) [
              | inl same ↦ subst P (sym (get_or-set_other (set out l []) u n [] [] not_upper ∙ ap (λ i. get_or (set out l []) i []) same ∙ emptied out l)) tt
              | inr not_lower ↦ cut_all plan place past link.lower link.upper s port
                  (λ t q peer. elim (cases_Bool (same_ends link.lower.0 link.upper.0 s t.0)) [
                    | inl one ↦ absurd (other_port s port not_lower not_upper (at_ends s port t q one peer))
                    | inr two ↦ two
                  ]) _ (f.going s port within)
            ]
          ];
    }

  -- which links are live, once this one is failed or repaired
  pub links_after : (past : List Entry) (links : LivePorts) (live : Bool) (later : List Entry) → IsFor plan links → LinksAgree plan past links →
      ((s t : ℕ) → is_failed later s t ≡ (if same_ends link.lower.0 link.upper.0 s t then not live else is_failed past s t)) →
      LinksAgree plan later (with_link links link live)
  links_after past links live later made agree says s port t q peer =
      let change = changes plan links link live is_plan.tree made there in
      elim (cases_Bool (same_ends link.lower.0 link.upper.0 s t.0)) [
        | inl same ↦ change.at_link s port (at_ends s port t q same peer)
            ∙ sym (ap not (says s t.0 ∙ cond-true (same_ends link.lower.0 link.upper.0 s t.0) (not live) (is_failed past s t.0) same) ∙ twice live)
        | inr other ↦ change.elsewhere s port (λ at. both_ways (same_ends link.lower.0 link.upper.0 s t.0) other (ends_at s port t q at peer))
            ∙ agree s port t q peer ∙ ap not (sym (says s t.0 ∙ cond-false (same_ends link.lower.0 link.upper.0 s t.0) (not live) (is_failed past s t.0) other))
      ]
    where
      twice : (b : Bool) → not (not b) ≡ b
      twice true = refl
      twice false = refl

-- the frames in the queue out of a port of a failed link end
pub ends_shown : (plan : Plan) (place : ℕ → Place) (past later : List Entry) (s port : ℕ) (t : SwitchNo) (q : ℕ) → peer_of plan s port ≡ Switch t q →
    has_failed_link plan later s ≡ true → ((id : ℕ) → trail later id ≡ trail past id) → (items : List Item) →
    AllByRecursion (IsOut plan place past s port) items → AllByRecursion (IsEnding plan later) (ends_of cause.LinkDown items)
ends_shown plan place past later s port t q peer failed same [] all = tt
ends_shown plan place past later s port t q peer failed same (Control frame ∷ items) all = ends_shown plan place past later s port t q peer failed same items all.1
ends_shown plan place past later s port t q peer failed same (Data id frame ∷ items) all =
    let b : IsBetweenSwitches plan place (history_of past) (flight_of plan past id) (was_live past id s t.0) frame s t.0 =
    subst (λ (p : Peer). IsGoing plan place past s port p id frame) peer all.0 in
    (ap (touches_failed_link plan later) (ap first_of (same id) ∙ b.last) ∙ failed, ends_shown plan place past later s port t q peer failed same items all.1)

-- a link fails
pub fails_journaled : (w : WorldView) (link : Link) → IsCounted w → IsJournaled w → Contains w.plan.links link → is_live w.links link ≡ true →
    IsCounted (link_failed w link) → IsJournaled (link_failed w link)
fails_journaled w link counted told there live after =
    let so = sound w counted in
    let plan : Plan = w.plan in
    let past : List Entry = reverse w.journal in
    let place : ℕ → Place = place_in w.switches in
    let is_plan = so.rest.is_plan in
    let l : ℕ = port_index plan.k link.lower.0 link.lower_port in
    let u : ℕ = port_index plan.k link.upper.0 link.upper_port in
    let down_now : Entry = LinkDown link.lower link.upper in
    let now : List Entry = down_now ∷ past in
    let ports = at_contained (λ (x : Link). (x.lower_port < plan.k) × (x.upper_port < plan.k)) plan.links link is_plan.tree.ports_in_range there in
    let one : List Item = get_or w.out l [] in
    let two : List Item = get_or (set w.out l []) u [] in
    let f1 = set_out plan place past w.from_hosts w.out link.lower.0 link.lower_port [] ports.0 tt told.flying in
    let f2 = set_out plan place past w.from_hosts (set w.out l []) link.upper.0 link.upper_port [] ports.1 tt f1 in
    let up_is = up plan link is_plan there in
    let down_is = down plan link is_plan there in
    let state : is_failed past link.lower.0 link.upper.0 ≡ false =
    not-true (is_failed past link.lower.0 link.upper.0) (sym (told.links_agree link.lower.0 link.lower_port link.upper link.upper_port up_is) ∙ live) in
    let needs : Needs plan past down_now = record { ordered = rises plan link is_plan there; adjacent = is_linked plan link is_plan there; state = state } in
    let t1 : JournalSays plan place now (with_link w.links link false) w.attachments w.from_hosts (set (set w.out l []) u []) = record {
      run = (told.run, needs);
      trail = (told.trail, tt);
      links_agree = links_after plan link is_plan there past w.links false now so.rest.made_for told.links_agree (λ s t. refl);
      attachments_agree = told.attachments_agree;
      flying = cut_flying plan link is_plan there place past w.from_hosts w.out f2;
    } in
    let failed_low = failed_here plan link.lower.0 link.lower_port link.upper link.upper_port is_plan up_is now (failed_now past link.lower link.upper) in
    let failed_high = failed_here plan link.upper.0 link.upper_port link.lower link.lower_port is_plan down_is now
    (failed_either_way now link.upper.0 link.lower.0 ∙ failed_now past link.lower link.upper) in
    let all : AllByRecursion (IsEnding plan now) (ends_of cause.LinkDown one ++ ends_of cause.LinkDown two) =
    all_append (IsEnding plan now) (ends_of cause.LinkDown one) (ends_of cause.LinkDown two)
    (ends_shown plan place past now link.lower.0 link.lower_port link.upper link.upper_port up_is failed_low (λ id. refl) one (told.flying.going link.lower.0 link.lower_port ports.0))
    (ends_shown plan place past now link.upper.0 link.upper_port link.lower link.lower_port down_is failed_high (λ id. refl) two (f1.going link.upper.0 link.upper_port ports.1)) in
    ends_journaled (link_failed w link) (ends_of cause.LinkDown one ++ ends_of cause.LinkDown two) (w.journal ++ down_now ∷ []) now
    (append_assoc (w.journal ++ down_now ∷ []) (ends_of cause.LinkDown one) (ends_of cause.LinkDown two)) (reverse_noted w.journal past down_now refl)
    (let a = ends_of-begun cause.LinkDown one in let b = ends_of-begun cause.LinkDown two in
    omega (arith, begun-append (ends_of cause.LinkDown one) (ends_of cause.LinkDown two))) after all t1

-- and is repaired
pub repaired_journaled : (w : WorldView) (link : Link) → IsCounted w → IsJournaled w → Contains w.plan.links link → is_live w.links link ≡ false →
    IsJournaled (link_repaired w link)
repaired_journaled w link counted told there dead =
    let so = sound w counted in
    let plan : Plan = w.plan in
    let past : List Entry = reverse w.journal in
    let place : ℕ → Place = place_in w.switches in
    let is_plan = so.rest.is_plan in
    let up_now : Entry = LinkUp link.lower link.upper in
    let state : is_failed past link.lower.0 link.upper.0 ≡ true =
    not-false (is_failed past link.lower.0 link.upper.0) (sym (told.links_agree link.lower.0 link.lower_port link.upper link.upper_port (up plan link is_plan there)) ∙ dead) in
    let needs : Needs plan past up_now = record { ordered = rises plan link is_plan there; adjacent = is_linked plan link is_plan there; state = state } in
    let c = counts w past (λ i. 0) refl so.balance in
    let t : JournalSays plan place (up_now ∷ past) (with_link w.links link true) w.attachments w.from_hosts w.out = record {
      run = (told.run, needs);
      trail = (told.trail, tt);
      links_agree = links_after plan link is_plan there past w.links true (up_now ∷ past) so.rest.made_for told.links_agree (λ s t. refl);
      attachments_agree = told.attachments_agree;
      flying = goes_on plan place past (up_now ∷ past) w.from_hosts w.out 0 (nobody past w.from_hosts w.out (λ i. 0) c)
          (λ g other. kept plan past up_now g tt) (same_history (history_of past)) told.flying;
    } in
    subst (λ p. JournalSays plan place p (with_link w.links link true) w.attachments w.from_hosts w.out) (sym (reverse_noted w.journal past up_now refl)) t
