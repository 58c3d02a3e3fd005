-- A host moves.
use Rattle.std.proofs.Common.{◌≡◌, ℕ, zero, suc, ◌<◌, ◌==◌, ◌&&◌, not, nat_lt, true, false, All, IsSome, List, [], ◌∷◌, ◌++◌, length, Option, None, Some, reverse, get_or, set, slice_get, option_map, refl, sym, ◌∙◌, ap, subst, arith, inl, inr}
use Rattle.std.specs.List.{AllByRecursion}
use Rattle.std.proofs.lemmas.Bool.{and_from, and_parts, cases_Bool, cases_eq, cond-false, cond-true, eq-eqb, eqb-false, eqb-true, false_from_ne_true, false≢true, lt-ltb, ltb-true, or_left}
use Rattle.std.proofs.lemmas.List.{append_assoc}
use Rattle.std.proofs.Math.ListN.{length-set}
use Rattle.std.proofs.lemmas.Option.{get_or_from_slice_get, same_Some, slice_get_within}
use Rattle.pl_lemmas.proofs.Exports.{all_append, set_get, set_get_other}
use Rattle.pl_frame.specs.Ethernet.{destination_of}
use Rattle.pl_layouts.specs.declared.place.Place.{Place}
use Rattle.pl_layouts.specs.Memberships.{is_group}
use Rattle.pl_wiring.specs.declared.host.Host.{Host}
use Rattle.pl_wiring.specs.declared.link.Peer.{Peer}
use Rattle.pl_wiring.specs.declared.link.Peer.TheVariants.{HostPort}
use Rattle.pl_wiring.specs.FatTree.{IsAt}
use Rattle.pl_wiring.specs.Index.{port_index}
use Rattle.pl_wiring.specs.Labels.{edge_count, switch_count}
use Rattle.pl_wiring.specs.Peers.{peer_of}
use Rattle.pl_wiring.specs.Plan.{IsPlan, Plan}
use Rattle.pl_wiring.proofs.Exports.{IsPeer-host_port, peer_is_none, peer_says}
use Rattle.pl_journal.specs.declared.cause.Cause.TheVariants as cause
use Rattle.pl_journal.specs.declared.entry.Entry.{Entry}
use Rattle.pl_journal.specs.declared.entry.Entry.TheVariants.{Moved}
use Rattle.pl_journal.specs.Causes.{CauseShows, has_left}
use Rattle.pl_journal.specs.Flights.{address, addressee, sender, trail}
use Rattle.pl_journal.specs.Lossy.{RunTo}
use Rattle.pl_journal.specs.Places.{EdgePort, at_port, is_at, is_free, is_host_port, is_left_free, edge_port, edge_port_of}
use Rattle.pl_journal.proofs.Exports.{edge_port_of_moved, edge_port_of_others, host_port_is, hosts_apart}
use Rattle.pl_world.specs.declared.item.Item.{Item}
use Rattle.pl_world.specs.declared.item.Item.TheVariants.{Control, Data}
use Rattle.pl_world.specs.declared.attachment.AttachmentPoint.{AttachmentPoint}
use Rattle.pl_world.specs.Changes.{ends_of, host_at, host_no}
use Rattle.pl_node.specs.HostDuties.{HostsSendData}
use Rattle.pl_node.specs.HostInputs.{HostRule}
use Rattle.pl_world.specs.Flying.{IsTreePort, IsCounted}
use Rattle.pl_world.specs.LinksAndMoves.{host_moved}
use Rattle.pl_world.specs.Refusals.{has_host, has_port, has_switch, is_for_hosts}
use Rattle.pl_world.specs.WorldRule.{HostMoves}
use Rattle.pl_world.specs.Worlds.{WorldView}
use Rattle.pl_world.proofs.Exports.{all_found, attachments_rest, begun-append, counted as to_counted, emptied_host_balance, emptied_out_balance, ends_of-begun, heard_rest, noted_owes, Sound, sound}
use Rattle.pl_law_flights.specs.OnTheWay.{IsGoing, IsOut, IsJournaled, IsWaiting, AttachmentsAgree, JournalSays, history_of, place_in, edge_port_of_attachment}
use Rattle.pl_law_flights.proofs.Arriving.{found_at}
use Rattle.pl_law_flights.proofs.Failing.{IsEnding, ends_journaled}
use Rattle.pl_law_flights.proofs.Counting.{counts, nobody}
use Rattle.pl_law_flights.proofs.HostTurns.{host_journaled}
use Rattle.pl_law_flights.proofs.KeepingFlights.{goes_on, kept, same_history}
use Rattle.pl_law_flights.proofs.EntriesOfFlights.{reverse_noted}
use Rattle.pl_law_flights.proofs.Queues.{set_host, set_out}

is_there : {T : Type 0} (xs : List T) (n : ℕ) → n < length xs → IsSome (slice_get xs n)
is_there [] n within = absurd (omega arith)
is_there (x ∷ xs) zero within = refl
is_there (x ∷ xs) (suc n) within = is_there xs n (omega arith)

-- the frames in the queue of a host that has moved end
pub left_shown : (plan : Plan) (past : List Entry) (h : ℕ) (to : AttachmentPoint) (items : List Item) → AllByRecursion (IsWaiting plan past h) items →
    AllByRecursion (IsEnding plan (Moved (host_no h) to.edge to.port ∷ past)) (ends_of cause.HostGone items)
left_shown plan past h to [] all = tt
left_shown plan past h to (Control frame ∷ items) all = left_shown plan past h to items all.1
left_shown plan past h to (Data id frame ∷ items) all =
    let by : sender past id ≡ Some h = ap (λ v. v.sender) all.0 in
    let none : trail past id ≡ [] = ap (λ v. v.trail) all.0 in
    (inr (inr (rw (by, none) (or_left (h == h) _ (eq-eqb h h refl)))), left_shown plan past h to items all.1)

-- and those in the queue to it
module _ (plan : Plan) (place : ℕ → Place) (past : List Entry) (h : ℕ) (to : AttachmentPoint) (s port : ℕ) (peer : peer_of plan s port ≡ HostPort)
    (gone : (g : ℕ) → is_at (edge_port_of plan (Moved (host_no h) to.edge to.port ∷ past) g) (at_port s port) ≡ false) where
  left_is : (o : Option ℕ) (there : Option EdgePort) (g : ℕ) → o ≡ Some g → there ≡ Some (at_port s port) →
      has_left plan (Moved (host_no h) to.edge to.port ∷ past) o there ≡ true
  left_is o there g is at = rw (is, at) (ap not (gone g))

  pub gone_shown : (items : List Item) → AllByRecursion (IsOut plan place past s port) items →
      AllByRecursion (IsEnding plan (Moved (host_no h) to.edge to.port ∷ past)) (ends_of cause.HostGone items)
  gone_shown [] all = tt
  gone_shown (Control frame ∷ items) all = gone_shown items all.1
  gone_shown (Data id frame ∷ items) all =
      let b = subst (λ (p : Peer). IsGoing plan place past s port p id frame) peer all.0 in
      let shows : CauseShows plan (Moved (host_no h) to.edge to.port ∷ past) id cause.HostGone = elim (cases_Bool (is_group (destination_of frame))) [
        | inl group ↦ inl (b.group ∙ group)
        | inr unicast ↦
            let one = b.one unicast in
            inr (inl (left_is (addressee past id) (edge_port past (address past id)) one.host one.held one.there))
      ] in
      (shows, gone_shown items all.1)

-- a host stands at a port for hosts
pub at_host_port : (plan : Plan) (past : List Entry) (h : ℕ) (there : EdgePort) → IsPlan plan → RunTo plan past → edge_port_of plan past h ≡ Some there →
    peer_of plan there.edge there.port ≡ HostPort
at_host_port plan [] h there is run at = by_host (slice_get plan.hosts h) refl at
  where
    by_host : (o : Option Host) → slice_get plan.hosts h ≡ o → option_map (λ (x : Host). at_port x.edge.0 x.port) o ≡ Some there → peer_of plan there.edge there.port ≡ HostPort
    by_host None found e = absurd (cc)
    by_host (Some host) found e =
        let within = slice_get_within plan.hosts h host found in
        let free : All (λ l. IsAt l host.edge.0 host.port → ⊥) plan.links =
        subst (λ (x : Host). All (λ l. IsAt l x.edge.0 x.port → ⊥) plan.links) (get_or_from_slice_get plan.hosts h host host found) (is.at_free_ports h host within) in
        let same : at_port host.edge.0 host.port ≡ there = same_Some (at_port host.edge.0 host.port) there e in
        subst (λ (x : EdgePort). peer_of plan x.edge x.port ≡ HostPort) same ((peer_is_none plan host.edge.0 host.port is).1 free)
at_host_port plan (Moved m e p ∷ past) h there is run at = elim (cases_Bool (m.0 == h)) [
  | inl same ↦
      let to : at_port e.0 p ≡ there = same_Some (at_port e.0 p) there (sym (cond-true (m.0 == h) (Some (at_port e.0 p)) (edge_port_of plan past h) same) ∙ at) in
      let free = (and_parts (nat_lt e.0 (edge_count plan.k) && nat_lt p plan.k && is_host_port (peer_of plan e.0 p))
      (is_left_free plan past (at_port e.0 p) (length plan.hosts)) run.1.1).0 in
      let for_hosts = (and_parts (nat_lt e.0 (edge_count plan.k) && nat_lt p plan.k) (is_host_port (peer_of plan e.0 p)) free).1 in
      subst (λ (x : EdgePort). peer_of plan x.edge x.port ≡ HostPort) to (host_port_is (peer_of plan e.0 p) for_hosts)
  | inr other ↦ at_host_port plan past h there is run.0 (sym (cond-false (m.0 == h) (Some (at_port e.0 p)) (edge_port_of plan past h) other) ∙ at)
]
at_host_port plan (entry ∷ past) h there is run at = at_host_port plan past h there is run.0 at

at_is : (o : Option EdgePort) (s port : ℕ) → is_at o (at_port s port) ≡ true → o ≡ Some (at_port s port)
at_is None s port at = absurd (false≢true at)
at_is (Some there) s port at =
    let parts = and_parts (there.edge == s) (there.port == port) at in
    ap Some (ap (λ a. at_port a there.port) (eqb-true there.edge s parts.0) ∙ ap (λ b. at_port s b) (eqb-true there.port port parts.1))

module _ (w : WorldView) (counted : IsCounted w) (told : IsJournaled w) (h : ℕ) (to from : AttachmentPoint) (found : slice_get w.attachments h ≡ Some from)
    (known : has_host w.plan h ≡ true) (for_hosts : is_for_hosts w.plan to.edge.0 to.port ≡ true) (nobody_there : host_at w to.edge.0 to.port ≡ None) where
  before : List Entry
  before = reverse w.journal

  moved_now : Entry
  moved_now = Moved (host_no h) to.edge to.port

  stood : edge_port_of w.plan (reverse w.journal) h ≡ Some (at_port from.edge.0 from.port)
  stood = sym (told.attachments_agree h) ∙ ap (option_map edge_port_of_attachment) found

  -- nobody stands where it goes
  none_at : (g : ℕ) → edge_port_of w.plan (reverse w.journal) g ≡ Some (at_port to.edge.0 to.port) → ⊥
  none_at g at = let other = found_at w (reverse w.journal) to.edge.0 to.port g told.attachments_agree at in let one = other.1 in absurd (cc)

  left_free : (n : ℕ) → is_left_free w.plan (reverse w.journal) (at_port to.edge.0 to.port) n ≡ true
  left_free zero = refl
  left_free (suc n) = and_from (not (is_at (edge_port_of w.plan (reverse w.journal) n) (at_port to.edge.0 to.port))) _
      (ap not (false_from_ne_true _ (λ at. none_at n (at_is (edge_port_of w.plan (reverse w.journal) n) to.edge.0 to.port at)))) (left_free n)

  free : is_free w.plan (reverse w.journal) (at_port to.edge.0 to.port) ≡ true
  free =
      let is_plan = (sound w counted).rest.is_plan in
      let parts = and_parts (has_port w.plan to.edge.0 to.port) (is_host_port (peer_of w.plan to.edge.0 to.port)) for_hosts in
      let range = and_parts (has_switch w.plan to.edge.0) (nat_lt to.port w.plan.k) parts.0 in
      let edge : to.edge.0 < edge_count w.plan.k = IsPeer-host_port w.plan to.edge.0 to.port (peer_of w.plan to.edge.0 to.port) is_plan
      (ltb-true to.edge.0 (switch_count w.plan.k) range.0) (ltb-true to.port w.plan.k range.1) (peer_says w.plan.links to.edge.0 to.port)
      (host_port_is (peer_of w.plan to.edge.0 to.port) parts.1) in
      and_from (nat_lt to.edge.0 (edge_count w.plan.k) && nat_lt to.port w.plan.k && is_host_port (peer_of w.plan to.edge.0 to.port)) _
      (and_from (nat_lt to.edge.0 (edge_count w.plan.k) && nat_lt to.port w.plan.k) _
      (and_from (nat_lt to.edge.0 (edge_count w.plan.k)) _ (lt-ltb _ _ edge) range.1) parts.1) (left_free (length w.plan.hosts))

  -- where it stood nobody stands now
  gone : (g : ℕ) → is_at (edge_port_of w.plan (Moved (host_no h) to.edge to.port ∷ reverse w.journal) g) (at_port from.edge.0 from.port) ≡ false
  gone g = false_from_ne_true _ (λ at.
      let there = at_is (edge_port_of w.plan (Moved (host_no h) to.edge to.port ∷ reverse w.journal) g) from.edge.0 from.port at in
      elim (cases_Bool (h == g)) [
        | inl same ↦
            let here : at_port to.edge.0 to.port ≡ at_port from.edge.0 from.port = same_Some _ _
            (sym (cond-true (h == g) (Some (at_port to.edge.0 to.port)) (edge_port_of w.plan (reverse w.journal) g) same) ∙ there) in
            none_at h (stood ∙ ap Some (sym here))
        | inr other ↦
            let still = sym (cond-false (h == g) (Some (at_port to.edge.0 to.port)) (edge_port_of w.plan (reverse w.journal) g) other) ∙ there in
            eqb-false h g other (hosts_apart w.plan (reverse w.journal) h g (at_port from.edge.0 from.port) (sound w counted).rest.is_plan told.run stood still)
      ])

  moved_attachments : AttachmentsAgree w.plan (Moved (host_no h) to.edge to.port ∷ reverse w.journal) (set w.attachments h to)
  moved_attachments g = elim (cases_eq h g) [
    | inl same ↦
        let within = slice_get_within w.attachments h from found in
        let P : ℕ → Type 0 = λ n. option_map edge_port_of_attachment (slice_get (set w.attachments h to) n) ≡ edge_port_of w.plan (Moved (host_no h) to.edge to.port ∷ reverse w.journal) n in
        subst P same (ap (option_map edge_port_of_attachment) (set_get w.attachments h to within) ∙ sym (edge_port_of_moved w.plan (reverse w.journal) (host_no h) to.edge to.port))
    | inr other ↦
        ap (option_map edge_port_of_attachment) (set_get_other w.attachments h g to other) ∙ told.attachments_agree g
        ∙ sym (edge_port_of_others w.plan (reverse w.journal) (host_no h) to.edge to.port g other)
  ]

  pub moved_sound : Sound (host_moved w h from to)
  moved_sound =
      let s = sound w counted in
      let parts = and_parts (has_port w.plan to.edge.0 to.port) (is_host_port (peer_of w.plan to.edge.0 to.port)) for_hosts in
      let range = and_parts (has_switch w.plan to.edge.0) (nat_lt to.port w.plan.k) parts.0 in
      let there : IsTreePort w.plan.k to = record { edge = ltb-true to.edge.0 (switch_count w.plan.k) range.0; port = ltb-true to.port w.plan.k range.1 } in
      record {
        balance = emptied_out_balance w.plan (set w.from_hosts h []) w.out _ w.begun (λ id. 0) cause.HostGone (port_index w.plan.k from.edge.0 from.port)
            (emptied_host_balance w.plan w.from_hosts w.out _ w.begun (λ id. 0) cause.HostGone h
            (noted_owes w (λ id. 0) (λ id. 0) (Moved (host_no h) to.edge to.port ∷ []) refl (λ id. refl) s.balance));
        rest = heard_rest (record w { attachments = set w.attachments h to }) _ (length-set w.heard h _) (attachments_rest w h to there s.rest);
      }

  pub moved_journaled : IsJournaled (host_moved w h from to)
  moved_journaled =
      let plan : Plan = w.plan in
      let past : List Entry = reverse w.journal in
      let place : ℕ → Place = place_in w.switches in
      let so = sound w counted in
      let is_plan = so.rest.is_plan in
      let e : Entry = Moved (host_no h) to.edge to.port in
      let now : List Entry = e ∷ past in
      let at : ℕ = port_index plan.k from.edge.0 from.port in
      let within : from.port < plan.k = (all_found (IsTreePort plan.k) w.attachments h from found so.rest.at_ports).port in
      let one : List Item = get_or w.from_hosts h [] in
      let two : List Item = get_or w.out at [] in
      let c = counts w past (λ i. 0) refl so.balance in
      let away = nobody past w.from_hosts w.out (λ i. 0) c in
      let f1 = goes_on plan place past now w.from_hosts w.out 0 away (λ g other. kept plan past e g tt) (same_history (history_of past)) told.flying in
      let f2 = set_host plan place now w.from_hosts w.out h [] tt f1 in
      let f3 = set_out plan place now (set w.from_hosts h []) w.out from.edge.0 from.port [] within tt f2 in
      let exists : IsSome (slice_get plan.hosts h) = is_there plan.hosts h (ltb-true h (length plan.hosts) known) in
      let t : JournalSays plan place now w.links (set w.attachments h to) (set w.from_hosts h []) (set w.out at []) = record {
        run = (told.run, (exists, free));
        trail = (told.trail, tt);
        links_agree = told.links_agree;
        attachments_agree = moved_attachments;
        flying = f3;
      } in
      let peer = at_host_port plan past h (at_port from.edge.0 from.port) is_plan told.run stood in
      let all : AllByRecursion (IsEnding plan now) (ends_of cause.HostGone one ++ ends_of cause.HostGone two) =
      all_append (IsEnding plan now) (ends_of cause.HostGone one) (ends_of cause.HostGone two)
      (left_shown plan past h to one (told.flying.waiting h))
      (gone_shown plan place past h to from.edge.0 from.port peer gone two (told.flying.going from.edge.0 from.port within)) in
      ends_journaled (host_moved w h from to) (ends_of cause.HostGone one ++ ends_of cause.HostGone two) (w.journal ++ e ∷ []) now
      (append_assoc (w.journal ++ e ∷ []) (ends_of cause.HostGone one) (ends_of cause.HostGone two)) (reverse_noted w.journal past e refl)
      (let a = ends_of-begun cause.HostGone one in let b = ends_of-begun cause.HostGone two in
      omega (arith, begun-append (ends_of cause.HostGone one) (ends_of cause.HostGone two))) (to_counted (host_moved w h from to) moved_sound) all t

  -- a host moves, and does there what it does after a move
  pub goes_journaled : (rule : HostRule) → HostsSendData rule → (new : WorldView) → HostMoves rule w h to (Some from) new → IsJournaled new
  goes_journaled rule sends new turn = host_journaled rule sends (host_moved w h from to) h _ _ new moved_sound moved_journaled turn
