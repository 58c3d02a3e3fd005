-- A frame of a host comes at its edge switch: what is done with it is good, and its host may be granted an address before.
use Rattle.std.proofs.Common.{◌≡◌, ℕ, ◌+◌, ◌<◌, ◌≤◌, ◌==◌, ◌&&◌, ◌||◌, not, Bool, true, false, cond, inl, inr, List, [], ◌∷◌, ◌++◌, length, Option, None, Some, get_or, is_some, unwrap_or, refl, sym, ◌∙◌, ap, subst, append_assoc}
use Rattle.std.proofs.lemmas.Bool.{and_from, and_left, and_parts, and_right, cases_Bool, cond-false, cond-true, cond_both, eq-eqb, false≢true, or_parts}
use Rattle.pl_frame.specs.declared.address.Mac.{Mac}
use Rattle.pl_frame.specs.Ethernet.{source_of}
use Rattle.pl_pmac.specs.declared.pmac.Pmac.{Pmac}
use Rattle.pl_pmac.specs.Pmac.{mac_of}
use Rattle.pl_wiring.specs.declared.link.Peer.TheVariants.{HostPort}
use Rattle.pl_wiring.specs.Peers.{peer_of}
use Rattle.pl_wiring.specs.Plan.{IsPlan, Plan}
use Rattle.pl_layouts.specs.declared.place.Place.{Place}
use Rattle.pl_layouts.specs.Frames.{arriving}
use Rattle.pl_layouts.specs.Memberships.{is_group}
use Rattle.pl_layouts.specs.Placement.{is_known, is_placed}
use Rattle.pl_layouts.proofs.Exports.{known_is, six_src}
use Rattle.pl_journal.specs.declared.cause.Cause.TheVariants.{NotPlaced, Spent}
use Rattle.pl_journal.specs.declared.entry.Entry.{Entry}
use Rattle.pl_journal.specs.declared.entry.Entry.TheVariants.{Crossed, Granted}
use Rattle.pl_journal.specs.Flights.{Flight}
use Rattle.pl_journal.specs.Lossy.{mac_of_host}
use Rattle.pl_journal.specs.Places.{EdgePort, at_port, same_edge_port, edge_port_of}
use Rattle.pl_journal.proofs.Exports.{same_edge_port_itself}
use Rattle.pl_node.specs.declared.acts.Act.{Act}
use Rattle.pl_node.specs.declared.acts.Act.TheVariants as act
use Rattle.pl_node.specs.declared.messages.ToManager.TheVariants.{Learned}
use Rattle.pl_node.specs.declared.switch_records.Grant.{Grant}
use Rattle.pl_node.specs.Accounting.{WereGranted}
use Rattle.pl_node.specs.SwitchViews.{SwitchView}
use Rattle.pl_steps.specs.Steps.{SwitchStep, does, rests, ◌▹◌}
use Rattle.pl_switch_rule.specs.Forwarding.{Choice}
use Rattle.pl_switch_rule.specs.Granting.{address_at_port, freed_at, grant_number, granted, grants_at, grants_new, grants_next, grants_or_learns, has_no_address, in_use, is_local, is_port_spent, learns_ip, learns_source, new_grant, next_vmid, remembers, sender_ip, with_grants, with_next}
use Rattle.pl_switch_rule.specs.Intake.{comes_from_host, mac_of_pmac, pmac_at, sends_in, takes_in, takes_in_or_spent, with_pmac}
use Rattle.pl_switch_rule.specs.Levels.{has_become_placed}
use Rattle.pl_switch_rule.specs.SwitchRule.{IsChoice}
use Rattle.pl_switch_rule.specs.Telling.{changes_told}
use Rattle.pl_switch_rule.proofs.Exports.{held_in_use}
use Rattle.pl_world.specs.Changes.{host_no, switch_no}
use Rattle.pl_law_flights.specs.OnTheWay.{AddressHistory, CameInPlaced, history_of}
use Rattle.pl_law_addresses.specs.EdgeAddresses.{is_settled}
use Rattle.pl_law_flights.specs.Standing.{IsGranted, IsNextAddress, KnowsAddresses, KnowsHosts, KnowsNeighbours, KnowsPlaces}
use Rattle.pl_law_flights.proofs.HostFramesCross.{come_in}
use Rattle.pl_law_flights.proofs.FindingHosts.{LooksAlike, alike_then, host_alike, host_found, host_unsettled, neighbours_alike, with_host}
use Rattle.pl_law_flights.proofs.GrantingAmid.{sourced}
use Rattle.pl_law_flights.proofs.GrantsAlike.{AgreesWith, knows_agreed, like_itself}
use Rattle.pl_law_flights.proofs.Hands.{GoodActs}
use Rattle.pl_law_flights.proofs.Hands.Hand.{Waits}
use Rattle.pl_law_flights.proofs.Hosts.{host_unicast, stood_there}
use Rattle.pl_law_flights.proofs.Learning.{Learns, knows_next, learns_of, next_granted, next_in_use}
use Rattle.pl_law_addresses.proofs.Exports.{granted_here, IsInUse, local_here, used_is}
use Rattle.pl_law_flights.proofs.SilentSteps.{AreSilent, silent_append, silent_changes, silent_good}
use Rattle.pl_law_flights.proofs.TakingIn.{IsNew, sends_in_good, takes_in_good}
use Rattle.pl_law_flights.proofs.Granting.{IsGivable}

-- What acts do with a host's frame: they are good, or they are once an address was granted, silently before.
pub data Coming (plan : Plan) (place : ℕ → Place) (now : List Entry) (t h : ℕ) (f : Flight) (acts : List Act) : Type 0 where
  NoGrant : GoodActs plan place (history_of now) t acts (Waits f false) → Coming plan place now t h f acts
  Grants : (silent : List Act) (pmac : Pmac) (amac : Mac) (rest : List Act) → acts ≡ silent ++ act.Grant pmac amac ∷ rest → AreSilent silent →
      mac_of_host plan h ≡ Some amac → IsGivable plan now pmac h (at_port t pmac.port) →
      GoodActs plan place (history_of (Granted pmac (host_no h) (switch_no t) pmac.port ∷ now)) t rest
      (Waits (sourced (Granted pmac (host_no h) (switch_no t) pmac.port ∷ now) f) false) → Coming plan place now t h f acts

-- a placed switch with hosts is an edge switch
edge_level : (place : Place) → is_placed place ≡ true → (is_known place.level 1 || is_known place.level 2) ≡ false → place.level ≡ Some 0
edge_level place placed no_other =
    let others = or_parts (is_known place.level 1) (is_known place.level 2) no_other in
    let edge = by (is_known place.level 2) (is_known place.level 1) others.1 others.0 placed in
    known_is place.level 0 ((and_parts (is_known place.level 0) (is_some place.position) ((and_parts (is_known place.level 0 && is_some place.position) (is_some place.pod) edge).0)).0)
  where
    by : (core aggregation : Bool) → core ≡ false → aggregation ≡ false →
        (core || (aggregation && is_some place.pod) || (is_known place.level 0 && is_some place.position && is_some place.pod)) ≡ true →
        (is_known place.level 0 && is_some place.position && is_some place.pod) ≡ true
    by true aggregation c a is = absurd (false≢true (sym c))
    by false true c a is = absurd (false≢true (sym a))
    by false false c a is = is

-- the same grants in the same place
placed_alike : (v u : SwitchView) → u.place ≡ v.place → u.grants ≡ v.grants → AgreesWith v u
placed_alike v u same grants =
    let there : (y : Pmac) → granted u y ≡ granted v y = λ y.
    ap (λ (p : Place). cond (is_known p.level 0 && (is_known p.pod y.pod && is_known p.position y.position)) (grant_number (grants_at u y.port) y.vmid) None) same
    ∙ ap (λ gs. cond (is_local v y) (grant_number (get_or gs y.port []) y.vmid) None) grants in
    record {
      local = λ y. ap (λ (p : Place). is_known p.level 0 && (is_known p.pod y.pod && is_known p.position y.position)) same;
      pod = ap (λ (p : Place). p.pod) same;
      some = λ y h is. (h, sym (there y) ∙ is, like_itself h);
      none = λ y is. sym (there y) ∙ is;
    }

pub same_address : (v u : SwitchView) (port vmid : ℕ) → u.place ≡ v.place → address_at_port u port vmid ≡ address_at_port v port vmid
same_address v u port vmid same =
    ap (λ (p : Place). let x : Pmac = record { pod = unwrap_or p.pod 0; position = unwrap_or p.position 0; port = port; vmid = vmid } in x) same

module _ (plan : Plan) (place : ℕ → Place) (t port : ℕ) (frame : List ℕ) (is_plan : IsPlan plan) (places : KnowsPlaces plan.k place) (choose : Choice) (is : IsChoice choose) where
  -- a source that has an address
  has_address : (w : SwitchView) (vmid : ℕ) → in_use (grants_at w port) (source_of frame) ≡ Some vmid → has_no_address w port (source_of frame) ≡ false
  has_address w vmid uses = and_right (is_placed w.place) _ (ap (λ o. not (is_some o)) uses)

  rest_good : (history : AddressHistory) (w : SwitchView) (f : Flight) (vmid : ℕ) → IsNew t f frame → KnowsNeighbours plan place t w → KnowsAddresses plan history t w →
      w.place.level ≡ Some 0 → is_placed w.place ≡ true → CameInPlaced place f.came_in → in_use (grants_at w port) (source_of frame) ≡ Some vmid →
      f.source ≡ Some (address_at_port w port vmid) → (g : Grant) → IsGranted plan history t (address_at_port w port vmid) g →
      GoodActs plan place history t (takes_in_or_spent choose port frame w).acts (Waits f false)
  rest_good history w f vmid new neighbours knows level placed home uses source g it =
      let x : Pmac = address_at_port w port vmid in
      let bytes : with_pmac w port frame ≡ arriving frame (Some (mac_of x)) None =
      ap (λ o. arriving frame (mac_of_pmac (pmac_at w port o)) None) uses in
      let sends : GoodActs plan place history t (sends_in choose (with_pmac w port frame) w).acts (Waits f false) =
      subst (λ b. GoodActs plan place history t (sends_in choose b w).acts (Waits f false)) (sym bytes)
      (sends_in_good plan place history t w is_plan places neighbours knows choose is level placed frame f new home x source g it) in
      subst (λ (step : SwitchStep). GoodActs plan place history t step.acts (Waits f false))
      (sym (cond-false (has_no_address w port (source_of frame)) (does w (act.Drop Spent ∷ [])) (takes_in choose port frame w) (has_address w vmid uses)))
      (takes_in_good plan place history t w choose port frame f new (λ placed. sends))

  unplaced_good : (history : AddressHistory) (w : SwitchView) (f : Flight) → IsNew t f frame → is_placed w.place ≡ false →
      GoodActs plan place history t (takes_in_or_spent choose port frame w).acts (Waits f false)
  unplaced_good history w f new unplaced =
      subst (λ (step : SwitchStep). GoodActs plan place history t step.acts (Waits f false))
      (sym (cond-false (has_no_address w port (source_of frame)) (does w (act.Drop Spent ∷ [])) (takes_in choose port frame w)
      (and_left (is_placed w.place) _ unplaced)))
      (takes_in_good plan place history t w choose port frame f new (λ placed. absurd (false≢true (sym unplaced ∙ placed))))

module _ (plan : Plan) (place : ℕ → Place) (past : List Entry) (t : ℕ) (v : SwitchView) (port h id : ℕ) (frame : List ℕ) (is_plan : IsPlan plan)
    (places : KnowsPlaces plan.k place) (neighbours : KnowsNeighbours plan place t v) (knows : KnowsAddresses plan (history_of past) t v)
    (hosts : KnowsHosts plan past t v) (choose : Choice) (is : IsChoice choose) (peer : peer_of plan t port ≡ HostPort) (within : port < plan.k)
    (size : v.k ≡ plan.k) (were : WereGranted (grants_at v port) (freed_at v port)) (attachments : edge_port_of plan past h ≡ Some (at_port t port)) (mac : mac_of_host plan h ≡ Some (source_of frame)) (long : 14 ≤ length frame) where
  abbrev IsComing : SwitchStep → Type 0
  IsComing step = Coming plan place (Crossed id (switch_no t) ∷ past) t h (come_in past id h frame t port) step.acts

  new : IsNew t (come_in past id h frame t port) frame
  new = record { of_host = refl; alone = refl; once = refl; beginning = refl; address = refl; long = long }

  -- what follows the source that is learnt
  abbrev Then : SwitchStep → SwitchStep
  Then learnt = record { view = with_host v port; acts = changes_told v (with_host v port) ++ [] } ▹ (λ w. learnt) ▹ takes_in_or_spent choose port frame

  silent_found : AreSilent (changes_told v (with_host v port) ++ [])
  silent_found = silent_append (changes_told v (with_host v port)) [] (silent_changes v (with_host v port)) tt

  plainly : (learnt : SwitchStep) → AreSilent learnt.acts →
      GoodActs plan place (history_of past) t (takes_in_or_spent choose port frame learnt.view).acts (Waits (come_in past id h frame t port) false) → IsComing (Then learnt)
  plainly learnt silent good =
      NoGrant (silent_good plan place (history_of past) t ((changes_told v (with_host v port) ++ []) ++ learnt.acts) _ (Waits (come_in past id h frame t port) false)
      (silent_append (changes_told v (with_host v port) ++ []) learnt.acts silent_found silent) good)

  module _ (level : v.place.level ≡ Some 0) (placed : is_placed v.place ≡ true) where
    settled : is_settled v.place ≡ true
    settled = and_from (is_known v.place.level 0) (is_placed v.place) (ap (λ o. is_known o 0) level) placed

    alike : LooksAlike v (with_host v port)
    alike = host_alike v port level

    home : CameInPlaced place (Some (at_port t port))
    home there came =
        let same : at_port t port ≡ there = cc in
        subst (λ (s : EdgePort). is_placed (place s.edge) ≡ true) same (ap is_placed (sym neighbours.own) ∙ placed)

    room : port < length v.grants
    room = subst (λ n. port < n) (sym (hosts.tables ∙ size)) within

    settled_u : is_settled (with_host v port).place ≡ true
    settled_u = ap is_settled alike.place ∙ settled

    knows_u : KnowsAddresses plan (history_of past) t (with_host v port)
    knows_u = knows_agreed plan (history_of past) t v (with_host v port) (placed_alike v (with_host v port) alike.place refl) knows

    -- its address in use was granted
    granted_used : (vmid : ℕ) → in_use (grants_at v port) (source_of frame) ≡ Some vmid → IsInUse (grants_at v port) (source_of frame) vmid
        × ((g : Grant) × IsGranted plan (history_of past) t (address_at_port v port vmid) g)
    granted_used vmid uses =
        let it = used_is (grants_at v port) (source_of frame) vmid uses in
        let x : Pmac = address_at_port v port vmid in
        (it, (it.grant, knows.granted_here x it.grant (held_in_use v x it.grant (granted_here v x (local_here v port vmid settled) ∙ it.found) it.used)))

    used : (vmid : ℕ) → in_use (grants_at v port) (source_of frame) ≡ Some vmid →
        IsComing (Then (learns_ip (with_host v port) (address_at_port (with_host v port) port vmid) (grant_number (grants_at v port) vmid) (sender_ip frame)))
    used vmid uses =
        let it = granted_used vmid uses in
        let grant : Grant = it.0.grant in
        let step : SwitchStep = learns_ip (with_host v port) (address_at_port (with_host v port) port vmid) (Some grant) (sender_ip frame) in
        let l : Learns (with_host v port) port step = learns_of (with_host v port) port vmid settled_u room grant it.0.found it.0.used (sender_ip frame) in
        let all : LooksAlike v step.view = alike_then v (with_host v port) step.view alike l.alike in
        let same : address_at_port step.view port vmid ≡ address_at_port v port vmid = same_address v step.view port vmid all.place in
        subst (λ o. IsComing (Then (learns_ip (with_host v port) (address_at_port (with_host v port) port vmid) o (sender_ip frame)))) (sym it.0.found)
        (plainly step l.silent (rest_good plan place t port frame is_plan places choose is (history_of past) step.view (come_in past id h frame t port) vmid new
        (neighbours_alike plan place t v step.view all neighbours) (knows_agreed plan (history_of past) t (with_host v port) step.view l.agrees knows_u)
        (ap (λ (p : Place). p.level) all.place ∙ level) (ap is_placed all.place ∙ placed) home (l.uses (source_of frame) ∙ uses)
        (hosts.used port vmid h (source_of frame) settled uses mac ∙ ap Some (sym same)) it.1.0
        (subst (λ (x : Pmac). IsGranted plan (history_of past) t x it.1.0) (sym same) it.1.1)))

    -- no address is left
    none_left : in_use (grants_at v port) (source_of frame) ≡ None → is_port_spent v port ≡ true → IsComing (Then (rests (with_host v port)))
    none_left none spent =
        let no : has_no_address (with_host v port) port (source_of frame) ≡ true =
        and_from (is_placed (with_host v port).place) _ (ap is_placed alike.place ∙ placed) (ap (λ o. not (is_some o)) none) in
        plainly (rests (with_host v port)) tt
        (subst (λ (step : SwitchStep). GoodActs plan place (history_of past) t step.acts (Waits (come_in past id h frame t port) false))
        (sym (cond-true (has_no_address (with_host v port) port (source_of frame)) (does (with_host v port) (act.Drop Spent ∷ []))
        (takes_in choose port frame (with_host v port)) no))
        (hosts.spent port settled spent, tt))

    -- the next one is granted
    next : (vmid : ℕ) → in_use (grants_at v port) (source_of frame) ≡ None → next_vmid (freed_at v port) (grants_at v port) ≡ Some vmid →
        IsComing (Then (grants_next (with_host v port) port (source_of frame) (sender_ip frame) (Some vmid)))
    next vmid none is_next =
        let u : SwitchView = with_host v port in
        let x : Pmac = address_at_port u port vmid in
        let same : x ≡ address_at_port v port vmid = same_address v u port vmid alike.place in
        let was : IsNextAddress past t x = subst (λ (y : Pmac). IsNextAddress past t y) (sym same) (hosts.next port vmid peer within settled is_next) in
        let crossed : List Entry = Crossed id (switch_no t) ∷ past in
        let may : IsNextAddress crossed t x = record { fresh = was.fresh; again = was.again; edge = was.edge; fits = was.fits; own = was.own } in
        let src : Mac = source_of frame in
        let given : SwitchView = with_grants u port (with_next (freed_at v port) (grants_at v port) (new_grant src (sender_ip frame))) in
        let w : SwitchView = (grants_new u port src (sender_ip frame) x).view in
        let e : Entry = Granted x (host_no h) (switch_no t) port in
        let f2 : Flight = sourced (e ∷ crossed) (come_in past id h frame t port) in
        let unicast : is_group src ≡ false = host_unicast plan h src is_plan mac in
        let source : f2.source ≡ Some x = cond-true ((h == h) && same_edge_port (at_port t port) (at_port t port)) (Some x) _
        (and_from (h == h) (same_edge_port (at_port t port) (at_port t port)) (eq-eqb h h refl) (same_edge_port_itself (at_port t port))) in
        let all : LooksAlike v w = record { place = alike.place; heard = alike.heard; usable = alike.usable } in
        let known : KnowsAddresses plan (history_of (e ∷ crossed)) t given =
        knows_next plan crossed t u port vmid h src (sender_ip frame) settled_u room peer mac (six_src frame long) unicast may is_next were knows_u in
        let after : KnowsAddresses plan (history_of (e ∷ crossed)) t w = knows_agreed plan (history_of (e ∷ crossed)) t given w (placed_alike given w refl refl) known in
        let told = act.Tell (Learned x src (sender_ip frame)) ∷ [] in
        Grants (changes_told v u ++ []) x src (told ++ (takes_in_or_spent choose port frame w).acts)
        (append_assoc (changes_told v u ++ []) (act.Grant x src ∷ told) (takes_in_or_spent choose port frame w).acts)
        silent_found mac
        (record { may = record { fresh = may.fresh; port = refl; stood = stood_there plan past h (at_port t port) attachments; edge = may.edge }; again = may.again })
        (rest_good plan place t port frame is_plan places choose is (history_of (e ∷ crossed)) w f2 vmid
        (record { of_host = refl; alone = refl; once = refl; beginning = refl; address = refl; long = long })
        (neighbours_alike plan place t v w all neighbours)
        after (ap (λ (p : Place). p.level) alike.place ∙ level) (ap is_placed alike.place ∙ placed) home
        (next_in_use plan crossed t u port vmid h src (sender_ip frame) settled_u room peer mac (six_src frame long) unicast may is_next were knows_u none) source
        (new_grant src (sender_ip frame))
        (known.granted_here x (new_grant src (sender_ip frame))
        (next_granted plan crossed t u port vmid h src (sender_ip frame) settled_u room peer mac (six_src frame long) unicast may is_next were knows_u)))

    by_next : in_use (grants_at v port) (source_of frame) ≡ None → (o : Option ℕ) → next_vmid (freed_at v port) (grants_at v port) ≡ o →
        IsComing (Then (grants_next (with_host v port) port (source_of frame) (sender_ip frame) o))
    by_next none None is_next = none_left none (ap (λ o. not (is_some o)) is_next)
    by_next none (Some vmid) is_next = next vmid none is_next

    by_use : (o : Option ℕ) → in_use (grants_at v port) (source_of frame) ≡ o →
        IsComing (Then (grants_or_learns (with_host v port) port (source_of frame) (sender_ip frame) o))
    by_use (Some vmid) uses = used vmid uses
    by_use None none = by_next none (next_vmid (freed_at v port) (grants_at v port)) refl

    placed_comes : IsComing (Then (learns_source (with_host v port) port frame))
    placed_comes =
        subst (λ learnt. IsComing (Then learnt))
        (sym (cond-true (is_placed (with_host v port).place)
        (grants_or_learns (with_host v port) port (source_of frame) (sender_ip frame) (in_use (grants_at v port) (source_of frame)))
        (remembers (with_host v port) port (source_of frame) (sender_ip frame)) (ap is_placed alike.place ∙ placed)))
        (by_use (in_use (grants_at v port) (source_of frame)) refl)

  unplaced_comes : is_placed v.place ≡ false → has_become_placed v.place (with_host v port).place ≡ false → IsComing (Then (learns_source (with_host v port) port frame))
  unplaced_comes unplaced stays =
      let still : is_placed (with_host v port).place ≡ false = not_then (is_placed (with_host v port).place) (is_placed v.place) unplaced stays in
      subst (λ learnt. IsComing (Then learnt))
      (sym (cond-false (is_placed (with_host v port).place)
      (grants_or_learns (with_host v port) port (source_of frame) (sender_ip frame) (in_use (grants_at v port) (source_of frame)))
      (remembers (with_host v port) port (source_of frame) (sender_ip frame)) still))
      (plainly (remembers (with_host v port) port (source_of frame) (sender_ip frame)) tt
      (unplaced_good plan place t port frame is_plan places choose is (history_of past) (remembers (with_host v port) port (source_of frame) (sender_ip frame)).view
      (come_in past id h frame t port) new still))
    where
      not_then : (a b : Bool) → b ≡ false → (a && not b) ≡ false → a ≡ false
      not_then true true e is = absurd (false≢true (sym e))
      not_then true false e is = absurd (false≢true (sym is))
      not_then false b e is = refl

  pub comes_good : IsComing (comes_from_host choose v port frame)
  comes_good =
      let stays : has_become_placed v.place (with_host v port).place ≡ false = host_unsettled v port hosts.positions in
      cond_both (is_known v.place.level 1 || is_known v.place.level 2) (does v (act.Drop NotPlaced ∷ [])) _ IsComing
      (λ no_hosts. NoGrant (tt, tt))
      (λ edge. subst (λ (step : SwitchStep). IsComing (step ▹ (λ w. learns_source w port frame) ▹ takes_in_or_spent choose port frame)) (sym (host_found v port stays))
      (elim (cases_Bool (is_placed v.place)) [
        | inl placed ↦ placed_comes (edge_level v.place placed edge) placed
        | inr unplaced ↦ unplaced_comes unplaced stays
      ]))
