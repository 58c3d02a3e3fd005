-- A frame that meets a trap is redirected, and redirected again, and goes on; its sender is told.
use Rattle.std.proofs.Common.{◌==◌, ◌≡◌, ℕ, zero, suc, ◌+◌, ◌≤◌, nat_lt, Bool, true, false, List, [], ◌∷◌, ◌++◌, length, take, drop, Option, None, Some, is_some, refl, sym, ◌∙◌, ap, subst, arith, inl, inr}
use Rattle.std.proofs.lemmas.Bool.{cases_Bool, cond-false, cond-true, cond_both}
use Rattle.std.proofs.lemmas.List.{drop-drop, length-append, length-drop}
use Rattle.pl_frame.specs.declared.address.Mac.{Mac}
use Rattle.pl_frame.specs.Ethernet.{Fields, destination_of, source_of, with_destination}
use Rattle.pl_frame.proofs.Exports.{fields_of-with_destination, rest_of}
use Rattle.pl_pmac.specs.declared.pmac.Pmac.{Pmac}
use Rattle.pl_pmac.specs.Pmac.{PmacFits, mac_of, pmac_number}
use Rattle.pl_pmac.proofs.Exports.{length-mac_of}
use Rattle.pl_wiring.specs.Plan.{IsPlan, Plan}
use Rattle.pl_layouts.specs.declared.place.Place.{Place}
use Rattle.pl_layouts.specs.Frames.{arriving, is_arp, mac_number, packet_in}
use Rattle.pl_layouts.specs.Memberships.{is_group}
use Rattle.pl_layouts.specs.Placement.{is_placed}
use Rattle.pl_layouts.proofs.Exports.{arriving_readable, arriving_unreadable, packet_behind, packet_in-behind, parts}
use Rattle.pl_journal.specs.Flights.{Flight, first_of}
use Rattle.pl_journal.specs.Lossy.{UnalteredFrom}
use Rattle.pl_node.specs.declared.acts.Act.{Act}
use Rattle.pl_node.specs.declared.trap.Trap.{Trap}
use Rattle.pl_node.specs.SwitchViews.{SwitchView}
use Rattle.pl_switch_rule.specs.Delivering.{addresses, comes_home, delivers_or_redirects, destination, goes_on, if_newer, last_on, last_trap, redirects, redirects_on, trap_for}
use Rattle.pl_switch_rule.specs.Forwarding.{Choice}
use Rattle.pl_switch_rule.specs.Granting.{held_here, is_local}
use Rattle.pl_switch_rule.specs.SwitchRule.{IsChoice}
use Rattle.pl_law_flights.specs.OnTheWay.{AddressHistory, CameInPlaced, WillBeUnaltered}
use Rattle.pl_law_flights.specs.Standing.{KnowsAddresses, KnowsNeighbours, KnowsPlaces, TrapLeadsOn}
use Rattle.pl_law_flights.proofs.GrantsAlike.{trapped_here}
use Rattle.pl_law_flights.proofs.Hands.{GoodActs, Hand, MayTurn, turned}
use Rattle.pl_law_flights.proofs.Hands.Hand.{Waits}
use Rattle.pl_law_flights.proofs.HomeActs.{IsHere, delivers_good, destination_is, goes_on_good, number_of_destination}
use Rattle.pl_law_flights.proofs.PmacNumbers.{number_of_mac}

module _ (frame : List ℕ) (to m : Mac) (six_to : length to.0 ≡ 6) (six : length m.0 ≡ 6) (long : 14 ≤ length frame) where
  abbrev sent : List ℕ
  sent = with_destination frame to

  behind : drop 6 (with_destination frame to) ≡ drop 6 frame
  behind = rest_of 6 to.0 (drop 6 frame) six_to

  later : (n : ℕ) → drop (6 + n) (with_destination frame to) ≡ drop (6 + n) frame
  later n = sym (drop-drop n 6 (with_destination frame to)) ∙ ap (drop n) behind ∙ drop-drop n 6 frame

  pub long_sent : 14 ≤ length (with_destination frame to)
  long_sent = omega (arith, length-append to.0 (drop 6 frame), length-drop 6 frame)

  abbrev readable_as : List ℕ → List ℕ → List ℕ → List ℕ → List ℕ → List ℕ
  readable_as a b c d e = parts m.0 (take 6 a) (take 10 b) (take 6 c) (take 4 d) m.0 e

  -- the destination of a frame makes no difference to the frame that arrives with another
  pub same_arriving : arriving (with_destination frame to) None (Some m) ≡ arriving frame None (Some m)
  same_arriving =
      let packet : packet_in (with_destination frame to) ≡ packet_in frame =
      packet_in-behind (with_destination frame to) ∙ ap packet_behind (later 6) ∙ sym (packet_in-behind frame) in
      elim (cases_Bool (is_some (packet_in frame))) [
        | inl readable ↦
            arriving_readable (with_destination frame to) None (Some m) (ap is_some packet ∙ readable) tt six
            ∙ ap (λ a. readable_as a (drop 12 (with_destination frame to)) (drop 22 (with_destination frame to)) (drop 28 (with_destination frame to)) (drop 38 (with_destination frame to))) behind
            ∙ ap (λ b. readable_as (drop 6 frame) b (drop 22 (with_destination frame to)) (drop 28 (with_destination frame to)) (drop 38 (with_destination frame to))) (later 6)
            ∙ ap (λ c. readable_as (drop 6 frame) (drop 12 frame) c (drop 28 (with_destination frame to)) (drop 38 (with_destination frame to))) (later 16)
            ∙ ap (λ d. readable_as (drop 6 frame) (drop 12 frame) (drop 22 frame) d (drop 38 (with_destination frame to))) (later 22)
            ∙ ap (λ e. readable_as (drop 6 frame) (drop 12 frame) (drop 22 frame) (drop 28 frame) e) (later 32)
            ∙ sym (arriving_readable frame None (Some m) readable tt six)
        | inr unreadable ↦
            arriving_unreadable (with_destination frame to) None (Some m) long_sent (ap is_some packet ∙ unreadable) tt six
            ∙ ap (λ a. m.0 ++ (take 6 a ++ drop 12 (with_destination frame to))) behind
            ∙ ap (λ b. m.0 ++ (take 6 (drop 6 frame) ++ b)) (later 6)
            ∙ sym (arriving_unreadable frame None (Some m) long unreadable tt six)
      ]

newer_found : (trap next : Trap) (o : Option Trap) → if_newer trap o ≡ Some next → o ≡ Some next
newer_found trap next None is = absurd (cc)
newer_found trap next (Some other) is = elim (cases_Bool (nat_lt trap.number other.number)) [
  | inl newer ↦ sym (cond-true (nat_lt trap.number other.number) (Some other) None newer) ∙ is
  | inr older ↦ (let none : if_newer trap (Some other) ≡ None = cond-false (nat_lt trap.number other.number) (Some other) None older in absurd (cc))
]

module _ (plan : Plan) (place : ℕ → Place) (history : AddressHistory) (t : ℕ) (v : SwitchView) (is_plan : IsPlan plan) (places : KnowsPlaces plan.k place)
    (neighbours : KnowsNeighbours plan place t v) (rest : List Act) (then_good : (hand : Hand) → GoodActs plan place history t rest hand)
    (knows : KnowsAddresses plan history t v) (choose : Choice) (is : IsChoice choose) (level : v.place.level ≡ Some 0) (placed : is_placed v.place ≡ true)
    (frame : List ℕ) (long : 14 ≤ length frame) where
  -- a frame that is redirected here
  record IsTurning (f : Flight) (trap : Trap) : Type 0 where
    last : first_of f.trail ≡ Some t
    alone : f.leg ≡ t ∷ []
    began : is_group (destination_of f.beginning) ≡ false
    unaltered : WillBeUnaltered f frame
    home : CameInPlaced place f.came_in
    sender : is_arp frame ≡ false → is_group (source_of frame) ≡ false
    address : f.address ≡ pmac_number trap.new
    fits : PmacFits trap.new
    unicast : is_group (mac_of trap.new) ≡ false

  with_new : (trap : Trap) (f : Flight) → IsTurning f trap → IsHere place t f (with_destination frame (mac_of trap.new))
  with_new trap f u =
      let to : Mac = mac_of trap.new in
      let is_to : destination_of (with_destination frame to) ≡ to = destination_is frame to (length-mac_of trap.new) in
      record {
        last = u.last;
        reached = ap first_of u.alone;
        began = u.began;
        unicast = ap is_group is_to ∙ u.unicast;
        address = u.address ∙ sym (number_of_mac trap.new u.fits) ∙ ap mac_number (sym is_to);
        long = long_sent frame to to (length-mac_of trap.new) (length-mac_of trap.new) long;
        home = u.home;
        sender = λ other.
            let same = fields_of-with_destination frame to (omega arith) (length-mac_of trap.new) in
            ap (λ (x : Fields). is_group x.src) same ∙ u.sender (ap (λ (x : Fields). x.kind == 0x0806) (sym same) ∙ other);
        unaltered = λ m six. subst (λ x. UnalteredFrom f.sender f.source f.beginning (Some m) x) (sym (same_arriving frame to m (length-mac_of trap.new) six long)) (u.unaltered m six);
      }

  -- the trap that is met, and the flight then
  turns_well : (x : Pmac) (f : Flight) (next : Trap) → f.address ≡ pmac_number x → first_of f.leg ≡ Some t → trap_for v x ≡ Some next → MayTurn history t f x next.new
  turns_well x f next present reached trapped =
      let leads : TrapLeadsOn history x next = knows.trapped x next trapped in
      let grant = trapped_here v x next trapped in
      let here = knows.granted_here x grant.0 grant.1 in
      record { present = present; same_host = leads.same_host; host = here.host; held = here.held; newer = leads.newer; port = x.port; here = here.there; reached = reached }

  turning_on : (f : Flight) (again : Bool) (x : Pmac) (next : Trap) → first_of f.trail ≡ Some t → is_group (destination_of f.beginning) ≡ false → WillBeUnaltered f frame →
      CameInPlaced place f.came_in → (is_arp frame ≡ false → is_group (source_of frame) ≡ false) → trap_for v x ≡ Some next → IsTurning (turned t f again next.new) next
  turning_on f again x next last began unaltered home sender trapped =
      let leads : TrapLeadsOn history x next = knows.trapped x next trapped in
      record {
        last = cond_both again f.trail (t ∷ f.trail) (λ l. first_of l ≡ Some t) (λ e. last) (λ e. refl);
        alone = refl;
        began = began;
        unaltered = unaltered;
        home = home;
        sender = sender;
        address = refl;
        fits = leads.fits;
        unicast = leads.unicast;
      }

  abbrev GoesOn : List Act → Trap → Flight → Type 0
  GoesOn acts trap f = GoodActs plan place history t ((acts ++ (goes_on choose v (with_destination frame (mac_of trap.new))).acts) ++ rest) (Waits f true)

  -- the traps that follow
  chain : (n : ℕ) (trap : Trap) (f : Flight) → IsTurning f trap → GoesOn (redirects n v trap) (last_trap n v trap) f
  unfolding redirects last_trap
  chain zero trap f u = goes_on_good plan place history t v is_plan places neighbours rest then_good knows choose is f true
      (with_destination frame (mac_of trap.new)) (with_new trap f u) u.alone level placed
  chain (suc n) trap f u = by_next (if_newer trap (trap_for v trap.new)) refl (chain n)
    where
      by_next : (o : Option Trap) → if_newer trap (trap_for v trap.new) ≡ o →
          ((next : Trap) (g : Flight) → IsTurning g next → GoesOn (redirects n v next) (last_trap n v next) g) →
          GoesOn (redirects_on (redirects n v) trap.new o) (last_on (last_trap n v) trap o) f
      by_next None found further = goes_on_good plan place history t v is_plan places neighbours rest then_good knows choose is f true
          (with_destination frame (mac_of trap.new)) (with_new trap f u) u.alone level placed
      by_next (Some next) found further =
          let trapped = newer_found trap next (trap_for v trap.new) found in (
            turns_well trap.new f next u.address (ap first_of u.alone) trapped,
            further next (turned t f true next.new) (turning_on f true trap.new next u.last u.began u.unaltered u.home u.sender trapped),
          )

  -- a frame for the switch's own hosts
  pub home_good : (f : Flight) (again : Bool) → IsHere place t f frame → is_local v (destination frame) ≡ true →
      GoodActs plan place history t ((comes_home choose v frame).acts ++ rest) (Waits f again)
  home_good f again here own = by_trap (trap_for v (destination frame)) refl
    where
      by_trap : (o : Option Trap) → trap_for v (destination frame) ≡ o → GoodActs plan place history t ((delivers_or_redirects choose v frame o).acts ++ rest) (Waits f again)
      by_trap None found = delivers_good plan place history t v knows rest then_good f again frame (held_here v (destination frame)) here own refl
      by_trap (Some trap) found = (
        turns_well (destination frame) f trap (here.address ∙ sym (number_of_destination frame)) here.reached found,
        chain (addresses v) trap (turned t f again trap.new) (turning_on f again (destination frame) trap here.last here.began here.unaltered here.home here.sender found),
      )
