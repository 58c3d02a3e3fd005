-- What an edge switch does with a frame of a host whose source was learnt is good.
use Rattle.std.proofs.Common.{◌≡◌, ℕ, ◌≤◌, ◌==◌, ◌&&◌, ◌||◌, inl, inr, not, Bool, true, false, IsSome, List, [], ◌∷◌, length, Option, None, Some, is_some, refl, sym, ◌∙◌, ap, subst, append-nil}
use Rattle.std.specs.List.{fold}
use Rattle.std.proofs.lemmas.Bool.{and_parts, cond_both, false≢true, or_cases, or_left, or_right}
use Rattle.pl_frame.specs.declared.address.Mac.{Mac}
use Rattle.pl_frame.specs.Ethernet.{destination_of, source_of}
use Rattle.pl_arp.specs.declared.packet.Arp.{Arp}
use Rattle.pl_pmac.specs.declared.pmac.Pmac.{Pmac}
use Rattle.pl_pmac.specs.Pmac.{mac_of, pmac_of}
use Rattle.pl_wiring.specs.Plan.{IsPlan, Plan}
use Rattle.pl_layouts.specs.declared.place.Place.{Place}
use Rattle.pl_layouts.specs.Frames.{arriving, is_taken_packet, is_takeable, mac_number, packet_in}
use Rattle.pl_layouts.specs.Memberships.{changes_in, is_group, membership_in}
use Rattle.pl_layouts.specs.Placement.{is_placed}
use Rattle.pl_layouts.proofs.Exports.{destination_of-arriving, length-arriving, source_of-arriving}
use Rattle.pl_journal.specs.Causes.{is_bad_arp}
use Rattle.pl_journal.specs.Flights.{Flight, first_of}
use Rattle.pl_journal.specs.Lossy.{UnalteredFrom}
use Rattle.pl_journal.specs.Places.{at_port}
use Rattle.pl_node.specs.declared.acts.Act.{Act}
use Rattle.pl_node.specs.declared.acts.Act.TheVariants as act
use Rattle.pl_node.specs.declared.switch_records.Grant.{Grant}
use Rattle.pl_node.specs.SwitchViews.{SwitchView}
use Rattle.pl_steps.specs.Steps.{SwitchStep}
use Rattle.pl_switch_rule.specs.declared.came.Came.TheVariants.{FromHost}
use Rattle.pl_switch_rule.specs.Delivering.{destination}
use Rattle.pl_switch_rule.specs.Forwarding.{Choice, forwards}
use Rattle.pl_switch_rule.specs.Granting.{is_local}
use Rattle.pl_switch_rule.specs.Intake.{changes_member, hears_members, is_for_switch, packet_acts, sends_in, takes_in, with_pmac}
use Rattle.pl_switch_rule.specs.SwitchRule.{IsChoice}
use Rattle.pl_law_flights.specs.OnTheWay.{AddressHistory, CameInPlaced, WillBeUnaltered}
use Rattle.pl_law_flights.specs.Standing.{IsGranted, KnowsAddresses, KnowsNeighbours, KnowsPlaces}
use Rattle.pl_law_flights.proofs.AtHome.{arrives_good}
use Rattle.pl_switch_rule.proofs.Exports.{arp_acts}
use Rattle.pl_law_flights.proofs.FromManager.{silent_groups}
use Rattle.pl_law_flights.proofs.Hands.{GoodActs, MayTake}
use Rattle.pl_law_flights.proofs.Hands.Hand.{Waits}
use Rattle.pl_law_flights.proofs.HomeActs.{IsHere, leaves_then}
use Rattle.pl_law_flights.proofs.Rewriting.{arriving_twice}
use Rattle.pl_law_flights.proofs.ManagerKeepsFlights.{spreads_good}
use Rattle.pl_law_flights.proofs.SilentSteps.{IsSilent, silent_good}

-- A frame of a host in hand at switch t, which it crossed alone.
pub record IsNew (t : ℕ) (f : Flight) (frame : List ℕ) : Type 0 where
  pub of_host : IsSome f.sender
  pub alone : f.leg ≡ t ∷ []
  pub once : f.trail ≡ t ∷ []
  pub beginning : f.beginning ≡ frame
  pub address : f.address ≡ mac_number (destination_of frame)
  pub long : 14 ≤ length frame

-- what a switch takes may be taken
for_switch : (v : SwitchView) (dst : Mac) (o : Option Arp) → is_for_switch v dst o ≡ true → is_taken_packet dst o ≡ true
for_switch v dst None is = absurd (false≢true is)
for_switch v dst (Some arp) is = elim (or_cases ((arp.op == 1) || is_group dst) (is_local v (pmac_of dst) && ((pmac_of dst).vmid == 0)) is) [
  | inl first ↦ or_left ((arp.op == 1) || is_group dst) _ first
  | inr probe ↦ or_right ((arp.op == 1) || is_group dst) _ ((and_parts (is_local v (pmac_of dst)) ((pmac_of dst).vmid == 0) probe).1)
]

module _ (plan : Plan) (place : ℕ → Place) (history : AddressHistory) (t : ℕ) (v : SwitchView) (choose : Choice) (port : ℕ) (frame : List ℕ) (f : Flight) (new : IsNew t f frame) where
  abbrev Good : List Act → Type 0
  Good acts = GoodActs plan place history t acts (Waits f false)

  takeable : is_takeable frame ≡ true → MayTake t f
  takeable is = record { of_host = new.of_host; alone = new.alone; takeable = ap is_takeable new.beginning ∙ is }

  pub takes_in_good : (is_placed v.place ≡ true → Good (sends_in choose (with_pmac v port frame) v).acts) → Good (takes_in choose port frame v).acts
  takes_in_good sends =
      let G : SwitchStep → Type 0 = λ step. Good step.acts in
      cond_both (is_bad_arp frame) _ _ G
      (λ bad. ((ap length new.once, ap is_bad_arp new.beginning ∙ bad), tt))
      (λ fine. cond_both (is_for_switch v (destination_of frame) (packet_in frame)) _ _ G
      (λ own. silent_good plan place history t (packet_acts v port frame (packet_in frame)) (act.Take ∷ []) (Waits f false)
      (arp_acts IsSilent (λ asker asker_ip ip. tt) v port frame (packet_in frame))
      (takeable (or_left (is_taken_packet (destination_of frame) (packet_in frame)) _ (for_switch v (destination_of frame) (packet_in frame) own)), tt))
      (λ others. cond_both (is_some (membership_in frame)) _ _ G
      (λ says. silent_good plan place history t (hears_members v port frame).acts (act.Take ∷ []) (Waits f false)
      (silent_groups v.members (fold (changes_member port (source_of frame)) v.members (changes_in frame)))
      (takeable (or_right (is_taken_packet (destination_of frame) (packet_in frame)) _ says), tt))
      (λ quiet. cond_both (not (is_placed v.place)) _ _ G
      (λ unplaced. (tt, tt))
      (λ placed. sends (not_false (is_placed v.place) placed)))))
    where
      not_false : (b : Bool) → not b ≡ false → b ≡ true
      not_false true is = refl
      not_false false is = absurd (false≢true (sym is))

module _ (plan : Plan) (place : ℕ → Place) (history : AddressHistory) (t : ℕ) (v : SwitchView) (is_plan : IsPlan plan) (places : KnowsPlaces plan.k place)
    (neighbours : KnowsNeighbours plan place t v) (knows : KnowsAddresses plan history t v) (choose : Choice) (is : IsChoice choose)
    (level : v.place.level ≡ Some 0) (placed : is_placed v.place ≡ true) (frame : List ℕ) (f : Flight) (new : IsNew t f frame)
    (home : CameInPlaced place f.came_in) (x : Pmac) (source : f.source ≡ Some x) (g : Grant) (it : IsGranted plan history t x g) where
  same_destination : destination_of (arriving frame (Some (mac_of x)) None) ≡ destination_of frame
  same_destination = destination_of-arriving frame (Some (mac_of x)) None new.long refl tt

  from_host : (o : Option ℕ) (mac : Mac) (bytes : List ℕ) → IsSome o → bytes ≡ arriving frame (Some (mac_of x)) (Some mac) →
      UnalteredFrom o (Some x) frame (Some mac) bytes
  from_host None mac bytes there same = absurd (false≢true there)
  from_host (Some h) mac bytes there same = same

  unaltered : WillBeUnaltered f (arriving frame (Some (mac_of x)) None)
  unaltered mac six =
      let bytes : List ℕ = arriving (arriving frame (Some (mac_of x)) None) None (Some mac) in
      subst (λ (o : Option Pmac). UnalteredFrom f.sender o f.beginning (Some mac) bytes) (sym source)
      (subst (λ (b : List ℕ). UnalteredFrom f.sender (Some x) b (Some mac) bytes) (sym new.beginning)
      (from_host f.sender mac bytes new.of_host (arriving_twice frame (mac_of x) mac new.long refl six)))

  from_host_group : (o : Option ℕ) → IsSome o → UnalteredFrom o (Some x) frame None (arriving frame (Some (mac_of x)) None)
  from_host_group None there = absurd (false≢true there)
  from_host_group (Some h) there = refl

  unaltered_group : UnalteredFrom f.sender f.source f.beginning None (arriving frame (Some (mac_of x)) None)
  unaltered_group =
      let bytes : List ℕ = arriving frame (Some (mac_of x)) None in
      subst (λ (o : Option Pmac). UnalteredFrom f.sender o f.beginning None bytes) (sym source)
      (subst (λ (b : List ℕ). UnalteredFrom f.sender (Some x) b None bytes) (sym new.beginning) (from_host_group f.sender new.of_host))

  here : is_group (destination_of (arriving frame (Some (mac_of x)) None)) ≡ false → IsHere place t f (arriving frame (Some (mac_of x)) None)
  here unicast = record {
    last = ap first_of new.once;
    reached = ap first_of new.alone;
    began = ap (λ b. is_group (destination_of b)) new.beginning ∙ ap is_group (sym same_destination) ∙ unicast;
    unicast = unicast;
    address = new.address ∙ ap mac_number (sym same_destination);
    long = subst (λ n. 14 ≤ n) (sym (length-arriving frame (Some (mac_of x)) None new.long refl tt)) new.long;
    home = home;
    sender = λ other. ap is_group (source_of-arriving frame (Some (mac_of x)) None new.long refl tt) ∙ it.own;
    unaltered = unaltered;
  }

  pub sends_in_good : GoodActs plan place history t (sends_in choose (arriving frame (Some (mac_of x)) None) v).acts (Waits f false)
  sends_in_good =
      let frame2 : List ℕ = arriving frame (Some (mac_of x)) None in
      let G : SwitchStep → Type 0 = λ step. GoodActs plan place history t step.acts (Waits f false) in
      cond_both (is_group (destination_of frame2)) _ _ G
      (λ group. spreads_good plan place history t v f frame2 (record {
        last = ap first_of new.once;
        alone = new.alone;
        group = group;
        kept = ap destination_of new.beginning ∙ sym same_destination;
        address = new.address ∙ ap mac_number (sym same_destination);
        home = home;
        many = record {
          leg = new.alone ∙ sym new.once;
          unaltered = unaltered_group;
          from = x;
          fits = it.fits;
          source = source_of-arriving frame (Some (mac_of x)) None new.long refl tt;
          there = at_port t x.port;
          granted = it.there;
        };
      }) is_plan neighbours (places.level t 0 (subst (λ (w : Place). w.level ≡ Some 0) neighbours.own level)) false)
      (λ unicast. cond_both (is_local v (destination frame2)) _ _ G
      (λ local. arrives_good plan place history t v is_plan places neighbours knows choose is level placed frame2 (here unicast).long
      (here unicast).sender f false (here unicast) local)
      (λ away. subst (λ acts. GoodActs plan place history t acts (Waits f false)) (append-nil (forwards choose v (Some FromHost) frame2).acts)
      (leaves_then plan place history t v is_plan places neighbours [] (λ hand. tt) choose is f false frame2 (here unicast) new.alone level placed away _ refl)))
