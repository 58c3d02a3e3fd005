-- What the journal says of a frame stays when entries follow that do not name it.
use Rattle.std.proofs.Common.{◌≡◌, ℕ, ◌==◌, Bool, true, false, List, ◌∷◌, Option, Some, refl, sym, ◌∙◌, ap, subst}
use Rattle.pl_frame.specs.Ethernet.{source_of}
use Rattle.pl_pmac.specs.Pmac.{pmac_number}
use Rattle.pl_layouts.specs.declared.place.Place.{Place}
use Rattle.pl_layouts.specs.Frames.{mac_number}
use Rattle.pl_wiring.specs.declared.link.Peer.{Peer}
use Rattle.pl_wiring.specs.declared.link.Peer.TheVariants.{HostPort, Switch}
use Rattle.pl_wiring.specs.Index.{port_index}
use Rattle.pl_wiring.specs.Peers.{peer_of}
use Rattle.pl_wiring.specs.Plan.{Plan}
use Rattle.pl_journal.specs.declared.entry.Entry.{Entry}
use Rattle.pl_journal.specs.declared.entry.Entry.TheVariants.{Copied, Crossed, Granted, LinkDown, Made, Redirected, Sent}
use Rattle.pl_journal.specs.Flights.{Flight, addressee, flight_of, was_live}
use Rattle.pl_journal.specs.Places.{EdgePort, at_port, is_at}
use Rattle.pl_world.specs.declared.item.Item.{Item}
use Rattle.pl_law_flights.proofs.PmacNumbers.{number_of_mac}
use Rattle.pl_law_flights.specs.OnTheWay.{AddressHistory, Flying, IsBetweenSwitches, IsForMany, IsGoing, IsLeaving, IsOut, IsWaiting, history_of}
use Rattle.pl_law_flights.proofs.Counting.{IsNowhere, all_kept, not_in_one}

-- of one frame, the same is said later, and the links that were live are
pub record Keeps (plan : Plan) (past later : List Entry) (g : ℕ) : Type 0 where
  pub flight : flight_of plan later g ≡ flight_of plan past g
  pub live : (a b : ℕ) → was_live past g a b ≡ true → was_live later g a b ≡ true
  pub to : (h : ℕ) → addressee past g ≡ Some h → addressee later g ≡ Some h

-- and each address has the port that it had
pub record KeepsHistory (history later : AddressHistory) : Type 0 where
  pub there : (x : ℕ) (at : EdgePort) → history.edge_ports x ≡ Some at → later.edge_ports x ≡ Some at

pub same_history : (history : AddressHistory) → KeepsHistory history history
same_history history = record { there = λ x at is. is }

abbrev pub LeavesAlone : Entry → ℕ → Type 0
LeavesAlone (Sent n h f) g = (n == g) ≡ false
LeavesAlone (Made n s f) g = (n == g) ≡ false
LeavesAlone (Crossed n s) g = (n == g) ≡ false
LeavesAlone (Redirected n old new) g = (n == g) ≡ false
LeavesAlone (Copied n c) g = (c == g) ≡ false
LeavesAlone (Granted x h e p) g = ⊥
LeavesAlone (LinkDown x y) g = ⊥
LeavesAlone entry g = Unit {0}

pub kept : (plan : Plan) (past : List Entry) (e : Entry) (g : ℕ) → LeavesAlone e g → Keeps plan past (e ∷ past) g
kept plan past (Sent n h f) g is = record { flight = rw is refl; live = λ a b live. live; to = λ k held. rw is held }
kept plan past (Made n s f) g is = record { flight = rw is refl; live = λ a b live. live; to = λ k held. rw is held }
kept plan past (Crossed n s) g is = record { flight = rw is refl; live = λ a b live. rw is live; to = λ k held. rw is held }
kept plan past (Redirected n old new) g is = record { flight = rw is refl; live = λ a b live. live; to = λ k held. rw is held }
kept plan past (Copied n c) g is = record { flight = rw is refl; live = λ a b live. rw is live; to = λ k held. rw is held }
kept plan past (Granted x h e p) g is = absurd is
kept plan past (LinkDown x y) g is = absurd is
kept plan past entry g is = record { flight = refl; live = λ a b live. live; to = λ k held. held }

pub kept_twice : (plan : Plan) (past later last : List Entry) (g : ℕ) → Keeps plan past later g → Keeps plan later last g → Keeps plan past last g
kept_twice plan past later last g one next = record { flight = next.flight ∙ one.flight; live = λ a b live. next.live a b (one.live a b live); to = λ h held. next.to h (one.to h held) }

module _ (plan : Plan) (place : ℕ → Place) where
  many_kept : (history later : AddressHistory) (f : Flight) (frame : List ℕ) → KeepsHistory history later → IsForMany history f frame → IsForMany later f frame
  many_kept history later f frame keeps m = record {
    leg = m.leg;
    unaltered = m.unaltered;
    from = m.from;
    fits = m.fits;
    source = m.source;
    there = m.there;
    granted = keeps.there (pmac_number m.from) m.there m.granted;
  }

  pub between_kept : (history after : AddressHistory) (f g : Flight) (live later : Bool) (frame : List ℕ) (s t : ℕ) → g ≡ f → (live ≡ true → later ≡ true) →
      KeepsHistory history after → IsBetweenSwitches plan place history f live frame s t → IsBetweenSwitches plan place after g later frame s t
  between_kept history after f g live later frame s t same more keeps b = subst (λ h. IsBetweenSwitches plan place after h later frame s t) (sym same) (record {
    last = b.last;
    whole = more b.whole;
    group = b.group;
    kept = b.kept;
    address = b.address;
    home = b.home;
    many = λ group. many_kept history after f frame keeps (b.many group);
    rises = b.rises;
    one = b.one;
  })

  pub leaving_kept : (history later : AddressHistory) (to then_to : Option ℕ) (f g : Flight) (frame : List ℕ) (s port : ℕ) → g ≡ f → ((h : ℕ) → to ≡ Some h → then_to ≡ Some h) →
      KeepsHistory history later → IsLeaving plan place to history f frame s port → IsLeaving plan place then_to later g frame s port
  leaving_kept history later to then_to f g frame s port same for more b = subst (λ h. IsLeaving plan place then_to later h frame s port) (sym same) (record {
    last = b.last;
    group = b.group;
    kept = b.kept;
    home = b.home;
    many = λ group. many_kept history later f frame more (b.many group);
    rises = b.rises;
    not_back = λ group.
        let m = b.many group in
        let n : mac_number (source_of frame) ≡ pmac_number m.from = ap mac_number m.source ∙ number_of_mac m.from m.fits in
        let was : history.edge_ports (mac_number (source_of frame)) ≡ Some m.there = ap history.edge_ports n ∙ m.granted in
        let is : later.edge_ports (mac_number (source_of frame)) ≡ Some m.there = ap later.edge_ports n ∙ more.there (pmac_number m.from) m.there m.granted in
        ap (λ o. is_at o (at_port s port)) (is ∙ sym was) ∙ b.not_back group;
    one = λ unicast. let w = b.one unicast in record {
      host = w.host;
      held = for w.host w.held;
      there = more.there f.address _ w.there;
      reached = w.reached;
      mac = w.mac;
      unaltered = w.unaltered;
    };
  })

  pub going_kept : (past later : List Entry) (s port : ℕ) (peer : Peer) (g : ℕ) (frame : List ℕ) → Keeps plan past later g →
      KeepsHistory (history_of past) (history_of later) → IsGoing plan place past s port peer g frame → IsGoing plan place later s port peer g frame
  going_kept past later s port (Switch t q) g frame keeps history is =
      between_kept (history_of past) (history_of later) (flight_of plan past g) (flight_of plan later g) _ _ frame s t.0 keeps.flight (keeps.live s t.0) history is
  going_kept past later s port HostPort g frame keeps history is =
      leaving_kept (history_of past) (history_of later) (addressee past g) (addressee later g) (flight_of plan past g) (flight_of plan later g) frame s port keeps.flight keeps.to history is

  -- each frame in a queue goes on as it was, where entries follow that name another one alone
  pub goes_on : (past later : List Entry) (from_hosts out : List (List Item)) (id : ℕ) → IsNowhere from_hosts out id →
      ((g : ℕ) → (id == g) ≡ false → Keeps plan past later g) → KeepsHistory (history_of past) (history_of later) →
      Flying plan place past from_hosts out → Flying plan place later from_hosts out
  goes_on past later from_hosts out id away keeps history f = record {
    waiting = λ h. all_kept (IsWaiting plan past h) (IsWaiting plan later h) id (λ frame is. tt)
        (λ g frame other is. (keeps g other).flight ∙ is) _ (not_in_one id from_hosts h away.not_at_hosts) (f.waiting h);
    going = λ s port within. all_kept (IsOut plan place past s port) (IsOut plan place later s port) id (λ frame is. tt)
        (λ g frame other is. going_kept past later s port (peer_of plan s port) g frame (keeps g other) history is) _
        (not_in_one id out (port_index plan.k s port) away.not_out) (f.going s port within);
  }
