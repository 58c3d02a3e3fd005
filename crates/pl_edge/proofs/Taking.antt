-- What an edge switch takes in, case by case.
use Rattle.std.proofs.Common.{◌≡◌, ℕ, ◌/◌, ◌==◌, ◌&&◌, not, nat_le, Bool, true, false, if◌then◌else◌, List, [], ◌∷◌, ◌++◌, drop, length, slice_index, Option, Some, None, refl, sym, ap, ◌∙◌, subst, append_assoc, inl, inr}
use Rattle.std.specs.Option.{is_none, is_some}
use Rattle.std.specs.Result.{result_ok}
use Rattle.std.proofs.lemmas.Bool.{cases_eq, ne_eqb, true≢false}
use Rattle.pl_frame.specs.declared.address.Mac.{Mac}
use Rattle.pl_frame.specs.Ethernet.{destination_of, kind_of, payload_of, source_of}
use Rattle.pl_arp.specs.Packet.{arp_in}
use Rattle.pl_arp.specs.declared.packet.Arp.{Arp}
use Rattle.pl_journal.specs.declared.cause.Cause.TheVariants.{BadArp, NotPlaced}
use Rattle.pl_node.specs.declared.acts.Act.{Act}
use Rattle.pl_node.specs.declared.acts.Act.TheVariants.{Drop, Take}
use Rattle.pl_node.specs.SwitchViews.{SwitchView}
use Rattle.pl_layouts.specs.Frames.{arriving, is_arp, packet_in}
use Rattle.pl_layouts.specs.Memberships.{header_length, is_membership, membership_in}
use Rattle.pl_layouts.specs.Placement.{is_placed}
use Rattle.pl_steps.specs.Steps.{SwitchStep, does, ◌▹◌}
use Rattle.pl_steps.specs.Taken.{IsTaken, IsTakenUpTo}
use Rattle.pl_switch_rule.specs.Forwarding.{Choice}
use Rattle.pl_switch_rule.specs.Granting.{grants_at, in_use}
use Rattle.pl_switch_rule.specs.Intake.{hears_members, is_for_switch, mac_of_pmac, packet_acts, pmac_at, sends_in, source_pmac, takes, takes_in, with_pmac}
use Rattle.pl_migrate.specs.AddressTables.{AddressTableView, address_in_use, address_table_in, numbered}
use Rattle.pl_edge.specs.declared.edge_act.EdgeAct.{EdgeAct}
use Rattle.pl_edge.specs.declared.edge_act.EdgeAct.TheVariants.{Taken, Drop as Dropped}
use Rattle.pl_edge.specs.Begun.{left_to_do}
use Rattle.pl_edge.specs.EdgeViews.{EdgeView, edge_in, freed_by, grants_by, place_by, trapped_by, used_by, MayBeAt}

-- the address that a source has in use is the one of the address table
numbered_is : (address_table : AddressTableView) (k : ℕ) (v : SwitchView) (port : ℕ) (vmid : Option ℕ) →
    pmac_at (record v { place = place_by (Some address_table) v.place; grants = grants_by (Some address_table) k }) port vmid ≡ numbered address_table port vmid
numbered_is address_table k v port None = refl
numbered_is address_table k v port (Some vmid) = refl

pub source_is : (edge : EdgeView) (v : SwitchView) (port : ℕ) (frame : List ℕ) (address_table : AddressTableView) → edge.address_table ≡ Some address_table →
    source_pmac (edge_in edge v) port frame ≡ address_in_use address_table port (source_of frame)
source_is edge v port frame address_table is =
    ap (λ (o : Option AddressTableView). source_pmac (record v { place = place_by o v.place; grants = grants_by o edge.k }) port frame) is
    ∙ numbered_is address_table edge.k v port (in_use (grants_at (record v { grants = grants_by (Some address_table) edge.k }) port) (source_of frame))

-- a membership message is no ARP frame
abbrev message_by : Bool → List ℕ → Option (List ℕ)
message_by b frame = let payload = payload_of frame in let message = drop (header_length payload) payload in
    if (b && nat_le 20 (length payload) && (slice_index payload 0 / 16 == 4) && nat_le 20 (header_length payload) && nat_le (header_length payload) (length payload))
    && (slice_index payload 9 == 2) && nat_le 8 (length message) && is_membership (slice_index message 0) then Some message
    else None

no_arp : (frame : List ℕ) → is_some (membership_in frame) ≡ true → is_arp frame ≡ false
no_arp frame h = elim (cases_eq (kind_of frame) 0x0800) [
  | inl same ↦ ap (λ k. k == 0x0806) same
  | inr other ↦ absurd (true≢false (sym h ∙ ap (λ b. is_some (message_by b frame)) (ne_eqb (kind_of frame) 0x0800 other)))
]

no_message : (o : Option (List ℕ)) → is_some o ≡ false → o ≡ None
no_message None h = refl
no_message (Some message) h = absurd (true≢false h)

pub read_none : (frame bytes : List ℕ) (b : Bool) → bytes ≡ frame → b ≡ is_some (membership_in bytes) → b ≡ false → membership_in frame ≡ None
read_none frame bytes b at e is = no_message (membership_in frame) (ap (λ f. is_some (membership_in f)) (sym at) ∙ sym e ∙ is)

pub read_message : (frame bytes : List ℕ) (b : Bool) → bytes ≡ frame → b ≡ is_some (membership_in bytes) → b ≡ true → is_some (membership_in frame) ≡ true
read_message frame bytes b at e is = ap (λ f. is_some (membership_in f)) (sym at) ∙ sym e ∙ is

-- ---- the ways out
abbrev ways : Bool → Bool → Bool → Bool → SwitchStep → SwitchStep → SwitchStep → SwitchStep → SwitchStep → SwitchStep
ways bad own told placed a b c d e = if bad then a else if own then b else if told then c else if not placed then d else e

module _ (choose : Choice) (port : ℕ) (frame : List ℕ) (v : SwitchView) where
  abbrev bad : Bool
  bad = is_arp frame && is_none (packet_in frame)

  abbrev own : Bool
  own = is_for_switch v (destination_of frame) (packet_in frame)

  abbrev by_ways : Bool → Bool → Bool → Bool → SwitchStep
  by_ways bad own told placed =
      ways bad own told placed (does v (Drop BadArp ∷ [])) (does v (packet_acts v port frame (packet_in frame)) ▹ takes) (hears_members v port frame ▹ takes)
      (does v (Drop NotPlaced ∷ [])) (sends_in choose (with_pmac v port frame) v)

  all_ways : takes_in choose port frame v ≡ by_ways bad own (is_some (membership_in frame)) (is_placed v.place)
  all_ways = refl

  begun_as : (whole rest : SwitchStep) (out : List Act) → whole ≡ rest → IsTakenUpTo rest whole out out
  begun_as whole rest out is = record { view = ap (λ (s : SwitchStep). s.view) is; acts = ap (λ (s : SwitchStep). out ++ s.acts) (sym is) }

  pub begun_bad : (out : List Act) → bad ≡ true → IsTakenUpTo (left_to_do choose (Dropped BadArp) frame v) (takes_in choose port frame v) out out
  begun_bad out is =
      begun_as (takes_in choose port frame v) (left_to_do choose (Dropped BadArp) frame v) out
      (all_ways ∙ ap (λ b. by_ways b own (is_some (membership_in frame)) (is_placed v.place)) is)

  pub begun_own : (out told : List Act) → bad ≡ false → own ≡ true → told ≡ out ++ packet_acts v port frame (packet_in frame) →
      IsTakenUpTo (left_to_do choose Taken frame v) (takes_in choose port frame v) out told
  begun_own out told good is asked =
      let whole : takes_in choose port frame v ≡ does v (packet_acts v port frame (packet_in frame)) ▹ takes =
      all_ways ∙ ap (λ b. by_ways b own (is_some (membership_in frame)) (is_placed v.place)) good
      ∙ ap (λ b. by_ways false b (is_some (membership_in frame)) (is_placed v.place)) is in
      record {
        view = ap (λ (s : SwitchStep). s.view) whole;
        acts = ap (λ acts. acts ++ Take ∷ []) asked
            ∙ append_assoc out (packet_acts v port frame (packet_in frame)) (Take ∷ [])
            ∙ ap (λ (s : SwitchStep). out ++ s.acts) (sym whole);
      }

  pub begun_members : (w : SwitchView) (out told : List Act) → is_some (membership_in frame) ≡ true → IsTaken (hears_members v port frame) w out told →
      IsTakenUpTo (left_to_do choose Taken frame w) (takes_in choose port frame v) out told
  begun_members w out told message heard =
      let apart = no_arp frame message in
      let whole : takes_in choose port frame v ≡ hears_members v port frame ▹ takes =
      all_ways ∙ ap (λ b. by_ways (b && is_none (packet_in frame)) own (is_some (membership_in frame)) (is_placed v.place)) apart
      ∙ ap (λ b. by_ways false (is_for_switch v (destination_of frame) (if b then result_ok (arp_in (payload_of frame)) else None)) (is_some (membership_in frame)) (is_placed v.place)) apart
      ∙ ap (λ b. by_ways false false b (is_placed v.place)) message in
      record {
        view = ap (λ (s : SwitchStep). s.view) whole ∙ sym heard.view;
        acts = ap (λ acts. acts ++ Take ∷ []) heard.acts
            ∙ append_assoc out (hears_members v port frame).acts (Take ∷ [])
            ∙ ap (λ (s : SwitchStep). out ++ s.acts) (sym whole);
      }

  other : bad ≡ false → own ≡ false → membership_in frame ≡ None → takes_in choose port frame v ≡ by_ways false false false (is_placed v.place)
  other good apart none =
      all_ways ∙ ap (λ b. by_ways b own (is_some (membership_in frame)) (is_placed v.place)) good
      ∙ ap (λ b. by_ways false b (is_some (membership_in frame)) (is_placed v.place)) apart
      ∙ ap (λ message. by_ways false false (is_some message) (is_placed v.place)) none

  pub begun_nowhere : (out : List Act) → bad ≡ false → own ≡ false → membership_in frame ≡ None → is_placed v.place ≡ false →
      IsTakenUpTo (left_to_do choose (Dropped NotPlaced) frame v) (takes_in choose port frame v) out out
  begun_nowhere out good apart none is =
      begun_as (takes_in choose port frame v) (left_to_do choose (Dropped NotPlaced) frame v) out
      (other good apart none ∙ ap (λ b. by_ways false false false b) is)

  pub begun_sent : (act : EdgeAct) (new : List ℕ) (out : List Act) → bad ≡ false → own ≡ false → membership_in frame ≡ None → is_placed v.place ≡ true →
      new ≡ with_pmac v port frame → left_to_do choose act new v ≡ sends_in choose new v → IsTakenUpTo (left_to_do choose act new v) (takes_in choose port frame v) out out
  begun_sent act new out good apart none is same sent =
      begun_as (takes_in choose port frame v) (left_to_do choose act new v) out
      (other good apart none ∙ ap (λ b. by_ways false false false b) is ∙ ap (λ f. sends_in choose f v) (sym same) ∙ sym sent)

pub begun_unplaced : (choose : Choice) (port : ℕ) (frame : List ℕ) (edge : EdgeView) (v : SwitchView) (out : List Act) → edge.address_table ≡ None → MayBeAt edge.address_table v.place →
    (is_arp frame && is_none (packet_in frame)) ≡ false → is_for_switch (edge_in edge v) (destination_of frame) (packet_in frame) ≡ false →
    membership_in frame ≡ None → IsTakenUpTo (left_to_do choose (Dropped NotPlaced) frame (edge_in edge v)) (takes_in choose port frame (edge_in edge v)) out out
begun_unplaced choose port frame edge v out none may good apart other =
    begun_nowhere choose port frame (edge_in edge v) out good apart other
    (ap (λ (o : Option AddressTableView). is_placed (place_by o v.place)) none ∙ subst (λ (address_table : Option AddressTableView). MayBeAt address_table v.place) none may)

-- a frame that is rewritten goes where it is meant to go
pub begun_rewritten : (choose : Choice) (port : ℕ) (frame new : List ℕ) (act : EdgeAct) (edge : EdgeView) (address_table : AddressTableView) (v : SwitchView) (out : List Act) →
    edge.address_table ≡ Some address_table → (is_arp frame && is_none (packet_in frame)) ≡ false →
    is_for_switch (edge_in edge v) (destination_of frame) (packet_in frame) ≡ false → membership_in frame ≡ None →
    new ≡ arriving frame (mac_of_pmac (address_in_use address_table port (source_of frame))) None →
    ((w : SwitchView) → left_to_do choose act new (address_table_in address_table w) ≡ sends_in choose new (address_table_in address_table w)) →
    IsTakenUpTo (left_to_do choose act new (edge_in edge v)) (takes_in choose port frame (edge_in edge v)) out out
begun_rewritten choose port frame new act edge address_table v out is good apart other rewritten sent =
    let w : SwitchView = record v { remembered = edge.remembered; members = edge.members } in
    let by_table : Option AddressTableView → SwitchView =
    λ o. record w { place = place_by o v.place; grants = grants_by o edge.k; used = used_by o; trapped = trapped_by o; freed = freed_by o edge.k } in
    begun_sent choose port frame (edge_in edge v) act new out good apart other
    (ap (λ (o : Option AddressTableView). is_placed (place_by o v.place)) is)
    (rewritten ∙ ap (λ pmac. arriving frame (mac_of_pmac pmac) None) (sym (source_is edge v port frame address_table is)))
    (subst (λ (o : Option AddressTableView). left_to_do choose act new (by_table o) ≡ sends_in choose new (by_table o)) (sym is) (sent w))

-- ---- what was read of a frame
pub read_bad : (frame bytes : List ℕ) (packet : Option Arp) (b : Bool) → bytes ≡ frame → packet ≡ packet_in frame → b ≡ (is_arp bytes && is_none packet) →
    (is_arp frame && is_none (packet_in frame)) ≡ b
read_bad frame bytes packet b at is e = ap (λ f. is_arp f && is_none (packet_in frame)) (sym at) ∙ ap (λ p. is_arp bytes && is_none p) (sym is) ∙ sym e

pub read_own : (w : SwitchView) (frame bytes : List ℕ) (dst : Mac) (packet : Option Arp) (b : Bool) → bytes ≡ frame → packet ≡ packet_in frame →
    dst ≡ destination_of bytes → b ≡ is_for_switch w dst packet → is_for_switch w (destination_of frame) (packet_in frame) ≡ b
read_own w frame bytes dst packet b at is to e =
    ap (λ f. is_for_switch w (destination_of f) (packet_in frame)) (sym at) ∙ ap (λ d. is_for_switch w d (packet_in frame)) (sym to)
    ∙ ap (λ p. is_for_switch w dst p) (sym is) ∙ sym e

pub read_asked : (w : SwitchView) (port : ℕ) (frame bytes : List ℕ) (packet : Option Arp) (out told : List Act) → bytes ≡ frame → packet ≡ packet_in frame →
    told ≡ out ++ packet_acts w port bytes packet → told ≡ out ++ packet_acts w port frame (packet_in frame)
read_asked w port frame bytes packet out told at is e =
    e ∙ ap (λ f. out ++ packet_acts w port f packet) at ∙ ap (λ p. out ++ packet_acts w port frame p) is
