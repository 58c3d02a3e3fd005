-- What the small changes of a world do to where frames wait and to what the journal says of their way and their bytes.
use Rattle.std.proofs.Common.{◌≡◌, ℕ, zero, suc, ◌+◌, ◌/◌, ◌%◌, ◌≤◌, ◌<◌, ◌==◌, true, false, List, [], ◌∷◌, ◌++◌, Option, None, Some, get_or, set, refl, sym, ap, ◌∙◌, subst, arith, inl, inr}
use Rattle.std.specs.List.{AllByRecursion}
use Rattle.std.proofs.lemmas.Bool.{cases_Bool, cond-false, cond-true, eq-eqb, eqb-true, ne_eqb}
use Rattle.std.proofs.lemmas.Nat.{div-mul-add, mod-mul-add}
use Rattle.std.proofs.lemmas.Option.{none-some}
use Rattle.pl_lemmas.proofs.Exports.{all_append, all_weaker}
use Rattle.pl_wiring.specs.declared.host.HostNo.{HostNo}
use Rattle.pl_wiring.specs.declared.label.SwitchNo.{SwitchNo}
use Rattle.pl_wiring.specs.Index.{port_index}
use Rattle.pl_wiring.specs.Labels.{label_of}
use Rattle.pl_wiring.specs.Plan.{Plan}
use Rattle.pl_journal.specs.declared.entry.Entry.{Entry}
use Rattle.pl_journal.specs.declared.entry.Entry.TheVariants.{Arrived, Copied, Crossed, Made, Moved, Sent}
use Rattle.pl_journal.specs.Flights.{beginning, before_copy, first_of, trail}
use Rattle.pl_queues.specs.Queues.{items_at}
use Rattle.pl_world.specs.declared.item.Item.{Item}
use Rattle.pl_world.specs.declared.item.Item.TheVariants.{Control, Data}
use Rattle.pl_world.specs.Flying.{times_in, times_in_all}
use Rattle.pl_bridge_rule.specs.Tree.{is_tree_link}
use Rattle.pl_law_bridge.specs.Travelling.{AreAdjacentInTree, ArriveAsSent, ArrivesAsSent, copies_made, IsUnderWay, LeadsOverTree, Travel, WaitsAtHost, WaitsAtPort}
use Rattle.pl_law_bridge.proofs.Changing.{IsIdle}

-- another queue at one place
set_kept : (P : ℕ → Item → Type 0) (queues : List (List Item)) (n : ℕ) (queue : List Item) → ((m : ℕ) → AllByRecursion (P m) (get_or queues m [])) →
    AllByRecursion (P n) queue → (m : ℕ) → AllByRecursion (P m) (get_or (set queues n queue) m [])
set_kept P [] n queue all new m = all m
set_kept P (l ∷ queues) zero queue all new zero = new
set_kept P (l ∷ queues) zero queue all new (suc m) = all (suc m)
set_kept P (l ∷ queues) (suc n) queue all new zero = all 0
set_kept P (l ∷ queues) (suc n) queue all new (suc m) = set_kept (λ i. P (suc i)) queues n queue (λ i. all (suc i)) new m

-- where a frame is not at all, it is not in any queue
none_at : (id : ℕ) (queues : List (List Item)) (n : ℕ) → times_in_all id queues ≡ 0 → times_in id (get_or queues n []) ≡ 0
none_at id [] n none = refl
none_at id (queue ∷ queues) zero none = omega arith
none_at id (queue ∷ queues) (suc n) none = none_at id queues n (omega arith)

-- what holds of each frame but one holds of a queue without that one
but_one : (P Q : Item → Type 0) (c : ℕ) → ((frame : List ℕ) → Q (Control frame)) → ((id : ℕ) (frame : List ℕ) → (c == id) ≡ false → P (Data id frame) → Q (Data id frame)) →
    (items : List Item) → times_in c items ≡ 0 → AllByRecursion P items → AllByRecursion Q items
but_one P Q c control data_too [] none all = tt
but_one P Q c control data_too (Control frame ∷ items) none all = (control frame, but_one P Q c control data_too items none all.1)
but_one P Q c control data_too (Data id frame ∷ items) none all = elim (cases_Bool (id == c)) [
  | inl here ↦ let more : times_in c (Data id frame ∷ items) ≡ times_in c items + 1 = cond-true (id == c) (times_in c items + 1) (times_in c items) here in
      absurd (omega arith)
  | inr other ↦
      let rest : times_in c (Data id frame ∷ items) ≡ times_in c items = cond-false (id == c) (times_in c items + 1) (times_in c items) other in
      let apart : (c == id) ≡ false = ne_eqb c id (λ e. absurd (let on = eq-eqb id c (sym e) in cc (on, other))) in
      (data_too id frame apart all.0, but_one P Q c control data_too items (sym rest ∙ none) all.1)
]

-- a frame is on its way as before, where the journal says the same of it
pub still_under_way : (past next : List Entry) (many more : ℕ) (last : Option ℕ) (id : ℕ) (frame : List ℕ) → many ≤ more → beginning next id ≡ beginning past id →
    trail next id ≡ trail past id → (first_of (trail past id) ≡ None → copies_made next id ≡ copies_made past id) → IsUnderWay past many last id frame → IsUnderWay next more last id frame
still_under_way past next many more last id frame le bytes crossed copies is = record {
  begun = (let b = is.begun in omega (arith, b, le));
  bytes = is.bytes ∙ sym bytes;
  crossed = ap first_of crossed ∙ is.crossed;
  single = λ none. copies (is.crossed ∙ none) ∙ is.single none;
}

-- and so by an idle entry
pub idle_under_way : (past : List Entry) (many : ℕ) (last : Option ℕ) (id : ℕ) (frame : List ℕ) (e : Entry) → IsIdle e → IsUnderWay past many last id frame → IsUnderWay (e ∷ past) many last id frame
idle_under_way past many last id frame (Copied g copy) idle is = absurd idle
idle_under_way past many last id frame (Sent g h f) idle is = absurd idle
idle_under_way past many last id frame (Made g s f) idle is = absurd idle
idle_under_way past many last id frame (Crossed g s) idle is = absurd idle
idle_under_way past many last id frame e idle is = record { begun = is.begun; bytes = is.bytes; crossed = is.crossed; single = is.single }

module _ (plan : Plan) where
  -- ---- queues
  pub port_holds : (past : List Entry) (many s port id : ℕ) (frame : List ℕ) → port < plan.k → LeadsOverTree plan s port → IsUnderWay past many (Some s) id frame →
      WaitsAtPort plan past many (port_index plan.k s port) (Data id frame)
  port_holds past many s port id frame within leads is =
      let row = div-mul-add s plan.k port within in
      let column = mod-mul-add s plan.k port within in
      let way : LeadsOverTree plan (port_index plan.k s port / plan.k) (port_index plan.k s port % plan.k) =
      subst (λ a. LeadsOverTree plan a (port_index plan.k s port % plan.k)) (sym row) (subst (λ b. LeadsOverTree plan s b) (sym column) leads) in
      (way, subst (λ a. IsUnderWay past many (Some a) id frame) (sym row) is)

  pub port_held : (past : List Entry) (many s port id : ℕ) (frame : List ℕ) → port < plan.k → WaitsAtPort plan past many (port_index plan.k s port) (Data id frame) →
      LeadsOverTree plan s port × IsUnderWay past many (Some s) id frame
  port_held past many s port id frame within is =
      let row = div-mul-add s plan.k port within in
      let column = mod-mul-add s plan.k port within in (
        subst (λ b. LeadsOverTree plan s b) column (subst (λ a. LeadsOverTree plan a (port_index plan.k s port % plan.k)) row is.0),
        subst (λ a. IsUnderWay past many (Some a) id frame) row is.1,
      )

  pub set_port : (past : List Entry) (from_hosts out : List (List Item)) (many n : ℕ) (items : List Item) → AllByRecursion (WaitsAtPort plan past many n) items →
      Travel plan past from_hosts out many → Travel plan past from_hosts (set out n items) many
  set_port past from_hosts out many n items all t = record {
    new = t.new;
    uncopied = t.uncopied;
    at_hosts = t.at_hosts;
    at_ports = set_kept (WaitsAtPort plan past many) out n items t.at_ports all;
    adjacent = t.adjacent;
    arrived = t.arrived;
  }

  pub put_port : (past : List Entry) (from_hosts out : List (List Item)) (many n : ℕ) (item : Item) → WaitsAtPort plan past many n item →
      Travel plan past from_hosts out many → Travel plan past from_hosts (set out n (get_or out n [] ++ item ∷ [])) many
  put_port past from_hosts out many n item is t =
      set_port past from_hosts out many n (get_or out n [] ++ item ∷ [])
      (all_append (WaitsAtPort plan past many n) (get_or out n []) (item ∷ []) (t.at_ports n) (is, tt)) t

  pub take_port : (past : List Entry) (from_hosts out : List (List Item)) (many n : ℕ) (item : Item) (items : List Item) → get_or out n [] ≡ item ∷ items →
      Travel plan past from_hosts out many → Travel plan past from_hosts (set out n items) many × WaitsAtPort plan past many n item
  take_port past from_hosts out many n item items is t =
      let all : AllByRecursion (WaitsAtPort plan past many n) (item ∷ items) = subst (AllByRecursion (WaitsAtPort plan past many n)) is (t.at_ports n) in
      (set_port past from_hosts out many n items all.1 t, all.0)

  pub set_host : (past : List Entry) (from_hosts out : List (List Item)) (many h : ℕ) (items : List Item) → AllByRecursion (WaitsAtHost past many) items →
      Travel plan past from_hosts out many → Travel plan past (set from_hosts h items) out many
  set_host past from_hosts out many h items all t = record {
    new = t.new;
    uncopied = t.uncopied;
    at_hosts = set_kept (λ n. WaitsAtHost past many) from_hosts h items t.at_hosts all;
    at_ports = t.at_ports;
    adjacent = t.adjacent;
    arrived = t.arrived;
  }

  pub put_at_host : (past : List Entry) (from_hosts out : List (List Item)) (many h : ℕ) (item : Item) → WaitsAtHost past many item →
      Travel plan past from_hosts out many → Travel plan past (set from_hosts h (get_or from_hosts h [] ++ item ∷ [])) out many
  put_at_host past from_hosts out many h item is t =
      set_host past from_hosts out many h (get_or from_hosts h [] ++ item ∷ [])
      (all_append (WaitsAtHost past many) (get_or from_hosts h []) (item ∷ []) (t.at_hosts h) (is, tt)) t

  pub take_from_host : (past : List Entry) (from_hosts out : List (List Item)) (many h : ℕ) (item : Item) (items : List Item) → get_or from_hosts h [] ≡ item ∷ items →
      Travel plan past from_hosts out many → Travel plan past (set from_hosts h items) out many × WaitsAtHost past many item
  take_from_host past from_hosts out many h item items is t =
      let all : AllByRecursion (WaitsAtHost past many) (item ∷ items) = subst (AllByRecursion (WaitsAtHost past many)) is (t.at_hosts h) in
      (set_host past from_hosts out many h items all.1 t, all.0)

  -- ---- entries
  -- what the journal says later of the frames that have begun is what it said before
  travel_on : (past next : List Entry) (from_hosts out : List (List Item)) (many more : ℕ) → many ≤ more → ((id : ℕ) → id ≤ many → beginning next id ≡ beginning past id) →
      ((id : ℕ) → id ≤ many → trail next id ≡ trail past id) → ((id : ℕ) → first_of (trail past id) ≡ None → copies_made next id ≡ copies_made past id) →
      ((id : ℕ) → more < id → trail next id ≡ []) → ((id : ℕ) → more < id → copies_made next id ≡ 0) → ((id : ℕ) → AreAdjacentInTree plan.k (trail next id)) →
      ArriveAsSent plan next → Travel plan past from_hosts out many → Travel plan next from_hosts out more
  travel_on past next from_hosts out many more le bytes crossed copies new uncopied adjacent arrived t = record {
    new = new;
    uncopied = uncopied;
    at_hosts = λ h. all_weaker (WaitsAtHost past many) (WaitsAtHost next more) at_host (items_at from_hosts h) (t.at_hosts h);
    at_ports = λ n. all_weaker (WaitsAtPort plan past many n) (WaitsAtPort plan next more n) (at_port n) (items_at out n) (t.at_ports n);
    adjacent = adjacent;
    arrived = arrived;
  }
    where
      at_host : (item : Item) → WaitsAtHost past many item → WaitsAtHost next more item
      at_host (Control frame) is = tt
      at_host (Data id frame) is = still_under_way past next many more None id frame le (bytes id is.begun) (crossed id is.begun) (copies id) is

      at_port : (n : ℕ) (item : Item) → WaitsAtPort plan past many n item → WaitsAtPort plan next more n item
      at_port n (Control frame) is = tt
      at_port n (Data id frame) is = (is.0, still_under_way past next many more (Some (n / plan.k)) id frame le (bytes id is.1.begun) (crossed id is.1.begun) (copies id) is.1)

  pub travel_idle : (past : List Entry) (from_hosts out : List (List Item)) (many : ℕ) (e : Entry) → IsIdle e → Travel plan past from_hosts out many →
      Travel plan (e ∷ past) from_hosts out many
  travel_idle past from_hosts out many (Copied id copy) idle t = absurd idle
  travel_idle past from_hosts out many (Sent id h frame) idle t = absurd idle
  travel_idle past from_hosts out many (Made id s frame) idle t = absurd idle
  travel_idle past from_hosts out many (Crossed id s) idle t = absurd idle
  travel_idle past from_hosts out many (Arrived id h frame) idle t = absurd idle
  travel_idle past from_hosts out many (Moved h s port) idle t = absurd idle
  travel_idle past from_hosts out many e idle t = travel_on past (e ∷ past) from_hosts out many many (omega arith) (λ g le. refl) (λ g le. refl) (λ g le. refl) t.new t.uncopied t.adjacent t.arrived t

  pub travel_moved : (past : List Entry) (from_hosts out : List (List Item)) (many : ℕ) (h : HostNo) (s : SwitchNo) (port : ℕ) → Travel plan past from_hosts out many →
      Travel plan (Moved h s port ∷ past) from_hosts out many
  travel_moved past from_hosts out many h s port t =
      travel_on past (Moved h s port ∷ past) from_hosts out many many (omega arith) (λ g le. refl) (λ g le. refl) (λ g le. refl) t.new t.uncopied t.adjacent t.arrived t

  -- a frame arrives with the bytes with which it waited
  pub travel_arrived : (past : List Entry) (from_hosts out : List (List Item)) (many id : ℕ) (h : HostNo) (frame : List ℕ) → ArrivesAsSent plan past id h.0 frame →
      Travel plan past from_hosts out many → Travel plan (Arrived id h frame ∷ past) from_hosts out many
  travel_arrived past from_hosts out many id h frame same t =
      travel_on past (Arrived id h frame ∷ past) from_hosts out many many (omega arith) (λ g le. refl) (λ g le. refl) (λ g le. refl) t.new t.uncopied t.adjacent (same, t.arrived) t

  -- a frame begins at a host
  pub travel_sent : (past : List Entry) (from_hosts out : List (List Item)) (many : ℕ) (h : HostNo) (frame : List ℕ) → Travel plan past from_hosts out many →
      Travel plan (Sent (many + 1) h frame ∷ past) from_hosts out (many + 1) × IsUnderWay (Sent (many + 1) h frame ∷ past) (many + 1) None (many + 1) frame
  travel_sent past from_hosts out many h frame t = (
    travel_on past (Sent (many + 1) h frame ∷ past) from_hosts out many (many + 1) (omega arith)
        (λ g le. cond-false ((many + 1) == g) frame (beginning past g) (ne_eqb (many + 1) g (λ is. absurd (omega (arith, is, le))))) (λ g le. refl) (λ g le. refl)
        (λ g later. t.new g (omega (arith, later))) (λ g later. t.uncopied g (omega (arith, later))) t.adjacent t.arrived t,
    record {
      begun = omega arith;
      bytes = sym (cond-true ((many + 1) == (many + 1)) frame (beginning past (many + 1)) (eq-eqb (many + 1) (many + 1) refl));
      crossed = ap first_of (t.new (many + 1) (omega arith));
      single = λ none. t.uncopied (many + 1) (omega arith);
    },
  )

  -- a frame is copied: the copy has its way and its bytes
  pub travel_copied : (past : List Entry) (from_hosts out : List (List Item)) (many id last : ℕ) (frame : List ℕ) → IsUnderWay past many (Some last) id frame →
      Travel plan past from_hosts out many →
      Travel plan (Copied id (many + 1) ∷ past) from_hosts out (many + 1) × (IsUnderWay (Copied id (many + 1) ∷ past) (many + 1) (Some last) (many + 1) frame
      × IsUnderWay (Copied id (many + 1) ∷ past) (many + 1) (Some last) id frame)
  travel_copied past from_hosts out many id last frame is t = (
    travel_on past (Copied id (many + 1) ∷ past) from_hosts out many (many + 1) (omega arith) (λ g le. ap (beginning past) (other g (λ same. absurd (omega (arith, same, le)))))
        (λ g le. ap (trail past) (other g (λ same. absurd (omega (arith, same, le))))) not_copied
        (λ g later. ap (trail past) (other g (λ same. absurd (omega (arith, same, later)))) ∙ t.new g (omega (arith, later)))
        (λ g later. of_another g (λ same. absurd (let b = is.begun in omega (arith, b, same, later))) ∙ t.uncopied g (omega (arith, later)))
        (λ g. t.adjacent (before_copy id (many + 1) g)) t.arrived t,
    (
      record {
        begun = omega arith;
        bytes = is.bytes ∙ sym (ap (beginning past) copy);
        crossed = ap (λ g. first_of (trail past g)) copy ∙ is.crossed;
        single = λ none. absurd (none-some last (sym none));
      },
      still_under_way past (Copied id (many + 1) ∷ past) many (many + 1) (Some last) id frame (omega arith) (ap (beginning past) itself) (ap (trail past) itself)
          (λ none. absurd (none-some last (sym none ∙ is.crossed))) is,
    ),
  )
    where
      other : (g : ℕ) → ((many + 1) ≡ g → ⊥) → before_copy id (many + 1) g ≡ g
      other g apart = cond-false ((many + 1) == g) id g (ne_eqb (many + 1) g apart)

      copy : before_copy id (many + 1) (many + 1) ≡ id
      copy = cond-true ((many + 1) == (many + 1)) id (many + 1) (eq-eqb (many + 1) (many + 1) refl)

      itself : before_copy id (many + 1) id ≡ id
      itself = other id (λ same. absurd (let b = is.begun in omega (arith, b, same)))

      of_another : (g : ℕ) → (id ≡ g → ⊥) → copies_made (Copied id (many + 1) ∷ past) g ≡ copies_made past g
      of_another g apart = cond-false (id == g) (suc (copies_made past g)) (copies_made past g) (ne_eqb id g apart)

      not_copied : (g : ℕ) → first_of (trail past g) ≡ None → copies_made (Copied id (many + 1) ∷ past) g ≡ copies_made past g
      not_copied g none = of_another g (λ same. absurd (none-some last (sym none ∙ ap (λ x. first_of (trail past x)) (sym same) ∙ is.crossed)))

  -- a frame that waits nowhere crosses a switch to which its way leads on
  pub travel_crossed : (past : List Entry) (from_hosts out : List (List Item)) (many id : ℕ) (s : SwitchNo) (last : Option ℕ) (frame : List ℕ) → times_in_all id from_hosts ≡ 0 →
      times_in_all id out ≡ 0 → ((t : ℕ) → last ≡ Some t → is_tree_link (label_of plan.k s.0) (label_of plan.k t) ≡ true) → IsUnderWay past many last id frame →
      Travel plan past from_hosts out many → Travel plan (Crossed id s ∷ past) from_hosts out many × IsUnderWay (Crossed id s ∷ past) many (Some s.0) id frame
  travel_crossed past from_hosts out many id s last frame not_at_hosts not_out leads is t = (
    record {
      new = λ g later. others g (λ same. absurd (let b = is.begun in omega (arith, b, later, same))) ∙ t.new g later;
      uncopied = t.uncopied;
      at_hosts = λ h. but_one (WaitsAtHost past many) (WaitsAtHost (Crossed id s ∷ past) many) id (λ f. tt)
          (λ g f apart waits. still_under_way past (Crossed id s ∷ past) many many None g f (omega arith) refl (cond-false (id == g) (s.0 ∷ trail past g) (trail past g) apart) (λ none. refl) waits)
          (items_at from_hosts h) (none_at id from_hosts h not_at_hosts) (t.at_hosts h);
      at_ports = λ n. but_one (WaitsAtPort plan past many n) (WaitsAtPort plan (Crossed id s ∷ past) many n) id (λ f. tt)
          (λ g f apart waits. (
            waits.0,
            still_under_way past (Crossed id s ∷ past) many many (Some (n / plan.k)) g f (omega arith) refl (cond-false (id == g) (s.0 ∷ trail past g) (trail past g) apart) (λ none. refl) waits.1,
          ))
          (items_at out n) (none_at id out n not_out) (t.at_ports n);
      adjacent = λ g. elim (cases_Bool (id == g)) [
        | inl same ↦ subst (AreAdjacentInTree plan.k) (sym (cond-true (id == g) (s.0 ∷ trail past g) (trail past g) same))
            (subst (λ x. AreAdjacentInTree plan.k (s.0 ∷ trail past x)) (eqb-true id g same) longer)
        | inr apart ↦ subst (AreAdjacentInTree plan.k) (sym (cond-false (id == g) (s.0 ∷ trail past g) (trail past g) apart)) (t.adjacent g)
      ];
      arrived = t.arrived;
    },
    record {
      begun = is.begun;
      bytes = is.bytes;
      crossed = ap first_of (cond-true (id == id) (s.0 ∷ trail past id) (trail past id) (eq-eqb id id refl));
      single = λ none. absurd (none-some s.0 (sym none));
    },
  )
    where
      others : (g : ℕ) → (id ≡ g → ⊥) → trail (Crossed id s ∷ past) g ≡ trail past g
      others g apart = cond-false (id == g) (s.0 ∷ trail past g) (trail past g) (ne_eqb id g apart)

      on : (switches : List ℕ) → first_of switches ≡ last → AreAdjacentInTree plan.k switches → AreAdjacentInTree plan.k (s.0 ∷ switches)
      on [] at all = tt
      on (x ∷ switches) at all = (leads x (sym at), all)

      longer : AreAdjacentInTree plan.k (s.0 ∷ trail past id)
      longer = on (trail past id) is.crossed (t.adjacent id)
