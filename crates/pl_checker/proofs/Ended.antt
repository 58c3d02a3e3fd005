-- A frame ends: when it may, and what is kept then.
use Rattle.std.proofs.Common.{◌≡◌, ◌≢◌, ◌↔◌, ℕ, ◌-◌, ◌≤◌, ◌==◌, ◌&&◌, nat_lt, Bool, true, false, not, set, List, [], ◌∷◌, length, take, Option, Some, None, is_some, is_none, refl, sym, ap, ap₂, subst, ◌∙◌, inl, inr, arith}
use Rattle.std.specs.Prelude.{IsSome, IsTrue}
use Rattle.std.specs.Bool.{IsFalse}
use Rattle.std.specs.Option.{option_map}
use Rattle.std.proofs.lemmas.Bool.{both_ways, false≢true, ne_eqb, not-true}
use Rattle.pl_wiring.specs.declared.label.SwitchNo.{SwitchNo}
use Rattle.pl_wiring.specs.declared.host.HostNo.{HostNo}
use Rattle.pl_wiring.specs.Plan.{Plan}
use Rattle.pl_journal.specs.declared.cause.Cause.{Cause}
use Rattle.pl_journal.specs.declared.cause.Cause.TheVariants.{BadArp, HostGone}
use Rattle.pl_journal.specs.declared.entry.Entry.{Entry}
use Rattle.pl_journal.specs.declared.entry.Entry.TheVariants.{Arrived, Dropped, Taken}
use Rattle.pl_journal.specs.Places.{edge_port, is_live}
use Rattle.pl_journal.specs.Causes.{CauseShows, goes_to_group, has_crossed, has_left, is_left_behind}
use Rattle.pl_journal.specs.Flights.{address, addressee, first_of, is_empty, is_flying, leg, sender, trail}
use Rattle.pl_past.specs.Kept.{ending, is_single, kept}
use Rattle.pl_past.specs.Moves.{moved_at}
use Rattle.pl_past.proofs.Exports.{moved_by_numbers, when_it_arrives, when_it_is_dropped, when_it_is_taken}
use Rattle.pl_past_tables.specs.declared.row.Row.{Row}
use Rattle.pl_past_tables.specs.Frames.{IsRow, KeepsFrames}
use Rattle.pl_past_tables.specs.Legs.{switches_of, trail_of}
use Rattle.pl_checker.specs.Past.{MayFollow}
use Rattle.pl_past_tables.proofs.Exports.{one_row}
use Rattle.pl_checker.proofs.Crosses.{empty_by_two}

pub none_taken : (plan : Plan) (past : List Entry) (id : ℕ) (s : SwitchNo) → is_flying past id ≡ false → IsTrue false ↔ MayFollow plan past (Taken id s)
none_taken plan past id s none = (λ t. absurd (false≢true t), λ f. absurd (both_ways (is_flying past id) none f.0.0))

pub of_no_host : (plan : Plan) (text : List ℕ) (past : List Entry) (id : ℕ) (s : SwitchNo) (row : Row) → IsRow text row (kept plan past id) →
    is_none row.sender ≡ true →
    IsTrue false ↔ MayFollow plan past (Taken id s)
of_no_host plan text past id s row is none =
    (λ t. absurd (false≢true t), λ f. absurd (not_some row.sender (sender past id) none (is.sender) f.0.1.of_host))
  where
    not_some : (o : Option HostNo) (p : Option ℕ) → is_none o ≡ true → option_map (λ h. h.0) o ≡ p → IsSome p → ⊥
    not_some None p is same some = both_ways false refl (ap (λ (q : Option ℕ). is_some q) same ∙ some)
    not_some (Some h) p is same some = absurd (both_ways false refl is)

pub not_takeable : (plan : Plan) (text : List ℕ) (past : List Entry) (id : ℕ) (s : SwitchNo) (row : Row) → IsRow text row (kept plan past id) →
    row.carried.takeable ≡ false →
    IsTrue false ↔ MayFollow plan past (Taken id s)
not_takeable plan text past id s row is none =
    (λ t. absurd (false≢true t), λ f. absurd (both_ways (row.carried.takeable) none (is.carried.takeable ∙ f.0.1.takeable)))

alone_by_five : (switches : List ℕ) (s : ℕ) → (take 5 switches ≡ s ∷ []) ↔ (switches ≡ s ∷ [])
alone_by_five [] s = (λ e. e, λ e. e)
alone_by_five (a ∷ []) s = (λ e. e, λ e. e)
alone_by_five (a ∷ b ∷ switches) s = (λ e. absurd (cc e), λ e. absurd (cc e))

pub taken_alone : (plan : Plan) (text : List ℕ) (past : List Entry) (id : ℕ) (s : SwitchNo) (row : Row) (b : Bool) → IsRow text row (kept plan past id) →
    is_flying past id ≡ true →
    is_none row.sender ≡ false → row.carried.takeable ≡ true → IsTrue b ↔ (switches_of row.leg ≡ s.0 ∷ []) → IsTrue b ↔ MayFollow plan past (Taken id s)
taken_alone plan text past id s row b is flies some takeable alone = (
  λ t. (
    (
      flies,
      record {
        of_host = subst IsSome is.sender (is_host row.sender some);
        alone = (alone_by_five (leg past id) s.0).0 (sym is.leg ∙ alone.0 t);
        takeable = sym is.carried.takeable ∙ takeable;
      },
    ),
    tt,
  ),
  λ f. alone.1 (is.leg ∙ (alone_by_five (leg past id) s.0).1 f.0.1.alone),
)
  where
    is_host : (o : Option HostNo) → is_none o ≡ false → IsSome (option_map (λ (h : HostNo). h.0) o)
    is_host None some = absurd (both_ways true some refl)
    is_host (Some h) some = refl

pub none_dropped : (plan : Plan) (past : List Entry) (id : ℕ) (cause : Cause) → is_flying past id ≡ false →
    IsTrue false ↔ MayFollow plan past (Dropped id cause)
none_dropped plan past id cause none = (λ t. absurd (false≢true t), λ f. absurd (both_ways (is_flying past id) none f.0.0))

pub dropped_for : (plan : Plan) (past : List Entry) (id : ℕ) (cause : Cause) (b : Bool) → is_flying past id ≡ true → IsTrue b ↔ CauseShows plan past id cause →
    IsTrue b ↔ MayFollow plan past (Dropped id cause)
dropped_for plan past id cause b flies shows = (λ t. ((flies, shows.0 t), tt), λ f. shows.1 f.0.1)

-- what shows of a frame by its row
pub crossed_by_row : (plan : Plan) (text : List ℕ) (past : List Entry) (id : ℕ) (row : Row) (e : Bool) → IsRow text row (kept plan past id) →
    e ≡ is_empty (trail_of row.trail) →
    not e ≡ has_crossed past id
crossed_by_row plan text past id row e is empty = ap not (empty ∙ ap is_empty is.trail ∙ empty_by_two (trail past id))

pub left_behind_by_row : (plan : Plan) (text : List ℕ) (past : List Entry) (id : ℕ) (row : Row) (host : HostNo) (e : Bool) (m : ℕ) →
    IsRow text row (kept plan past id) →
    row.sender ≡ Some host → e ≡ is_empty (trail_of row.trail) → m ≡ moved_at past host.0 → (e && nat_lt row.sent m) ≡ is_left_behind past id (sender past id)
left_behind_by_row plan text past id row host e m is from empty moved =
    ap₂ (λ a b. a && b) (empty ∙ ap is_empty is.trail ∙ empty_by_two (trail past id))
    (ap₂ (λ a b. nat_lt a b) is.sent moved ∙ sym (moved_by_numbers past id host.0))
    ∙ ap (is_left_behind past id) (ap (option_map (λ (h : HostNo). h.0)) (sym from) ∙ is.sender)

-- one and no more, of the last two
pub single_by_two : (xs : List ℕ) (b : Bool) → b ≡ is_single (take 2 xs) → IsTrue b ↔ (length xs ≡ 1)
single_by_two [] b is = (λ t. absurd (both_ways b is t), λ e. absurd (omega (arith, e)))
single_by_two (x ∷ []) b is = (λ t. refl, λ e. is)
single_by_two (x ∷ y ∷ xs) b is = (λ t. absurd (both_ways b is t), λ e. absurd (omega (arith, e)))

pub one_by_row : (plan : Plan) (text : List ℕ) (past : List Entry) (id : ℕ) (row : Row) (b : Bool) → IsRow text row (kept plan past id) →
    b ≡ is_single (trail_of row.trail) → IsTrue b ↔ (length (trail past id) ≡ 1)
one_by_row plan text past id row b is one = single_by_two (trail past id) b (one ∙ ap is_single is.trail)

-- a frame that ends
module _ (plan : Plan) (text : List ℕ) (past : List Entry) (rows : List Row) (id : ℕ) (row : Row) (keeps : KeepsFrames plan text past rows) (least : 1 ≤ id)
    (most : id ≤ length rows)
    (is : IsRow text row (ending (kept plan past id))) where
  others_are : (other : ℕ) → other ≢ id → (id == other) ≡ false
  others_are other apart = ne_eqb id other (λ e. apart (sym e))

  pub taken_frames : (s : SwitchNo) → KeepsFrames plan text (Taken id s ∷ past) (set rows (id - 1) row)
  taken_frames s = one_row plan text past (Taken id s) rows id row keeps refl least most (subst (IsRow text row) (sym (when_it_is_taken plan past id s)) is)
      others_are

  pub dropped_frames : (cause : Cause) → KeepsFrames plan text (Dropped id cause ∷ past) (set rows (id - 1) row)
  dropped_frames cause = one_row plan text past (Dropped id cause) rows id row keeps refl least most
      (subst (IsRow text row) (sym (when_it_is_dropped plan past id cause)) is) others_are

  pub arrived_frames : (host : HostNo) (frame : List ℕ) → KeepsFrames plan text (Arrived id host frame ∷ past) (set rows (id - 1) row)
  arrived_frames host frame = one_row plan text past (Arrived id host frame) rows id row keeps refl least most
      (subst (IsRow text row) (sym (when_it_arrives plan past id host frame)) is) others_are

-- the causes, by the row and the tables
pub gone_by_row : (plan : Plan) (text : List ℕ) (past : List Entry) (id : ℕ) (row : Row) (live : Bool) → IsRow text row (kept plan past id) →
    live ≡ is_live past row.address →
    IsTrue (not live) ↔ IsFalse (is_live past (address past id))
gone_by_row plan text past id row live is at =
    let same : live ≡ is_live past (address past id) = at ∙ ap (is_live past) is.address in
    (λ t. sym same ∙ not-true live t, λ none. ap not (same ∙ none))

pub touched_none : (plan : Plan) (text : List ℕ) (past : List Entry) (id : ℕ) (row : Row) (last : Option SwitchNo) → IsRow text row (kept plan past id) →
    option_map (λ (s : SwitchNo). s.0) last ≡ first_of (trail_of row.trail) → option_map (λ (s : SwitchNo). s.0) last ≡ first_of (trail past id)
touched_none plan text past id row last is at = at ∙ ap first_of is.trail ∙ first_by_two (trail past id)
  where
    first_by_two : (xs : List ℕ) → first_of (take 2 xs) ≡ first_of xs
    first_by_two [] = refl
    first_by_two (x ∷ xs) = refl

pub shows_by : (P Q : Bool) → P ≡ Q → IsTrue P ↔ IsTrue Q
shows_by P Q same = (λ t. sym same ∙ t, λ t. same ∙ t)

pub bad_arp_by_row : (plan : Plan) (text : List ℕ) (past : List Entry) (id : ℕ) (row : Row) (one : Bool) → IsRow text row (kept plan past id) →
    one ≡ is_single (trail_of row.trail) → one ≡ true → IsTrue row.carried.bad_arp ↔ CauseShows plan past id BadArp
bad_arp_by_row plan text past id row one is crossed t =
    let just = one_by_row plan text past id row one is crossed in
    (λ b. (just.0 t, sym is.carried.bad_arp ∙ b), λ shows. is.carried.bad_arp ∙ shows.1)

pub not_one_by_row : (plan : Plan) (text : List ℕ) (past : List Entry) (id : ℕ) (row : Row) (one : Bool) → IsRow text row (kept plan past id) →
    one ≡ is_single (trail_of row.trail) → one ≡ false → IsTrue false ↔ CauseShows plan past id BadArp
not_one_by_row plan text past id row one is crossed none =
    let just = one_by_row plan text past id row one is crossed in
    (λ t. absurd (false≢true t), λ shows. absurd (both_ways one none (just.1 shows.0)))

pub group_is_gone : (plan : Plan) (past : List Entry) (id : ℕ) → goes_to_group past id ≡ true → IsTrue true ↔ CauseShows plan past id HostGone
group_is_gone plan past id group = (λ _. inl group, λ _. refl)

pub host_has_left : (plan : Plan) (past : List Entry) (id : ℕ) (b : Bool) → b ≡ has_left plan past (addressee past id) (edge_port past (address past id)) →
    b ≡ true →
    IsTrue true ↔ CauseShows plan past id HostGone
host_has_left plan past id b is t = (λ _. inr (inl (sym is ∙ t)), λ _. refl)

pub sender_has_left : (plan : Plan) (past : List Entry) (id : ℕ) (left b : Bool) → goes_to_group past id ≡ false →
    left ≡ has_left plan past (addressee past id) (edge_port past (address past id)) → left ≡ false → b ≡ is_left_behind past id (sender past id) →
    IsTrue b ↔ CauseShows plan past id HostGone
sender_has_left plan past id left b alone is stays behind = (
  λ t. inr (inr (sym behind ∙ t)),
  λ shows. elim shows [
    | inl group ↦ absurd (both_ways (goes_to_group past id) alone group)
    | inr rest ↦ elim rest [
      | inl gone ↦ absurd (both_ways left stays (is ∙ gone))
      | inr behind_it ↦ behind ∙ behind_it
    ]
  ],
)
