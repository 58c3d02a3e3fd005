-- An edge switch gets its place: once it is placed it keeps it, and it grants addresses to the sources that it remembers.
use Rattle.std.proofs.Common.{◌≡◌, ◌&&◌, not, ℕ, Bool, true, false, if◌then◌else◌, get_or, List, [], ◌++◌, length, Option, None, refl, sym, ap, subst, ◌∙◌, inl, inr, arith, append_assoc}
use Rattle.std.proofs.lemmas.Bool.{and_parts, cases_Bool}
use Rattle.std.proofs.lemmas.Option.{none-some}
use Rattle.pl_frame.specs.declared.address.Ip4.{Ip4}
use Rattle.pl_frame.specs.declared.address.Mac.{Mac}
use Rattle.pl_frame.specs.declared.address.SwitchId.{SwitchId}
use Rattle.pl_pmac.specs.declared.pmac.Pmac.{Pmac}
use Rattle.pl_layouts.specs.declared.place.Place.{Place}
use Rattle.pl_layouts.specs.Placement.{is_known, is_placed}
use Rattle.pl_node.specs.declared.messages.ToManager.{ToManager}
use Rattle.pl_node.specs.declared.messages.ToSwitch.{ToSwitch}
use Rattle.pl_node.specs.declared.switch_records.Grant.{Grant}
use Rattle.pl_node.specs.declared.switch_records.Source.{Source}
use Rattle.pl_node.specs.PortRecords.{ports_of_switch}
use Rattle.pl_node.specs.SwitchViews.{SwitchView}
use Rattle.pl_steps.specs.Steps.{SwitchStep, does, rests, ◌▹◌}
use Rattle.pl_switch_rule.specs.Granting.{freed_at, granted, grants_at, grants_remembered, is_local}
use Rattle.pl_switch_rule.specs.Levels.{changes_to, has_become_placed, settles_in}
use Rattle.pl_switch_rule.specs.Telling.{changes_told}
use Rattle.pl_switch_rule.proofs.Exports.{all_range, none_granted}
use Rattle.pl_law_addresses.specs.FreeVmids.{AreFreeVmids}
use Rattle.pl_law_addresses.specs.EdgeAddresses.{KeepsHolders, edge_of, is_settled}
use Rattle.pl_law_addresses.proofs.Exports.{aside_does, changes_silent, has_place, IsPlacing, LeavesAddresses, told_append, told_by}
use Rattle.pl_law_epochs.specs.Edges.{Registry}
use Rattle.pl_law_epochs.proofs.Changing.{orders_kept, words_kept}
use Rattle.pl_law_epochs.proofs.Granting.{keeps_grants_remembered}
use Rattle.pl_law_epochs.proofs.Moves.{Moves, moves_same, moves_then}
use Rattle.pl_law_epochs.proofs.Rows.{Good, Keeps, aside_keeps, keeps_either, keeps_then, rests_keeps, same_good}
use Rattle.pl_law_epochs.proofs.Staying.{KnowsNothing, ungranted_situation}

-- of the addresses of a place that is new nothing is known
abbrev pub IsUnknown : Registry → SwitchView → Place → Type 0
IsUnknown r v place = is_settled v.place ≡ false → (x : Pmac) → has_place place x ≡ true → KnowsNothing r x

module _ (own : Mac → Option Ip4) (r : Registry) (id : Option SwitchId) (down : List ToSwitch) where
  new_place : (v w : SwitchView) (up : List ToManager) → IsPlacing v w → is_settled v.place ≡ false → ((x : Pmac) → is_local w x ≡ true → KnowsNothing r x) →
      Good own r id down v up → Good own r id down w up
  new_place v w up p unsettled unknown good =
      let empty : (port : ℕ) → grants_at w port ≡ [] = λ port. ap (λ (gs : List (List Grant)). get_or gs port []) p.grants ∙ good.address_table.empty unsettled port in
      let none : (x : Pmac) → granted w x ≡ None = λ x. none_granted w x (empty x.port) in
      let was_none : (x : Pmac) → granted v x ≡ None = λ x. none_granted v x (good.address_table.empty unsettled x.port) in
      let keeps : KeepsHolders (λ x. granted v x) (λ x. granted w x) = λ x mac is. absurd (none-some is.grant (sym (was_none x) ∙ is.found)) in
      let words = words_kept own (λ x. granted v x) (λ x. granted w x) keeps up good.edge.words in
      let orders = orders_kept own (λ x. granted v x) (λ x. granted w x) keeps down good.edge.orders in
      record {
        edge = record {
          placed = λ x g is. absurd (none-some g (sym (none x) ∙ is));
          grants = λ x g is. absurd (none-some g (sym (none x) ∙ is));
          situations = λ x at. ungranted_situation own r (edge_of id w up down) x (none x) words orders (unknown x at) good.edge.unheard;
          words = words;
          orders = orders;
          unheard = good.edge.unheard;
          tellers = λ x known is at. absurd (none-some known (sym (unknown x at).known ∙ is));
          here = λ x reg is at. absurd (none-some reg (sym (unknown x at).at ∙ is));
        };
        address_table = record {
          many = ap (λ (gs : List (List Grant)). length gs) p.grants ∙ good.address_table.many ∙ sym p.k;
          many_freed = ap (λ (fs : List (List ℕ)). length fs) p.freed ∙ good.address_table.many_freed ∙ sym p.k;
          empty = λ h port. empty port;
          free = λ port.
              subst (λ (fs : List ℕ). AreFreeVmids (grants_at w port) fs) (ap (λ (fs : List (List ℕ)). get_or fs port []) (sym p.freed))
              (subst (λ (gs : List Grant). AreFreeVmids gs (freed_at v port)) (ap (λ (gs : List (List Grant)). get_or gs port []) (sym p.grants)) (good.address_table.free port));
          sources = λ port source is. good.address_table.sources port source (ap (λ (ss : List (Option Source)). get_or ss port None) (sym p.remembered) ∙ is);
        };
      }

  placed_good : (v w : SwitchView) (up : List ToManager) → IsPlacing v w → IsUnknown r v w.place → Good own r id down v up → Good own r id down w up
  placed_good v w up p unknown good = elim (cases_Bool (is_settled v.place)) [
    | inl settled ↦ same_good own r id down v w up (p.place settled) p.k p.grants p.freed p.remembered good
    | inr unsettled ↦ new_place v w up p unsettled (λ x at. unknown unsettled x at) good
  ]

  -- no address is anybody's before it is placed
  placed_moves : (v w : SwitchView) (up : List ToManager) → IsPlacing v w → Good own r id down v up → Moves (λ x. granted v x) (λ x. granted w x)
  placed_moves v w up p good = elim (cases_Bool (is_settled v.place)) [
    | inl settled ↦ moves_same v w (p.place settled) p.grants
    | inr unsettled ↦
        let was_none : (x : Pmac) → granted v x ≡ None = λ x. none_granted v x (good.address_table.empty unsettled x.port) in
        let none : (x : Pmac) → granted w x ≡ None =
        λ x. none_granted w x (ap (λ (gs : List (List Grant)). get_or gs x.port []) p.grants ∙ good.address_table.empty unsettled x.port) in
        record {
          holders = λ x mac is. absurd (none-some is.grant (sym (was_none x) ∙ is.found));
          stood = λ x h trap found set. absurd (none-some h (sym (none x) ∙ found));
        }
  ]

  -- what comes of it
  keeps_settling : (old : Place) (w : SwitchView) → Keeps own r id down w (settles_in old w)
  keeps_settling old w =
      keeps_either own r id down w (has_become_placed old w.place) (grants_remembered (ports_of_switch w.k) w) (rests w)
      (λ now. let parts = and_parts (is_known w.place.level 0 && is_placed w.place) (not (is_placed old)) now in
      keeps_grants_remembered own r id down (ports_of_switch w.k) w parts.0 (all_range w.k 0 w.k (omega arith)))
      (λ other. rests_keeps own r id down w)

  pub keeps_changes : (v w : SwitchView) → Keeps own r id down w (changes_to v w)
  keeps_changes v w =
      keeps_then own r id down w (does w (changes_told v w)) (settles_in v.place)
      (aside_keeps own r id down w (does w (changes_told v w)) (aside_does w (changes_told v w) (changes_silent v w))) (keeps_settling v.place w)

  -- a step in which the switch may get its place
  pub record Steps (v : SwitchView) (s : SwitchStep) : Type 0 where
    pub good : IsUnknown r v s.view.place → (up : List ToManager) → Good own r id down v up → Good own r id down s.view (up ++ told_by s.acts)
    pub place : is_settled v.place ≡ true → s.view.place ≡ v.place
    pub k : s.view.k ≡ v.k
    pub moves : IsUnknown r v s.view.place → (up : List ToManager) → Good own r id down v up → Moves (λ x. granted v x) (λ x. granted s.view x)

  pub keeps_steps : (v : SwitchView) (s : SwitchStep) → Keeps own r id down v s → Steps v s
  keeps_steps v s a = record { good = λ unknown up good. a.good up good; place = λ settled. a.place; k = a.k; moves = λ unknown up good. a.moves up good }

  pub aside_steps : (v : SwitchView) (s : SwitchStep) → LeavesAddresses v s → Steps v s
  aside_steps v s a = keeps_steps v s (aside_keeps own r id down v s a)

  pub steps_either : (v : SwitchView) (test : Bool) (s t : SwitchStep) → (test ≡ true → Steps v s) → (test ≡ false → Steps v t) → Steps v (if test then s else t)
  steps_either v true s t a b = a refl
  steps_either v false s t a b = b refl

  pub steps_changes : (v w : SwitchView) → IsPlacing v w → Steps v (changes_to v w)
  steps_changes v w p = let a = keeps_changes v w in record {
    good = λ unknown up good. a.good up (placed_good v w up p (λ unsettled x at. unknown unsettled x (ap (λ (q : Place). has_place q x) a.place ∙ at)) good);
    place = λ settled. a.place ∙ p.place settled;
    k = a.k ∙ p.k;
    moves = λ unknown up good.
        moves_then (λ x. granted v x) (λ x. granted w x) (λ x. granted (changes_to v w).view x) (placed_moves v w up p good)
        (a.moves up (placed_good v w up p (λ unsettled x at. unknown unsettled x (ap (λ (q : Place). has_place q x) a.place ∙ at)) good));
  }

  pub steps_then : (v : SwitchView) (s : SwitchStep) (next : SwitchView → SwitchStep) → Steps v s → Keeps own r id down s.view (next s.view) → Steps v (s ▹ next)
  steps_then v s next a b = record {
    good = λ unknown up good. subst (λ (ts : List ToManager). Good own r id down (next s.view).view ts)
        (append_assoc up (told_by s.acts) (told_by (next s.view).acts) ∙ ap (λ ts. up ++ ts) (sym (told_append s.acts (next s.view).acts)))
        (b.good (up ++ told_by s.acts)
        (a.good (λ unsettled x at. unknown unsettled x (ap (λ (q : Place). has_place q x) b.place ∙ at)) up good));
    place = λ settled. b.place ∙ a.place settled;
    k = b.k ∙ a.k;
    moves = λ unknown up good.
        let before : IsUnknown r v s.view.place = λ unsettled x at. unknown unsettled x (ap (λ (q : Place). has_place q x) b.place ∙ at) in
        moves_then (λ x. granted v x) (λ x. granted s.view x) (λ x. granted (next s.view).view x) (a.moves before up good) (b.moves (up ++ told_by s.acts) (a.good before up good));
  }
