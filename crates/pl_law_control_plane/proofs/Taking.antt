-- Items that leave queues.
use Rattle.std.proofs.Common.{◌≡◌, ℕ, ◌*◌, ◌<◌, true, List, [], ◌∷◌, ◌++◌, length, get_or, set, refl, sym, ap, ◌∙◌, subst, inl, inr, append_assoc, get_or-set_same, get_or-set_other}
use Rattle.std.proofs.lemmas.Bool.{cases_eq, or_right}
use Rattle.pl_wiring.specs.Index.{port_index}
use Rattle.pl_wiring.specs.Labels.{switch_count}
use Rattle.pl_wiring.proofs.Exports.{entry_at-in_range, same_port}
use Rattle.pl_node.specs.declared.messages.ToManager.{ToManager}
use Rattle.pl_node.specs.declared.messages.ToSwitch.{ToSwitch}
use Rattle.pl_queues.specs.Queues.{items_at}
use Rattle.pl_world.specs.declared.item.Item.{Item}
use Rattle.pl_world.specs.Changes.{out_of}
use Rattle.pl_world.specs.Worlds.{WorldView}
use Rattle.pl_world.proofs.Exports.{within_queue}
use Rattle.pl_law_control_plane.specs.ControlPlanes.{ControlPlane, control_plane, has_data, is_data_item, queue_out, said, said_by}
use Rattle.pl_law_control_plane.specs.PlaneSteps.{IsLeft, IsOrderTaken, IsReportTaken, MessageIsTaken, LeftOver}
use Rattle.pl_law_control_plane.proofs.PlaneQueues.{said_append, set_elsewhere, set_here}

pub all_left : {T : Type 0} (items : List T) → LeftOver {T = T} items items
all_left items = record { gone = []; split = refl }

pub left_same : {T : Type 0} (before after : List T) → after ≡ before → LeftOver {T = T} before after
left_same before after same = record { gone = []; split = sym same }

pub left_more : {T : Type 0} (a b c : List T) → LeftOver {T = T} a b → LeftOver b c → LeftOver a c
left_more a b c first next = record {
  gone = first.gone ++ next.gone;
  split = first.split ∙ ap (λ x. first.gone ++ x) next.split ∙ sym (append_assoc first.gone next.gone c);
}

-- nothing happened
pub nothing_left : (f : ControlPlane) → IsLeft f f
nothing_left f = record {
  plan = refl;
  view = λ s. refl;
  says = λ s port. all_left (f.says s port);
  carries = λ s port h. h;
  reports = λ s. all_left (f.reports s);
  orders = λ s. all_left (f.orders s);
  manager = refl;
}

pub left_then : (f g h : ControlPlane) → IsLeft f g → IsLeft g h → IsLeft f h
left_then f g h a b = record {
  plan = b.plan ∙ a.plan;
  view = λ s. b.view s ∙ a.view s;
  says = λ s port. left_more (f.says s port) (g.says s port) (h.says s port) (a.says s port) (b.says s port);
  carries = λ s port e. a.carries s port (b.carries s port e);
  reports = λ s. left_more (f.reports s) (g.reports s) (h.reports s) (a.reports s) (b.reports s);
  orders = λ s. left_more (f.orders s) (g.orders s) (h.orders s) (a.orders s) (b.orders s);
  manager = b.manager ∙ a.manager;
}

-- what is behind the first items of a queue stays in it
module _ (w : WorldView) (s p : ℕ) (there : s < switch_count w.plan.k) (within : p < w.plan.k)
    (many : length w.out ≡ switch_count w.plan.k * w.plan.k) where
  at_new : (items : List Item) → queue_out w.plan.k (set w.out (port_index w.plan.k s p) items) s p ≡ items
  at_new items = set_here w.plan.k (switch_count w.plan.k) s p w.out there within many items

  elsewhere : (items : List Item) (t q : ℕ) → ((s ≡ t) × (p ≡ q) → ⊥) →
      queue_out w.plan.k (set w.out (port_index w.plan.k s p) items) t q ≡ queue_out w.plan.k w.out t q
  elsewhere items t q apart = set_elsewhere w.plan.k s p w.out within items t q apart

  at_old : out_of w s p ≡ queue_out w.plan.k w.out s p
  at_old = sym (entry_at-in_range [] w.plan.k w.out s p within)

  -- the queue out of a port becomes what is behind some of its items
  pub cut_out : (gone rest : List Item) → out_of w s p ≡ gone ++ rest →
      IsLeft (control_plane w) (control_plane (record w { out = set w.out (port_index w.plan.k s p) rest }))
  cut_out gone rest is = record {
    plan = refl;
    view = λ t. refl;
    says = λ t q. elim (same_port s p t q) [
      | inl same ↦ subst (λ (x : ℕ). LeftOver (said (queue_out w.plan.k w.out x q)) (said (queue_out w.plan.k (set w.out (port_index w.plan.k s p) rest) x q))) same.0
          (subst (λ (y : ℕ). LeftOver (said (queue_out w.plan.k w.out s y)) (said (queue_out w.plan.k (set w.out (port_index w.plan.k s p) rest) s y))) same.1 here)
      | inr apart ↦ left_same _ _ (ap said (elsewhere rest t q apart))
    ];
    carries = λ t q h. elim (same_port s p t q) [
      | inl same ↦ subst (λ (x : ℕ). has_data (queue_out w.plan.k (set w.out (port_index w.plan.k s p) rest) x q) ≡ true → has_data (queue_out w.plan.k w.out x q) ≡ true) same.0
          (subst (λ (y : ℕ). has_data (queue_out w.plan.k (set w.out (port_index w.plan.k s p) rest) s y) ≡ true → has_data (queue_out w.plan.k w.out s y) ≡ true) same.1 carried) h
      | inr apart ↦ sym (ap has_data (elsewhere rest t q apart)) ∙ h
    ];
    reports = λ t. all_left (items_at w.to_manager t);
    orders = λ t. all_left (items_at w.from_manager t);
    manager = refl;
  }
    where
      here : LeftOver (said (queue_out w.plan.k w.out s p)) (said (queue_out w.plan.k (set w.out (port_index w.plan.k s p) rest) s p))
      here = record {
        gone = said gone;
        split = ap said (sym at_old ∙ is) ∙ said_append gone rest ∙ ap (λ x. said gone ++ said x) (sym (at_new rest));
      }

      behind : (xs : List Item) → has_data rest ≡ true → has_data (xs ++ rest) ≡ true
      behind [] h = h
      behind (x ∷ xs) h = or_right (is_data_item x) (has_data (xs ++ rest)) (behind xs h)

      carried : has_data (queue_out w.plan.k (set w.out (port_index w.plan.k s p) rest) s p) ≡ true → has_data (queue_out w.plan.k w.out s p) ≡ true
      carried h = ap has_data (sym at_old ∙ is) ∙ behind gone (sym (ap has_data (at_new rest)) ∙ h)

  -- the first item is taken
  pub item_taken : (item : Item) (rest : List Item) → out_of w s p ≡ item ∷ rest →
      MessageIsTaken (control_plane w) s p (said_by item) (control_plane (record w { out = set w.out (port_index w.plan.k s p) rest }))
  item_taken item rest is = record {
    left = cut_out (item ∷ []) rest is;
    first_said = ap said (sym at_old ∙ is) ∙ ap (λ x. said_by item ++ said x) (sym (at_new rest));
    other_says = λ t q apart. ap said (elsewhere rest t q (λ e. apart (sym e.0, sym e.1)));
    reports = λ t. refl;
    orders = λ t. refl;
  }

  -- a data frame that is first waits there
  pub data_first : (item : Item) (rest : List Item) → is_data_item item ≡ true → out_of w s p ≡ item ∷ rest → (control_plane w).carries s p ≡ true
  data_first item rest kind is = ap has_data (sym at_old ∙ is) ∙ rw kind refl

-- the same of what waits between a switch and the manager
pub order_taken : (w : WorldView) (s : ℕ) (says : ToSwitch) (rest : List ToSwitch) → items_at w.from_manager s ≡ says ∷ rest →
    IsOrderTaken (control_plane w) s says (control_plane (record w { from_manager = set w.from_manager s rest }))
order_taken w s says rest is =
    let within : s < length w.from_manager = within_queue w.from_manager s says rest is in
    let here : get_or (set w.from_manager s rest) s [] ≡ rest = get_or-set_same w.from_manager s rest [] within in
    let first : get_or w.from_manager s [] ≡ says ∷ get_or (set w.from_manager s rest) s [] = is ∙ ap (λ x. says ∷ x) (sym here) in
    record {
      left = record {
        plan = refl;
        view = λ t. refl;
        says = λ t q. all_left _;
        carries = λ t q h. h;
        reports = λ t. all_left _;
        orders = λ t. elim (cases_eq s t) [
          | inl same ↦ subst (λ (x : ℕ). LeftOver (get_or w.from_manager x []) (get_or (set w.from_manager s rest) x [])) same
              (record { gone = says ∷ []; split = first })
          | inr differ ↦ left_same _ _ (get_or-set_other w.from_manager s t rest [] (λ e. differ (sym e)))
        ];
        manager = refl;
      };
      first = first;
      others = λ t differ. get_or-set_other w.from_manager s t rest [] differ;
      messages = λ t q. refl;
      reports = λ t. refl;
    }

pub report_taken : (w : WorldView) (s : ℕ) (told : ToManager) (rest : List ToManager) → items_at w.to_manager s ≡ told ∷ rest →
    IsReportTaken (control_plane w) s told (control_plane (record w { to_manager = set w.to_manager s rest }))
report_taken w s told rest is =
    let within : s < length w.to_manager = within_queue w.to_manager s told rest is in
    let here : get_or (set w.to_manager s rest) s [] ≡ rest = get_or-set_same w.to_manager s rest [] within in
    let first : get_or w.to_manager s [] ≡ told ∷ get_or (set w.to_manager s rest) s [] = is ∙ ap (λ x. told ∷ x) (sym here) in
    record {
      left = record {
        plan = refl;
        view = λ t. refl;
        says = λ t q. all_left _;
        carries = λ t q h. h;
        reports = λ t. elim (cases_eq s t) [
          | inl same ↦ subst (λ (x : ℕ). LeftOver (get_or w.to_manager x []) (get_or (set w.to_manager s rest) x [])) same
              (record { gone = told ∷ []; split = first })
          | inr differ ↦ left_same _ _ (get_or-set_other w.to_manager s t rest [] (λ e. differ (sym e)))
        ];
        orders = λ t. all_left _;
        manager = refl;
      };
      first = first;
      others = λ t differ. get_or-set_other w.to_manager s t rest [] differ;
      messages = λ t q. refl;
      orders = λ t. refl;
    }
