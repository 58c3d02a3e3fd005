-- A word changes the rows of some switches, and of those that have links that are alive to switches whose rows it changed.
use Rattle.std.proofs.Common.{◌≡◌, ◌&&◌, ℕ, Bool, true, false, cond, List, [], ◌∷◌, map, refl, sym, ap, ◌∙◌, inl, inr}
use Rattle.std.specs.Prelude.{fold}
use Rattle.std.specs.List.{list_any}
use Rattle.std.specs.BTreeMap.{is_at}
use Rattle.std.proofs.lemmas.Bool.{false_from_ne_true, false≢true}
use Rattle.pl_lemmas.proofs.Exports.{and_turned, false_before}
use Rattle.pl_bits.specs.Rows.{either_row}
use Rattle.pl_bits.proofs.Exports.{either_of}
use Rattle.pl_frame.specs.declared.address.SwitchId.{SwitchId}
use Rattle.pl_layouts.specs.Placement.{is_known}
use Rattle.pl_node.specs.ManagerViews.{Told, alive_neighbours, has_level, id_cmp, is_alive, is_told_usable, neighbours, place_of}
use Rattle.pl_node.proofs.Exports.{among_filter, IsAmong}
use Rattle.pl_reports.proofs.Exports.{any_alive}
use Rattle.pl_faults.specs.declared.edges.Edge.{Edge}
use Rattle.pl_faults.specs.declared.reach.Reach.{Reach}
use Rattle.pl_faults.specs.Kept.{IsWordWithin}
use Rattle.pl_faults.specs.Listed.{is_in, with_all, with_beside}
use Rattle.pl_faults.specs.Rows.{AreLevelRows, AreRowsRenewed, IsReach, IsReachRenewed, RowOfSwitch, Rows, leads_by, leads_down, row_at_level, row_in, row_of}
use Rattle.pl_faults.proofs.Anew.{among_told}
use Rattle.pl_faults.proofs.Gathered.{in_all_before, in_all_new, in_beside, in_beside_before}
use Rattle.pl_faults.proofs.Reaching.{rows_near}

-- ---- beside
pub beside_turned : (told : Told) (t x : SwitchId) → IsAmong x (alive_neighbours told t) → is_in (alive_neighbours told x) t ≡ true
beside_turned told t x near =
    any_alive told x t ∙ and_turned (is_told_usable told x t) (is_told_usable told t x)
    ∙ (among_filter (is_alive told t) x (neighbours told t) near).1

-- one that is not beside a switch does not have it beside itself
beside_out : (told : Told) (ends xs : List SwitchId) (t : SwitchId) → is_in (fold (with_beside told) ends xs) t ≡ false →
    (x : SwitchId) → IsAmong x (alive_neighbours told t) → is_in xs x ≡ false
beside_out told ends xs t out x near =
    false_from_ne_true (is_in xs x) (λ there. false≢true (sym out ∙ in_beside told t x xs ends there (beside_turned told t x near)))

ends_before : (told : Told) (ends xs : List SwitchId) (t : SwitchId) → is_in (fold (with_beside told) ends xs) t ≡ false → is_in ends t ≡ false
ends_before told ends xs t out = false_before (is_in ends t) (is_in (fold (with_beside told) ends xs) t) (in_beside_before told t xs ends) out

-- ---- rows of switches whose neighbours have the rows that they had
module _ (edges : List Edge) (level leveled : SwitchId → Bool) (f g : RowOfSwitch) where
  one_alike : (x : SwitchId) (b : Bool) → (b ≡ true → row_of f edges x ≡ row_of g edges x) → map (λ e. b && f e x) edges ≡ map (λ e. b && g e x) edges
  one_alike x true h = h refl
  one_alike x false h = refl

  rows_alike : (xs : List SwitchId) → ((x : SwitchId) → IsAmong x xs → level x ≡ leveled x) →
      ((x : SwitchId) → IsAmong x xs → leveled x ≡ true → row_of f edges x ≡ row_of g edges x) →
      map (λ e. list_any (λ x. level x && f e x) xs) edges ≡ map (λ e. list_any (λ x. leveled x && g e x) xs) edges
  rows_alike [] same h = refl
  rows_alike (x ∷ xs) same h =
      let one = ap (λ b. map (λ e. b && f e x) edges) (same x (inl refl)) ∙ one_alike x (leveled x) (h x (inl refl)) in
      let rest = rows_alike xs (λ z j. same z (inr j)) (λ z j. h z (inr j)) in
      sym (either_of (λ e. level x && f e x) (λ e. list_any (λ z. level z && f e z) xs) edges)
      ∙ (λ i. either_row (one i) (rest i))
      ∙ either_of (λ e. leveled x && g e x) (λ e. list_any (λ z. leveled z && g e z) xs) edges

-- ---- a word that leaves all but its ends
module _ (ends : List SwitchId) (told after : Told) (w : IsWordWithin ends alive_neighbours told after) (edges : List Edge) where
  abbrev Apart : SwitchId → Type 0
  Apart t = is_in ends t ≡ false

  alive_same : (t y : SwitchId) → Apart t → is_alive told t y ≡ is_alive after t y
  alive_same t y away =
      sym (any_alive told t y) ∙ ap (list_any (is_at (id_cmp y))) (sym (w.near t away)) ∙ any_alive after t y

  down_same : (t : SwitchId) → Apart t → row_at_level told 1 (leads_down told) edges t ≡ row_at_level after 1 (leads_down after) edges t
  down_same t away = λ i.
      cond (is_known (sym (w.place t away) i).level 1) (map (λ (e : Edge). is_known (sym (w.place t away) i).pod e.pod && alive_same t e.switch away i) edges) []

  level_same : (x : SwitchId) (level : ℕ) → place_of after x ≡ place_of told x → has_level told x level ≡ has_level after x level
  level_same x level at = ap (λ p. is_known p.level level) (sym at)

  module _ (level : ℕ) (f g : RowOfSwitch) (changed : List SwitchId)
      (same : (x : SwitchId) → is_in changed x ≡ false → row_at_level told level f edges x ≡ row_at_level after level g edges x) where
    row_same : (x : SwitchId) → place_of after x ≡ place_of told x → has_level after x level ≡ true → is_in changed x ≡ false →
        row_of f edges x ≡ row_of g edges x
    row_same x at leveled out =
        ap (λ b. cond b (row_of f edges x) []) (sym (level_same x level at ∙ leveled)) ∙ same x out ∙ ap (λ b. cond b (row_of g edges x) []) leveled

    by_same : (own : ℕ) (t : SwitchId) → Apart t → ((x : SwitchId) → IsAmong x (alive_neighbours after t) → is_in changed x ≡ false) →
        row_at_level told own (leads_by told level f) edges t ≡ row_at_level after own (leads_by after level g) edges t
    by_same own t away out =
        let at : (x : SwitchId) → IsAmong x (alive_neighbours after t) → place_of after x ≡ place_of told x =
        λ x near. w.beside t x away (among_told x (alive_neighbours after t) near) in
        (λ i. cond (level_same t own (w.place t away) i)
        (map (λ e. list_any (λ x. has_level told x level && f e x) (sym (w.near t away) i)) edges) [])
        ∙ ap (λ row. cond (has_level after t own) row [])
        (rows_alike edges (λ x. has_level told x level) (λ x. has_level after x level) f g (alive_neighbours after t)
        (λ x near. level_same x level (at x near)) (λ x near leveled. row_same x (at x near) leveled (out x near)))

  -- what was the same in the table was the same
  table_same : (level : ℕ) (f g : RowOfSwitch) (old new : Rows) (changed : List SwitchId) → AreLevelRows told level edges f old → AreLevelRows after level edges g new →
      ((t : SwitchId) → is_in changed t ≡ false → row_in new t ≡ row_in old t) →
      (x : SwitchId) → is_in changed x ≡ false → row_at_level told level f edges x ≡ row_at_level after level g edges x
  table_same level f g old new changed was is same x out = sym (was.all x) ∙ sym (same x out) ∙ is.all x

  abbrev down_row : SwitchId → List Bool
  down_row = row_at_level after 1 (leads_down after) edges

  abbrev row_by : ℕ → ℕ → RowOfSwitch → SwitchId → List Bool
  row_by own level f = row_at_level after own (leads_by after level f) edges

  pub reach_renewed : (old new : Reach) (low cores asked above asked_above turned : List SwitchId) → IsReach told edges old →
      AreRowsRenewed down_row ends old.down.entries new.down.entries low →
      asked ≡ fold (with_beside after) ends low →
      ((f : RowOfSwitch) → AreLevelRows after 1 edges f new.down.entries → AreRowsRenewed (row_by 2 1 f) asked old.core.entries new.core.entries cores) →
      asked_above ≡ fold (with_beside after) ends cores →
      ((f : RowOfSwitch) → AreLevelRows after 2 edges f new.core.entries → AreRowsRenewed (row_by 1 2 f) asked_above old.up.entries new.up.entries above) →
      turned ≡ with_all (with_all low cores) above → IsReachRenewed after edges old new turned
  reach_renewed old new low cores asked above asked_above turned reach d asked_is c above_is a turned_are =
      let down_leads : RowOfSwitch = leads_down after in
      let core_leads : RowOfSwitch = leads_by after 1 down_leads in
      let was_core : RowOfSwitch = leads_by told 1 (leads_down told) in
      let down : AreLevelRows after 1 edges down_leads new.down.entries =
      rows_near told after 1 edges (leads_down told) down_leads ends old.down.entries new.down.entries low reach.by_link d
      down_same in
      let cs : AreRowsRenewed (row_by 2 1 down_leads) asked old.core.entries new.core.entries cores = c down_leads down in
      let core : AreLevelRows after 2 edges core_leads new.core.entries =
      rows_near told after 2 edges was_core core_leads asked old.core.entries new.core.entries cores reach.by_core cs
      (λ t out.
      let away : is_in (fold (with_beside after) ends low) t ≡ false = ap (λ xs. is_in xs t) (sym asked_is) ∙ out in
      by_same 1 (leads_down told) down_leads low
      (table_same 1 (leads_down told) down_leads old.down.entries new.down.entries low reach.by_link down d.same) 2 t
      (ends_before after ends low t away) (beside_out after ends low t away)) in
      let tops : AreRowsRenewed (row_by 1 2 core_leads) asked_above old.up.entries new.up.entries above = a core_leads core in
      let up : AreLevelRows after 1 edges (leads_by after 2 core_leads) new.up.entries =
      rows_near told after 1 edges (leads_by told 2 was_core) (leads_by after 2 core_leads) asked_above old.up.entries new.up.entries above reach.by_two tops
      (λ t out.
      let away : is_in (fold (with_beside after) ends cores) t ≡ false = ap (λ xs. is_in xs t) (sym above_is) ∙ out in
      by_same 2 was_core core_leads cores
      (table_same 2 was_core core_leads old.core.entries new.core.entries cores reach.by_core core cs.same) 1 t
      (ends_before after ends cores t away) (beside_out after ends cores t away)) in
      record {
        reach = record { by_link = down; by_core = core; by_two = up };
        same = λ t out.
            let all : is_in (with_all (with_all low cores) above) t ≡ false = ap (λ xs. is_in xs t) (sym turned_are) ∙ out in
            let two : is_in (with_all low cores) t ≡ false =
            false_before (is_in (with_all low cores) t) (is_in (with_all (with_all low cores) above) t) (in_all_before t (with_all low cores) above) all in
            record {
              down = d.same t (false_before (is_in low t) (is_in (with_all low cores) t) (in_all_before t low cores) two);
              core = cs.same t (false_before (is_in cores t) (is_in (with_all low cores) t) (in_all_new t low cores) two);
              up = tops.same t (false_before (is_in above t) (is_in (with_all (with_all low cores) above) t) (in_all_new t (with_all low cores) above) all);
            };
      }
