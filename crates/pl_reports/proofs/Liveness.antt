-- Which neighbours are over links that are alive, and what one more word leaves of them.
use Rattle.std.proofs.Common.{◌≡◌, ◌&&◌, Bool, true, false, cond, List, Option, Some, refl, sym, ap, ◌∙◌, subst}
use Rattle.std.specs.Prelude.{unwrap_or}
use Rattle.std.specs.List.{filter, list_any}
use Rattle.std.specs.Ordering.{is_eq}
use Rattle.std.specs.Cmp.{Equal-is}
use Rattle.std.specs.BTreeMap.{insert_entry, is_at}
use Rattle.std.proofs.lemmas.Bool.{and_parts, false≢true}
use Rattle.pl_frame.specs.declared.address.SwitchId.{SwitchId}
use Rattle.pl_node.specs.ManagerViews.{Told, alive_neighbours, id_cmp, is_alive, is_told_usable, link_cmp, neighbours, value_at}
use Rattle.pl_node.proofs.Exports.{among_filter, among_filtered, any_among}
use Rattle.pl_manager_rule.specs.ManagerRule.{with_link}
use Rattle.pl_manager_rule.proofs.Exports.{id_among, id_itself, link_exact, near_usable, value_after}
use Rattle.pl_reports.specs.Kept.{usable_in}
use Rattle.pl_reports.proofs.Telling.{IsPair, link_total, other_neighbours}

pub not_here : (s t : SwitchId) → is_at (id_cmp s) t ≡ false → s ≡ t → ⊥
not_here s t e is = false≢true (sym e ∙ subst (λ z. is_at (id_cmp s) z ≡ true) is (id_itself s))

-- so a link is alive where an end is among those of the other
pub any_alive : (told : Told) (a b : SwitchId) → list_any (is_at (id_cmp b)) (alive_neighbours told a) ≡ is_alive told a b
any_alive told a b = by (is_alive told a b) refl
  where
    none : is_alive told a b ≡ false → (v : Bool) → list_any (is_at (id_cmp b)) (alive_neighbours told a) ≡ v → v ≡ false
    none e false k = refl
    none e true k = sym (among_filter (is_alive told a) b (neighbours told a) (id_among b (alive_neighbours told a) k)).1 ∙ e

    by : (v : Bool) → is_alive told a b ≡ v → list_any (is_at (id_cmp b)) (alive_neighbours told a) ≡ v
    by true e =
        any_among (is_at (id_cmp b)) b (alive_neighbours told a)
        (among_filtered (is_alive told a) b (neighbours told a)
        (near_usable told a b (and_parts (is_told_usable told a b) (is_told_usable told b a) e).0) e) (id_itself b)
    by false e = none e (list_any (is_at (id_cmp b)) (alive_neighbours told a)) refl

-- ---- one more word on a link
module _ (told : Told) (s u : SwitchId) (usable : Bool) where
  abbrev after : List ((SwitchId × SwitchId) × Bool)
  after = insert_entry link_cmp told.links (s, u) usable

  usable_elsewhere : (x y : SwitchId) → ((x ≡ s) × (y ≡ u) → ⊥) → usable_in after x y ≡ usable_in told.links x y
  usable_elsewhere x y apart =
      ap (λ (o : Option Bool). unwrap_or o false)
      (value_after link_cmp link_total link_exact told.links (s, u) (x, y) usable ∙ by (is_eq (link_cmp (x, y) (s, u))) refl)
    where
      by : (b : Bool) → is_eq (link_cmp (x, y) (s, u)) ≡ b → cond b (Some usable) (value_at link_cmp told.links (x, y)) ≡ value_at link_cmp told.links (x, y)
      by false e = refl
      by true e =
          let is : IsPair x y s u = link_exact (x, y) (s, u) ((Equal-is (link_cmp (x, y) (s, u))).0 e) in
          absurd (apart (ap (λ (l : SwitchId × SwitchId). l.0) is, ap (λ (l : SwitchId × SwitchId). l.1) is))

  pub alive_elsewhere : (t : SwitchId) → (s ≡ t → ⊥) → (u ≡ t → ⊥) → alive_neighbours told t ≡ alive_neighbours (with_link told s u usable) t
  alive_elsewhere t own other = λ i.
      filter (λ y. (sym (usable_elsewhere t y (λ p. own (sym p.0))) i) && (sym (usable_elsewhere y t (λ p. other (sym p.1))) i))
      (sym (other_neighbours told s u usable t own) i)
