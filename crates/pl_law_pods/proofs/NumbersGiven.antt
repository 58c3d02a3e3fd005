-- What is so of each number that was given is so of one of them; and what is so of each place that was told is so once one more was told.
use Rattle.std.proofs.Common.{◌≡◌, ℕ, Bool, true, false, cond, List, [], ◌∷◌, Some, option_map, find, Ordering, Less, Equal, Greater, refl, subst}
use Rattle.std.specs.BTreeMap.{insert_entry}
use Rattle.std.specs.List.{AllByRecursion}
use Rattle.std.specs.Ordering.{match_ordering}
use Rattle.pl_frame.specs.declared.address.SwitchId.{SwitchId}
use Rattle.pl_layouts.specs.declared.place.Place.{Place}
use Rattle.pl_layouts.specs.Equality.{same_switch}
use Rattle.pl_node.specs.declared.pod_given.PodGiven.{PodGiven}
use Rattle.pl_node.specs.ManagerViews.{id_cmp}
use Rattle.pl_node.proofs.Exports.{id_exact}

pub found_is : (P : ℕ → Type 0) (gs : List PodGiven) (s : SwitchId) (n : ℕ) → AllByRecursion (λ g. P g.pod) gs →
    option_map (λ g. g.pod) (find (λ g. same_switch g.switch s) gs) ≡ Some n → P n
found_is P [] s n all found = absurd (cc found)
found_is P (g ∷ gs) s n all found = by (λ rest. found_is P gs s n all.1 rest) (same_switch g.switch s) found
  where
    by : (option_map (λ g. g.pod) (find (λ g. same_switch g.switch s) gs) ≡ Some n → P n) → (b : Bool) → option_map (λ g. g.pod) (cond b (Some g) (find (λ g. same_switch g.switch s) gs)) ≡ Some n → P n
    by further true is = let same : g.pod ≡ n = cc is in subst P same all.0
    by further false rest = further rest

-- a table of places once one more was told
pub all_inserted : (P : SwitchId × Place → Type 0) (places : List (SwitchId × Place)) (s : SwitchId) (place : Place) → P (s, place) → AllByRecursion P places →
    AllByRecursion P (insert_entry id_cmp places s place)
all_inserted P [] s place here all = (here, tt)
all_inserted P (e ∷ places) s place here all = by (id_cmp s e.0) refl (all_inserted P places s place here all.1)
  where
    by : (o : Ordering) → id_cmp s e.0 ≡ o → AllByRecursion P (insert_entry id_cmp places s place) →
        AllByRecursion P (match_ordering o ((s, place) ∷ e ∷ places) ((e.0, place) ∷ places) (e ∷ insert_entry id_cmp places s place))
    by Less is rest = (here, all)
    by Equal is rest = (subst (λ (t : SwitchId). P (t, place)) (id_exact s e.0 is) here, all.1)
    by Greater is rest = (all.0, rest)
