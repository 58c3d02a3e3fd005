-- The neighbours below in a part of a tree stand in rising order.
use Rattle.std.proofs.Common.{ℕ, ◌&&◌, cond, Option, Some, None, IfSome}
use Rattle.std.specs.List.Sorted.{IsStrictlySortedBy}
use Rattle.std.specs.Option.{option_and_then, option_map}
use Rattle.std.proofs.lemmas.Bool.{cond_both}
use Rattle.std.proofs.lemmas.List.Kept.{IsStrictlySortedBy-filter}
use Rattle.pl_frame.specs.declared.address.SwitchId.{SwitchId}
use Rattle.pl_node.specs.declared.messages.TreePart.{TreePart}
use Rattle.pl_node.specs.ManagerViews.{Members, PlacedEdge, Told, alive_at_level, edge_at, has_level, id_cmp, is_alive, place_of}
use Rattle.pl_node.specs.Trees.{aggregation_part, core_of, core_part, edge_part, needed_edges, part_under, serves, tree_part}
use Rattle.pl_manager_rule.proofs.Avoided.{alive_rise, needed_rise}
use Rattle.pl_layouts.specs.Equality.{same_switch}

abbrev IsRising : Option TreePart → Type 0
IsRising o = IfSome o (λ part. IsStrictlySortedBy id_cmp part.down)

module _ (told : Told) (members : Members) where
  edge_rises : (core : SwitchId) (o : Option PlacedEdge) → IsRising (option_map (edge_part told core) o)
  unfolding IsStrictlySortedBy
  edge_rises core None = tt
  edge_rises core (Some e) = tt

  part_rises : (group : ℕ) (s core : SwitchId) → IsRising (part_under told (needed_edges told members group) s core)
  part_rises group s core =
      let needed = needed_edges told members group in
      let below = option_map (edge_part told core) (edge_at s (place_of told s)) in
      let middle = cond (has_level told s 1 && is_alive told s core) (Some (aggregation_part told needed core s)) below in
      cond_both (same_switch s core) (Some (core_part told needed core)) middle IsRising
      (λ top. IsStrictlySortedBy-filter id_cmp (serves told needed) (alive_at_level told core 1) (alive_rise told core 1))
      (λ other. cond_both (has_level told s 1 && is_alive told s core) (Some (aggregation_part told needed core s)) below IsRising
      (λ linked. IsStrictlySortedBy-filter id_cmp (is_alive told s) needed (needed_rise told members group))
      (λ not_linked. edge_rises core (edge_at s (place_of told s))))

  pub parts_rise : (group : ℕ) (s : SwitchId) → IfSome (tree_part told members group s) (λ part. IsStrictlySortedBy id_cmp part.down)
  unfolding tree_part
  parts_rise group s = by (core_of told members group)
    where
      by : (o : Option SwitchId) → IsRising (option_and_then (part_under told (needed_edges told members group) s) o)
      by None = tt
      by (Some core) = part_rises group s core
