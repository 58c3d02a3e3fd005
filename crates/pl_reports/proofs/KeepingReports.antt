-- What is kept, once one more word is told.
use Rattle.std.proofs.Common.{◌≡◌, ℕ, Bool, true, false, List, Some, is_some, length, map, slice_get, sym, ap, subst, ◌∙◌}
use Rattle.std.specs.List.{list_any}
use Rattle.std.specs.Option.{option_map}
use Rattle.std.specs.BTreeMap.{is_at}
use Rattle.std.proofs.lemmas.Option.{slice_get-map}
use Rattle.std.specs.List.Sorted.{IsStrictlySortedBy}
use Rattle.std.proofs.lemmas.List.{length-map}
use Rattle.std.specs.BTreeMap.{insert_entry}
use Rattle.std.specs.BTreeSet.{insert_key}
use Rattle.pl_frame.specs.declared.address.SwitchId.{SwitchId}
use Rattle.pl_layouts.specs.declared.place.Place.{Place}
use Rattle.pl_node.specs.ManagerViews.{Told, edge_at, id_cmp, link_cmp, placed_edges, switches}
use Rattle.pl_manager_rule.specs.ManagerRule.{with_link, with_place}
use Rattle.pl_manager_rule.proofs.Exports.{id_itself, switches_rise}
use Rattle.pl_node.proofs.Exports.{any_among, got_among, IsAmong}
use Rattle.pl_reports.specs.declared.switch_report.SwitchReport.{SwitchReport}
use Rattle.pl_reports.specs.Kept.{IsKeptFor, has_told, no_report, report_of, with_edge}
use Rattle.pl_reports.proofs.Entered.{nothing_known}
use Rattle.pl_reports.proofs.Placing.{edges_linked, edges_placed}
use Rattle.pl_reports.proofs.Telling.{switches_linked, switches_placed}

module _ (told : Told) (speakers placed : List SwitchId) (all : List SwitchReport) (h : IsKeptFor told speakers placed all) where
  pub kept_rises : IsStrictlySortedBy id_cmp speakers
  kept_rises = subst (IsStrictlySortedBy id_cmp) (sym h.tellers) (switches_rise told)

  pub kept_even : length all ≡ length speakers
  kept_even = ap length h.each ∙ length-map (switches told) (report_of told) ∙ ap length (sym h.tellers)

  pub kept_placed : (s : SwitchId) (place : Place) (places : List (SwitchId × Place)) (heard edges : List SwitchId) (reports : List SwitchReport) →
      places ≡ insert_entry id_cmp told.places s place → heard ≡ insert_key id_cmp speakers s →
      edges ≡ with_edge placed s (is_some (edge_at s place)) →
      reports ≡ map (report_of (with_place told s place)) (switches (with_place told s place)) →
      IsKeptFor (record { places = places; links = told.links }) heard edges reports
  kept_placed s place places heard edges reports is one put each = record {
    tellers =
        one ∙ ap (λ xs. insert_key id_cmp xs s) h.tellers ∙ sym (switches_placed told s place)
        ∙ ap (λ (ps : List (SwitchId × Place)). switches (record { places = ps; links = told.links })) (sym is);
    edges =
        put ∙ ap (λ xs. with_edge xs s (is_some (edge_at s place))) h.edges ∙ sym (edges_placed told s place)
        ∙ ap (λ (ps : List (SwitchId × Place)). map (λ e. e.switch) (placed_edges (record { places = ps; links = told.links }))) (sym is);
    each = each ∙ ap (λ (ps : List (SwitchId × Place)). let now : Told = record { places = ps; links = told.links } in map (report_of now) (switches now)) (sym is);
  }

  pub kept_linked : (s u : SwitchId) (usable : Bool) (links : List ((SwitchId × SwitchId) × Bool)) (heard : List SwitchId) (reports : List SwitchReport) →
      links ≡ insert_entry link_cmp told.links (s, u) usable → heard ≡ insert_key id_cmp speakers s →
      reports ≡ map (report_of (with_link told s u usable)) (switches (with_link told s u usable)) →
      IsKeptFor (record { places = told.places; links = links }) heard placed reports
  kept_linked s u usable links heard reports is one each = record {
    tellers =
        one ∙ ap (λ xs. insert_key id_cmp xs s) h.tellers ∙ sym (switches_linked told s u usable)
        ∙ ap (λ (ls : List ((SwitchId × SwitchId) × Bool)). switches (record { places = told.places; links = ls })) (sym is);
    edges =
        h.edges ∙ ap (λ es. map (λ e. e.switch) es) (sym (edges_linked told s u usable))
        ∙ ap (λ (ls : List ((SwitchId × SwitchId) × Bool)). map (λ e. e.switch) (placed_edges (record { places = told.places; links = ls }))) (sym is);
    each = each ∙ ap (λ (ls : List ((SwitchId × SwitchId) × Bool)). let now : Told = record { places = told.places; links = ls } in map (report_of now) (switches now)) (sym is);
  }

  pub found_report : (at : ℕ) (s : SwitchId) → slice_get speakers at ≡ Some s → slice_get all at ≡ Some (report_of told s)
  found_report at s there =
      ap (λ xs. slice_get xs at) h.each ∙ slice_get-map (report_of told) (switches told) at
      ∙ ap (λ xs. option_map (report_of told) (slice_get xs at)) (sym h.tellers) ∙ ap (option_map (report_of told)) there

  pub unknown : (s : SwitchId) → list_any (is_at (id_cmp s)) speakers ≡ false → report_of told s ≡ no_report
  unknown s none = nothing_known told s (ap (list_any (is_at (id_cmp s))) (sym h.tellers) ∙ none)

  pub found_told : (at : ℕ) (s : SwitchId) → slice_get speakers at ≡ Some s → has_told told s ≡ true
  found_told at s there =
      any_among (is_at (id_cmp s)) s (switches told) (subst (IsAmong s) h.tellers (got_among speakers at s there)) (id_itself s)
