-- The places and the rows of the switches, by the number of a switch.
use Rattle.std.proofs.Common.{◌≡◌, ◌∙◌, ◌+◌, ◌++◌, ◌∷◌, [], ℕ, ◌<◌, Bool, cond, true, false, List, length, get_or, map, Option, Some, None, sym, ap, subst, take}
use Rattle.std.specs.List.{list_any, slice_get}
use Rattle.std.specs.Option.{option_and_then, option_map}
use Rattle.std.proofs.lemmas.List.{length-map, map-append, take_more}
use Rattle.std.proofs.lemmas.Option.{slice_get-get_or, slice_get-map}
use Rattle.pl_frame.specs.declared.address.SwitchId.{SwitchId}
use Rattle.pl_layouts.specs.declared.place.Place.{Place}
use Rattle.pl_layouts.specs.Equality.{same_switch}
use Rattle.pl_layouts.specs.Placement.{is_known}
use Rattle.pl_node.specs.ManagerViews.{Told, has_level, is_alive, place_of, switches}
use Rattle.pl_groups.specs.Serving.{all_reports, all_served, served_at}
use Rattle.pl_reports.specs.declared.switch_report.SwitchReport.{SwitchReport}
use Rattle.pl_reports.specs.Kept.{report_of}
use Rattle.pl_groups.proofs.Branches.{unplaced}

-- one switch after another
pub taken_next : (told : Told) (ss : List SwitchId) (i : ℕ) (d : SwitchId) → ss ≡ switches told → i < length ss →
    take (i + 1) (switches told) ≡ take i (switches told) ++ get_or ss i d ∷ []
taken_next told ss i d all within =
    ap (take (i + 1)) (sym all) ∙ take_more ss i d within ∙ ap (λ xs. take i xs ++ get_or ss i d ∷ []) all

pub mapped_next : {X Y : Type 0} (f : X → Y) (xs : List X) (i : ℕ) (x : X) (old new : List Y) (y : Y) → take (i + 1) xs ≡ take i xs ++ x ∷ [] →
    old ≡ map f (take i xs) → new ≡ old ++ y ∷ [] → y ≡ f x → new ≡ map f (take (i + 1) xs)
mapped_next f xs i x old new y more were now is =
    now ∙ (λ j. were j ++ is j ∷ []) ∙ sym (map-append f (take i xs) (x ∷ [])) ∙ ap (map f) (sym more)

module _ (told : Told) where
  pub report_within : (all : List SwitchReport) (ss : List SwitchId) (i : ℕ) → all ≡ all_reports told → ss ≡ switches told → i < length ss → i < length all
  report_within all ss i are same within =
      subst (λ n. i < n) (ap length same ∙ sym (ap length are ∙ length-map (switches told) (report_of told))) within

  pub report_is : (all : List SwitchReport) (ss : List SwitchId) (i : ℕ) (r : SwitchReport) (d : SwitchId) → all ≡ all_reports told → ss ≡ switches told →
      i < length ss → get_or all i r ≡ report_of told (get_or ss i d)
  report_is all ss i r d are same within =
      let equal : Some (get_or all i r) ≡ Some (report_of told (get_or ss i d)) =
      sym (slice_get-get_or all i r (report_within all ss i are same within))
      ∙ ap (λ rs. slice_get rs i) are ∙ slice_get-map (report_of told) (switches told) i
      ∙ ap (λ xs. option_map (report_of told) (slice_get xs i)) (sym same) ∙ ap (option_map (report_of told)) (slice_get-get_or ss i d within) in cc

  pub place_is : (all : List SwitchReport) (ss : List SwitchId) (i : ℕ) (r : SwitchReport) (d : SwitchId) → all ≡ all_reports told → ss ≡ switches told →
      i < length ss → (get_or all i r).place ≡ place_of told (get_or ss i d)
  place_is all ss i r d are same within = ap (λ (x : SwitchReport). x.place) (report_is all ss i r d are same within)

  module _ (needed : List SwitchId) where
    pub served_is : (served : List (Option (List Bool))) (ss : List SwitchId) (at : ℕ) (x : SwitchId) → served ≡ all_served told needed → ss ≡ switches told →
        slice_get ss at ≡ Some x → option_and_then (λ row. row) (slice_get served at) ≡ served_at told needed x
    served_is served ss at x are all found =
        ap (option_and_then (λ row. row))
        (ap (λ rows. slice_get rows at) are ∙ slice_get-map (served_at told needed) (switches told) at
        ∙ ap (λ xs. option_map (served_at told needed) (slice_get xs at)) (sym all) ∙ ap (option_map (served_at told needed)) found)

    -- a switch that told nothing serves none
    pub unserved : (ss : List SwitchId) (x : SwitchId) → ss ≡ switches told → list_any (same_switch x) ss ≡ false → None ≡ served_at told needed x
    unserved ss x all none =
        sym (ap (λ (place : Place). cond (is_known place.level 1) (Some (map (is_alive told x) needed)) None)
        (unplaced told x (ap (list_any (same_switch x)) (sym all) ∙ none)))

    module _ (s : SwitchId) (report : SwitchReport) (is : report ≡ report_of told s) where
      level_is : is_known report.place.level 1 ≡ has_level told s 1
      level_is = ap (λ (r : SwitchReport). is_known r.place.level 1) is

      pub serves_these : (row : List Bool) → is_known report.place.level 1 ≡ true → row ≡ map (is_alive told s) needed → Some row ≡ served_at told needed s
      serves_these row above are =
          ap (λ r. Some r) are ∙ sym (ap (λ b. cond b (Some (map (is_alive told s) needed)) None) (sym level_is ∙ above))

      pub serves_none : is_known report.place.level 1 ≡ false → None ≡ served_at told needed s
      serves_none other = sym (ap (λ b. cond b (Some (map (is_alive told s) needed)) None) (sym level_is ∙ other))
