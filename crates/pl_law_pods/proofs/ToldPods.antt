-- Where all words of the reports were treated, each pod that a switch knew stands in its place: each place that it told has it, and it told one.
use Rattle.std.proofs.Common.{◌≡◌, ◌⊎◌, ℕ, ◌||◌, Bool, true, false, cond, fold, List, [], ◌∷◌, ◌++◌, Option, Some, None, unwrap_or, refl, sym, ap, ◌∙◌, subst, inl, inr}
use Rattle.std.specs.List.{AllByRecursion, list_any}
use Rattle.std.specs.Option.{option_or}
use Rattle.std.proofs.lemmas.Bool.{false≢true}
use Rattle.pl_frame.specs.declared.address.SwitchId.{SwitchId}
use Rattle.pl_layouts.specs.declared.place.Place.{Place}
use Rattle.pl_layouts.specs.Equality.{same_switch}
use Rattle.pl_layouts.specs.Placement.{nowhere}
use Rattle.pl_layouts.proofs.Exports.{switch_itself}
use Rattle.pl_gathering.specs.Gathering.{Heard}
use Rattle.pl_node.specs.declared.messages.ToManager.{ToManager}
use Rattle.pl_node.specs.declared.messages.ToManager.TheVariants as tell
use Rattle.pl_node.specs.declared.pod_given.PodGiven.{PodGiven}
use Rattle.pl_node.specs.ManagerViews.{ManagerView, Told, id_cmp, place_of, value_at}
use Rattle.pl_node.proofs.Exports.{id_total}
use Rattle.pl_manager_rule.specs.ManagerRule.{manager_hears, view_after}
use Rattle.pl_manager_rule.specs.Reports.{counts_as, known_at, with_aged_as}
use Rattle.pl_manager_rule.specs.Treating.{Treating, treats, treats_word}
use Rattle.pl_manager_rule.proofs.Exports.{id_exact, same_is, word_after}
use Rattle.pl_law_pods.specs.Apart.{HasPod, tells_place}

-- what a word makes of places goes not by how aged addresses are noted
pub treated_told : (x : Treating) (s : SwitchId) (word : ToManager) → (treats_word x s word).known.view.told ≡ (view_after x.view s word).told
unfolding manager_hears
treated_told x s (tell.Aged address number) = by (counts_as x.view.epoch number (known_at x.view.learnt address))
  where
    by : (b : Bool) →
        (◌≡◌ {A = Told} (cond b (record { view = record x.view { learnt = with_aged_as x.view.learnt s address (known_at x.view.learnt address) }; aged = x.aged ++ address ∷ [] }) x).view.told x.view.told)
    by true = refl
    by false = refl
treated_told x s (tell.Trapped old new number) = refl
treated_told x s (tell.Place place) = refl
treated_told x s (tell.Link u usable) = refl
treated_told x s tell.PodWanted = refl
treated_told x s (tell.Learned a b c) = refl
treated_told x s (tell.Begin n) = refl
treated_told x s (tell.End n) = refl
treated_told x s (tell.Query a b c) = refl
treated_told x s (tell.Members group any) = refl

-- nor what it makes of the numbers that were given
pub treated_pods : (x : Treating) (s : SwitchId) (word : ToManager) → (treats_word x s word).known.view.pods ≡ (view_after x.view s word).pods
unfolding manager_hears
treated_pods x s (tell.Aged address number) = by (counts_as x.view.epoch number (known_at x.view.learnt address))
  where
    by : (b : Bool) →
        (◌≡◌ {A = List PodGiven} (cond b (record { view = record x.view { learnt = with_aged_as x.view.learnt s address (known_at x.view.learnt address) }; aged = x.aged ++ address ∷ [] }) x).view.pods x.view.pods)
    by true = refl
    by false = refl
treated_pods x s (tell.Trapped old new number) = refl
treated_pods x s (tell.Place place) = refl
treated_pods x s (tell.Link u usable) = refl
treated_pods x s tell.PodWanted = refl
treated_pods x s (tell.Learned a b c) = refl
treated_pods x s (tell.Begin n) = refl
treated_pods x s (tell.End n) = refl
treated_pods x s (tell.Query a b c) = refl
treated_pods x s (tell.Members group any) = refl

module _ (t : SwitchId) (n : ℕ) where
  abbrev Stands : Told → Type 0
  Stands told = (place_of told t).pod ≡ Some n

  -- a place, of this switch or of another
  placed : (view : ManagerView) (s : SwitchId) (place : Place) (rest : Bool) → (same_switch s t ≡ true → place.pod ≡ Some n) →
      (Stands view.told) ⊎ ((same_switch s t || rest) ≡ true) → (Stands (view_after view s (tell.Place place)).told) ⊎ (rest ≡ true)
  placed view s place rest has either = elim (by (same_switch s t) has either) [
    | inl stands ↦ inl (ap (λ (p : Place). p.pod) place_then ∙ stands)
    | inr later ↦ inr later
  ]
    where
      said : (b : Bool) (o : Option Place) → unwrap_or (option_or (cond b (Some place) None) o) nowhere ≡ cond b place (unwrap_or o nowhere)
      said true o = refl
      said false o = refl

      place_then : place_of (view_after view s (tell.Place place)).told t ≡ cond (same_switch s t) place (place_of view.told t)
      place_then = ap (λ (o : Option Place). unwrap_or o nowhere) (word_after id_cmp id_total id_exact view.told.places s t place (same_switch s t)
          (λ h. sym (same_is s t h)) (λ e. subst (λ x. same_switch x t ≡ true) e (switch_itself t)))
          ∙ said (same_switch s t) (value_at id_cmp view.told.places t)

      by : (b : Bool) → (b ≡ true → place.pod ≡ Some n) → (Stands view.told) ⊎ ((b || rest) ≡ true) →
          ((cond b place (place_of view.told t)).pod ≡ Some n) ⊎ (rest ≡ true)
      by true own known = inl (own refl)
      by false own (inl stands) = inl stands
      by false own (inr some) = inr some

  word_told : (view : ManagerView) (s : SwitchId) (word : ToManager) (rest : Bool) → HasPod t n s word →
      (Stands view.told) ⊎ ((tells_place t s word || rest) ≡ true) →
      (Stands (view_after view s word).told) ⊎ (rest ≡ true)
  word_told view s (tell.Place place) rest has either = placed view s place rest has either
  word_told view s (tell.Link u usable) rest has either = either
  word_told view s tell.PodWanted rest has either = either
  word_told view s (tell.Learned a b c) rest has either = either
  word_told view s (tell.Aged a b) rest has either = either
  word_told view s (tell.Begin epoch) rest has either = either
  word_told view s (tell.End epoch) rest has either = either
  word_told view s (tell.Trapped a b c) rest has either = either
  word_told view s (tell.Query a b c) rest has either = either
  word_told view s (tell.Members group any) rest has either = either

  pub pods_are_told : (kept : List (Heard ToManager)) (x : Treating) → AllByRecursion (λ h. HasPod t n h.switch h.word) kept →
      ((place_of x.view.told t).pod ≡ Some n) ⊎ (list_any (λ h. tells_place t h.switch h.word) kept ≡ true) →
      (place_of (fold (λ known h. (treats known h).known) x kept).view.told t).pod ≡ Some n
  pods_are_told [] x all (inl stands) = stands
  pods_are_told [] x all (inr none) = absurd (false≢true none)
  pods_are_told (h ∷ kept) x all either =
      pods_are_told kept (treats x h).known all.1
      (elim (word_told x.view h.switch h.word (list_any (λ g. tells_place t g.switch g.word) kept) all.0 either) [
        | inl stands ↦ inl (ap (λ (told : Told). (place_of told t).pod) (treated_told x h.switch h.word) ∙ stands)
        | inr later ↦ inr later
      ])
