-- The words of lines.
use Rattle.std.proofs.Common.{◌≡◌, ◌∙◌, ◌<◌, ◌∷◌, ◌++◌, ℕ, [], List, Option, None, Some, Ok, Err, decimal, drop, length, map, option_map, option_to_list, position, refl, sym, ap, subst, arith}
use Rattle.std.proofs.lemmas.List.{drop_all}
use Rattle.std.proofs.lemmas.List.Quantifiers.{position-Some}
use Rattle.std.specs.Option.{option_map_or}
use Rattle.pl_frame.specs.declared.address.SwitchId.{SwitchId}
use Rattle.pl_layouts.specs.declared.control.Control.{Control}
use Rattle.pl_layouts.specs.declared.control.ControlError.{ControlError}
use Rattle.pl_layouts.specs.Control.{control_in}
use Rattle.pl_layouts.specs.Equality.{same_switch}
use Rattle.pl_journal.specs.Text.{switch_text}
use Rattle.pl_wiring.specs.declared.label.SwitchNo.{SwitchNo}
use Rattle.pl_wiring.specs.Labels.{switch_count}
use Rattle.pl_wiring.specs.Plan.{IsPlan, Plan}
use Rattle.pl_log_lines.specs.declared.row.Verb.{Verb}
use Rattle.pl_log_lines.specs.declared.row.Word.{Word}
use Rattle.pl_log_lines.specs.Controls.{control_line, control_line_of}
use Rattle.pl_log_lines.specs.Rows.{id_word, word_text, words_text}

module _ (plan : Plan) (id : SwitchId) (found : Option SwitchNo) (is : option_map (λ (s : SwitchNo). s.0) found ≡ position (same_switch id) plan.ids) where
  at : (s : SwitchNo) → found ≡ Some s → position (same_switch id) plan.ids ≡ Some s.0
  at s there = sym is ∙ ap (option_map (λ (s : SwitchNo). s.0)) there

  pub found_within : (s : SwitchNo) → IsPlan plan → found ≡ Some s → s.0 < switch_count plan.k
  found_within s well there =
      subst (λ n. s.0 < n) well.ids_many (position-Some (same_switch id) plan.ids s.0 id (at s there)).0

  pub labelled : (s : SwitchNo) (word : List ℕ) → found ≡ Some s → word ≡ switch_text plan s.0 → word ≡ id_word plan id
  labelled s word there says = says ∙ ap (λ p. option_map_or (switch_text plan) p (decimal id.0)) (sym (at s there))

  pub numbered : (word : List ℕ) → found ≡ None → word ≡ decimal id.0 → word ≡ id_word plan id
  numbered word none says = says ∙ ap (λ p. option_map_or (switch_text plan) p (decimal id.0)) (sym (sym is ∙ ap (option_map (λ (s : SwitchNo). s.0)) none))

pub behind_first : (first : Option Word) (rest : List (Option Word)) → words_text (first ∷ rest) ≡ map word_text (option_to_list first) ++ words_text rest
behind_first None rest = refl
behind_first (Some word) rest = refl

-- a frame that has no more than its header
pub nothing_behind : (bytes : List ℕ) → length bytes < 14 → [] ≡ drop 14 bytes
nothing_behind bytes short = sym (drop_all 14 bytes (omega arith))

-- ---- control frames

pub read_so : (plan : Plan) (node : Option ℕ) (verb : Verb) (by : Option (List ℕ)) (frame : List ℕ) (c : Control) → control_in (drop 14 frame) ≡ Ok c →
    control_line_of plan node verb by (Ok c) ≡ control_line plan node verb by frame
read_so plan node verb by frame c is = sym (ap (control_line_of plan node verb by) is)

pub unread_so : (plan : Plan) (node : Option ℕ) (verb : Verb) (by : Option (List ℕ)) (frame : List ℕ) (e : ControlError) → control_in (drop 14 frame) ≡ Err e →
    control_line_of plan node verb by (Err e) ≡ control_line plan node verb by frame
unread_so plan node verb by frame e is = sym (ap (control_line_of plan node verb by) is)
