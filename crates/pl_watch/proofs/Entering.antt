-- What is printed of an entry, where it is shown and where it is not.
use Rattle.std.proofs.Common.{◌≡◌, ◌&&◌, ℕ, Bool, true, false, if◌then◌else◌, List, [], ◌∷◌, sym, subst}
use Rattle.std.proofs.lemmas.List.{append-nil}
use Rattle.pl_wiring.specs.Plan.{Plan}
use Rattle.pl_journal.specs.declared.entry.Entry.{Entry}
use Rattle.pl_journal.specs.Text.{words_of}
use Rattle.pl_log_lines.specs.declared.look.Look.{Look}
use Rattle.pl_watch.specs.Logs.{LogLine, log_text, shown_entry}
use Rattle.pl_watch.specs.Logs.LogLine.{IsEntry}
use Rattle.pl_log_lines.specs.Looks.{is_within, shows_entry}
use Rattle.pl_log_lines.specs.Pages.{PageView, Prints}
use Rattle.pl_log_lines.specs.Rows.{entry_line}
use Rattle.pl_log_lines.proofs.Exports.{prints_nothing}

module _ (old new : PageView) (plan : Plan) (look : Look) (line : ℕ) (entry : Entry) where
  abbrev shown_if : Bool → List LogLine
  shown_if shown = if shown then IsEntry entry ∷ [] else []

  pub entry_hidden : (is_within look line && shows_entry look entry) ≡ false → Prints old old (log_text old.json plan (shown_entry look line entry))
  entry_hidden hidden = subst (λ shown. Prints old old (log_text old.json plan (shown_if shown))) (sym hidden) (prints_nothing old)

  pub entry_shown : (words : List (List ℕ)) → words ≡ words_of plan entry → (is_within look line && shows_entry look entry) ≡ true →
      Prints old new (entry_line old.json words) → Prints old new (log_text old.json plan (shown_entry look line entry))
  entry_shown words is shown prints =
      subst (λ is_shown. Prints old new (log_text old.json plan (shown_if is_shown))) (sym shown)
      (subst (Prints old new) (sym (append-nil (entry_line old.json (words_of plan entry))))
      (subst (λ ws. Prints old new (entry_line old.json ws)) is prints))
