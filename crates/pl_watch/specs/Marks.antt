-- A mark in the journal of a world that was seen: it is one more moment, and one more entry that is not written yet.
use Rattle.std.proofs.Common.{◌≡◌, ◌≤◌, ℕ, Bool, List, [], ◌∷◌, ◌++◌, drop, length, take, sym, ap, ◌∙◌, subst}
use Rattle.std.proofs.lemmas.List.{append_assoc, append-nil, drop-append-le, length-append, take-append-drop, take-append-le}
use Rattle.std.proofs.lemmas.List.Concat.{flat_map-append}
use Rattle.std.proofs.Math.Nat.{le-add_right, le_trans}
use Rattle.pl_shelf.specs.Held.{Held, absent, holds, unknown, with_end}
use Rattle.pl_wiring.specs.Plan.{Plan}
use Rattle.pl_journal.specs.declared.entry.Entry.{Entry}
use Rattle.pl_node.specs.HostInputs.{HostRule}
use Rattle.pl_node.specs.ManagerDuties.{ManagerRule}
use Rattle.pl_node.specs.SwitchInputs.{SwitchRule}
use Rattle.pl_world.specs.Changes.{noted}
use Rattle.pl_world.specs.Runs.{IsMark}
use Rattle.pl_world.specs.Runs.Moment.{Mark}
use Rattle.pl_world.specs.Worlds.{WorldView}
use Rattle.pl_log_lines.specs.declared.look.Look.{Look}
use Rattle.pl_watch.specs.Logs.{LogLine, entry_lines, log_text, present_line, shown_entry, text_of_line}
use Rattle.pl_watch.specs.Logs.IsLog.{IsMarked}
use Rattle.pl_log_lines.specs.Pages.{HoldsText}
use Rattle.pl_watch.specs.Seen.{HasSeen, Kept}

-- entries are shown one list behind the other
pub entry_lines_append : (look : Look) (before first rest : List Entry) →
    entry_lines look before (first ++ rest) ≡ entry_lines look before first ++ entry_lines look (before ++ first) rest
entry_lines_append look before [] rest = ap (λ front. entry_lines look front rest) (sym (append-nil before))
entry_lines_append look before (e ∷ first) rest =
    let shown = shown_entry look (present_line (before ++ e ∷ [])) e in
    ap (λ (lines : List LogLine). shown ++ lines) (entry_lines_append look (before ++ e ∷ []) first rest
    ∙ ap (λ (front : List Entry). entry_lines look (before ++ e ∷ []) first ++ entry_lines look front rest) (append_assoc before (e ∷ []) first))
    ∙ sym (append_assoc shown (entry_lines look (before ++ e ∷ []) first) (entry_lines look (before ++ e ∷ first) rest))

-- what holds a text holds it with more behind it, once that is put there
pub holds_more : (t : Held) (front more text : List ℕ) → HoldsText (with_end t front) text → HoldsText (with_end t (front ++ more)) (text ++ more)
holds_more unknown front more text is = tt
holds_more absent [] [] text is = append-nil text ∙ is
holds_more absent [] (b ∷ more) text is = ap (λ front. front ++ b ∷ more) (sym is)
holds_more absent (x ∷ front) more text is = ap (λ front. front ++ more) is
holds_more (holds bytes) front more text is = sym (append_assoc bytes front more) ∙ ap (λ whole. whole ++ more) is

log_text_append : (json : Bool) (plan : Plan) (first rest : List LogLine) →
    log_text json plan (first ++ rest) ≡ log_text json plan first ++ log_text json plan rest
log_text_append json plan first rest = flat_map-append (text_of_line json plan) first rest

-- the entries that are not written yet, with the mark behind them
rest_with : (look : Look) (n : ℕ) (journal : List Entry) (entry : Entry) → n ≤ length journal →
    entry_lines look (take n (journal ++ entry ∷ [])) (drop n (journal ++ entry ∷ []))
    ≡ entry_lines look (take n journal) (drop n journal) ++ entry_lines look journal (entry ∷ [])
rest_with look n journal entry few =
    ap (λ (front : List Entry). entry_lines look front (drop n (journal ++ entry ∷ []))) (take-append-le n journal (entry ∷ []) few)
    ∙ ap (λ (rest : List Entry). entry_lines look (take n journal) rest) (drop-append-le n journal (entry ∷ []) few)
    ∙ entry_lines_append look (take n journal) (drop n journal) (entry ∷ [])
    ∙ ap (λ (all : List Entry). entry_lines look (take n journal) (drop n journal) ++ entry_lines look all (entry ∷ [])) (take-append-drop n journal)

module _ (look : Look) (plan : Plan) (held : Held) (lines : List LogLine) (n : ℕ) (journal : List Entry) (entry : Entry) (few : n ≤ length journal) where
  abbrev rest : List LogLine
  rest = entry_lines look (take n journal) (drop n journal)

  text_with_mark : HoldsText (with_end held (log_text look.json plan rest)) (log_text look.json plan lines) →
      HoldsText (with_end held (log_text look.json plan (entry_lines look (take n (journal ++ entry ∷ [])) (drop n (journal ++ entry ∷ [])))))
      (log_text look.json plan (lines ++ entry_lines look journal (entry ∷ [])))
  text_with_mark so =
      let more = entry_lines look journal (entry ∷ []) in
      subst (λ (ls : List LogLine). HoldsText (with_end held (log_text look.json plan ls)) (log_text look.json plan (lines ++ more)))
      (sym (rest_with look n journal entry few))
      (subst (λ text. HoldsText (with_end held text) (log_text look.json plan (lines ++ more))) (sym (log_text_append look.json plan rest more))
      (subst (λ text. HoldsText (with_end held (log_text look.json plan rest ++ log_text look.json plan more)) text)
      (sym (log_text_append look.json plan lines more))
      (holds_more held (log_text look.json plan rest) (log_text look.json plan more) (log_text look.json plan lines) so)))

module _ (switch : SwitchRule) (manager : ManagerRule) (host : HostRule) where
  pub a_mark_is_seen : (kept : Kept) (old : WorldView) (entry : Entry) → IsMark entry → HasSeen switch manager host kept old →
      HasSeen switch manager host kept (noted old entry)
  a_mark_is_seen kept old entry is seen = record {
    moments = seen.moments ++ Mark entry ∷ [];
    lines = seen.lines ++ entry_lines kept.look old.journal (entry ∷ []);
    log = IsMarked seen.moments old seen.lines seen.log entry is;
    same_switches = seen.same_switches;
    same_manager = seen.same_manager;
    entries = subst (λ many. kept.entries ≤ many) (sym (length-append old.journal (entry ∷ []))) (le_trans seen.entries (le-add_right (length old.journal) 1));
    line = seen.line ∙ ap present_line (sym (take-append-le kept.entries old.journal (entry ∷ []) seen.entries));
    form = seen.form;
    text = λ whole. text_with_mark kept.look old.plan kept.page.text seen.lines kept.entries old.journal entry seen.entries (seen.text whole);
  }
