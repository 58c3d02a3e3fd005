-- What stands in a log once an entry was written, or a step was told.
use Rattle.std.proofs.Common.{◌≡◌, ◌<◌, ◌≤◌, ◌+◌, ℕ, suc, Bool, false, List, [], ◌∷◌, ◌++◌, All, drop, get_or, length, Option, None, Some, take, unwrap_or, refl, sym, ap, ◌∙◌, subst, add-one, arith}
use Rattle.std.specs.Option.{option_or}
use Rattle.std.proofs.lemmas.List.{drop_all, length-append, take_all, take_more, take-append-le}
use Rattle.std.proofs.lemmas.List.Concat.{flat_map-append}
use Rattle.std.proofs.lemmas.List.Elements.{All-get_or, All-weaker}
use Rattle.std.proofs.Math.Seq.{drop-cons}
use Rattle.pl_shelf.specs.Held.{Held, with_end}
use Rattle.pl_shelf.proofs.Exports.{with_end-none}
use Rattle.pl_journal.specs.declared.entry.Entry.{Entry}
use Rattle.pl_node.specs.HostInputs.{HostRule}
use Rattle.pl_node.specs.ManagerDuties.{ManagerRule}
use Rattle.pl_node.specs.ManagerViews.{booted_manager}
use Rattle.pl_node.specs.SwitchInputs.{SwitchRule}
use Rattle.pl_wiring.specs.declared.host.Host.{Host}
use Rattle.pl_wiring.specs.Plan.{IsHostMac, IsPlan, Plan}
use Rattle.pl_journal.specs.Savable.{IsSavable}
use Rattle.pl_journal.specs.Text.{IsNamed}
use Rattle.pl_world.specs.declared.event.Event.{Event}
use Rattle.pl_world.specs.declared.limits.Limits.{Limits}
use Rattle.pl_world.specs.Booting.{CanBegin, booted}
use Rattle.pl_world.specs.Drops.{written}
use Rattle.pl_world.specs.Pending.{first_switches}
use Rattle.pl_world.specs.Refusals.{refusal}
use Rattle.pl_world.specs.Runs.{Moment, WorldRun}
use Rattle.pl_world.specs.Runs.Moment.{Step}
use Rattle.pl_world.specs.WorldRule.{WorldStep}
use Rattle.pl_world.specs.Worlds.{WorldView}
use Rattle.pl_world.proofs.Exports.{step_plan}
use Rattle.pl_log_lines.specs.declared.look.Look.{Look}
use Rattle.pl_watch.specs.Logs.{IsLog, LogLine, entry_lines, last_some, line_in, log_text, present_line, shown_below, shown_entry, text_of_line}
use Rattle.pl_watch.specs.Logs.IsLog.{Begins, GoesOn}
use Rattle.pl_log_lines.specs.Pages.{HoldsText, Prints}
use Rattle.pl_watch.specs.Seen.{HasSeen, IsLogged, Kept, WritesEntry}
use Rattle.pl_watch.proofs.Growing.{journal_grows, limits_stay}
use Rattle.pl_watch.proofs.LogLaws.{run_of}
use Rattle.pl_watch.specs.Marks.{holds_more}
use Rattle.pl_log_lines.proofs.Exports.{ends_joined}

-- ---- the line of the script

or_none : {T : Type 0} (o : Option T) → option_or None o ≡ option_or o None
or_none None = refl
or_none (Some x) = refl

or_on : {T : Type 0} (a b c : Option T) → option_or (option_or a b) c ≡ option_or a (option_or b c)
or_on None b c = refl
or_on (Some x) b c = refl

last_more : {T : Type 0} (f : T → Option ℕ) (xs : List T) (x : T) → last_some f (xs ++ x ∷ []) ≡ option_or (f x) (last_some f xs)
last_more f [] x = or_none (f x)
last_more f (y ∷ xs) x = ap (λ o. option_or o (f y)) (last_more f xs x) ∙ or_on (f x) (last_some f xs) (f y)

or_unwrapped : (a b : Option ℕ) → unwrap_or (option_or a b) 0 ≡ unwrap_or a (unwrap_or b 0)
or_unwrapped None b = refl
or_unwrapped (Some x) b = refl

present_line_more : (entries : List Entry) (e : Entry) → present_line (entries ++ e ∷ []) ≡ unwrap_or (line_in e) (present_line entries)
present_line_more entries e = ap (λ o. unwrap_or o 0) (last_more line_in entries e) ∙ or_unwrapped (line_in e) (last_some line_in entries)

-- ---- texts

two_texts : (json : Bool) (plan : Plan) (first rest : List LogLine) → log_text json plan (first ++ rest) ≡ log_text json plan first ++ log_text json plan rest
two_texts json plan first rest = flat_map-append (text_of_line json plan) first rest

-- what is to come behind a text, once the text was printed
printed_on : (held now : Held) (first rest whole : List ℕ) → now ≡ with_end held first → HoldsText (with_end held (first ++ rest)) whole →
    HoldsText (with_end now rest) whole
printed_on held now first rest whole is text =
    subst (λ t. HoldsText t whole) (sym (ap (λ t. with_end t rest) is ∙ ends_joined held first rest)) text

-- ---- an entry

split : (journal : List Entry) (n : ℕ) (d e : Entry) → n < length journal → get_or journal n d ≡ e → drop n journal ≡ e ∷ drop (n + 1) journal
split journal n d e within is = rw add-one (drop-cons journal n d within ∙ ap (λ x. x ∷ drop (suc n) journal) is)

one_taken : (journal : List Entry) (n : ℕ) (d e : Entry) → n < length journal → get_or journal n d ≡ e → take (n + 1) journal ≡ take n journal ++ e ∷ []
one_taken journal n d e within is = take_more journal n d within ∙ ap (λ x. take n journal ++ x ∷ []) is

rest_of_lines : (look : Look) (journal : List Entry) (n line : ℕ) (d e : Entry) → n < length journal → get_or journal n d ≡ e →
    line ≡ present_line (take (n + 1) journal) →
    entry_lines look (take n journal) (drop n journal) ≡ shown_entry look line e ++ entry_lines look (take (n + 1) journal) (drop (n + 1) journal)
rest_of_lines look journal n line d e within is present =
    let more = one_taken journal n d e within is in
    ap (λ (es : List Entry). entry_lines look (take n journal) es) (split journal n d e within is)
    ∙ ap (λ (es : List Entry). shown_entry look (present_line es) e ++ entry_lines look es (drop (n + 1) journal)) (sym more)
    ∙ ap (λ m. shown_entry look m e ++ entry_lines look (take (n + 1) journal) (drop (n + 1) journal)) (sym present)

module _ (switch : SwitchRule) (manager : ManagerRule) (host : HostRule) where
  pub entry_told : (kept new : Kept) (w : WorldView) (d e : Entry) → kept.entries < length w.journal → get_or w.journal kept.entries d ≡ e →
      HasSeen switch manager host kept w → WritesEntry w.plan e kept new → HasSeen switch manager host new w
  entry_told kept new w d e within is seen writes =
      let n = kept.entries in
      let rest = log_text kept.look.json w.plan (entry_lines kept.look (take (n + 1) w.journal) (drop (n + 1) w.journal)) in
      let shown = log_text kept.look.json w.plan (shown_entry kept.look new.line e) in
      let present : new.line ≡ present_line (take (n + 1) w.journal) =
      writes.line ∙ ap (λ line. unwrap_or (line_in e) line) seen.line ∙ sym (present_line_more (take n w.journal) e)
      ∙ ap (λ (es : List Entry). present_line es) (sym (one_taken w.journal n d e within is)) in
      let both : log_text kept.look.json w.plan (entry_lines kept.look (take n w.journal) (drop n w.journal)) ≡ shown ++ rest =
      ap (log_text kept.look.json w.plan) (rest_of_lines kept.look w.journal n new.line d e within is present)
      ∙ two_texts kept.look.json w.plan (shown_entry kept.look new.line e) (entry_lines kept.look (take (n + 1) w.journal) (drop (n + 1) w.journal)) in
      subst (λ (k : Kept). HasSeen switch manager host k w) (sym writes.kept) (record {
        moments = seen.moments;
        lines = seen.lines;
        log = seen.log;
        same_switches = seen.same_switches;
        same_manager = seen.same_manager;
        entries = omega (arith, within);
        line = present;
        form = writes.page.form ∙ seen.form;
        text = λ fine. printed_on kept.page.text new.page.text shown rest (log_text kept.look.json w.plan seen.lines)
            (writes.page.printed fine ∙ ap (λ json. with_end kept.page.text (log_text json w.plan (shown_entry kept.look new.line e))) seen.form)
            (subst (λ text. HoldsText (with_end kept.page.text text) (log_text kept.look.json w.plan seen.lines)) both (seen.text (writes.page.before fine)));
      })

  -- the entries that are to be written name what the wiring has
  pub entry_is : (journal all : List Entry) (n : ℕ) (e : Entry) → all ≡ journal → e ≡ get_or all n e → get_or journal n e ≡ e
  entry_is journal all n e same is = sym (is ∙ ap (λ (es : List Entry). get_or es n e) same)

  pub named_entry : (kept : Kept) (w : WorldView) (n : ℕ) (d : Entry) → IsPlan w.plan →
      ((plan : Plan) (limits : Limits) (moments : List Moment) (new : WorldView) → CanBegin plan → WorldRun switch manager host (booted plan limits) moments new →
      All (IsSavable plan) new.journal) → HasSeen switch manager host kept w → n < length w.journal → IsNamed w.plan (get_or w.journal n d)
  named_entry kept w n d plan law seen within =
      let begins : CanBegin w.plan = record {
        is_plan = plan;
        addresses = All-weaker (λ (h : Host). IsHostMac h.mac) (λ (h : Host). length h.mac.0 ≡ 6) (λ h mac. mac.six_bytes) w.plan.hosts plan.host_macs;
      } in
      let all = law w.plan w.limits seen.moments w begins (run_of switch manager host kept.look (booted w.plan w.limits) seen.moments w seen.lines seen.log) in
      (All-get_or (IsSavable w.plan) w.journal n d within all).named

  -- ---- at first, and at the end

  pub begun_seen : (kept : Kept) (plan : Plan) (limits : Limits) → kept.switches ≡ (first_switches plan).switches → kept.manager ≡ booted_manager plan.k →
      kept.entries ≡ 0 → kept.line ≡ 0 → kept.page.json ≡ kept.look.json → HoldsText kept.page.text [] → HasSeen switch manager host kept (booted plan limits)
  begun_seen kept plan limits switches same none first form text = record {
    moments = [];
    lines = [];
    log = Begins;
    same_switches = switches;
    same_manager = same;
    entries = subst (λ n. n ≤ length (booted plan limits).journal) (sym none) (omega arith);
    line = first ∙ ap (λ n. present_line (take n (booted plan limits).journal)) (sym none);
    form = form;
    text = λ fine.
        subst (λ n. HoldsText
        (with_end kept.page.text (log_text kept.look.json plan (entry_lines kept.look (take n (booted plan limits).journal) (drop n (booted plan limits).journal)))) []) (sym none)
        (subst (λ held. HoldsText held []) (sym (with_end-none kept.page.text)) text);
  }

  pub all_logged : (kept : Kept) (w : WorldView) (held : Held) → HasSeen switch manager host kept w → kept.entries ≡ length w.journal → kept.page.failed ≡ false →
      held ≡ kept.page.text → IsLogged switch manager host kept.look held w
  all_logged kept w held seen all fine is =
      let none : drop kept.entries w.journal ≡ [] = drop_all kept.entries w.journal (omega (arith, all)) in
      record {
        moments = seen.moments;
        lines = seen.lines;
        log = seen.log;
        text = subst (λ h. HoldsText h (log_text kept.look.json w.plan seen.lines)) (with_end-none kept.page.text ∙ sym is)
            (subst (λ (es : List Entry). HoldsText (with_end kept.page.text (log_text kept.look.json w.plan (entry_lines kept.look (take kept.entries w.journal) es)))
            (log_text kept.look.json w.plan seen.lines)) none (seen.text fine));
      }

  -- ---- a step

  pub step_told : (kept new : Kept) (old : WorldView) (happens : Event) (w : WorldView) → refusal old happens ≡ None →
      (step : WorldStep switch manager host old happens w) → HasSeen switch manager host kept old → kept.entries ≡ length old.journal →
      new ≡ record kept { page = new.page; switches = w.switches; manager = w.manager } →
      Prints kept.page new.page (log_text kept.page.json old.plan (shown_below switch manager host kept.look old happens w step)) → HasSeen switch manager host new w
  step_told kept new old happens w allowed step seen all is prints =
      let look = kept.look in
      let json = kept.look.json in
      let below = shown_below switch manager host look old happens w step in
      let wrote = entry_lines look old.journal (written old w) in
      let grows : w.journal ≡ old.journal ++ written old w = journal_grows switch manager host old happens w step in
      let front : take kept.entries w.journal ≡ old.journal =
      ap (λ n. take n w.journal) all ∙ ap (λ (j : List Entry). take (length old.journal) j) grows
      ∙ take-append-le (length old.journal) old.journal (written old w) (omega arith) ∙ take_all (length old.journal) old.journal (omega arith) in
      let behind : drop kept.entries w.journal ≡ written old w = ap (λ n. drop n w.journal) all in
      let was : take kept.entries old.journal ≡ old.journal = take_all kept.entries old.journal (omega (arith, all)) in
      let none : drop kept.entries old.journal ≡ [] = drop_all kept.entries old.journal (omega (arith, all)) in
      let plan : w.plan ≡ old.plan = step_plan switch manager host old happens w step in
      let whole : log_text json old.plan (seen.lines ++ (below ++ wrote)) ≡ log_text json old.plan seen.lines ++ (log_text json old.plan below ++ log_text json old.plan wrote) =
      two_texts json old.plan seen.lines (below ++ wrote) ∙ ap (λ text. log_text json old.plan seen.lines ++ text) (two_texts json old.plan below wrote) in
      let text_before : kept.page.failed ≡ false → HoldsText (with_end kept.page.text []) (log_text json old.plan seen.lines) = λ fine.
      subst (λ (es : List Entry). HoldsText (with_end kept.page.text (log_text json old.plan (entry_lines look (take kept.entries old.journal) es))) (log_text json old.plan seen.lines))
      none (seen.text fine) in
      subst (λ (k : Kept). HasSeen switch manager host k w) (sym is) (record {
        moments = seen.moments ++ Step happens ∷ [];
        lines = seen.lines ++ (below ++ wrote);
        log = subst (λ (start : WorldView). IsLog switch manager host look start (seen.moments ++ Step happens ∷ []) w (seen.lines ++ (below ++ wrote)))
            (ap (λ (p : Plan). booted p old.limits) (sym plan) ∙ ap (λ (l : Limits). booted w.plan l) (sym (limits_stay switch manager host old happens w step)))
            (GoesOn seen.moments old seen.lines seen.log happens w allowed step);
        same_switches = refl;
        same_manager = refl;
        entries = subst (λ (j : List Entry). kept.entries ≤ length j) (sym grows)
            (subst (λ n. kept.entries ≤ n) (sym (length-append old.journal (written old w))) (omega (arith, all)));
        line = seen.line ∙ ap (λ (es : List Entry). present_line es) (was ∙ sym front);
        form = prints.form ∙ seen.form;
        text = λ fine.
            subst (λ (p : Plan). HoldsText (with_end new.page.text (log_text json p (entry_lines look (take kept.entries w.journal) (drop kept.entries w.journal))))
            (log_text json p (seen.lines ++ (below ++ wrote)))) (sym plan)
            (subst (λ (es : List Entry). HoldsText (with_end new.page.text (log_text json old.plan (entry_lines look es (drop kept.entries w.journal))))
            (log_text json old.plan (seen.lines ++ (below ++ wrote)))) (sym front)
            (subst (λ (es : List Entry). HoldsText (with_end new.page.text (log_text json old.plan (entry_lines look old.journal es)))
            (log_text json old.plan (seen.lines ++ (below ++ wrote)))) (sym behind)
            (subst (λ text. HoldsText (with_end new.page.text (log_text json old.plan wrote)) text) (sym whole)
            (printed_on kept.page.text new.page.text (log_text json old.plan below) (log_text json old.plan wrote) _
            (prints.printed fine ∙ ap (λ j. with_end kept.page.text (log_text j old.plan below)) seen.form)
            (holds_more kept.page.text [] (log_text json old.plan below ++ log_text json old.plan wrote) (log_text json old.plan seen.lines) (text_before (prints.before fine)))))));
      })
