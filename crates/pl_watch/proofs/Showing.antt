-- Lines that are told below an event are those that a log shows of it.
use Rattle.std.proofs.Common.{◌≡◌, ◌+◌, ◌&&◌, ◌||◌, ℕ, Bool, true, false, if◌then◌else◌, List, [], ◌∷◌, ◌++◌, map, refl, sym, ap, ◌∙◌, subst}
use Rattle.std.specs.List.{filter, flat_map}
use Rattle.std.proofs.lemmas.List.{append-nil}
use Rattle.pl_wiring.specs.Plan.{Plan}
use Rattle.pl_world.specs.declared.event.Event.{Event}
use Rattle.pl_world.specs.Worlds.{WorldView}
use Rattle.pl_log_lines.specs.declared.told.Told.{Told}
use Rattle.pl_watch.specs.Events.{event_words, node_of}
use Rattle.pl_watch.specs.Logs.{LogLine, event_lines, log_text}
use Rattle.pl_watch.specs.Logs.LogLine.{IsBelow, IsEvent}
use Rattle.pl_log_lines.specs.Looks.{is_within, shows, shows_event}
use Rattle.pl_log_lines.specs.Pages.{PageView, Prints}
use Rattle.pl_log_lines.specs.Rows.{Below, below_line, event_line, words_text}
use Rattle.pl_log_lines.specs.Telling.{Tells, TellsEvent, below_text, head_text, is_event_shown, is_shown, node_in}
use Rattle.pl_log_lines.proofs.Exports.{prints_then}

module _ (json : Bool) (told : Told) where
  abbrev head : List ℕ
  head = event_line json told.step (words_text told.words)

  abbrev lines_text : List Below → List ℕ
  lines_text bs = flat_map (below_line json) bs

  abbrev chosen : List Below → List Below
  chosen bs = filter (shows told.look) bs

  shown_is : is_within told.look told.line ≡ true → (b : Below) → is_shown told b ≡ shows told.look b
  shown_is within b = ap (λ i. i && shows told.look b) within

  hidden_is : is_within told.look told.line ≡ false → (b : Below) → is_shown told b ≡ false
  hidden_is within b = ap (λ i. i && shows told.look b) within

  -- the line of the event stands there already
  below_all : is_within told.look told.line ≡ true → (bs : List Below) → below_text json told true bs ≡ lines_text (chosen bs)
  below_all within [] = refl
  below_all within (b ∷ bs) =
      ap (λ s. if◌then◌else◌ {A = List ℕ} s (below_line json b ++ below_text json told true bs) (below_text json told true bs)) (shown_is within b)
      ∙ by (below_all within bs) (shows told.look b)
    where
      by : below_text json told true bs ≡ lines_text (chosen bs) → (s : Bool) →
          (if s then below_line json b ++ below_text json told true bs else below_text json told true bs) ≡ lines_text (if s then b ∷ chosen bs else chosen bs)
      by rest true = ap (λ text. below_line json b ++ text) rest
      by rest false = rest

  -- it stands above the first that is shown
  abbrev first_text : List Below → List ℕ
  first_text [] = []
  first_text (b ∷ bs) = head ++ lines_text (b ∷ bs)

  below_first : is_within told.look told.line ≡ true → (bs : List Below) → below_text json told false bs ≡ first_text (chosen bs)
  below_first within [] = refl
  below_first within (b ∷ bs) =
      ap (λ s. if◌then◌else◌ {A = List ℕ} s (head ++ (below_line json b ++ below_text json told true bs)) (below_text json told false bs)) (shown_is within b)
      ∙ by (below_first within bs) (shows told.look b)
    where
      by : below_text json told false bs ≡ first_text (chosen bs) → (s : Bool) →
          (if s then head ++ (below_line json b ++ below_text json told true bs) else below_text json told false bs) ≡ first_text (if s then b ∷ chosen bs else chosen bs)
      by rest true = ap (λ text. head ++ (below_line json b ++ text)) (below_all within bs)
      by rest false = rest

  below_none : is_within told.look told.line ≡ false → (printed : Bool) (bs : List Below) → below_text json told printed bs ≡ []
  below_none within printed [] = refl
  below_none within printed (b ∷ bs) =
      ap (λ s. if◌then◌else◌ {A = List ℕ} s (head_text json told printed ++ (below_line json b ++ below_text json told true bs)) (below_text json told printed bs)) (hidden_is within b)
      ∙ below_none within printed bs

below_in_log : (json : Bool) (plan : Plan) (bs : List Below) → log_text json plan (map IsBelow bs) ≡ flat_map (below_line json) bs
below_in_log json plan [] = refl
below_in_log json plan (b ∷ bs) = ap (λ text. below_line json b ++ text) (below_in_log json plan bs)

-- what is printed of an event and of lines below it
abbrev printed_of : Bool → Told → List Below → List ℕ
printed_of json told bs =
    (if is_event_shown told then head_text json told false else []) ++ below_text json (record told { is_printed = is_event_shown told || false }) (is_event_shown told || false) bs

module _ (json : Bool) (told : Told) (old : WorldView) (happens : Event) (step : told.step ≡ old.steps + 1) (words : words_text told.words ≡ event_words old happens)
    (node : node_in told ≡ node_of old happens) where
  abbrev shown_lines : Bool → Bool → List Below → List LogLine
  shown_lines true shown [] = if shown then IsEvent (old.steps + 1) (event_words old happens) ∷ [] else []
  shown_lines true shown (b ∷ bs) = IsEvent (old.steps + 1) (event_words old happens) ∷ map IsBelow (b ∷ bs)
  shown_lines false shown bs = []

  head_is : event_line json (old.steps + 1) (event_words old happens) ≡ event_line json told.step (words_text told.words)
  head_is = ap (λ n. event_line json n (event_words old happens)) (sym step) ∙ ap (event_line json told.step) (sym words)

  one_line : event_line json told.step (words_text told.words) ≡ log_text json old.plan (IsEvent (old.steps + 1) (event_words old happens) ∷ [])
  one_line = sym (append-nil (event_line json told.step (words_text told.words))) ∙ ap (λ text. text ++ []) (sym head_is)

  all_lines : (b : Below) (bs : List Below) → event_line json told.step (words_text told.words) ++ flat_map (below_line json) (b ∷ bs) ≡
      log_text json old.plan (IsEvent (old.steps + 1) (event_words old happens) ∷ map IsBelow (b ∷ bs))
  all_lines b bs =
      ap (λ text. event_line json told.step (words_text told.words) ++ text) (sym (below_in_log json old.plan (b ∷ bs)))
      ∙ ap (λ line. line ++ log_text json old.plan (map IsBelow (b ∷ bs))) (sym head_is)

  -- the event's line was printed at first
  with_head : (bs : List Below) → event_line json told.step (words_text told.words) ++ flat_map (below_line json) bs ≡ log_text json old.plan (shown_lines true true bs)
  with_head [] = append-nil (event_line json told.step (words_text told.words)) ∙ one_line
  with_head (b ∷ bs) = all_lines b bs

  -- or it was not
  without_head : (bs : List Below) → first_text json told bs ≡ log_text json old.plan (shown_lines true false bs)
  without_head [] = refl
  without_head (b ∷ bs) = all_lines b bs

  abbrev with_both : Bool → Bool → List Below → List ℕ
  with_both within shown bs =
      (if within && shown then head_text json told false else []) ++ below_text json (record told { is_printed = (within && shown) || false }) ((within && shown) || false) bs

  by_both : (within shown : Bool) → is_within told.look told.line ≡ within → (bs : List Below) →
      with_both within shown bs ≡ log_text json old.plan (shown_lines within shown (filter (shows told.look) bs))
  by_both true true is bs =
      ap (λ text. event_line json told.step (words_text told.words) ++ text) (below_all json (record told { is_printed = true }) is bs)
      ∙ with_head (filter (shows told.look) bs)
  by_both true false is bs = below_first json (record told { is_printed = false }) is bs ∙ without_head (filter (shows told.look) bs)
  by_both false shown is bs = below_none json (record told { is_printed = false }) is false bs

  lines_are : (within : Bool) (bs : List Below) →
      shown_lines within (shows_event told.look (node_in told)) bs ≡ (if within then event_lines told.look old happens bs else [])
  lines_are false bs = refl
  lines_are true [] = ap (λ n. if◌then◌else◌ {A = List LogLine} (shows_event told.look n) (IsEvent (old.steps + 1) (event_words old happens) ∷ []) []) node
  lines_are true (b ∷ bs) = refl

  shown_text : (bs : List Below) → printed_of json told bs ≡
      log_text json old.plan (if is_within told.look told.line then event_lines told.look old happens (filter (shows told.look) bs) else [])
  shown_text bs =
      by_both (is_within told.look told.line) (shows_event told.look (node_in told)) refl bs
      ∙ ap (log_text json old.plan) (lines_are (is_within told.look told.line) (filter (shows told.look) bs))

-- an event, and then lines below it
pub event_and_below : (start mid new : PageView) (before told last : Told) (old : WorldView) (happens : Event) (bs : List Below) → before.is_printed ≡ false →
    before.step ≡ old.steps + 1 → words_text before.words ≡ event_words old happens → node_in before ≡ node_of old happens → TellsEvent start mid before told →
    Tells mid new told last bs →
    Prints start new (log_text start.json old.plan (if is_within before.look before.line then event_lines before.look old happens (filter (shows before.look) bs) else []))
event_and_below start mid new before told last old happens bs unprinted step words node event below =
    let first : Prints start mid (if is_event_shown before then head_text start.json before false else []) =
    subst (λ p. Prints start mid (if◌then◌else◌ {A = List ℕ} (is_event_shown before) (head_text start.json before p) [])) unprinted event.prints in
    let is : told ≡ record before { is_printed = is_event_shown before || false } =
    event.told ∙ ap (λ p. record before { is_printed = is_event_shown before || p }) unprinted in
    let rest : Prints mid new (below_text start.json (record before { is_printed = is_event_shown before || false }) (is_event_shown before || false) bs) =
    subst (λ (t : Told). Prints mid new (below_text start.json t t.is_printed bs)) is
    (subst (λ json. Prints mid new (below_text json told told.is_printed bs)) event.prints.form below.prints) in
    subst (Prints start new) (shown_text start.json before old happens step words node bs)
    (prints_then start mid new _ _ first rest)
