-- Lines below an event that are told one list behind the other.
use Rattle.std.proofs.Common.{◌≡◌, ℕ, ◌||◌, Bool, true, false, if◌then◌else◌, List, [], ◌∷◌, ◌++◌, map, refl, sym, ap, ◌∙◌, subst}
use Rattle.std.specs.List.{list_any}
use Rattle.std.proofs.lemmas.List.{append_assoc, append-nil}
use Rattle.pl_log_lines.specs.declared.told.Told.{Told}
use Rattle.pl_log_lines.specs.Pages.{PageView, Prints}
use Rattle.pl_log_lines.specs.Rows.{Below, below_line, event_line, words_text}
use Rattle.pl_log_lines.specs.Telling.{Tells, TellsEvent, after, below_text, head_text, is_event_shown, is_shown}
use Rattle.pl_log_lines.proofs.Printing.{prints_nothing, prints_then}

or_true : (b : Bool) → (b || true) ≡ true
or_true true = refl
or_true false = refl

or_false : (b : Bool) → (b || false) ≡ b
or_false true = refl
or_false false = refl

or_assoc : (a b c : Bool) → ((a || b) || c) ≡ (a || (b || c))
or_assoc true b c = refl
or_assoc false b c = refl

any_append : (test : Below → Bool) (first rest : List Below) → list_any test (first ++ rest) ≡ (list_any test first || list_any test rest)
any_append test [] rest = refl
any_append test (b ∷ first) rest = ap (λ more. test b || more) (any_append test first rest) ∙ sym (or_assoc (test b) (list_any test first) (list_any test rest))

module _ (json : Bool) (told : Told) where
  -- what is printed of lines is printed of the first ones, and then of the rest
  below_text_append : (printed : Bool) (first rest : List Below) →
      below_text json told printed (first ++ rest) ≡ below_text json told printed first ++ below_text json told (printed || list_any (is_shown told) first) rest
  below_text_append printed [] rest = ap (λ p. below_text json told p rest) (sym (or_false printed))
  below_text_append printed (b ∷ first) rest = by (below_text_append true first rest) (below_text_append printed first rest) (is_shown told b)
    where
      head : List ℕ
      head = head_text json told printed

      line : List ℕ
      line = below_line json b

      front : List ℕ
      front = below_text json told true first

      by : below_text json told true (first ++ rest) ≡ below_text json told true first ++ below_text json told true rest →
          below_text json told printed (first ++ rest) ≡ below_text json told printed first ++ below_text json told (printed || list_any (is_shown told) first) rest →
          (shown : Bool) → (if shown then head ++ (line ++ below_text json told true (first ++ rest)) else below_text json told printed (first ++ rest))
          ≡ (if shown then head ++ (line ++ front) else below_text json told printed first) ++ below_text json told (printed || (shown || list_any (is_shown told) first)) rest
      by on off true =
          let more = below_text json told true rest in
          subst (λ p. head ++ (line ++ below_text json told true (first ++ rest)) ≡ (head ++ (line ++ front)) ++ below_text json told p rest) (sym (or_true printed))
          (ap (λ text. head ++ (line ++ text)) on
          ∙ ap (λ text. head ++ text) (sym (append_assoc line front more))
          ∙ sym (append_assoc head (line ++ front) more))
      by on off false = off

pub tells_nothing : (v : PageView) (told : Told) → Tells v v told told []
tells_nothing v told = record { prints = prints_nothing v; told = cc_after told }
  where
    cc_after : (t : Told) → t ≡ after t []
    cc_after t = ap (λ printed. record t { is_printed = printed }) (sym (or_false t.is_printed))

pub tells_then : (old mid new : PageView) (before later last : Told) (first rest : List Below) → Tells old mid before later first → Tells mid new later last rest →
    Tells old new before last (first ++ rest)
tells_then old mid new before later last first rest a b =
    let more : Tells mid new (after before first) last rest = subst (λ t. Tells mid new t last rest) a.told b in
    let was = before.is_printed || list_any (is_shown before) first in
    record {
      prints = subst (Prints old new) (sym (below_text_append old.json before before.is_printed first rest))
          (prints_then old mid new (below_text old.json before before.is_printed first) (below_text old.json before was rest) a.prints
          (subst (λ json. Prints mid new (below_text json before was rest)) a.prints.form more.prints));
      told = more.told ∙ ap (λ printed. record before { is_printed = printed })
          (or_assoc before.is_printed (list_any (is_shown before) first) (list_any (is_shown before) rest)
          ∙ ap (λ any. before.is_printed || any) (sym (any_append (is_shown before) first rest)));
    }

-- ---- one line

pub tells_hidden : (v : PageView) (told : Told) (b : Below) → is_shown told b ≡ false → Tells v v told told (b ∷ [])
tells_hidden v told b hidden = record {
  prints = subst (Prints v v) (sym (ap (λ shown. if◌then◌else◌ {A = List ℕ} shown (head_text v.json told told.is_printed ++ (below_line v.json b ++ [])) []) hidden))
      (prints_nothing v);
  told = ap (λ printed. record told { is_printed = printed }) (sym (ap (λ shown. told.is_printed || (shown || false)) hidden ∙ or_false told.is_printed));
}

pub tells_shown : (old mid new : PageView) (told later : Told) (b : Below) → is_shown told b ≡ true → Prints old mid (head_text old.json told told.is_printed) →
    later ≡ record told { is_printed = true } → Prints mid new (below_line mid.json b) → Tells old new told later (b ∷ [])
tells_shown old mid new told later b shown heads is says =
    let head = head_text old.json told told.is_printed in
    let line = below_line old.json b in
    let said : Prints mid new line = subst (λ json. Prints mid new (below_line json b)) heads.form says in
    record {
      prints = subst (Prints old new)
          (ap (λ text. head ++ text) (sym (append-nil line)) ∙ sym (ap (λ is. if◌then◌else◌ {A = List ℕ} is (head ++ (line ++ [])) []) shown))
          (prints_then old mid new head line heads said);
      told = is ∙ ap (λ printed. record told { is_printed = printed }) (sym (ap (λ is. told.is_printed || (is || false)) shown ∙ or_true told.is_printed));
    }

-- the line of the event: it is there, or it is printed
pub told_stays : (t : Told) → t.is_printed ≡ true → t ≡ record t { is_printed = true }
told_stays t printed = ap (λ is. record t { is_printed = is }) printed

pub event_told : (v : PageView) (told : Told) → told.is_printed ≡ true → Prints v v (head_text v.json told told.is_printed)
event_told v told printed =
    subst (λ is. Prints v v (if◌then◌else◌ {A = List ℕ} is [] (head_text v.json told false))) (sym printed) (prints_nothing v)

pub event_printed : (old new : PageView) (told : Told) → told.is_printed ≡ false → Prints old new (event_line old.json told.step (words_text told.words)) →
    Prints old new (head_text old.json told told.is_printed)
event_printed old new told printed prints =
    subst (λ is. Prints old new (if◌then◌else◌ {A = List ℕ} is [] (event_line old.json told.step (words_text told.words)))) (sym printed) prints

pub event_hidden : (v : PageView) (told : Told) → is_event_shown told ≡ false → TellsEvent v v told told
event_hidden v told hidden = record {
  prints = subst (λ shown. Prints v v (if◌then◌else◌ {A = List ℕ} shown (head_text v.json told told.is_printed) [])) (sym hidden) (prints_nothing v);
  told = ap (λ shown. record told { is_printed = shown || told.is_printed }) (sym hidden);
}

pub event_begun : (old new : PageView) (told last : Told) → is_event_shown told ≡ true → Prints old new (head_text old.json told told.is_printed) →
    last ≡ record told { is_printed = true } → TellsEvent old new told last
event_begun old new told last shown prints is = record {
  prints = subst (λ s. Prints old new (if◌then◌else◌ {A = List ℕ} s (head_text old.json told told.is_printed) [])) (sym shown) prints;
  told = is ∙ ap (λ s. record told { is_printed = s || told.is_printed }) (sym shown);
}

-- ---- lines that are told one by one

-- What is told of the rest from here on gives the whole from the start.
pub record TellsOn (start : PageView) (begun : Told) (whole : List Below) (page : PageView) (told : Told) (rest : List Below) : Type 0 where
  pub on : (end : PageView) (last : Told) → Tells page end told last rest → Tells start end begun last whole
  pub node : told.node ≡ begun.node

pub tells_from : (v : PageView) (told : Told) (whole : List Below) → TellsOn v told whole v told whole
tells_from v told whole = record { on = λ end last tells. tells; node = refl }

pub tells_end : (start page : PageView) (begun told : Told) (whole : List Below) → TellsOn start begun whole page told [] → Tells start page begun told whole
tells_end start page begun told whole is = is.on page told (tells_nothing page told)

pub tells_next : {T : Type 0} (line : T → Below) (start page next : PageView) (begun told later : Told) (whole : List Below) (all : List T) (x : T) (rest : List T) (b : Below) →
    all ≡ x ∷ rest → b ≡ line x → TellsOn start begun whole page told (map line all) → Tells page next told later (b ∷ []) →
    TellsOn start begun whole next later (map line rest)
tells_next {T = T} line start page next begun told later whole all x rest b first is before tells = record {
  on = λ end last more. before.on end last (subst (λ (xs : List T). Tells page end told last (map line xs)) (sym first)
      (tells_then page next end told later last (line x ∷ []) (map line rest) (subst (λ c. Tells page next told later (c ∷ [])) is tells) more));
  node = ap (λ (t : Told). t.node) tells.told ∙ before.node;
}
