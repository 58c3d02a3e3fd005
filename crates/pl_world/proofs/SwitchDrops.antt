-- What the acts of a switch write of dropped frames.
use Rattle.std.proofs.Common.{◌≡◌, ℕ, ◌+◌, Bool, true, false, if◌then◌else◌, List, [], ◌∷◌, ◌++◌, fold, length, Option, None, Some, set, refl, sym, ◌∙◌, ap, subst, append-nil, append_assoc, add-zero, arith}
use Rattle.std.specs.List.{cons_option}
use Rattle.std.proofs.lemmas.List.Elements.{filter_map-append}
use Rattle.pl_frame.specs.declared.address.Mac.{Mac}
use Rattle.pl_pmac.specs.declared.pmac.Pmac.{Pmac}
use Rattle.pl_node.specs.declared.acts.Act.{Act}
use Rattle.pl_node.specs.declared.acts.Act.TheVariants as act
use Rattle.pl_node.specs.declared.messages.ToManager.{ToManager}
use Rattle.pl_node.specs.SwitchInputs.{SwitchInput, SwitchRule}
use Rattle.pl_layouts.specs.declared.place.Place.{Place}
use Rattle.pl_layouts.specs.Placement.{same_place}
use Rattle.pl_journal.specs.declared.cause.Cause.{Cause}
use Rattle.pl_journal.specs.declared.cause.Cause.TheVariants.{LinkDown}
use Rattle.pl_journal.specs.declared.entry.Entry.{Entry}
use Rattle.pl_journal.specs.declared.entry.Entry.TheVariants.{Copied, Crossed, Dropped, Freed, Granted, Made, Placed, Redirected, Taken}
use Rattle.pl_world.specs.declared.item.Item.TheVariants.{Control, Data}
use Rattle.pl_world.specs.declared.spoken_frame.SpokenFrame.{SpokenFrame}
use Rattle.pl_world.specs.declared.spoken_frame.SpokenFrame.TheVariants.{Over, Passed, Silent, Waiting}
use Rattle.pl_world.specs.Changes.{all_noted, begun_by, host_no, host_of, is_failed_at, noted, sent_if_live, switch_no, told_manager}
use Rattle.pl_world.specs.Drops.{copies_dropped, drop_in, dropped_by_acts, dropped_of_made, dropped_on, drops_in, made_by_acts, made_in, make_in, numbers_made, ports_passed}
use Rattle.pl_world.specs.SwitchActs.{act_done, acts_done, begins, crossed_again, granted, place_noted, with_late}
use Rattle.pl_world.specs.WorldRule.{SwitchTurn}
use Rattle.pl_world.specs.Worlds.{WorldView}

-- a journal becomes another one, and just these frames were dropped, and those made
pub record Adds (before after : List Entry) (drops : List (ℕ × Cause)) (makes : List ℕ) : Type 0 where
  pub entries : List Entry
  pub added : after ≡ before ++ entries
  pub dropped : drops_in entries ≡ drops
  pub made : made_in entries ≡ makes

pub adds_listed : (j es : List Entry) → Adds j (j ++ es) (drops_in es) (made_in es)
adds_listed j es = record { entries = es; added = refl; dropped = refl; made = refl }

pub adds_nothing : (j : List Entry) → Adds j j [] []
adds_nothing j = record { entries = []; added = sym (append-nil j); dropped = refl; made = refl }

-- an entry that says neither
pub adds_quiet : (j : List Entry) (e : Entry) → drop_in e ≡ None → make_in e ≡ None → Adds j (j ++ e ∷ []) [] []
adds_quiet j e none other = record { entries = e ∷ []; added = refl; dropped = ap (λ o. cons_option o []) none; made = ap (λ o. cons_option o []) other }

pub adds_drop : (j : List Entry) (id : ℕ) (cause : Cause) → Adds j (j ++ Dropped id cause ∷ []) ((id, cause) ∷ []) []
adds_drop j id cause = record { entries = Dropped id cause ∷ []; added = refl; dropped = refl; made = refl }

adds_made : (j : List Entry) (id s : ℕ) (frame : List ℕ) → Adds j (j ++ Made id (switch_no s) frame ∷ []) [] (id ∷ [])
adds_made j id s frame = record { entries = Made id (switch_no s) frame ∷ []; added = refl; dropped = refl; made = refl }

pub adds_then : {a b c : List Entry} {d e : List (ℕ × Cause)} {m n : List ℕ} → Adds a b d m → Adds b c e n → Adds a c (d ++ e) (m ++ n)
adds_then {a} {b} {c} {d} {e} {m} {n} x y = record {
  entries = x.entries ++ y.entries;
  added = y.added ∙ ap (λ j. j ++ y.entries) x.added ∙ append_assoc a x.entries y.entries;
  dropped = filter_map-append drop_in x.entries y.entries ∙ ap (λ ds. ds ++ drops_in y.entries) x.dropped ∙ ap (λ ds. d ++ ds) y.dropped;
  made = filter_map-append make_in x.entries y.entries ∙ ap (λ ms. ms ++ made_in y.entries) x.made ∙ ap (λ ms. m ++ ms) y.made;
}

pub adds_is : {a b : List Entry} {d e : List (ℕ × Cause)} {m n : List ℕ} → d ≡ e → m ≡ n → Adds a b d m → Adds a b e n
adds_is same alike x = record { entries = x.entries; added = x.added; dropped = x.dropped ∙ same; made = x.made ∙ alike }

-- what is still dropped and made, where acts go on to speak of a frame
abbrev rest : (ℕ → Bool) → ℕ → SpokenFrame → List Act → List (ℕ × Cause)
rest is_failed begun Silent acts = dropped_of_made is_failed begun acts
rest is_failed begun (Waiting id again) acts = dropped_by_acts is_failed begun (Some id) acts
rest is_failed begun (Passed id) acts = copies_dropped is_failed begun (ports_passed acts) ++ dropped_of_made is_failed (begun + length (ports_passed acts)) acts
rest is_failed begun Over acts = dropped_of_made is_failed begun acts

abbrev made_later : ℕ → SpokenFrame → List Act → List ℕ
made_later begun Silent acts = numbers_made begun acts
made_later begun (Waiting id again) acts = made_by_acts begun (Some id) acts
made_later begun (Passed id) acts = numbers_made (begun + length (ports_passed acts)) acts
made_later begun Over acts = numbers_made begun acts

-- no end was put off while a frame waits for its own
abbrev IsFresh : SpokenFrame → List Entry → Type 0
IsFresh (Waiting id again) late = late ≡ []
IsFresh speech late = Unit {0}

-- what acts leave to those behind them
record LeavesTo (is_failed : ℕ → Bool) (begun : ℕ) (speech : SpokenFrame) (acts behind : List Act) : Type 0 where
  drops : rest is_failed begun speech behind ≡ rest is_failed begun speech acts
  makes : made_later begun speech behind ≡ made_later begun speech acts

module _ (is_failed : ℕ → Bool) (begun : ℕ) where
  none_left : (speech : SpokenFrame) → ([] ≡ rest is_failed begun speech []) × ([] ≡ made_later begun speech [])
  none_left Silent = (refl, refl)
  none_left (Waiting id again) = (refl, refl)
  none_left (Passed id) = (refl, refl)
  none_left Over = (refl, refl)

  module _ (acts : List Act) where
    over_control : (speech : SpokenFrame) (port : ℕ) (frame : List ℕ) → LeavesTo is_failed begun speech (act.Control port frame ∷ acts) acts
    over_control Silent port frame = record { drops = refl; makes = refl }
    over_control (Waiting id again) port frame = record { drops = refl; makes = refl }
    over_control (Passed id) port frame = record { drops = refl; makes = refl }
    over_control Over port frame = record { drops = refl; makes = refl }

    over_tell : (speech : SpokenFrame) (told : ToManager) → LeavesTo is_failed begun speech (act.Tell told ∷ acts) acts
    over_tell Silent told = record { drops = refl; makes = refl }
    over_tell (Waiting id again) told = record { drops = refl; makes = refl }
    over_tell (Passed id) told = record { drops = refl; makes = refl }
    over_tell Over told = record { drops = refl; makes = refl }

    over_grant : (speech : SpokenFrame) (pmac : Pmac) (amac : Mac) → LeavesTo is_failed begun speech (act.Grant pmac amac ∷ acts) acts
    over_grant Silent pmac amac = record { drops = refl; makes = refl }
    over_grant (Waiting id again) pmac amac = record { drops = refl; makes = refl }
    over_grant (Passed id) pmac amac = record { drops = refl; makes = refl }
    over_grant Over pmac amac = record { drops = refl; makes = refl }

    over_free : (speech : SpokenFrame) (pmac : Pmac) → LeavesTo is_failed begun speech (act.Free pmac ∷ acts) acts
    over_free Silent pmac = record { drops = refl; makes = refl }
    over_free (Waiting id again) pmac = record { drops = refl; makes = refl }
    over_free (Passed id) pmac = record { drops = refl; makes = refl }
    over_free Over pmac = record { drops = refl; makes = refl }

    -- a frame that is made has the next number, whatever was said before
    made_next : (speech : SpokenFrame) (frame : List ℕ) →
        (dropped_by_acts is_failed (begun + 1) (Some (begun + 1)) acts ≡ rest is_failed begun speech (act.Make frame ∷ acts))
        × ((begun + 1) ∷ made_by_acts (begun + 1) (Some (begun + 1)) acts ≡ made_later begun speech (act.Make frame ∷ acts))
    made_next Silent frame = (refl, refl)
    made_next (Waiting id again) frame = (ap (λ b. dropped_of_made is_failed b (act.Make frame ∷ acts)) (sym (add-zero begun)), ap (λ b. numbers_made b (act.Make frame ∷ acts)) (sym (add-zero begun)))
    made_next (Passed id) frame = (ap (λ b. dropped_of_made is_failed b (act.Make frame ∷ acts)) (sym (add-zero begun)), ap (λ b. numbers_made b (act.Make frame ∷ acts)) (sym (add-zero begun)))
    made_next Over frame = (refl, refl)

crosses : (s : ℕ) (w : WorldView) (id : ℕ) (again : Bool) → Adds w.journal (crossed_again w s id again).journal [] []
crosses s w id true = adds_quiet w.journal (Crossed id (switch_no s)) refl refl
crosses s w id false = adds_listed w.journal []

module _ (s : ℕ) where
  -- an end that is put off stands between what was put off and what follows
  put_off : (late : List Entry) (id : ℕ) (b : Bool) → drops_in (if b then late ++ Dropped id LinkDown ∷ [] else late) ≡ drops_in late ++ (if b then (id, LinkDown) ∷ [] else [])
  put_off late id true = filter_map-append drop_in late (Dropped id LinkDown ∷ [])
  put_off late id false = sym (append-nil (drops_in late))

  shifted : (late : List Entry) (id : ℕ) (b : Bool) (c m : List (ℕ × Cause)) →
      drops_in (if b then late ++ Dropped id LinkDown ∷ [] else late) ++ (c ++ m) ≡ drops_in late ++ (((if b then (id, LinkDown) ∷ [] else []) ++ c) ++ m)
  shifted late id b c m =
      let on : List (ℕ × Cause) = if b then (id, LinkDown) ∷ [] else [] in
      ap (λ x. x ++ (c ++ m)) (put_off late id b) ∙ append_assoc (drops_in late) on (c ++ m) ∙ ap (λ x. drops_in late ++ x) (sym (append_assoc on c m))

  makes_none : (late : List Entry) (id : ℕ) (b : Bool) → made_in (if b then late ++ Dropped id LinkDown ∷ [] else late) ≡ made_in late
  makes_none late id true = filter_map-append make_in late (Dropped id LinkDown ∷ []) ∙ append-nil (made_in late)
  makes_none late id false = refl

  before_none : (late : List Entry) (x : ℕ × Cause) (m : List (ℕ × Cause)) → late ≡ [] → x ∷ (drops_in late ++ m) ≡ drops_in late ++ x ∷ m
  before_none late x m fresh = ap (λ es. x ∷ (drops_in es ++ m)) fresh ∙ sym (ap (λ es. drops_in es ++ x ∷ m) fresh)

  one_more : (begun : ℕ) (port : ℕ) (ports : List ℕ) → begun + 1 + length ports ≡ begun + length (port ∷ ports)
  one_more begun port ports = grind arith

  abbrev Walk : WorldView → SpokenFrame → List Entry → List Act → Type 0
  Walk w speech late acts =
      Adds w.journal (with_late (fold (act_done s) (record { world = w; speech = speech; late = late }) acts)).journal
      (drops_in late ++ rest (is_failed_at w s) w.begun speech acts) (made_in late ++ made_later w.begun speech acts)

  -- acts that say nothing of it leave it to those behind them
  leaves : (w : WorldView) (speech : SpokenFrame) (late : List Entry) (acts behind : List Act) (after : List Entry) →
      LeavesTo (is_failed_at w s) w.begun speech acts behind →
      Adds w.journal after (drops_in late ++ rest (is_failed_at w s) w.begun speech behind) (made_in late ++ made_later w.begun speech behind) →
      Adds w.journal after (drops_in late ++ rest (is_failed_at w s) w.begun speech acts) (made_in late ++ made_later w.begun speech acts)
  leaves w speech late acts behind after to x = adds_is (ap (λ r. drops_in late ++ r) to.drops) (ap (λ r. made_in late ++ r) to.makes) x

  grants : (w : WorldView) (speech : SpokenFrame) (late : List Entry) (pmac : Pmac) (acts : List Act) (h : Option ℕ) →
      ((v : WorldView) → Walk v speech late acts) →
      Adds w.journal (with_late (fold (act_done s) (record { world = granted w s pmac h; speech = speech; late = late }) acts)).journal
      (drops_in late ++ rest (is_failed_at w s) w.begun speech acts) (made_in late ++ made_later w.begun speech acts)
  grants w speech late pmac acts None go = go w
  grants w speech late pmac acts (Some h) go =
      adds_then (adds_quiet w.journal (Granted pmac (host_no h) (switch_no s) pmac.port) refl refl) (go (noted w (Granted pmac (host_no h) (switch_no s) pmac.port)))

  walk : (w : WorldView) (speech : SpokenFrame) (late : List Entry) (acts : List Act) → IsFresh speech late → Walk w speech late acts
  walk w speech late [] fresh =
      let none = none_left (is_failed_at w s) w.begun speech in
      adds_is (sym (append-nil (drops_in late)) ∙ ap (λ r. drops_in late ++ r) none.0) (sym (append-nil (made_in late)) ∙ ap (λ r. made_in late ++ r) none.1)
      (adds_listed w.journal late)
  walk w speech late (act.Control port frame ∷ acts) fresh =
      leaves w speech late (act.Control port frame ∷ acts) acts _ (over_control (is_failed_at w s) w.begun acts speech port frame)
      (walk (sent_if_live w s port (Control frame)) speech late acts fresh)
  walk w speech late (act.Tell told ∷ acts) fresh =
      leaves w speech late (act.Tell told ∷ acts) acts _ (over_tell (is_failed_at w s) w.begun acts speech told) (walk (told_manager w s told) speech late acts fresh)
  walk w speech late (act.Grant pmac amac ∷ acts) fresh =
      leaves w speech late (act.Grant pmac amac ∷ acts) acts _ (over_grant (is_failed_at w s) w.begun acts speech pmac amac)
      (grants w speech late pmac acts (host_of w.plan amac) (λ v. walk v speech late acts fresh))
  walk w speech late (act.Free pmac ∷ acts) fresh =
      leaves w speech late (act.Free pmac ∷ acts) acts _ (over_free (is_failed_at w s) w.begun acts speech pmac)
      (adds_then (adds_quiet w.journal (Freed pmac) refl refl) (walk (noted w (Freed pmac)) speech late acts fresh))
  walk w speech late (act.Make frame ∷ acts) fresh =
      let next : ℕ = w.begun + 1 in
      let said = made_next (is_failed_at w s) w.begun acts speech frame in
      adds_is (ap (λ r. drops_in late ++ r) said.0) (ap (λ r. made_in late ++ r) said.1)
      (adds_then (adds_listed w.journal late)
      (adds_then (adds_made (w.journal ++ late) next s frame)
      (adds_then (adds_quiet ((w.journal ++ late) ++ Made next (switch_no s) frame ∷ []) (Crossed next (switch_no s)) refl refl)
      (walk (noted (begun_by (all_noted w late) (Made next (switch_no s) frame)) (Crossed next (switch_no s))) (Waiting next false) [] acts refl))))
  walk w Silent late (act.Redirect old new ∷ acts) fresh = walk w Silent late acts fresh
  walk w (Waiting id again) late (act.Redirect old new ∷ acts) fresh =
      adds_then (adds_quiet w.journal (Redirected id old new) refl refl) (walk (noted w (Redirected id old new)) (Waiting id true) late acts fresh)
  walk w (Passed id) late (act.Redirect old new ∷ acts) fresh = walk w (Passed id) late acts fresh
  walk w Over late (act.Redirect old new ∷ acts) fresh = walk w Over late acts fresh
  walk w Silent late (act.Pass port frame ∷ acts) fresh = walk w Silent late acts fresh
  walk w (Waiting id again) late (act.Pass port frame ∷ acts) fresh =
      let is_failed : ℕ → Bool = is_failed_at w s in
      let further : List ℕ = ports_passed acts in
      adds_is (shifted late id (is_failed port) (copies_dropped is_failed w.begun further) (dropped_of_made is_failed (w.begun + length further) acts))
      (ap (λ ms. ms ++ numbers_made (w.begun + length further) acts) (makes_none late id (is_failed port)))
      (adds_then (crosses s w id again)
      (walk (sent_if_live (crossed_again w s id again) s port (Data id frame)) (Passed id) (if is_failed port then late ++ Dropped id LinkDown ∷ [] else late) acts tt))
  walk w (Passed id) late (act.Pass port frame ∷ acts) fresh =
      let is_failed : ℕ → Bool = is_failed_at w s in
      let further : List ℕ = ports_passed acts in
      let next : ℕ = w.begun + 1 in
      let many = one_more w.begun port further in
      adds_is (shifted late next (is_failed port) (copies_dropped is_failed next further) (dropped_of_made is_failed (next + length further) acts)
      ∙ ap (λ b. drops_in late ++ ((dropped_on is_failed next port ++ copies_dropped is_failed next further) ++ dropped_of_made is_failed b acts)) many)
      (ap (λ ms. ms ++ numbers_made (next + length further) acts) (makes_none late next (is_failed port)) ∙ ap (λ b. made_in late ++ numbers_made b acts) many)
      (adds_then (adds_quiet w.journal (Copied id next) refl refl)
      (walk (sent_if_live (begun_by w (Copied id next)) s port (Data next frame)) (Passed id) (if is_failed port then late ++ Dropped next LinkDown ∷ [] else late) acts tt))
  walk w Over late (act.Pass port frame ∷ acts) fresh = walk w Over late acts fresh
  walk w Silent late (act.Take ∷ acts) fresh = walk w Silent late acts fresh
  walk w (Waiting id again) late (act.Take ∷ acts) fresh =
      adds_is (ap (λ b. drops_in late ++ dropped_of_made (is_failed_at w s) b acts) (sym (add-zero w.begun)))
      (ap (λ b. made_in late ++ numbers_made b acts) (sym (add-zero w.begun)))
      (adds_then (crosses s w id again) (adds_then (adds_quiet (crossed_again w s id again).journal (Taken id (switch_no s)) refl refl)
      (walk (noted (crossed_again w s id again) (Taken id (switch_no s))) Over late acts tt)))
  walk w (Passed id) late (act.Take ∷ acts) fresh = walk w (Passed id) late acts fresh
  walk w Over late (act.Take ∷ acts) fresh = walk w Over late acts fresh
  walk w Silent late (act.Drop cause ∷ acts) fresh = walk w Silent late acts fresh
  walk w (Waiting id again) late (act.Drop cause ∷ acts) fresh =
      adds_is (before_none late (id, cause) (dropped_of_made (is_failed_at w s) w.begun acts) fresh
      ∙ ap (λ b. drops_in late ++ (id, cause) ∷ dropped_of_made (is_failed_at w s) b acts) (sym (add-zero w.begun)))
      (ap (λ b. made_in late ++ numbers_made b acts) (sym (add-zero w.begun)))
      (adds_then (crosses s w id again) (adds_then (adds_drop (crossed_again w s id again).journal id cause)
      (walk (noted (crossed_again w s id again) (Dropped id cause)) Over late acts tt)))
  walk w (Passed id) late (act.Drop cause ∷ acts) fresh = walk w (Passed id) late acts fresh
  walk w Over late (act.Drop cause ∷ acts) fresh = walk w Over late acts fresh

  places : (w : WorldView) (old new : Place) → Adds w.journal (place_noted s old new w).journal [] []
  places w old new = by (same_place old new)
    where
      by : (b : Bool) → Adds w.journal (w.journal ++ (if b then [] else Placed (switch_no s) new ∷ [])) [] []
      by true = adds_listed w.journal []
      by false = adds_quiet w.journal (Placed (switch_no s) new) refl refl

  -- a switch's turn drops and makes what is left to be said
  turn_adds : (rule : SwitchRule) (w : WorldView) (input : SwitchInput) (speech : SpokenFrame) (new : WorldView) → IsFresh speech [] →
      (m : SwitchTurn rule w s input speech new) → Adds w.journal new.journal (rest (is_failed_at w s) w.begun speech m.acts) (made_later w.begun speech m.acts)
  turn_adds rule w input speech new fresh m =
      let drops : List (ℕ × Cause) = rest (is_failed_at w s) w.begun speech m.acts in
      let makes : List ℕ = made_later w.begun speech m.acts in
      let start : WorldView = record w { switches = set w.switches s m.after } in
      subst (λ (x : WorldView). Adds w.journal x.journal drops makes) (sym m.changed)
      (adds_is (append-nil drops) (append-nil makes)
      (adds_then (walk start speech [] m.acts fresh) (places (with_late (acts_done s (begins start speech) m.acts)) m.before.place m.after.place)))

pub none_came : (rule : SwitchRule) (w : WorldView) (s : ℕ) (input : SwitchInput) (new : WorldView) (m : SwitchTurn rule w s input Silent new) →
    Adds w.journal new.journal (dropped_by_acts (is_failed_at w s) w.begun None m.acts) (made_by_acts w.begun None m.acts)
none_came rule w s input new m = turn_adds s rule w input Silent new tt m

pub one_came : (rule : SwitchRule) (w : WorldView) (s : ℕ) (input : SwitchInput) (id : ℕ) (new : WorldView)
    (m : SwitchTurn rule (noted w (Crossed id (switch_no s))) s input (Waiting id false) new) →
    Adds w.journal new.journal (dropped_by_acts (is_failed_at w s) w.begun (Some id) m.acts) (made_by_acts w.begun (Some id) m.acts)
one_came rule w s input id new m =
    adds_then (adds_quiet w.journal (Crossed id (switch_no s)) refl refl) (turn_adds s rule (noted w (Crossed id (switch_no s))) input (Waiting id false) new refl m)
