-- A name that is told has one content, so that one plan, one script and one list of captures are read.
use Rattle.std.proofs.Common.{◌≡◌, ℕ, ◌<◌, ◌≤◌, List, [], ◌∷◌, length, Option, Some, None, Result, Ok, Err, refl, sym, ap, ◌∙◌, subst, arith}
use Rattle.std.proofs.lemmas.List.Elements.{All-head, All-tail}
use Rattle.pl_shelf.specs.Held.{Held, IsLonger, HoldsExactly, holds}
use Rattle.pl_wiring.specs.declared.host.Host.{Host}
use Rattle.pl_wiring.specs.Plan.{Plan}
use Rattle.pl_script.specs.declared.script.ScriptLine.{ScriptLine}
use Rattle.pl_topology.specs.Meaning.{topology_of}
use Rattle.pl_inputs.specs.Folders.{in_folder}
use Rattle.pl_inputs.specs.Inputs.{AreCaptures, AreRead, HasLines, HasPlan, Inputs, IsCaptureAt, script_for}
use Rattle.pl_inputs.specs.declared.words.Network.{Network}
use Rattle.pl_inputs.specs.Words.{Asked}
use Rattle.pl_run.specs.Complete.{AreCapturesShown, AreShown, IsCaptureShown, IsShown}

pub ok_err : {T E : Type 0} (r : Result T E) (x : T) (e : E) → r ≡ Ok x → r ≡ Err e → ⊥
ok_err r x e ok err = cc

pub one_ok : {T E : Type 0} (r : Result T E) (x y : T) → r ≡ Ok x → r ≡ Ok y → x ≡ y
one_ok r x y is was = cc

pub one_err : {T E : Type 0} (r : Result T E) (x y : E) → r ≡ Err x → r ≡ Err y → x ≡ y
one_err r x y is was = cc

shown_whole : (held : Held) (bytes file : List ℕ) → held ≡ holds bytes → HoldsExactly held file → file ≡ bytes
shown_whole held bytes file is whole = subst (λ h. HoldsExactly h file) is whole

pub one_file : (held : List ℕ → Held) (name : List ℕ) → IsShown held name → (file other : List ℕ) → HoldsExactly (held name) file → HoldsExactly (held name) other → file ≡ other
one_file held name told file other is was = shown_whole (held name) told.0 file told.1 is ∙ sym (shown_whole (held name) told.0 other told.1 was)

shown_longer : (held : Held) (bytes : List ℕ) (limit : ℕ) → held ≡ holds bytes → IsLonger held limit → limit < length bytes
shown_longer held bytes limit is longer = subst (λ h. IsLonger h limit) is longer

-- a file is longer than its limit or within it
pub not_longer : (held : List ℕ → Held) (name : List ℕ) → IsShown held name → (file : List ℕ) (limit : ℕ) → HoldsExactly (held name) file → length file ≤ limit →
    IsLonger (held name) limit → ⊥
not_longer held name told file limit whole within longer =
    let same : length file ≡ length told.0 = ap (λ f. length f) (shown_whole (held name) told.0 file told.1 whole) in
    let more : limit < length told.0 = shown_longer (held name) told.0 limit told.1 longer in
    omega arith

pub one_plan : (held : List ℕ → Held) (name : List ℕ) → IsShown held name → (plan other : Plan) → HasPlan held name plan → HasPlan held name other → plan ≡ other
one_plan held name told plan other is was =
    let same : is.0 ≡ was.0 = one_file held name told is.0 was.0 is.1.whole was.1.whole in
    one_ok (topology_of is.0) plan other is.2 (ap topology_of same ∙ was.2)

pub one_script : (held : List ℕ → Held) (network : Network) (name : List ℕ) → IsShown held name → (plan : Plan) (lines others : List ScriptLine) → HasLines held network name plan lines →
    HasLines held network name plan others → lines ≡ others
one_script held network name told plan lines others is was =
    let same : is.0 ≡ was.0 = one_file held name told is.0 was.0 is.1.whole was.1.whole in
    one_ok (script_for network plan is.0) lines others is.2 (ap (script_for network plan) same ∙ was.2)

pub one_capture : (held : List ℕ → Held) (folder : List ℕ) (capture : Option (List ℕ)) → IsCaptureShown held folder capture → (file other : List ℕ) →
    IsCaptureAt held folder capture file → IsCaptureAt held folder capture other → file ≡ other
one_capture held folder None told file other is was = is ∙ sym was
one_capture held folder (Some name) told file other is was = one_file held (in_folder folder name) told file other is was

pub one_list : (held : List ℕ → Held) (folder : List ℕ) (hosts : List Host) → AreCapturesShown held folder hosts → (files others : List (List ℕ)) →
    AreCaptures held folder hosts files → AreCaptures held folder hosts others → files ≡ others
one_list held folder [] told [] [] are were = refl
one_list held folder [] told (f ∷ files) others are were = absurd are
one_list held folder [] told [] (g ∷ others) are were = absurd were
one_list held folder (h ∷ hosts) told [] others are were = absurd are
one_list held folder (h ∷ hosts) told (f ∷ files) [] are were = absurd were
one_list held folder (h ∷ hosts) told (f ∷ files) (g ∷ others) are were =
    let first = All-head (λ h. IsCaptureShown held folder h.capture) h hosts told in
    let rest = All-tail (λ h. IsCaptureShown held folder h.capture) h hosts told in
    ap (λ x. x ∷ files) (one_capture held folder h.capture first f g are.0 were.0)
    ∙ ap (λ xs. g ∷ xs) (one_list held folder hosts rest files others are.2 were.2)

abbrev made : Plan → List ScriptLine → List (List ℕ) → Inputs
made plan lines captures = record { plan = plan; lines = lines; captures = captures }

pub one_input : (held : List ℕ → Held) (asked : Asked) (i j : Inputs) → AreShown held asked i.plan.hosts → AreRead held asked i → AreRead held asked j → i ≡ j
one_input held asked i j told is was =
    let plan : i.plan ≡ j.plan = one_plan held asked.topology told.topology i.plan j.plan is.topology was.topology in
    let lines : i.lines ≡ j.lines = one_script held asked.network asked.script told.script i.plan i.lines j.lines is.script
    (subst (λ p. HasLines held asked.network asked.script p j.lines) (sym plan) was.script) in
    let captures : i.captures ≡ j.captures = one_list held asked.captures i.plan.hosts told.captures i.captures j.captures is.captures
    (subst (λ (p : Plan). AreCaptures held asked.captures p.hosts j.captures) (sym plan) was.captures) in
    ap (λ p. made p i.lines i.captures) plan ∙ ap (λ l. made j.plan l i.captures) lines ∙ ap (λ c. made j.plan j.lines c) captures
