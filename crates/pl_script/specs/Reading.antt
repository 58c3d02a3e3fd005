-- A reading gives a value or the first refusal.
use Rattle.std.specs.Prelude.{◌≡◌, Option, Some, None, Result, Ok, Err, ⊤}
use Rattle.pl_script.specs.declared.error.ScriptError.{ScriptError}
use Rattle.pl_script.specs.declared.error.ScriptError.TheVariants.{Memory}

infixl 10 ◌>>=◌
abbrev pub ◌>>=◌ : {A B E : Type 0} → Result A E → (A → Result B E) → Result B E
(Ok x) >>= f = f x
(Err e) >>= f = Err e

-- the value, which has to be there
abbrev pub or_refused : {A E : Type 0} → Option A → E → Result A E
or_refused (Some x) e = Ok x
or_refused None e = Err e

-- What a function returned is what the reading gives, unless memory ran out.
abbrev pub LineFails : {A : Type 0} → ScriptError → Result A ScriptError → Type 0
LineFails Memory reading = ⊤
LineFails e reading = reading ≡ Err e

abbrev pub LineGives : {A : Type 0} → Result A ScriptError → Result A ScriptError → Type 0
LineGives (Ok x) reading = reading ≡ Ok x
LineGives (Err e) reading = LineFails e reading
