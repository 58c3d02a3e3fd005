-- How a call ended that plays lines.
use Rattle.std.specs.Prelude.{ℕ, Option, None, Some, Result, MatchResult}
use Rattle.pl_script_rule.specs.declared.stop.Stop.{Stop}
use Rattle.pl_script_rule.specs.Scenes.{UnlessWanting}
use Rattle.pl_player.specs.declared.player.Stopped.{Stopped}

abbrev pub EndsLines : {T : Type 0} → Result T Stopped → (Option (ℕ × Stop) → Type 0) → Type 0
EndsLines result P = MatchResult result (λ done. P None) (λ s. UnlessWanting s.stop (P (Some (s.line, s.stop))))
