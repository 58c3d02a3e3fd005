use Rattle.std.proofs.Common.{◌≡◌, drop, find}
use Rattle.std.specs.Str.{bytes_eq}
use Rattle.pl_log_lines.specs.Kinds.{kind_text}
use Rattle.pl_log_lines.proofs.kind.first_named.Given as goal

abbrev pub invariant-loop-kind : goal.invariant-loop-kind
invariant-loop-kind l = find (λ kind. bytes_eq (kind_text kind) l.text) l.kinds ≡ find (λ kind. bytes_eq (kind_text kind) l.text) (drop l.kind-index l.kinds)
