use Rattle.std.proofs.Common.{◌≡◌, ◌++◌, take}
use Rattle.std.specs.List.{flat_map}
use Rattle.std.specs.String.{string_bytes}
use Rattle.pl_generator.specs.ScriptText.{send_line}
use Rattle.pl_generator.proofs.script.add_sends.Given as goal

abbrev pub invariant-loop-frame : goal.invariant-loop-frame
invariant-loop-frame l =
    string_bytes l.text ≡ string_bytes l.fn.text ++ flat_map send_line (take l.frame-index l.frames)
