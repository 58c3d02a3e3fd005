-- When two looks are the same: they show the same lines, in the same form.
use Rattle.std.specs.Prelude.{◌==◌, ◌&&◌, Bool}
use Rattle.std.specs.Str.{bytes_eq}
use Rattle.pl_wiring.specs.declared.label.SwitchNo.{SwitchNo}
use Rattle.pl_log_lines.specs.declared.kind.Kind.{Kind}
use Rattle.pl_log_lines.specs.declared.look.Look.{Look}
use Rattle.pl_log_lines.specs.Kinds.{kind_text}
use Rattle.pl_watch.specs.News.{same_bool, same_option}

abbrev pub same_label : SwitchNo → SwitchNo → Bool
same_label a b = a.0 == b.0

abbrev pub same_kind : Kind → Kind → Bool
same_kind a b = bytes_eq (kind_text a) (kind_text b)

abbrev pub same_look : Look → Look → Bool
same_look a b =
    (((same_option same_label a.of b.of && same_option same_kind a.kind b.kind) && (a.first == b.first)) && (a.last == b.last)) && same_bool a.json b.json
