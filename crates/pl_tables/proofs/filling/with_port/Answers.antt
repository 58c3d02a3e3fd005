use Rattle.std.proofs.Common.{◌==◌, if◌then◌else◌, sym, ap, ◌∙◌}
use Rattle.pl_lists.specs.Ports.{ports_of}
use Rattle.pl_tables.specs.Leads.{has}
use Rattle.pl_tables.proofs.Setting.{put_in, taken_out}
use Rattle.pl_tables.proofs.filling.with_port.Goals as goal

pub returns-then-is_in : goal.returns-then-is_in
returns-then-is_in c = λ q.
    put_in (ports_of c.args.ports) (ports_of c.insert.new.self) c.args.port q c.insert.ensures
    ∙ ap (λ b. if c.args.port == q then b else has (ports_of c.args.ports) q) (sym c.if-is_in.true)

pub returns-else-is_in : goal.returns-else-is_in
returns-else-is_in c = λ q.
    taken_out (ports_of c.args.ports) (ports_of c.remove.new.self) c.args.port q c.remove.ensures
    ∙ ap (λ b. if c.args.port == q then b else has (ports_of c.args.ports) q) (sym c.if-is_in.false)
