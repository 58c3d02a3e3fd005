use Rattle.std.proofs.Common.{◌∙◌, ap, Option, sym}
use Rattle.std.specs.Option.{option_and_then, option_map}
use Rattle.pl_wiring.specs.declared.host.HostNo.{HostNo}
use Rattle.pl_journal.specs.Places.{EdgePort, edge_port_of}
use Rattle.pl_journal.specs.Flights.{if_of_switch}
use Rattle.pl_checker.proofs.past.Past.entrance.Goals as goal

pub returns-in-None : goal.returns-in-None
returns-in-None c = λ past keeps.
    ap (λ (o : Option EdgePort). option_and_then (if_of_switch c.args.s.0) o) (c.in-None.ensures past keeps)
    ∙ ap (λ (o : Option HostNo). option_and_then (if_of_switch c.args.s.0)
    (option_and_then (edge_port_of c.args.wiring.now past) (option_map (λ (h : HostNo). h.0) o))) (sym c.in-Some.is)

pub returns-in-Some-point_of : goal.returns-in-Some-point_of
returns-in-Some-point_of c = λ past keeps.
    c.if_of_switch.ensures
    ∙ ap (λ (o : Option EdgePort). option_and_then (if_of_switch c.args.s.0) o) (c.in-Some-point_of.ensures past keeps)
    ∙ ap (λ (o : Option HostNo). option_and_then (if_of_switch c.args.s.0)
    (option_and_then (edge_port_of c.args.wiring.now past) (option_map (λ (h : HostNo). h.0) o))) (sym c.in-Some.is)
