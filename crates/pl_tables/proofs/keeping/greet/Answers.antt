use Rattle.std.proofs.Common.{◌∙◌, ap, List, ℕ}
use Rattle.pl_frame.specs.declared.address.SwitchId.{SwitchId}
use Rattle.pl_node.specs.SwitchViews.{SwitchView}
use Rattle.pl_tables.proofs.Nothing.{greeted_follows, greeted_taken}
use Rattle.pl_tables.proofs.keeping.greet.Goals as goal

pub returns-clause-taken : goal.returns-clause-taken
returns-clause-taken c =
    let v : SwitchView = c.args.state.now in
    greeted_taken v c.take_list.new.state c.hear_hello.new.self c.args.epoch c.hear_hello.result c.args.out.now c.hear_hello.new.out
    (c.in_ok-take_list.ensures.avoid ∙ ap (λ (a : List (SwitchId × ℕ × ℕ)). record v { avoid = a }) c.new-none.ensures)
    c.hear_hello.ensures.taken

pub returns-clause-follows : goal.returns-clause-follows
returns-clause-follows c =
    let v : SwitchView = c.args.state.now in
    greeted_follows v c.take_list.new.state c.hear_hello.new.self c.args.epoch c.take_list.new.leads c.take_list.new.tables
    c.hear_hello.result c.args.out.now c.hear_hello.new.out
    (c.in_ok-take_list.ensures.avoid ∙ ap (λ (a : List (SwitchId × ℕ × ℕ)). record v { avoid = a }) c.new-none.ensures)
    c.take_list.ensures.follows c.hear_hello.ensures.taken c.hear_hello.ensures.err
