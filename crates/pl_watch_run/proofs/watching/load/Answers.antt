use Rattle.std.proofs.Common.{refl, sym, ◌∙◌}
use Rattle.pl_inputs.specs.Loaded.{inputs_of}
use Rattle.pl_watch_run.specs.Answers.Answers.{IsRefused, NamesNone}
use Rattle.pl_watch_run.proofs.watching.load.Goals as goal

pub returns-in-Err-clause-refused : goal.returns-in-Err-clause-refused
returns-in-Err-clause-refused g c =
    IsRefused c.in-Err.ensures.err (record { same = c.load_inputs.ensures.same; reads = c.in-Err.ensures.reads; writes = c.load_inputs.ensures.writes })

pub returns-in-None-clause-refused : goal.returns-in-None-clause-refused
returns-in-None-clause-refused g c =
    NamesNone (inputs_of c.in-Ok.inputs) c.in-Ok.ensures.ok (sym c.look_of.ensures ∙ c.in-None.is) refl
    (record { same = c.load_inputs.ensures.same; reads = c.in-Ok.ensures.reads; writes = c.load_inputs.ensures.writes })

pub returns-in-Some-clause-same : goal.returns-in-Some-clause-same
returns-in-Some-clause-same g c =
    record { same = c.load_inputs.ensures.same; reads = c.in-Ok.ensures.reads; writes = c.load_inputs.ensures.writes }
