-- Entries that say nothing of what is kept.
use Rattle.std.proofs.Common.{List, ◌∷◌, None, ℕ, refl}
use Rattle.pl_wiring.specs.Plan.{Plan}
use Rattle.pl_journal.specs.declared.entry.Entry.{Entry}
use Rattle.pl_journal.specs.declared.entry.Entry.TheVariants.{Line, Placed, Settled, Skipped, Unsettled}
use Rattle.pl_checker.specs.declared.past.Past.{Past}
use Rattle.pl_checker.specs.Past.{IsQuiet, Keeps}
use Rattle.pl_past_tables.proofs.Exports.{no_row}

abbrev pub after : Past → Past
after kept = record kept { just = None }

pub quiet_kept : (plan : Plan) (text : List ℕ) (past : List Entry) (kept : Past) (entry : Entry) → IsQuiet entry → Keeps plan text past kept →
    Keeps plan text (entry ∷ past) (after kept)
quiet_kept plan text past kept (Line n) quiet keeps = record {
  run = (keeps.run, tt);
  just = λ id. refl;
  frames = no_row plan text past (Line n) kept.frames.rows.items keeps.frames refl (λ id. refl);
  addresses = keeps.addresses;
  fits = keeps.fits;
  holders = keeps.holders;
  hosts = keeps.hosts;
  links = keeps.links;
  groups = keeps.groups;
  restarts = keeps.restarts;
}
quiet_kept plan text past kept (Skipped h skip) quiet keeps = record {
  run = (keeps.run, tt);
  just = λ id. refl;
  frames = no_row plan text past (Skipped h skip) kept.frames.rows.items keeps.frames refl (λ id. refl);
  addresses = keeps.addresses;
  fits = keeps.fits;
  holders = keeps.holders;
  hosts = keeps.hosts;
  links = keeps.links;
  groups = keeps.groups;
  restarts = keeps.restarts;
}
quiet_kept plan text past kept (Placed s place) quiet keeps = record {
  run = (keeps.run, tt);
  just = λ id. refl;
  frames = no_row plan text past (Placed s place) kept.frames.rows.items keeps.frames refl (λ id. refl);
  addresses = keeps.addresses;
  fits = keeps.fits;
  holders = keeps.holders;
  hosts = keeps.hosts;
  links = keeps.links;
  groups = keeps.groups;
  restarts = keeps.restarts;
}
quiet_kept plan text past kept (Settled n) quiet keeps = record {
  run = (keeps.run, tt);
  just = λ id. refl;
  frames = no_row plan text past (Settled n) kept.frames.rows.items keeps.frames refl (λ id. refl);
  addresses = keeps.addresses;
  fits = keeps.fits;
  holders = keeps.holders;
  hosts = keeps.hosts;
  links = keeps.links;
  groups = keeps.groups;
  restarts = keeps.restarts;
}
quiet_kept plan text past kept (Unsettled n) quiet keeps = record {
  run = (keeps.run, tt);
  just = λ id. refl;
  frames = no_row plan text past (Unsettled n) kept.frames.rows.items keeps.frames refl (λ id. refl);
  addresses = keeps.addresses;
  fits = keeps.fits;
  holders = keeps.holders;
  hosts = keeps.hosts;
  links = keeps.links;
  groups = keeps.groups;
  restarts = keeps.restarts;
}
quiet_kept plan text past kept entry quiet keeps = absurd quiet
