use Rattle.std.proofs.Common.{refl}
use Rattle.pl_past_tables.proofs.Exports.{no_row}
use Rattle.pl_checker.proofs.past.Past.restart.Goals as goal

pub returns : goal.returns
returns c = λ text past keeps follows. record {
  run = (keeps.run, follows.0);
  just = λ id. refl;
  frames = no_row c.args.wiring.now text past _ c.args.self.now.frames.rows.items keeps.frames refl (λ id. refl);
  addresses = keeps.addresses;
  fits = keeps.fits;
  holders = keeps.holders;
  hosts = keeps.hosts;
  links = keeps.links;
  groups = keeps.groups;
  restarts = follows.0;
}
