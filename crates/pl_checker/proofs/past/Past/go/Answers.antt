use Rattle.std.proofs.Common.{refl}
use Rattle.pl_past_tables.proofs.Exports.{no_row}
use Rattle.pl_checker.proofs.Standings.{is_there}
use Rattle.pl_checker.proofs.past.Past.go.Goals as goal

pub returns : goal.returns
returns c = λ text past keeps next follows. record {
  run = (keeps.run, follows.0);
  just = λ id. refl;
  frames = no_row c.args.wiring.now text past _ c.args.self.now.frames.rows.items keeps.frames refl (λ id. refl);
  addresses = keeps.addresses;
  fits = keeps.fits;
  holders = keeps.holders;
  hosts = c.in_ok-go.ensures past keeps.run keeps.hosts (is_there c.args.wiring.now.hosts c.args.host.0 follows.0.0) follows.0.1 next;
  links = keeps.links;
  groups = keeps.groups;
  restarts = keeps.restarts;
}
