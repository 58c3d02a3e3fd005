use Rattle.std.proofs.Common.{refl, ◌∙◌, ap}
use Rattle.pl_journal.specs.declared.entry.Entry.TheVariants.{Freed}
use Rattle.pl_journal.specs.Places.{is_live}
use Rattle.pl_past_tables.proofs.Exports.{no_row}
use Rattle.pl_checker.proofs.past.Past.free.Goals as goal

pub returns : goal.returns
returns c = λ text past keeps next follows. record {
  run = (keeps.run, follows.0);
  just = λ id. refl;
  frames = no_row c.args.wiring.now text past (Freed c.args.x) c.args.self.now.frames.rows.items keeps.frames refl (λ id. refl);
  addresses = keeps.addresses;
  fits = keeps.fits;
  holders = c.in_ok-free.ensures c.args.wiring.now past c.args.x keeps.run keeps.fits keeps.holders next c.number_of-address.ensures
      (ap (is_live past) c.number_of-address.ensures ∙ follows.0) (c.point_of-there.ensures past keeps.addresses);
  hosts = keeps.hosts;
  links = keeps.links;
  groups = keeps.groups;
  restarts = keeps.restarts;
}
