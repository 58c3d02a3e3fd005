use Rattle.std.proofs.Common.{refl, sym, ap, subst, ◌∙◌}
use Rattle.pl_layouts.specs.Frames.{mac_number}
use Rattle.pl_past_tables.specs.Frames.{KeepsFrames}
use Rattle.pl_checker.proofs.Begins.{made_frames}
use Rattle.pl_checker.proofs.past.Past.make.Goals as goal

pub returns : goal.returns
returns c = λ text past keeps most bytes digits follows.
    let w = c.args.wiring.now in
    let frame = c.args.frame.now in
    record {
      run = (keeps.run, follows.0);
      just = λ id. refl;
      frames = subst (KeepsFrames w text _) (sym c.in_ok-begin.ensures)
          (made_frames w text past c.args.self.now.frames.rows.items c.args.id c.args.s frame c.first-row.result keeps.run keeps.frames follows.0
          (c.first-row.ensures text frame (c.of.ensures text bytes most digits) (c.mac_number-to.ensures ∙ ap mac_number c.destination.ensures)));
      addresses = keeps.addresses;
      fits = keeps.fits;
      holders = keeps.holders;
      hosts = keeps.hosts;
      links = keeps.links;
      groups = keeps.groups;
      restarts = keeps.restarts;
    }
