use Rattle.std.proofs.Common.{refl, sym, ap, subst, ◌∙◌}
use Rattle.pl_layouts.specs.Frames.{mac_number}
use Rattle.pl_past_tables.specs.Frames.{KeepsFrames}
use Rattle.pl_checker.proofs.Begins.{sent_frames}
use Rattle.pl_checker.proofs.past.Past.send.Goals as goal

pub returns : goal.returns
returns c = λ text past keeps next most bytes digits follows.
    let w = c.args.wiring.now in
    let frame = c.args.frame.now in
    record {
      run = (keeps.run, follows.0);
      just = λ id. refl;
      frames = subst (KeepsFrames w text _) (sym c.in_ok-begin.ensures)
          (sent_frames w text past c.args.self.now.frames.rows.items c.args.id c.args.n c.args.host frame c.first-row.result keeps.run keeps.frames follows.0
          next
          (c.first-row.ensures text frame (c.of.ensures text bytes most digits) (c.mac_number-to.ensures ∙ ap mac_number c.destination.ensures)));
      addresses = keeps.addresses;
      fits = keeps.fits;
      holders = keeps.holders;
      hosts = keeps.hosts;
      links = keeps.links;
      groups = c.in_ok-send.ensures w past c.args.id keeps.groups;
      restarts = keeps.restarts;
    }
