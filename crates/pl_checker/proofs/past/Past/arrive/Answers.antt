use Rattle.std.proofs.Common.{refl, sym, subst, None}
use Rattle.std.proofs.lemmas.Bool.{both_ways}
use Rattle.pl_journal.specs.Flights.{is_flying}
use Rattle.pl_past.specs.Kept.{kept}
use Rattle.pl_past_tables.specs.Frames.{KeepsFrames}
use Rattle.pl_checker.proofs.Arrives.{arrives_nowhere}
use Rattle.pl_checker.proofs.Ended.{arrived_frames}
use Rattle.pl_checker.proofs.past.Past.arrive.Goals as goal

pub returns-in_default : goal.returns-in_default
returns-in_default c = λ text past keeps follows.
    absurd (both_ways (is_flying past c.args.id) (c.in_default.ensures.none c.args.wiring.now text past keeps.run keeps.frames) follows.0.0)

pub returns-in_default-point_of : goal.returns-in_default-point_of
returns-in_default-point_of c = λ text past keeps follows. absurd
    (arrives_nowhere c.args.wiring.now past c.args.id c.args.host c.args.frame.now None (c.in_default-point_of.ensures past keeps.hosts) refl follows)

pub returns : goal.returns
returns c = λ text past keeps follows.
    let w = c.args.wiring.now in
    let found = c.in-Some.ensures.found w text past keeps.run keeps.frames in
    record {
      run = (keeps.run, follows.0);
      just = λ id. refl;
      frames = subst (KeepsFrames w text _) (sym c.put.ensures)
          (arrived_frames w text past c.args.self.now.frames.rows.items c.args.id c.ending.result keeps.frames
          c.in-Some.ensures.place.0 c.in-Some.ensures.place.1 (c.ending.ensures text (kept w past c.args.id) found.1) c.args.host c.args.frame.now);
      addresses = keeps.addresses;
      fits = keeps.fits;
      holders = keeps.holders;
      hosts = keeps.hosts;
      links = keeps.links;
      groups = c.in_ok-arrive.ensures w past c.args.id c.args.host c.args.frame.now keeps.groups found.1.root (c.in-Some-point_of.ensures past keeps.hosts);
      restarts = keeps.restarts;
    }
