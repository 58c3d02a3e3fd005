use Rattle.std.proofs.Common.{refl, sym, subst}
use Rattle.std.proofs.lemmas.Bool.{both_ways}
use Rattle.pl_journal.specs.Flights.{is_flying}
use Rattle.pl_past.specs.Kept.{kept}
use Rattle.pl_past_tables.specs.Frames.{KeepsFrames}
use Rattle.pl_checker.proofs.Redirects.{redirected_frames}
use Rattle.pl_checker.proofs.past.Past.redirect.Goals as goal

pub returns-in_default : goal.returns-in_default
returns-in_default c = λ text past keeps follows.
    absurd (both_ways (is_flying past c.args.id) (c.in_default.ensures.none c.args.wiring.now text past keeps.run keeps.frames) follows.0.0)

pub returns : goal.returns
returns c = λ text past keeps follows.
    let w = c.args.wiring.now in
    let found = c.in-Some.ensures.found w text past keeps.run keeps.frames in
    record {
      run = (keeps.run, follows.0);
      just = λ id. refl;
      frames = subst (KeepsFrames w text _) (sym c.put.ensures)
          (redirected_frames w text past c.args.self.now.frames.rows.items c.args.id c.args.old c.args.new c.redirecting.result keeps.frames
          c.in-Some.ensures.place.0 c.in-Some.ensures.place.1 (c.redirecting.ensures text (kept w past c.args.id) found.1));
      addresses = keeps.addresses;
      fits = keeps.fits;
      holders = keeps.holders;
      hosts = keeps.hosts;
      links = keeps.links;
      groups = keeps.groups;
      restarts = keeps.restarts;
    }
