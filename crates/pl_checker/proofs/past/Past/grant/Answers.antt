use Rattle.std.proofs.Common.{refl, ◌∙◌, ap}
use Rattle.pl_journal.specs.Places.{is_live}
use Rattle.pl_checker.proofs.past.Past.grant.Goals as goal

pub returns : goal.returns
returns c = λ text past keeps next follows.
    let w = c.args.wiring.now in
    let edge = c.args.grant.point.edge in
    let port = c.args.grant.point.port in
    let addresses = c.in_ok-grant-2.ensures past keeps.addresses in
    record {
      run = (keeps.run, follows.0);
      just = λ id. refl;
      frames = c.renew.ensures w text past c.args.x c.args.grant.host edge port keeps.run keeps.frames keeps.just next addresses;
      addresses = addresses;
      fits = (keeps.fits, c.fits.ensures);
      holders = c.in_ok-grant.ensures w past c.args.x edge port keeps.run keeps.fits keeps.holders next c.number_of-address.ensures
          (ap (is_live past) c.number_of-address.ensures ∙ follows.0.fresh) (c.point_of-before.ensures past keeps.addresses);
      hosts = keeps.hosts;
      links = keeps.links;
      groups = keeps.groups;
      restarts = keeps.restarts;
    }
