use Rattle.std.proofs.Common.{refl}
use Rattle.pl_checker.proofs.past.Past.first.Goals as goal

pub returns : goal.returns
returns c = λ text. record {
  run = tt;
  just = λ id. refl;
  frames = c.new.ensures c.args.wiring.now text;
  addresses = c.new-2.ensures;
  fits = tt;
  holders = c.new-3.ensures;
  hosts = c.in_ok-hosts.ensures;
  links = c.new-4.ensures;
  groups = c.new-5.ensures c.args.wiring.now;
  restarts = refl;
}
