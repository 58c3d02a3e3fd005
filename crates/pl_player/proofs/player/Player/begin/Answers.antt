use Rattle.std.proofs.Common.{subst, sym}
use Rattle.pl_world.specs.Worlds.{WorldView}
use Rattle.pl_player.proofs.player.Player.begin.Goals as goal

pub new-requires : goal.new-requires
new-requires g c = subst (λ (w : WorldView). g.W.Watcher.has_seen c.args.watcher w) (sym c.in_ok-world.ensures.booted) c.requires.unseen
