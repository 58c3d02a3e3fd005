use Rattle.std.proofs.Common.{subst}
use Rattle.pl_world.specs.Flying.{IsItem}
use Rattle.pl_schedule.proofs.Hearing.{whole_fits}
use Rattle.pl_schedule.proofs.world.coming.coming_at.Goals as goal

pub returns-in-Control-clause-fits : goal.returns-in-Control-clause-fits
returns-in-Control-clause-fits c =
    λ v within sound. whole_fits v c.frame_at.result c.args.s.0 c.args.port _ _ c.frame_at.ensures within (subst IsItem c.in-Control.is sound).whole

pub returns-in-Data-clause-fits : goal.returns-in-Data-clause-fits
returns-in-Data-clause-fits c =
    λ v within sound. whole_fits v c.frame_at-in-Data.result c.args.s.0 c.args.port _ _ c.frame_at-in-Data.ensures within (subst IsItem c.in-Data.is sound).whole
