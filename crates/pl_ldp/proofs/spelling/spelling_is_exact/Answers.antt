use Rattle.pl_layouts.specs.Control.{control_frame}
use Rattle.pl_ldp.proofs.Written.{control_in-control_bytes}
use Rattle.pl_ldp.proofs.Spelled.{control_bytes-control_in}
use Rattle.pl_ldp.proofs.spelling.spelling_is_exact.Goals as goal

pub returns-clause-read : goal.returns-clause-read
returns-clause-read c = control_in-control_bytes

pub returns-clause-carried : goal.returns-clause-carried
unfolding control_frame
returns-clause-carried c = control_in-control_bytes

pub returns-clause-spelled : goal.returns-clause-spelled
returns-clause-spelled c = control_bytes-control_in
