use Rattle.std.proofs.Common.{sym}
use Rattle.pl_ports.proofs.LevelsShown.{at_first, once_aged, with_a_host, with_a_message}
use Rattle.pl_ports.proofs.level_laws.the_level_is_what_the_records_show.Goals as goal

pub returns : goal.returns
returns c = record {
  at_first = λ id k. at_first k;
  message = with_a_message;
  host = λ v port within. sym (with_a_host v port within);
  tick = λ v. once_aged v.ports;
}
