use Rattle.std.proofs.Common.{refl, sym}
use Rattle.pl_player.proofs.HostNumbers.{grant_read, grant_registers_none, on_ok}
use Rattle.pl_player.proofs.expecting.HostAddresses.read.Goals as goal

pub returns-in-Some : goal.returns-in-Some
returns-in-Some c =
    on_ok c.grant.result
    (λ own past read. grant_read c.args.h c.args.pmac past c.args.entry.now (c.in-Some.granted, c.in-Some.host) c.args.self.now
    (record { own = c.grant.new.own; largest = c.args.self.now.largest; is_it = c.args.self.now.is_it }) (sym c.in-Some.ensures)
    (grant_registers_none c.args.entry.now (c.in-Some.granted, c.in-Some.host) (sym c.in-Some.ensures)) own refl refl read)
    c.grant.ensures

pub returns-in-None : goal.returns-in-None
returns-in-None c = λ past read. c.read_registration.ensures c.args.h past (sym c.in-None.ensures) read
