use Rattle.std.proofs.Common.{sym}
use Rattle.pl_player.proofs.HostNumbers.{nothing_read, registration_reads}
use Rattle.pl_player.proofs.expecting.HostAddresses.read_registration.Goals as goal

pub returns-in-Some : goal.returns-in-Some
returns-in-Some c = λ h past ungranted read.
    registration_reads h c.args.pmac past c.args.entry.now c.in-Some.registered c.in-Some.number c.is_same.result c.args.self.now c.register.new.self
    c.in-Some.ensures.entry c.is_same.ensures c.register.ensures read

pub returns-in-None : goal.returns-in-None
returns-in-None c = λ h past ungranted read. nothing_read h c.args.pmac past c.args.entry.now c.args.self.now ungranted (sym c.in-None.ensures.is) read
