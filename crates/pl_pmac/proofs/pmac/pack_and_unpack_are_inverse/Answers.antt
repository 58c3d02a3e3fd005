use Rattle.pl_pmac.proofs.Inverse.{pmac_of-mac_of, mac_of-pmac_of}
use Rattle.pl_pmac.proofs.pmac.pack_and_unpack_are_inverse.Goals as goal

pub returns-clause-unpacked : goal.returns-clause-unpacked
returns-clause-unpacked c = pmac_of-mac_of

pub returns-clause-packed : goal.returns-clause-packed
returns-clause-packed c = mac_of-pmac_of
