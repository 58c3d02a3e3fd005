-- Nothing is read of a capture that is not there.
use Rattle.std.proofs.Common.{◌≡◌, [], Ok, refl}
use Rattle.pl_capture.specs.Capture as libpcap
use Rattle.pl_capture.specs.Header.{header_of}
use Rattle.pl_inputs.specs.Readings.{reading_of}

pub nothing_is_read : reading_of [] ≡ Ok ([], 0)
unfolding reading_of libpcap.reading_of header_of
nothing_is_read = refl
