use Rattle.pl_pcapng.specs.Cursor.{position_of}
use Rattle.pl_pcapng.proofs.Cursors.{begins_within}
use Rattle.pl_pcapng.proofs.sections.Sections.tail.Goals as goal

pub room-requires : goal.room-requires
room-requires c = begins_within c.args.file.now c.requires.0 (position_of c.args.self.now) c.requires.1
