use Rattle.pl_pcapng.specs.Cursor.{position_of}
use Rattle.pl_pcapng.proofs.Cursors.{next_sought, next_same, next_found, next_ended, next_refused, next_again_ended, next_again_refused, next_nearer}
use Rattle.pl_pcapng.proofs.sections.Sections.next.Goals as goal

pub returns-clause-exact : goal.returns-clause-exact
returns-clause-exact c =
    next_sought c.args.file.now (position_of c.args.self.now) (position_of c.advance.new.self)
    c.advance.result c.advance.ensures

pub returns-clause-same_file : goal.returns-clause-same_file
returns-clause-same_file c =
    next_same c.args.file.now (position_of c.args.self.now) (position_of c.advance.new.self)
    c.advance.result c.advance.ensures c.requires.0 c.requires.1

pub returns-clause-found : goal.returns-clause-found
returns-clause-found c =
    next_found c.args.file.now (position_of c.args.self.now) (position_of c.advance.new.self)
    c.advance.result c.advance.ensures

pub returns-clause-ended : goal.returns-clause-ended
returns-clause-ended c =
    next_ended c.args.file.now (position_of c.args.self.now) (position_of c.advance.new.self)
    c.advance.result c.advance.ensures

pub returns-clause-refused : goal.returns-clause-refused
returns-clause-refused c =
    next_refused c.args.file.now (position_of c.args.self.now) (position_of c.advance.new.self)
    c.advance.result c.advance.ensures

pub returns-clause-again_ended : goal.returns-clause-again_ended
returns-clause-again_ended c =
    next_again_ended c.args.file.now (position_of c.args.self.now) (position_of c.advance.new.self)
    c.advance.result c.advance.ensures

pub returns-clause-again_refused : goal.returns-clause-again_refused
returns-clause-again_refused c =
    next_again_refused c.args.file.now (position_of c.args.self.now) (position_of c.advance.new.self)
    c.advance.result c.advance.ensures

pub returns-clause-nearer : goal.returns-clause-nearer
returns-clause-nearer c =
    next_nearer c.args.file.now (position_of c.args.self.now) (position_of c.advance.new.self)
    c.advance.result c.advance.ensures
