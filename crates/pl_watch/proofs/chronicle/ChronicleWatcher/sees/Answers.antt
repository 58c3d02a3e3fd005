use Rattle.pl_watch.proofs.chronicle.ChronicleWatcher.sees.Goals as goal

pub tell_entries-requires : goal.tell_entries-requires
tell_entries-requires g c = c.requires.seen

pub tell_event-requires-clause-orderly : goal.tell_event-requires-clause-orderly
tell_event-requires-clause-orderly g c = c.requires.orderly

pub tell_event-requires-clause-allowed : goal.tell_event-requires-clause-allowed
tell_event-requires-clause-allowed g c = c.requires.allowed

pub tell_event-requires-clause-all : goal.tell_event-requires-clause-all
tell_event-requires-clause-all g c = c.tell_entries.ensures.all

pub tell_event-requires-clause-seen : goal.tell_event-requires-clause-seen
tell_event-requires-clause-seen g c = c.tell_entries.ensures.seen

pub returns : goal.returns
returns g c = c.tell_event.ensures
