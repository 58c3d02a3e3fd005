use Rattle.std.proofs.Common.{inl, inr}
use Rattle.pl_journal.specs.declared.entry.Entry.TheVariants.{Sent}
use Rattle.pl_node.proofs.Exports.{among_of_Contains, Contains-of_among}
use Rattle.pl_queues.specs.Queues.{items_at}
use Rattle.pl_world.specs.declared.item.Item.TheVariants.{Data}
use Rattle.pl_world.specs.Changes.{host_no}
use Rattle.pl_law_arrival.proofs.JustSent.{waits_since}
use Rattle.pl_law_arrival.proofs.arrival_laws.a_frame_waits_at_its_host_once_it_is_sent.Goals as goal

pub returns : goal.returns
returns g c = λ old event new id h frame counted step there fresh.
    elim (waits_since g.S.SwitchLogic.rule g.M.ManagerLogic.rule g.H.HostLogic.rule old new counted event step id h frame (among_of_Contains (Sent id (host_no h) frame) new.journal there)) [
      | inl before ↦ absurd (fresh (Contains-of_among (Sent id (host_no h) frame) old.journal before))
      | inr waits ↦ Contains-of_among (Data id frame) (items_at new.from_hosts h) waits
    ]
