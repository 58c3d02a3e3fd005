-- A host moves, and hosts send and play.
use Rattle.std.proofs.Common.{◌≡◌, ◌≢◌, ℕ, zero, suc, get_or, set, List, [], ◌∷◌, Option, Some, None, slice_get, refl, sym, ap, subst, ◌∙◌, inl, inr, get_or-set_other}
use Rattle.std.specs.List.{list_any, position}
use Rattle.std.proofs.lemmas.Bool.{cases_eq}
use Rattle.std.proofs.lemmas.Option.{none-some}
use Rattle.std.proofs.lemmas.Nat.{same_from_place}
use Rattle.pl_wiring.specs.declared.host.Host.{Host}
use Rattle.pl_wiring.specs.Index.{port_index}
use Rattle.pl_wiring.specs.Plan.{Plan}
use Rattle.pl_node.specs.HostInputs.{HostAnswer, HostInput, HostRule}
use Rattle.pl_node.specs.HostInputs.HostInput.{HasMoved}
use Rattle.pl_journal.specs.declared.cause.Skip.{Skip}
use Rattle.pl_journal.specs.declared.entry.Entry.TheVariants.{Skipped}
use Rattle.pl_world.specs.declared.item.Item.{Item}
use Rattle.pl_world.specs.declared.attachment.AttachmentPoint.{AttachmentPoint}
use Rattle.pl_world.specs.Booting.{me_of}
use Rattle.pl_world.specs.Changes.{host_no, noted, stands_at}
use Rattle.pl_world.specs.LinksAndMoves.{host_moved}
use Rattle.pl_world.specs.OtherActs.{skip_noted}
use Rattle.pl_world.specs.WorldRule.{HostPlays, HostTurn}
use Rattle.pl_world.specs.Worlds.{WorldView}
use Rattle.pl_world.proofs.Exports.{by_host}
use Rattle.pl_law_addresses.proofs.Exports.{get-set_other}
use Rattle.pl_law_registration.specs.BeingRegistered.{AreAttachedApart}
use Rattle.pl_law_registration.specs.Probes.{is_packet, is_probe}
use Rattle.pl_law_registration.proofs.Facts.{Facts}
use Rattle.pl_law_registration.proofs.Hosts.{host_follows}
use Rattle.pl_law_registration.proofs.DeliveredOutOfPorts.{noted_follows}
use Rattle.pl_law_registration.proofs.Places.{Attends, moved_apart, edge_port_of}
use Rattle.pl_law_registration.proofs.Sending.{Keeps}
use Rattle.pl_law_registration.proofs.TurnsOfAKnownHost.{NoticedIn, noticed_on}

module _ (h : ℕ) (w : WorldView) (f : Facts w) (apart : AreAttachedApart w.attachments) (a : Attends h w) (rule : HostRule) where
  -- ---- a host does what it is told
  pub sends_on : (g : ℕ) (input : HostInput) (answer : HostAnswer) (new : WorldView) → HostTurn rule w g input answer new → Keeps h w new
  sends_on g input answer new turn = let same = by_host rule w g input answer new turn in record {
    rest = (ap (λ (x : WorldView). x.plan) same, ap (λ (x : WorldView). x.attachments) same);
    noticed = λ host attachment at_host at_attachment.
        noticed_on (edge_port_of h host attachment) w new (host_follows (edge_port_of h host attachment) rule w g input answer new turn) (a.noticed host attachment at_host at_attachment);
  }

  pub plays_on : (g : ℕ) (input : HostInput) (new : WorldView) → HostPlays rule w g input new → Keeps h w new
  plays_on g input new plays = by plays.skip _ plays.turn
    where
      by : (skip : Option Skip) (answer : HostAnswer) → HostTurn rule (skip_noted w g skip) g input answer new → Keeps h w new
      by None answer turn = sends_on g input answer new turn
      by (Some skip) answer turn =
          let e = Skipped (host_no g) skip in
          let u : WorldView = noted w e in
          let same = by_host rule u g input answer new turn in
          record {
            rest = (ap (λ (x : WorldView). x.plan) same, ap (λ (x : WorldView). x.attachments) same);
            noticed = λ host attachment at_host at_attachment.
                noticed_on (edge_port_of h host attachment) u new (host_follows (edge_port_of h host attachment) rule u g input answer new turn)
                (noticed_on (edge_port_of h host attachment) w u
                (noted_follows (edge_port_of h host attachment) w e)
                (a.noticed host attachment at_host at_attachment));
          }

  -- ---- it moves
  module _ (g : ℕ) (from to : AttachmentPoint) (was : slice_get w.attachments g ≡ Some from) (free : position (stands_at to.edge.0 to.port) w.attachments ≡ None) where
    abbrev moved : WorldView
    moved = host_moved w g from to

    noticed_moved : (host : Host) (attachment : AttachmentPoint) → slice_get w.plan.hosts h ≡ Some host → slice_get (set w.attachments g to) h ≡ Some attachment → NoticedIn (edge_port_of h host attachment) moved
    noticed_moved host attachment at_host at_attachment = elim (cases_eq h g) [
      | inl same ↦ λ v found ticks heard. absurd (none-some ticks (sym (none_heard w.heard g) ∙ ap (λ n. get_or (set w.heard g None) n None) (sym same) ∙ heard))
      | inr other ↦
          let before : slice_get w.attachments h ≡ Some attachment = sym (get-set_other w.attachments g h to other) ∙ at_attachment in
          let k = w.plan.k in
          let away : port_index k attachment.edge.0 attachment.port ≢ port_index k from.edge.0 from.port = (λ same.
          let two = same_from_place attachment.edge.0 attachment.port from.edge.0 from.port k (f.at_edges h attachment before).port (f.at_edges g from was).port same in
          other (apart h g attachment from before was two.0 two.1)) in
          noticed_on (edge_port_of h host attachment) w moved (record {
            switches = refl;
            heard = get_or-set_other w.heard g h None None other;
            out = λ waits. ap (λ (xs : List Item). list_any (is_probe (me_of host)) xs) (get_or-set_other w.out (port_index k from.edge.0 from.port) (port_index k attachment.edge.0 attachment.port) [] [] away) ∙ waits;
            mine = λ packet. ap (λ (xs : List Item). list_any is_packet xs) (get_or-set_other w.from_hosts g h [] [] other) ∙ packet;
          }) (a.noticed host attachment at_host before)
    ]
      where
        none_heard : (heard : List (Option ℕ)) (n : ℕ) → get_or (set heard n None) n None ≡ None
        none_heard [] n = refl
        none_heard (o ∷ heard) zero = refl
        none_heard (o ∷ heard) (suc n) = none_heard heard n

    pub goes_on : (answer : HostAnswer) (new : WorldView) → HostTurn rule moved g HasMoved answer new → Attends h new × AreAttachedApart new.attachments
    goes_on answer new turn =
        let same = by_host rule moved g HasMoved answer new turn in (
          record {
            noticed = λ host attachment at_host at_attachment.
                noticed_on (edge_port_of h host attachment) moved new (host_follows (edge_port_of h host attachment) rule moved g HasMoved answer new turn)
                (noticed_moved host attachment (ap (λ (p : Plan). slice_get p.hosts h) (sym (ap (λ (x : WorldView). x.plan) same)) ∙ at_host)
                (ap (λ (xs : List AttachmentPoint). slice_get xs h) (sym (ap (λ (x : WorldView). x.attachments) same)) ∙ at_attachment));
          },
          subst (λ (xs : List AttachmentPoint). AreAttachedApart xs) (sym (ap (λ (x : WorldView). x.attachments) same)) (moved_apart w.attachments g to apart free),
        )
