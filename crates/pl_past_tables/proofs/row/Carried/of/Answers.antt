use Rattle.std.proofs.Common.{◌∙◌, ap, sym, length, List, ℕ}
use Rattle.pl_frame.specs.declared.address.Mac.{Mac}
use Rattle.pl_frame.specs.Ethernet.{destination_of}
use Rattle.pl_layouts.specs.Frames.{is_takeable}
use Rattle.pl_layouts.specs.Memberships.{group_of}
use Rattle.pl_journal.specs.Causes.{is_bad_arp}
use Rattle.pl_past_tables.proofs.row.Carried.of.Goals as goal

pub returns : goal.returns
returns c = λ text are most digits. record {
  spelled = digits;
  are_bytes = are;
  many = ap (λ (l : List ℕ). length l) c.bytes-bytes.ensures;
  least = c.requires;
  most = most;
  group = c.group_of.ensures.number ∙ ap (λ (m : Mac). group_of m) c.destination-to.ensures;
  takeable =
      c.is_takeable.ensures (c.destination-to.ensures ∙ ap (λ (l : List ℕ). destination_of l) (sym c.bytes-bytes.ensures))
      ∙ ap (λ (l : List ℕ). is_takeable l) c.bytes-bytes.ensures;
  bad_arp = c.is_bad_arp.ensures ∙ ap (λ (l : List ℕ). is_bad_arp l) c.bytes-bytes.ensures;
}
