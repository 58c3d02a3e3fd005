-- What stands in a host's inbox.
use Rattle.std.specs.Prelude.{◌≡◌, ℕ, ◌+◌, ◌==◌, if◌then◌else◌, List, [], ◌∷◌, ◌++◌, Option, None, Some, codes, map, min, slice_get, slice_index_or, slice_set}
use Rattle.pl_capture.specs.declared.endianness.Endianness.TheVariants.{Little}
use Rattle.pl_capture.specs.Spelling.{Packet, packet_bytes, saved_packet}
use Rattle.pl_wiring.specs.declared.host.Host.{Host}
use Rattle.pl_journal.specs.declared.entry.Entry.{Entry}
use Rattle.pl_journal.specs.declared.entry.Entry.TheVariants.{Line, Arrived}
use Rattle.pl_output.specs.declared.saving.receipt.Receipt.{Receipt}
use Rattle.pl_output.specs.declared.saving.receipt.LastLine.{LastLine}
use Rattle.pl_inputs.specs.Folders.{in_folder}

-- the name of the capture that is saved of it; the receipts; the index behind the line at which the last one came, and how many came
-- since that line, counted to a million
pub record Mail : Type 0 where
  pub name : List ℕ
  pub receipts : List Receipt
  pub behind : ℕ
  pub earlier : ℕ

-- the frame that an entry brings to a host
abbrev pub frame_in : Option Entry → List ℕ
frame_in (Some (Arrived id host frame)) = frame
frame_in _ = []

abbrev pub frame_at : List Entry → ℕ → List ℕ
frame_at journal index = frame_in (slice_get journal index)

-- the packet of a receipt
abbrev pub packet_at : List Entry → Receipt → Packet
packet_at journal r = saved_packet r.seconds r.micros (frame_at journal r.entry)

-- its record
abbrev pub record_of : List Entry → Receipt → List ℕ
record_of journal r = packet_bytes Little (packet_at journal r)

abbrev pub packets_at : List Entry → List Receipt → List Packet
packets_at journal receipts = map (packet_at journal) receipts

abbrev pub capture_name : List ℕ → Host → List ℕ
capture_name out host = in_folder out (host.name ++ codes ".pcap")

-- nothing was received yet
abbrev pub no_mail : List ℕ → Mail
no_mail name = record { name = name; receipts = []; behind = 0; earlier = 0 }

abbrev pub name_of : Mail → List ℕ
name_of mail = mail.name

-- it has no receipt yet
pub record IsEmpty (mail : Mail) : Type 0 where
  pub receipts : mail.receipts ≡ []
  pub behind : mail.behind ≡ 0
  pub earlier : mail.earlier ≡ 0

abbrev pub empty_mail : List ℕ → Host → Mail
empty_mail out host = no_mail (capture_name out host)

-- how many came since a line
abbrev pub earlier_in : Mail → LastLine → ℕ
earlier_in mail line = if mail.behind == line.behind then mail.earlier else 0

-- with one more, whose entry stands at this index
abbrev pub with_receipt : Mail → LastLine → ℕ → Mail
with_receipt mail line index =
    record mail {
      receipts = mail.receipts ++ record {
        seconds = line.number;
        micros = min (earlier_in mail line) 999999;
        entry = index;
      } ∷ [];
      behind = line.behind;
      earlier = min (earlier_in mail line) 999999 + 1;
    }

-- the last line behind an entry
abbrev pub line_after : Entry → ℕ → LastLine → LastLine
line_after (Line number) index line = record { number = number; behind = index + 1 }
line_after entry index line = line

-- the host at which an entry says that a frame arrived
abbrev pub arrives_at : Entry → Option ℕ
arrives_at (Arrived id host frame) = Some host.0
arrives_at entry = None

-- the inboxes of the hosts, with one more receipt at a host, if there is that host
abbrev pub delivered : List Mail → Option ℕ → LastLine → ℕ → List Mail
delivered inboxes None line index = inboxes
delivered inboxes (Some host) line index =
    slice_set inboxes host (with_receipt (slice_index_or inboxes host (no_mail [])) line index)
