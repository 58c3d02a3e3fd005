-- The summary of a run: what its journal has of each kind, and what is left of each host.
use Rattle.std.specs.Prelude.{ℕ, ◌+◌, ◌-◌, ◌==◌, Bool, true, false, if◌then◌else◌, List, [], ◌∷◌, ◌++◌, length, codes, decimal, Option, Some, None}
use Rattle.std.specs.List.{count_by, flat_map}
use Rattle.std.specs.Option.{option_map_or}
use Rattle.pl_wiring.specs.declared.host.Host.{Host}
use Rattle.pl_wiring.specs.Labels.{switch_count}
use Rattle.pl_wiring.specs.Plan.{Plan}
use Rattle.pl_journal.specs.declared.cause.Cause.{Cause}
use Rattle.pl_journal.specs.declared.cause.Cause.TheVariants as causes
use Rattle.pl_journal.specs.declared.entry.Entry.{Entry}
use Rattle.pl_journal.specs.declared.entry.Entry.TheVariants.{Line, Sent, Skipped, Made, Crossed, Copied, Arrived, Taken, Dropped}
use Rattle.pl_journal.specs.Text.{cause_text}
use Rattle.pl_output.specs.declared.summary.Rest.{Rest}
use Rattle.pl_output.specs.declared.summary.host_counts.HostCounts.{HostCounts}
use Rattle.pl_output.specs.declared.summary.totals.Totals.{Totals}

-- the kinds that are counted
abbrev pub is_line : Entry → Bool
is_line (Line number) = true
is_line _ = false

abbrev pub is_sent : Entry → Bool
is_sent (Sent id host frame) = true
is_sent _ = false

abbrev pub is_made : Entry → Bool
is_made (Made id switch frame) = true
is_made _ = false

abbrev pub is_copied : Entry → Bool
is_copied (Copied id new) = true
is_copied _ = false

abbrev pub is_arrived : Entry → Bool
is_arrived (Arrived id host frame) = true
is_arrived _ = false

abbrev pub is_taken : Entry → Bool
is_taken (Taken id switch) = true
is_taken _ = false

abbrev pub is_dropped : Entry → Bool
is_dropped (Dropped id cause) = true
is_dropped _ = false

abbrev pub is_crossed : Entry → Bool
is_crossed (Crossed id switch) = true
is_crossed _ = false

abbrev pub totals_of : List Entry → Totals
totals_of journal = record {
  lines = count_by is_line journal;
  sent = count_by is_sent journal;
  made = count_by is_made journal;
  copied = count_by is_copied journal;
  arrived = count_by is_arrived journal;
  taken = count_by is_taken journal;
  dropped = count_by is_dropped journal;
  crossed = count_by is_crossed journal;
}

-- the frames that began and did not end
abbrev pub flying : Totals → ℕ
flying t = t.sent + t.made + t.copied - t.arrived - t.taken - t.dropped

-- the host of an entry, of each of three kinds
abbrev pub sender_of : Entry → Option ℕ
sender_of (Sent id host frame) = Some host.0
sender_of _ = None

abbrev pub receiver_of : Entry → Option ℕ
receiver_of (Arrived id host frame) = Some host.0
receiver_of _ = None

abbrev pub skipper_of : Entry → Option ℕ
skipper_of (Skipped host skip) = Some host.0
skipper_of _ = None

-- the causes for which a frame ends, in their order, and the index of each in it
abbrev pub all_causes : List Cause
all_causes =
    causes.NotPlaced ∷ causes.NoNextHop ∷ causes.NoAddress ∷ causes.HostGone ∷ causes.LinkDown ∷ causes.Lost ∷ causes.Spent
    ∷ causes.BadArp ∷ causes.NoMember ∷ []

abbrev pub index_of : Cause → ℕ
index_of causes.NotPlaced = 0
index_of causes.NoNextHop = 1
index_of causes.NoAddress = 2
index_of causes.HostGone = 3
index_of causes.LinkDown = 4
index_of causes.Lost = 5
index_of causes.Spent = 6
index_of causes.BadArp = 7
index_of causes.NoMember = 8

abbrev pub ending_of : Entry → Option ℕ
ending_of (Dropped id cause) = Some (index_of cause)
ending_of _ = None

-- how many entries have this number
abbrev pub count_of : (Entry → Option ℕ) → ℕ → List Entry → ℕ
count_of number n journal = count_by (λ e. option_map_or (λ m. m == n) (number e) false) journal

abbrev pub counts_of : ℕ → List Entry → HostCounts
counts_of n journal = record {
  sent = count_of sender_of n journal;
  arrived = count_of receiver_of n journal;
  skipped = count_of skipper_of n journal;
}

unfoldable pub fabric_line : Plan → List ℕ
fabric_line plan =
    codes "k " ++ decimal plan.k ++ codes " switches " ++ decimal (switch_count plan.k) ++ codes " links " ++ decimal (length plan.links)
    ++ codes " hosts " ++ decimal (length plan.hosts) ++ codes "\n"

unfoldable pub steps_line : ℕ → ℕ → ℕ → List ℕ
steps_line lines steps entries =
    codes "lines " ++ decimal lines ++ codes " steps " ++ decimal steps ++ codes " entries " ++ decimal entries ++ codes "\n"

unfoldable pub begun_text : Totals → List ℕ
begun_text t = codes "sent " ++ decimal t.sent ++ codes " made " ++ decimal t.made ++ codes " copied " ++ decimal t.copied

unfoldable pub ended_text : Totals → List ℕ
ended_text t = codes "arrived " ++ decimal t.arrived ++ codes " taken " ++ decimal t.taken ++ codes " dropped " ++ decimal t.dropped

unfoldable pub frames_line : Totals → List ℕ
frames_line t = begun_text t ++ codes " " ++ ended_text t ++ codes " flying " ++ decimal (flying t) ++ codes "\n"

-- a cause for which no frame ended has no line
unfoldable pub cause_line : Cause → ℕ → List ℕ
cause_line cause n = if n == 0 then [] else codes "dropped " ++ cause_text cause ++ codes " " ++ decimal n ++ codes "\n"

unfoldable pub rest_text : Rest → List ℕ
rest_text rest = codes "held " ++ decimal rest.held ++ codes " unread " ++ decimal rest.unread ++ codes " tail " ++ decimal rest.tail

unfoldable pub counts_text : HostCounts → List ℕ
counts_text c = codes "sent " ++ decimal c.sent ++ codes " arrived " ++ decimal c.arrived ++ codes " skipped " ++ decimal c.skipped

unfoldable pub host_line : Host → HostCounts → Rest → List ℕ
host_line host counts rest = codes "host " ++ host.name ++ codes " " ++ counts_text counts ++ codes " " ++ rest_text rest ++ codes "\n"

-- a line for each host, the first of them with this number
abbrev pub host_lines : List Entry → ℕ → List Host → List Rest → List ℕ
host_lines journal n (host ∷ hosts) (rest ∷ rests) = host_line host (counts_of n journal) rest ++ host_lines journal (n + 1) hosts rests
host_lines journal n _ _ = []

unfoldable pub crossings_line : ℕ → List ℕ
crossings_line crossed = codes "crossings " ++ decimal crossed ++ codes "\n"

abbrev pub settled_line : Bool → List ℕ
settled_line settled = if settled then codes "settled yes\n" else codes "settled no\n"

unfoldable pub summary_text : Plan → List Entry → ℕ → List Rest → Bool → List ℕ
summary_text plan journal steps rests settled =
    fabric_line plan ++ steps_line (totals_of journal).lines steps (length journal) ++ frames_line (totals_of journal)
    ++ flat_map (λ cause. cause_line cause (count_of ending_of (index_of cause) journal)) all_causes
    ++ host_lines journal 0 plan.hosts rests ++ crossings_line (totals_of journal).crossed ++ settled_line settled
