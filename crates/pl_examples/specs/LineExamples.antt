-- Worked examples: a line of each kind, in the fat tree of k = 4 with host a at port 0 and host b at port 1 of e0.0.
use Rattle.std.specs.Prelude.{◌≡◌, ℕ, List, [], ◌∷◌, ◌++◌, codes, Some, None, refl}
use Rattle.std.specs.Fmt.{digits}
use Rattle.hex.specs.Hex.{encode_with}
use Rattle.pl_pmac.specs.declared.pmac.Pmac.{Pmac}
use Rattle.pl_wiring.specs.declared.label.SwitchNo.{SwitchNo}
use Rattle.pl_wiring.specs.declared.host.HostNo.{HostNo}
use Rattle.pl_wiring.specs.declared.host.Host.{Host}
use Rattle.pl_wiring.specs.Plan.{Plan}
use Rattle.pl_journal.specs.declared.cause.Cause.TheVariants.{NoNextHop}
use Rattle.pl_journal.specs.declared.cause.Skip.TheVariants.{HoldFull}
use Rattle.pl_journal.specs.declared.entry.Entry.TheVariants.{Line, Sent, Skipped, Made, Crossed, Redirected, Copied, Arrived, Taken, Dropped, Granted, Registered, Freed, Placed, LinkDown, LinkUp, Moved, Restarted, Settled, Unsettled}
use Rattle.pl_journal.specs.Text.{journal_text}

abbrev named : List ℕ → ℕ → Host
named name port = record {
  name = name;
  mac = record { 0 = 2 ∷ 0 ∷ 0 ∷ 0 ∷ 0 ∷ port ∷ [] };
  ip = record { 0 = port };
  edge = record { 0 = 0 };
  port = port;
  capture = None;
}

abbrev two_hosts : Plan
two_hosts = record { k = 4; ids = []; links = []; hosts = named (codes "a") 0 ∷ named (codes "b") 1 ∷ [] }

abbrev a : HostNo
a = record { 0 = 0 }

abbrev b : HostNo
b = record { 0 = 1 }

-- e0.0, a0.0 and c0.0
abbrev edge : SwitchNo
edge = record { 0 = 0 }

abbrev aggregation : SwitchNo
aggregation = record { 0 = 8 }

abbrev core : SwitchNo
core = record { 0 = 16 }

abbrev address : ℕ → ℕ → Pmac
address port vmid = record { pod = 0; position = 0; port = port; vmid = vmid }

abbrev frame : List ℕ
frame = 255 ∷ 0 ∷ 171 ∷ []

frames_lines : journal_text two_hosts (
    Line 1 ∷ Sent 12 b frame ∷ Skipped a HoldFull ∷ Made 3 edge frame ∷ Crossed 4 aggregation ∷ Redirected 5 (address 0 1) (address 1 2)
    ∷ Copied 6 7 ∷ Arrived 8 a frame ∷ Taken 9 edge ∷ Dropped 7 NoNextHop ∷ [])
    ≡ codes "line 1\nsent 12 b ff00ab\nskipped a HoldFull\nmade 3 e0.0 ff00ab\ncrossed 4 a0.0\n"
    ++ codes "redirected 5 00:00:00:00:00:01 00:00:00:01:00:02\ncopied 6 7\narrived 8 a ff00ab\ntaken 9 e0.0\ndropped 7 NoNextHop\n"
unfolding digits encode_with
frames_lines = refl

fabric_lines : journal_text two_hosts (
    Granted (address 0 1) a edge 0 ∷ Registered (address 1 1) 18446744073709551615 ∷ Freed (address 1 1) ∷ Placed edge (record { level = Some 0; position = None; pod = Some 3 })
    ∷ LinkDown aggregation core ∷ LinkUp edge aggregation ∷ Moved b edge 1 ∷ Restarted 1 ∷ Settled 1 ∷ Unsettled 10 ∷ [])
    ≡ codes "granted 00:00:00:00:00:01 a e0.0 0\nregistered 00:00:00:01:00:01 18446744073709551615\nfreed 00:00:00:01:00:01\nplaced e0.0 0 - 3\n"
    ++ codes "linkdown a0.0 c0.0\nlinkup e0.0 a0.0\nmoved b e0.0 1\nrestarted 1\nsettled 1\nunsettled 10\n"
unfolding digits
fabric_lines = refl
