-- A host says who it is: a legal journal of five entries, and changes of it. Two hosts hang on e0.0 of a fat tree of switches with four ports.
use Rattle.std.specs.Prelude.{◌≡◌, ℕ, ◌+◌, List, [], ◌∷◌, ◌++◌, codes, map, None, refl}
use Rattle.std.specs.Fmt.{digits}
use Rattle.std.specs.List.{range_with_len}
use Rattle.std.specs.Result.{result_unwrap_or}
use Rattle.std.proofs.Common.{sym, arith}
use Rattle.std.proofs.lemmas.Bool.{false≢true}
use Rattle.hex.specs.Hex.{decode_of, decode_pairs, encode_with}
use Rattle.pl_pmac.specs.declared.pmac.Pmac.{Pmac}
use Rattle.pl_wiring.specs.declared.label.SwitchNo.{SwitchNo}
use Rattle.pl_wiring.specs.declared.host.HostNo.{HostNo}
use Rattle.pl_wiring.specs.declared.host.Host.{Host}
use Rattle.pl_wiring.specs.FatTree.{canonical_links}
use Rattle.pl_wiring.specs.Plan.{Plan}
use Rattle.pl_journal.specs.Text.{journal_text}
use Rattle.pl_journal.specs.declared.entry.Entry.{Entry}
use Rattle.pl_journal.specs.declared.entry.Entry.TheVariants.{Line, Sent, Crossed, Taken, Granted, LinkDown}
use Rattle.pl_journal_text.specs.Writable.{IsWritable}
use Rattle.pl_verdict.specs.Verdicts.{AllFollow, FirstFails}

abbrev host_at : List ℕ → ℕ → ℕ → Host
host_at name last port = record {
  name = name;
  mac = record { 0 = 2 ∷ 0 ∷ 0 ∷ 0 ∷ 0 ∷ last ∷ [] };
  ip = record { 0 = 0x0a000000 + last };
  edge = record { 0 = 0 };
  port = port;
  capture = None;
}

abbrev two_hosts : Plan
two_hosts = record {
  k = 4;
  ids = map (λ n. record { 0 = n + 1 }) (range_with_len 0 20);
  links = canonical_links 4;
  hosts = host_at (codes "a") 10 0 ∷ host_at (codes "b") 11 1 ∷ [];
}

abbrev a : HostNo
a = record { 0 = 0 }

abbrev switch : ℕ → SwitchNo
switch n = record { 0 = n }

-- an ARP request of a for its own address, and the address that it is granted
abbrev a_starts : List ℕ
a_starts = result_unwrap_or (decode_of (codes "ffffffffffff02000000000a0806000108000604000102000000000a0a0000010000000000000a000001")) []

abbrev pmac_a : Pmac
pmac_a = record { pod = 0; position = 0; port = 0; vmid = 1 }

abbrev started : List Entry
started = Line 1 ∷ Sent 1 a a_starts ∷ Crossed 1 (switch 0) ∷ Granted pmac_a a (switch 0) 0 ∷ Taken 1 (switch 0) ∷ []

abbrev started_text : List ℕ
started_text =
    codes "line 1\n" ++ (codes "sent 1 a ffffffffffff02000000000a0806000108000604000102000000000a0a0000010000000000000a000001\n"
    ++ (codes "crossed 1 e0.0\n" ++ (codes "granted 00:00:00:00:00:01 a e0.0 0\n" ++ codes "taken 1 e0.0\n")))

its_text : journal_text two_hosts started ≡ started_text
unfolding digits encode_with decode_pairs
its_text = refl

-- an entry that may follow, and those behind it
infixr 10 ◌▹◌
abbrev ◌▹◌ : {A B : Type 0} → A → B → A × B
x ▹ y = (x, y)

all_five_follow : AllFollow two_hosts [] started
unfolding decode_pairs
all_five_follow =
    (tt, tt) ▹ (refl, tt) ▹ (refl, refl) ▹ (record { fresh = refl; port = refl; stood = refl; edge = refl }, tt)
    ▹ ((refl, record { of_host = refl; alone = refl; takeable = refl }), tt) ▹ tt

-- an address that is live is not granted
not_granted_again : FirstFails two_hosts [] (started ++ Granted pmac_a a (switch 0) 0 ∷ []) 5
unfolding decode_pairs
not_granted_again =
    (tt, tt) ▹ (refl, tt) ▹ (refl, refl) ▹ (record { fresh = refl; port = refl; stood = refl; edge = refl }, tt)
    ▹ ((refl, record { of_host = refl; alone = refl; takeable = refl }), tt) ▹ (λ follows. false≢true (sym follows.0.fresh))

-- nothing is a journal of no entries
nothing_follows : AllFollow two_hosts [] []
nothing_follows = tt

-- a link of no two switches that are joined is an entry, and no step
not_a_link : FirstFails two_hosts [] (Line 1 ∷ LinkDown (switch 0) (switch 16) ∷ []) 1
not_a_link = (tt, tt) ▹ (λ follows. false≢true (follows.0.adjacent))

-- and the other way round it is of no entry that a line can be of
wrong_order : ¬ IsWritable two_hosts (LinkDown (switch 8) (switch 0))
wrong_order fits = let less = fits.2 in absurd (omega arith)
