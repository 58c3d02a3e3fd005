-- The table of what stands at a position has one row for each position, and the function gives that row.
use Rattle.std.proofs.Common.{◌≡◌, ℕ, ◌+◌, ◌<◌, ◌≤◌, ◌%◌, ◌⊎◌, inl, inr, Bool, true, false, cond, List, length, Option, Some, None, Result, Ok, Err, refl, sym, ◌∙◌, ap, subst, arith}
use Rattle.std.specs.Prelude.{slice_get}
use Rattle.std.proofs.lemmas.Bool.{lt-ltb, le-ltb, eq-eqb, ne_eqb, cases_lt, cases_eq}
use Rattle.pl_capture.specs.Field.{field}
use Rattle.pl_capture.specs.declared.endianness.Endianness.{Endianness}
use Rattle.pl_capture.specs.declared.records.Captured.{Captured}
use Rattle.pl_pcapng.specs.declared.block.Interface.{Interface}
use Rattle.pl_pcapng.specs.declared.block.Content.{Content}
use Rattle.pl_pcapng.specs.declared.block.Content.TheVariants.{BeginsSection, HasRecord, PassedOver}
use Rattle.pl_pcapng.specs.declared.error.BlockError.{BlockError}
use Rattle.pl_pcapng.specs.declared.error.BlockError.TheVariants.{BadMagic, BadBlock, BadTrailer, BadVersion, BadRecord}
use Rattle.pl_pcapng.specs.declared.kind.BlockKind.{BlockKind}
use Rattle.pl_pcapng.specs.declared.kind.BlockKind.TheVariants.{SectionHeader, InterfaceDescription, EnhancedPacket, SimplePacket, Other}
use Rattle.pl_pcapng.specs.Kind.{IsLength, is_length, least_length}
use Rattle.pl_pcapng.specs.Layout.{head_len, kind_at, total_at, end_at, trailer_at, major_at, enhanced_packet, simple_packet, least_end}
use Rattle.pl_pcapng.specs.Position.{Position, order_of}
use Rattle.pl_pcapng.specs.Standing.{Said, Found, ended, IsInterfacePacket, Says, IsHead, IsSized, Stands}
use Rattle.pl_pcapng.specs.Standing.IsInterfacePacket.{OfNone, TooLong, TooWide, OfEthernet, OfAnother}
use Rattle.pl_pcapng.specs.Standing.Says.{OtherVersion, Section, Interfaces, Enhanced, Simple, Unknown}
use Rattle.pl_pcapng.specs.Standing.Stands.{NoHead, OtherMagic, OtherLength, Cut, OtherTrailer, Whole}
use Rattle.pl_pcapng.specs.Reading.{packet_of, packet_by, packet_in, content_in, given_by, head_in, block_of, block_by, block_in}

-- Packets.

abbrev says_so : Content → Said
says_so content = Ok content

abbrev refuses : BlockError → Said
refuses e = Err e

packet_of-long : (i : Interface) (c : Captured) (at end : ℕ) → 262144 < c.len →
    packet_of i c at end ≡ refuses (BadRecord at)
packet_of-long i c at end long = rw (lt-ltb 262144 c.len long) refl

packet_of-wide : (i : Interface) (c : Captured) (at end : ℕ) → c.len ≤ 262144 → end < least_end c →
    packet_of i c at end ≡ refuses (BadBlock at)
packet_of-wide i c at end limit wide =
    rw (le-ltb 262144 c.len limit, lt-ltb end (least_end c) wide) refl

packet_of-ethernet : (i : Interface) (c : Captured) (at end : ℕ) → c.len ≤ 262144 →
    least_end c ≤ end → i.link ≡ 1 → packet_of i c at end ≡ says_so (HasRecord c)
packet_of-ethernet i c at end limit fits link =
    rw (le-ltb 262144 c.len limit, le-ltb end (least_end c) fits, eq-eqb i.link 1 link) refl

packet_of-another : (i : Interface) (c : Captured) (at end : ℕ) → c.len ≤ 262144 →
    least_end c ≤ end → (i.link ≡ 1 → ⊥) → packet_of i c at end ≡ says_so PassedOver
packet_of-another i c at end limit fits link =
    rw (le-ltb 262144 c.len limit, le-ltb end (least_end c) fits, ne_eqb i.link 1 link) refl

module _ (interfaces : List Interface) (n : ℕ) (captured : Interface → Captured) (at end : ℕ) where
  packet_in-some : (o : Option Interface) → slice_get interfaces n ≡ o →
      packet_in interfaces n captured at end ≡ packet_by o captured at end
  packet_in-some o is = ap (λ (found : Option Interface). packet_by found captured at end) is

  packet_in-row : (said : Said) → IsInterfacePacket interfaces n captured at end said →
      packet_in interfaces n captured at end ≡ said
  packet_in-row said (OfNone none) = packet_in-some None none
  packet_in-row said (TooLong i is long) =
      packet_in-some (Some i) is ∙ packet_of-long i (captured i) at end long
  packet_in-row said (TooWide i is limit wide) =
      packet_in-some (Some i) is ∙ packet_of-wide i (captured i) at end limit wide
  packet_in-row said (OfEthernet i is limit fits link) =
      packet_in-some (Some i) is ∙ packet_of-ethernet i (captured i) at end limit fits link
  packet_in-row said (OfAnother i is limit fits link) =
      packet_in-some (Some i) is ∙ packet_of-another i (captured i) at end limit fits link

  abbrev Row : Said → Type 0
  Row said = IsInterfacePacket interfaces n captured at end said

  row_by : (o : Option Interface) → slice_get interfaces n ≡ o → Row (packet_by o captured at end)
  row_by None is = OfNone is
  row_by (Some i) is =
      elim (cases_lt 262144 (captured i).len) [
        | inl long ↦ subst Row (sym (packet_of-long i (captured i) at end long)) (TooLong i is long)
        | inr limit ↦ elim (cases_lt end (least_end (captured i))) [
          | inl wide ↦ subst Row (sym (packet_of-wide i (captured i) at end limit wide)) (TooWide i is limit wide)
          | inr fits ↦ elim (cases_eq i.link 1) [
            | inl link ↦ subst Row (sym (packet_of-ethernet i (captured i) at end limit fits link))
                (OfEthernet i is limit fits link)
            | inr link ↦ subst Row (sym (packet_of-another i (captured i) at end limit fits link))
                (OfAnother i is limit fits link)
          ]
        ]
      ]

  packet_row : Row (packet_in interfaces n captured at end)
  packet_row = row_by (slice_get interfaces n) refl

-- What a block says.

section_ok : (file : List ℕ) (p : Position) (order : Endianness) → major_at file order p.at ≡ 1 →
    content_in file p order SectionHeader ≡ says_so (BeginsSection order)
section_ok file p order is = rw (eq-eqb (major_at file order p.at) 1 is) refl

section_other : (file : List ℕ) (p : Position) (order : Endianness) →
    (major_at file order p.at ≡ 1 → ⊥) →
    content_in file p order SectionHeader ≡ refuses (BadVersion p.at)
section_other file p order other = rw (ne_eqb (major_at file order p.at) 1 other) refl

content_in-row : (file : List ℕ) (p : Position) (order : Endianness) (kind : BlockKind)
    (said : Said) → Says file p order kind said → content_in file p order kind ≡ said
content_in-row file p order kind said (OtherVersion other) = section_other file p order other
content_in-row file p order kind said (Section is) = section_ok file p order is
content_in-row file p order kind said Interfaces = refl
content_in-row file p order kind said (Enhanced s row) =
    packet_in-row p.interfaces (field file order (p.at + 8) 4) (λ i. enhanced_packet file order p.at) p.at (end_at file order p.at) s row
content_in-row file p order kind said (Simple s row) =
    packet_in-row p.interfaces 0 (simple_packet file order p.at) p.at (end_at file order p.at) s row
content_in-row file p order kind said Unknown = refl

content_row : (file : List ℕ) (p : Position) (order : Endianness) (kind : BlockKind) →
    Says file p order kind (content_in file p order kind)
content_row file p order SectionHeader =
    elim (cases_eq (major_at file order p.at) 1) [
      | inl is ↦ subst (λ (said : Said). Says file p order SectionHeader said)
          (sym (section_ok file p order is)) (Section is)
      | inr other ↦ subst (λ (said : Said). Says file p order SectionHeader said)
          (sym (section_other file p order other)) (OtherVersion other)
    ]
content_row file p order InterfaceDescription = Interfaces
content_row file p order EnhancedPacket =
    Enhanced (content_in file p order EnhancedPacket)
    (packet_row p.interfaces (field file order (p.at + 8) 4) (λ i. enhanced_packet file order p.at) p.at (end_at file order p.at))
content_row file p order SimplePacket =
    Simple (content_in file p order SimplePacket)
    (packet_row p.interfaces 0 (simple_packet file order p.at) p.at (end_at file order p.at))
content_row file p order Other = Unknown

-- Heads.

abbrev Head : Type 0
Head = Result (Option Endianness) BlockError

abbrev no_head : Head
no_head = Ok None

abbrev head : Endianness → Head
head order = Ok (Some order)

abbrev no_magic : ℕ → Head
no_magic at = Err (BadMagic at)

head_in-short : (file : List ℕ) (p : Position) → length file < p.at + head_len file p.at →
    head_in file p ≡ no_head
unfolding head_in
head_in-short file p short = rw (lt-ltb (length file) (p.at + head_len file p.at) short) refl

head_in-told : (file : List ℕ) (p : Position) (o : Option Endianness) →
    p.at + head_len file p.at ≤ length file → order_of file p ≡ o →
    head_in file p ≡ given_by p.at o
unfolding head_in
head_in-told file p o room is =
    ap (λ (b : Bool). cond b no_head (given_by p.at (order_of file p)))
    (le-ltb (length file) (p.at + head_len file p.at) room)
    ∙ ap (given_by p.at) is

block_in-head : (file : List ℕ) (p : Position) (h : Head) → head_in file p ≡ h →
    block_in file p ≡ block_by file p h
unfolding block_in
block_in-head file p h is = ap (block_by file p) is

-- Blocks with a head.

is_length-true : (kind : BlockKind) (total : ℕ) → IsLength kind total → is_length kind total ≡ true
is_length-true kind total is =
    rw (le-ltb total (least_length kind) is.0) (eq-eqb (total % 4) 0 is.1)

is_length-false : (kind : BlockKind) (total : ℕ) → (IsLength kind total → ⊥) →
    is_length kind total ≡ false
is_length-false kind total not =
    elim (cases_lt total (least_length kind)) [
      | inl small ↦ rw (lt-ltb total (least_length kind) small) refl
      | inr least ↦ rw (le-ltb total (least_length kind) least)
          (ne_eqb (total % 4) 0 (λ is. not (least, is)))
    ]

cases_length : (kind : BlockKind) (total : ℕ) →
    IsLength kind total ⊎ (IsLength kind total → ⊥)
cases_length kind total =
    elim (cases_lt total (least_length kind)) [
      | inl small ↦ inr (λ is. absurd (omega (arith, is.0)))
      | inr least ↦ elim (cases_eq (total % 4) 0) [
        | inl is ↦ inl (least, is)
        | inr other ↦ inr (λ is. other is.1)
      ]
    ]

abbrev none : Found
none = Ok None

abbrev fault : BlockError → Found
fault e = Err e

block_of-length : (file : List ℕ) (p : Position) (order : Endianness) →
    (IsLength (kind_at file order p.at) (total_at file order p.at) → ⊥) →
    block_of file p order ≡ fault (BadBlock p.at)
unfolding block_of
block_of-length file p order other =
    rw (is_length-false (kind_at file order p.at) (total_at file order p.at) other) refl

block_of-cut : (file : List ℕ) (p : Position) (order : Endianness) →
    IsLength (kind_at file order p.at) (total_at file order p.at) →
    length file < end_at file order p.at → block_of file p order ≡ none
unfolding block_of
block_of-cut file p order sized cut =
    rw (is_length-true (kind_at file order p.at) (total_at file order p.at) sized, lt-ltb (length file) (end_at file order p.at) cut) refl

block_of-trailer : (file : List ℕ) (p : Position) (order : Endianness) →
    IsLength (kind_at file order p.at) (total_at file order p.at) →
    end_at file order p.at ≤ length file →
    (trailer_at file order p.at ≡ total_at file order p.at → ⊥) →
    block_of file p order ≡ fault (BadTrailer p.at)
unfolding block_of
block_of-trailer file p order sized whole other =
    rw (
      is_length-true (kind_at file order p.at) (total_at file order p.at) sized,
      le-ltb (length file) (end_at file order p.at) whole,
      ne_eqb (trailer_at file order p.at) (total_at file order p.at) other,
    )
    refl

block_of-whole : (file : List ℕ) (p : Position) (order : Endianness) →
    IsLength (kind_at file order p.at) (total_at file order p.at) →
    end_at file order p.at ≤ length file → trailer_at file order p.at ≡ total_at file order p.at →
    block_of file p order ≡ ended (end_at file order p.at) (content_in file p order (kind_at file order p.at))
unfolding block_of
block_of-whole file p order sized whole same =
    rw (
      is_length-true (kind_at file order p.at) (total_at file order p.at) sized,
      le-ltb (length file) (end_at file order p.at) whole,
      eq-eqb (trailer_at file order p.at) (total_at file order p.at) same,
    )
    refl

-- The table.

block_in-order : (file : List ℕ) (p : Position) (order : Endianness) → IsHead file p order →
    block_in file p ≡ block_of file p order
block_in-order file p order is =
    block_in-head file p (head order) (head_in-told file p (Some order) is.room is.told)

pub block_in-row : (file : List ℕ) (p : Position) (found : Found) → Stands file p found →
    block_in file p ≡ found
block_in-row file p found (NoHead short) =
    block_in-head file p no_head (head_in-short file p short)
block_in-row file p found (OtherMagic room is) =
    block_in-head file p (no_magic p.at) (head_in-told file p None room is)
block_in-row file p found (OtherLength order is other) =
    block_in-order file p order is ∙ block_of-length file p order other
block_in-row file p found (Cut order is cut) =
    block_in-order file p order is.head ∙ block_of-cut file p order is.sized cut
block_in-row file p found (OtherTrailer order is other) =
    block_in-order file p order is.sized.head
    ∙ block_of-trailer file p order is.sized.sized is.whole other
block_in-row file p found (Whole order said is same says) =
    block_in-order file p order is.sized.head
    ∙ block_of-whole file p order is.sized.sized is.whole same
    ∙ ap (ended (end_at file order p.at))
    (content_in-row file p order (kind_at file order p.at) said says)

module _ (file : List ℕ) (p : Position) where
  abbrev Here : Found → Type 0
  Here found = Stands file p found

  -- from a head on
  row_sized : (order : Endianness) → IsSized file p order → Here (block_of file p order)
  row_sized order sized =
      elim (cases_lt (length file) (end_at file order p.at)) [
        | inl cut ↦ subst Here (sym (block_of-cut file p order sized.sized cut)) (Cut order sized cut)
        | inr whole ↦ elim (cases_eq (trailer_at file order p.at) (total_at file order p.at)) [
          | inl same ↦ subst Here (sym (block_of-whole file p order sized.sized whole same))
              (Whole order (content_in file p order (kind_at file order p.at)) (record { sized = sized; whole = whole }) same
              (content_row file p order (kind_at file order p.at)))
          | inr other ↦ subst Here (sym (block_of-trailer file p order sized.sized whole other))
              (OtherTrailer order (record { sized = sized; whole = whole }) other)
        ]
      ]

  row_head : (order : Endianness) → IsHead file p order → Here (block_of file p order)
  row_head order is =
      elim (cases_length (kind_at file order p.at) (total_at file order p.at)) [
        | inl sized ↦ row_sized order (record { head = is; sized = sized })
        | inr other ↦ subst Here (sym (block_of-length file p order other)) (OtherLength order is other)
      ]

  row_told : (o : Option Endianness) → p.at + head_len file p.at ≤ length file →
      order_of file p ≡ o → Here (block_in file p)
  row_told None room is =
      subst Here (sym (block_in-head file p (no_magic p.at) (head_in-told file p None room is))) (OtherMagic room is)
  row_told (Some order) room is =
      let there : IsHead file p order = record { room = room; told = is } in
      subst Here (sym (block_in-order file p order there)) (row_head order there)

  pub block_row : Stands file p (block_in file p)
  block_row =
      elim (cases_lt (length file) (p.at + head_len file p.at)) [
        | inl short ↦ subst Here (sym (block_in-head file p no_head (head_in-short file p short))) (NoHead short)
        | inr room ↦ row_told (order_of file p) room refl
      ]

-- one row at each position, and it is what the function gives
pub row_from : (file : List ℕ) (p : Position) (found : Found) → block_in file p ≡ found →
    Stands file p found
row_from file p found is = subst (λ (f : Found). Stands file p f) is (block_row file p)
