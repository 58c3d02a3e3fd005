-- The reading of a file is what the grammar says of it, and nothing else.
use Rattle.std.proofs.Common.{◌≡◌, All, Bool, true, false, cond, ℕ, zero, suc, ◌+◌, ◌-◌, ◌≤◌, ◌⊎◌, ◌↔◌, inl, inr, List, [], ◌∷◌, ◌++◌, length, Option, Some, None, Ok, Err, refl, sym, ◌∙◌, ap, subst, arith, option_to_list}
use Rattle.std.specs.List.{AllByRecursion}
use Rattle.std.proofs.lemmas.List.Elements.{All-from_recursion}
use Rattle.pl_capture.specs.declared.records.Captured.{Captured}
use Rattle.pl_capture.specs.declared.endianness.Endianness.{Endianness}
use Rattle.pl_pcapng.specs.declared.block.Interface.{Interface}
use Rattle.pl_pcapng.specs.declared.block.Content.{Content}
use Rattle.pl_pcapng.specs.declared.block.Content.TheVariants.{BeginsSection, AddsInterface, HasRecord, PassedOver}
use Rattle.pl_pcapng.specs.declared.block.Block.{Block}
use Rattle.pl_pcapng.specs.declared.error.BlockError.{BlockError}
use Rattle.pl_pcapng.specs.declared.kind.BlockKind.{BlockKind}
use Rattle.pl_pcapng.specs.declared.kind.BlockKind.TheVariants.{SectionHeader, InterfaceDescription, EnhancedPacket, SimplePacket, Other}
use Rattle.pl_pcapng.specs.Kind.{least_length, IsLength}
use Rattle.pl_pcapng.specs.Layout.{begins_section, head_len, kind_at, total_at, end_at, padded}
use Rattle.pl_pcapng.specs.Position.{Position, first, moved, behind, record_of}
use Rattle.pl_pcapng.specs.Standing.{Said, Found, ended, IsInterfacePacket, Says, Stands}
use Rattle.pl_pcapng.specs.Standing.IsInterfacePacket.{OfNone, TooLong, TooWide, OfEthernet, OfAnother}
use Rattle.pl_pcapng.specs.Standing.Says.{OtherVersion, Section, Interfaces, Enhanced, Simple, Unknown}
use Rattle.pl_pcapng.specs.Standing.Stands.{NoHead, OtherMagic, OtherLength, Cut, OtherTrailer, Whole}
use Rattle.pl_pcapng.specs.Reading.{block_in}
use Rattle.pl_pcapng.specs.Sections.{AreBlocks, records_in, BeginsWithBlocks, IsSections, AreSectionsRefused, SectionsReading, with_first, read_on, reading_from, reading_of}
use Rattle.pl_pcapng.proofs.Tables.{block_in-row, block_row}

abbrev pub gives : List Captured → ℕ → SectionsReading
gives records tail = Ok (records, tail)

abbrev pub fails : BlockError → SectionsReading
fails e = Err e

abbrev pub read_as : Option Block → Found
read_as o = Ok o

abbrev pub whole : Block → Found
whole b = Ok (Some b)

abbrev pub none : Found
none = Ok None

abbrev pub fault : BlockError → Found
fault e = Err e

-- A whole block takes room.

-- a record lies within its block
abbrev IsWithin : ℕ → Option Captured → Type 0
IsWithin end None = Unit {0}
IsWithin end (Some c) = c.start + c.len ≤ end

abbrev IsWithinSaid : ℕ → Said → Type 0
IsWithinSaid end (Ok content) = IsWithin end (record_of content)
IsWithinSaid end (Err e) = Unit {0}

padded_least : (len : ℕ) → len ≤ padded len
padded_least len = omega arith

packet_within : (interfaces : List Interface) (n : ℕ) (captured : Interface → Captured) (at end : ℕ)
    (said : Said) → IsInterfacePacket interfaces n captured at end said → IsWithinSaid end said
packet_within interfaces n captured at end said (OfNone none) = tt
packet_within interfaces n captured at end said (TooLong i is long) = tt
packet_within interfaces n captured at end said (TooWide i is limit wide) = tt
packet_within interfaces n captured at end said (OfEthernet i is limit fits link) =
    omega (arith, fits, padded_least (captured i).len)
packet_within interfaces n captured at end said (OfAnother i is limit fits link) = tt

says_within : (file : List ℕ) (p : Position) (order : Endianness) (kind : BlockKind) (said : Said) →
    Says file p order kind said → IsWithinSaid (end_at file order p.at) said
says_within file p order kind said (OtherVersion other) = tt
says_within file p order kind said (Section is) = tt
says_within file p order kind said Interfaces = tt
says_within file p order kind said (Enhanced s row) = packet_within _ _ _ _ _ s row
says_within file p order kind said (Simple s row) = packet_within _ _ _ _ _ s row
says_within file p order kind said Unknown = tt

pub record TakesRoom (file : List ℕ) (p : Position) (b : Block) : Type 0 where
  pub least : p.at + 12 ≤ b.end
  pub within : b.end ≤ length file
  pub held : IsWithin b.end (record_of b.content)

abbrev TakesRoomFound : List ℕ → Position → Found → Type 0
TakesRoomFound file p (Ok (Some b)) = TakesRoom file p b
TakesRoomFound file p (Ok None) = Unit {0}
TakesRoomFound file p (Err e) = Unit {0}

kind_least : (kind : BlockKind) → 12 ≤ least_length kind
kind_least SectionHeader = omega arith
kind_least InterfaceDescription = omega arith
kind_least EnhancedPacket = omega arith
kind_least SimplePacket = omega arith
kind_least Other = omega arith

ended_room : (file : List ℕ) (p : Position) (end : ℕ) (said : Said) → p.at + 12 ≤ end →
    end ≤ length file → IsWithinSaid end said → TakesRoomFound file p (ended end said)
ended_room file p end (Ok content) least within held =
    record { least = least; within = within; held = held }
ended_room file p end (Err e) least within held = tt

takes_room : (file : List ℕ) (p : Position) (found : Found) → Stands file p found →
    TakesRoomFound file p found
takes_room file p found (NoHead short) = tt
takes_room file p found (OtherMagic room is) = tt
takes_room file p found (OtherLength order is other) = tt
takes_room file p found (Cut order is cut) = tt
takes_room file p found (OtherTrailer order is other) = tt
takes_room file p found (Whole order said is same says) =
    let kind = kind_at file order p.at in
    let sized : IsLength kind (total_at file order p.at) = is.sized.sized in
    let least : p.at + 12 ≤ end_at file order p.at = omega (arith, sized.0, kind_least kind) in
    ended_room file p (end_at file order p.at) said least is.whole (says_within file p order kind said says)

pub block_room : (file : List ℕ) (p : Position) (b : Block) → Stands file p (whole b) →
    TakesRoom file p b
block_room file p b there = takes_room file p (whole b) there

pub moved-at : (p : Position) (content : Content) (end : ℕ) → (moved p content end).at ≡ end
moved-at p (BeginsSection order) end = refl
moved-at p (AddsInterface interface) end = refl
moved-at p (HasRecord c) end = refl
moved-at p PassedOver end = refl

head_least : (file : List ℕ) (at : ℕ) → 8 ≤ head_len file at
head_least file at = least (begins_section file at)
  where
    least : (b : Bool) → 8 ≤ cond b 12 8
    least true = omega arith
    least false = omega arith

-- nothing stands at the end of a file
pub at_end : (file : List ℕ) (p : Position) → length file ≤ p.at → Stands file p none
at_end file p all = NoHead (omega (arith, head_least file p.at))

-- Walks.

reading_from-step : (n : ℕ) (file : List ℕ) (p : Position) (found : Found) →
    block_in file p ≡ found →
    reading_from (suc n) file p ≡ read_on found (λ b. reading_from n file (behind p b)) (length file - p.at)
unfolding reading_from
reading_from-step n file p found is =
    ap (λ (f : Found). read_on f (λ b. reading_from n file (behind p b)) (length file - p.at)) is

reading_from-none : (file : List ℕ) (p : Position) →
    reading_from zero file p ≡ gives [] (length file - p.at)
unfolding reading_from
reading_from-none file p = refl

with_first-gives : (o : Option Captured) (records : List Captured) (tail : ℕ) →
    with_first o (gives records tail) ≡ gives (option_to_list o ++ records) tail
with_first-gives None records tail = refl
with_first-gives (Some c) records tail = refl

with_first-fails : (o : Option Captured) (e : BlockError) → with_first o (fails e) ≡ fails e
with_first-fails None e = refl
with_first-fails (Some c) e = refl

next_room : (n : ℕ) (file : List ℕ) (from : Position) (b : Block) → length file ≤ from.at + suc n →
    Stands file from (whole b) → length file ≤ (behind from b).at + n
next_room n file from b room there =
    let is = moved-at from b.content b.end in
    omega (arith, is, (block_room file from b there).least)

-- blocks up to a tail are read as their records, and the tail
walk_to_tail : (n : ℕ) (file : List ℕ) (from : Position) (blocks : List Block) (to : Position) →
    length file ≤ from.at + n → AreBlocks file from blocks to → Stands file to none →
    reading_from n file from ≡ gives (records_in blocks) (length file - to.at)
walk_to_tail zero file from [] to room is tail =
    reading_from-none file from ∙ ap (λ (p : Position). gives [] (length file - p.at)) (sym is)
walk_to_tail (suc n) file from [] to room is tail =
    let here = subst (λ (p : Position). Stands file p none) is tail in
    reading_from-step n file from none (block_in-row file from none here)
    ∙ ap (λ (p : Position). gives [] (length file - p.at)) (sym is)
walk_to_tail zero file from (b ∷ bs) to room are tail =
    let taken = block_room file from b are.0 in
    absurd (omega (arith, taken.least, taken.within))
walk_to_tail (suc n) file from (b ∷ bs) to room are tail =
    let rest = walk_to_tail n file (behind from b) bs to (next_room n file from b room are.0) are.1 tail in
    reading_from-step n file from (whole b) (block_in-row file from (whole b) are.0)
    ∙ ap (with_first (record_of b.content)) rest
    ∙ with_first-gives (record_of b.content) (records_in bs) (length file - to.at)

-- blocks up to one that is refused are refused there
walk_to_fault : (n : ℕ) (file : List ℕ) (from : Position) (blocks : List Block) (to : Position)
    (e : BlockError) → length file ≤ from.at + n → AreBlocks file from blocks to →
    Stands file to (fault e) → reading_from n file from ≡ fails e
walk_to_fault zero file from [] to e room is wrong =
    let here = subst (λ (p : Position). Stands file p (fault e)) is wrong in
    let both : none ≡ fault e =
    sym (block_in-row file from none (at_end file from (omega arith)))
    ∙ block_in-row file from (fault e) here in
    absurd (cc)
walk_to_fault (suc n) file from [] to e room is wrong =
    let here = subst (λ (p : Position). Stands file p (fault e)) is wrong in
    reading_from-step n file from (fault e) (block_in-row file from (fault e) here)
walk_to_fault zero file from (b ∷ bs) to e room are wrong =
    let taken = block_room file from b are.0 in
    absurd (omega (arith, taken.least, taken.within))
walk_to_fault (suc n) file from (b ∷ bs) to e room are wrong =
    let rest =
    walk_to_fault n file (behind from b) bs to e (next_room n file from b room are.0) are.1 wrong in
    reading_from-step n file from (whole b) (block_in-row file from (whole b) are.0)
    ∙ ap (with_first (record_of b.content)) rest ∙ with_first-fails (record_of b.content) e

-- a walk comes to a tail, or to a block that is refused
abbrev Stops : List ℕ → Position → Type 0
Stops file to = Stands file to none ⊎ ((e : BlockError) × Stands file to (fault e))

abbrev Ends : List ℕ → Position → Type 0
Ends file from = (blocks : List Block) × (to : Position) × AreBlocks file from blocks to × Stops file to

ends_further : (file : List ℕ) (from : Position) (b : Block) → Stands file from (whole b) →
    Ends file (behind from b) → Ends file from
ends_further file from b there (blocks, to, are, stops) = (b ∷ blocks, to, (there, are), stops)

walks_end : (n : ℕ) (file : List ℕ) (from : Position) → length file ≤ from.at + n → Ends file from
walks_end zero file from room = ([], from, refl, inl (at_end file from (omega arith)))
walks_end (suc n) file from room =
    ends_by n file from room (λ p more. walks_end n file p more) (block_in file from) (block_row file from)
  where
    ends_by : (n : ℕ) (file : List ℕ) (from : Position) → length file ≤ from.at + suc n →
        ((p : Position) → length file ≤ p.at + n → Ends file p) → (found : Found) →
        Stands file from found → Ends file from
    ends_by n file from room more (Ok None) there = ([], from, refl, inl there)
    ends_by n file from room more (Err e) there = ([], from, refl, inr (e, there))
    ends_by n file from room more (Ok (Some b)) there =
        ends_further file from b there (more (behind from b) (next_room n file from b room there))

-- Files.

pub reading_of-tail : (file : List ℕ) (records : List Captured) (end : Position) →
    BeginsWithBlocks file records end → Stands file end none →
    reading_of file ≡ gives records (length file - end.at)
unfolding reading_of
reading_of-tail file records end begins tail =
    walk_to_tail (length file) file first begins.blocks end (omega arith) begins.follow tail
    ∙ ap (λ (rs : List Captured). gives rs (length file - end.at)) (sym begins.held)

pub reading_of-fault : (file : List ℕ) (records : List Captured) (at : Position) (e : BlockError) →
    BeginsWithBlocks file records at → Stands file at (fault e) → reading_of file ≡ fails e
unfolding reading_of
reading_of-fault file records at e begins wrong =
    walk_to_fault (length file) file first begins.blocks at e (omega arith) begins.follow wrong

abbrev IsEither : List ℕ → Type 0
IsEither file =
    ((records : List Captured) × (tail : ℕ) × IsSections file records tail) ⊎ ((e : BlockError) × AreSectionsRefused file e)

either_of : (file : List ℕ) → Ends file first → IsEither file
unfolding IsSections AreSectionsRefused
either_of file (blocks, to, are, inl tail) =
    let begins : BeginsWithBlocks file (records_in blocks) to =
    record { blocks = blocks; follow = are; held = refl } in
    inl (records_in blocks, length file - to.at, (to, begins, tail, refl))
either_of file (blocks, to, are, inr wrong) =
    let begins : BeginsWithBlocks file (records_in blocks) to =
    record { blocks = blocks; follow = are; held = refl } in
    inr (wrong.0, (records_in blocks, to, begins, wrong.1))

either : (file : List ℕ) → IsEither file
either file = either_of file (walks_end (length file) file first (omega arith))

sections_reading : (file : List ℕ) (records : List Captured) (tail : ℕ) →
    IsSections file records tail → reading_of file ≡ gives records tail
unfolding IsSections
sections_reading file records tail (end, begins, rest, is) =
    reading_of-tail file records end begins rest ∙ ap (gives records) (sym is)

refused_reading : (file : List ℕ) (e : BlockError) → AreSectionsRefused file e → reading_of file ≡ fails e
unfolding AreSectionsRefused
refused_reading file e (records, at, begins, wrong) =
    reading_of-fault file records at e begins wrong

abbrev read : List Captured × ℕ → SectionsReading
read both = Ok both

read_same : (p q : List Captured × ℕ) → read p ≡ read q → p ≡ q
read_same p q h = cc

gives_same : (rs qs : List Captured) (t u : ℕ) → gives rs t ≡ gives qs u → (rs ≡ qs) × (t ≡ u)
gives_same rs qs t u h =
    let both = read_same (rs, t) (qs, u) h in
    (ap (λ (p : List Captured × ℕ). p.0) both, ap (λ (p : List Captured × ℕ). p.1) both)

fails_same : (e f : BlockError) → fails e ≡ fails f → e ≡ f
fails_same e f h = cc

gives_not_fails : {P : Type 0} (rs : List Captured) (t : ℕ) (e : BlockError) →
    gives rs t ≡ fails e → P
gives_not_fails rs t e h = absurd (cc)

sections_from : (file : List ℕ) (records : List Captured) (tail : ℕ) →
    reading_of file ≡ gives records tail → IsEither file → IsSections file records tail
sections_from file records tail is (inl (rs, t, sections)) =
    let same = gives_same rs records t tail (sym (sections_reading file rs t sections) ∙ is) in
    let P : List Captured → Type 0 = λ qs. IsSections file qs t in
    subst (λ (u : ℕ). IsSections file records u) same.1 (subst P same.0 sections)
sections_from file records tail is (inr (e, other)) =
    gives_not_fails records tail e (sym is ∙ refused_reading file e other)

refused_from : (file : List ℕ) (e : BlockError) → reading_of file ≡ fails e → IsEither file →
    AreSectionsRefused file e
refused_from file e is (inl (rs, t, sections)) =
    gives_not_fails rs t e (sym (sections_reading file rs t sections) ∙ is)
refused_from file e is (inr (f, other)) =
    subst (AreSectionsRefused file) (fails_same f e (sym (refused_reading file f other) ∙ is)) other

pub one_reading-sections : (file : List ℕ) (records : List Captured) (tail : ℕ) →
    IsSections file records tail ↔ (reading_of file ≡ gives records tail)
one_reading-sections file records tail =
    (sections_reading file records tail, λ is. sections_from file records tail is (either file))

pub one_reading-refused : (file : List ℕ) (e : BlockError) →
    AreSectionsRefused file e ↔ (reading_of file ≡ fails e)
one_reading-refused file e = (refused_reading file e, λ is. refused_from file e is (either file))

-- The records of a reading lie within the file.

abbrev IsInFile : List ℕ → Captured → Type 0
IsInFile file c = c.start + c.len ≤ length file

option_within : (file : List ℕ) (end : ℕ) (o : Option Captured) (cs : List Captured) →
    end ≤ length file → IsWithin end o → AllByRecursion (IsInFile file) cs →
    AllByRecursion (IsInFile file) (option_to_list o ++ cs)
option_within file end None cs room is rest = rest
option_within file end (Some c) cs room is rest = (omega arith, rest)

blocks_within : (file : List ℕ) (from : Position) (blocks : List Block) (to : Position) →
    AreBlocks file from blocks to → AllByRecursion (IsInFile file) (records_in blocks)
blocks_within file from [] to is = tt
blocks_within file from (b ∷ bs) to are =
    let taken = block_room file from b are.0 in
    option_within file b.end (record_of b.content) (records_in bs) taken.within taken.held
    (blocks_within file (behind from b) bs to are.1)

sections_within : (file : List ℕ) (records : List Captured) (tail : ℕ) →
    IsSections file records tail → AllByRecursion (IsInFile file) records
unfolding IsSections
sections_within file records tail (end, begins, rest, is) =
    subst (AllByRecursion (IsInFile file)) (sym begins.held)
    (blocks_within file first begins.blocks end begins.follow)

pub reading-within : (file : List ℕ) (records : List Captured) (tail : ℕ) →
    reading_of file ≡ gives records tail → All (λ c. c.start + c.len ≤ length file) records
reading-within file records tail is =
    All-from_recursion (IsInFile file) records
    (sections_within file records tail (sections_from file records tail is (either file)))
