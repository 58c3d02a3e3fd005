-- The reading of a file is that of its kind.
use Rattle.std.proofs.Common.{◌≡◌, ℕ, ◌⊎◌, true, false, List, [], ◌∷◌, ◌++◌, Option, Some, None, IfSome, IfNone, Ok, Err, refl, sym, subst, inl, inr}
use Rattle.std.proofs.lemmas.Option.{none-some, same_Some}
use Rattle.pl_capture.specs.declared.records.Captured.{Captured}
use Rattle.pl_capture.specs.declared.records.Records.{Records}
use Rattle.pl_capture.specs.Capture as libpcap
use Rattle.pl_capture.specs.Records as records
use Rattle.pl_pcapng.specs.declared.error.BlockError.{BlockError}
use Rattle.pl_pcapng.specs.declared.error.BlockError.TheVariants.{BadMagic, BadBlock, BadTrailer, BadVersion, BadInterface, BadRecord, Memory}
use Rattle.pl_pcapng.specs.declared.sections.Sections.{Sections}
use Rattle.pl_pcapng.specs.Cursor as cursors
use Rattle.pl_pcapng.specs.Layout.{is_pcapng}
use Rattle.pl_pcapng.specs.Sections as pcapng
use Rattle.pl_inputs.specs.declared.fault.CaptureFault.TheVariants.{OfSections}
use Rattle.pl_inputs.specs.declared.loading.reader.Reader.{Reader}
use Rattle.pl_inputs.specs.declared.loading.reader.Reader.TheVariants.{Libpcap, Pcapng}
use Rattle.pl_inputs.specs.Reader.{HasRead, tail_of}
use Rattle.pl_inputs.specs.Readings.{by_records, by_sections, reading_of}
use Rattle.pl_inputs.specs.Walks.{IsRefusedWalk, of_sections}

pub read_by_records : (file : List ℕ) (r : libpcap.CaptureReading) → is_pcapng file ≡ false → libpcap.reading_of file ≡ r → reading_of file ≡ by_records r
unfolding reading_of
read_by_records file r kind is = rw (kind, is) refl

pub read_by_sections : (file : List ℕ) (r : pcapng.SectionsReading) → is_pcapng file ≡ true → pcapng.reading_of file ≡ r → reading_of file ≡ by_sections r
unfolding reading_of
read_by_sections file r kind is = rw (kind, is) refl

refused : (file : List ℕ) (e : BlockError) → is_pcapng file ≡ true → pcapng.reading_of file ≡ Err e → reading_of file ≡ Err (OfSections e)
refused file e kind is = read_by_sections file (Err e) kind is

-- a refusal of a pcapng file, unless memory ran out
pub refused_by_sections : (file : List ℕ) (e : BlockError) → is_pcapng file ≡ true → (e ≡ Memory) ⊎ (pcapng.reading_of file ≡ Err e) → IsRefusedWalk file (of_sections e)
refused_by_sections file Memory kind is = tt
refused_by_sections file (BadMagic at) kind (inr is) = refused file (BadMagic at) kind is
refused_by_sections file (BadBlock at) kind (inr is) = refused file (BadBlock at) kind is
refused_by_sections file (BadTrailer at) kind (inr is) = refused file (BadTrailer at) kind is
refused_by_sections file (BadVersion at) kind (inr is) = refused file (BadVersion at) kind is
refused_by_sections file (BadInterface at) kind (inr is) = refused file (BadInterface at) kind is
refused_by_sections file (BadRecord at) kind (inr is) = refused file (BadRecord at) kind is
refused_by_sections file (BadMagic at) kind (inl is) = absurd cc
refused_by_sections file (BadBlock at) kind (inl is) = absurd cc
refused_by_sections file (BadTrailer at) kind (inl is) = absurd cc
refused_by_sections file (BadVersion at) kind (inl is) = absurd cc
refused_by_sections file (BadInterface at) kind (inl is) = absurd cc
refused_by_sections file (BadRecord at) kind (inl is) = absurd cc

-- a reader of each kind
pub libpcap_in : (file : List ℕ) (reader : Reader) (cursor : Records) → reader ≡ Libpcap cursor → (cs : List Captured) → HasRead file cs reader →
    (is_pcapng file ≡ false) × records.HasReadRecords file cs cursor
libpcap_in file reader cursor is cs has = subst (λ r. HasRead file cs r) is has

pub pcapng_in : (file : List ℕ) (reader : Reader) (cursor : Sections) → reader ≡ Pcapng cursor → (cs : List Captured) → HasRead file cs reader →
    (is_pcapng file ≡ true) × cursors.HasReadBlocks file cs cursor
pcapng_in file reader cursor is cs has = subst (λ r. HasRead file cs r) is has

pub ended_by_records : (file : List ℕ) (cs : List Captured) (found : Option Captured) (cursor : Records) → is_pcapng file ≡ false →
    IfNone found (libpcap.reading_of file ≡ Ok (cs, records.tail_of file cursor)) → IfNone found (reading_of file ≡ Ok (cs, records.tail_of file cursor))
ended_by_records file cs None cursor kind is = read_by_records file (Ok (cs, records.tail_of file cursor)) kind is
ended_by_records file cs (Some c) cursor kind is = is

pub ended_by_sections : (file : List ℕ) (cs : List Captured) (found : Option Captured) (cursor : Sections) → is_pcapng file ≡ true →
    IfNone found (pcapng.reading_of file ≡ Ok (cs, cursors.tail_of file cursor)) → IfNone found (reading_of file ≡ Ok (cs, cursors.tail_of file cursor))
ended_by_sections file cs None cursor kind is = read_by_sections file (Ok (cs, cursors.tail_of file cursor)) kind is
ended_by_sections file cs (Some c) cursor kind is = is

pub found_by_sections : (file : List ℕ) (cs : List Captured) (found : Option Captured) (cursor : Sections) → is_pcapng file ≡ true →
    IfSome found (λ c. cursors.HasReadBlocks file (cs ++ c ∷ []) cursor) → IfSome found (λ c. HasRead file (cs ++ c ∷ []) (Pcapng cursor))
found_by_sections file cs None cursor kind is = is
found_by_sections file cs (Some c) cursor kind is = (kind, is)

-- a walk reads one record more, and comes to its end
pub one_more : (file : List ℕ) (cs : List Captured) (found : Option Captured) (c : Captured) (reader : Reader) (now : List Captured) → found ≡ Some c →
    IfSome found (λ x. HasRead file (cs ++ x ∷ []) reader) → now ≡ cs ++ c ∷ [] → HasRead file now reader
one_more file cs None c reader now is has more = absurd (none-some c is)
one_more file cs (Some d) c reader now is has more =
    subst (λ xs. HasRead file xs reader) (sym more) (subst (λ x. HasRead file (cs ++ x ∷ []) reader) (same_Some d c is) has)

pub all_read : (file : List ℕ) (cs : List Captured) (found : Option Captured) (reader : Reader) (tail : ℕ) → found ≡ None →
    IfNone found (reading_of file ≡ Ok (cs, tail_of file reader)) → tail ≡ tail_of file reader → reading_of file ≡ Ok (cs, tail)
all_read file cs None reader tail is read end = subst (λ t. reading_of file ≡ Ok (cs, t)) (sym end) read
all_read file cs (Some c) reader tail is read end = absurd (none-some c (sym is))
