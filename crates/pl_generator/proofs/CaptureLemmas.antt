-- Captures with one more frame.
use Rattle.std.proofs.Common.{◌≡◌, ◌≢◌, ℕ, Bool, true, false, cond, ◌+◌, ◌<◌, List, [], ◌∷◌, ◌++◌, length, take, map, replicate, get_or, set, refl, sym, ◌∙◌, ap, subst, append_assoc, append-nil, eqb-true}
use Rattle.std.specs.List.{filter, flat_map}
use Rattle.std.proofs.lemmas.Bool.{eqb-false}
use Rattle.std.proofs.lemmas.List.{get_or-replicate, get_or-set_same, get_or-set_other, length-replicate, length-set, map-append, take_more}
use Rattle.std.proofs.lemmas.List.Concat.{flat_map-append}
use Rattle.std.proofs.lemmas.List.Elements.{filter-append}
use Rattle.pl_capture.specs.declared.endianness.Endianness.TheVariants.{Little}
use Rattle.pl_capture.specs.Spelling.{packet_bytes, saved_header}
use Rattle.pl_generator.specs.declared.drawing.DrawnFrame.{DrawnFrame}
use Rattle.pl_generator.specs.Captures.{AreDrawnCaptures, capture_of, is_from, packet_of, with_packet}

-- each host has an empty capture at first
pub none_yet : (hosts : ℕ) → AreDrawnCaptures hosts [] (replicate hosts saved_header)
none_yet hosts = record {
  count = length-replicate hosts saved_header;
  each = λ host within. get_or-replicate hosts host saved_header [] within ∙ sym (append-nil saved_header);
}

module _ {X Y : Type 0} (header : List ℕ) (text : Y → List ℕ) (part : X → Y) (xs ys : List X) where
  joined : header ++ flat_map text (map part (xs ++ ys)) ≡ (header ++ flat_map text (map part xs)) ++ flat_map text (map part ys)
  joined =
      ap (λ ps. header ++ flat_map text ps) (map-append part xs ys)
      ∙ ap (λ t. header ++ t) (flat_map-append text (map part xs) (map part ys))
      ∙ sym (append_assoc header (flat_map text (map part xs)) (flat_map text (map part ys)))

abbrev record_of : DrawnFrame → List ℕ
record_of frame = packet_bytes Little (packet_of frame)

only_one : (host : ℕ) (frame : DrawnFrame) (b : Bool) → is_from host frame ≡ b → filter (is_from host) (frame ∷ []) ≡ cond b (frame ∷ []) []
only_one host frame b is = ap (λ t. cond t (frame ∷ []) []) is

with_next : (host : ℕ) (frames : List DrawnFrame) (frame : DrawnFrame) (b : Bool) → is_from host frame ≡ b →
    capture_of host (frames ++ frame ∷ [])
    ≡ capture_of host frames ++ flat_map (packet_bytes Little) (map packet_of (cond b (frame ∷ []) []))
with_next host frames frame b is =
    ap (λ fs. saved_header ++ flat_map (packet_bytes Little) (map packet_of fs))
    (filter-append (is_from host) frames (frame ∷ []) ∙ ap (λ fs. filter (is_from host) frames ++ fs) (only_one host frame b is))
    ∙ joined saved_header (packet_bytes Little) packet_of (filter (is_from host) frames) (cond b (frame ∷ []) [])

-- the capture of the source has one more record, and every other capture is the same
at_source : (host : ℕ) (frames : List DrawnFrame) (frame : DrawnFrame) → frame.source ≡ host → is_from host frame ≡ true →
    capture_of host (frames ++ frame ∷ []) ≡ capture_of host frames ++ record_of frame
at_source host frames frame same is =
    with_next host frames frame true is ∙ ap (λ t. capture_of host frames ++ t) (append-nil (record_of frame))

elsewhere : (host : ℕ) (frames : List DrawnFrame) (frame : DrawnFrame) → is_from host frame ≡ false →
    capture_of host (frames ++ frame ∷ []) ≡ capture_of host frames
elsewhere host frames frame is = with_next host frames frame false is ∙ append-nil (capture_of host frames)

module _ (hosts : ℕ) (frames : List DrawnFrame) (frame : DrawnFrame) (captures : List (List ℕ)) (so_far : AreDrawnCaptures hosts frames captures) where
  each_more : (host : ℕ) → host < hosts → (b : Bool) → is_from host frame ≡ b →
      get_or (with_packet captures frame) host [] ≡ capture_of host (frames ++ frame ∷ [])
  each_more host within true is =
      let same : frame.source ≡ host = eqb-true frame.source host is in
      let there : host < length captures = subst (λ n. host < n) (sym so_far.count) within in
      ap (λ s. get_or (set captures s (get_or captures s [] ++ record_of frame)) host []) same
      ∙ get_or-set_same captures host (get_or captures host [] ++ record_of frame) [] there
      ∙ ap (λ t. t ++ record_of frame) (so_far.each host within)
      ∙ sym (at_source host frames frame same is)
  each_more host within false is =
      let other : host ≢ frame.source = λ e. eqb-false frame.source host is (sym e) in
      get_or-set_other captures frame.source host (get_or captures frame.source [] ++ record_of frame) [] other
      ∙ so_far.each host within
      ∙ sym (elsewhere host frames frame is)

  one_more : AreDrawnCaptures hosts (frames ++ frame ∷ []) (with_packet captures frame)
  one_more = record {
    count = length-set captures frame.source (get_or captures frame.source [] ++ record_of frame) ∙ so_far.count;
    each = λ host within. each_more host within (is_from host frame) refl;
  }

pub captures_more : (hosts : ℕ) (frames : List DrawnFrame) (i : ℕ) (d : DrawnFrame) (captures : List (List ℕ)) → i < length frames →
    AreDrawnCaptures hosts (take i frames) captures → AreDrawnCaptures hosts (take (i + 1) frames) (with_packet captures (get_or frames i d))
captures_more hosts frames i d captures within so_far =
    subst (λ fs. AreDrawnCaptures hosts fs (with_packet captures (get_or frames i d)))
    (sym (take_more frames i d within))
    (one_more hosts (take i frames) (get_or frames i d) captures so_far)
