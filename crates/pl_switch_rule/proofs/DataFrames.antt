-- Data frames: what rewriting and making leaves of the length and the type of a frame.
use Rattle.std.proofs.Common.{◌≡◌, ℕ, ◌+◌, ◌*◌, ◌^◌, ◌<◌, ◌≤◌, ◌==◌, false, List, length, drop, slice_index, Option, refl, sym, ap, ap₂, ◌∙◌, inl, arith, length-append, length-drop}
use Rattle.std.proofs.lemmas.List.{get_or-drop}
use Rattle.pl_frame.specs.declared.address.Ip4.{Ip4}
use Rattle.pl_frame.specs.declared.address.Mac.{Mac}
use Rattle.pl_frame.specs.Ethernet.{Fields, frame_of, kind_of, source_of, with_destination}
use Rattle.pl_frame.proofs.Exports.{fields_of-frame_of, fields_of-with_destination, length-frame_of}
use Rattle.pl_arp.specs.declared.packet.Arp.{Arp}
use Rattle.pl_arp.specs.Packet.{layout}
use Rattle.pl_arp.proofs.Exports.{length-layout}
use Rattle.pl_pmac.specs.declared.pmac.Pmac.{Pmac}
use Rattle.pl_pmac.specs.Pmac.{mac_of}
use Rattle.pl_pmac.proofs.Exports.{length-mac_of}
use Rattle.pl_switch_rule.specs.Delivering.{newer_address}
use Rattle.pl_layouts.specs.Frames.{HasSixBytes, arriving}
use Rattle.pl_node.specs.Accounting.{IsMade, IsWholeFrame}
use Rattle.pl_switch_rule.specs.Messages.{answer_frame, flood_frame, probe_frame}
use Rattle.pl_layouts.proofs.Exports.{length-arriving, others_are_kept}
use Rattle.pl_switch_rule.proofs.GrantingParts.{source_has_six}
use Rattle.pl_layouts.specs.ArpFrames.{arp_frame, broadcast, no_mac}

-- the type stands in the bytes 12 and 13
kind_by : (f : List ℕ) → kind_of f ≡ slice_index f 12 * 256 ^ 1 + (slice_index f 13 * 256 ^ 0 + 0)
kind_by f = ap₂ (λ a b. a * 256 ^ 1 + (b * 256 ^ 0 + 0)) (get_or-drop 12 f 0 0) (get_or-drop 12 f 1 0)

kind_same : (f g : List ℕ) → slice_index f 12 ≡ slice_index g 12 → slice_index f 13 ≡ slice_index g 13 → kind_of f ≡ kind_of g
kind_same f g a b = kind_by f ∙ ap₂ (λ a b. a * 256 ^ 1 + (b * 256 ^ 0 + 0)) a b ∙ sym (kind_by g)

-- as long, and of the same type
made_like : (f g : List ℕ) → length f ≡ length g → kind_of f ≡ kind_of g → IsMade g → IsMade f
made_like f g long kind made = record {
  kind = ap (λ n. n == 0x88b5) kind ∙ made.kind;
  whole = record { low = omega (arith, long, made.whole.low); high = omega (arith, long, made.whole.high) };
}

pub kind_of-arriving : (frame : List ℕ) (from to : Option Mac) → 14 ≤ length frame → HasSixBytes from → HasSixBytes to →
    kind_of (arriving frame from to) ≡ kind_of frame
kind_of-arriving frame from to long six_from six_to =
    let kept = others_are_kept frame from to in
    kind_same (arriving frame from to) frame
    (kept 12 long six_from six_to (record { behind = omega arith; outside = λ readable. (inl (omega arith), inl (omega arith)) }))
    (kept 13 long six_from six_to (record { behind = omega arith; outside = λ readable. (inl (omega arith), inl (omega arith)) }))

pub arriving_made : (frame : List ℕ) (from to : Option Mac) → IsMade frame → HasSixBytes from → HasSixBytes to →
    IsMade (arriving frame from to)
arriving_made frame from to made six_from six_to =
    made_like (arriving frame from to) frame (length-arriving frame from to made.whole.low six_from six_to)
    (kind_of-arriving frame from to made.whole.low six_from six_to) made

pub with_destination_made : (frame : List ℕ) (to : Mac) → IsMade frame → length to.0 ≡ 6 → IsMade (with_destination frame to)
with_destination_made frame to made six =
    made_like (with_destination frame to) frame
    (omega (arith, length-append to.0 (drop 6 frame), length-drop 6 frame, six, made.whole.low))
    (ap (λ f. f.kind) (fields_of-with_destination frame to (omega (arith, made.whole.low)) six))
    made

-- a frame with a type other than that of control
frame_made : (f : Fields) → length f.dst.0 ≡ 6 → length f.src.0 ≡ 6 → f.kind < 2 ^ 16 → (f.kind == 0x88b5) ≡ false → length f.payload ≡ 28 →
    IsMade (frame_of f)
frame_made f dst src small other long =
    let all = length-frame_of f dst src in
    record {
      kind = ap (λ g. g.kind == 0x88b5) (fields_of-frame_of f dst src small) ∙ other;
      whole = record { low = omega (arith, all, long); high = omega (arith, all, long) };
    }

pub arp_frame_made : (to : Mac) (a : Arp) → length to.0 ≡ 6 → length a.sha.0 ≡ 6 → length a.tha.0 ≡ 6 → IsMade (arp_frame to a)
unfolding arp_frame
arp_frame_made to a dst sha tha =
    frame_made (record { dst = to; src = a.sha; kind = 0x0806; payload = layout a }) dst sha (omega arith) refl (length-layout a sha tha)

pub newer_address_made : (frame : List ℕ) (new : Pmac) (ip : Ip4) → IsWholeFrame frame → IsMade (newer_address frame new ip)
newer_address_made frame new ip whole =
    arp_frame_made (source_of frame) (record { op = 2; sha = mac_of new; spa = ip; tha = source_of frame; tpa = ip })
    (source_has_six frame whole.low) (length-mac_of new) (source_has_six frame whole.low)

pub answer_frame_made : (asker : Pmac) (asker_ip ip : Ip4) (pmac : Pmac) → IsMade (answer_frame asker asker_ip ip pmac)
answer_frame_made asker asker_ip ip pmac =
    arp_frame_made (mac_of asker) (record { op = 2; sha = mac_of pmac; spa = ip; tha = mac_of asker; tpa = asker_ip })
    (length-mac_of asker) (length-mac_of pmac) (length-mac_of asker)

pub flood_frame_made : (asker : Pmac) (asker_ip ip : Ip4) → IsMade (flood_frame asker asker_ip ip)
flood_frame_made asker asker_ip ip =
    arp_frame_made broadcast (record { op = 1; sha = mac_of asker; spa = asker_ip; tha = no_mac; tpa = ip }) refl (length-mac_of asker) refl

pub probe_frame_made : (old : Pmac) (ip : Ip4) → IsMade (probe_frame old ip)
probe_frame_made old ip =
    arp_frame_made (mac_of old) (record { op = 1; sha = mac_of (record old { vmid = 0 }); spa = record { 0 = 0 }; tha = no_mac; tpa = ip })
    (length-mac_of old) (length-mac_of (record old { vmid = 0 })) refl
