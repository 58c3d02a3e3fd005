-- A frame that went in under its sender's address leaves with its receiver's: it is as if both had been written at once.
use Rattle.std.proofs.Common.{inl, inr, ◌≡◌, ℕ, ◌≤◌, true, false, List, ◌++◌, length, drop, None, Some, is_some, sym, ◌∙◌, ap, arith}
use Rattle.std.proofs.lemmas.Bool.{cases_Bool}
use Rattle.pl_lemmas.proofs.Exports.{is_some-option_map}
use Rattle.pl_frame.specs.declared.address.Mac.{Mac}
use Rattle.pl_layouts.specs.Frames.{arriving, packet_in, with_addresses}
use Rattle.pl_layouts.proofs.Exports.{arriving_by, arriving_parts, arriving_readable, arriving_unreadable, dst_in, head_in, is_readable, lengths_in, long_frame, packet_in-arriving, parts, six_dst, spa_in, tha_in, unreadable_parts}

pub arriving_twice : (frame : List ℕ) (a m : Mac) → 14 ≤ length frame → length a.0 ≡ 6 → length m.0 ≡ 6 →
    arriving (arriving frame (Some a) None) None (Some m) ≡ arriving frame (Some a) (Some m)
arriving_twice frame a m long six_a six =
    let sent : List ℕ = arriving frame (Some a) None in
    let same : is_readable sent ≡ is_readable frame =
    ap is_some (packet_in-arriving frame (Some a) None long six_a tt) ∙ is_some-option_map (with_addresses (Some a) None) (packet_in frame) in
    elim (cases_Bool (is_readable frame)) [
      | inl readable ↦
          let enough = long_frame frame readable in
          let sizes = lengths_in frame (omega arith) in
          let is : sent ≡ parts (dst_in frame) a.0 (head_in frame) a.0 (spa_in frame) (tha_in frame) (drop 38 frame) =
          arriving_readable frame (Some a) None readable six_a tt in
          ap (λ b. arriving_by b sent None (Some m)) (same ∙ readable) ∙ ap (λ x. arriving_by true x None (Some m)) is
          ∙ arriving_parts (dst_in frame) a.0 (head_in frame) a.0 (spa_in frame) (tha_in frame) (drop 38 frame) None (Some m)
          (record { dst = sizes.dst; src = six_a; head = sizes.head; sha = six_a; spa = sizes.spa; tha = sizes.tha }) tt six
          ∙ sym (arriving_readable frame (Some a) (Some m) readable six_a six)
      | inr unreadable ↦
          let is : sent ≡ dst_in frame ++ (a.0 ++ drop 12 frame) = arriving_unreadable frame (Some a) None long unreadable six_a tt in
          ap (λ b. arriving_by b sent None (Some m)) (same ∙ unreadable) ∙ ap (λ x. arriving_by false x None (Some m)) is
          ∙ unreadable_parts (dst_in frame) a.0 (drop 12 frame) None (Some m) (six_dst frame long) six_a tt six
          ∙ sym (arriving_unreadable frame (Some a) (Some m) long unreadable six_a six)
    ]
