-- Where no fields of a kind of entry are read, no entry of that kind is written so.
use Rattle.std.proofs.Common.{◌≡◌, ◌≢◌, ℕ, ◌^◌, ◌≤◌, List, ◌∷◌, ◌++◌, Option, Some, None, decimal, sym, ap, ◌∙◌, arith}
use Rattle.hex.specs.Hex.{encode_lower}
use Rattle.pl_pmac.specs.declared.pmac.Pmac.{Pmac}
use Rattle.pl_pmac.specs.Pmac.{PmacFits}
use Rattle.pl_wiring.specs.declared.host.HostNo.{HostNo}
use Rattle.pl_wiring.specs.declared.label.SwitchNo.{SwitchNo}
use Rattle.pl_wiring.specs.Plan.{IsPlan, Plan}
use Rattle.pl_journal.specs.Text.{IsHost, IsSwitch, address_text, cause_text, host_text, part_text, skip_text, switch_text}
use Rattle.pl_journal.specs.declared.cause.Cause.{Cause}
use Rattle.pl_journal.specs.declared.cause.Skip.{Skip}
use Rattle.pl_journal.specs.declared.entry.Entry.{Entry}
use Rattle.pl_journal.specs.declared.entry.Entry.TheVariants.{Line, Sent, Skipped, Made, Crossed, Redirected, Copied, Arrived, Taken, Dropped, Granted, Registered, Freed, Placed, LinkDown, LinkUp, Moved, Restarted, Settled, Unsettled}
use Rattle.pl_journal_text.specs.declared.verb.Verb.TheVariants as verbs
use Rattle.pl_journal_text.specs.Fields.{AreEndsOf, IsOfVerb, ends_text, fields_text}
use Rattle.pl_journal_text.specs.Ink.{at_most_blank, free_of, switch_ink}
use Rattle.pl_journal_text.specs.Reading.{Reads}
use Rattle.pl_journal.specs.Ranges.{IsByte, IsCount, IsFrame, IsLong, IsPart}
use Rattle.pl_journal_text.proofs.Cuts.{cut_once}
use Rattle.pl_journal_text.proofs.OneSpelling.{same_switch}

pub no_line : (plan : Plan) (text : List ℕ) (read : Option (ℕ)) → Reads (λ (x : ℕ). decimal x) (λ x. IsCount x) text read → read ≡ None →
    (e : Entry) → IsOfVerb plan verbs.Line e → text ≢ fields_text plan e
no_line plan text None reads none (Line n) is same = reads n is.0 same
no_line plan text None reads none e is same = absurd (cc)
no_line plan text (Some x) reads none e is same = absurd (cc)

pub no_sent : (plan : Plan) (text : List ℕ) (read : Option (ℕ × (HostNo × (List ℕ)))) → Reads (λ (x : ℕ × (HostNo × (List ℕ))). decimal x.0 ++ 32 ∷ (host_text plan x.1.0.0 ++ 32 ∷ encode_lower x.1.1)) (λ x. IsLong x.0 × (IsHost plan x.1.0.0 × IsFrame x.1.1)) text read → read ≡ None →
    (e : Entry) → IsOfVerb plan verbs.Sent e → text ≢ fields_text plan e
no_sent plan text None reads none (Sent id host frame) is same = reads (id, (host, frame)) is.0 same
no_sent plan text None reads none e is same = absurd (cc)
no_sent plan text (Some x) reads none e is same = absurd (cc)

pub no_skipped : (plan : Plan) (text : List ℕ) (read : Option (HostNo × Skip)) → Reads (λ (x : HostNo × Skip). host_text plan x.0.0 ++ 32 ∷ skip_text x.1) (λ x. IsHost plan x.0.0 × Unit {0}) text read → read ≡ None →
    (e : Entry) → IsOfVerb plan verbs.Skipped e → text ≢ fields_text plan e
no_skipped plan text None reads none (Skipped host skip) is same = reads (host, skip) (is.0, tt) same
no_skipped plan text None reads none e is same = absurd (cc)
no_skipped plan text (Some x) reads none e is same = absurd (cc)

pub no_made : (plan : Plan) (text : List ℕ) (read : Option (ℕ × (SwitchNo × (List ℕ)))) → Reads (λ (x : ℕ × (SwitchNo × (List ℕ))). decimal x.0 ++ 32 ∷ (switch_text plan x.1.0.0 ++ 32 ∷ encode_lower x.1.1)) (λ x. IsLong x.0 × (IsSwitch plan x.1.0.0 × IsFrame x.1.1)) text read → read ≡ None →
    (e : Entry) → IsOfVerb plan verbs.Made e → text ≢ fields_text plan e
no_made plan text None reads none (Made id switch frame) is same = reads (id, (switch, frame)) is.0 same
no_made plan text None reads none e is same = absurd (cc)
no_made plan text (Some x) reads none e is same = absurd (cc)

pub no_crossed : (plan : Plan) (text : List ℕ) (read : Option (ℕ × SwitchNo)) → Reads (λ (x : ℕ × SwitchNo). decimal x.0 ++ 32 ∷ switch_text plan x.1.0) (λ x. IsLong x.0 × IsSwitch plan x.1.0) text read → read ≡ None →
    (e : Entry) → IsOfVerb plan verbs.Crossed e → text ≢ fields_text plan e
no_crossed plan text None reads none (Crossed id switch) is same = reads (id, switch) is.0 same
no_crossed plan text None reads none e is same = absurd (cc)
no_crossed plan text (Some x) reads none e is same = absurd (cc)

pub no_redirected : (plan : Plan) (text : List ℕ) (read : Option (ℕ × (Pmac × Pmac))) → Reads (λ (x : ℕ × (Pmac × Pmac)). decimal x.0 ++ 32 ∷ (address_text x.1.0 ++ 32 ∷ address_text x.1.1)) (λ x. IsLong x.0 × (PmacFits x.1.0 × PmacFits x.1.1)) text read → read ≡ None →
    (e : Entry) → IsOfVerb plan verbs.Redirected e → text ≢ fields_text plan e
no_redirected plan text None reads none (Redirected id old new) is same = reads (id, (old, new)) is.0 same
no_redirected plan text None reads none e is same = absurd (cc)
no_redirected plan text (Some x) reads none e is same = absurd (cc)

pub no_copied : (plan : Plan) (text : List ℕ) (read : Option (ℕ × ℕ)) → Reads (λ (x : ℕ × ℕ). decimal x.0 ++ 32 ∷ decimal x.1) (λ x. IsLong x.0 × IsLong x.1) text read → read ≡ None →
    (e : Entry) → IsOfVerb plan verbs.Copied e → text ≢ fields_text plan e
no_copied plan text None reads none (Copied id copy) is same = reads (id, copy) is.0 same
no_copied plan text None reads none e is same = absurd (cc)
no_copied plan text (Some x) reads none e is same = absurd (cc)

pub no_arrived : (plan : Plan) (text : List ℕ) (read : Option (ℕ × (HostNo × (List ℕ)))) → Reads (λ (x : ℕ × (HostNo × (List ℕ))). decimal x.0 ++ 32 ∷ (host_text plan x.1.0.0 ++ 32 ∷ encode_lower x.1.1)) (λ x. IsLong x.0 × (IsHost plan x.1.0.0 × IsFrame x.1.1)) text read → read ≡ None →
    (e : Entry) → IsOfVerb plan verbs.Arrived e → text ≢ fields_text plan e
no_arrived plan text None reads none (Arrived id host frame) is same = reads (id, (host, frame)) is.0 same
no_arrived plan text None reads none e is same = absurd (cc)
no_arrived plan text (Some x) reads none e is same = absurd (cc)

pub no_taken : (plan : Plan) (text : List ℕ) (read : Option (ℕ × SwitchNo)) → Reads (λ (x : ℕ × SwitchNo). decimal x.0 ++ 32 ∷ switch_text plan x.1.0) (λ x. IsLong x.0 × IsSwitch plan x.1.0) text read → read ≡ None →
    (e : Entry) → IsOfVerb plan verbs.Taken e → text ≢ fields_text plan e
no_taken plan text None reads none (Taken id switch) is same = reads (id, switch) is.0 same
no_taken plan text None reads none e is same = absurd (cc)
no_taken plan text (Some x) reads none e is same = absurd (cc)

pub no_dropped : (plan : Plan) (text : List ℕ) (read : Option (ℕ × Cause)) → Reads (λ (x : ℕ × Cause). decimal x.0 ++ 32 ∷ cause_text x.1) (λ x. IsLong x.0 × Unit {0}) text read → read ≡ None →
    (e : Entry) → IsOfVerb plan verbs.Dropped e → text ≢ fields_text plan e
no_dropped plan text None reads none (Dropped id cause) is same = reads (id, cause) (is.0, tt) same
no_dropped plan text None reads none e is same = absurd (cc)
no_dropped plan text (Some x) reads none e is same = absurd (cc)

pub no_granted : (plan : Plan) (text : List ℕ) (read : Option (Pmac × (HostNo × (SwitchNo × ℕ)))) → Reads (λ (x : Pmac × (HostNo × (SwitchNo × ℕ))). address_text x.0 ++ 32 ∷ (host_text plan x.1.0.0 ++ 32 ∷ (switch_text plan x.1.1.0.0 ++ 32 ∷ decimal x.1.1.1))) (λ x. PmacFits x.0 × (IsHost plan x.1.0.0 × (IsSwitch plan x.1.1.0.0 × IsByte x.1.1.1))) text read → read ≡ None →
    (e : Entry) → IsOfVerb plan verbs.Granted e → text ≢ fields_text plan e
no_granted plan text None reads none (Granted pmac host edge port) is same = reads (pmac, (host, (edge, port))) is.0 same
no_granted plan text None reads none e is same = absurd (cc)
no_granted plan text (Some x) reads none e is same = absurd (cc)

pub no_registered : (plan : Plan) (text : List ℕ) (read : Option (Pmac × ℕ)) → Reads (λ (x : Pmac × ℕ). address_text x.0 ++ 32 ∷ decimal x.1) (λ x. PmacFits x.0 × IsLong x.1) text read → read ≡ None →
    (e : Entry) → IsOfVerb plan verbs.Registered e → text ≢ fields_text plan e
no_registered plan text None reads none (Registered pmac n) is same = reads (pmac, n) is.0 same
no_registered plan text None reads none e is same = absurd (cc)
no_registered plan text (Some x) reads none e is same = absurd (cc)

pub no_freed : (plan : Plan) (text : List ℕ) (read : Option Pmac) → Reads address_text PmacFits text read → read ≡ None →
    (e : Entry) → IsOfVerb plan verbs.Freed e → text ≢ fields_text plan e
no_freed plan text None reads none (Freed pmac) is same = reads pmac is.0 same
no_freed plan text None reads none e is same = absurd (cc)
no_freed plan text (Some x) reads none e is same = absurd (cc)

pub no_moved : (plan : Plan) (text : List ℕ) (read : Option (HostNo × (SwitchNo × ℕ))) → Reads (λ (x : HostNo × (SwitchNo × ℕ)). host_text plan x.0.0 ++ 32 ∷ (switch_text plan x.1.0.0 ++ 32 ∷ decimal x.1.1)) (λ x. IsHost plan x.0.0 × (IsSwitch plan x.1.0.0 × IsByte x.1.1)) text read → read ≡ None →
    (e : Entry) → IsOfVerb plan verbs.Moved e → text ≢ fields_text plan e
no_moved plan text None reads none (Moved host edge port) is same = reads (host, (edge, port)) is.0 same
no_moved plan text None reads none e is same = absurd (cc)
no_moved plan text (Some x) reads none e is same = absurd (cc)

pub no_restarted : (plan : Plan) (text : List ℕ) (read : Option (ℕ)) → Reads (λ (x : ℕ). decimal x) (λ x. IsCount x) text read → read ≡ None →
    (e : Entry) → IsOfVerb plan verbs.Restarted e → text ≢ fields_text plan e
no_restarted plan text None reads none (Restarted number) is same = reads number is.0 same
no_restarted plan text None reads none e is same = absurd (cc)
no_restarted plan text (Some x) reads none e is same = absurd (cc)

pub no_settled : (plan : Plan) (text : List ℕ) (read : Option (ℕ)) → Reads (λ (x : ℕ). decimal x) (λ x. IsCount x) text read → read ≡ None →
    (e : Entry) → IsOfVerb plan verbs.Settled e → text ≢ fields_text plan e
no_settled plan text None reads none (Settled rounds) is same = reads rounds is.0 same
no_settled plan text None reads none e is same = absurd (cc)
no_settled plan text (Some x) reads none e is same = absurd (cc)

pub no_unsettled : (plan : Plan) (text : List ℕ) (read : Option (ℕ)) → Reads (λ (x : ℕ). decimal x) (λ x. IsLong x) text read → read ≡ None →
    (e : Entry) → IsOfVerb plan verbs.Unsettled e → text ≢ fields_text plan e
no_unsettled plan text None reads none (Unsettled pending) is same = reads pending is.0 same
no_unsettled plan text None reads none e is same = absurd (cc)
no_unsettled plan text (Some x) reads none e is same = absurd (cc)

pub no_placed : (plan : Plan) (text : List ℕ) (read : Option (SwitchNo × (Option ℕ × (Option ℕ × Option ℕ)))) → Reads (λ (x : SwitchNo × (Option ℕ × (Option ℕ × Option ℕ))). switch_text plan x.0.0 ++ 32 ∷ (part_text x.1.0 ++ 32 ∷ (part_text x.1.1.0 ++ 32 ∷ part_text x.1.1.1))) (λ x. IsSwitch plan x.0.0 × (IsPart (2 ^ 8) x.1.0 × (IsPart (2 ^ 8) x.1.1.0 × IsPart (2 ^ 16) x.1.1.1))) text read → read ≡ None →
    (e : Entry) → IsOfVerb plan verbs.Placed e → text ≢ fields_text plan e
no_placed plan text None reads none (Placed switch place) is same = reads (switch, (place.level, (place.position, place.pod))) is.0 same
no_placed plan text None reads none e is same = absurd (cc)
no_placed plan text (Some x) reads none e is same = absurd (cc)

pub no_link_down : (plan : Plan) (text : List ℕ) (read : Option (SwitchNo × SwitchNo)) → Reads (ends_text plan) (AreEndsOf plan) text read → read ≡ None →
    (e : Entry) → IsOfVerb plan verbs.LinkDown e → text ≢ fields_text plan e
no_link_down plan text None reads none (LinkDown a b) is same = reads (a, b) is.0 same
no_link_down plan text None reads none e is same = absurd (cc)
no_link_down plan text (Some x) reads none e is same = absurd (cc)

pub no_link_up : (plan : Plan) (text : List ℕ) (read : Option (SwitchNo × SwitchNo)) → Reads (ends_text plan) (AreEndsOf plan) text read → read ≡ None →
    (e : Entry) → IsOfVerb plan verbs.LinkUp e → text ≢ fields_text plan e
no_link_up plan text None reads none (LinkUp a b) is same = reads (a, b) is.0 same
no_link_up plan text None reads none e is same = absurd (cc)
no_link_up plan text (Some x) reads none e is same = absurd (cc)

pub no_pair : (plan : Plan) (text : List ℕ) (read : Option (SwitchNo × SwitchNo)) →
    Reads (λ (x : SwitchNo × SwitchNo). switch_text plan x.0.0 ++ 32 ∷ switch_text plan x.1.0) (λ x. IsSwitch plan x.0.0 × IsSwitch plan x.1.0) text read → read ≡ None →
    (x : SwitchNo × SwitchNo) → AreEndsOf plan x → text ≢ ends_text plan x
no_pair plan text None reads none x is same = reads x (is.0, is.1) same
no_pair plan text (Some y) reads none x is same = absurd (cc)

-- two switches in the other order are no link's ends: their text is of no others
pub turned : (plan : Plan) (text : List ℕ) (read : Option (SwitchNo × SwitchNo)) (a b : SwitchNo) → IsPlan plan →
    Reads (λ (x : SwitchNo × SwitchNo). switch_text plan x.0.0 ++ 32 ∷ switch_text plan x.1.0) (λ x. IsSwitch plan x.0.0 × IsSwitch plan x.1.0) text read →
    read ≡ Some (a, b) → b.0 ≤ a.0 → (x : SwitchNo × SwitchNo) → AreEndsOf plan x → text ≢ ends_text plan x
turned plan text None a b plan_is reads some over x are same = absurd (cc)
turned plan text (Some y) a b plan_is reads some over x are same =
    let is : y ≡ (a, b) = (cc) in
    let ends = cut_once 32 (switch_text plan y.0.0) (switch_text plan y.1.0) (switch_text plan x.0.0) (switch_text plan x.1.0)
    (free_of 32 (switch_text plan y.0.0) at_most_blank (switch_ink plan y.0.0 plan_is reads.0.0)) (free_of 32 (switch_text plan x.0.0) at_most_blank (switch_ink plan x.0.0 plan_is are.0))
    (sym reads.1 ∙ same) in
    let first = sym (ap (λ (z : SwitchNo × SwitchNo). z.0.0) is) ∙ same_switch plan y.0.0 x.0.0 plan_is reads.0.0 are.0 ends.0 in
    let second = sym (ap (λ (z : SwitchNo × SwitchNo). z.1.0) is) ∙ same_switch plan y.1.0 x.1.0 plan_is reads.0.1 are.1 ends.1 in
    let less = are.2 in
    absurd (omega arith)
