-- The steps of a host by their parts.
use Rattle.std.proofs.Common.{◌≡◌, ℕ, ◌==◌, false, nat_lt, List, [], ◌∷◌, ◌++◌, length, map, append_assoc, Option, Some, Result, Ok, Err, OnOk, refl, sym, ap, ◌∙◌}
use Rattle.std.specs.List.{fold}
use Rattle.std.specs.Map.{keys_of}
use Rattle.std.proofs.lemmas.List.{map-append}
use Rattle.std.proofs.lemmas.List.Sums.{fold-append}
use Rattle.std.proofs.lemmas.Bool.{cond-false}
use Rattle.pl_frame.specs.declared.address.Ip4.{Ip4}
use Rattle.pl_frame.specs.Ethernet.{destination_of, kind_of}
use Rattle.pl_arp.specs.declared.packet.Arp.{Arp}
use Rattle.pl_arp.specs.declared.cache.Me.{Me}
use Rattle.pl_arp.specs.Reception.{Table, answer_to, table_after}
use Rattle.pl_node.specs.declared.acts.HostAct.{HostAct}
use Rattle.pl_node.specs.declared.acts.HostAct.TheVariants.{Send}
use Rattle.pl_node.specs.declared.reception.Reception.TheVariants.{Kept}
use Rattle.pl_layouts.specs.Memberships.{group_of, is_group}
use Rattle.pl_node.specs.HostViews.{HeldFrames, HostView, groups_after}
use Rattle.pl_node.specs.HostInputs.HostAnswer.{Received}
use Rattle.pl_host_rule.specs.HostRule.{HostStep, hearing, is_foreign, other_host, playing_frame, released_by, report_frame, request_frame, sending, sending_to_host, skip_of, still_held, unicast_skip}
use Rattle.pl_host.specs.Carried.{replies, six_bytes}
use Rattle.pl_host.specs.Host.{Takes}

-- what follows from two facts about a value
pub on_both : {A E P Q R : Type 0} (r : Result A E) → (P → Q → R) → OnOk r P → OnOk r Q → OnOk r R
on_both (Ok x) f p q = f p q
on_both (Err e) f p q = tt

-- a request for each address
pub asks : (me : Me) (held : HeldFrames) → map (λ ip. Send (request_frame me ip)) (keys_of held) ≡ map Send (map (λ entry. request_frame me entry.0) held)
asks me [] = refl
asks me (e ∷ held) = ap (λ r. Send (request_frame me e.0) ∷ r) (asks me held)

-- a report for each group
pub reports : (me : Me) (joined : List Ip4) → map (λ group. Send (report_frame me group)) joined ≡ map Send (map (report_frame me) joined)
reports me [] = refl
reports me (group ∷ joined) = ap (λ r. Send (report_frame me group) ∷ r) (reports me joined)

-- the group of a frame by its first six bytes
pub group_of-six_bytes : (frame : List ℕ) → group_of (record { 0 = six_bytes frame }) ≡ group_of (destination_of frame)
group_of-six_bytes [] = refl
group_of-six_bytes (a ∷ []) = refl
group_of-six_bytes (a ∷ b ∷ []) = refl
group_of-six_bytes (a ∷ b ∷ c ∷ []) = refl
group_of-six_bytes (a ∷ b ∷ c ∷ d ∷ []) = refl
group_of-six_bytes (a ∷ b ∷ c ∷ d ∷ e ∷ []) = refl
group_of-six_bytes (a ∷ b ∷ c ∷ d ∷ e ∷ f ∷ frame) = refl

-- what is left to speak against a frame to one host
pub skip_of-last : (view : HostView) (frame : List ℕ) (original : ℕ) → nat_lt (length frame) original ≡ false → nat_lt (length frame) 14 ≡ false →
    nat_lt 65553 (length frame) ≡ false → is_foreign view.me false frame ≡ false → (kind_of frame == 0x88b5) ≡ false → (kind_of frame == 0x0806) ≡ false →
    is_group (destination_of frame) ≡ false → skip_of view false frame original ≡ unicast_skip view (other_host view (destination_of frame))
unfolding skip_of
skip_of-last view frame original whole long short own other no_arp single =
    cond-false _ _ _ whole ∙ cond-false _ _ _ long ∙ cond-false _ _ _ short ∙ cond-false _ _ _ own ∙ cond-false _ _ _ other ∙ cond-false _ _ _ no_arp ∙ cond-false _ _ _ single

-- a frame to one host
pub plays_single : (view : HostView) (frame : List ℕ) (host : Option Me) → is_group (destination_of frame) ≡ false →
    host ≡ other_host view (destination_of frame) → playing_frame view frame ≡ sending_to_host view frame host
plays_single view frame host single found =
    cond-false (is_group (destination_of frame)) (sending view frame) (sending_to_host view frame (other_host view (destination_of frame))) single
    ∙ ap (λ (h : Option Me). sending_to_host view frame h) (sym found)

-- a packet is heard, its answer is sent, and then what waited for it
pub hears : (view : HostView) (arp : Arp) (cache : Table) (first joined : List Ip4) (held : HeldFrames) (answer : Option Arp) (frames : List (List ℕ))
    (out sent after : List HostAct) → cache ≡ table_after view.cache view.me arp → answer ≡ answer_to view.me arp → frames ≡ released_by cache view.held →
    held ≡ still_held cache view.held → first ≡ fold groups_after view.joined (replies answer) → joined ≡ fold groups_after first frames →
    sent ≡ out ++ map Send (replies answer) → after ≡ sent ++ map Send frames →
    Takes (hearing view (Some arp)) (record { me = view.me; table = view.table; cache = cache; joined = joined; held = held }) (Received Kept) out after
hears view arp cache first joined held answer frames out sent after learnt owed freed waits replied released sends then =
    let step : Table → Option Arp → List (List ℕ) → HeldFrames → List Ip4 → HostStep =
    λ c a fs h j. record {
      view = record { me = view.me; table = view.table; cache = c; joined = j; held = h };
      acts = map Send (replies a ++ fs);
      answer = Received Kept;
    } in
    let groups : joined ≡ fold groups_after view.joined (replies answer ++ frames) =
    released ∙ ap (λ js. fold groups_after js frames) replied ∙ sym (fold-append groups_after view.joined (replies answer) frames) in
    record {
      items = map Send (replies answer ++ frames);
      gained =
          then ∙ ap (λ acts. acts ++ map Send frames) sends ∙ append_assoc out (map Send (replies answer)) (map Send frames)
          ∙ ap (λ acts. out ++ acts) (sym (map-append Send (replies answer) frames));
      holds =
          sym (ap (λ j. step cache answer frames held j) groups
          ∙ ap (λ h. step cache answer frames h (fold groups_after view.joined (replies answer ++ frames))) waits
          ∙ ap (λ fs. step cache answer fs (still_held cache view.held) (fold groups_after view.joined (replies answer ++ fs))) freed
          ∙ ap (λ a. step cache a (released_by cache view.held) (still_held cache view.held) (fold groups_after view.joined (replies a ++ released_by cache view.held))) owed
          ∙ ap (λ c. step c (answer_to view.me arp) (released_by c view.held) (still_held c view.held)
          (fold groups_after view.joined (replies (answer_to view.me arp) ++ released_by c view.held))) learnt);
    }
