-- A frame for a host of an edge switch ends there, or goes on to a newer address; a frame that is made ends too.
use Rattle.std.proofs.Common.{◌≡◌, ℕ, ◌-◌, ◌<◌, ◌==◌, zero, suc, List, [], ◌∷◌, length, get_or, slice_get, Option, Some, None, refl, sym, ap, subst, ◌∙◌, inl, inr, arith}
use Rattle.std.proofs.lemmas.Bool.{cond_both}
use Rattle.std.specs.List.{AllByRecursion}
use Rattle.pl_lemmas.proofs.Exports.{all_append}
use Rattle.pl_frame.specs.declared.address.Ip4.{Ip4}
use Rattle.pl_frame.specs.Ethernet.{destination_of, with_destination}
use Rattle.pl_pmac.specs.declared.pmac.Pmac.{Pmac}
use Rattle.pl_pmac.specs.Pmac.{mac_of, pmac_of}
use Rattle.pl_pmac.proofs.Exports.{length-mac_of}
use Rattle.pl_node.specs.declared.acts.Act.{Act}
use Rattle.pl_node.specs.declared.acts.Act.TheVariants.{Redirect}
use Rattle.pl_switch_rule.specs.declared.came.Came.TheVariants.{FromHost}
use Rattle.pl_journal.specs.declared.cause.Cause.TheVariants.{NoAddress}
use Rattle.pl_node.specs.declared.trap.Trap.{Trap}
use Rattle.pl_switch_rule.specs.Delivering.{addresses, arrives_home, begins, comes_home, delivers, delivers_or_redirects, delivers_to, destination, goes_on, if_newer, is_trapped, last_trap, makes, newer_address, redirects, redirects_on, tells_newer, tells_sender, trap_for}
use Rattle.pl_switch_rule.specs.Forwarding.{Choice, candidates_by, forwards, leaves_by}
use Rattle.pl_layouts.specs.Frames.{arriving, is_arp}
use Rattle.pl_node.specs.AddressUses.{is_held}
use Rattle.pl_switch_rule.specs.Granting.{grant_number, granted, grants_at, held_here, is_local, unless_free}
use Rattle.pl_node.specs.Accounting.{HasMac, IsFit, IsMade, IsShaped, IsWholeFrame, frame_state}
use Rattle.pl_node.specs.Accounting.FrameState.{Redirected, Waiting}
use Rattle.pl_steps.specs.Steps.{SwitchStep, does, ◌▹◌}
use Rattle.pl_switch_rule.specs.SwitchRule.{IsChoice}
use Rattle.pl_node.specs.declared.switch_records.Grant.{Grant}
use Rattle.pl_node.specs.SwitchViews.{SwitchView}
use Rattle.pl_switch_rule.proofs.DataFrames.{arriving_made, newer_address_made, with_destination_made}
use Rattle.pl_switch_rule.proofs.GoingOut.{drop_ends, forwards_ends, pass_ends}
use Rattle.pl_switch_rule.proofs.Shapes.{same_self}
use Rattle.pl_switch_rule.proofs.StepParts.{HasEnded, IsEnding, IsFurther, IsMaking, IsSame, ending_then_further, fit_at, make_then_ending, same_then, frame_state_append}

-- What was granted.

-- what was granted at a port, which is there, has an address of six bytes
pub record IsGrantedAt (k port : ℕ) (grant : Grant) : Type 0 where
  pub within : port < k
  pub six : HasMac grant

abbrev pub AreGrantedAt : ℕ → ℕ → Option Grant → Type 0
AreGrantedAt k port None = Unit {0}
AreGrantedAt k port (Some grant) = IsGrantedAt k port grant

got_granted : (k port : ℕ) (grants : List Grant) (i : ℕ) → port < k → AllByRecursion HasMac grants →
    AreGrantedAt k port (slice_get grants i)
got_granted k port [] i within six = tt
got_granted k port (grant ∷ grants) zero within six = record { within = within; six = six.0 }
got_granted k port (grant ∷ grants) (suc i) within six = got_granted k port grants i within six.1

-- at the port n places behind another
got_at : (k port n : ℕ) (grants : List (List Grant)) (i : ℕ) → (n < length grants → port < k) →
    AllByRecursion (AllByRecursion HasMac) grants →
    AreGrantedAt k port (slice_get (get_or grants n []) i)
got_at k port n [] i within six = tt
got_at k port zero (gs ∷ grants) i within six = got_granted k port gs i (within (omega arith)) six.0
got_at k port (suc n) (gs ∷ grants) i within six = got_at k port n grants i (λ less. within (omega arith)) six.1

numbered_at : (k port : ℕ) (grants : List Grant) (vmid : ℕ) → AreGrantedAt k port (slice_get grants (vmid - 1)) →
    AreGrantedAt k port (grant_number grants vmid)
numbered_at k port grants vmid got = cond_both (vmid == 0) None (slice_get grants (vmid - 1)) (AreGrantedAt k port) (λ yes. tt) (λ other. got)

pub granted_at : (v : SwitchView) (address : Pmac) → IsShaped v → AreGrantedAt v.k address.port (granted v address)
granted_at v address shaped =
    cond_both (is_local v address) (grant_number (grants_at v address.port) address.vmid) None (AreGrantedAt v.k address.port)
    (λ yes. numbered_at v.k address.port (grants_at v address.port) address.vmid
    (got_at v.k address.port address.port v.grants (address.vmid - 1) (λ less. subst (λ n. address.port < n) shaped.grants less) shaped.granted))
    (λ other. tt)

-- what is held was granted
held_granted_at : (k port : ℕ) (o : Option Grant) → AreGrantedAt k port o → AreGrantedAt k port (unless_free o)
held_granted_at k port None got = tt
held_granted_at k port (Some grant) got = cond_both (is_held grant.held) (Some grant) None (AreGrantedAt k port) (λ held. got) (λ free. tt)

pub held_at : (v : SwitchView) (address : Pmac) → IsShaped v → AreGrantedAt v.k address.port (held_here v address)
held_at v address shaped = held_granted_at v.k address.port (granted v address) (granted_at v address shaped)

-- Delivery.

to_ends : (v : SwitchView) (address : Pmac) (frame : List ℕ) (o : Option Grant) → IsShaped v → IsMade frame →
    AreGrantedAt v.k address.port o →
    IsEnding v (delivers_to v address frame o)
to_ends v address frame None shaped made got = drop_ends v NoAddress shaped
to_ends v address frame (Some grant) shaped made got =
    pass_ends v address.port (arriving frame None (Some grant.amac)) shaped got.within (arriving_made frame None (Some grant.amac) made tt got.six)

pub delivers_ends : (v : SwitchView) (frame : List ℕ) → IsShaped v → IsMade frame → IsEnding v (delivers v frame)
delivers_ends v frame shaped made =
    to_ends v (destination frame) frame (held_here v (destination frame)) shaped made (held_at v (destination frame) shaped)

-- Redirection.

-- a part after which the frame waits, and was redirected
pub record IsRedirecting (v : SwitchView) (s : SwitchStep) : Type 0 where
  pub redirected : frame_state Waiting s.acts ≡ Redirected
  pub fit : AllByRecursion (IsFit v.k) s.acts
  pub same : IsSame v s.view

-- a part that ends such a frame
pub record IsEndingOn (v : SwitchView) (s : SwitchStep) : Type 0 where
  pub ends : HasEnded (frame_state Redirected s.acts)
  pub fit : AllByRecursion (IsFit v.k) s.acts
  pub same : IsSame v s.view

pub redirecting_then_ending : (v : SwitchView) (s : SwitchStep) (next : SwitchView → SwitchStep) → IsRedirecting v s →
    ((w : SwitchView) → IsSame v w → IsEndingOn w (next w)) → IsEnding v (s ▹ next)
redirecting_then_ending v s next a follows = let b = follows s.view a.same in record {
  ends = subst HasEnded (sym (frame_state_append Waiting s.acts (next s.view).acts ∙ ap (λ x. frame_state x (next s.view).acts) a.redirected)) b.ends;
  fit = all_append (IsFit v.k) s.acts (next s.view).acts a.fit (fit_at v s.view (next s.view).acts a.same b.fit);
  same = same_then v s.view (next s.view).view a.same b.same;
}

-- acts that all redirect
pub record AreRedirects (k : ℕ) (acts : List Act) : Type 0 where
  pub redirected : frame_state Redirected acts ≡ Redirected
  pub fit : AllByRecursion (IsFit k) acts

redirects_more : (k : ℕ) (old new : Pmac) (acts : List Act) → AreRedirects k acts → AreRedirects k (Redirect old new ∷ acts)
redirects_more k old new acts are = record { redirected = are.redirected; fit = (tt, are.fit) }

on_redirects : (k : ℕ) (further : Trap → List Act) (old : Pmac) (o : Option Trap) → ((trap : Trap) → AreRedirects k (further trap)) →
    AreRedirects k (redirects_on further old o)
on_redirects k further old None are = record { redirected = refl; fit = tt }
on_redirects k further old (Some trap) are = redirects_more k old trap.new (further trap) (are trap)

are_redirects : (k n : ℕ) (v : SwitchView) (trap : Trap) → AreRedirects k (redirects n v trap)
unfolding redirects
are_redirects k zero v trap = record { redirected = refl; fit = tt }
are_redirects k (suc n) v trap =
    on_redirects k (redirects n v) trap.new (if_newer trap (trap_for v trap.new)) (λ next. are_redirects k n v next)

-- what ends a frame at once ends a redirected one
delivers_ends_on : (v : SwitchView) (address : Pmac) (frame : List ℕ) (o : Option Grant) → IsEnding v (delivers_to v address frame o) →
    IsEndingOn v (delivers_to v address frame o)
delivers_ends_on v address frame None e = record { ends = inr refl; fit = e.fit; same = e.same }
delivers_ends_on v address frame (Some grant) e = record { ends = inl refl; fit = e.fit; same = e.same }

leaves_ends_on : (v : SwitchView) (frame : List ℕ) (o : Option ℕ) → IsEnding v (leaves_by v frame o) → IsEndingOn v (leaves_by v frame o)
leaves_ends_on v frame None e = record { ends = inr refl; fit = e.fit; same = e.same }
leaves_ends_on v frame (Some port) e = record { ends = inl refl; fit = e.fit; same = e.same }

pub goes_on_ends : (choose : Choice) (v : SwitchView) (frame : List ℕ) → IsChoice choose → IsShaped v → IsMade frame →
    IsEndingOn v (goes_on choose v frame)
goes_on_ends choose v frame is_choice shaped made =
    let ports : List ℕ = candidates_by v (pmac_of (destination_of frame)) (Some FromHost) in
    cond_both (is_local v (destination frame)) (delivers v frame) (forwards choose v (Some FromHost) frame) (IsEndingOn v)
    (λ yes. delivers_ends_on v (destination frame) frame (held_here v (destination frame)) (delivers_ends v frame shaped made))
    (λ other. leaves_ends_on v frame (choose ports frame) (forwards_ends choose v (Some FromHost) frame is_choice shaped made))

redirected : (v : SwitchView) (frame : List ℕ) (trap : Trap) → IsShaped v →
    IsRedirecting v (does v (Redirect (destination frame) trap.new ∷ redirects (addresses v) v trap))
redirected v frame trap shaped =
    let are = redirects_more v.k (destination frame) trap.new (redirects (addresses v) v trap) (are_redirects v.k (addresses v) v trap) in
    record { redirected = are.redirected; fit = are.fit; same = same_self v shaped }

pub is_trapped_ends : (choose : Choice) (v : SwitchView) (frame : List ℕ) (trap : Trap) → IsChoice choose → IsShaped v → IsMade frame →
    IsEnding v (is_trapped choose v frame trap)
is_trapped_ends choose v frame trap is_choice shaped made =
    let to = mac_of (last_trap (addresses v) v trap).new in
    redirecting_then_ending v (does v (Redirect (destination frame) trap.new ∷ redirects (addresses v) v trap))
    (λ w. goes_on choose w (with_destination frame to)) (redirected v frame trap shaped)
    (λ w same. goes_on_ends choose w (with_destination frame to) is_choice same.shaped
    (with_destination_made frame to made (length-mac_of (last_trap (addresses v) v trap).new)))

home_ends : (choose : Choice) (v : SwitchView) (frame : List ℕ) (o : Option Trap) → IsChoice choose → IsShaped v → IsMade frame →
    IsEnding v (delivers_or_redirects choose v frame o)
home_ends choose v frame None is_choice shaped made = delivers_ends v frame shaped made
home_ends choose v frame (Some trap) is_choice shaped made = is_trapped_ends choose v frame trap is_choice shaped made

pub comes_home_ends : (choose : Choice) (v : SwitchView) (frame : List ℕ) → IsChoice choose → IsShaped v → IsMade frame →
    IsEnding v (comes_home choose v frame)
comes_home_ends choose v frame is_choice shaped made =
    home_ends choose v frame (trap_for v (destination frame)) is_choice shaped made

-- Frames that are made.

pub begins_ends : (choose : Choice) (v : SwitchView) (frame : List ℕ) → IsChoice choose → IsShaped v → IsMade frame →
    IsEnding v (begins choose v frame)
begins_ends choose v frame is_choice shaped made =
    cond_both (is_local v (destination frame)) (comes_home choose v frame) (forwards choose v (Some FromHost) frame) (IsEnding v)
    (λ yes. comes_home_ends choose v frame is_choice shaped made) (λ other. forwards_ends choose v (Some FromHost) frame is_choice shaped made)

pub makes_making : (choose : Choice) (frame : List ℕ) (v : SwitchView) → IsChoice choose → IsShaped v → IsMade frame →
    IsMaking v (makes choose frame v)
makes_making choose frame v is_choice shaped made =
    make_then_ending v frame (λ w. begins choose w frame) shaped made (begins_ends choose v frame is_choice shaped made)

pub nothing_further : (v : SwitchView) → IsShaped v → IsFurther v (does v [])
nothing_further v shaped = record { passed = inl refl; ended = inr refl; fit = tt; same = same_self v shaped }

newer_further : (choose : Choice) (frame : List ℕ) (new : Pmac) (o : Option Ip4) (v : SwitchView) → IsChoice choose → IsShaped v →
    IsWholeFrame frame →
    IsFurther v (tells_newer choose frame new o v)
newer_further choose frame new None v is_choice shaped whole = nothing_further v shaped
newer_further choose frame new (Some ip) v is_choice shaped whole =
    (makes_making choose (newer_address frame new ip) v is_choice shaped (newer_address_made frame new ip whole)).further

pub tells_sender_further : (choose : Choice) (frame : List ℕ) (o : Option Trap) (v : SwitchView) → IsChoice choose → IsShaped v →
    IsWholeFrame frame →
    IsFurther v (tells_sender choose frame o v)
tells_sender_further choose frame None v is_choice shaped whole = nothing_further v shaped
tells_sender_further choose frame (Some trap) v is_choice shaped whole =
    let last = last_trap (addresses v) v trap in
    cond_both (is_arp frame) (does v []) (tells_newer choose frame last.new last.ip v) (IsFurther v)
    (λ yes. nothing_further v shaped) (λ other. newer_further choose frame last.new last.ip v is_choice shaped whole)

pub arrives_home_ends : (choose : Choice) (v : SwitchView) (frame : List ℕ) → IsChoice choose → IsShaped v → IsMade frame →
    IsEnding v (arrives_home choose v frame)
arrives_home_ends choose v frame is_choice shaped made =
    ending_then_further v (comes_home choose v frame) (tells_sender choose frame (trap_for v (destination frame)))
    (comes_home_ends choose v frame is_choice shaped made)
    (λ w same. tells_sender_further choose frame (trap_for v (destination frame)) w is_choice same.shaped made.whole)
