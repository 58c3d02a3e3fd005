-- A step that is taken up to a rest.
use Rattle.std.proofs.Common.{◌≡◌, ℕ, true, false, if◌then◌else◌, List, [], ◌∷◌, ◌++◌, Option, Some, None, refl, sym, ap, subst, ◌∙◌}
use Rattle.pl_node.specs.declared.acts.Act.{Act}
use Rattle.pl_node.specs.declared.acts.Act.TheVariants.{Make, Redirect}
use Rattle.pl_node.specs.declared.switch_records.Grant.{Grant}
use Rattle.pl_node.specs.declared.trap.Trap.{Trap}
use Rattle.pl_node.specs.SwitchViews.{SwitchView}
use Rattle.pl_delivery.specs.Sending.{makes_any}
use Rattle.pl_frame.specs.Ethernet.{with_destination}
use Rattle.pl_migrate.specs.AddressTables.{AddressTableView, address_table_in, is_here, trap_in}
use Rattle.pl_pmac.specs.declared.pmac.Pmac.{Pmac}
use Rattle.pl_pmac.specs.Pmac.{mac_of}
use Rattle.pl_steps.proofs.Exports.{all_left, nothing_left, taken_rests, taken_then, then_up_to}
use Rattle.pl_steps.specs.Steps.{SwitchStep, does, rests, ◌▹◌}
use Rattle.pl_steps.specs.Taken.{IsTaken, IsTakenUpTo}
use Rattle.pl_switch_rule.specs.declared.came.Came.TheVariants.{FromHost}
use Rattle.pl_switch_rule.specs.Delivering.{addresses, arrives_home, begins, comes_home, delivers, delivers_or_redirects, destination, goes_on, is_trapped, last_trap, makes, redirects, tells_sender, trap_for}
use Rattle.pl_switch_rule.specs.Forwarding.{Choice, forwards}
use Rattle.pl_switch_rule.specs.Messages.{forgets_members, invalidates, probes, sets_trap}

-- Where a frame goes on.

pub goes_on_here : (address_table : AddressTableView) (choose : Choice) (v : SwitchView) (frame : List ℕ) (o p : List Act) → is_here address_table (destination frame) ≡ true →
    IsTaken (delivers (address_table_in address_table v) frame) (address_table_in address_table v) o p → IsTakenUpTo (rests (address_table_in address_table v)) (goes_on choose (address_table_in address_table v) frame) o p
goes_on_here address_table choose v frame o p here taken = let w : SwitchView = address_table_in address_table v in
    subst (λ b. IsTakenUpTo (rests w) (if b then delivers w frame else forwards choose w (Some FromHost) frame) o p) (sym here)
    (nothing_left (delivers w frame) w o p taken)

pub goes_on_upward : (address_table : AddressTableView) (choose : Choice) (v : SwitchView) (frame : List ℕ) (o : List Act) → is_here address_table (destination frame) ≡ false →
    IsTakenUpTo (forwards choose (address_table_in address_table v) (Some FromHost) frame) (goes_on choose (address_table_in address_table v) frame) o o
goes_on_upward address_table choose v frame o away = let w : SwitchView = address_table_in address_table v in
    subst (λ b. IsTakenUpTo (forwards choose w (Some FromHost) frame) (if b then delivers w frame else forwards choose w (Some FromHost) frame) o o) (sym away)
    (all_left (forwards choose w (Some FromHost) frame) o)

-- A frame that meets a trap.

pub trapped : (address_table : AddressTableView) (choose : Choice) (v : SwitchView) (frame next : List ℕ) (trap last : Trap) (old : Pmac) (rest : SwitchStep) (o p q : List Act) →
    old ≡ destination frame → last ≡ last_trap (addresses (address_table_in address_table v)) (address_table_in address_table v) trap → next ≡ with_destination frame (mac_of last.new) →
    IsTaken (does (address_table_in address_table v) (Redirect old trap.new ∷ redirects (addresses (address_table_in address_table v)) (address_table_in address_table v) trap)) (address_table_in address_table v) o p →
    IsTakenUpTo rest (goes_on choose (address_table_in address_table v) next) p q → IsTakenUpTo rest (is_trapped choose (address_table_in address_table v) frame trap) o q
trapped address_table choose v frame next trap last old rest o p q at is_last is_next taken further = let w : SwitchView = address_table_in address_table v in
    then_up_to (does w (Redirect (destination frame) trap.new ∷ redirects (addresses w) w trap)) rest
    (λ u. goes_on choose u (with_destination frame (mac_of (last_trap (addresses w) w trap).new))) w o p q
    (subst (λ a. IsTaken (does w (Redirect a trap.new ∷ redirects (addresses w) w trap)) w o p) at taken)
    (subst (λ f. IsTakenUpTo rest (goes_on choose w f) p q) (is_next ∙ ap (λ (l : Trap). with_destination frame (mac_of l.new)) is_last) further)

-- A frame comes home.

pub home_trapped : (address_table : AddressTableView) (choose : Choice) (v : SwitchView) (frame : List ℕ) (trap : Trap) (rest : SwitchStep) (o p : List Act) →
    Some trap ≡ trap_in address_table (destination frame) → IsTakenUpTo rest (is_trapped choose (address_table_in address_table v) frame trap) o p →
    IsTakenUpTo rest (comes_home choose (address_table_in address_table v) frame) o p
home_trapped address_table choose v frame trap rest o p is taken =
    subst (λ t. IsTakenUpTo rest (delivers_or_redirects choose (address_table_in address_table v) frame t) o p) is taken

pub home_delivered : (address_table : AddressTableView) (choose : Choice) (v : SwitchView) (frame : List ℕ) (o p : List Act) →
    None ≡ trap_in address_table (destination frame) → IsTaken (delivers (address_table_in address_table v) frame) (address_table_in address_table v) o p →
    IsTakenUpTo (rests (address_table_in address_table v)) (comes_home choose (address_table_in address_table v) frame) o p
home_delivered address_table choose v frame o p is taken = let w : SwitchView = address_table_in address_table v in
    subst (λ t. IsTakenUpTo (rests w) (delivers_or_redirects choose w frame t) o p) is (nothing_left (delivers w frame) w o p taken)

-- A frame begins.

pub begins_here : (address_table : AddressTableView) (choose : Choice) (v : SwitchView) (frame : List ℕ) (rest : SwitchStep) (o p q : List Act) →
    is_here address_table (destination frame) ≡ true → p ≡ o ++ Make frame ∷ [] → IsTakenUpTo rest (comes_home choose (address_table_in address_table v) frame) p q →
    IsTakenUpTo rest (makes choose frame (address_table_in address_table v)) o q
begins_here address_table choose v frame rest o p q here made taken = let w : SwitchView = address_table_in address_table v in
    then_up_to (does w (Make frame ∷ [])) rest (λ u. begins choose u frame) w o p q (record { view = refl; acts = made })
    (subst (λ b. IsTakenUpTo rest (if b then comes_home choose w frame else forwards choose w (Some FromHost) frame) p q) (sym here) taken)

pub begins_upward : (address_table : AddressTableView) (choose : Choice) (v : SwitchView) (frame : List ℕ) (o p : List Act) →
    is_here address_table (destination frame) ≡ false → p ≡ o ++ Make frame ∷ [] →
    IsTakenUpTo (forwards choose (address_table_in address_table v) (Some FromHost) frame) (makes choose frame (address_table_in address_table v)) o p
begins_upward address_table choose v frame o p away made = let w : SwitchView = address_table_in address_table v in
    let rest : SwitchStep = forwards choose w (Some FromHost) frame in
    then_up_to (does w (Make frame ∷ [])) rest (λ u. begins choose u frame) w o p p (record { view = refl; acts = made })
    (subst (λ b. IsTakenUpTo rest (if b then comes_home choose w frame else rest) p p) (sym away) (all_left rest p))

-- A frame arrives home.

pub sender_told : (choose : Choice) (frame : List ℕ) (reply : Option (List ℕ)) (v w : SwitchView) (o p q : List Act) →
    makes_any choose reply v ≡ tells_sender choose frame (trap_for v (destination frame)) v → IsTaken (comes_home choose v frame) v o p →
    IsTaken (makes_any choose reply v) w p q → IsTaken (arrives_home choose v frame) w o q
sender_told choose frame reply v w o p q tells home made =
    taken_then (comes_home choose v frame) (tells_sender choose frame (trap_for v (destination frame))) v w o p q home
    (subst (λ s. IsTaken s w p q) tells made)

-- An address is invalidated.

pub invalidated : (v w : SwitchView) (old : Pmac) (trap : Trap) (grant : Grant) (o p q : List Act) →
    IsTaken (forgets_members old.port grant.amac (sets_trap v old grant trap)) w o p → IsTaken (probes old grant w) w p q →
    IsTaken (invalidates v old trap (Some grant)) w o q
invalidated v w old trap grant o p q forgot probed = let u : SwitchView = sets_trap v old grant trap in
    taken_then (does u [] ▹ forgets_members old.port grant.amac) (probes old grant) w w o p q
    (taken_then (does u []) (forgets_members old.port grant.amac) u w o o p (taken_rests u o) forgot)
    probed
