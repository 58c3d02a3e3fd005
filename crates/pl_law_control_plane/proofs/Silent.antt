-- Parts of a switch's step that discovery does not see: what it looks at stays, no control frame is sent, and frames leave by usable ports or to
-- hosts.
use Rattle.std.proofs.Common.{◌≡◌, ℕ, zero, suc, ◌==◌, ◌||◌, ◌⊎◌, Bool, true, false, if◌then◌else◌, List, [], ◌∷◌, ◌++◌, Option, Some, None, get_or, set, slice_set, refl, ◌∙◌, subst, inl, inr, ◌-◌, get_or-set_other}
use Rattle.std.specs.List.{AllByRecursion}
use Rattle.std.proofs.lemmas.Bool.{cases_eq, eqb-true}
use Rattle.pl_lemmas.proofs.Exports.{all_append}
use Rattle.pl_frame.specs.declared.address.Ip4.{Ip4}
use Rattle.pl_frame.specs.declared.address.Mac.{Mac}
use Rattle.pl_frame.specs.Ethernet.{source_of}
use Rattle.pl_pmac.specs.declared.pmac.Pmac.{Pmac}
use Rattle.pl_layouts.specs.declared.place.Place.{Place}
use Rattle.pl_layouts.specs.Placement.{is_placed}
use Rattle.pl_node.specs.declared.acts.Act.{Act}
use Rattle.pl_node.specs.declared.acts.Act.TheVariants as act
use Rattle.pl_node.specs.declared.address_use.AddressUse.TheVariants.{InUse}
use Rattle.pl_node.specs.declared.messages.ToManager.TheVariants.{Learned}
use Rattle.pl_node.specs.declared.switch_records.Grant.{Grant}
use Rattle.pl_node.specs.declared.switch_records.Source.{Source}
use Rattle.pl_node.specs.PortRecords.{is_usable, port_of, ports_of_switch}
use Rattle.pl_node.specs.SwitchViews.{SwitchView}
use Rattle.pl_steps.specs.Steps.{SwitchStep, does, rests, ◌▹◌}
use Rattle.pl_switch_rule.specs.Granting.{address_at_port, all_but_first, behind, forgets, freed_at, grant_number, grants_at, grants_next, grants_or_learns, grants_remembered, grants_source, in_use, learns_ip, learns_source, new_grant, next_vmid, or_else, remembered_at, remembered_ip, remembers, sender_ip, uses, with_grants, with_next}
use Rattle.pl_switch_rule.specs.Levels.{changes_to, has_become_placed, settles_in}
use Rattle.pl_switch_rule.specs.Telling.{changes_told}
use Rattle.pl_switch_rule.proofs.Exports.{told_acts}
use Rattle.pl_law_control_plane.specs.ControlPlanes.{passes, sends}
use Rattle.pl_law_control_plane.specs.Homes.{HasHomes}
use Rattle.pl_layouts.specs.Equality.{is_ip}

-- discovery sees the same
pub record IsSeen (v w : SwitchView) : Type 0 where
  pub id : w.id ≡ v.id
  pub k : w.k ≡ v.k
  pub place : w.place ≡ v.place
  pub ports : w.ports ≡ v.ports
  pub attempt : w.attempt ≡ v.attempt
  pub proposed : w.proposed ≡ v.proposed
  pub granted : w.granted ≡ v.granted
  pub holds : w.holds ≡ v.holds

pub seen_self : (v : SwitchView) → IsSeen v v
seen_self v = record { id = refl; k = refl; place = refl; ports = refl; attempt = refl; proposed = refl; granted = refl; holds = refl }

pub seen_then : (u v w : SwitchView) → IsSeen u v → IsSeen v w → IsSeen u w
seen_then u v w a b = record {
  id = b.id ∙ a.id;
  k = b.k ∙ a.k;
  place = b.place ∙ a.place;
  ports = b.ports ∙ a.ports;
  attempt = b.attempt ∙ a.attempt;
  proposed = b.proposed ∙ a.proposed;
  granted = b.granted ∙ a.granted;
  holds = b.holds ∙ a.holds;
}

-- no control frame
abbrev pub IsMute : Act → Type 0
IsMute (act.Control port frame) = ⊥
IsMute a = Unit {0}

-- a frame leaves by a usable port, or to a host
abbrev pub GoesWell : SwitchView → Act → Type 0
GoesWell v (act.Pass port frame) = (is_usable v port ≡ true) ⊎ ((port_of v port).host ≡ true)
GoesWell v a = Unit {0}

-- neither leaves
abbrev pub IsStill : Act → Type 0
IsStill (act.Control port frame) = ⊥
IsStill (act.Pass port frame) = ⊥
IsStill a = Unit {0}

pub still_mute : (acts : List Act) → AllByRecursion IsStill acts → AllByRecursion IsMute acts
still_mute [] all = tt
still_mute (act.Control port frame ∷ acts) all = absurd all.0
still_mute (act.Pass port frame ∷ acts) all = absurd all.0
still_mute (a ∷ acts) all = (tt, still_mute acts all.1)

pub still_well : (v : SwitchView) (acts : List Act) → AllByRecursion IsStill acts → AllByRecursion (GoesWell v) acts
still_well v [] all = tt
still_well v (act.Control port frame ∷ acts) all = absurd all.0
still_well v (act.Pass port frame ∷ acts) all = absurd all.0
still_well v (a ∷ acts) all = (tt, still_well v acts all.1)

pub mute_sends_none : (port : ℕ) (acts : List Act) → AllByRecursion IsMute acts → sends port acts ≡ []
mute_sends_none port [] all = refl
mute_sends_none port (act.Control at frame ∷ acts) all = absurd all.0
mute_sends_none port (a ∷ acts) all = mute_sends_none port acts all.1

first_or_rest : (v : SwitchView) (port at : ℕ) (acts : List Act) (rest : Bool) → (rest ≡ true → (is_usable v port ≡ true) ⊎ ((port_of v port).host ≡ true)) →
    (is_usable v at ≡ true) ⊎ ((port_of v at).host ≡ true) → ((at == port) || rest) ≡ true → (is_usable v port ≡ true) ⊎ ((port_of v port).host ≡ true)
first_or_rest v port at acts rest later here h = elim (cases_eq at port) [
  | inl same ↦ subst (λ x. (is_usable v x ≡ true) ⊎ ((port_of v x).host ≡ true)) same here
  | inr differ ↦ later (by differ (at == port) refl h)
]
  where
    by : (at ≡ port → ⊥) → (b : Bool) → (at == port) ≡ b → (b || rest) ≡ true → rest ≡ true
    by differ true e h = absurd (differ (eqb-true at port e))
    by differ false e h = h

pub well_passes : (v : SwitchView) (port : ℕ) (acts : List Act) → AllByRecursion (GoesWell v) acts → passes port acts ≡ true →
    (is_usable v port ≡ true) ⊎ ((port_of v port).host ≡ true)
well_passes v port [] all h = absurd (cc)
well_passes v port (act.Pass at frame ∷ acts) all h = first_or_rest v port at acts (passes port acts) (λ e. well_passes v port acts all.1 e) all.0 h
well_passes v port (a ∷ acts) all h = well_passes v port acts all.1 h

-- the same of a view that discovery sees the same
pub well_seen : (v w : SwitchView) (acts : List Act) → IsSeen v w → AllByRecursion (GoesWell w) acts → AllByRecursion (GoesWell v) acts
well_seen v w [] seen all = tt
well_seen v w (act.Pass port frame ∷ acts) seen all = (rw (← seen.id, ← seen.ports) all.0, well_seen v w acts seen all.1)
well_seen v w (a ∷ acts) seen all = (tt, well_seen v w acts seen all.1)

-- a part of a step of a switch that knows hosts at host ports alone
pub record IsSilent (v : SwitchView) (s : SwitchStep) : Type 0 where
  pub seen : IsSeen v s.view
  pub homes : HasHomes s.view
  pub mute : AllByRecursion IsMute s.acts
  pub well : AllByRecursion (GoesWell v) s.acts

pub silent_then : (v : SwitchView) (s : SwitchStep) (next : SwitchView → SwitchStep) → IsSilent v s →
    ((w : SwitchView) → IsSeen v w → HasHomes w → IsSilent w (next w)) → IsSilent v (s ▹ next)
silent_then v s next first behind_it = let behind = behind_it s.view first.seen first.homes in record {
  seen = seen_then v s.view (next s.view).view first.seen behind.seen;
  homes = behind.homes;
  mute = all_append IsMute s.acts (next s.view).acts first.mute behind.mute;
  well = all_append (GoesWell v) s.acts (next s.view).acts first.well (well_seen v s.view (next s.view).acts first.seen behind.well);
}

pub silent_if : (v : SwitchView) (b : Bool) (s t : SwitchStep) → (b ≡ true → IsSilent v s) → (b ≡ false → IsSilent v t) → IsSilent v (if b then s else t)
silent_if v true s t yes_case no_case = yes_case refl
silent_if v false s t yes_case no_case = no_case refl

pub still_does : (v : SwitchView) (acts : List Act) → HasHomes v → AllByRecursion IsStill acts → IsSilent v (does v acts)
still_does v acts homes still = record { seen = seen_self v; homes = homes; mute = still_mute acts still; well = still_well v acts still }

-- another view that discovery sees the same, and acts by which nothing leaves
pub still_step : (v w : SwitchView) (acts : List Act) → IsSeen v w → HasHomes w → AllByRecursion IsStill acts → IsSilent v (record { view = w; acts = acts })
still_step v w acts seen homes still = record { seen = seen; homes = homes; mute = still_mute acts still; well = still_well v acts still }

-- Granting, and learning of hosts.

seen_grants : (v : SwitchView) (port : ℕ) (grants : List Grant) (used trapped : List Pmac) (freed : List (List ℕ)) →
    IsSeen v (record (with_grants v port grants) { used = used; trapped = trapped; freed = freed })
seen_grants v port grants used trapped freed =
    record { id = refl; k = refl; place = refl; ports = refl; attempt = refl; proposed = refl; granted = refl; holds = refl }

grants_homes : (v : SwitchView) (port : ℕ) (grants : List Grant) (used trapped : List Pmac) (freed : List (List ℕ)) → (port_of v port).host ≡ true → HasHomes v →
    HasHomes (record (with_grants v port grants) { used = used; trapped = trapped; freed = freed })
grants_homes v port grants used trapped freed host homes = record {
  grants = λ p none. elim (cases_eq p port) [
    | inl same ↦ absurd (let e : (port_of v p).host ≡ true = rw same host in cc)
    | inr differ ↦ get_or-set_other v.grants port p grants [] differ ∙ homes.grants p none
  ];
  remembered = homes.remembered;
  members = homes.members;
}

-- what was granted at a host port changes, and the orders of addresses
pub addresses_silent : (v : SwitchView) (port : ℕ) (grants : List Grant) (used trapped : List Pmac) (freed : List (List ℕ)) (acts : List Act) → (port_of v port).host ≡ true →
    HasHomes v → AllByRecursion IsStill acts →
    IsSilent v (record { view = record (with_grants v port grants) { used = used; trapped = trapped; freed = freed }; acts = acts })
addresses_silent v port grants used trapped freed acts host homes still =
    still_step v (record (with_grants v port grants) { used = used; trapped = trapped; freed = freed }) acts (seen_grants v port grants used trapped freed)
    (grants_homes v port grants used trapped freed host homes) still

set_none : {T : Type 0} (xs : List (Option T)) (n : ℕ) → get_or (set xs n None) n None ≡ None
set_none [] n = refl
set_none (x ∷ xs) zero = refl
set_none (x ∷ xs) (suc n) = set_none xs n

source_homes : (v : SwitchView) (port : ℕ) (source : Option Source) → ((port_of v port).host ≡ true) ⊎ (source ≡ None) → HasHomes v →
    HasHomes (record v { remembered = slice_set v.remembered port source })
source_homes v port source fine homes = record {
  grants = homes.grants;
  remembered = λ p none. elim (cases_eq p port) [
    | inl same ↦ elim fine [
      | inl host ↦ absurd (let e : (port_of v p).host ≡ true = rw same host in cc)
      | inr nobody ↦ rw (same, nobody) (set_none v.remembered port)
    ]
    | inr differ ↦ get_or-set_other v.remembered port p source None differ ∙ homes.remembered p none
  ];
  members = homes.members;
}

uses_silent : (v : SwitchView) (address : Pmac) (grant : Grant) (acts : List Act) → (port_of v address.port).host ≡ true → HasHomes v →
    AllByRecursion IsStill acts → IsSilent v (record { view = uses v address grant; acts = acts })
uses_silent v address grant acts host homes still =
    addresses_silent v address.port (slice_set (grants_at v address.port) (address.vmid - 1) (record grant { held = InUse 0 })) (behind address v.used) v.trapped v.freed acts
    host homes still

learns_ip_silent : (v : SwitchView) (address : Pmac) (grant : Option Grant) (ip : Option Ip4) → (port_of v address.port).host ≡ true → HasHomes v →
    IsSilent v (learns_ip v address grant ip)
learns_ip_silent v address None ip host homes = still_does v [] homes tt
learns_ip_silent v address (Some grant) None host homes = uses_silent v address grant [] host homes tt
learns_ip_silent v address (Some grant) (Some ip) host homes =
    let new : Grant = record grant { ip = Some ip } in
    let told : List Act = act.Tell (Learned address grant.amac (Some ip)) ∷ [] in
    silent_if v (is_ip grant.ip ip) (rests (uses v address grant)) (record { view = uses v address new; acts = told })
    (λ e. uses_silent v address grant [] host homes tt) (λ e. uses_silent v address new told host homes (tt, tt))

grants_next_silent : (v : SwitchView) (port : ℕ) (amac : Mac) (ip : Option Ip4) (vmid : Option ℕ) → (port_of v port).host ≡ true → HasHomes v →
    IsSilent v (grants_next v port amac ip vmid)
grants_next_silent v port amac ip None host homes = still_does v [] homes tt
grants_next_silent v port amac ip (Some vmid) host homes =
    let address : Pmac = address_at_port v port vmid in
    addresses_silent v port (with_next (freed_at v port) (grants_at v port) (new_grant amac ip)) (v.used ++ address ∷ []) v.trapped
    (slice_set v.freed port (all_but_first (freed_at v port))) (act.Grant address amac ∷ act.Tell (Learned address amac ip) ∷ []) host homes (tt, (tt, tt))

grants_or_learns_silent : (v : SwitchView) (port : ℕ) (amac : Mac) (ip : Option Ip4) (vmid : Option ℕ) → (port_of v port).host ≡ true → HasHomes v →
    IsSilent v (grants_or_learns v port amac ip vmid)
grants_or_learns_silent v port amac ip (Some vmid) host homes =
    learns_ip_silent v (address_at_port v port vmid) (grant_number (grants_at v port) vmid) ip host homes
grants_or_learns_silent v port amac ip None host homes = grants_next_silent v port amac ip (next_vmid (freed_at v port) (grants_at v port)) host homes

remembers_silent : (v : SwitchView) (port : ℕ) (amac : Mac) (ip : Option Ip4) → (port_of v port).host ≡ true → HasHomes v → IsSilent v (remembers v port amac ip)
remembers_silent v port amac ip host homes =
    let source : Source = record { amac = amac; ip = or_else ip (remembered_ip (remembered_at v port) amac) } in
    still_step v (record v { remembered = slice_set v.remembered port (Some source) }) []
    (record { id = refl; k = refl; place = refl; ports = refl; attempt = refl; proposed = refl; granted = refl; holds = refl })
    (source_homes v port (Some source) (inl host) homes) tt

pub learns_source_silent : (v : SwitchView) (port : ℕ) (frame : List ℕ) → (port_of v port).host ≡ true → HasHomes v → IsSilent v (learns_source v port frame)
learns_source_silent v port frame host homes =
    silent_if v (is_placed v.place) (grants_or_learns v port (source_of frame) (sender_ip frame) (in_use (grants_at v port) (source_of frame)))
    (remembers v port (source_of frame) (sender_ip frame))
    (λ e. grants_or_learns_silent v port (source_of frame) (sender_ip frame) (in_use (grants_at v port) (source_of frame)) host homes)
    (λ e. remembers_silent v port (source_of frame) (sender_ip frame) host homes)

host_of_source : (v : SwitchView) (port : ℕ) (source : Source) → remembered_at v port ≡ Some source → HasHomes v → (port_of v port).host ≡ true
host_of_source v port source is homes = by (port_of v port).host refl
  where
    by : (b : Bool) → (port_of v port).host ≡ b → b ≡ true
    by true e = refl
    by false e = absurd (let none = homes.remembered port e in cc)

grants_source_silent : (v : SwitchView) (port : ℕ) (source : Option Source) → remembered_at v port ≡ source → HasHomes v → IsSilent v (grants_source v port source)
grants_source_silent v port None is homes = still_does v [] homes tt
grants_source_silent v port (Some source) is homes =
    grants_or_learns_silent v port source.amac source.ip (in_use (grants_at v port) source.amac) (host_of_source v port source is homes) homes

forgets_silent : (port : ℕ) (v : SwitchView) → HasHomes v → IsSilent v (forgets port v)
forgets_silent port v homes =
    still_step v (record v { remembered = slice_set v.remembered port None }) []
    (record { id = refl; k = refl; place = refl; ports = refl; attempt = refl; proposed = refl; granted = refl; holds = refl })
    (source_homes v port None (inr refl) homes) tt

pub grants_remembered_silent : (ports : List ℕ) (v : SwitchView) → HasHomes v → IsSilent v (grants_remembered ports v)
unfolding grants_remembered
grants_remembered_silent [] v homes = still_does v [] homes tt
grants_remembered_silent (port ∷ ports) v homes =
    silent_then v (grants_source v port (remembered_at v port) ▹ forgets port) (grants_remembered ports)
    (silent_then v (grants_source v port (remembered_at v port)) (forgets port) (grants_source_silent v port (remembered_at v port) refl homes)
    (λ w seen at. forgets_silent port w at))
    (λ w seen at. grants_remembered_silent ports w at)

pub settles_in_silent : (old : Place) (v : SwitchView) → HasHomes v → IsSilent v (settles_in old v)
settles_in_silent old v homes =
    silent_if v (has_become_placed old v.place) (grants_remembered (ports_of_switch v.k) v) (rests v)
    (λ e. grants_remembered_silent (ports_of_switch v.k) v homes) (λ e. still_does v [] homes tt)

-- Telling.

pub changes_told_still : (old new : SwitchView) → AllByRecursion IsStill (changes_told old new)
changes_told_still old new = told_acts IsStill old new (record { placed = tt; linked = λ neighbour usable. tt; wanted = λ position. tt })

-- what changed is told, and an edge switch that has become placed grants addresses
pub changes_to_silent : (old new : SwitchView) → HasHomes new → IsSilent new (changes_to old new)
changes_to_silent old new homes =
    silent_then new (does new (changes_told old new)) (settles_in old.place) (still_does new (changes_told old new) homes (changes_told_still old new))
    (λ w seen at. settles_in_silent old.place w at)
