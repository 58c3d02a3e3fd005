-- The turns of switches and of the manager keep the ledger.
use Rattle.std.proofs.Common.{◌≡◌, ◌⊎◌, ◌≤◌, ◌<◌, ◌+◌, ◌-◌, ◌||◌, ℕ, true, false, set, List, [], ◌∷◌, length, Option, Some, None, slice_get, refl, sym, ap, subst, ◌∙◌, inl, inr, arith, length-set, le_refl}
use Rattle.std.specs.List.{AllByRecursion, list_any, position_from}
use Rattle.std.proofs.lemmas.Bool.{and_parts, false≢true}
use Rattle.std.proofs.lemmas.Iterator.Adapters.{position_from-zero}
use Rattle.std.proofs.lemmas.Option.{get_or_from_slice_get, none-some, slice_get_within}
use Rattle.pl_lemmas.proofs.Exports.{all_weaker}
use Rattle.pl_frame.specs.declared.address.Ip4.{Ip4}
use Rattle.pl_frame.specs.declared.address.Mac.{Mac}
use Rattle.pl_pmac.specs.declared.pmac.Pmac.{Pmac}
use Rattle.pl_pmac.specs.Pmac.{PmacFits, pmac_number}
use Rattle.pl_pmac.proofs.Exports.{same_pmac_number}
use Rattle.pl_frame.specs.Ethernet.{source_of}
use Rattle.pl_layouts.specs.Equality.{same_mac, same_pmac}
use Rattle.pl_layouts.specs.Frames.{packet_in}
use Rattle.pl_layouts.proofs.Exports.{mac_is, mac_itself}
use Rattle.pl_node.specs.declared.acts.Act.{Act}
use Rattle.pl_node.specs.declared.acts.Act.TheVariants as act
use Rattle.pl_node.specs.declared.address_use.AddressUse.TheVariants.{Free}
use Rattle.pl_node.specs.declared.switch_records.Grant.{Grant}
use Rattle.pl_node.specs.ManagerDuties.{AreNumbered}
use Rattle.pl_node.proofs.Exports.{Contains-of_among, IsAmong}
use Rattle.pl_node.specs.declared.messages.ToManager.{ToManager}
use Rattle.pl_node.specs.declared.messages.ToManager.TheVariants as tell
use Rattle.pl_node.specs.Accounting.{IsShaped}
use Rattle.pl_node.specs.HostDuties.{is_of, is_own}
use Rattle.pl_node.specs.ManagerViews.{Registration, numbers_before, registration}
use Rattle.pl_node.specs.SwitchInputs.{SwitchInput}
use Rattle.pl_node.specs.SwitchViews.{SwitchView}
use Rattle.pl_journal.specs.declared.entry.Entry.{Entry}
use Rattle.pl_journal.specs.declared.entry.Entry.TheVariants.{Restarted}
use Rattle.pl_journal.specs.Places.{at_port, highest, number}
use Rattle.pl_manager_rule.specs.WholeRule.{whole_rule}
use Rattle.pl_manager_rule.proofs.Exports.{whole_answers}
use Rattle.pl_queues.specs.Queues.{items_at}
use Rattle.pl_steps.specs.Steps.{SwitchStep, does}
use Rattle.pl_switch_rule.specs.Granting.{granted, grants_at, with_grants}
use Rattle.pl_switch_rule.specs.Messages.{becomes_free}
use Rattle.pl_switch_rule.proofs.Exports.{granted_parts}
use Rattle.pl_switch_rule.specs.SwitchRule.{Loose, switch_step}
use Rattle.pl_wiring.specs.declared.host.Host.{Host}
use Rattle.pl_wiring.specs.Plan.{IsPlan, Plan}
use Rattle.pl_world.specs.declared.spoken_frame.SpokenFrame.{SpokenFrame}
use Rattle.pl_world.specs.Booting.{me_of}
use Rattle.pl_world.specs.Changes.{host_of}
use Rattle.pl_world.specs.Restarting.{in_epoch, manager_restarted}
use Rattle.pl_world.specs.WorldRule.{ManagerTurn, SwitchTurn}
use Rattle.pl_world.specs.Worlds.{WorldView}
use Rattle.pl_law_control_plane.specs.ControlPlanes.{ControlPlane, control_plane, no_switch}
use Rattle.pl_law_due.specs.Due.{due_plane}
use Rattle.pl_law_due.specs.Gathering.{GathersWell}
use Rattle.pl_law_addresses.specs.EdgeAddresses.{IsHeld, IsHeldFor, tells}
use Rattle.pl_law_addresses.specs.OwnAddresses.{own_ip}
use Rattle.pl_law_addresses.specs.Addressed.{AreApart, IsGrantedBySome}
use Rattle.pl_law_addresses.proofs.Exports.{exists_at, first_passes, granted_within, is_or_other, none_passes, now_at, number_set_other, number_set_same, number_within, one_index, others_at}
use Rattle.pl_law_epochs.specs.Edges.{IsGoodWord}
use Rattle.pl_law_epochs.specs.InOrder.{IsAddressed}
use Rattle.pl_law_ledger.specs.Ledgers.{AreEntered, AreInBounds, HasStoodThere}
use Rattle.pl_law_ledger.proofs.Giving.{givings}
use Rattle.pl_law_ledger.proofs.Numbering.{IsGivenLast, IsHostsOwn, all_above, all_numbered, number_then, numbered_entered, numberings, of_given, of_numberings, said_parts}
use Rattle.pl_law_ledger.proofs.StepsKeepLedger.{fits_there, freed_entered, number_stays, step_entered}
use Rattle.pl_law_ledger.proofs.StepTakes.{ComesWell, FreesOne, step_takes}
use Rattle.pl_law_ledger.proofs.Takes.{AreFew, AreOf, Enters, IsListed, IsThereStill, few_with_one, is_as_there}
use Rattle.pl_law_ledger.proofs.TellsNumbers.{IsDue, IsNumberOf, numbers_due}
use Rattle.pl_law_ledger.proofs.GrantsWritten.{Parts, all_entered, none_freed, one_quiet, parts_of, stepped_parts, written}

abbrev pub IsIn : Parts → Type 0
IsIn p = AreEntered p.plan p.learnt p.switches p.attachments p.entries

-- what is known of switches
pub record AreFormed (switches : List SwitchView) : Type 0 where
  pub shaped : AllByRecursion IsShaped switches
  pub bounds : AreInBounds switches
  pub apart : AreApart switches

-- a host has stood at this port of the switch
abbrev pub StoodAt : WorldView → ℕ → ℕ → Mac → Type 0
StoodAt w s port mac = HasStoodThere w.plan (written w.journal) mac (at_port s port)

-- what is needed of the addresses of switches: they are listed, and what is registered is somebody's
pub record IsReady (p : Parts) : Type 0 where
  pub listed : (s : ℕ) (v : SwitchView) → slice_get p.switches s ≡ Some v → IsListed v
  pub registered : (x : Pmac) (reg : Registration) → registration p.learnt x ≡ Some reg → IsGrantedBySome p.switches x reg.amac

-- an address is numbered again: it is told by a word that is due, is not registered, and its number is above all before
pub record IsNumberedAnew (f : ControlPlane) (entries : List Entry) (x : Pmac) (n : ℕ) : Type 0 where
  pub due : IsDue f x
  pub fresh : registration f.manager.learnt x ≡ None
  pub above : highest entries < n

-- Behind a step the ledger is kept, and an address that was somebody's has its number still, or is numbered anew.
pub record KeepsLedger (f : ControlPlane) (p q : Parts) : Type 0 where
  pub ledger : IsIn q
  pub numbers : (x : Pmac) (mac : Mac) → PmacFits x → IsGrantedBySome p.switches x mac →
      (number q.entries (pmac_number x) ≡ number p.entries (pmac_number x)) ⊎
      ((n : ℕ) × ((number q.entries (pmac_number x) ≡ Some n) × IsNumberedAnew f p.entries x n))

-- where nothing is written of numbers
pub same_numbers : (f : ControlPlane) (p q : Parts) → IsIn q → ((n : ℕ) → number q.entries n ≡ number p.entries n) → KeepsLedger f p q
same_numbers f p q l same = record { ledger = l; numbers = λ x mac fits held. inl (same (pmac_number x)) }

-- ---- a switch
-- what its step grants and frees, and what it remembers
pub record IsTurn (w : WorldView) (s : ℕ) (v : SwitchView) (step : SwitchStep) : Type 0 where
  pub listed : IsListed v
  pub sources : AreOf (StoodAt w s) v
  pub enters : Enters (StoodAt w s) v step ⊎ FreesOne v step

module _ (w : WorldView) (s : ℕ) (input : SwitchInput) (speech : SpokenFrame) (new : WorldView) (ready : IsReady (parts_of w)) (l : IsIn (parts_of w))
    (formed : AreFormed new.switches)
    (well : (v : SwitchView) → slice_get w.switches s ≡ Some v → ComesWell (StoodAt w s) v input) (turn : SwitchTurn Loose w s input speech new) where
  abbrev step : SwitchStep
  step = switch_step turn.ruled.choose turn.before input

  pub turn_parts : parts_of new ≡ record (parts_of w) { switches = set w.switches s step.view; entries = all_entered w.plan s (written w.journal) step.acts }
  turn_parts =
      ap parts_of turn.changed ∙ stepped_parts w s turn.before turn.after speech turn.acts
      ∙ ap (λ (v : SwitchView). let p : Parts = record (parts_of w) {
        switches = set w.switches s v;
        entries = all_entered w.plan s
            (written w.journal) turn.acts;
      } in p) turn.ruled.steps.view
      ∙ ap (λ (acts : List Act). let p : Parts = record (parts_of w) {
        switches = set w.switches s step.view;
        entries = all_entered w.plan s
            (written w.journal) acts;
      } in p) turn.ruled.steps.done

  pub turn_is : IsTurn w s turn.before step
  turn_is =
      let sources : AreOf (StoodAt w s) turn.before = λ port source is. l.sources s turn.before port source turn.found is in
      record {
        listed = ready.listed s turn.before turn.found;
        sources = sources;
        enters = step_takes (StoodAt w s) turn.ruled.choose turn.before (ready.listed s turn.before turn.found) sources input (well turn.before turn.found);
      }

  shaped_then : AllByRecursion IsShaped (set w.switches s step.view)
  shaped_then = subst (λ (p : Parts). AllByRecursion IsShaped p.switches) turn_parts formed.shaped

  bounds_then : AreInBounds (set w.switches s step.view)
  bounds_then = subst (λ (p : Parts). AreInBounds p.switches) turn_parts formed.bounds

  apart_then : AreApart (set w.switches s step.view)
  apart_then = subst (λ (p : Parts). AreApart p.switches) turn_parts formed.apart

  -- addresses are granted
  granting : Enters (StoodAt w s) turn.before step →
      AreEntered w.plan w.manager.learnt (set w.switches s step.view) w.attachments (all_entered w.plan s (written w.journal) step.acts)
  granting e =
      let t = turn_is in
      let gs = givings step.acts in
      subst (λ (es : List Entry). AreEntered w.plan w.manager.learnt (set w.switches s step.view) w.attachments es)
      (sym (none_freed w.plan s (written w.journal) step.acts e.frees_none))
      (step_entered w.plan w.manager.learnt w.switches w.attachments (written w.journal) l s turn.before step.view turn.found shaped_then bounds_then apart_then
      (e.there t.listed) (e.few t.listed (λ port. l.few s turn.before port turn.found)) gs
      (e.newly t.listed) (e.given t.listed t.sources) (e.covers t.listed) (e.last t.listed) (e.sources t.sources) ready.registered)

  -- one is freed
  freeing : FreesOne turn.before step →
      AreEntered w.plan w.manager.learnt (set w.switches s step.view) w.attachments (all_entered w.plan s (written w.journal) step.acts)
  freeing f =
      let t = turn_is in
      let v : SwitchView = turn.before in
      let x : Pmac = f.pmac in
      let parts = granted_parts v x f.grant f.was in
      let freed : Grant = record f.grant { held = Free } in
      let list : List Grant = set (grants_at v x.port) (x.vmid - 1) freed in
      let within : x.port < v.k = granted_within v x f.grant f.was t.listed.many in
      let many : x.port < length v.grants = subst (λ n. x.port < n) (sym t.listed.many) within in
      let some = (number_within (grants_at v x.port) x.vmid f.grant parts.1).0 in
      let now : granted (with_grants v x.port list) x ≡ Some freed =
      now_at v x list many parts.0 ∙ number_set_same (grants_at v x.port) x.vmid f.grant freed parts.1 in
      let others : (y : Pmac) → same_pmac y x ≡ false → granted (with_grants v x.port list) y ≡ granted v y =
      others_at v x list many parts.0 (λ n other. number_set_other (grants_at v x.port) x.vmid n freed some other) in
      let free : SwitchStep = does (becomes_free v x f.grant) (act.Free x ∷ []) in
      let few : AreFew free.view = few_with_one v x.port list many
      (subst (λ n. n ≤ 65535) (sym (length-set (grants_at v x.port) (x.vmid - 1) freed)) (l.few s v x.port turn.found)) (λ port. l.few s v port turn.found) in
      let there : IsThereStill v free.view = λ y g is. elim (is_or_other y x) [
        | inl same ↦ (freed, ap (λ z. granted (with_grants v x.port list) z) same ∙ now)
        | inr other ↦ (g, others y other ∙ is)
      ] in
      subst (λ (q : SwitchStep). AreEntered w.plan w.manager.learnt (set w.switches s q.view) w.attachments (all_entered w.plan s (written w.journal) q.acts))
      (sym f.is)
      (freed_entered w.plan w.manager.learnt w.switches w.attachments (written w.journal) l s v free.view turn.found
      (subst (λ (q : SwitchStep). AllByRecursion IsShaped (set w.switches s q.view)) f.is shaped_then)
      (subst (λ (q : SwitchStep). AreInBounds (set w.switches s q.view)) f.is bounds_then)
      (subst (λ (q : SwitchStep). AreApart (set w.switches s q.view)) f.is apart_then)
      there few x freed now refl f.grant f.was refl others refl)

  pub switch_ledger : IsIn (parts_of new)
  switch_ledger = subst IsIn (sym turn_parts) (elim turn_is.enters [ inl e ↦ granting e | inr f ↦ freeing f ])

  -- and an address that was somebody's has its number still
  pub number_kept : (x : Pmac) (mac : Mac) → IsGrantedBySome w.switches x mac →
      number (written new.journal) (pmac_number x) ≡ number (written w.journal) (pmac_number x)
  number_kept x mac held = ap (λ (p : Parts). number p.entries (pmac_number x)) turn_parts ∙ elim turn_is.enters [
    | inl e ↦
        let t = turn_is in
        ap (λ es. number es (pmac_number x)) (none_freed w.plan s (written w.journal) step.acts e.frees_none)
        ∙ number_stays w.plan w.manager.learnt w.switches w.attachments
        (written w.journal) l s turn.before step.view turn.found shaped_then bounds_then apart_then
        (e.there t.listed) (e.few t.listed (λ port. l.few s turn.before port turn.found)) (givings step.acts)
        (e.newly t.listed) (e.given t.listed t.sources) (e.covers t.listed) (e.last t.listed) (e.sources t.sources) ready.registered x mac held
    | inr f ↦ ap (λ (q : SwitchStep). number (all_entered w.plan s (written w.journal) q.acts) (pmac_number x)) f.is
  ]

  pub switch_keeps : (f : ControlPlane) → KeepsLedger f (parts_of w) (parts_of new)
  switch_keeps f = record { ledger = switch_ledger; numbers = λ x mac fits held. inl (number_kept x mac held) }

-- ---- the manager
-- an address that words tell which are good is somebody's
pub word_held : (own : Mac → Option Ip4) (f : Pmac → Option Grant) (x : Pmac) (words : List ToManager) → AllByRecursion (IsGoodWord own f) words →
    list_any (tells x) words ≡ true → IsHeld f x
word_held own f x [] all any = absurd (false≢true any)
word_held own f x (tell.Learned y amac ip ∷ words) all any = elim (is_or_other y x) [
  | inl same ↦ (amac, subst (λ z. IsHeldFor f z amac) same all.0.0)
  | inr other ↦ word_held own f x words all.1 (sym (ap (λ b. b || list_any (tells x) words) other) ∙ any)
]
word_held own f x (says ∷ words) all any = word_held own f x words all.1 any

-- each address that a word which is due tells is a host's
module _ (w : WorldView) (formed : AreFormed w.switches) (many : length w.switches ≡ length w.plan.ids) (addressed : IsAddressed w)
    (l : IsIn (parts_of w)) where
  pub due_is_hosts : (x : Pmac) → IsDue (control_plane w) x → IsHostsOwn (written w.journal) x
  due_is_hosts x due =
      let v = exists_at w.switches due.switch (subst (λ n. due.switch < n) (sym many) (slice_get_within w.plan.ids due.switch due.id due.named)) in
      let held = word_held (λ mac. own_ip w.plan mac) (λ z. granted ((control_plane w).view due.switch) z) x ((due_plane (control_plane w)).reports due.switch)
      (addressed.addressed.edges due.switch due.id due.named).words due.told in
      let found : granted v.0 x ≡ Some held.1.grant = ap (λ (u : SwitchView). granted u x)
      (sym (get_or_from_slice_get w.switches due.switch v.0 no_switch v.1)) ∙ held.1.found in
      let e = l.grants due.switch v.0 x held.1.grant v.1 found in
      record {
        fits = fits_there w.switches formed.shaped formed.bounds l.few due.switch v.0 x held.1.grant v.1 found;
        host = e.host;
        held = e.held;
        live = e.live ∙ is_as_there held.1.grant.held ∙ held.1.held;
      }

module _ (w : WorldView) (s : ℕ) (told : ToManager) (items : List ToManager) (new : WorldView) (well : GathersWell (control_plane w))
    (addressed : IsAddressed w) (formed : AreFormed w.switches)
    (many : length w.switches ≡ length w.plan.ids) (l : IsIn (parts_of w)) (head : items_at w.to_manager s ≡ told ∷ items)
    (turn : ManagerTurn whole_rule (record w { to_manager = set w.to_manager s items }) s told new) where
  abbrev f : ControlPlane
  f = control_plane w

  given_due : AllByRecursion (λ (g : Pmac × ℕ). IsDue f g.0) (numberings turn.acts)
  given_due =
      of_numberings (λ x. IsDue f x) turn.acts
      (subst (λ acts. AllByRecursion (IsNumberOf (λ x. IsDue f x)) acts) (sym turn.ruled.1) (numbers_due f well s turn.id turn.found told items head))

  given_own : AllByRecursion (λ (g : Pmac × ℕ). IsHostsOwn (written w.journal) g.0) (numberings turn.acts)
  given_own =
      all_weaker (λ (g : Pmac × ℕ). IsDue f g.0) (λ (g : Pmac × ℕ). IsHostsOwn (written w.journal) g.0)
      (λ g due. due_is_hosts w formed many addressed l g.0 due)
      (numberings turn.acts) given_due

  numbered : AreNumbered w.manager turn.after (numberings turn.acts)
  numbered = whole_answers.numbered w.manager turn.id told turn.after turn.acts turn.ruled

  manager_parts : parts_of new ≡ record (parts_of w) { learnt = turn.after.learnt; entries = all_numbered (written w.journal) (numberings turn.acts) }
  manager_parts = ap parts_of turn.changed ∙ said_parts (record w { to_manager = set w.to_manager s items; manager = turn.after }) turn.acts

  numbers_anew : (x : Pmac) → PmacFits x → IsGivenLast (written w.journal) (numberings turn.acts) (pmac_number x) →
      (n : ℕ) × ((number (all_numbered (written w.journal) (numberings turn.acts)) (pmac_number x) ≡ Some n) × IsNumberedAnew f (written w.journal) x n)
  numbers_anew x fits g =
      let own = of_given (λ (h : Pmac × ℕ). IsHostsOwn (written w.journal) h.0) (numberings turn.acts) g.one given_own g.among in
      let same : g.one.0 ≡ x = same_pmac_number g.one.0 x own.fits fits g.same in
      let above = of_given (λ (h : Pmac × ℕ). w.manager.learnt.count < h.1) (numberings turn.acts) g.one
      (all_above (numberings turn.acts) w.manager.learnt.count w.manager.learnt.count (le_refl w.manager.learnt.count) numbered.numbers) g.among in
      let most = l.most in (
        g.one.1,
        (
          g.has,
          record {
            due = subst (λ y. IsDue f y) same (of_given (λ (h : Pmac × ℕ). IsDue f h.0) (numberings turn.acts) g.one given_due g.among);
            fresh = numbered.fresh x g.one.1 (Contains-of_among (x, g.one.1) (numberings turn.acts)
                (subst (λ (y : Pmac). IsAmong (y, g.one.1) (numberings turn.acts)) same g.among));
            above = omega (arith, above, most);
          },
        ),
      )

  pub manager_keeps : KeepsLedger f (parts_of w) (parts_of new)
  manager_keeps = subst (λ (q : Parts). KeepsLedger f (parts_of w) q) (sym manager_parts) (record {
    ledger = numbered_entered w.plan w.manager turn.after w.switches w.attachments (written w.journal) l (numberings turn.acts) numbered given_own;
    numbers = λ x mac fits held. elim (number_then (written w.journal) (numberings turn.acts) (pmac_number x)) [
      | inr still ↦ inl still.has
      | inl g ↦ inr (numbers_anew x fits g)
    ];
  })

-- ---- a manager that begins anew
-- it has registered nothing, and its numbers are above all before
pub restart_keeps : (w : WorldView) → w.manager.learnt.count ≤ numbers_before (w.manager.epoch + 1) → IsIn (parts_of w) → (f : ControlPlane) →
    KeepsLedger f (parts_of w) (parts_of (manager_restarted w))
restart_keeps w room l f =
    let n = w.manager.epoch + 1 in
    subst (λ (q : Parts). KeepsLedger f (parts_of w) q) (sym (one_quiet (in_epoch w n) (Restarted n) (λ past. refl)))
    (same_numbers f (parts_of w) (parts_of (in_epoch w n)) (record {
      grants = l.grants;
      last = l.last;
      backed = l.backed;
      few = l.few;
      sources = l.sources;
      standing = l.standing;
      numbers = λ x reg fits is. absurd (none-some reg is);
      numbered = l.numbered;
      most = (let most = l.most in omega (arith, most, room));
    }) (λ m. refl))

-- ---- the host of an actual address
pub host_is : (plan : Plan) → IsPlan plan → (h : ℕ) (host : Host) → slice_get plan.hosts h ≡ Some host → host_of plan host.mac ≡ Some h
host_is plan is h host at = position_from-zero (λ (q : Host). same_mac q.mac host.mac) plan.hosts ∙ by
    (position_from (λ (q : Host). same_mac q.mac host.mac) 0 plan.hosts) refl
  where
    by : (o : Option ℕ) → position_from (λ (q : Host). same_mac q.mac host.mac) 0 plan.hosts ≡ o → o ≡ Some h
    by None none = absurd (false≢true (sym (none_passes (λ (q : Host). same_mac q.mac host.mac) plan.hosts 0 none h host at) ∙ mac_itself host.mac))
    by (Some n) some =
        let f = first_passes (λ (q : Host). same_mac q.mac host.mac) plan.hosts 0 n some in
        let it = f.is in
        let first : n ≡ f.at = omega (arith, it) in
        ap Some (first ∙ one_index (λ (q : Host). q.mac) plan.hosts is.macs_apart f.at h f.item host f.found at (mac_is f.item.mac host.mac f.passes))

pub source_is : (host : Host) (frame : List ℕ) → is_own (me_of host) frame ≡ true → source_of frame ≡ host.mac
source_is host frame own = mac_is (source_of frame) host.mac (and_parts (same_mac (source_of frame) host.mac) (is_of (me_of host) (packet_in frame)) own).0
