-- What is written grants addresses to hosts that stand there, or have stood there.
use Rattle.std.proofs.Common.{◌≡◌, ◌+◌, ◌==◌, ◌&&◌, ℕ, Bool, true, false, if◌then◌else◌, set, List, [], ◌∷◌, ◌++◌, reverse, fold, Option, Some, None, slice_get, refl, sym, ap, subst, ◌∙◌, arith, append_assoc, append-nil}
use Rattle.std.specs.List.{AllByRecursion, position}
use Rattle.std.proofs.lemmas.Iterator.Adapters.{position_from-zero}
use Rattle.std.proofs.lemmas.Bool.{or_right}
use Rattle.pl_frame.specs.declared.address.Mac.{Mac}
use Rattle.pl_pmac.specs.declared.pmac.Pmac.{Pmac}
use Rattle.pl_wiring.specs.declared.host.Host.{Host}
use Rattle.pl_wiring.specs.Plan.{IsPlan, Plan}
use Rattle.pl_layouts.specs.Equality.{same_mac}
use Rattle.pl_layouts.specs.Placement.{same_place}
use Rattle.pl_layouts.proofs.Exports.{mac_is}
use Rattle.pl_node.specs.declared.acts.Act.{Act}
use Rattle.pl_node.specs.declared.acts.Act.TheVariants as act
use Rattle.pl_node.specs.declared.acts.HostAct.{HostAct}
use Rattle.pl_node.specs.declared.acts.HostAct.TheVariants.{Send}
use Rattle.pl_node.specs.SwitchViews.{SwitchView}
use Rattle.pl_journal.specs.declared.cause.Cause.{Cause}
use Rattle.pl_journal.specs.declared.cause.Cause.TheVariants.{LinkDown}
use Rattle.pl_journal.specs.declared.entry.Entry.{Entry}
use Rattle.pl_journal.specs.declared.entry.Entry.TheVariants.{Copied, Crossed, Dropped, Freed, Granted, Made, Moved, Placed, Redirected, Sent, Taken}
use Rattle.pl_journal.specs.Places.{EdgePort, at_port, has_stood, same_edge_port}
use Rattle.pl_journal.proofs.Exports.{past_more}
use Rattle.pl_world.specs.declared.item.Item.{Item}
use Rattle.pl_world.specs.declared.item.Item.TheVariants.{Control, Data}
use Rattle.pl_world.specs.declared.spoken_frame.SpokenFrame.{SpokenFrame}
use Rattle.pl_world.specs.declared.spoken_frame.SpokenFrame.TheVariants.{Over, Passed, Silent, Waiting}
use Rattle.pl_world.specs.Changes.{ends_of, host_no, host_of, is_failed_at, switch_no}
use Rattle.pl_world.specs.OtherActs.{host_act_done}
use Rattle.pl_world.specs.SwitchActs.{DuringActs, act_done, acts_done, begins, ended, granted, in_world, passed, redirected, switch_stepped}
use Rattle.pl_world.specs.Worlds.{WorldView}
use Rattle.pl_law_addresses.proofs.Exports.{first_passes, one_index}
use Rattle.pl_law_registration.specs.Stood.{AreStoodFor}
use Rattle.pl_law_registration.proofs.Acts.{Rest, rest_of}

-- ---- entries
abbrev pub IsNoGrant : Entry → Type 0
IsNoGrant (Granted x h e p) = ⊥
IsNoGrant entry = Unit {0}

abbrev pub AreNoGrants : List Entry → Type 0
AreNoGrants entries = AllByRecursion IsNoGrant entries

module _ (plan : Plan) where
  stood_on : (past : List Entry) (e : Entry) (h : ℕ) (edge_port : EdgePort) → has_stood plan past h edge_port ≡ true → has_stood plan (e ∷ past) h edge_port ≡ true
  stood_on past (Moved g e p) h edge_port is = or_right ((g.0 == h) && same_edge_port (at_port e.0 p) edge_port) (has_stood plan past h edge_port) is
  stood_on past e h edge_port is = is

  granted_on : (past : List Entry) (e : Entry) → IsNoGrant e → AreStoodFor plan past → AreStoodFor plan (e ∷ past)
  granted_on past (Granted x h e p) none are = absurd none
  granted_on past e none are = are

  -- from one journal to a later one
  pub record Wrote (before after : List Entry) : Type 0 where
    pub good : AreStoodFor plan (reverse before) → AreStoodFor plan (reverse after)
    pub later : (h : ℕ) (edge_port : EdgePort) → has_stood plan (reverse before) h edge_port ≡ true → has_stood plan (reverse after) h edge_port ≡ true

  pub wrote_nothing : (journal : List Entry) → Wrote journal journal
  wrote_nothing journal = record { good = λ are. are; later = λ h edge_port is. is }

  pub wrote_then : (a b c : List Entry) → Wrote a b → Wrote b c → Wrote a c
  wrote_then a b c first next = record { good = λ are. next.good (first.good are); later = λ h edge_port is. next.later h edge_port (first.later h edge_port is) }

  pub wrote_one : (journal : List Entry) (e : Entry) → (AreStoodFor plan (reverse journal) → AreStoodFor plan (e ∷ reverse journal)) → Wrote journal (journal ++ e ∷ [])
  wrote_one journal e fine = record {
    good = λ are. subst (λ (p : List Entry). AreStoodFor plan p) (sym (past_more journal e)) (fine are);
    later = λ h edge_port is. subst (λ (p : List Entry). has_stood plan p h edge_port ≡ true) (sym (past_more journal e)) (stood_on (reverse journal) e h edge_port is);
  }

  pub wrote_quiet : (journal : List Entry) (e : Entry) → IsNoGrant e → Wrote journal (journal ++ e ∷ [])
  wrote_quiet journal e none = wrote_one journal e (granted_on (reverse journal) e none)

  pub wrote_all : (journal entries : List Entry) → AreNoGrants entries → Wrote journal (journal ++ entries)
  wrote_all journal [] none = subst (λ (j : List Entry). Wrote journal j) (sym (append-nil journal)) (wrote_nothing journal)
  wrote_all journal (e ∷ entries) none =
      subst (λ (j : List Entry). Wrote journal j) (append_assoc journal (e ∷ []) entries)
      (wrote_then journal (journal ++ e ∷ []) ((journal ++ e ∷ []) ++ entries) (wrote_quiet journal e none.0) (wrote_all (journal ++ e ∷ []) entries none.1))

  -- ---- a host that stands at a port, or has stood there
  pub record StoodThere (past : List Entry) (mac : Mac) (s port : ℕ) : Type 0 where
    pub number : ℕ
    pub host : Host
    pub is : slice_get plan.hosts number ≡ Some host
    pub mac_is : host.mac ≡ mac
    pub stood : has_stood plan past number (at_port s port) ≡ true

  pub stood_later : (before after : List Entry) → Wrote before after → (mac : Mac) (s port : ℕ) → StoodThere (reverse before) mac s port → StoodThere (reverse after) mac s port
  stood_later before after wrote mac s port it =
      record { number = it.number; host = it.host; is = it.is; mac_is = it.mac_is; stood = wrote.later it.number (at_port s port) it.stood }

  abbrev pub IsGrantThere : List Entry → ℕ → Act → Type 0
  IsGrantThere past s (act.Grant x mac) = StoodThere past mac s x.port
  IsGrantThere past s a = Unit {0}

  grant_later : (before after : List Entry) → Wrote before after → (s : ℕ) (acts : List Act) → AllByRecursion (IsGrantThere (reverse before) s) acts → AllByRecursion (IsGrantThere (reverse after) s) acts
  grant_later before after wrote s [] all = tt
  grant_later before after wrote s (act.Grant x mac ∷ acts) all = (stood_later before after wrote mac s x.port all.0, grant_later before after wrote s acts all.1)
  grant_later before after wrote s (act.Tell told ∷ acts) all = (tt, grant_later before after wrote s acts all.1)
  grant_later before after wrote s (act.Control port frame ∷ acts) all = (tt, grant_later before after wrote s acts all.1)
  grant_later before after wrote s (act.Free x ∷ acts) all = (tt, grant_later before after wrote s acts all.1)
  grant_later before after wrote s (act.Make frame ∷ acts) all = (tt, grant_later before after wrote s acts all.1)
  grant_later before after wrote s (act.Redirect old new ∷ acts) all = (tt, grant_later before after wrote s acts all.1)
  grant_later before after wrote s (act.Pass port frame ∷ acts) all = (tt, grant_later before after wrote s acts all.1)
  grant_later before after wrote s (act.Take ∷ acts) all = (tt, grant_later before after wrote s acts all.1)
  grant_later before after wrote s (act.Drop cause ∷ acts) all = (tt, grant_later before after wrote s acts all.1)

  -- ---- the acts of a switch
  pub record Writes (before after : DuringActs) : Type 0 where
    pub wrote : Wrote before.world.journal after.world.journal
    pub late : AreNoGrants after.late
    pub rest : rest_of after.world ≡ rest_of before.world

  none_if : (b : Bool) (xs ys : List Entry) → AreNoGrants xs → AreNoGrants ys → AreNoGrants (if b then xs else ys)
  none_if true xs ys a b = a
  none_if false xs ys a b = b

  none_behind : (xs : List Entry) (e : Entry) → AreNoGrants xs → IsNoGrant e → AreNoGrants (xs ++ e ∷ [])
  none_behind [] e none is = (is, tt)
  none_behind (x ∷ xs) e none is = (none.0, none_behind xs e none.1 is)

  stays : (d : DuringActs) → AreNoGrants d.late → Writes d d
  stays d none = record { wrote = wrote_nothing d.world.journal; late = none; rest = refl }

  redirects : (d : DuringActs) (old new : Pmac) (speech : SpokenFrame) → AreNoGrants d.late → Writes d (redirected d old new speech)
  redirects d old new Silent none = stays d none
  redirects d old new (Waiting id again) none = record { wrote = wrote_quiet d.world.journal (Redirected id old new) tt; late = none; rest = refl }
  redirects d old new (Passed id) none = stays d none
  redirects d old new Over none = stays d none

  again_wrote : (journal : List Entry) (s id : ℕ) (again : Bool) → Wrote journal (journal ++ (if again then Crossed id (switch_no s) ∷ [] else []))
  again_wrote journal s id again = wrote_all journal (if again then Crossed id (switch_no s) ∷ [] else []) (none_if again (Crossed id (switch_no s) ∷ []) [] (tt, tt) tt)

  ends : (s : ℕ) (d : DuringActs) (end : ℕ → Entry) (speech : SpokenFrame) → ((id : ℕ) → IsNoGrant (end id)) → AreNoGrants d.late → Writes d (ended s d end speech)
  ends s d end Silent quiet none = stays d none
  ends s d end (Waiting id again) quiet none =
      let mid : List Entry = d.world.journal ++ (if again then Crossed id (switch_no s) ∷ [] else []) in
      record { wrote = wrote_then d.world.journal mid (mid ++ end id ∷ []) (again_wrote d.world.journal s id again) (wrote_quiet mid (end id) (quiet id)); late = none; rest = refl }
  ends s d end (Passed id) quiet none = stays d none
  ends s d end Over quiet none = stays d none

  late_of : (b : Bool) (late : List Entry) (id : ℕ) → AreNoGrants late → AreNoGrants (if b then late ++ Dropped id LinkDown ∷ [] else late)
  late_of b late id none = none_if b (late ++ Dropped id LinkDown ∷ []) late (none_behind late (Dropped id LinkDown) none tt) none

  passes : (s : ℕ) (d : DuringActs) (port : ℕ) (frame : List ℕ) (speech : SpokenFrame) → AreNoGrants d.late → Writes d (passed s d port frame speech)
  passes s d port frame Silent none = stays d none
  passes s d port frame (Waiting id again) none = record { wrote = again_wrote d.world.journal s id again; late = late_of (is_failed_at d.world s port) d.late id none; rest = refl }
  passes s d port frame (Passed id) none =
      record { wrote = wrote_quiet d.world.journal (Copied id (d.world.begun + 1)) tt; late = late_of (is_failed_at d.world s port) d.late (d.world.begun + 1) none; rest = refl }
  passes s d port frame Over none = stays d none

  -- an address is granted to the host that has the actual address
  grants : (is_plan : IsPlan plan) (s : ℕ) (d : DuringActs) (x : Pmac) (mac : Mac) (to : Option ℕ) → position (λ (q : Host). same_mac q.mac mac) plan.hosts ≡ to → StoodThere (reverse d.world.journal) mac s x.port →
      AreNoGrants d.late → Writes d (in_world d (granted d.world s x to))
  grants is_plan s d x mac None is it none = record { wrote = wrote_nothing d.world.journal; late = none; rest = refl }
  grants is_plan s d x mac (Some n) is it none =
      let first = first_passes (λ (q : Host). same_mac q.mac mac) plan.hosts 0 n (sym (position_from-zero (λ (q : Host). same_mac q.mac mac) plan.hosts) ∙ is) in
      let at = first.is in let at_is : n ≡ first.at = omega (arith, at) in
      let one : first.at ≡ it.number =
      one_index (λ (q : Host). q.mac) plan.hosts is_plan.macs_apart first.at it.number first.item it.host first.found it.is (mac_is first.item.mac mac first.passes ∙ sym it.mac_is) in
      record {
        wrote = wrote_one d.world.journal (Granted x (host_no n) (switch_no s) x.port)
            (λ are. ((refl, subst (λ m. has_stood plan (reverse d.world.journal) m (at_port s x.port) ≡ true) (sym (at_is ∙ one)) it.stood), are));
        late = none;
        rest = refl;
      }

  one_act : IsPlan plan → (s : ℕ) (d : DuringActs) (a : Act) → d.world.plan ≡ plan → AreNoGrants d.late → IsGrantThere (reverse d.world.journal) s a → Writes d (act_done s d a)
  one_act is_plan s d (act.Control port frame) same none it = record { wrote = wrote_nothing d.world.journal; late = none; rest = refl }
  one_act is_plan s d (act.Tell told) same none it = record { wrote = wrote_nothing d.world.journal; late = none; rest = refl }
  one_act is_plan s d (act.Grant x mac) same none it =
      grants is_plan s d x mac (host_of d.world.plan mac) (ap (λ (p : Plan). host_of p mac) (sym same)) it none
  one_act is_plan s d (act.Free x) same none it = record { wrote = wrote_quiet d.world.journal (Freed x) tt; late = none; rest = refl }
  one_act is_plan s d (act.Make frame) same none it =
      let j1 : List Entry = d.world.journal ++ d.late in
      let j2 : List Entry = j1 ++ Made (d.world.begun + 1) (switch_no s) frame ∷ [] in
      record {
        wrote = wrote_then d.world.journal j1 (j2 ++ Crossed (d.world.begun + 1) (switch_no s) ∷ []) (wrote_all d.world.journal d.late none)
            (wrote_then j1 j2 (j2 ++ Crossed (d.world.begun + 1) (switch_no s) ∷ []) (wrote_quiet j1 (Made (d.world.begun + 1) (switch_no s) frame) tt)
            (wrote_quiet j2 (Crossed (d.world.begun + 1) (switch_no s)) tt));
        late = tt;
        rest = refl;
      }
  one_act is_plan s d (act.Redirect old new) same none it = redirects d old new d.speech none
  one_act is_plan s d (act.Pass port frame) same none it = passes s d port frame d.speech none
  one_act is_plan s d act.Take same none it = ends s d (λ id. Taken id (switch_no s)) d.speech (λ id. tt) none
  one_act is_plan s d (act.Drop cause) same none it = ends s d (λ id. Dropped id cause) d.speech (λ id. tt) none

  all_acts : IsPlan plan → (s : ℕ) (d : DuringActs) (acts : List Act) → d.world.plan ≡ plan → AreNoGrants d.late → AllByRecursion (IsGrantThere (reverse d.world.journal) s) acts → Writes d (acts_done s d acts)
  all_acts is_plan s d [] same none all = stays d none
  all_acts is_plan s d (a ∷ acts) same none all =
      let one = one_act is_plan s d a same none all.0 in
      let next = act_done s d a in
      let rest = all_acts is_plan s next acts (ap (λ (r : Rest). r.plan) one.rest ∙ same) one.late (grant_later d.world.journal next.world.journal one.wrote s acts all.1) in
      record { wrote = wrote_then d.world.journal next.world.journal (acts_done s next acts).world.journal one.wrote rest.wrote; late = rest.late; rest = rest.rest ∙ one.rest }

  -- ---- a whole step of a switch
  pub record StepWrote (w new : WorldView) (switches : List SwitchView) : Type 0 where
    pub wrote : Wrote w.journal new.journal
    pub rest : rest_of new ≡ record (rest_of w) { switches = switches }

  pub step_wrote : IsPlan plan → (w : WorldView) (s : ℕ) (before after : SwitchView) (speech : SpokenFrame) (acts : List Act) → w.plan ≡ plan → AllByRecursion (IsGrantThere (reverse w.journal) s) acts →
      StepWrote w (switch_stepped w s before after speech acts) (set w.switches s after)
  step_wrote is_plan w s before after speech acts same all =
      let d = begins (record w { switches = set w.switches s after }) speech in
      let done = all_acts is_plan s d acts same tt all in
      let last = acts_done s d acts in
      let j1 : List Entry = last.world.journal ++ last.late in
      let placed : List Entry = if same_place before.place after.place then [] else Placed (switch_no s) after.place ∷ [] in
      record {
        wrote = wrote_then w.journal last.world.journal (j1 ++ placed) done.wrote
            (wrote_then last.world.journal j1 (j1 ++ placed) (wrote_all last.world.journal last.late done.late)
            (wrote_all j1 placed (none_if (same_place before.place after.place) [] (Placed (switch_no s) after.place ∷ []) tt (tt, tt))));
        rest = done.rest;
      }

  -- ---- the acts of a host
  pub host_wrote : (g : ℕ) (w : WorldView) (acts : List HostAct) → Wrote w.journal (fold (host_act_done g) w acts).journal
  host_wrote g w [] = wrote_nothing w.journal
  host_wrote g w (Send frame ∷ acts) =
      let next = host_act_done g w (Send frame) in
      wrote_then w.journal next.journal (fold (host_act_done g) next acts).journal (wrote_quiet w.journal (Sent (w.begun + 1) (host_no g) frame) tt) (host_wrote g next acts)

  pub none_of_ends : (c : Cause) (items : List Item) → AreNoGrants (ends_of c items)
  none_of_ends c [] = tt
  none_of_ends c (Control frame ∷ items) = none_of_ends c items
  none_of_ends c (Data id frame ∷ items) = (tt, none_of_ends c items)
