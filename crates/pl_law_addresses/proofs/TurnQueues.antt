-- What the acts of a switch and of a host leave of the rest of a world.
use Rattle.std.proofs.Common.{◌≡◌, ◌≢◌, ◌<◌, ◌+◌, ℕ, Bool, if◌then◌else◌, set, List, [], ◌∷◌, ◌++◌, fold, length, Option, Some, None, refl, sym, ap, subst, ◌∙◌, arith, append_assoc, append-nil, get_or-set_same, get_or-set_other, length-set}
use Rattle.pl_pmac.specs.declared.pmac.Pmac.{Pmac}
use Rattle.pl_node.specs.declared.acts.Act.{Act}
use Rattle.pl_node.specs.declared.acts.Act.TheVariants as act
use Rattle.pl_node.specs.declared.acts.HostAct.{HostAct}
use Rattle.pl_node.specs.declared.acts.HostAct.TheVariants.{Send}
use Rattle.pl_node.specs.HostViews.{HostView}
use Rattle.pl_node.specs.SwitchViews.{SwitchView}
use Rattle.pl_journal.specs.declared.entry.Entry.{Entry}
use Rattle.pl_journal.specs.declared.entry.Entry.TheVariants.{Copied, Crossed, Dropped, Freed, Granted, Made, Placed, Redirected, Sent, Taken}
use Rattle.pl_journal.specs.declared.cause.Cause.TheVariants.{LinkDown}
use Rattle.pl_layouts.specs.Equality.{same_pmac}
use Rattle.pl_layouts.specs.Placement.{same_place}
use Rattle.pl_queues.specs.Queues.{items_at, put_at}
use Rattle.pl_wiring.specs.Plan.{Plan}
use Rattle.pl_world.specs.declared.item.Item.{Item}
use Rattle.pl_world.specs.declared.item.Item.TheVariants.{Data}
use Rattle.pl_world.specs.declared.spoken_frame.SpokenFrame.{SpokenFrame}
use Rattle.pl_world.specs.declared.spoken_frame.SpokenFrame.TheVariants.{Over, Passed, Silent, Waiting}
use Rattle.pl_world.specs.Changes.{all_noted, begun_by, host_no, host_of, is_failed_at, noted, switch_no}
use Rattle.pl_world.specs.OtherActs.{host_act_done}
use Rattle.pl_world.specs.SwitchActs.{DuringActs, act_done, acts_done, begins, crossed_again, ended, granted, passed, redirected, switch_stepped, with_late}
use Rattle.pl_world.specs.Worlds.{WorldView}
use Rattle.pl_law_addresses.specs.GrantedOnce.{times_freed, times_granted}
use Rattle.pl_law_addresses.proofs.Entries.{AreNoAddressEntries, IsNoAddressEntry, freed_append, quiet_append, quiet_freed, quiet_if, quiet_times, times_append}

-- what grants stand on in a world
pub record Parts : Type 0 where
  pub plan : Plan
  pub switches : List SwitchView
  pub hosts : List HostView
  pub from_hosts : List (List Item)
  -- and how often each address was granted, and freed
  pub times : Pmac → ℕ
  pub freed : Pmac → ℕ

abbrev pub parts_of : WorldView → Parts
parts_of w = record {
  plan = w.plan;
  switches = w.switches;
  hosts = w.hosts;
  from_hosts = w.from_hosts;
  times = λ x. times_granted x w.journal;
  freed = λ x. times_freed x w.journal;
}

-- several items are put behind a queue
abbrev pub all_put : {T : Type 0} → ℕ → List (List T) → List T → List (List T)
all_put s queues [] = queues
all_put s queues (x ∷ xs) = all_put s (put_at queues s x) xs

module _ {T : Type 0} (s : ℕ) where
  pub put_there : (queues : List (List T)) (xs : List T) (t : ℕ) → t ≢ s → items_at (all_put s queues xs) t ≡ items_at queues t
  put_there queues [] t other = refl
  put_there queues (x ∷ xs) t other = put_there (put_at queues s x) xs t other ∙ get_or-set_other queues s t (items_at queues s ++ x ∷ []) [] other

  pub put_here : (queues : List (List T)) (xs : List T) → s < length queues → items_at (all_put s queues xs) s ≡ items_at queues s ++ xs
  put_here queues [] within = sym (append-nil (items_at queues s))
  put_here queues (x ∷ xs) within =
      put_here (put_at queues s x) xs (subst (λ n. s < n) (sym (length-set queues s (items_at queues s ++ x ∷ []))) within)
      ∙ ap (λ ys. ys ++ xs) (get_or-set_same queues s (items_at queues s ++ x ∷ []) [] within)
      ∙ append_assoc (items_at queues s) (x ∷ []) xs

-- entries that neither grant nor free an address change nothing here
pub quiet_parts : (w : WorldView) (entries : List Entry) → AreNoAddressEntries entries → parts_of (all_noted w entries) ≡ parts_of w
quiet_parts w entries quiet = λ i. record (parts_of w) { times = λ x. quiet_times w.journal entries quiet x i; freed = λ x. quiet_freed w.journal entries quiet x i }

pub one_quiet : (w : WorldView) (e : Entry) → IsNoAddressEntry e → parts_of (noted w e) ≡ parts_of w
one_quiet w e quiet = quiet_parts w (e ∷ []) (quiet, tt)

-- an address is granted once more
abbrev pub granted_more : (Pmac → ℕ) → Pmac → Option ℕ → Pmac → ℕ
granted_more t pmac None = t
granted_more t pmac (Some h) = λ x. t x + (if same_pmac pmac x then 1 else 0)

abbrev pub times_after : Plan → (Pmac → ℕ) → List Act → Pmac → ℕ
times_after plan t [] = t
times_after plan t (act.Grant pmac amac ∷ acts) = times_after plan (granted_more t pmac (host_of plan amac)) acts
times_after plan t (act ∷ acts) = times_after plan t acts

-- an address is freed once more
abbrev pub freed_more : (Pmac → ℕ) → Pmac → Pmac → ℕ
freed_more t pmac = λ x. t x + (if same_pmac pmac x then 1 else 0)

abbrev pub freed_after : (Pmac → ℕ) → List Act → Pmac → ℕ
freed_after t [] = t
freed_after t (act.Free pmac ∷ acts) = freed_after (freed_more t pmac) acts
freed_after t (act ∷ acts) = freed_after t acts

abbrev with_acts : Parts → List Act → Parts
with_acts p acts = record p { times = times_after p.plan p.times acts; freed = freed_after p.freed acts }

-- ---- the acts of a switch
grant_parts : (w : WorldView) (s : ℕ) (pmac : Pmac) (h : Option ℕ) →
    parts_of (granted w s pmac h) ≡ record (parts_of w) { times = granted_more (λ x. times_granted x w.journal) pmac h }
grant_parts w s pmac None = refl
grant_parts w s pmac (Some h) = λ i. record (parts_of w) { times = λ x. one_more w.journal x i; freed = λ x. none_more w.journal x i }
  where
    none_more : (journal : List Entry) (x : Pmac) → times_freed x (journal ++ Granted pmac (host_no h) (switch_no s) pmac.port ∷ []) ≡ times_freed x journal
    none_more journal x = let sum = freed_append x journal (Granted pmac (host_no h) (switch_no s) pmac.port ∷ []) in omega (arith, sum)

    one_more : (journal : List Entry) (x : Pmac) → times_granted x (journal ++ Granted pmac (host_no h) (switch_no s) pmac.port ∷ [])
        ≡ times_granted x journal + (if same_pmac pmac x then 1 else 0)
    one_more journal x = let sum = times_append x journal (Granted pmac (host_no h) (switch_no s) pmac.port ∷ []) in omega (arith, sum)

free_parts : (w : WorldView) (pmac : Pmac) → parts_of (noted w (Freed pmac)) ≡ record (parts_of w) { freed = freed_more (λ x. times_freed x w.journal) pmac }
free_parts w pmac = λ i. record (parts_of w) { times = λ x. none_more w.journal x i; freed = λ x. one_more w.journal x i }
  where
    none_more : (journal : List Entry) (x : Pmac) → times_granted x (journal ++ Freed pmac ∷ []) ≡ times_granted x journal
    none_more journal x = let sum = times_append x journal (Freed pmac ∷ []) in omega (arith, sum)

    one_more : (journal : List Entry) (x : Pmac) → times_freed x (journal ++ Freed pmac ∷ []) ≡ times_freed x journal + (if same_pmac pmac x then 1 else 0)
    one_more journal x = let sum = freed_append x journal (Freed pmac ∷ []) in omega (arith, sum)

again_parts : (w : WorldView) (s id : ℕ) (again : Bool) → parts_of (crossed_again w s id again) ≡ parts_of w
again_parts w s id again = quiet_parts w (if again then Crossed id (switch_no s) ∷ [] else []) (quiet_if again (Crossed id (switch_no s) ∷ []) [] ((λ x. refl), tt) tt)

redirect_parts : (d : DuringActs) (old new : Pmac) (speech : SpokenFrame) → parts_of (redirected d old new speech).world ≡ parts_of d.world
redirect_parts d old new Silent = refl
redirect_parts d old new (Waiting id again) = one_quiet d.world (Redirected id old new) (λ x. refl)
redirect_parts d old new (Passed id) = refl
redirect_parts d old new Over = refl

pass_parts : (s : ℕ) (d : DuringActs) (port : ℕ) (frame : List ℕ) (speech : SpokenFrame) → parts_of (passed s d port frame speech).world ≡ parts_of d.world
pass_parts s d port frame Silent = refl
pass_parts s d port frame (Waiting id again) = again_parts d.world s id again
pass_parts s d port frame (Passed id) = one_quiet d.world (Copied id (d.world.begun + 1)) (λ x. refl)
pass_parts s d port frame Over = refl

end_parts : (s : ℕ) (d : DuringActs) (end : ℕ → Entry) (speech : SpokenFrame) → ((id : ℕ) → IsNoAddressEntry (end id)) → parts_of (ended s d end speech).world ≡ parts_of d.world
end_parts s d end Silent quiet = refl
end_parts s d end (Waiting id again) quiet = one_quiet (crossed_again d.world s id again) (end id) (quiet id) ∙ again_parts d.world s id again
end_parts s d end (Passed id) quiet = refl
end_parts s d end Over quiet = refl

-- what is written behind the last copy
late_quiet : (b : Bool) (late : List Entry) (id : ℕ) → AreNoAddressEntries late → AreNoAddressEntries (if b then late ++ Dropped id LinkDown ∷ [] else late)
late_quiet b late id quiet = quiet_if b (late ++ Dropped id LinkDown ∷ []) late (quiet_append late (Dropped id LinkDown ∷ []) quiet ((λ x. refl), tt)) quiet

redirect_late : (d : DuringActs) (old new : Pmac) (speech : SpokenFrame) → AreNoAddressEntries d.late → AreNoAddressEntries (redirected d old new speech).late
redirect_late d old new Silent quiet = quiet
redirect_late d old new (Waiting id again) quiet = quiet
redirect_late d old new (Passed id) quiet = quiet
redirect_late d old new Over quiet = quiet

pass_late : (s : ℕ) (d : DuringActs) (port : ℕ) (frame : List ℕ) (speech : SpokenFrame) → AreNoAddressEntries d.late → AreNoAddressEntries (passed s d port frame speech).late
pass_late s d port frame Silent quiet = quiet
pass_late s d port frame (Waiting id again) quiet = late_quiet (is_failed_at d.world s port) d.late id quiet
pass_late s d port frame (Passed id) quiet = late_quiet (is_failed_at d.world s port) d.late (d.world.begun + 1) quiet
pass_late s d port frame Over quiet = quiet

end_late : (s : ℕ) (d : DuringActs) (end : ℕ → Entry) (speech : SpokenFrame) → AreNoAddressEntries d.late → AreNoAddressEntries (ended s d end speech).late
end_late s d end Silent quiet = quiet
end_late s d end (Waiting id again) quiet = quiet
end_late s d end (Passed id) quiet = quiet
end_late s d end Over quiet = quiet

record Done (s : ℕ) (d : DuringActs) (acts : List Act) : Type 0 where
  parts : parts_of (acts_done s d acts).world ≡ with_acts (parts_of d.world) acts
  late : AreNoAddressEntries (acts_done s d acts).late

-- a first act that changes nothing here
done_first : (s : ℕ) (d : DuringActs) (a : Act) (acts : List Act) → parts_of (act_done s d a).world ≡ parts_of d.world →
    ((p : Parts) → with_acts p (a ∷ acts) ≡ with_acts p acts) → Done s (act_done s d a) acts → Done s d (a ∷ acts)
done_first s d a acts same silent rest = record {
  parts = rest.parts ∙ ap (λ (p : Parts). with_acts p acts) same ∙ sym (silent (parts_of d.world));
  late = rest.late;
}

acts_parts : (s : ℕ) (d : DuringActs) (acts : List Act) → AreNoAddressEntries d.late → Done s d acts
acts_parts s d [] quiet = record { parts = refl; late = quiet }
acts_parts s d (act.Tell told ∷ acts) quiet = let rest = acts_parts s (act_done s d (act.Tell told)) acts quiet in record { parts = rest.parts; late = rest.late }
acts_parts s d (act.Control port frame ∷ acts) quiet =
    done_first s d (act.Control port frame) acts refl (λ p. refl) (acts_parts s (act_done s d (act.Control port frame)) acts quiet)
acts_parts s d (act.Grant pmac amac ∷ acts) quiet =
    let rest = acts_parts s (act_done s d (act.Grant pmac amac)) acts quiet in
    record {
      parts = rest.parts ∙ ap (λ (p : Parts). with_acts p acts) (grant_parts d.world s pmac (host_of d.world.plan amac));
      late = rest.late;
    }
acts_parts s d (act.Free pmac ∷ acts) quiet =
    let rest = acts_parts s (act_done s d (act.Free pmac)) acts quiet in
    record { parts = rest.parts ∙ ap (λ (p : Parts). with_acts p acts) (free_parts d.world pmac); late = rest.late }
acts_parts s d (act.Make frame ∷ acts) quiet =
    done_first s d (act.Make frame) acts
    (one_quiet (begun_by (with_late d) (Made (d.world.begun + 1) (switch_no s) frame)) (Crossed (d.world.begun + 1) (switch_no s)) (λ x. refl)
    ∙ one_quiet (with_late d) (Made (d.world.begun + 1) (switch_no s) frame) (λ x. refl) ∙ quiet_parts d.world d.late quiet)
    (λ p. refl) (acts_parts s (act_done s d (act.Make frame)) acts tt)
acts_parts s d (act.Redirect old new ∷ acts) quiet =
    done_first s d (act.Redirect old new) acts (redirect_parts d old new d.speech) (λ p. refl)
    (acts_parts s (act_done s d (act.Redirect old new)) acts (redirect_late d old new d.speech quiet))
acts_parts s d (act.Pass port frame ∷ acts) quiet =
    done_first s d (act.Pass port frame) acts (pass_parts s d port frame d.speech) (λ p. refl)
    (acts_parts s (act_done s d (act.Pass port frame)) acts (pass_late s d port frame d.speech quiet))
acts_parts s d (act.Take ∷ acts) quiet =
    done_first s d act.Take acts (end_parts s d (λ id. Taken id (switch_no s)) d.speech (λ id x. refl)) (λ p. refl)
    (acts_parts s (act_done s d act.Take) acts (end_late s d (λ id. Taken id (switch_no s)) d.speech quiet))
acts_parts s d (act.Drop cause ∷ acts) quiet =
    done_first s d (act.Drop cause) acts (end_parts s d (λ id. Dropped id cause) d.speech (λ id x. refl)) (λ p. refl)
    (acts_parts s (act_done s d (act.Drop cause)) acts (end_late s d (λ id. Dropped id cause) d.speech quiet))

-- a step of a switch changes its view, and grants and frees what its acts do
pub stepped_parts : (w : WorldView) (s : ℕ) (before after : SwitchView) (speech : SpokenFrame) (acts : List Act) →
    parts_of (switch_stepped w s before after speech acts)
    ≡ record (parts_of w) {
      switches = set w.switches s after;
      times = times_after w.plan (λ x. times_granted x w.journal) acts;
      freed = freed_after (λ x. times_freed x w.journal) acts;
    }
stepped_parts w s before after speech acts =
    let d = begins (record w { switches = set w.switches s after }) speech in
    let done = acts_parts s d acts tt in
    let placed = if same_place before.place after.place then [] else Placed (switch_no s) after.place ∷ [] in
    quiet_parts (with_late (acts_done s d acts)) placed (quiet_if (same_place before.place after.place) [] (Placed (switch_no s) after.place ∷ []) tt ((λ x. refl), tt))
    ∙ quiet_parts (acts_done s d acts).world (acts_done s d acts).late done.late ∙ done.parts

-- ---- the acts of a host
-- its frames wait in its queue, under the next numbers
abbrev pub items_sent : ℕ → List HostAct → List Item
items_sent begun [] = []
items_sent begun (Send frame ∷ acts) = Data (begun + 1) frame ∷ items_sent (begun + 1) acts

pub host_parts : (h : ℕ) (w : WorldView) (acts : List HostAct) →
    parts_of (fold (host_act_done h) w acts) ≡ record (parts_of w) { from_hosts = all_put h w.from_hosts (items_sent w.begun acts) }
host_parts h w [] = refl
host_parts h w (Send frame ∷ acts) =
    host_parts h (host_act_done h w (Send frame)) acts
    ∙ (λ i. record (parts_of w) {
      from_hosts = all_put h w.from_hosts (items_sent w.begun (Send frame ∷ acts));
      times = λ x. quiet_times w.journal (Sent (w.begun + 1) (host_no h) frame ∷ []) ((λ x. refl), tt) x i;
      freed = λ x. quiet_freed w.journal (Sent (w.begun + 1) (host_no h) frame ∷ []) ((λ x. refl), tt) x i;
    })
